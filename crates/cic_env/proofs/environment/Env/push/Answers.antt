use Rattle.std.proofs.Common.{◌≡◌, subst, List, [], ◌∷◌, ◌++◌, length, rules}
use Rattle.cic_names.specs.declared.name.GlobalId.{GlobalId}
use Rattle.cic_rules.specs.Environment.{declared_ids}
use Rattle.cic_env.specs.Declarations.{declaration}
use Rattle.cic_env.specs.Items.{environment}
use Rattle.cic_env.specs.NewIds.{AreNew, HasTaken}
use Rattle.cic_env.specs.declared.item.Item.TheVariants.{Declared}
use Rattle.cic_env.proofs.Newness.{taken-says}
use Rattle.cic_env.proofs.Cuts.{placed-more}
use Rattle.cic_env.proofs.DistinctIds.{placed-keys, distinct-more_items}
use Rattle.cic_env.proofs.environment.Env.push.Goals as goal

pub invariant_of-self-in-Ok : goal.invariant_of-self-in-Ok
invariant_of-self-in-Ok c =
    let place : c.len.result ≡ length c.args.self.now.kept.items = search rules in
    let more : c.append.new.kept.items ≡ c.args.self.now.kept.items ++ Declared c.args.decl ∷ [] = search rules in
    record {
      placed = placed-more c.args.self.now.kept.items c.append.new.kept.items (Declared c.args.decl) c.len.result c.args.self.now.places.entries c.declare.new.places.entries
          c.args.self.now.placed place c.in-Ok.ensures.added more;
      distinct = distinct-more_items c.args.self.now.kept.items c.append.new.kept.items (Declared c.args.decl) more c.args.self.now.distinct
          (subst (λ (ids : List GlobalId). AreNew ids (declared_ids (declaration c.args.decl)))
          (placed-keys c.args.self.now.places.entries (environment c.args.self.now.kept.items) c.args.self.now.placed) c.in-Ok.ensures.taken);
    }

pub returns-in-Ok-clause-duplicate : goal.returns-in-Ok-clause-duplicate
returns-in-Ok-clause-duplicate c =
    let keys = placed-keys c.args.self.now.places.entries (environment c.args.self.now.kept.items) c.args.self.now.placed in
    subst (λ (ids : List GlobalId). AreNew ids (declared_ids (declaration c.args.decl))) keys c.in-Ok.ensures.taken

pub returns-in-Err-Taken-clause-duplicate : goal.returns-in-Err-Taken-clause-duplicate
returns-in-Err-Taken-clause-duplicate c =
    let keys = placed-keys c.args.self.now.places.entries (environment c.args.self.now.kept.items) c.args.self.now.placed in
    subst (λ (ids : List GlobalId). HasTaken ids (declared_ids (declaration c.args.decl))) keys
    (taken-says c.in-Err-Taken.field-0 c.in-Err-Taken.field-0-is c.in-Err-Taken.ensures.taken)
