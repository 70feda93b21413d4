use Rattle.std.proofs.Common.{◌≡◌, sym, subst, List, [], ◌∷◌, ◌++◌, length, rules}
use Rattle.std.specs.Map.{keys_of}
use Rattle.cic_names.specs.declared.name.GlobalId.{GlobalId}
use Rattle.cic_rules.specs.Environment.{Block, environment_ids, bare_ids}
use Rattle.cic_env.specs.Declarations.{block}
use Rattle.cic_env.specs.Items.{environment}
use Rattle.cic_env.specs.NewIds.{AreNew}
use Rattle.cic_env.specs.declared.item.Item.TheVariants.{Bare}
use Rattle.cic_env.proofs.Cuts.{placed-more}
use Rattle.cic_env.proofs.DistinctIds.{placed-keys, distinct-more_items}
use Rattle.cic_env.proofs.environment.Env.push_bare.Goals as goal

pub declare_bare-requires : goal.declare_bare-requires
declare_bare-requires c =
    let keys = placed-keys c.args.self.now.places.entries (environment c.args.self.now.kept.items) c.args.self.now.placed in
    subst (λ (b : Block). AreNew (keys_of c.args.self.now.places.entries) (bare_ids b.types)) (sym c.in_ok-bare.ensures)
    (subst (λ (ids : List GlobalId). AreNew ids (bare_ids (block c.args.b.now).types)) (sym keys) c.requires)

pub invariant_of-self-2 : goal.invariant_of-self-2
invariant_of-self-2 c =
    let place : c.len.result ≡ length c.args.self.now.kept.items = search rules in
    let more : c.append.new.kept.items ≡ c.args.self.now.kept.items ++ Bare c.in_ok-bare.bare ∷ [] = search rules in
    record {
      placed = placed-more c.args.self.now.kept.items c.append.new.kept.items (Bare c.in_ok-bare.bare) c.len.result c.args.self.now.places.entries c.declare_bare.new.places.entries
          c.args.self.now.placed place c.in_ok-declare_bare.ensures.added more;
      distinct = distinct-more_items c.args.self.now.kept.items c.append.new.kept.items (Bare c.in_ok-bare.bare) more c.args.self.now.distinct
          (subst (λ (b : Block). AreNew (environment_ids (environment c.args.self.now.kept.items)) (bare_ids b.types)) (sym c.in_ok-bare.ensures) c.requires);
    }
