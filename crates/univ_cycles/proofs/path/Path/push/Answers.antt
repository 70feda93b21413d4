-- The table has the old places and the new one.
use Rattle.std.proofs.Common.{◌≡◌, ◌∙◌, ap, subst, length, rules, ℕ, if◌then◌else◌}
use Rattle.std.specs.Prelude.{is_ok, Some}
use Rattle.std.specs.HashMap.{get}
use Rattle.cic_names.specs.declared.level.Level.{Level}
use Rattle.cic_names.proofs.Clones.{level_clone_is}
use Rattle.cic_rules.specs.Numbering.{LeftOfNone}
use Rattle.univ_cycles.specs.Numbers.{constraints}
use Rattle.univ_cycles.proofs.PathTable.{placed_pushed, level_eq}
use Rattle.univ_cycles.proofs.path.Path.push.Goals as goal

pub invariant_of-self-inside : goal.invariant_of-self-inside
invariant_of-self-inside c =
    let steps = c.self.inside.steps.items in
    let step = c.args.step in
    let table = c.self.inside.table in
    let key : c.in_ok-key.key ≡ step.constraint.left = level_clone_is step.constraint.left c.in_ok-key.key c.in_ok-key.ensures.cases in
    let view : c.args.self.now ≡ steps = (let v = c.self.view_is in cc) in
    let fresh = subst (λ z. LeftOfNone step.constraint.left (constraints z)) view c.requires in
    let place : c.len-place.result ≡ length steps = search rules in (
      λ p t is. placed_pushed (is_ok c.push.result) steps c.push.new.self.items step t p (get level_eq table t.constraint.left) (get level_eq c.insert.new.self t.constraint.left) fresh c.push.ensures.items
          (c.self.inside.placed p t)
          (c.in-Ok.ensures.updates.0 t.constraint.left ∙ ap (λ (k : Level). if level_eq k t.constraint.left then Some c.len-place.result else get level_eq table t.constraint.left) key
          ∙ ap (λ (n : ℕ). if level_eq step.constraint.left t.constraint.left then Some n else get level_eq table t.constraint.left) place) is,
      tt,
    )
