-- The table has the old names and the new one.
use Rattle.std.proofs.Common.{◌≡◌, ◌∙◌, sym, ap, length, rules, ℕ, if◌then◌else◌}
use Rattle.std.specs.Prelude.{is_ok, Some, slice_get}
use Rattle.std.specs.HashMap.{get}
use Rattle.cic_names.proofs.Clones.{level_name_clone_is}
use Rattle.univ_cycles.specs.calls.Places.{IsAbsent}
use Rattle.univ_cycles.proofs.NameTable.{placed_pushed, name_eq}
use Rattle.univ_cycles.proofs.names.Names.add.Goals as goal

pub invariant_of-self-inside : goal.invariant_of-self-inside
invariant_of-self-inside c =
    let names = c.self.inside.names.items in
    let key : c.in_ok-key.key ≡ c.args.name.now = level_name_clone_is c.args.name.now c.in_ok-key.key c.in_ok-key.ensures.cases in
    let own : c.in_ok-own.own ≡ c.in_ok-key.key = level_name_clone_is c.args.name.now c.in_ok-own.own c.in_ok-own.ensures.cases ∙ sym key in
    let view : names ≡ c.args.self.now = (let v = c.self.view_is in cc) in
    let fresh : IsAbsent c.in_ok-key.key names =
    λ p is. c.requires p (sym (ap (λ xs. slice_get xs p) view) ∙ is ∙ ap Some key) in
    let place : c.len-place.result ≡ length names = search rules in (
      λ p l is. placed_pushed (is_ok c.push.result) names c.push.new.self.items c.in_ok-key.key c.in_ok-own.own l p (get name_eq c.self.inside.table l) (get name_eq c.insert.new.self l) fresh own c.push.ensures.items
          (c.self.inside.placed p l) (c.in-Ok.ensures.updates.0 l ∙ ap (λ (n : ℕ). if name_eq c.in_ok-key.key l then Some n else get name_eq c.self.inside.table l) place) is,
      tt,
    )
