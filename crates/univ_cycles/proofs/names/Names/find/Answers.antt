-- The table has the place of each name, so the name stands there or nowhere.
use Rattle.std.proofs.Common.{◌≡◌, ◌≤◌, ◌∙◌, sym, ap, subst, true≢false, length, rules, ℕ, Some, arith}
use Rattle.std.specs.Prelude.{slice_get}
use Rattle.std.specs.HashMap.{get}
use Rattle.std.proofs.lemmas.Option.{slice_get_read, slice_get_within}
use Rattle.cic_names.proofs.Equality.{level_name_equal_decides}
use Rattle.univ_cycles.proofs.NameTable.{name_eq}
use Rattle.univ_cycles.proofs.names.Names.find.Goals as goal
use Rattle.univ_cycles.proofs.names.Names.find.Goals.{else-place-len-via-then-place-len+else-eq, else-place-len-via-else-place-len}

pub returns-then-eq-clause-place : goal.returns-then-eq-clause-place
returns-then-eq-clause-place c =
    let names = c.self.inside.names.items in
    let k = c.in_ok-place.field-0.now in
    let view : names ≡ c.args.self.now = (let v = c.self.view_is in cc) in
    let size : c.len.result ≡ length names = search rules in
    let same = (level_name_equal_decides c.index.result.now c.args.name.now).0 (sym c.eq.ensures ∙ c.if-eq.true) in
    sym (ap (λ xs. slice_get xs k) view) ∙ slice_get_read names c.len.result k c.index.result.now size c.if-place-len.true c.index.ensures ∙ ap Some same

pub returns-else-place-len-clause-place : goal.returns-else-place-len-clause-place
returns-else-place-len-clause-place c p is =
    let names = c.self.inside.names.items in
    let l = c.args.name.now in
    let k = c.in_ok-place.field-0.now in
    let view : names ≡ c.args.self.now = (let v = c.self.view_is in cc) in
    let size : c.len.result ≡ length names = search rules in
    let at = ap (λ xs. slice_get xs p) view ∙ is in
    let here = c.self.inside.placed p l at in
    let got : get name_eq c.self.inside.table l ≡ Some k = sym c.in_ok-place.ensures.value in
    let e : p ≡ k = cc in
    let found = subst (λ (i : ℕ). slice_get names i ≡ Some l) e at in
    elim c.else-place-len.branch [
      | else-place-len-via-then-place-len+else-eq w ↦
          let read = slice_get_read names c.len.result k w.index.result.now size w.if-place-len.true w.index.ensures in
          let same : w.index.result.now ≡ l = cc in
          true≢false (sym ((level_name_equal_decides w.index.result.now l).1 same) ∙ sym w.eq.ensures ∙ w.if-eq.false)
      | else-place-len-via-else-place-len w ↦
          let past : length names ≤ k = subst (λ (n : ℕ). n ≤ k) size w.if-place-len.false in
          let within = slice_get_within names k l found in
          omega (arith, past, within)
    ]
