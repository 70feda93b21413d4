-- The table has the place of each step, so the level stands there or nowhere.
use Rattle.std.proofs.Common.{◌≡◌, ◌≤◌, ◌<◌, ◌∙◌, sym, subst, true≢false, List, ℕ, length, take, drop, rules}
use Rattle.std.specs.HashMap.{get}
use Rattle.std.proofs.lemmas.Option.{slice_get_read}
use Rattle.cic_names.specs.declared.level.Level.{Level}
use Rattle.cic_names.proofs.Equality.{level_equal_decides}
use Rattle.cic_rules.specs.Numbering.{LeftOfNone}
use Rattle.univ_cycles.specs.declared.cycle.Tagged.{Tagged}
use Rattle.univ_cycles.specs.Numbers.{constraints}
use Rattle.univ_cycles.specs.calls.Walks.{StartsAt}
use Rattle.univ_cycles.proofs.PathTable.{level_eq, found_none, found_past, found_other, found_here}
use Rattle.univ_cycles.proofs.path.Path.find.Goals as goal
use Rattle.univ_cycles.proofs.path.Path.find.Goals.{else-place-len-via-then-place-len+else-eq, else-place-len-via-else-place-len}

pub returns-in_err-place : goal.returns-in_err-place
returns-in_err-place c =
    let xs = c.self.inside.steps.items in
    let l = c.args.level.now in
    let places = λ (m : Level). get level_eq c.self.inside.table m in
    let view : xs ≡ c.args.self.now = (let v = c.self.view_is in cc) in
    rw c.from_residual.ensures
    (subst (λ (z : List Tagged). LeftOfNone l (constraints z)) view (found_none xs places l c.self.inside.placed (sym c.in_err-place.ensures.value)))

pub returns-then-eq : goal.returns-then-eq
returns-then-eq c =
    let xs = c.self.inside.steps.items in
    let l = c.args.level.now in
    let k = c.in_ok-place.field-0.now in
    let t = c.index.result.now in
    let places = λ (m : Level). get level_eq c.self.inside.table m in
    let view : xs ≡ c.args.self.now = (let v = c.self.view_is in cc) in
    let size : c.len.result ≡ length xs = search rules in
    let same : c.index.result.now.constraint.left ≡ l = (level_equal_decides c.index.result.now.constraint.left l).0 (sym c.eq.ensures ∙ c.if-eq.true) in
    subst (λ (z : List Tagged). (k < length z) × StartsAt l (drop k z) × LeftOfNone l (constraints (take k z))) view
    (found_here xs places l k t c.self.inside.placed (sym c.in_ok-place.ensures.value) (slice_get_read xs c.len.result k t size c.if-place-len.true c.index.ensures) same)

pub returns-else-place-len : goal.returns-else-place-len
returns-else-place-len c =
    let xs = c.self.inside.steps.items in
    let l = c.args.level.now in
    let k = c.in_ok-place.field-0.now in
    let places = λ (m : Level). get level_eq c.self.inside.table m in
    let view : xs ≡ c.args.self.now = (let v = c.self.view_is in cc) in
    let size : c.len.result ≡ length xs = search rules in
    let got = sym c.in_ok-place.ensures.value in
    subst (λ (z : List Tagged). LeftOfNone l (constraints z)) view (elim c.else-place-len.branch [
      | else-place-len-via-then-place-len+else-eq w ↦
          let is = slice_get_read xs c.len.result k w.index.result.now size w.if-place-len.true w.index.ensures in
          found_other xs places l k w.index.result.now c.self.inside.placed got is (λ same. true≢false (sym ((level_equal_decides w.index.result.now.constraint.left l).1 same) ∙ sym w.eq.ensures ∙ w.if-eq.false))
      | else-place-len-via-else-place-len w ↦
          let past : length xs ≤ k = subst (λ (n : ℕ). n ≤ k) size w.if-place-len.false in
          found_past xs places l k c.self.inside.placed got past
    ])
