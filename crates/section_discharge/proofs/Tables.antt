-- What a name stands for, and what fits where it does.
use Rattle.std.proofs.Common.{◌≡◌, ℕ, ◌+◌, ◌-◌, ◌≤◌, ◌<◌, Result, Ok, Err, IfOk, IfErr, Option, Some, None, List, [], ◌∷◌, map, drop, refl, sym, ap, subst, ◌∙◌, arith}
use Rattle.std.specs.declared.rc.Rc.{Rc}
use Rattle.std.specs.declared.alloc.Global.{Global}
use Rattle.cic_names.specs.declared.name.GlobalId.{GlobalId}
use Rattle.cic_terms.specs.Tree.{Former, ConstF, IndF, CtorF, Tree, rel, app, node, Children, no_child, child}
use Rattle.cic_terms.specs.Lift.{lift_tree}
use Rattle.cic_terms.specs.Sizes.{Fits}
use Rattle.cic_terms.specs.calls.Answer.{MakesShared, Changes, after}
use Rattle.cic_terms.specs.declared.term.Term.{Term}
use Rattle.cic_terms.specs.declared.term.TermFault.{TermFault}
use Rattle.cic_terms.specs.declared.term.TermFault.TheVariants.{Deep}
use Rattle.cic_rules.specs.Telescopes.{apply}
use Rattle.section_terms.specs.Names.{replace_names}
use Rattle.section_terms.specs.calls.Standing.{standing_for}
use Rattle.section_walks.specs.calls.Functions.{IsName}
use Rattle.section_uses.specs.Kept.{shared_tree}
use Rattle.section_discharge.specs.calls.Tables.{head_becomes, ids_for}
use Rattle.section_discharge.proofs.Limits.{fits_unlifted, fits_less_lifted, far_lifted, fits_head, fits_argument}

pub raised_far : (room at : ℕ) (t : Tree) (result : Result (Rc Term Global) TermFault) → 1048577 ≤ at →
    MakesShared room (lift_tree 0 1048577 t) result → MakesShared room (lift_tree 0 at t) result
raised_far room at t (Ok r) le made =
    let same : lift_tree 0 at t ≡ lift_tree 0 1048577 t = far_lifted 0 1048577 at t (omega arith) made.fits.rels in
    record { ok = made.ok ∙ sym same; fits = subst (Fits room) (sym same) made.fits; deep = tt }
raised_far room at t (Err fault) le made =
    record { ok = tt; fits = tt; deep = λ d h. made.deep d (fits_less_lifted room 0 1048577 at t le h) }

-- A name gives way to what it stands for, lifted.
pub name_replaced : (arguments : GlobalId → List GlobalId) (stands : GlobalId → Tree) (by at : ℕ) (t : Tree) → IsName t →
    replace_names (standing_for arguments stands) by at t ≡ lift_tree 0 at (apply (head_becomes stands t) (map stands (ids_for arguments t)))
name_replaced arguments stands by at (node (ConstF id) no_child) h = refl
name_replaced arguments stands by at (node (IndF id) no_child) h = refl
name_replaced arguments stands by at (node (CtorF id) no_child) h = refl
name_replaced arguments stands by at t h = absurd h

pub name_lifted : (at : ℕ) (t : Tree) → IsName t → lift_tree 0 at t ≡ t
name_lifted at (node (ConstF id) no_child) h = refl
name_lifted at (node (IndF id) no_child) h = refl
name_lifted at (node (CtorF id) no_child) h = refl
name_lifted at t h = absurd h

pub name_fits : (room : ℕ) (t : Tree) → IsName t → 1 ≤ room → Fits room t
name_fits room (node (ConstF id) no_child) h le = record { depth = omega arith; rels = omega arith }
name_fits room (node (IndF id) no_child) h le = record { depth = omega arith; rels = omega arith }
name_fits room (node (CtorF id) no_child) h le = record { depth = omega arith; rels = omega arith }
name_fits room t h le = absurd h

fits_more : (room : ℕ) (t : Tree) → room ≤ 4000 → Fits room t → Fits 4000 t
fits_more room t le h = record { depth = omega (arith, h.depth); rels = h.rels }

-- The answers of a name
pub name_same : (room at : ℕ) (name becomes want : Tree) → IsName name → 1 ≤ room → name ≡ becomes → want ≡ lift_tree 0 at becomes →
    Changes room name want (Ok None)
name_same room at name becomes want h le e f =
    let same : name ≡ want = sym (name_lifted at name h) ∙ ap (lift_tree 0 at) e ∙ sym f in
    record { ok = same; fits = subst (Fits room) same (name_fits room name h le); deep = tt }

pub name_made : (room at : ℕ) (name becomes want : Tree) (whole r : Rc Term Global) → want ≡ lift_tree 0 at becomes →
    shared_tree whole ≡ becomes → MakesShared room (lift_tree 0 at (shared_tree whole)) (Ok r) → Changes room name want (Ok (Some r))
name_made room at name becomes want whole r f e made =
    let same = ap (lift_tree 0 at) e ∙ sym f in
    record { ok = made.ok ∙ same; fits = subst (Fits room) same made.fits; deep = tt }

pub name_deep : (room at : ℕ) (becomes want : Tree) → want ≡ lift_tree 0 at becomes → room ≤ 4000 → ¬ Fits 4000 becomes → ¬ Fits room want
name_deep room at becomes want f le never h = never (fits_more room becomes le (fits_unlifted room 0 at becomes (subst (Fits room) f h)))

pub lifted_deep : (room at : ℕ) (t becomes want : Tree) → want ≡ lift_tree 0 at becomes → t ≡ becomes → ¬ Fits room (lift_tree 0 at t) → ¬ Fits room want
lifted_deep room at t becomes want f e never h = never (subst (Fits room) (f ∙ sym (ap (lift_tree 0 at) e)) h)

-- Arguments one after the other
pub one_applied : (stands : GlobalId → Tree) (made made' head argument : Tree) (x : GlobalId) (now rest all : List GlobalId) →
    apply made (map stands now) ≡ apply head (map stands all) → now ≡ x ∷ rest → argument ≡ stands x → made' ≡ app made argument →
    apply made' (map stands rest) ≡ apply head (map stands all)
one_applied stands made made' head argument x now rest all h e f g =
    ap (λ (t : Tree). apply t (map stands rest)) (g ∙ ap (app made) f) ∙ sym (ap (λ (xs : List GlobalId). apply made (map stands xs)) e) ∙ h

pub argument_deep : (stands : GlobalId → Tree) (made head : Tree) (x : GlobalId) (now rest all : List GlobalId) →
    apply made (map stands now) ≡ apply head (map stands all) → now ≡ x ∷ rest → ¬ Fits 4000 (stands x) → ¬ Fits 4000 (apply head (map stands all))
argument_deep stands made head x now rest all h e never k =
    let whole : Fits 4000 (apply made (map stands (x ∷ rest))) = subst (Fits 4000) (sym h ∙ ap (λ (xs : List GlobalId). apply made (map stands xs)) e) k in
    never (fits_argument 4000 made (map stands (x ∷ rest)) 0 made (omega arith) whole)
