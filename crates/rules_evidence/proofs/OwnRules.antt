-- A term that has a type is typed by the rule of its own form, whatever other rules were used: a match by a match's, a
-- Fix by a Fix's, an application by an application's. The rule on instances types any term, by a derivation of an
-- inductive type in which it stands as an argument; so the induction is on derivations of terms in which the term
-- stands as itself, or as an argument, or as an argument of an argument.
use Rattle.std.proofs.Common.{◌≡◌, ℕ, List, [], ◌∷◌, ◌++◌, length, refl, sym, ap, ◌∙◌, subst}
use Rattle.cic_terms.specs.Tree.{Shape, FixF, CaseF, AppF, Tree, node, Children, prod, app, ind, case, fix}
use Rattle.cic_terms.specs.Lift.{lift_tree}
use Rattle.cic_names.specs.declared.name.GlobalId.{GlobalId}
use Rattle.cic_rules.specs.Numbering.{Numbering}
use Rattle.cic_rules.specs.Environment.{Environment, Context}
use Rattle.cic_rules.specs.Telescopes.{apply, Instantiated, Function, fixpoint, function_parts, function_shapes}
use Rattle.cic_rules.specs.Guard.{Guarded}
use Rattle.cic_rules.specs.Typing as T
use Rattle.cic_rules.specs.Typing.{Typed}
use Rattle.cic_counted.specs.Readings.{functions_of}
use Rattle.cic_counted.proofs.Functions.{functions_of-parts}
use Rattle.cic_rules.proofs.SortsApart.{some_inj}
use Rattle.rules_evidence.specs.Matches.{TypedMatch}

data Inside (core : Tree) : Tree → Type 0 where
  itself : {t : Tree} → core ≡ t → Inside core t
  in_function : {f u : Tree} → Inside core f → Inside core (app f u)
  in_argument : {f u : Tree} → Inside core u → Inside core (app f u)

inside_head : (core f : Tree) (us : List Tree) → Inside core f → Inside core (apply f us)
inside_head core f [] h = h
inside_head core f (u ∷ us) h = inside_head core (app f u) us (in_function h)

inside_one_argument : (core f u : Tree) (us vs : List Tree) → Inside core u → Inside core (apply f (us ++ u ∷ vs))
inside_one_argument core f u [] vs h = inside_head core (app f u) vs (in_argument h)
inside_one_argument core f u (w ∷ us) vs h = inside_one_argument core (app f w) u us vs h

abbrev IsFix : Tree → Type 0
IsFix (node (FixF which shapes) ks) = Unit {0}
IsFix t = ⊥

abbrev IsCase : Tree → Type 0
IsCase (node (CaseF id) ks) = Unit {0}
IsCase t = ⊥

abbrev IsApp : Tree → Type 0
IsApp (node AppF ks) = Unit {0}
IsApp t = ⊥

-- A Fix is guarded.
same_functions : (which w : ℕ) (fs gs : List Function) → fixpoint w gs ≡ fixpoint which fs → gs ≡ fs
same_functions which w fs gs e =
    let shapes : function_shapes gs ≡ function_shapes fs = shapes_of e in
    let parts : function_parts (length gs) gs ≡ function_parts (length fs) fs = parts_of e in
    some_inj (sym (functions_of-parts gs) ∙ ap (λ z. functions_of z (function_parts (length gs) gs)) shapes ∙ ap (functions_of (function_shapes fs)) parts ∙ functions_of-parts fs)
  where
    shapes_of : {v w : ℕ} {ss rs : List Shape} {ks ls : Children} → fix v ss ks ≡ fix w rs ls → ss ≡ rs
    shapes_of e = cc

    parts_of : {v w : ℕ} {ss rs : List Shape} {ks ls : Children} → fix v ss ks ≡ fix w rs ls → ks ≡ ls
    parts_of e = cc

module _ (E : Environment) (N : Numbering) (core : Tree) where
  guarded_inside : {G : Context} {t c : Tree} → Typed E N G t c → Inside core t → (which : ℕ) (fs : List Function) → core ≡ fixpoint which fs → Guarded E fs
  guarded_inside (T.Typed.fixpoint {which = w} gs sh pa el so ty g e) (itself q) which fs p =
      let same : fixpoint w gs ≡ fixpoint which fs = ap (λ z. fix w z (function_parts (length gs) gs)) (sym sh) ∙ ap (fix w _) (sym pa) ∙ sym q ∙ p in
      subst (Guarded E) (same_functions which w fs gs same) g
  guarded_inside (T.Typed.application x y e) (in_function h) which fs p = guarded_inside x h which fs p
  guarded_inside (T.Typed.application x y e) (in_argument h) which fs p = guarded_inside y h which fs p
  guarded_inside (T.Typed.instance {u = u} id A before after w c z d e x y v) h which fs p =
      guarded_inside x (rw e (inside_one_argument core (ind id) u before after h)) which fs p
  guarded_inside (T.Typed.conversion x y l) h which fs p = guarded_inside x h which fs p
  guarded_inside (T.Typed.application x y e) (itself q) which fs p = absurd (subst IsFix (sym p ∙ q) tt)
  guarded_inside (T.Typed.sorts x) (itself q) which fs p = absurd (subst IsFix (sym p ∙ q) tt)
  guarded_inside (T.Typed.variable x y) (itself q) which fs p = absurd (subst IsFix (sym p ∙ q) tt)
  guarded_inside (T.Typed.constant x y) (itself q) which fs p = absurd (subst IsFix (sym p ∙ q) tt)
  guarded_inside (T.Typed.inductive_type x y) (itself q) which fs p = absurd (subst IsFix (sym p ∙ q) tt)
  guarded_inside (T.Typed.constructor x y) (itself q) which fs p = absurd (subst IsFix (sym p ∙ q) tt)
  guarded_inside (T.Typed.product x y z) (itself q) which fs p = absurd (subst IsFix (sym p ∙ q) tt)
  guarded_inside (T.Typed.abstraction x y) (itself q) which fs p = absurd (subst IsFix (sym p ∙ q) tt)
  guarded_inside (T.Typed.local_definition o x y e) (itself q) which fs p = absurd (subst IsFix (sym p ∙ q) tt)
  guarded_inside (T.Typed.matching _ _ _ _ _ _ _ _ _ _ _ _ _ _ _ _ _) (itself q) which fs p = absurd (subst IsFix (sym p ∙ q) tt)

  -- An application has a function of products and an argument of their domain.
  applied_inside : {G : Context} {t c : Tree} → Typed E N G t c → Inside core t → (f u : Tree) → core ≡ app f u → (a : Tree) × (b : Tree) × Typed E N G f (prod a b) × Typed E N G u a
  applied_inside {G} (T.Typed.application {f = g} {u = v} {a = a} {b = b} x y e) (itself q) f u p =
      let function : g ≡ f = cc in
      let argument : v ≡ u = cc in
      (a, b, subst (λ z. Typed E N G z (prod a b)) function x, subst (λ z. Typed E N G z a) argument y)
  applied_inside (T.Typed.application x y e) (in_function h) f u p = applied_inside x h f u p
  applied_inside (T.Typed.application x y e) (in_argument h) f u p = applied_inside y h f u p
  applied_inside (T.Typed.instance {u = v} id A before after w c z d e x y k) h f u p =
      applied_inside x (rw e (inside_one_argument core (ind id) v before after h)) f u p
  applied_inside (T.Typed.conversion x y l) h f u p = applied_inside x h f u p
  applied_inside (T.Typed.sorts x) (itself q) f u p = absurd (subst IsApp (sym p ∙ q) tt)
  applied_inside (T.Typed.variable x y) (itself q) f u p = absurd (subst IsApp (sym p ∙ q) tt)
  applied_inside (T.Typed.constant x y) (itself q) f u p = absurd (subst IsApp (sym p ∙ q) tt)
  applied_inside (T.Typed.inductive_type x y) (itself q) f u p = absurd (subst IsApp (sym p ∙ q) tt)
  applied_inside (T.Typed.constructor x y) (itself q) f u p = absurd (subst IsApp (sym p ∙ q) tt)
  applied_inside (T.Typed.product x y z) (itself q) f u p = absurd (subst IsApp (sym p ∙ q) tt)
  applied_inside (T.Typed.abstraction x y) (itself q) f u p = absurd (subst IsApp (sym p ∙ q) tt)
  applied_inside (T.Typed.local_definition o x y e) (itself q) f u p = absurd (subst IsApp (sym p ∙ q) tt)
  applied_inside (T.Typed.matching _ _ _ _ _ _ _ _ _ _ _ _ _ _ _ _ _) (itself q) f u p = absurd (subst IsApp (sym p ∙ q) tt)
  applied_inside (T.Typed.fixpoint _ _ _ _ _ _ _ _) (itself q) f u p = absurd (subst IsApp (sym p ∙ q) tt)

  -- The parts of a match are typed.
  match_inside : {G : Context} {t c : Tree} → Typed E N G t c → Inside core t → (id : GlobalId) (n : ℕ) (p v : Tree) (branches : Children) → core ≡ case id n p v branches → TypedMatch E N G id n p v branches
  match_inside {G} (T.Typed.matching {id = i} {n = m} {p = o} {v = x} {branches = bs} {s = s} {place = place} {T = D} parameters indices domains s' stands is_type as_many as_many_indices is_applied value at_parameters ends as_many_domains motive eliminated each_branch e) (itself q) id n p v branches r =
      let of_rule : TypedMatch E N G i m o x bs = record {
        place = place;
        type = D;
        parameters = parameters;
        indices = indices;
        domains = domains;
        ends_in = s';
        motive_sort = s;
        stands = stands;
        is_type = is_type;
        as_many_parameters = as_many;
        as_many_indices = as_many_indices;
        as_many_domains = as_many_domains;
        value = subst (Typed E N G x) is_applied value;
        at_parameters = subst (Instantiated (lift_tree 0 (length G) D.arity) parameters) ends at_parameters;
        motive = motive;
        eliminated = eliminated;
        each_branch = each_branch;
      } in
      let same_id : i ≡ id = cc in
      let same_count : m ≡ n = cc in
      let same_motive : o ≡ p = cc in
      let same_value : x ≡ v = cc in
      let same_branches : bs ≡ branches = cc in
      subst (λ y. TypedMatch E N G y n p v branches) same_id
      (subst (λ y. TypedMatch E N G i y p v branches) same_count
      (subst (λ y. TypedMatch E N G i m y v branches) same_motive
      (subst (λ y. TypedMatch E N G i m o y branches) same_value
      (subst (λ y. TypedMatch E N G i m o x y) same_branches of_rule))))
  match_inside (T.Typed.application x y e) (in_function h) id n p v bs r = match_inside x h id n p v bs r
  match_inside (T.Typed.application x y e) (in_argument h) id n p v bs r = match_inside y h id n p v bs r
  match_inside (T.Typed.instance {u = u} i A before after w c z d e x y k) h id n p v bs r =
      match_inside x (rw e (inside_one_argument core (ind i) u before after h)) id n p v bs r
  match_inside (T.Typed.conversion x y l) h id n p v bs r = match_inside x h id n p v bs r
  match_inside (T.Typed.application x y e) (itself q) id n p v bs r = absurd (subst IsCase (sym r ∙ q) tt)
  match_inside (T.Typed.sorts x) (itself q) id n p v bs r = absurd (subst IsCase (sym r ∙ q) tt)
  match_inside (T.Typed.variable x y) (itself q) id n p v bs r = absurd (subst IsCase (sym r ∙ q) tt)
  match_inside (T.Typed.constant x y) (itself q) id n p v bs r = absurd (subst IsCase (sym r ∙ q) tt)
  match_inside (T.Typed.inductive_type x y) (itself q) id n p v bs r = absurd (subst IsCase (sym r ∙ q) tt)
  match_inside (T.Typed.constructor x y) (itself q) id n p v bs r = absurd (subst IsCase (sym r ∙ q) tt)
  match_inside (T.Typed.product x y z) (itself q) id n p v bs r = absurd (subst IsCase (sym r ∙ q) tt)
  match_inside (T.Typed.abstraction x y) (itself q) id n p v bs r = absurd (subst IsCase (sym r ∙ q) tt)
  match_inside (T.Typed.local_definition o x y e) (itself q) id n p v bs r = absurd (subst IsCase (sym r ∙ q) tt)
  match_inside (T.Typed.fixpoint _ _ _ _ _ _ _ _) (itself q) id n p v bs r = absurd (subst IsCase (sym r ∙ q) tt)

pub typed_fix_is_guarded : (E : Environment) (N : Numbering) (G : Context) (which : ℕ) (fs : List Function) (t : Tree) → Typed E N G (fixpoint which fs) t → Guarded E fs
typed_fix_is_guarded E N G which fs t h = guarded_inside E N (fixpoint which fs) h (itself refl) which fs refl

pub parts_of_applications : (E : Environment) (N : Numbering) (G : Context) (f u t : Tree) → Typed E N G (app f u) t → (a : Tree) × (b : Tree) × Typed E N G f (prod a b) × Typed E N G u a
parts_of_applications E N G f u t h = applied_inside E N (app f u) h (itself refl) f u refl

pub parts_of_match : (E : Environment) (N : Numbering) (G : Context) (id : GlobalId) (n : ℕ) (p v : Tree) (branches : Children) (t : Tree) → Typed E N G (case id n p v branches) t → TypedMatch E N G id n p v branches
parts_of_match E N G id n p v branches t h = match_inside E N (case id n p v branches) h (itself refl) id n p v branches refl
