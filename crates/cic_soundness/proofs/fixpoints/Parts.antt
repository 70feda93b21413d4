-- Each Fix inside a term that has a type has as many parts as its shapes say. The test of the guard goes by the
-- shapes, so on the bodies of a Fix, which have types, it goes over all parts.
use Rattle.std.proofs.Common.{◌≡◌, ℕ, suc, None, ◌+◌, List, [], ◌∷◌, ◌++◌, length, refl, ap, arith, subst}
use Rattle.cic_terms.specs.Tree.{Shape, many, Tree, Children, no_child, child, app, ind, fix, join}
use Rattle.cic_names.specs.declared.name.GlobalId.{GlobalId}
use Rattle.cic_rules.specs.Numbering.{Numbering}
use Rattle.cic_rules.specs.Environment.{Environment, Context, ConstructorDeclaration}
use Rattle.cic_rules.specs.Telescopes.{apply, products, abstractions, lift_domains, Function, domain_parts, function_parts, function_shapes, function_types, full_bodies}
use Rattle.cic_rules.specs.Inductive.{Each}
use Rattle.cic_rules.specs.Guard.{Guarded}
use Rattle.cic_rules.specs.Typing as T
use Rattle.cic_rules.specs.Typing.{Typed, Branches, no_branch, branch, AllSorted, none_sorted, more_sorted, AllTyped, none_typed, more_typed}
use Rattle.cic_counted.specs.Readings.{trees_of}
use Rattle.cic_counted.specs.GuardTest.{guard_fault}
use Rattle.cic_soundness.specs.calls.FixParts.{part_count, HasAllParts, PartsHaveAllParts}
use Rattle.cic_soundness.proofs.fixpoints.Sound.{guard_is_right}

-- Arguments, products and abstractions
head_shaped : (us : List Tree) (f : Tree) → HasAllParts (apply f us) → HasAllParts f
head_shaped [] f h = h
head_shaped (u ∷ us) f h = (head_shaped us (app f u) h).1.0

argument_shaped : (before after : List Tree) (f u : Tree) → HasAllParts (apply f (before ++ u ∷ after)) → HasAllParts u
argument_shaped [] after f u h = (head_shaped after (app f u) h).1.1.0
argument_shaped (v ∷ before) after f u h = argument_shaped before after (app f v) u h

products_shaped : (as_ : List Tree) (t : Tree) → HasAllParts (products as_ t) → Each HasAllParts as_ × HasAllParts t
products_shaped [] t h = (tt, h)
products_shaped (a ∷ as_) t h = let r = products_shaped as_ t h.1.1.0 in ((h.1.0, r.0), r.1)

abstractions_shaped : (as_ : List Tree) (t : Tree) → HasAllParts (abstractions as_ t) → HasAllParts t
abstractions_shaped [] t h = h
abstractions_shaped (a ∷ as_) t h = abstractions_shaped as_ t h.1.1.0

-- The parts of a Fix
join_shaped : (ks ls : Children) → PartsHaveAllParts ks → PartsHaveAllParts ls → PartsHaveAllParts (join ks ls)
join_shaped no_child ls h k = k
join_shaped (child b t ks) ls h k = (h.0, join_shaped ks ls h.1 k)

domain_parts_shaped : (above : ℕ) (as_ : List Tree) → Each HasAllParts as_ → PartsHaveAllParts (domain_parts above as_)
domain_parts_shaped above [] h = tt
domain_parts_shaped above (a ∷ as_) h = (h.0, domain_parts_shaped (above + 1) as_ h.1)

function_parts_shaped : (all : ℕ) (fs : List Function) → Each HasAllParts (function_types fs) → Each HasAllParts (full_bodies all fs) → PartsHaveAllParts (function_parts all fs)
function_parts_shaped all [] h k = tt
function_parts_shaped all (f ∷ fs) h k =
    let p = products_shaped f.domains f.codomain h.0 in
    join_shaped (domain_parts 0 f.domains) (child (many (length f.domains)) f.codomain (child (many (all + length f.domains)) f.body (function_parts all fs)))
    (domain_parts_shaped 0 f.domains p.0)
    (p.1, (abstractions_shaped (lift_domains 0 all f.domains) f.body k.0, function_parts_shaped all fs h.1 k.1))

count_join : (ks ls : Children) → length (trees_of (join ks ls)) ≡ length (trees_of ks) + length (trees_of ls)
count_join no_child ls = omega arith
count_join (child b t ks) ls = let r = count_join ks ls in omega (arith, r)

count_domains : (above : ℕ) (as_ : List Tree) → length (trees_of (domain_parts above as_)) ≡ length as_
count_domains above [] = refl
count_domains above (a ∷ as_) = ap suc (count_domains (above + 1) as_)

functions_have_their_parts : (all : ℕ) (fs : List Function) → part_count (function_shapes fs) ≡ length (trees_of (function_parts all fs))
functions_have_their_parts all [] = refl
functions_have_their_parts all (f ∷ fs) =
    let p = count_join (domain_parts 0 f.domains) (child (many (length f.domains)) f.codomain (child (many (all + length f.domains)) f.body (function_parts all fs))) in
    let q = count_domains 0 f.domains in
    let r = functions_have_their_parts all fs in
    omega (arith, p, q, r)

fix_shaped : (which : ℕ) (shapes : List Shape) (parts : Children) (fs : List Function) → shapes ≡ function_shapes fs → parts ≡ function_parts (length fs) fs →
    Each HasAllParts (function_types fs) → Each HasAllParts (full_bodies (length fs) fs) → HasAllParts (fix which shapes parts)
fix_shaped which shapes parts fs e f h k = rw (e, f) (functions_have_their_parts (length fs) fs, function_parts_shaped (length fs) fs h k)

module _ (E : Environment) (N : Numbering) where
  mutual
    pub typed_has_all_parts : {G : Context} {t a : Tree} → Typed E N G t a → HasAllParts t
    typed_has_all_parts (T.Typed.sorts p) = (tt, tt)
    typed_has_all_parts (T.Typed.variable p e) = tt
    typed_has_all_parts (T.Typed.constant p e) = (tt, tt)
    typed_has_all_parts (T.Typed.inductive_type p e) = (tt, tt)
    typed_has_all_parts (T.Typed.constructor p e) = (tt, tt)
    typed_has_all_parts (T.Typed.product p q z) = (tt, (typed_has_all_parts p, (typed_has_all_parts q, tt)))
    typed_has_all_parts (T.Typed.abstraction p q) = (tt, ((typed_has_all_parts p).1.0, (typed_has_all_parts q, tt)))
    typed_has_all_parts (T.Typed.application p q e) = (tt, (typed_has_all_parts p, (typed_has_all_parts q, tt)))
    typed_has_all_parts (T.Typed.local_definition o p q e) = (tt, (typed_has_all_parts p, (typed_has_all_parts o, (typed_has_all_parts q, tt))))
    typed_has_all_parts (T.Typed.matching _ _ _ _ _ _ _ _ _ tv _ _ _ tp _ br _) = (tt, (typed_has_all_parts tp, (typed_has_all_parts tv, branches_have_all_parts br)))
    typed_has_all_parts (T.Typed.fixpoint {which = which} {shapes = shapes} {parts = parts} fs es ep at st bt g e) =
        fix_shaped which shapes parts fs es ep (sorted_have_all_parts st) (all_have_all_parts bt)
    typed_has_all_parts (T.Typed.conversion p q l) = typed_has_all_parts p
    typed_has_all_parts (T.Typed.instance {u = u} id A before after w b z d e p x y) =
        argument_shaped before after (ind id) u (subst HasAllParts e (typed_has_all_parts p))

    branches_have_all_parts : {G : Context} {id : GlobalId} {parameters : List Tree} {n : ℕ} {p : Tree} {cs : List ConstructorDeclaration} {ks : Children} → Branches E N G id parameters n p cs ks → PartsHaveAllParts ks
    branches_have_all_parts no_branch = tt
    branches_have_all_parts (branch _ _ _ _ _ _ _ bt br) = (typed_has_all_parts bt, branches_have_all_parts br)

    sorted_have_all_parts : {G : Context} {ts : List Tree} → AllSorted E N G ts → Each HasAllParts ts
    sorted_have_all_parts none_sorted = tt
    sorted_have_all_parts (more_sorted p q) = (typed_has_all_parts p, sorted_have_all_parts q)

    all_have_all_parts : {G : Context} {ts us : List Tree} → AllTyped E N G ts us → Each HasAllParts ts
    all_have_all_parts none_typed = tt
    all_have_all_parts (more_typed p q) = (typed_has_all_parts p, all_have_all_parts q)

  bodies_have_all_parts : (all : ℕ) (fs : List Function) → Each HasAllParts (full_bodies all fs) → Each (λ f. HasAllParts f.body) fs
  bodies_have_all_parts all [] h = tt
  bodies_have_all_parts all (f ∷ fs) h = (abstractions_shaped (lift_domains 0 all f.domains) f.body h.0, bodies_have_all_parts all fs h.1)

  pub passed_fix_is_guarded : (G : Context) (fs : List Function) (types : List Tree) → AllTyped E N G (full_bodies (length fs) fs) types → guard_fault E fs ≡ None → Guarded E fs
  passed_fix_is_guarded G fs types h e = guard_is_right E fs (bodies_have_all_parts (length fs) fs (all_have_all_parts h)) e
