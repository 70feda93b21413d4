-- A substitution goes through applications, through several terms put in at once, through branches and
-- through the functions of a Fix. The rules of steps speak of these, so a step under a substitution needs them.
use Rattle.std.proofs.Common.{◌≡◌, ℕ, zero, suc, ◌+◌, List, [], ◌∷◌, ◌++◌, length, map, Option, Some, None, refl, sym, ap, ap₂, ◌∙◌, arith}
use Rattle.std.proofs.lemmas.Bool.Decides.{nat_tests}
use Rattle.std.proofs.lemmas.List.{length-map, map-append}
use Rattle.cic_terms.specs.Tree.{FixF, many, over, Tree, node, Children, no_child, child, lam, app, ctor, join, ind}
use Rattle.cic_terms.specs.Lift.{lift_tree, subst_tree}
use Rattle.cic_names.specs.declared.name.GlobalId.{GlobalId}
use Rattle.cic_rules.specs.Environment.{element}
use Rattle.cic_rules.specs.Telescopes.{apply, abstractions, substitute_all, lift_domains, BranchParts, branch_at, Function, domain_parts, function_parts, function_shapes, fixpoint, full_body, each_fixpoint, unfolded}
use Rattle.cic_metatheory.specs.Substitution.{renaming_under, rename, substitution_under_one, substitution_under, substitute, substitute_children, substitute_domains, substitute_function}
use Rattle.cic_metatheory.proofs.substitutions.Composition.{rename_rename, rename_identity, substitute_rename, substitute_rename_under, rename_substitute, rename_substitute_under}
use Rattle.cic_metatheory.proofs.substitutions.LiftAndSubst.{lift_is_rename, lifted_under, substitute_subst}

-- Binders in two rows
pub under_twice : (n place : ℕ) (s : ℕ → Tree) → substitution_under place (substitution_under n s) ≡ substitution_under (n + place) s
unfolding substitution_under
under_twice zero place s =
    let e : place ≡ 0 + place = omega arith in ap (λ m. substitution_under m s) e
under_twice (suc n) place s =
    let e : suc (n + place) ≡ suc n + place = omega arith in
    under_twice n place (substitution_under_one s) ∙ ap (λ m. substitution_under m s) e

pub one_more_under : (n : ℕ) (s : ℕ → Tree) → substitution_under_one (substitution_under n s) ≡ substitution_under (n + 1) s
unfolding substitution_under
one_more_under n s = under_twice n 1 s

pub none_and_under : (n : ℕ) (s : ℕ → Tree) → substitution_under (0 + n) s ≡ substitution_under n s
none_and_under n s = let e : 0 + n ≡ n = omega arith in ap (λ m. substitution_under m s) e

-- What stands past the binders is lifted past them.
pub past_binders : (n : ℕ) (s : ℕ → Tree) (x : ℕ) → substitution_under n s (x + n) ≡ rename (λ y. y + n) (s x)
unfolding substitution_under substitution_under_one
past_binders zero s x =
    let e : x + 0 ≡ x = omega arith in
    ap s e ∙ sym (rename_identity (s x) (λ y. y + 0) (λ y. omega arith))
past_binders (suc n) s x =
    let e : x + suc n ≡ suc x + n = omega arith in
    ap (substitution_under n (substitution_under_one s)) e
    ∙ past_binders n (substitution_under_one s) (suc x)
    ∙ rename_rename (s x) (λ y. y + n) suc (λ y. y + suc n) (λ y. omega arith)

-- A lift past n binders, under `place` more
lift_is_rename_under : (place n : ℕ) (t : Tree) → lift_tree place n t ≡ rename (renaming_under place (λ y. y + n)) t
lift_is_rename_under place n t =
    lift_is_rename t place n (renaming_under place (λ y. y + n))
    (lifted_under place (λ y. y + n) 0 n place (omega arith) (λ y. grind (arith, nat_tests)))

pub substitute_lift : (place n : ℕ) (t : Tree) (s : ℕ → Tree) →
    substitute (substitution_under place (substitution_under n s)) (lift_tree place n t) ≡ lift_tree place n (substitute (substitution_under place s) t)
substitute_lift place n t s =
    let r : ℕ → ℕ = λ y. y + n in
    let both : ℕ → Tree = λ y. rename r (s y) in
    ap (substitute (substitution_under place (substitution_under n s))) (lift_is_rename_under place n t)
    ∙ substitute_rename t (substitution_under place (substitution_under n s)) (renaming_under place r) (substitution_under place both)
    (substitute_rename_under place (substitution_under n s) r both (past_binders n s))
    ∙ sym (rename_substitute t (renaming_under place r) (substitution_under place s) (substitution_under place both)
    (rename_substitute_under place r s both (λ y. refl)))
    ∙ sym (lift_is_rename_under place n (substitute (substitution_under place s) t))

-- Lists
pub element_map : {A B : Type 0} (f : A → B) (us : List A) (i : ℕ) (u : A) → element us i ≡ Some u → element (map f us) i ≡ Some (f u)
element_map f [] i u e = grind arith
element_map f (v ∷ us) zero u e = grind arith
element_map f (v ∷ us) (suc i) u e = element_map f us i u e

-- Applications
pub substitute_apply : (us : List Tree) (f : Tree) (s : ℕ → Tree) → substitute s (apply f us) ≡ apply (substitute s f) (map (substitute s) us)
unfolding substitute substitution_under
substitute_apply [] f s = refl
substitute_apply (u ∷ us) f s = substitute_apply us (app f u) s

pub substitute_constructor : (c : GlobalId) (us : List Tree) (s : ℕ → Tree) → substitute s (apply (ctor c) us) ≡ apply (ctor c) (map (substitute s) us)
unfolding substitute
substitute_constructor c us s = substitute_apply us (ctor c) s

pub substitute_inductive : (c : GlobalId) (us : List Tree) (s : ℕ → Tree) → substitute s (apply (ind c) us) ≡ apply (ind c) (map (substitute s) us)
unfolding substitute
substitute_inductive c us s = substitute_apply us (ind c) s

pub substitute_before_constructor : (f : Tree) (us vs : List Tree) (c : GlobalId) (s : ℕ → Tree) →
    substitute s (apply f (us ++ apply (ctor c) vs ∷ [])) ≡ apply (substitute s f) (map (substitute s) us ++ apply (ctor c) (map (substitute s) vs) ∷ [])
substitute_before_constructor f us vs c s =
    substitute_apply (us ++ apply (ctor c) vs ∷ []) f s
    ∙ ap (apply (substitute s f))
    (map-append (substitute s) us (apply (ctor c) vs ∷ []) ∙ ap (λ z. map (substitute s) us ++ z ∷ []) (substitute_constructor c vs s))

-- Several terms put in at once
pub substitute_several : (us : List Tree) (t : Tree) (s : ℕ → Tree) →
    substitute s (substitute_all us t) ≡ substitute_all (map (substitute s) us) (substitute (substitution_under (length us) s) t)
unfolding substitution_under
substitute_several [] t s = refl
substitute_several (u ∷ us) t s =
    substitute_several us (subst_tree (length us) u t) s
    ∙ ap (substitute_all (map (substitute s) us))
    (substitute_subst (length us) u t s
    ∙ ap (λ z. subst_tree z (substitute s u) (substitute (substitution_under (length us) (substitution_under_one s)) t)) (sym (length-map us (substitute s))))

-- Branches
abbrev branch_under : (ℕ → Tree) → Option BranchParts → Option BranchParts
branch_under s None = None
branch_under s (Some p) = Some (record { binders = p.binders; body = substitute (substitution_under p.binders s) p.body })

pub substitute_branch : (ks : Children) (i : ℕ) (p : BranchParts) (s : ℕ → Tree) → branch_at ks i ≡ Some p →
    branch_at (substitute_children s ks) i ≡ Some (record { binders = p.binders; body = substitute (substitution_under p.binders s) p.body })
unfolding substitute
substitute_branch no_child i p s e = grind arith
substitute_branch (child b t ks) zero p s e = ap (branch_under s) e
substitute_branch (child b t ks) (suc i) p s e = substitute_branch ks i p s e

pub substitute_branch_of : (ks : Children) (i : ℕ) (us : List Tree) (b : Tree) (s : ℕ → Tree) → branch_at ks i ≡ Some (record { binders = length us; body = b }) →
    branch_at (substitute_children s ks) i ≡ Some (record { binders = length (map (substitute s) us); body = substitute (substitution_under (length us) s) b })
substitute_branch_of ks i us b s e =
    substitute_branch ks i (record { binders = length us; body = b }) s e
    ∙ ap (λ n. Some (record { binders = n; body = substitute (substitution_under (length us) s) b })) (sym (length-map us (substitute s)))

-- Domains, each under the earlier ones
pub length_substitute_domains : (as_ : List Tree) (s : ℕ → Tree) → length (substitute_domains s as_) ≡ length as_
length_substitute_domains [] s = refl
length_substitute_domains (a ∷ as_) s = ap suc (length_substitute_domains as_ (substitution_under_one s))

pub length_lift_domains : (as_ : List Tree) (place n : ℕ) → length (lift_domains place n as_) ≡ length as_
length_lift_domains [] place n = refl
length_lift_domains (a ∷ as_) place n = ap suc (length_lift_domains as_ (place + 1) n)

substitute_lift_domains : (as_ : List Tree) (place n : ℕ) (s : ℕ → Tree) →
    substitute_domains (substitution_under place (substitution_under n s)) (lift_domains place n as_) ≡ lift_domains place n (substitute_domains (substitution_under place s) as_)
substitute_lift_domains [] place n s = refl
substitute_lift_domains (a ∷ as_) place n s =
    ap₂ ◌∷◌ (substitute_lift place n a s)
    (ap (λ z. substitute_domains z (lift_domains (place + 1) n as_)) (one_more_under place (substitution_under n s))
    ∙ substitute_lift_domains as_ (place + 1) n s
    ∙ ap (λ z. lift_domains (place + 1) n (substitute_domains z as_)) (sym (one_more_under place s)))

substitute_abstractions : (as_ : List Tree) (t : Tree) (s : ℕ → Tree) →
    substitute s (abstractions as_ t) ≡ abstractions (substitute_domains s as_) (substitute (substitution_under (length as_) s) t)
unfolding substitute substitution_under
substitute_abstractions [] t s = refl
substitute_abstractions (a ∷ as_) t s = ap (lam (substitute s a)) (substitute_abstractions as_ t (substitution_under_one s))

substitute_domain_parts : (as_ : List Tree) (above : ℕ) (s : ℕ → Tree) →
    substitute_children s (domain_parts above as_) ≡ domain_parts above (substitute_domains (substitution_under above s) as_)
unfolding substitute
substitute_domain_parts [] above s = refl
substitute_domain_parts (a ∷ as_) above s =
    ap₂ (child (many above)) (ap (λ z. substitute z a) (none_and_under above s))
    (substitute_domain_parts as_ (above + 1) s ∙ ap (λ z. domain_parts (above + 1) (substitute_domains z as_)) (sym (one_more_under above s)))

substitute_join : (ks ls : Children) (s : ℕ → Tree) → substitute_children s (join ks ls) ≡ join (substitute_children s ks) (substitute_children s ls)
unfolding substitute
substitute_join no_child ls s = refl
substitute_join (child b t ks) ls s = ap (child b (substitute (substitution_under (over b 0) s) t)) (substitute_join ks ls s)

-- Functions of a Fix
pub substitute_function_parts : (fs : List Function) (all : ℕ) (s : ℕ → Tree) →
    substitute_children s (function_parts all fs) ≡ function_parts all (map (substitute_function all s) fs)
unfolding substitute substitution_under
substitute_function_parts [] all s = refl
substitute_function_parts (f ∷ fs) all s =
    let n : ℕ = length f.domains in
    let domains : substitute_children s (domain_parts 0 f.domains) ≡ domain_parts 0 (substitute_domains s f.domains) = substitute_domain_parts f.domains 0 s in
    let count : length (substitute_domains s f.domains) ≡ n = length_substitute_domains f.domains s in
    let one_term : substitute (substitution_under (0 + n) s) f.codomain ≡ substitute (substitution_under n s) f.codomain = ap (λ z. substitute z f.codomain) (none_and_under n s) in
    let body : substitute (substitution_under (0 + (all + n)) s) f.body ≡ substitute (substitution_under (all + n) s) f.body = ap (λ z. substitute z f.body) (none_and_under (all + n) s) in
    let others = substitute_function_parts fs all s in
    substitute_join (domain_parts 0 f.domains) (child (many n) f.codomain (child (many (all + n)) f.body (function_parts all fs))) s
    ∙ ap₂ join domains
    (ap₂ (child (many n)) one_term (ap₂ (child (many (all + n))) body others)
    ∙ ap (λ m. child (many m) (substitute (substitution_under n s) f.codomain) (child (many (all + m)) (substitute (substitution_under (all + n) s) f.body) (function_parts all (map (substitute_function all s) fs)))) (sym count))

pub substitute_shapes : (fs : List Function) (all : ℕ) (s : ℕ → Tree) → function_shapes (map (substitute_function all s) fs) ≡ function_shapes fs
substitute_shapes [] all s = refl
substitute_shapes (f ∷ fs) all s =
    ap₂ (λ n z. record { k = f.recursive_place; domains = n } ∷ z) (length_substitute_domains f.domains s) (substitute_shapes fs all s)

pub substitute_fixpoint : (which : ℕ) (fs : List Function) (s : ℕ → Tree) →
    substitute s (fixpoint which fs) ≡ fixpoint which (map (substitute_function (length fs) s) fs)
unfolding substitute
substitute_fixpoint which fs s =
    ap₂ (λ shapes parts. node (FixF which shapes) parts) (sym (substitute_shapes fs (length fs) s))
    (substitute_function_parts fs (length fs) s
    ∙ ap (λ n. function_parts n (map (substitute_function (length fs) s) fs)) (sym (length-map fs (substitute_function (length fs) s))))

substitute_each_fixpoint : (count which : ℕ) (fs : List Function) (s : ℕ → Tree) →
    map (substitute s) (each_fixpoint count which fs) ≡ each_fixpoint count which (map (substitute_function (length fs) s) fs)
substitute_each_fixpoint zero which fs s = refl
substitute_each_fixpoint (suc count) which fs s = ap₂ ◌∷◌ (substitute_fixpoint which fs s) (substitute_each_fixpoint count (which + 1) fs s)

length_each_fixpoint : (count which : ℕ) (fs : List Function) → length (each_fixpoint count which fs) ≡ count
length_each_fixpoint zero which fs = refl
length_each_fixpoint (suc count) which fs = ap suc (length_each_fixpoint count (which + 1) fs)

pub substitute_full_body : (all : ℕ) (f : Function) (s : ℕ → Tree) →
    substitute (substitution_under all s) (full_body all f) ≡ full_body all (substitute_function all s f)
unfolding substitution_under
substitute_full_body all f s =
    substitute_abstractions (lift_domains 0 all f.domains) f.body (substitution_under all s)
    ∙ ap₂ abstractions (substitute_lift_domains f.domains 0 all s)
    (ap (λ n. substitute (substitution_under n (substitution_under all s)) f.body) (length_lift_domains f.domains 0 all)
    ∙ ap (λ z. substitute z f.body) (under_twice all (length f.domains) s))

pub substitute_unfolded : (fs : List Function) (f : Function) (s : ℕ → Tree) →
    substitute s (unfolded fs f) ≡ unfolded (map (substitute_function (length fs) s) fs) (substitute_function (length fs) s f)
substitute_unfolded fs f s =
    let n : ℕ = length fs in
    let gs : List Function = map (substitute_function n s) fs in
    let g : Function = substitute_function n s f in
    substitute_several (each_fixpoint n 0 fs) (full_body n f) s
    ∙ ap₂ substitute_all (substitute_each_fixpoint n 0 fs s)
    (ap (λ m. substitute (substitution_under m s) (full_body n f)) (length_each_fixpoint n 0 fs) ∙ substitute_full_body n f s)
    ∙ ap (λ m. substitute_all (each_fixpoint m 0 gs) (full_body m g)) (sym (length-map fs (substitute_function n s)))
