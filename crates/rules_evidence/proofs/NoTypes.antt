-- Terms that have no type.
use Rattle.std.proofs.Common.{◌≡◌, ◌<◌, ◌≤◌, ℕ, ltb, if◌then◌else◌, Bool, codes, Some, None, List, [], ◌∷◌, ◌++◌, length, Contains, refl, sym, ap, ◌∙◌, arith, subst}
use Rattle.cic_terms.specs.Tree.{TreeSort, prop, set, Tree, rel, Children, no_child, sort, prod, app, ind, case}
use Rattle.cic_terms.specs.Lift.{lift_tree, subst_tree}
use Rattle.cic_terms.specs.Mentions.{Mentions}
use Rattle.cic_names.specs.declared.name.GlobalId.{GlobalId}
use Rattle.cic_rules.specs.Numbering.{Numbering}
use Rattle.cic_rules.specs.Environment.{Environment, Context, InductiveType, inductive_type_of, TypeInBlock, TypeDeclaration, ConstructorDeclaration, inductive, assumed, whole_block, element, environment_ids}
use Rattle.cic_rules.specs.Telescopes.{apply, products, conclusion_of, extend, variables, lift_all, Instantiated, Function, fixpoint}
use Rattle.cic_rules.specs.Guard.{Guarded}
use Rattle.cic_rules.specs.Typing.{Typed, instance, Branches, no_branch, branch, HasSort, Derivation}
use Rattle.cic_rules.specs.Formed.{Formed}
use Rattle.cic_rules.proofs.SortsApart.{some_inj, some_is_not_none}
use Rattle.cic_rules.proofs.Eliminations.{two_constructors_go_into_prop}
use Rattle.cic_metatheory.specs.Substitution.{substitute}
use Rattle.cic_metatheory.proofs.typings.ProductParts.{domain_has_sort}
use Rattle.cic_metatheory.proofs.typings.Scopes.{typed_keeps_under}
use Rattle.cic_metatheory.proofs.typings.Validity.{derived_type_has_sort}
use Rattle.cic_metatheory.proofs.environments.Mentions.{typed_mentions}
use Rattle.cic_metatheory.proofs.environments.Lookups.{formed_shows_right}
use Rattle.rules_evidence.specs.Matches.{TypedMatch, NamesType, HasSeveralProofs}
use Rattle.cic_counted.specs.calls.Examples.{id_of, environment, type_of, constructor, nat, nat_block, two_block}
use Rattle.rules_evidence.proofs.OwnRules.{typed_fix_is_guarded, parts_of_applications, parts_of_match}

-- Matches.
same_place : (E : Environment) (id : GlobalId) (I J : TypeInBlock) → whole_block E id ≡ Some I → whole_block E id ≡ Some J → I ≡ J
same_place E id I J p q = some_inj (sym p ∙ q)

-- The type of a typed match is the one that its id names.
match_names : (E : Environment) (N : Numbering) (G : Context) (id : GlobalId) (n : ℕ) (p v : Tree) (branches : Children) (place : TypeInBlock) (T : TypeDeclaration) → NamesType E id place T → (m : TypedMatch E N G id n p v branches) → (m.place ≡ place) × (m.type ≡ T)
match_names E N G id n p v branches place T h m =
    let place_is : m.place ≡ place = same_place E id m.place place m.stands h.stands in
    (place_is, some_inj (sym m.is_type ∙ ap (λ (z : TypeInBlock). element z.block.types z.index) place_is ∙ h.is_type))

pub match_on_no_type : (E : Environment) (N : Numbering) (G : Context) (id : GlobalId) (n : ℕ) (p v t : Tree) (branches : Children) → whole_block E id ≡ None → ¬ Typed E N G (case id n p v branches) t
match_on_no_type E N G id n p v t branches none h =
    let m = parts_of_match E N G id n p v branches t h in some_is_not_none (sym none ∙ m.stands)

no_branch_left : {E : Environment} {N : Numbering} {G : Context} {id : GlobalId} {ps : List Tree} {n : ℕ} {p : Tree} {cs : List ConstructorDeclaration} {ks : Children} → Branches E N G id ps n p cs ks → (c : ConstructorDeclaration) (others : List ConstructorDeclaration) → cs ≡ c ∷ others → ks ≡ no_child → ⊥
no_branch_left no_branch c others e q = grind arith
no_branch_left (branch _ _ _ _ _ _ _ _ _) c others e q = grind arith

pub match_without_branches : (E : Environment) (N : Numbering) (G : Context) (id : GlobalId) (n : ℕ) (p v t : Tree) (place : TypeInBlock) (T : TypeDeclaration) (c : ConstructorDeclaration) (cs : List ConstructorDeclaration) → NamesType E id place T → T.constructors ≡ c ∷ cs → ¬ Typed E N G (case id n p v no_child) t
match_without_branches E N G id n p v t place T c cs named k h =
    let m = parts_of_match E N G id n p v no_child t h in
    let names = match_names E N G id n p v no_child place T named m in
    no_branch_left m.each_branch c cs (ap (λ (z : TypeDeclaration). z.constructors) names.1 ∙ k) refl

pub match_gives_a_proof : (E : Environment) (N : Numbering) (G : Context) (id : GlobalId) (n : ℕ) (p v t : Tree) (branches : Children) (place : TypeInBlock) (T : TypeDeclaration) → NamesType E id place T → HasSeveralProofs T → Typed E N G (case id n p v branches) t → (m : TypedMatch E N G id n p v branches) × (m.place ≡ place) × (m.motive_sort ≡ prop)
match_gives_a_proof E N G id n p v t branches place T named several h =
    let m = parts_of_match E N G id n p v branches t h in
    let names = match_names E N G id n p v branches place T named m in
    let arity_is : m.type.arity ≡ products several.domains (sort prop) = ap (λ (z : TypeDeclaration). z.arity) names.1 ∙ several.is_proposition in
    let constructors_are : m.type.constructors ≡ several.first ∷ several.second ∷ several.others = ap (λ (z : TypeDeclaration). z.constructors) names.1 ∙ several.constructors in
    (m, names.0, two_constructors_go_into_prop E N m.place.block.parameters m.type m.motive_sort several.domains several.first several.second several.others arity_is constructors_are m.eliminated)

pub no_large_match : (E : Environment) (N : Numbering) (G : Context) (id : GlobalId) (n : ℕ) (p v t : Tree) (branches : Children) (place : TypeInBlock) (T : TypeDeclaration) → NamesType E id place T → HasSeveralProofs T →
    ((parameters domains : List Tree) → length parameters ≡ place.block.parameters → length domains ≡ n → ¬ Typed E N (assumed (apply (ind id) (lift_all n parameters ++ variables n)) ∷ extend G domains) p (sort prop)) →
    ¬ Typed E N G (case id n p v branches) t
no_large_match E N G id n p v t branches place T named several none h =
    let r = match_gives_a_proof E N G id n p v t branches place T named several h in
    let m = r.0 in
    let count : length m.parameters ≡ place.block.parameters = m.as_many_parameters ∙ ap (λ (z : TypeInBlock). z.block.parameters) r.1 in
    let motive : Typed E N (assumed (apply (ind id) (lift_all n m.parameters ++ variables n)) ∷ extend G m.domains) p (sort prop) =
    subst (λ z. Typed E N (assumed (apply (ind id) (lift_all n m.parameters ++ variables n)) ∷ extend G m.domains) p (sort z)) r.2 m.motive in
    none m.parameters m.domains count m.as_many_domains motive

none_of : {A : Type 0} (xs : List A) → length xs ≡ 0 → xs ≡ []
none_of [] e = refl
none_of (x ∷ xs) e = absurd (omega arith)

pub no_large_match_where_plain : (E : Environment) (N : Numbering) (G : Context) (id : GlobalId) (p v t : Tree) (branches : Children) (place : TypeInBlock) (T : TypeDeclaration) → NamesType E id place T → HasSeveralProofs T → place.block.parameters ≡ 0 → (¬ Typed E N (assumed (ind id) ∷ G) p (sort prop)) → ¬ Typed E N G (case id 0 p v branches) t
no_large_match_where_plain E N G id p v t branches place T named several none not_prop =
    no_large_match E N G id 0 p v t branches place T named several
    (λ parameters domains f g h.
    let no_parameters : parameters ≡ [] = none_of parameters (f ∙ none) in
    let no_domains : domains ≡ [] = none_of domains g in
    not_prop (subst (λ ds. Typed E N (assumed (ind id) ∷ extend G ds) p (sort prop)) no_domains
    (subst (λ ps. Typed E N (assumed (apply (ind id) (lift_all 0 ps ++ [])) ∷ extend G domains) p (sort prop)) no_parameters h)))

-- two : Prop := l | r has several proofs, and nat is no proposition.
type_named : (E : Environment) (id : GlobalId) (place J : TypeInBlock) (T U : TypeDeclaration) → NamesType E id place T → whole_block E id ≡ Some J → element J.block.types J.index ≡ Some U → U ≡ T
type_named E id place J T U h s e = some_inj (sym e ∙ ap (λ (z : TypeInBlock). element z.block.types z.index) (same_place E id J place s h.stands) ∙ h.is_type)

abbrev two_type : TypeDeclaration
two_type = type_of (codes "two") (sort prop) (constructor (codes "l") (ind (id_of (codes "two"))) ∷ constructor (codes "r") (ind (id_of (codes "two"))) ∷ [])

abbrev nat_type : TypeDeclaration
nat_type = type_of (codes "nat") (sort set) (constructor (codes "O") nat ∷ constructor (codes "S") (prod nat nat) ∷ [])

pub two_has_several_proofs : (place : TypeInBlock) (T : TypeDeclaration) → NamesType (environment (inductive two_block ∷ [])) (id_of (codes "two")) place T → HasSeveralProofs T
two_has_several_proofs place T h =
    subst HasSeveralProofs (type_named (environment (inductive two_block ∷ [])) (id_of (codes "two")) place (record { block = two_block; index = 0 }) T two_type h refl refl)
    (record { domains = []; is_proposition = refl; first = constructor (codes "l") (ind (id_of (codes "two"))); second = constructor (codes "r") (ind (id_of (codes "two"))); others = []; constructors = refl })

ends : (domains : List Tree) (s : TreeSort) → conclusion_of (products domains (sort s)) ≡ sort s
ends [] s = refl
ends (a ∷ as_) s = ends as_ s

pub nat_is_no_proposition : (place : TypeInBlock) (T : TypeDeclaration) → NamesType (environment (inductive nat_block ∷ [])) (id_of (codes "nat")) place T → ¬ HasSeveralProofs T
nat_is_no_proposition place T h several =
    let is_nat : nat_type ≡ T = type_named (environment (inductive nat_block ∷ [])) (id_of (codes "nat")) place (record { block = nat_block; index = 0 }) T nat_type h refl refl in
    let arity : sort set ≡ products several.domains (sort prop) = ap (λ (z : TypeDeclaration). z.arity) is_nat ∙ several.is_proposition in
    let same : sort set ≡ sort prop = ap conclusion_of arity ∙ ends several.domains prop in
    grind arith

-- Fixes.
pub unguarded_fix_has_no_type : (E : Environment) (N : Numbering) (G : Context) (which : ℕ) (fs : List Function) (t : Tree) → (¬ Guarded E fs) → ¬ Typed E N G (fixpoint which fs) t
unguarded_fix_has_no_type E N G which fs t n h = n (typed_fix_is_guarded E N G which fs t h)

-- Applications.
head_is_typed : (E : Environment) (N : Numbering) (G : Context) (us : List Tree) (f t : Tree) → Typed E N G (apply f us) t → (a : Tree) × Typed E N G f a
head_is_typed E N G [] f t h = (t, h)
head_is_typed E N G (u ∷ us) f t h =
    let r = head_is_typed E N G us (app f u) t h in
    let parts = parts_of_applications E N G f u r.0 r.1 in
    (prod parts.0 parts.1, parts.2)

argument_is_typed : (E : Environment) (N : Numbering) (G : Context) (before after : List Tree) (f u t : Tree) → Typed E N G (apply f (before ++ u ∷ after)) t → (a : Tree) × Typed E N G u a
argument_is_typed E N G [] after f u t h =
    let r = head_is_typed E N G after (app f u) t h in
    let parts = parts_of_applications E N G f u r.0 r.1 in
    (parts.0, parts.3)
argument_is_typed E N G (w ∷ before) after f u t h = argument_is_typed E N G before after (app f w) u t h

pub instance_at_what_has_no_type : (E : Environment) (N : Numbering) (G : Context) (id : GlobalId) (before after : List Tree) (u t : Tree) → ((a : Tree) → ¬ Typed E N G u a) → ¬ Typed E N G (apply (ind id) (before ++ u ∷ after)) t
instance_at_what_has_no_type E N G id before after u t n h = let r = argument_is_typed E N G before after (ind id) u t h in n r.0 r.1

pub instance_at_what_has_another_type : (E : Environment) (N : Numbering) (G : Context) (id : GlobalId) (A : InductiveType) (before after : List Tree) (u a b z : Tree) (s : TreeSort) → inductive_type_of E id ≡ Some A → Instantiated (lift_tree 0 (length G) A.arity) before (prod a b) → Instantiated (subst_tree 0 u b) after z → (¬ Typed E N G u a) → ¬ Typed E N G (apply (ind id) (before ++ u ∷ after)) (sort s)
instance_at_what_has_another_type E N G id A before after u a b z s is_type first others n h =
    n (instance id A before after (apply (ind id) (before ++ u ∷ after)) b z is_type refl h first others)

pub application_of_what_is_no_function : (E : Environment) (N : Numbering) (G : Context) (f u t : Tree) → ((a b : Tree) → Typed E N G f (prod a b) → ¬ Typed E N G u a) → ¬ Typed E N G (app f u) t
application_of_what_is_no_function E N G f u t n h = let r = parts_of_applications E N G f u t h in n r.0 r.1 r.2 r.3

-- Products.
pub product_over_no_type : (E : Environment) (N : Numbering) (G : Context) (a b t : Tree) → (¬ HasSort E N G a) → ¬ Typed E N G (prod a b) t
product_over_no_type E N G a b t n h = n (domain_has_sort E N G a b t h)

-- Types.
pub nothing_has_a_type_without_sort : (E : Environment) (N : Numbering) (G : Context) (t a : Tree) → Formed N E → (¬ HasSort E N G a) → ¬ Derivation E N G t a
nothing_has_a_type_without_sort E N G t a f n h = n (derived_type_has_sort E N G t a (formed_shows_right E N f) h)

-- Names and variables.
pub undeclared_ids_have_no_type : (E : Environment) (N : Numbering) (G : Context) (t a : Tree) (id : GlobalId) → Mentions id t → (¬ Contains (environment_ids E) id) → ¬ Typed E N G t a
undeclared_ids_have_no_type E N G t a id m n h = n (typed_mentions E N h id m)

pub variables_outside_have_no_type : (E : Environment) (N : Numbering) (G : Context) (x : ℕ) (a : Tree) → length G ≤ x → ¬ Typed E N G (rel x) a
unfolding substitute
variables_outside_have_no_type E N G x a l h = moved (ltb x (length G)) refl (typed_keeps_under E N G (rel x) a (λ y. if ltb y (length G) then rel y else sort prop) (λ y k. kept y (length G) k) h)
  where
    kept : (y n : ℕ) → y < n → (if ltb y n then rel y else sort prop) ≡ rel y
    kept y n k = grind arith

    moved : (b : Bool) → ltb x (length G) ≡ b → (if ltb x (length G) then rel x else sort prop) ≡ rel x → ⊥
    moved b e q = grind arith
