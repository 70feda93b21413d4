-- The test of elimination is exact where it decides without a counted call; and where it makes calls, it passes exactly
-- where they find Prop for each argument of the one constructor, which the rule of elimination asks for.
use Rattle.std.proofs.Common.{◌≡◌, ◌≢◌, ◌↔◌, ℕ, Bool, true, false, not, ◌||◌, if◌then◌else◌, List, Some, [], ◌∷◌, ◌++◌, length, take, drop, refl, sym, ap, ap₂, ◌∙◌, arith, subst}
use Rattle.cic_terms.specs.Tree.{TreeSort, prop, set, typ, own, Tree, sort}
use Rattle.cic_names.specs.declared.name.GlobalId.{GlobalId}
use Rattle.cic_rules.specs.Numbering.{Numbering, MeetsAll}
use Rattle.cic_rules.specs.Environment.{Environment, Context, TypeInBlock, TypeDeclaration, ConstructorDeclaration, whole_block, element, assumed}
use Rattle.cic_rules.specs.Telescopes.{products, domains_of, conclusion_of, extend}
use Rattle.cic_rules.specs.Inductive.{ArityShape, ConstructorParts}
use Rattle.cic_rules.specs.Typing.{Eliminated, into_prop, of_no_proposition, without_constructor, of_propositions, Propositions, no_proposition, one_proposition, WellFormedContext}
use Rattle.cic_counted.specs.Outcome.{Budget, done, stops, refused, bad_elimination, follow, give, require}
use Rattle.cic_counted.specs.Inference.{Calls, calls_at, is_prop, ends_in_prop, all_propositions, eliminates_constructors, eliminates}
use Rattle.cic_counted.proofs.Taken.{follow_done, done_rest}
use Rattle.cic_counted.proofs.TakenTyping.{sort_of_done}
use Rattle.cic_soundness.specs.FoundSorts.{FoundPropositions, none_to_find, one_found}
use Rattle.cic_metatheory.specs.WellTypedLookups.{WellTypedLookups, ConstructorShown}
use Rattle.cic_metatheory.proofs.basics.ConstructorTypes.{with_parameters}
use Rattle.cic_soundness.proofs.evaluations.Sorts.{inserted_met}
use Rattle.cic_soundness.proofs.inferences.Calls.{sort_is_right}
use Rattle.cic_soundness.proofs.inferences.Elimination.{sort_is_prop, eliminated_freely, opened_constructor}
use Rattle.cic_soundness.proofs.inferences.Typed.{only_element}
use Rattle.cic_metatheory.proofs.typings.Instances.{assumed_well_formed}
use Rattle.cic_soundness.proofs.blocks.Shapes.{constructor_read}
use Rattle.cic_metatheory.proofs.basics.Products.{conclusion_of_products}

-- A type that is no proposition, or the sort Prop
abbrev pub goes_freely : TypeDeclaration → TreeSort → Bool
goes_freely T s = not (ends_in_prop (conclusion_of T.arity)) || is_prop s

abbrev NotOne : TypeDeclaration → Type 0
NotOne T = (c : ConstructorDeclaration) → T.constructors ≢ c ∷ []

not_prop : (s : TreeSort) → s ≢ prop → is_prop s ≡ false
not_prop prop h = absurd (h refl)
not_prop set h = refl
not_prop (typ e) h = refl
not_prop (own i) h = refl

or_true : (a : Bool) → (a || true) ≡ true
or_true true = refl
or_true false = refl

pub into_prop_freely : (T : TypeDeclaration) → goes_freely T prop ≡ true
into_prop_freely T = or_true (not (ends_in_prop (conclusion_of T.arity)))

ends_in : (domains : List Tree) (s : TreeSort) (arity : Tree) → arity ≡ products domains (sort s) → conclusion_of arity ≡ sort s
ends_in domains s arity e = ap conclusion_of e ∙ conclusion_of_products domains (sort s)

pub no_proposition_freely : (T : TypeDeclaration) (s s' : TreeSort) (domains : List Tree) → T.arity ≡ products domains (sort s') → s' ≢ prop → goes_freely T s ≡ true
no_proposition_freely T s s' domains e n = ap (λ z. not (ends_in_prop z) || is_prop s) (ends_in domains s' T.arity e) ∙ ap (λ b. not b || is_prop s) (not_prop s' n)

proposition_decides : (T : TypeDeclaration) (s : TreeSort) (domains : List Tree) → T.arity ≡ products domains (sort prop) → s ≢ prop → goes_freely T s ≡ false
proposition_decides T s domains e n = ap (λ z. not (ends_in_prop z) || is_prop s) (ends_in domains prop T.arity e) ∙ not_prop s n

-- The test by its two questions
by_constructors : (calls : Calls) (id : GlobalId) (r : ℕ) (T : TypeDeclaration) (s : TreeSort) (b : Budget) → goes_freely T s ≡ false → eliminates calls id r T s b ≡ eliminates_constructors calls id r T.constructors b
by_constructors calls id r T s b q = ap (λ test. (if test then give tt else eliminates_constructors calls id r T.constructors) b) q

pub at_once : (calls : Calls) (id : GlobalId) (r : ℕ) (T : TypeDeclaration) (s : TreeSort) (b : Budget) → goes_freely T s ≡ true → eliminates calls id r T s b ≡ done tt b
at_once calls id r T s b q = ap (λ test. (if test then give tt else eliminates_constructors calls id r T.constructors) b) q

-- Without a counted call
pub passed_without_calls : (E : Environment) (N : Numbering) (calls : Calls) (id : GlobalId) (r : ℕ) (T : TypeDeclaration) (s : TreeSort) (domains : List Tree) (u : Unit {0}) (b b' : Budget) → ArityShape domains T.arity →
    ((c : ConstructorDeclaration) → T.constructors ≢ c ∷ []) → eliminates calls id r T s b ≡ done u b' → Eliminated E N r T s
passed_without_calls E N calls id r T s domains u b b' h n e = by_test (goes_freely T s) refl T.constructors refl
  where
    by_test : (test : Bool) → goes_freely T s ≡ test → (cs : List ConstructorDeclaration) → T.constructors ≡ cs → Eliminated E N r T s
    by_test true q cs l = eliminated_freely E N r T s domains h q
    by_test false q [] l = without_constructor l
    by_test false q (c ∷ []) l = absurd (n c l)
    by_test false q (c ∷ d ∷ cs) l =
        let k : stops (refused (bad_elimination id)) ≡ done u b' = sym (by_constructors calls id r T s b q ∙ ap (λ z. eliminates_constructors calls id r z b) l) ∙ e in
        absurd (grind (arith, k))

pub holds_without_calls : (E : Environment) (N : Numbering) (calls : Calls) (id : GlobalId) (r : ℕ) (T : TypeDeclaration) (s : TreeSort) (b : Budget) → ((c : ConstructorDeclaration) → T.constructors ≢ c ∷ []) → Eliminated E N r T s →
    eliminates calls id r T s b ≡ done tt b
holds_without_calls E N calls id r T s b n into_prop = at_once calls id r T prop b (into_prop_freely T)
holds_without_calls E N calls id r T s b n (of_no_proposition domains s' e q) = at_once calls id r T s b (no_proposition_freely T s s' domains e q)
holds_without_calls E N calls id r T s b n (without_constructor l) = by_test (goes_freely T s) refl
  where
    by_test : (test : Bool) → goes_freely T s ≡ test → eliminates calls id r T s b ≡ done tt b
    by_test true q = at_once calls id r T s b q
    by_test false q = by_constructors calls id r T s b q ∙ ap (λ z. eliminates_constructors calls id r z b) l
holds_without_calls E N calls id r T s b n (of_propositions c parts l h) = absurd (n c l)

pub refused_without_calls : (E : Environment) (N : Numbering) (calls : Calls) (id : GlobalId) (r : ℕ) (T : TypeDeclaration) (s : TreeSort) (domains : List Tree) (b : Budget) → ArityShape domains T.arity →
    ((c : ConstructorDeclaration) → T.constructors ≢ c ∷ []) → (Eliminated E N r T s → ⊥) → eliminates calls id r T s b ≡ stops (refused (bad_elimination id))
refused_without_calls E N calls id r T s domains b h n k = by_test (goes_freely T s) refl T.constructors refl
  where
    by_test : (test : Bool) → goes_freely T s ≡ test → (cs : List ConstructorDeclaration) → T.constructors ≡ cs → eliminates calls id r T s b ≡ stops (refused (bad_elimination id))
    by_test true q cs l = absurd (k (eliminated_freely E N r T s domains h q))
    by_test false q [] l = absurd (k (without_constructor l))
    by_test false q (c ∷ []) l = absurd (n c l)
    by_test false q (c ∷ d ∷ cs) l = by_constructors calls id r T s b q ∙ ap (λ z. eliminates_constructors calls id r z b) l

-- The rule for a proposition with one constructor
one_is : {c d : ConstructorDeclaration} → c ∷ [] ≡ d ∷ [] → c ≡ d
one_is e = cc

sort_inj : {s s' : TreeSort} → sort s ≡ sort s' → s ≡ s'
sort_inj e = cc

asks_for_propositions : (E : Environment) (N : Numbering) (r : ℕ) (T : TypeDeclaration) (s : TreeSort) (c : ConstructorDeclaration) (domains : List Tree) → T.arity ≡ products domains (sort prop) → s ≢ prop → T.constructors ≡ c ∷ [] →
    Eliminated E N r T s → (parts : ConstructorParts r T.id c.type) × Propositions E N (extend [] parts.parameters) parts.arguments
asks_for_propositions E N r T s c domains a n l into_prop = absurd (n refl)
asks_for_propositions E N r T s c domains a n l (of_no_proposition ds s' e q) =
    absurd (q (sort_inj (sym (ends_in ds s' T.arity e) ∙ ends_in domains prop T.arity a)))
asks_for_propositions E N r T s c domains a n l (without_constructor e) = let f : ◌≡◌ {A = List ConstructorDeclaration} [] (c ∷ []) = sym e ∙ l in absurd (grind (arith, f))
asks_for_propositions E N r T s c domains a n l (of_propositions d parts e h) =
    subst (λ z. (parts : ConstructorParts r T.id z.type) × Propositions E N (extend [] parts.parameters) parts.arguments) (one_is (sym e ∙ l)) (parts, h)

pub propositions_rule : (E : Environment) (N : Numbering) (r : ℕ) (T : TypeDeclaration) (s : TreeSort) (c : ConstructorDeclaration) (domains : List Tree) → T.arity ≡ products domains (sort prop) → s ≢ prop → T.constructors ≡ c ∷ [] →
    Eliminated E N r T s ↔ ((parts : ConstructorParts r T.id c.type) × Propositions E N (extend [] parts.parameters) parts.arguments)
propositions_rule E N r T s c domains a n l = (asks_for_propositions E N r T s c domains a n l, λ p. of_propositions c p.0 l p.1)

by_propositions : (E : Environment) (N : Numbering) (r : ℕ) (T : TypeDeclaration) (s : TreeSort) (c : ConstructorDeclaration) (parts : ConstructorParts r T.id c.type) → T.constructors ≡ c ∷ [] →
    Propositions E N (extend [] (take r (domains_of c.type))) (drop r (domains_of c.type)) → Eliminated E N r T s
by_propositions E N r T s c parts l p =
    let k = constructor_read r parts.parameters parts.arguments parts.applied_to T.id c.type parts.as_many parts.is_type in
    of_propositions c parts l
    (subst (λ z. Propositions E N (extend [] z) parts.arguments) k.taken (subst (Propositions E N (extend [] (take r (domains_of c.type)))) k.dropped p))

-- The test for one
pub found_are_passed : (calls : Calls) (id : GlobalId) {G : Context} {as_ : List Tree} {b b' : Budget} → FoundPropositions calls G as_ b b' → all_propositions calls id G as_ b ≡ done tt b'
found_are_passed calls id none_to_find = refl
found_are_passed calls id (one_found {G = G} {a = a} {as_ = as_} e r) =
    ap (λ o. follow o (λ s. λ b. follow (require (is_prop s) (bad_elimination id) b) (λ _. all_propositions calls id (assumed a ∷ G) as_))) e ∙ found_are_passed calls id r

prop_required : (s : TreeSort) (id : GlobalId) (u : Unit {0}) (b b' : Budget) → require (is_prop s) (bad_elimination id) b ≡ done u b' → (s ≡ prop) × (b ≡ b')
prop_required s id u b b' e = by_test (is_prop s) refl e
  where
    by_test : (test : Bool) → is_prop s ≡ test → require test (bad_elimination id) b ≡ done u b' → (s ≡ prop) × (b ≡ b')
    by_test true q e = (sort_is_prop s q, done_rest e)
    by_test false q e = absurd (grind arith)

pub passed_are_found : (calls : Calls) (id : GlobalId) (G : Context) (as_ : List Tree) (u : Unit {0}) (b b' : Budget) → all_propositions calls id G as_ b ≡ done u b' → FoundPropositions calls G as_ b b'
passed_are_found calls id G [] u b b' e = subst (FoundPropositions calls G [] b) (done_rest e) none_to_find
passed_are_found calls id G (a ∷ as_) u b b' e =
    let i = follow_done (calls.sort_of G a b) _ u b' e in
    let j = follow_done (require (is_prop i.0) (bad_elimination id) i.1) (λ _. all_propositions calls id (assumed a ∷ G) as_) u b' i.3 in
    let p = prop_required i.0 id j.0 i.1 j.1 j.2 in
    one_found (i.2 ∙ ap₂ (λ x y. done x y) p.0 p.1) (passed_are_found calls id (assumed a ∷ G) as_ u j.1 b' j.3)

pub one_constructor_test : (calls : Calls) (id : GlobalId) (r : ℕ) (T : TypeDeclaration) (s : TreeSort) (c : ConstructorDeclaration) (domains : List Tree) (b b' : Budget) → T.arity ≡ products domains (sort prop) → s ≢ prop → T.constructors ≡ c ∷ [] →
    (eliminates calls id r T s b ≡ done tt b') ↔ FoundPropositions calls (extend [] (take r (domains_of c.type))) (drop r (domains_of c.type)) b b'
one_constructor_test calls id r T s c domains b b' a n l =
    let e = by_constructors calls id r T s b (proposition_decides T s domains a n) ∙ ap (λ z. eliminates_constructors calls id r z b) l in (
      λ q. passed_are_found calls id (extend [] (take r (domains_of c.type))) (drop r (domains_of c.type)) tt b b' (sym e ∙ q),
      λ f. e ∙ found_are_passed calls id f,
    )

-- What the calls find is derivable.
met_before : (E : Environment) (N : Numbering) (k : ℕ) {G : Context} {as_ : List Tree} {b b' : Budget} → FoundPropositions (calls_at k E) G as_ b b' → MeetsAll N b'.found → MeetsAll N b.found
met_before E N k none_to_find met = met
met_before E N k (one_found {G = G} {a = a} {b = b} {b' = b'} e r) met =
    let took = sort_of_done E k G a prop b b' e in
    (inserted_met N b.found took.0.found (subst (MeetsAll N) took.3.found (met_before E N k r met))).1

pub found_are_propositions : (E : Environment) (N : Numbering) (k : ℕ) → WellTypedLookups E N → {G : Context} {as_ : List Tree} {b b' : Budget} → FoundPropositions (calls_at k E) G as_ b b' → WellFormedContext E N G → MeetsAll N b'.found → Propositions E N G as_
found_are_propositions E N k right none_to_find w met = no_proposition
found_are_propositions E N k right (one_found {G = G} {a = a} {b = b} {b' = b'} e r) w met =
    let typed = sort_is_right E N G k a prop b b' right w e (met_before E N k r met) in
    one_proposition typed (found_are_propositions E N k right r (assumed_well_formed E N G a (record { its_sort = prop; typed = typed }) w) met)

pub passed_elimination_holds : (E : Environment) (N : Numbering) (k : ℕ) (id : GlobalId) (place : TypeInBlock) (T : TypeDeclaration) (s : TreeSort) (u : Unit {0}) (b b' : Budget) → WellTypedLookups E N →
    whole_block E id ≡ Some place → element place.block.types place.index ≡ Some T → eliminates (calls_at k E) id place.block.parameters T s b ≡ done u b' → MeetsAll N b'.found → Eliminated E N place.block.parameters T s
passed_elimination_holds E N k id place T s u b b' right found at e met = by_test (goes_freely T s) refl T.constructors refl
  where
    by_test : (test : Bool) → goes_freely T s ≡ test → (cs : List ConstructorDeclaration) → T.constructors ≡ cs → Eliminated E N place.block.parameters T s
    by_test true q cs l = eliminated_freely E N place.block.parameters T s (right.types id place T found at).domains (right.types id place T found at).arity q
    by_test false q [] l = without_constructor l
    by_test false q (c ∷ []) l =
        let r = place.block.parameters in
        let shown = right.types id place T found at in
        let n = length shown.arity.indices in
        let h = only_element (ConstructorShown E N shown.domains T.id n) T.constructors c l shown.constructors in
        let opened = opened_constructor E N r n T.id c shown.domains h.shape shown.as_many h.sorted in
        let o = sym (by_constructors (calls_at k E) id r T s b q ∙ ap (λ z. eliminates_constructors (calls_at k E) id r z b) l) ∙ e in
        let f = passed_are_found (calls_at k E) id (extend [] (take r (domains_of c.type))) (drop r (domains_of c.type)) u b b' o in
        by_propositions E N r T s c (with_parameters h.shape.parts shown.as_many) l (found_are_propositions E N k right f (subst (λ z. WellFormedContext E N (extend [] z)) (sym opened.parameters) opened.well_formed) met)
    by_test false q (c ∷ d ∷ cs) l =
        let o : stops (refused (bad_elimination id)) ≡ done u b' = sym (by_constructors (calls_at k E) id place.block.parameters T s b q ∙ ap (λ z. eliminates_constructors (calls_at k E) id place.block.parameters z b) l) ∙ e in
        absurd (grind (arith, o))

-- A sort that is found and is not Prop ends the test.
other_sort_refused : (s : TreeSort) (id : GlobalId) (b : Budget) → s ≢ prop → require (is_prop s) (bad_elimination id) b ≡ stops (refused (bad_elimination id))
other_sort_refused s id b n = ap (λ test. require test (bad_elimination id) b) (not_prop s n)

first_other_sort_refused : (calls : Calls) (id : GlobalId) {G : Context} {before : List Tree} {b b' : Budget} (a : Tree) (after : List Tree) (s : TreeSort) (b'' : Budget) → FoundPropositions calls G before b b' →
    calls.sort_of (extend G before) a b' ≡ done s b'' → s ≢ prop → all_propositions calls id G (before ++ a ∷ after) b ≡ stops (refused (bad_elimination id))
first_other_sort_refused calls id a after s b'' (none_to_find {G = G}) e n =
    ap (λ o. follow o (λ s. λ b. follow (require (is_prop s) (bad_elimination id) b) (λ _. all_propositions calls id (assumed a ∷ G) after))) e
    ∙ ap (λ o. follow o (λ _. all_propositions calls id (assumed a ∷ G) after)) (other_sort_refused s id b'' n)
first_other_sort_refused calls id a after s b'' (one_found {G = G} {a = x} {as_ = before} f r) e n =
    ap (λ o. follow o (λ s. λ b. follow (require (is_prop s) (bad_elimination id) b) (λ _. all_propositions calls id (assumed x ∷ G) (before ++ a ∷ after)))) f
    ∙ first_other_sort_refused calls id a after s b'' r e n

pub other_sort_ends_test : (calls : Calls) (id : GlobalId) (r : ℕ) (T : TypeDeclaration) (s s' : TreeSort) (c : ConstructorDeclaration) (domains before after : List Tree) (a : Tree) (b b' b'' : Budget) → T.arity ≡ products domains (sort prop) → s ≢ prop → T.constructors ≡ c ∷ [] →
    drop r (domains_of c.type) ≡ before ++ a ∷ after → FoundPropositions calls (extend [] (take r (domains_of c.type))) before b b' → calls.sort_of (extend (extend [] (take r (domains_of c.type))) before) a b' ≡ done s' b'' → s' ≢ prop →
    eliminates calls id r T s b ≡ stops (refused (bad_elimination id))
other_sort_ends_test calls id r T s s' c domains before after a b b' b'' h n l split f e n' =
    by_constructors calls id r T s b (proposition_decides T s domains h n) ∙ ap (λ z. eliminates_constructors calls id r z b) l
    ∙ ap (λ z. all_propositions calls id (extend [] (take r (domains_of c.type))) z b) split ∙ first_other_sort_refused calls id a after s' b'' f e n'
