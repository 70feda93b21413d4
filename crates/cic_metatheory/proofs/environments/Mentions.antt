-- Each id that stands in a term that has a type is declared: a derivation looks each of them up. So a term is
-- typed over no other declarations than those that it reaches. By induction on the derivation; an argument of an
-- inductive type stands in the type applied, and the parts of a Fix stand in the types and the full bodies.
use Rattle.std.proofs.Common.{◌≡◌, ◌⊎◌, inl, inr, ℕ, ◌+◌, Option, Some, None, List, [], ◌∷◌, ◌++◌, length, refl, sym, ◌∙◌, subst, Contains}
use Rattle.cic_terms.specs.Tree.{Tree, Children, app, ind}
use Rattle.cic_terms.specs.Mentions.{Mentions, ChildrenMention}
use Rattle.cic_names.specs.declared.name.GlobalId.{GlobalId}
use Rattle.cic_terms.proofs.Mentioned.{split}
use Rattle.cic_rules.specs.Numbering.{Numbering}
use Rattle.cic_rules.specs.Environment.{Environment, Context, ConstructorDeclaration, environment_ids, Meaning, meaning, constant_type_in, inductive_type_in, whole_block_in, constructor_in}
use Rattle.cic_rules.specs.Telescopes.{apply, products, abstractions, lift_domains, Function, domain_parts, function_parts, function_types, full_bodies}
use Rattle.cic_rules.specs.Typing as T
use Rattle.cic_rules.specs.Typing.{Typed, Branches, AllSorted, AllTyped, no_branch, branch, none_sorted, more_sorted, none_typed, more_typed}
use Rattle.cic_metatheory.specs.Growth.{StandsForSomething}
use Rattle.cic_metatheory.proofs.environments.Order.{meaning_declares}
use Rattle.cic_metatheory.proofs.basics.Options.{some_is_not_none}

-- Where an id stands in a row of applications, products or abstractions
in_head : (id : GlobalId) (f : Tree) (us : List Tree) → Mentions id f → Mentions id (apply f us)
in_head id f [] h = h
in_head id f (u ∷ us) h = in_head id (app f u) us (inr (inl h))

in_argument : (id : GlobalId) (f u : Tree) (before after : List Tree) → Mentions id u → Mentions id (apply f (before ++ u ∷ after))
in_argument id f u [] after h = in_head id (app f u) after (inr (inr (inl h)))
in_argument id f u (w ∷ before) after h = in_argument id (app f w) u before after h

in_domain : (id : GlobalId) (above : ℕ) (as_ : List Tree) (t : Tree) → ChildrenMention id (domain_parts above as_) → Mentions id (products as_ t)
in_domain id above [] t h = absurd h
in_domain id above (a ∷ as_) t (inl h) = inr (inl h)
in_domain id above (a ∷ as_) t (inr h) = inr (inr (inl (in_domain id (above + 1) as_ t h)))

under_products : (id : GlobalId) (as_ : List Tree) (t : Tree) → Mentions id t → Mentions id (products as_ t)
under_products id [] t h = h
under_products id (a ∷ as_) t h = inr (inr (inl (under_products id as_ t h)))

under_abstractions : (id : GlobalId) (as_ : List Tree) (t : Tree) → Mentions id t → Mentions id (abstractions as_ t)
under_abstractions id [] t h = h
under_abstractions id (a ∷ as_) t h = inr (inr (inl (under_abstractions id as_ t h)))

-- What stands in the parts of a Fix stands in the type or in the full body of a function.
abbrev AnyMentions : GlobalId → List Tree → Type 0
AnyMentions id [] = ⊥
AnyMentions id (t ∷ ts) = Mentions id t ⊎ AnyMentions id ts

in_functions : (id : GlobalId) (all all' : ℕ) (fs : List Function) → ChildrenMention id (function_parts all fs) → AnyMentions id (function_types fs) ⊎ AnyMentions id (full_bodies all' fs)
in_functions id all all' [] h = absurd h
in_functions id all all' (f ∷ fs) h = elim (split id (domain_parts 0 f.domains) _ h) [
  | inl k ↦ inl (inl (in_domain id 0 f.domains f.codomain k))
  | inr (inl k) ↦ inl (inl (under_products id f.domains f.codomain k))
  | inr (inr (inl k)) ↦ inr (inl (under_abstractions id (lift_domains 0 all' f.domains) f.body k))
  | inr (inr (inr k)) ↦ elim (in_functions id all all' fs k) [ inl q ↦ inl (inr q) | inr q ↦ inr (inr q) ]
]

-- An id that is looked up is declared.
has_meaning : {A : Type 0} (look : Option Meaning → Option A) → look None ≡ None → (o : Option Meaning) (a : A) → look o ≡ Some a → (m : Meaning) × (o ≡ Some m)
has_meaning look n None a e = some_is_not_none (sym n ∙ e)
has_meaning look n (Some m) a e = (m, refl)

looked_up : {A : Type 0} (E : Environment) (look : Option Meaning → Option A) → look None ≡ None → (id : GlobalId) (a : A) → look (meaning E id) ≡ Some a → StandsForSomething E id
looked_up E look n id a e = has_meaning look n (meaning E id) a e

named : (E : Environment) (c id : GlobalId) → c ≡ id → StandsForSomething E c → StandsForSomething E id
named E c id e h = subst (StandsForSomething E) e h

mutual
  pub typed_means : (E : Environment) (N : Numbering) {G : Context} {t a : Tree} → Typed E N G t a → (id : GlobalId) → Mentions id t → StandsForSomething E id
  typed_means E N (T.Typed.sorts p) id (inl h) = absurd h
  typed_means E N (T.Typed.sorts p) id (inr h) = absurd h
  typed_means E N (T.Typed.variable p q) id h = absurd h
  typed_means E N (T.Typed.constant {c = c} {a = a} p q) id (inl h) = named E c id h (looked_up E constant_type_in refl c a p)
  typed_means E N (T.Typed.constant p q) id (inr h) = absurd h
  typed_means E N (T.Typed.inductive_type {c = c} {a = a} p q) id (inl h) = named E c id h (looked_up E inductive_type_in refl c a p)
  typed_means E N (T.Typed.inductive_type p q) id (inr h) = absurd h
  typed_means E N (T.Typed.constructor {c = c} {K = K} p q) id (inl h) = named E c id h (looked_up E constructor_in refl c K p)
  typed_means E N (T.Typed.constructor p q) id (inr h) = absurd h
  typed_means E N (T.Typed.product p q r) id (inl h) = absurd h
  typed_means E N (T.Typed.product p q r) id (inr (inl h)) = typed_means E N p id h
  typed_means E N (T.Typed.product p q r) id (inr (inr (inl h))) = typed_means E N q id h
  typed_means E N (T.Typed.product p q r) id (inr (inr (inr h))) = absurd h
  typed_means E N (T.Typed.abstraction p q) id (inl h) = absurd h
  typed_means E N (T.Typed.abstraction p q) id (inr (inl h)) = typed_means E N p id (inr (inl h))
  typed_means E N (T.Typed.abstraction p q) id (inr (inr (inl h))) = typed_means E N q id h
  typed_means E N (T.Typed.abstraction p q) id (inr (inr (inr h))) = absurd h
  typed_means E N (T.Typed.application p q e) id (inl h) = absurd h
  typed_means E N (T.Typed.application p q e) id (inr (inl h)) = typed_means E N p id h
  typed_means E N (T.Typed.application p q e) id (inr (inr (inl h))) = typed_means E N q id h
  typed_means E N (T.Typed.application p q e) id (inr (inr (inr h))) = absurd h
  typed_means E N (T.Typed.local_definition o p q e) id (inl h) = absurd h
  typed_means E N (T.Typed.local_definition o p q e) id (inr (inl h)) = typed_means E N p id h
  typed_means E N (T.Typed.local_definition o p q e) id (inr (inr (inl h))) = typed_means E N o id h
  typed_means E N (T.Typed.local_definition o p q e) id (inr (inr (inr (inl h)))) = typed_means E N q id h
  typed_means E N (T.Typed.local_definition o p q e) id (inr (inr (inr (inr h)))) = absurd h
  typed_means E N (T.Typed.matching {id = c} {place = place} _ _ _ _ w _ _ _ _ _ _ _ _ _ _ _ _) id (inl h) = named E c id h (looked_up E whole_block_in refl c place w)
  typed_means E N (T.Typed.matching _ _ _ _ _ _ _ _ _ _ _ _ _ p _ _ _) id (inr (inl h)) = typed_means E N p id h
  typed_means E N (T.Typed.matching _ _ _ _ _ _ _ _ _ v _ _ _ _ _ _ _) id (inr (inr (inl h))) = typed_means E N v id h
  typed_means E N (T.Typed.matching _ _ _ _ _ _ _ _ _ _ _ _ _ _ _ b _) id (inr (inr (inr h))) = branches_mention E N b id h
  typed_means E N (T.Typed.fixpoint _ _ _ _ _ _ _ _) id (inl h) = absurd h
  typed_means E N (T.Typed.fixpoint fs es ep ef st bt g et) id (inr h) =
      elim (in_functions id (length fs) (length fs) fs (subst (ChildrenMention id) ep h)) [ inl k ↦ sorted_mention E N st id k | inr k ↦ all_mention E N bt id k ]
  typed_means E N (T.Typed.conversion p q l) id h = typed_means E N p id h
  typed_means E N (T.Typed.instance {u = u} c A before after w b z d e p x y) id h =
      typed_means E N p id (subst (Mentions id) (sym e) (in_argument id (ind c) u before after h))

  branches_mention : (E : Environment) (N : Numbering) {G : Context} {c : GlobalId} {qs : List Tree} {n : ℕ} {p : Tree} {cs : List ConstructorDeclaration} {ks : Children} →
      Branches E N G c qs n p cs ks → (id : GlobalId) → ChildrenMention id ks → StandsForSomething E id
  branches_mention E N no_branch id h = absurd h
  branches_mention E N (branch _ _ _ _ _ _ _ b bs) id (inl h) = typed_means E N b id h
  branches_mention E N (branch _ _ _ _ _ _ _ b bs) id (inr h) = branches_mention E N bs id h

  sorted_mention : (E : Environment) (N : Numbering) {G : Context} {ts : List Tree} → AllSorted E N G ts → (id : GlobalId) → AnyMentions id ts → StandsForSomething E id
  sorted_mention E N none_sorted id h = absurd h
  sorted_mention E N (more_sorted p q) id (inl h) = typed_means E N p id h
  sorted_mention E N (more_sorted p q) id (inr h) = sorted_mention E N q id h

  all_mention : (E : Environment) (N : Numbering) {G : Context} {ts us : List Tree} → AllTyped E N G ts us → (id : GlobalId) → AnyMentions id ts → StandsForSomething E id
  all_mention E N none_typed id h = absurd h
  all_mention E N (more_typed p q) id (inl h) = typed_means E N p id h
  all_mention E N (more_typed p q) id (inr h) = all_mention E N q id h

pub typed_mentions : (E : Environment) (N : Numbering) {G : Context} {t a : Tree} → Typed E N G t a → (id : GlobalId) → Mentions id t → Contains (environment_ids E) id
typed_mentions E N p id h = let r = typed_means E N p id h in meaning_declares E id r.0 r.1
