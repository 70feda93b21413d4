-- Two counted calls that answer the same, and whose value has a property. Calls that are put together from such calls
-- are such calls. And what the lookups give, where what ids stand for names ids of a set alone. The check of a
-- declaration is such a call over two environments that agree, since it is put together from these.
use Rattle.std.proofs.Common.{◌≡◌, ℕ, Bool, true, false, if◌then◌else◌, Option, Some, None, List, [], ◌∷◌, refl, ap, ◌∙◌, subst}
use Rattle.std.specs.Prelude.{option_map}
use Rattle.cic_terms.specs.Tree.{Tree}
use Rattle.cic_names.specs.declared.name.GlobalId.{GlobalId}
use Rattle.cic_rules.specs.Inductive.{Each}
use Rattle.cic_rules.specs.Environment.{ConstructorDeclaration, TypeDeclaration, Block, Meaning, constant, whole_type, bare_type, constructor, element, constant_type_in, transparent_body_in, inductive_type_in_block, inductive_type_in, whole_block_in, constructor_in_type, constructor_in_block, constructor_in}
use Rattle.cic_counted.specs.Outcome.{Budget, Outcome, done, stops, Stopped, Cause, deep, refused, Counted, follow, ◌>>=◌, ◌>>◌, give, stop, or_refuse, is_small, fitting, fitting_all}
use Rattle.cic_counted.proofs.Taken.{done_value}
use Rattle.cic_soundness.proofs.independence.Terms.{TreeIn, TreesIn}
use Rattle.cic_metatheory.proofs.basics.Elements.{IfThere, each_element}

-- The property that every value has.
abbrev pub Any : {A : Type 0} → A → Type 0
Any a = Unit {0}

pub record Alike {A : Type 0} (P : A → Type 0) (m m' : Counted A) : Type 0 where
  pub same : (b : Budget) → m b ≡ m' b
  pub keeps : (a : A) (b b' : Budget) → m b ≡ done a b' → P a

pub alike_itself : {A : Type 0} (m : Counted A) → Alike Any m m
alike_itself m = record { same = λ b. refl; keeps = λ a b b' e. tt }

pub alike_give : {A : Type 0} (P : A → Type 0) (a : A) → P a → Alike P (give a) (give a)
alike_give P a h = record { same = λ b. refl; keeps = λ a' b b' e. subst P (done_value e) h }

pub alike_stop : {A : Type 0} (P : A → Type 0) (s : Stopped) → Alike P (stop s) (stop s)
alike_stop P s = record { same = λ b. refl; keeps = λ a b b' e. cc }

follow_same : {A B : Type 0} (o : Outcome A) (f f' : A → Counted B) → ((a : A) (b : Budget) → o ≡ done a b → f a b ≡ f' a b) → follow o f ≡ follow o f'
follow_same (done a b) f f' h = h a b refl
follow_same (stops s) f f' h = refl

follow_keeps : {A B : Type 0} (Q : B → Type 0) (o : Outcome A) (f : A → Counted B) (c : B) (b' : Budget) → ((a : A) (b : Budget) → o ≡ done a b → f a b ≡ done c b' → Q c) → follow o f ≡ done c b' → Q c
follow_keeps Q (done a b) f c b' h e = h a b refl e
follow_keeps Q (stops s) f c b' h e = cc

pub alike_bind : {A B : Type 0} {P : A → Type 0} {Q : B → Type 0} {m m' : Counted A} {f f' : A → Counted B} → Alike P m m' → ((a : A) → P a → Alike Q (f a) (f' a)) → Alike Q (m >>= f) (m' >>= f')
alike_bind {Q = Q} {m = m} {m' = m'} {f = f} {f' = f'} p q = record {
  same = λ b. follow_same (m b) f f' (λ a b' e. (q a (p.keeps a b b' e)).same b') ∙ ap (λ o. follow o f') (p.same b);
  keeps = λ c b b'' e. follow_keeps Q (m b) f c b'' (λ a b' h k. (q a (p.keeps a b b' h)).keeps c b' b'' k) e;
}

pub alike_then : {A B : Type 0} {P : A → Type 0} {Q : B → Type 0} {m m' : Counted A} {n n' : Counted B} → Alike P m m' → Alike Q n n' → Alike Q (m >> n) (m' >> n')
alike_then {Q = Q} {m = m} {m' = m'} {n = n} {n' = n'} p q = record {
  same = λ b. follow_same (m b) (λ _. n) (λ _. n') (λ a b' e. q.same b') ∙ ap (λ o. follow o (λ _. n')) (p.same b);
  keeps = λ c b b'' e. follow_keeps Q (m b) (λ _. n) c b'' (λ a b' h k. q.keeps c b' b'' k) e;
}

pub alike_if : {A : Type 0} {P : A → Type 0} (c : Bool) {m m' n n' : Counted A} → Alike P m m' → Alike P n n' → Alike P (if c then m else n) (if c then m' else n')
alike_if true p q = p
alike_if false p q = q

-- Calls that look at the rest of the budget first.
pub alike_within : {A : Type 0} {P : A → Type 0} {m m' : Budget → Counted A} → ((b : Budget) → Alike P (m b) (m' b)) → Alike P (λ b. m b b) (λ b. m' b b)
alike_within p = record { same = λ b. (p b).same b; keeps = λ a b b' e. (p b).keeps a b b' e }

pub alike_to : {A : Type 0} {P : A → Type 0} {m m' m'' : Counted A} → m' ≡ m'' → Alike P m m' → Alike P m m''
alike_to {P = P} {m = m} e p = subst (Alike P m) e p

pub alike_or_refuse : {A : Type 0} (P : A → Type 0) (o : Option A) (c : Cause) → IfThere P o → Alike P (or_refuse o c) (or_refuse o c)
alike_or_refuse P None c h = alike_stop P (refused c)
alike_or_refuse P (Some a) c h = alike_give P a h

module _ (S : GlobalId → Type 0) where
  pub alike_fitting : (t : Tree) → TreeIn S t → Alike (TreeIn S) (fitting t) (fitting t)
  alike_fitting t h = alike_if (is_small t) (alike_give (TreeIn S) t h) (alike_stop (TreeIn S) deep)

  pub alike_fitting_all : (ts : List Tree) → TreesIn S ts → Alike (TreesIn S) (fitting_all ts) (fitting_all ts)
  alike_fitting_all [] h = alike_give (TreesIn S) [] tt
  alike_fitting_all (t ∷ ts) h =
      alike_bind (alike_fitting t h.0) (λ u k. alike_bind (alike_fitting_all ts h.1) (λ us ks. alike_give (TreesIn S) (u ∷ us) (k, ks)))

  -- All ids of a constructor, a type of a block, and what an id stands for are in the set.
  abbrev pub ConstructorIn : ConstructorDeclaration → Type 0
  ConstructorIn c = S c.id × TreeIn S c.type

  abbrev pub TypeIn : TypeDeclaration → Type 0
  TypeIn t = S t.id × TreeIn S t.arity × Each ConstructorIn t.constructors

  abbrev pub MeaningIn : Meaning → Type 0
  MeaningIn (constant type body) = TreeIn S type × IfThere (TreeIn S) body
  MeaningIn (whole_type block index) = Each TypeIn block.types
  MeaningIn (bare_type block index) = Each (λ t. TreeIn S t.arity) block.types
  MeaningIn (constructor block index place) = Each TypeIn block.types

  pub constant_in : (o : Option Meaning) → IfThere MeaningIn o → IfThere (TreeIn S) (constant_type_in o)
  constant_in (Some (constant type body)) h = h.0
  constant_in _ h = tt

  pub transparent_in : (o : Option Meaning) → IfThere MeaningIn o → IfThere (TreeIn S) (transparent_body_in o)
  transparent_in (Some (constant type body)) h = h.1
  transparent_in _ h = tt

  whole_arity_in : (block : Block) (o : Option TypeDeclaration) → IfThere TypeIn o → IfThere (TreeIn S) (option_map (λ a. a.arity) (inductive_type_in_block block o))
  whole_arity_in block None h = tt
  whole_arity_in block (Some t) h = h.1

  bare_arity_in : (block : Block) (o : Option TypeDeclaration) → IfThere (λ t. TreeIn S t.arity) o → IfThere (TreeIn S) (option_map (λ a. a.arity) (inductive_type_in_block block o))
  bare_arity_in block None h = tt
  bare_arity_in block (Some t) h = h

  pub inductive_in : (o : Option Meaning) → IfThere MeaningIn o → IfThere (TreeIn S) (option_map (λ a. a.arity) (inductive_type_in o))
  inductive_in (Some (whole_type block index)) h = whole_arity_in block (element block.types index) (each_element TypeIn block.types index h)
  inductive_in (Some (bare_type block index)) h = bare_arity_in block (element block.types index) (each_element (λ t. TreeIn S t.arity) block.types index h)
  inductive_in _ h = tt

  pub block_in : (o : Option Meaning) → IfThere MeaningIn o → IfThere (λ p. Each TypeIn p.block.types) (whole_block_in o)
  block_in (Some (whole_type block index)) h = h
  block_in _ h = tt

  of_type_in : (block : Block) (place : ℕ) (t : TypeDeclaration) (o : Option ConstructorDeclaration) → IfThere ConstructorIn o → IfThere (TreeIn S) (option_map (λ k. k.type) (constructor_in_type block place t o))
  of_type_in block place t None h = tt
  of_type_in block place t (Some c) h = h.1

  of_block_in : (block : Block) (place : ℕ) (o : Option TypeDeclaration) → IfThere TypeIn o → IfThere (TreeIn S) (option_map (λ k. k.type) (constructor_in_block block place o))
  of_block_in block place None h = tt
  of_block_in block place (Some t) h = of_type_in block place t (element t.constructors place) (each_element ConstructorIn t.constructors place h.2)

  pub constructor_within : (o : Option Meaning) → IfThere MeaningIn o → IfThere (TreeIn S) (option_map (λ k. k.type) (constructor_in o))
  constructor_within (Some (constructor block index place)) h = of_block_in block place (element block.types index) (each_element TypeIn block.types index h)
  constructor_within _ h = tt

pub alike_lookup : {A : Type 0} (P : A → Type 0) (o o' : Option A) (c : Cause) → o ≡ o' → IfThere P o → Alike P (or_refuse o c) (or_refuse o' c)
alike_lookup P o o' c e h = alike_to (ap (λ z. or_refuse z c) e) (alike_or_refuse P o c h)
