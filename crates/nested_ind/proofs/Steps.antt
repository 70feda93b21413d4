-- Steps of the test of nested positivity.
use Rattle.std.proofs.Common.{◌≡◌, ℕ, zero, suc, ◌-◌, ◌<◌, Bool, true, false, not, ◌&&◌, ◌||◌, List, [], ◌∷◌, ◌++◌, length, map, drop, nat_eq, refl, sym, ap, ap₂, ◌∙◌, arith}
use Rattle.std.proofs.lemmas.Bool.{ne_eqb}
use Rattle.std.proofs.lemmas.List.{length_push}
use Rattle.std.specs.declared.rc.Rc.{Rc}
use Rattle.std.specs.declared.alloc.Global.{Global}
use Rattle.cic_names.specs.declared.name.GlobalId.{GlobalId}
use Rattle.cic_terms.specs.declared.term.Term.{Term, Rel, Sort as SortTerm, Prod', Prod, Lam', Let', App', App, Const, Ind, Ctor, Case', Fix'}
use Rattle.cic_terms.specs.Denotes.{tree}
use Rattle.cic_terms.specs.Tree.{Tree, prod, ind}
use Rattle.cic_rules.specs.Environment.{Environment, TypeDeclaration, bare_ids}
use Rattle.cic_env.specs.Declarations.{block, type_declaration}
use Rattle.cic_env.specs.declared.declaration.Block.{Block}
use Rattle.cic_env.specs.declared.declaration.IndType.{IndType}
use Rattle.cic_positivity.specs.calls.Parts.{ids_of}
use Rattle.cic_rules.specs.Nested.{Instance, lift_instances}
use Rattle.cic_rules.specs.Telescopes.{conclusion_of, domains_of, head_of}
use Rattle.cic_counted.specs.BlockTests.{occurs, occurs_in_any, type_positivity_fault}
use Rattle.cic_counted.specs.NestedTest.{are_positive_arguments, are_positive_types, are_small, are_small_instances, is_conclusion, is_positive_at, is_positive_step, nested_fault}
use Rattle.cic_counted.specs.Outcome.{is_small}
use Rattle.cic_counted.specs.Readings.{arguments_of}
use Rattle.cic_ind.specs.Conclusions.{is_type}
use Rattle.nested_ind.specs.calls.Steps.{are_positive_domains, new_at, positive_at}

module _ (E : Environment) (ids : List GlobalId) where
  -- The test with a limit is the step that is told what is new.
  pub same_test : (n : ℕ) → is_positive_at E ids n ≡ positive_at E ids n
  same_test zero = refl
  same_test (suc n) = ap (λ f. is_positive_step E ids (are_positive_types E ids f)) (same_test n)

  pub one_less : (n : ℕ) → 0 < n → new_at E ids n ≡ are_positive_types E ids (positive_at E ids (n - 1))
  one_less zero h = absurd (omega arith)
  one_less (suc n) h = ap (λ k. are_positive_types E ids (positive_at E ids k)) (let e : n ≡ suc n - 1 = omega arith in e)

  -- A product in which one occurs
  in_codomain : (o oa s x : Bool) → o ≡ true → oa ≡ false → s ≡ true → (not o || (not oa && s && x)) ≡ x
  in_codomain true false true x e f g = refl
  in_codomain false oa s x e f g = cc
  in_codomain true true s x e f g = cc
  in_codomain true false false x e f g = cc

  second : (oa ob : Bool) → (oa || (ob || false)) ≡ true → oa ≡ false → ob ≡ true
  second true ob e f = cc
  second false true e f = refl
  second false false e f = cc

  pub occurs_in_codomain : (a b : Tree) → occurs ids (prod a b) ≡ true → occurs ids a ≡ false → occurs ids b ≡ true
  occurs_in_codomain a b e f = second (occurs ids a) (occurs ids b) e f

  pub positive_in_codomain : (new : List Instance → List Tree → List TypeDeclaration → Bool) (L : List Instance) (a b : Tree) → occurs ids (prod a b) ≡ true → occurs ids a ≡ false → are_small_instances (lift_instances L) ≡ true →
      is_positive_step E ids new L (prod a b) ≡ is_positive_step E ids new (lift_instances L) b
  positive_in_codomain new L a b e f g = in_codomain (occurs ids (prod a b)) (occurs ids a) (are_small_instances (lift_instances L)) (is_positive_step E ids new (lift_instances L) b) e f g

  -- A conclusion by its parts
  pub conclusion_apart : (r : ℕ) (h : Tree) (us : List Tree) → is_conclusion E ids r h us ≡ (is_type h && (are_small (drop r us) && not (occurs_in_any ids (drop r us))))
  conclusion_apart r (ind id) us = refl
  conclusion_apart r t us = refl

  -- The arguments of a constructor by their parts
  regroup : (p q r s d c : Bool) → (p && q && r && (s && d && c)) ≡ (p && s && (q && (r && d)) && c)
  regroup true true true s d c = refl
  regroup false q r s d c = refl
  regroup true false r true d c = refl
  regroup true false r false d c = refl
  regroup true true false true d c = refl
  regroup true true false false d c = refl

  pub arguments_apart : (positive : List Instance → Tree → Bool) (L : List Instance) (r : ℕ) (t : Tree) →
      are_positive_arguments E ids positive L r t ≡ (are_small (domains_of t) && are_positive_domains positive L (domains_of t) && is_conclusion E ids r (head_of (conclusion_of t)) (arguments_of (conclusion_of t)))
  arguments_apart positive L r (prod a b) =
      ap (λ z. is_small a && positive L a && are_small_instances (lift_instances L) && z) (arguments_apart positive (lift_instances L) r b)
      ∙ regroup (is_small a) (positive L a) (are_small_instances (lift_instances L)) (are_small (domains_of b)) (are_positive_domains positive (lift_instances L) (domains_of b)) (is_conclusion E ids r (head_of (conclusion_of b)) (arguments_of (conclusion_of b)))
  arguments_apart positive L r t = refl

-- Where an application has more arguments than a type has products
no_products : (t : Term) → ((a b : Rc Term Global) → t ≡ Prod a b → ⊥) → domains_of (tree t) ≡ []
no_products (Prod' p a q b) h = absurd (h (record { ptr = p.ptr; value = a }) (record { ptr = q.ptr; value = b }) refl)
no_products (Rel n) h = refl
no_products (SortTerm s) h = refl
no_products (Lam' _ a _ b) h = refl
no_products (Let' _ t _ a _ b) h = refl
no_products (App' _ f _ x) h = refl
no_products (Const id) h = refl
no_products (Ind id) h = refl
no_products (Ctor id) h = refl
no_products (Case' n id _ p _ c _ bs) h = refl
no_products (Fix' w _ bs) h = refl

pub too_many : (at left : Term) (f x : Rc Term Global) → at ≡ App f x → ((a b : Rc Term Global) → left ≡ Prod a b → ⊥) →
    nat_eq (length (arguments_of (tree at))) (length (domains_of (tree left))) ≡ false
too_many at left f x e h =
    ap₂ (λ t ds. nat_eq (length (arguments_of (tree t))) (length ds)) e (no_products left h)
    ∙ ne_eqb (length (arguments_of (tree f.value) ++ tree x.value ∷ [])) 0 (λ z. absurd (omega (arith, z, length_push (arguments_of (tree f.value)) (tree x.value))))

-- The first fault, with the ids that the program reads off
fault_at : (E : Environment) (n : ℕ) (b : Block) (types : List IndType) → types ≡ b.types.items →
    type_positivity_fault (positive_at E (ids_of types) n []) (ids_of types) b.params 0 (map type_declaration types)
    ≡ type_positivity_fault (is_positive_at E (bare_ids (block b).types) n []) (bare_ids (block b).types) b.params 0 (block b).types
fault_at E n b types e =
    ap (λ l. type_positivity_fault (positive_at E (ids_of l) n []) (ids_of l) b.params 0 (map type_declaration l)) e
    ∙ ap (λ f. type_positivity_fault (f []) (bare_ids (block b).types) b.params 0 (block b).types) (sym (same_test E (bare_ids (block b).types) n))

pub fault_is_nested : (E : Environment) (b : Block) (types : List IndType) → types ≡ b.types.items →
    type_positivity_fault (positive_at E (ids_of types) 64 []) (ids_of types) b.params 0 (map type_declaration types) ≡ nested_fault E (block b)
fault_is_nested E b types e = fault_at E 64 b types e

-- Where two of three hold
pub and_last : (x y : Bool) → y ≡ false → (x && y) ≡ false
and_last true y e = e
and_last false y e = refl

pub all_but_middle : (s d c : Bool) → s ≡ true → c ≡ true → (s && d && c) ≡ d
all_but_middle true true true e f = refl
all_but_middle true false true e f = refl
all_but_middle false d c e f = cc
all_but_middle true d false e f = cc
