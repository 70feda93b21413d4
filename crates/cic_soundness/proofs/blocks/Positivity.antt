-- A block that has the shape and passes the test of positivity is strictly positive by the rules. The check of a block
-- refuses one with a fault, since the constructor that a fault names is there, so its id can be told. The kernel law
-- needs it, since the rules ask for a positive block.
use Rattle.std.proofs.Common.{◌≡◌, inl, inr, ℕ, suc, ◌+◌, Bool, true, false, if◌then◌else◌, Option, Some, None, List, [], ◌∷◌, ◌++◌, length, drop, refl, sym, ap, ap₂, ◌∙◌, arith, subst}
use Rattle.std.specs.Prelude.{option_map, option_and_then}
use Rattle.cic_terms.specs.Tree.{Tree}
use Rattle.cic_names.specs.declared.name.GlobalId.{GlobalId}
use Rattle.cic_rules.specs.Environment.{Environment, Block, TypeDeclaration, ConstructorDeclaration, bare_ids, element, or_else}
use Rattle.cic_rules.specs.Telescopes.{domains_of, conclusion_of}
use Rattle.cic_rules.specs.Inductive.{Each, Absent, PositiveConstructor, ConstructorShape, TypeShape, ShapedBlock}
use Rattle.cic_counted.specs.Readings.{arguments_of}
use Rattle.cic_counted.specs.PlainPositivity.{StrictlyPositive, PositiveBlock}
use Rattle.cic_rules.specs.Nested.{Positive, NestedPositiveBlock}
use Rattle.cic_counted.specs.NestedTest.{is_nested_positive, nested_fault}
use Rattle.cic_counted.specs.Outcome.{next_number, Cause, not_positive}
use Rattle.cic_counted.specs.BlockTests.{occurs_in_any, is_strictly_positive, PositivityFault, argument_fault, conclusion_fault, constructor_positivity_fault, type_positivity_fault, positivity_fault}
use Rattle.cic_counted.specs.Checking.{constructor_id, positivity_cause}
use Rattle.cic_metatheory.proofs.basics.ConstructorTypes.{shape_is_type, with_parameters}
use Rattle.cic_metatheory.proofs.environments.Order.{or_else_cases, or_else_none}
use Rattle.cic_soundness.proofs.blocks.Shapes.{no_fault_here, constructor_id_found, constructor_read, applied_to, length_applied_to, indices_read}
use Rattle.cic_soundness.proofs.fixpoints.Sound.{none_mapped}
use Rattle.cic_soundness.proofs.blocks.Nested.{each_absent, strictly_positive, nested_positive}
use Rattle.cic_metatheory.proofs.basics.Options.{some_inj, some_is_not_none}

-- What passes a test of arguments that is right is positive in the sense of the test.
module _ (test : Tree → Bool) (PositiveIn : Tree → Type 0) (is_right : (t : Tree) → test t ≡ true → PositiveIn t) where
  pub arguments_positive : (k : ℕ) (as_ : List Tree) → argument_fault test k as_ ≡ None → Each PositiveIn as_
  arguments_positive k [] e = tt
  arguments_positive k (a ∷ as_) e =
      let p = no_fault_here (test a) (argument_fault test (next_number k) as_) k e in
      (is_right a p.0, arguments_positive (next_number k) as_ p.1)

no_conclusion_fault : (test : Bool) (fault : ℕ) → (if test then Some fault else None) ≡ None → test ≡ false
no_conclusion_fault true fault e = some_is_not_none (sym e)
no_conclusion_fault false fault e = refl

-- A block without fault
pub constructors_positive : (test : Tree → Bool) (PositiveIn : Tree → Type 0) → ((t : Tree) → test t ≡ true → PositiveIn t) → (ids : List GlobalId) (r index place n : ℕ) (id : GlobalId) (domains : List Tree) (cs : List ConstructorDeclaration) → length domains ≡ r →
    Each (λ c. ConstructorShape domains id n c.type) cs → constructor_positivity_fault test ids r index place cs ≡ None → Each (λ c. PositiveConstructor PositiveIn ids id r c.type) cs
constructors_positive test PositiveIn is_right ids r index place n id domains [] l h e = tt
constructors_positive test PositiveIn is_right ids r index place n id domains (c ∷ cs) l h e =
    let s = h.0 in
    let first = option_map (λ argument. record { index = index; place = place; argument = argument }) (or_else (argument_fault test 1 (drop r (domains_of c.type))) (conclusion_fault ids r (conclusion_of c.type))) in
    let p = or_else_none first (constructor_positivity_fault test ids r index (place + 1) cs) e in
    let q = or_else_none (argument_fault test 1 (drop r (domains_of c.type))) (conclusion_fault ids r (conclusion_of c.type)) (none_mapped _ _ p.0) in
    let k = constructor_read r domains s.parts.arguments (applied_to domains s.parts.arguments ++ s.indices) id c.type l (shape_is_type s) in (
      record {
        parts = with_parameters s.parts l;
        at_parameters = applied_to domains s.parts.arguments;
        indices = s.indices;
        is_applied = s.is_applied;
        as_many = length_applied_to domains s.parts.arguments ∙ l;
        arguments_positive = subst (Each PositiveIn) k.dropped (arguments_positive test PositiveIn is_right 1 (drop r (domains_of c.type)) q.0);
        indices_absent = subst (Each (Absent ids)) (indices_read r domains s.parts.arguments s.indices id c.type l k)
            (each_absent ids (drop r (arguments_of (conclusion_of c.type))) (no_conclusion_fault (occurs_in_any ids (drop r (arguments_of (conclusion_of c.type)))) 0 q.1));
      },
      constructors_positive test PositiveIn is_right ids r index (place + 1) n id domains cs l h.1 p.1,
    )

types_positive : (test : Tree → Bool) (PositiveIn : Tree → Type 0) → ((t : Tree) → test t ≡ true → PositiveIn t) → (ids : List GlobalId) (r index : ℕ) (domains : List Tree) (ts : List TypeDeclaration) → length domains ≡ r → Each (TypeShape domains) ts → type_positivity_fault test ids r index ts ≡ None →
    Each (λ t. Each (λ c. PositiveConstructor PositiveIn ids t.id r c.type) t.constructors) ts
types_positive test PositiveIn is_right ids r index domains [] l h e = tt
types_positive test PositiveIn is_right ids r index domains (t ∷ ts) l h e =
    let p = or_else_none (constructor_positivity_fault test ids r index 0 t.constructors) (type_positivity_fault test ids r (index + 1) ts) e in
    (constructors_positive test PositiveIn is_right ids r index 0 _ t.id domains t.constructors l h.0.constructors p.0, types_positive test PositiveIn is_right ids r (index + 1) domains ts l h.1 p.1)

pub positive_block : (block : Block) → ShapedBlock block → positivity_fault block ≡ None → PositiveBlock block
positive_block block h e =
    let ids = bare_ids block.types in
    types_positive (is_strictly_positive ids) (StrictlyPositive ids) (strictly_positive ids) ids block.parameters 0 h.domains block.types h.as_many h.types e

pub nested_positive_block : (E : Environment) (block : Block) → ShapedBlock block → nested_fault E block ≡ None → NestedPositiveBlock E block
nested_positive_block E block h e =
    let ids = bare_ids block.types in
    types_positive (is_nested_positive E ids) (Positive E ids []) (nested_positive E ids) ids block.parameters 0 h.domains block.types h.as_many h.types e

-- What a fault names is there.
named_by_map : (index place : ℕ) (o : Option ℕ) (fault : PositivityFault) → option_map (λ argument. record { index = index; place = place; argument = argument }) o ≡ Some fault → (fault.index ≡ index) × (fault.place ≡ place)
named_by_map index place None fault e = some_is_not_none e
named_by_map index place (Some argument) fault e = (ap (λ f. f.index) (sym (some_inj e)), ap (λ f. f.place) (sym (some_inj e)))

constructor_fault_names : (test : Tree → Bool) (ids : List GlobalId) (r index place : ℕ) (cs : List ConstructorDeclaration) (fault : PositivityFault) → constructor_positivity_fault test ids r index place cs ≡ Some fault →
    (p : ℕ) × (c : ConstructorDeclaration) × (element cs p ≡ Some c) × (fault.index ≡ index) × (fault.place ≡ place + p)
constructor_fault_names test ids r index place [] fault e = some_is_not_none e
constructor_fault_names test ids r index place (c ∷ cs) fault e =
    let reasons = or_else (argument_fault test 1 (drop r (domains_of c.type))) (conclusion_fault ids r (conclusion_of c.type)) in
    elim (or_else_cases (option_map (λ argument. record { index = index; place = place; argument = argument }) reasons) (constructor_positivity_fault test ids r index (place + 1) cs) fault e) [
      | inl h ↦ let p = named_by_map index place reasons fault h in let q : place ≡ place + 0 = omega arith in (0, c, refl, p.0, p.1 ∙ q)
      | inr h ↦
          let o = constructor_fault_names test ids r index (place + 1) cs fault h in
          let q : place + 1 + o.0 ≡ place + suc o.0 = omega arith in
          (suc o.0, o.1, o.2, o.3, o.4 ∙ q)
    ]

type_fault_names : (test : Tree → Bool) (ids : List GlobalId) (r index : ℕ) (ts : List TypeDeclaration) (fault : PositivityFault) → type_positivity_fault test ids r index ts ≡ Some fault →
    (i p : ℕ) × (t : TypeDeclaration) × (c : ConstructorDeclaration) × (element ts i ≡ Some t) × (element t.constructors p ≡ Some c) × (fault.index ≡ index + i) × (fault.place ≡ p)
type_fault_names test ids r index [] fault e = some_is_not_none e
type_fault_names test ids r index (t ∷ ts) fault e =
    elim (or_else_cases (constructor_positivity_fault test ids r index 0 t.constructors) (type_positivity_fault test ids r (index + 1) ts) fault e) [
      | inl h ↦
          let o = constructor_fault_names test ids r index 0 t.constructors fault h in
          let q : index ≡ index + 0 = omega arith in
          let z : 0 + o.0 ≡ o.0 = omega arith in
          (0, o.0, t, o.1, refl, o.2, o.3 ∙ q, o.4 ∙ z)
      | inr h ↦
          let o = type_fault_names test ids r (index + 1) ts fault h in
          let q : index + 1 + o.0 ≡ index + suc o.0 = omega arith in
          (suc o.0, o.1, o.2, o.3, o.4, o.5, o.6 ∙ q, o.7)
    ]

cause_found : (E : Environment) (block : Block) (fault : PositivityFault) → nested_fault E block ≡ Some fault → (cause : Cause) × (positivity_cause block fault ≡ Some cause)
cause_found E block fault e =
    let o = type_fault_names (is_nested_positive E (bare_ids block.types)) (bare_ids block.types) block.parameters 0 block.types fault e in
    let z : 0 + o.0 ≡ o.0 = omega arith in (
      not_positive o.3.id fault.argument,
      ap (option_map (λ id. not_positive id fault.argument)) (ap₂ (constructor_id block) (o.6 ∙ z) o.7 ∙ constructor_id_found block o.0 o.1 o.2 o.3 o.4 o.5),
    )

pub passes_positivity : (E : Environment) (block : Block) → ShapedBlock block → option_and_then (positivity_cause block) (nested_fault E block) ≡ None → NestedPositiveBlock E block
passes_positivity E block s h = by_fault (nested_fault E block) refl
  where
    by_fault : (o : Option PositivityFault) → nested_fault E block ≡ o → NestedPositiveBlock E block
    by_fault None q = nested_positive_block E block s q
    by_fault (Some fault) q = let c = cause_found E block fault q in some_is_not_none (sym h ∙ ap (option_and_then (positivity_cause block)) q ∙ c.1)
