-- The tests of positivity are exact: a block that is positive by the rules passes them, with nested types and without.
-- Both tests go over the arguments of the constructors by a test of one term, which passes where the rules hold.
use Rattle.std.proofs.Common.{◌≡◌, ◌↔◌, ℕ, ◌+◌, Bool, true, false, not, ◌&&◌, ◌||◌, if◌then◌else◌, Some, None, List, [], ◌∷◌, drop, refl, sym, ap, ap₂, ◌∙◌, arith}
use Rattle.std.specs.Prelude.{option_map}
use Rattle.std.proofs.Math.Seq.{drop-append_seam}
use Rattle.std.proofs.lemmas.Bool.{and_from, or_right, or_left}
use Rattle.cic_terms.specs.Tree.{Tree, prod, ind}
use Rattle.cic_names.specs.declared.name.GlobalId.{GlobalId}
use Rattle.cic_rules.specs.Environment.{Environment, Block, TypeDeclaration, ConstructorDeclaration, bare_ids, or_else}
use Rattle.cic_rules.specs.Telescopes.{domains_of, conclusion_of}
use Rattle.cic_rules.specs.Inductive.{Each, PositiveConstructor}
use Rattle.cic_rules.specs.Nested.{Positive, NestedPositiveBlock}
use Rattle.cic_counted.specs.Readings.{arguments_of}
use Rattle.cic_counted.specs.Outcome.{next_number}
use Rattle.cic_counted.specs.BlockTests.{occurs, occurs_in_any, is_applied_among, is_strictly_positive, argument_fault, conclusion_fault, constructor_positivity_fault, type_positivity_fault, positivity_fault}
use Rattle.cic_counted.specs.NestedTest.{is_nested_positive, nested_fault}
use Rattle.cic_counted.specs.PlainPositivity.{StrictlyPositive, absent, applied, in_codomain, PositiveBlock}
use Rattle.cic_counted.proofs.Functions.{arguments_of_apply}
use Rattle.cic_soundness.proofs.blocks.Nested.{strictly_positive, nested_positive}
use Rattle.cic_soundness.proofs.blocks.Shapes.{constructor_read}
use Rattle.cic_soundness.proofs.exactness.Nested.{absent_passes, applied_passes, do_not_occur, nested_positive_passes}
use Rattle.cic_soundness.proofs.exactness.Shape.{goes_on}
use Rattle.cic_metatheory.proofs.basics.Products.{no_domains_of_apply}

-- Without nested types
other_term : (ids : List GlobalId) (t : Tree) → domains_of t ≡ [] → is_strictly_positive ids t ≡ (not (occurs ids t) || is_applied_among ids t)
other_term ids (prod a b) e = absurd (grind arith)
other_term ids t e = refl

absent_is_positive : (ids : List GlobalId) (t : Tree) → not (occurs ids t) ≡ true → is_strictly_positive ids t ≡ true
absent_is_positive ids (prod a b) e = or_left (not (occurs ids (prod a b))) (not (occurs ids a) && is_strictly_positive ids b) e
absent_is_positive ids t e = other ids t e
  where
    other : (ids : List GlobalId) (t : Tree) → not (occurs ids t) ≡ true → (not (occurs ids t) || is_applied_among ids t) ≡ true
    other ids t e = or_left (not (occurs ids t)) (is_applied_among ids t) e

pub strictly_positive_passes : (ids : List GlobalId) {t : Tree} → StrictlyPositive ids t → is_strictly_positive ids t ≡ true
strictly_positive_passes ids {t} (absent a) = absent_is_positive ids t (absent_passes ids t a)
strictly_positive_passes ids {t} (applied id us e c h) =
    other_term ids t (ap domains_of e ∙ no_domains_of_apply us (ind id) refl)
    ∙ or_right (not (occurs ids t)) (is_applied_among ids t) (applied_passes ids t id us e c h)
strictly_positive_passes ids (in_codomain {a = a} {b = b} h p) =
    or_right (not (occurs ids (prod a b))) (not (occurs ids a) && is_strictly_positive ids b) (and_from _ _ (absent_passes ids a h) (strictly_positive_passes ids p))

-- Both tests of one term
pub strictly_positive_decided : (ids : List GlobalId) (t : Tree) → (is_strictly_positive ids t ≡ true) ↔ StrictlyPositive ids t
strictly_positive_decided ids t = (strictly_positive ids t, λ p. strictly_positive_passes ids p)

pub nested_positive_decided : (E : Environment) (ids : List GlobalId) (t : Tree) → (is_nested_positive E ids t ≡ true) ↔ Positive E ids [] t
nested_positive_decided E ids t = (nested_positive E ids t, nested_positive_passes E ids t)

-- The constructors of a block, with a test that passes what is positive in a sense
module _ (test : Tree → Bool) (PositiveIn : Tree → Type 0) (passes : (t : Tree) → PositiveIn t → test t ≡ true) (ids : List GlobalId) (r : ℕ) where
  pub arguments_pass : (k : ℕ) (as_ : List Tree) → Each PositiveIn as_ → argument_fault test k as_ ≡ None
  arguments_pass k [] h = refl
  arguments_pass k (a ∷ as_) h = goes_on (test a) (argument_fault test (next_number k) as_) k (passes a h.0) ∙ arguments_pass (next_number k) as_ h.1

  conclusion_passes : (conclusion : Tree) → occurs_in_any ids (drop r (arguments_of conclusion)) ≡ false → conclusion_fault ids r conclusion ≡ None
  conclusion_passes conclusion e = ap (λ b. if b then Some 0 else None) e

  pub constructor_passes : (id : GlobalId) (c : ConstructorDeclaration) → PositiveConstructor PositiveIn ids id r c.type → or_else (argument_fault test 1 (drop r (domains_of c.type))) (conclusion_fault ids r (conclusion_of c.type)) ≡ None
  constructor_passes id c h =
      let p = h.parts in
      let k = constructor_read r p.parameters p.arguments p.applied_to id c.type p.as_many p.is_type in
      let indices : drop r (arguments_of (conclusion_of c.type)) ≡ h.indices =
      ap₂ drop (sym h.as_many) (ap arguments_of k.concluded ∙ arguments_of_apply p.applied_to (ind id) ∙ h.is_applied) ∙ drop-append_seam h.at_parameters h.indices in
      ap₂ or_else (ap (argument_fault test 1) k.dropped ∙ arguments_pass 1 p.arguments h.arguments_positive)
      (conclusion_passes (conclusion_of c.type) (ap (occurs_in_any ids) indices ∙ do_not_occur ids h.indices h.indices_absent))

  pub constructors_pass : (id : GlobalId) (index place : ℕ) (cs : List ConstructorDeclaration) → Each (λ c. PositiveConstructor PositiveIn ids id r c.type) cs → constructor_positivity_fault test ids r index place cs ≡ None
  constructors_pass id index place [] h = refl
  constructors_pass id index place (c ∷ cs) h =
      ap (λ o. or_else (option_map (λ argument. record { index = index; place = place; argument = argument }) o) (constructor_positivity_fault test ids r index (place + 1) cs)) (constructor_passes id c h.0)
      ∙ constructors_pass id index (place + 1) cs h.1

  types_pass : (index : ℕ) (ts : List TypeDeclaration) → Each (λ t. Each (λ c. PositiveConstructor PositiveIn ids t.id r c.type) t.constructors) ts → type_positivity_fault test ids r index ts ≡ None
  types_pass index [] h = refl
  types_pass index (t ∷ ts) h =
      ap (λ o. or_else o (type_positivity_fault test ids r (index + 1) ts)) (constructors_pass t.id index 0 t.constructors h.0) ∙ types_pass (index + 1) ts h.1

pub positive_block_passes : (block : Block) → PositiveBlock block → positivity_fault block ≡ None
positive_block_passes block h =
    let ids = bare_ids block.types in
    types_pass (is_strictly_positive ids) (StrictlyPositive ids) (λ t p. strictly_positive_passes ids p) ids block.parameters 0 block.types h

pub nested_block_passes : (E : Environment) (block : Block) → NestedPositiveBlock E block → nested_fault E block ≡ None
nested_block_passes E block h =
    let ids = bare_ids block.types in
    types_pass (is_nested_positive E ids) (Positive E ids []) (nested_positive_passes E ids) ids block.parameters 0 block.types h
