-- The tests of positivity answer the first fault, and only that: all before it is positive by the rules, and what they
-- name is not.
use Rattle.std.proofs.Common.{◌≡◌, ℕ, zero, suc, ◌+◌, ◌≤◌, Bool, true, false, if◌then◌else◌, Option, Some, None, List, [], ◌∷◌, ◌++◌, length, drop, refl, sym, ap, ap₂, ◌∙◌, arith, subst}
use Rattle.std.specs.Prelude.{min, option_map}
use Rattle.std.proofs.Math.Seq.{drop-append_seam}
use Rattle.cic_terms.specs.Tree.{Tree, ind}
use Rattle.cic_names.specs.declared.name.GlobalId.{GlobalId}
use Rattle.cic_rules.specs.Environment.{Environment, Block, TypeDeclaration, ConstructorDeclaration, bare_ids, or_else}
use Rattle.cic_rules.specs.Telescopes.{domains_of, conclusion_of}
use Rattle.cic_counted.specs.Readings.{arguments_of}
use Rattle.cic_rules.specs.Inductive.{Each, Absent, ConstructorParts, ConstructorShape, TypeShape, ShapedBlock, PositiveConstructor}
use Rattle.cic_rules.specs.Nested.{Positive}
use Rattle.cic_counted.specs.Outcome.{next_number}
use Rattle.cic_counted.specs.BlockTests.{occurs_in_any, is_strictly_positive, PositivityFault, argument_fault, conclusion_fault, constructor_positivity_fault, type_positivity_fault, positivity_fault}
use Rattle.cic_counted.specs.NestedTest.{is_nested_positive, nested_fault}
use Rattle.cic_counted.specs.PlainPositivity.{StrictlyPositive}
use Rattle.cic_counted.proofs.Functions.{arguments_of_apply}
use Rattle.cic_soundness.specs.FirstFaults.{FirstNot, FirstArgument, in_argument, in_index, FirstNotPositive}
use Rattle.cic_metatheory.proofs.basics.ConstructorTypes.{with_parameters}
use Rattle.cic_soundness.proofs.blocks.Nested.{strictly_positive, nested_positive, each_absent}
use Rattle.cic_soundness.proofs.blocks.Positivity as K
use Rattle.cic_soundness.proofs.blocks.Shapes.{constructor_read, applied_to, length_applied_to}
use Rattle.cic_soundness.proofs.exactness.Nested.{do_not_occur, nested_positive_passes}
use Rattle.cic_soundness.proofs.exactness.Positivity as P
use Rattle.cic_soundness.proofs.exactness.Shape.{goes_on}
use Rattle.cic_metatheory.proofs.basics.Options.{some_inj, some_is_not_none}

abbrev pub at_fault : (index place : ℕ) → ℕ → PositivityFault
at_fault index place argument = record { index = index; place = place; argument = argument }

-- Tests that fail
pub stops_here : {F : Type 0} (test : Bool) (rest : Option F) (fault : F) → test ≡ false → (if test then rest else Some fault) ≡ Some fault
stops_here true rest fault e = absurd (grind arith)
stops_here false rest fault e = refl

pub fails : (test : Bool) → (test ≡ true → ⊥) → test ≡ false
fails true h = absurd (h refl)
fails false h = refl

module _ (test : Tree → Bool) (PositiveIn : Tree → Type 0) (is_right : (t : Tree) → test t ≡ true → PositiveIn t) (passes : (t : Tree) → PositiveIn t → test t ≡ true) (ids : List GlobalId) (r : ℕ) where
  -- Arguments
  arguments_first : (k : ℕ) (as_ : List Tree) (n : ℕ) → k ≤ 4294967295 → argument_fault test k as_ ≡ Some n → (place : ℕ) × (a : Tree) × (n ≡ min (k + place) 4294967295) × FirstNot PositiveIn as_ place a
  arguments_first k [] n l e = some_is_not_none e
  arguments_first k (a ∷ as_) n l e = by_test (test a) refl e (arguments_first (next_number k) as_ n (omega arith))
    where
      by_test : (b : Bool) → test a ≡ b → (if b then argument_fault test (next_number k) as_ else Some k) ≡ Some n →
          (argument_fault test (next_number k) as_ ≡ Some n → (place : ℕ) × (x : Tree) × (n ≡ min (next_number k + place) 4294967295) × FirstNot PositiveIn as_ place x) → (place : ℕ) × (x : Tree) × (n ≡ min (k + place) 4294967295) × FirstNot PositiveIn (a ∷ as_) place x
      by_test true q e later =
          let f = later e in
          let m : min (next_number k + f.0) 4294967295 ≡ min (k + suc f.0) 4294967295 = omega arith in
          (suc f.0, f.1, f.2 ∙ m, record { stands = f.3.stands; before = (is_right a q, f.3.before); is_not = f.3.is_not })
      by_test false q e later =
          let m : k ≡ min (k + 0) 4294967295 = omega (arith, l) in
          (0, a, sym (some_inj e) ∙ m, record { stands = refl; before = tt; is_not = λ p. absurd (grind (arith, q, passes a p)) })

  arguments_at : (k : ℕ) (as_ : List Tree) (place : ℕ) (a : Tree) → k ≤ 4294967295 → FirstNot PositiveIn as_ place a → argument_fault test k as_ ≡ Some (min (k + place) 4294967295)
  arguments_at k [] place a l h = some_is_not_none h.stands
  arguments_at k (x ∷ as_) zero a l h =
      let same : x ≡ a = some_inj h.stands in
      let m : k ≡ min (k + 0) 4294967295 = omega (arith, l) in
      stops_here (test x) (argument_fault test (next_number k) as_) k (fails (test x) (λ q. h.is_not (subst PositiveIn same (is_right x q)))) ∙ ap Some m
  arguments_at k (x ∷ as_) (suc place) a l h =
      let m : min (next_number k + place) 4294967295 ≡ min (k + suc place) 4294967295 = omega arith in
      goes_on (test x) (argument_fault test (next_number k) as_) k (passes x h.before.0)
      ∙ arguments_at (next_number k) as_ place a (omega arith) (record { stands = h.stands; before = h.before.1; is_not = h.is_not }) ∙ ap Some m

  -- What is at fault in a constructor
  abbrev reason : ConstructorDeclaration → Option ℕ
  reason c = or_else (argument_fault test 1 (drop r (domains_of c.type))) (conclusion_fault ids r (conclusion_of c.type))

  record Parts (id : GlobalId) (c : ConstructorDeclaration) (arguments indices : List Tree) : Type 0 where
    arguments_are : drop r (domains_of c.type) ≡ arguments
    indices_are : drop r (arguments_of (conclusion_of c.type)) ≡ indices

  parts_of : (id : GlobalId) (c : ConstructorDeclaration) (p : ConstructorParts r id c.type) (ps indices : List Tree) → p.applied_to ≡ ps ++ indices → length ps ≡ r → Parts id c p.arguments indices
  parts_of id c p ps indices e m =
      let k = constructor_read r p.parameters p.arguments p.applied_to id c.type p.as_many p.is_type in
      record {
        arguments_are = k.dropped;
        indices_are = ap₂ drop (sym m) (ap arguments_of k.concluded ∙ arguments_of_apply p.applied_to (ind id) ∙ e) ∙ drop-append_seam ps indices;
      }

  index_occurs : (indices : List Tree) (test : Bool) (n : ℕ) → occurs_in_any ids indices ≡ test → ◌≡◌ {A = Option ℕ} (if test then Some 0 else None) (Some n) → (n ≡ 0) × (Each (Absent ids) indices → ⊥)
  index_occurs indices true n q e = (sym (some_inj e), λ h. absurd (grind (arith, q, do_not_occur ids indices h)))
  index_occurs indices false n q e = some_is_not_none e

  reason_first : (id : GlobalId) (c : ConstructorDeclaration) (arguments indices : List Tree) (n : ℕ) → Parts id c arguments indices → reason c ≡ Some n → FirstArgument PositiveIn ids arguments indices n
  reason_first id c arguments indices n k e = by_arguments (argument_fault test 1 arguments) refl (ap (λ z. or_else (argument_fault test 1 z) (conclusion_fault ids r (conclusion_of c.type))) (sym k.arguments_are) ∙ e)
    where
      by_arguments : (o : Option ℕ) → argument_fault test 1 arguments ≡ o → or_else o (conclusion_fault ids r (conclusion_of c.type)) ≡ Some n → FirstArgument PositiveIn ids arguments indices n
      by_arguments (Some m) q e =
          let f = arguments_first 1 arguments m (omega arith) q in
          let p = f.2 in
          let same : m ≡ n = some_inj e in
          in_argument f.0 f.1 (omega (arith, p, same)) f.3
      by_arguments None q e =
          let o = index_occurs indices (occurs_in_any ids indices) n refl (ap (λ z. if occurs_in_any ids z then Some 0 else None) (sym k.indices_are) ∙ e) in
          in_index o.0 (K.arguments_positive test PositiveIn is_right 1 arguments q) o.1

  reason_at : (id : GlobalId) (c : ConstructorDeclaration) (arguments indices : List Tree) (n : ℕ) → Parts id c arguments indices → FirstArgument PositiveIn ids arguments indices n → reason c ≡ Some n
  reason_at id c arguments indices n k (in_argument place a e f) =
      let m : min (1 + place) 4294967295 ≡ n = omega (arith, e) in
      ap (λ z. or_else (argument_fault test 1 z) (conclusion_fault ids r (conclusion_of c.type))) k.arguments_are
      ∙ ap (λ o. or_else o (conclusion_fault ids r (conclusion_of c.type))) (arguments_at 1 arguments place a (omega arith) f ∙ ap Some m)
  reason_at id c arguments indices n k (in_index e h o) =
      ap (λ z. or_else (argument_fault test 1 z) (conclusion_fault ids r (conclusion_of c.type))) k.arguments_are
      ∙ ap (λ o. or_else o (conclusion_fault ids r (conclusion_of c.type))) (P.arguments_pass test PositiveIn passes ids r 1 arguments h)
      ∙ ap (λ z. if occurs_in_any ids z then Some 0 else None) k.indices_are
      ∙ occurring (occurs_in_any ids indices) refl
    where
      occurring : (b : Bool) → occurs_in_any ids indices ≡ b → (if b then Some 0 else None) ≡ Some n
      occurring true q = ap Some (sym e)
      occurring false q = absurd (o (each_absent ids indices q))

  -- Constructors
  abbrev GoodConstructor : GlobalId → ConstructorDeclaration → Type 0
  GoodConstructor id c = PositiveConstructor PositiveIn ids id r c.type

  record FoundConstructor (id : GlobalId) (n : ℕ) (domains : List Tree) (index place : ℕ) (cs : List ConstructorDeclaration) (fault : PositivityFault) : Type 0 where
    p : ℕ
    c : ConstructorDeclaration
    first : FirstNot (GoodConstructor id) cs p c
    shape : ConstructorShape domains id n c.type
    fault_is : fault ≡ at_fault index (place + p) fault.argument
    reason_is : reason c ≡ Some fault.argument

  constructors_first : (id : GlobalId) (n : ℕ) (domains : List Tree) (index place : ℕ) (cs : List ConstructorDeclaration) (fault : PositivityFault) → length domains ≡ r → Each (λ c. ConstructorShape domains id n c.type) cs →
      constructor_positivity_fault test ids r index place cs ≡ Some fault → FoundConstructor id n domains index place cs fault
  constructors_first id n domains index place [] fault l h e = some_is_not_none e
  constructors_first id n domains index place (c ∷ cs) fault l h e = by_reason (reason c) refl e (constructors_first id n domains index (place + 1) cs fault l h.1)
    where
      by_reason : (o : Option ℕ) → reason c ≡ o → or_else (option_map (at_fault index place) o) (constructor_positivity_fault test ids r index (place + 1) cs) ≡ Some fault →
          (constructor_positivity_fault test ids r index (place + 1) cs ≡ Some fault → FoundConstructor id n domains index (place + 1) cs fault) → FoundConstructor id n domains index place (c ∷ cs) fault
      by_reason None q e later =
          let f = later e in
          let good = K.constructors_positive test PositiveIn is_right ids r index place n id domains (c ∷ []) l (h.0, tt) (ap (λ o. or_else (option_map (at_fault index place) o) None) q) in
          let m : place + 1 + f.p ≡ place + suc f.p = omega arith in
          record {
            p = suc f.p;
            c = f.c;
            first = record { stands = f.first.stands; before = (good.0, f.first.before); is_not = f.first.is_not };
            shape = f.shape;
            fault_is = f.fault_is ∙ ap (λ z. at_fault index z fault.argument) m;
            reason_is = f.reason_is;
          }
      by_reason (Some k) q e later =
          let m : place ≡ place + 0 = omega arith in
          let same : at_fault index place k ≡ fault = some_inj e in
          let argument : k ≡ fault.argument = ap (λ f. f.argument) same in
          record {
            p = 0;
            c = c;
            first = record { stands = refl; before = tt; is_not = λ good. some_is_not_none (sym (P.constructor_passes test PositiveIn passes ids r id c good) ∙ q) };
            shape = h.0;
            fault_is = sym same ∙ ap₂ (λ x y. at_fault index x y) m argument;
            reason_is = q ∙ ap Some argument;
          }

  constructors_at : (id : GlobalId) (index place : ℕ) (cs : List ConstructorDeclaration) (p : ℕ) (c : ConstructorDeclaration) (n : ℕ) → FirstNot (GoodConstructor id) cs p c → reason c ≡ Some n →
      constructor_positivity_fault test ids r index place cs ≡ Some (at_fault index (place + p) n)
  constructors_at id index place [] p c n h e = some_is_not_none h.stands
  constructors_at id index place (x ∷ cs) zero c n h e =
      let m : place ≡ place + 0 = omega arith in
      ap (λ o. or_else (option_map (at_fault index place) o) (constructor_positivity_fault test ids r index (place + 1) cs)) (ap reason (some_inj h.stands) ∙ e) ∙ ap (λ z. Some (at_fault index z n)) m
  constructors_at id index place (x ∷ cs) (suc p) c n h e =
      let m : place + 1 + p ≡ place + suc p = omega arith in
      ap (λ o. or_else (option_map (at_fault index place) o) (constructor_positivity_fault test ids r index (place + 1) cs)) (P.constructor_passes test PositiveIn passes ids r id x h.before.0)
      ∙ constructors_at id index (place + 1) cs p c n (record { stands = h.stands; before = h.before.1; is_not = h.is_not }) e ∙ ap (λ z. Some (at_fault index z n)) m

  -- Types
  abbrev GoodType : TypeDeclaration → Type 0
  GoodType t = Each (GoodConstructor t.id) t.constructors

  record FoundType (domains : List Tree) (index : ℕ) (ts : List TypeDeclaration) (fault : PositivityFault) : Type 0 where
    i : ℕ
    t : TypeDeclaration
    n : ℕ
    first : FirstNot GoodType ts i t
    found : FoundConstructor t.id n domains (index + i) 0 t.constructors fault

  types_first : (domains : List Tree) (index : ℕ) (ts : List TypeDeclaration) (fault : PositivityFault) → length domains ≡ r → Each (TypeShape domains) ts → type_positivity_fault test ids r index ts ≡ Some fault → FoundType domains index ts fault
  types_first domains index [] fault l h e = some_is_not_none e
  types_first domains index (t ∷ ts) fault l h e = by_constructors (constructor_positivity_fault test ids r index 0 t.constructors) refl e (types_first domains (index + 1) ts fault l h.1)
    where
      by_constructors : (o : Option PositivityFault) → constructor_positivity_fault test ids r index 0 t.constructors ≡ o → or_else o (type_positivity_fault test ids r (index + 1) ts) ≡ Some fault →
          (type_positivity_fault test ids r (index + 1) ts ≡ Some fault → FoundType domains (index + 1) ts fault) → FoundType domains index (t ∷ ts) fault
      by_constructors None q e later =
          let f = later e in
          let good = K.constructors_positive test PositiveIn is_right ids r index 0 _ t.id domains t.constructors l h.0.constructors q in
          let m : index + 1 + f.i ≡ index + suc f.i = omega arith in
          record {
            i = suc f.i;
            t = f.t;
            n = f.n;
            first = record { stands = f.first.stands; before = (good, f.first.before); is_not = f.first.is_not };
            found = subst (λ z. FoundConstructor f.t.id f.n domains z 0 f.t.constructors fault) m f.found;
          }
      by_constructors (Some k) q e later =
          let m : index ≡ index + 0 = omega arith in
          record {
            i = 0;
            t = t;
            n = length h.0.arity.indices;
            first = record { stands = refl; before = tt; is_not = λ good. some_is_not_none (sym (P.constructors_pass test PositiveIn passes ids r t.id index 0 t.constructors good) ∙ q) };
            found = subst (λ z. FoundConstructor t.id (length h.0.arity.indices) domains z 0 t.constructors fault) m
                (constructors_first t.id (length h.0.arity.indices) domains index 0 t.constructors fault l h.0.constructors (q ∙ e));
          }

  types_at : (index : ℕ) (ts : List TypeDeclaration) (i : ℕ) (t : TypeDeclaration) (p : ℕ) (c : ConstructorDeclaration) (n : ℕ) → FirstNot GoodType ts i t → FirstNot (GoodConstructor t.id) t.constructors p c → reason c ≡ Some n →
      type_positivity_fault test ids r index ts ≡ Some (at_fault (index + i) p n)
  types_at index [] i t p c n h k e = some_is_not_none h.stands
  types_at index (x ∷ ts) zero t p c n h k e =
      let same : x ≡ t = some_inj h.stands in
      let m : index ≡ index + 0 = omega arith in
      let z : 0 + p ≡ p = omega arith in
      ap (λ y. or_else (constructor_positivity_fault test ids r index 0 y.constructors) (type_positivity_fault test ids r (index + 1) ts)) same
      ∙ ap (λ o. or_else o (type_positivity_fault test ids r (index + 1) ts)) (constructors_at t.id index 0 t.constructors p c n k e)
      ∙ ap₂ (λ x y. Some (at_fault x y n)) m z
  types_at index (x ∷ ts) (suc i) t p c n h k e =
      let m : index + 1 + i ≡ index + suc i = omega arith in
      ap (λ o. or_else o (type_positivity_fault test ids r (index + 1) ts)) (P.constructors_pass test PositiveIn passes ids r x.id index 0 x.constructors h.before.0)
      ∙ types_at (index + 1) ts i t p c n (record { stands = h.stands; before = h.before.1; is_not = h.is_not }) k e ∙ ap (λ z. Some (at_fault z p n)) m

-- Blocks
module _ (test : Tree → Bool) (PositiveIn : Tree → Type 0) (is_right : (t : Tree) → test t ≡ true → PositiveIn t) (passes : (t : Tree) → PositiveIn t → test t ≡ true) where
  block_first : (block : Block) (fault : PositivityFault) → ShapedBlock block → type_positivity_fault test (bare_ids block.types) block.parameters 0 block.types ≡ Some fault → FirstNotPositive PositiveIn block fault
  block_first block fault s e =
      let ids = bare_ids block.types in
      let r = block.parameters in
      let f = types_first test PositiveIn is_right passes ids r s.domains 0 block.types fault s.as_many s.types e in
      let g = f.found in
      let shape = g.shape in
      let parts = with_parameters shape.parts s.as_many in
      let z : 0 + f.i ≡ f.i = omega arith in
      let y : 0 + g.p ≡ g.p = omega arith in
      let index : f.i ≡ fault.index = sym (ap (λ x. x.index) g.fault_is ∙ z) in
      let place : g.p ≡ fault.place = sym (ap (λ x. x.place) g.fault_is ∙ y) in
      let as_many = length_applied_to s.domains parts.arguments ∙ s.as_many in
      record {
        t = f.t;
        c = g.c;
        first_type = subst (λ i. FirstNot (λ t. Each (λ c. PositiveConstructor PositiveIn ids t.id r c.type) t.constructors) block.types i f.t) index f.first;
        first_constructor = subst (λ p. FirstNot (λ c. PositiveConstructor PositiveIn ids f.t.id r c.type) f.t.constructors p g.c) place g.first;
        parts = parts;
        at_parameters = applied_to s.domains parts.arguments;
        indices = shape.indices;
        is_applied = shape.is_applied;
        as_many = as_many;
        first_argument = reason_first test PositiveIn is_right passes ids r f.t.id g.c parts.arguments shape.indices fault.argument
            (parts_of test PositiveIn is_right passes ids r f.t.id g.c parts (applied_to s.domains parts.arguments) shape.indices shape.is_applied as_many) g.reason_is;
      }

  block_at : (block : Block) (fault : PositivityFault) → FirstNotPositive PositiveIn block fault → type_positivity_fault test (bare_ids block.types) block.parameters 0 block.types ≡ Some fault
  block_at block fault h =
      let ids = bare_ids block.types in
      let r = block.parameters in
      let z : 0 + fault.index ≡ fault.index = omega arith in
      types_at test PositiveIn is_right passes ids r 0 block.types fault.index h.t fault.place h.c fault.argument h.first_type h.first_constructor
      (reason_at test PositiveIn is_right passes ids r h.t.id h.c h.parts.arguments h.indices fault.argument
      (parts_of test PositiveIn is_right passes ids r h.t.id h.c h.parts h.at_parameters h.indices h.is_applied h.as_many) h.first_argument)
      ∙ ap (λ i. Some (at_fault i fault.place fault.argument)) z

pub nested_fault_is_first : (E : Environment) (block : Block) (fault : PositivityFault) → ShapedBlock block → nested_fault E block ≡ Some fault → FirstNotPositive (Positive E (bare_ids block.types) []) block fault
nested_fault_is_first E block fault =
    let ids = bare_ids block.types in
    block_first (is_nested_positive E ids) (Positive E ids []) (nested_positive E ids) (nested_positive_passes E ids) block fault

pub first_nested_fault : (E : Environment) (block : Block) (fault : PositivityFault) → FirstNotPositive (Positive E (bare_ids block.types) []) block fault → nested_fault E block ≡ Some fault
first_nested_fault E block fault =
    let ids = bare_ids block.types in
    block_at (is_nested_positive E ids) (Positive E ids []) (nested_positive E ids) (nested_positive_passes E ids) block fault

pub positivity_fault_is_first : (block : Block) (fault : PositivityFault) → ShapedBlock block → positivity_fault block ≡ Some fault → FirstNotPositive (StrictlyPositive (bare_ids block.types)) block fault
positivity_fault_is_first block fault =
    let ids = bare_ids block.types in
    block_first (is_strictly_positive ids) (StrictlyPositive ids) (strictly_positive ids) (λ t p. P.strictly_positive_passes ids p) block fault

pub first_positivity_fault : (block : Block) (fault : PositivityFault) → FirstNotPositive (StrictlyPositive (bare_ids block.types)) block fault → positivity_fault block ≡ Some fault
first_positivity_fault block fault =
    let ids = bare_ids block.types in
    block_at (is_strictly_positive ids) (StrictlyPositive ids) (strictly_positive ids) (λ t p. P.strictly_positive_passes ids p) block fault
