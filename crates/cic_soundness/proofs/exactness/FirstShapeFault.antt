-- The test of shape answers the first fault of a block, and only that: the types before have the shape by the rules, and
-- what it names has not.
use Rattle.std.proofs.Common.{◌≡◌, ℕ, zero, suc, ◌+◌, Bool, true, false, if◌then◌else◌, Option, Some, None, List, [], ◌∷◌, length, take, refl, sym, ap, ap₂, ◌∙◌, arith, subst}
use Rattle.std.specs.Prelude.{replicate}
use Rattle.std.proofs.lemmas.List.{length-replicate, length-take-le}
use Rattle.cic_terms.specs.Tree.{Tree, prop, sort}
use Rattle.cic_names.specs.declared.name.GlobalId.{GlobalId}
use Rattle.cic_rules.specs.Environment.{Block, TypeDeclaration, ConstructorDeclaration, element, or_else}
use Rattle.cic_rules.specs.Telescopes.{domains_of}
use Rattle.cic_rules.specs.Inductive.{Each, ArityShape, ConstructorShape, TypeShape}
use Rattle.cic_counted.specs.BlockTests.{parameter_domains, index_count, is_arity, is_constructor_type, ShapeFault, bad_arity_at, bad_constructor_at, arity_fault, constructor_fault, constructors_fault, shape_fault}
use Rattle.cic_soundness.specs.FirstFaults.{FirstNot, ShareParameters, FirstNotShaped, first_arity, first_constructor}
use Rattle.cic_soundness.proofs.blocks.Shapes.{ArityRead, arity_read, arities_read, constructor_shape, constructors_read}
use Rattle.cic_soundness.proofs.exactness.Shape.{goes_on, taken_domains, index_count_is, arity_passes, constructor_passes, arities_pass, constructors_pass}
use Rattle.cic_soundness.proofs.exactness.FirstPositivityFault.{stops_here, fails}
use Rattle.cic_metatheory.proofs.basics.Options.{some_inj, some_is_not_none}

-- The front of a list up to an element
in_front : {A : Type 0} (So : A → Type 0) (xs : List A) (i : ℕ) (x : A) → element xs i ≡ Some x → Each So (take (suc i) xs) → So x
in_front So [] i x e h = some_is_not_none e
in_front So (y ∷ xs) zero x e h = subst So (some_inj e) h.0
in_front So (y ∷ xs) (suc i) x e h = in_front So xs i x e h.1

module _ (r : ℕ) (domains : List Tree) where
  abbrev GoodArity : TypeDeclaration → Type 0
  GoodArity t = ArityShape domains t.arity

  abbrev GoodConstructor : GlobalId → ℕ → ConstructorDeclaration → Type 0
  GoodConstructor id n c = ConstructorShape domains id n c.type

  -- Arities
  record FoundArity (index : ℕ) (ts : List TypeDeclaration) (fault : ShapeFault) : Type 0 where
    i : ℕ
    t : TypeDeclaration
    fault_is : fault ≡ bad_arity_at (index + i)
    stands : element ts i ≡ Some t
    before : Each (λ t. ArityRead r domains t.arity) (take i ts)
    is_not : is_arity r domains t.arity ≡ false

  arities_first : (index : ℕ) (ts : List TypeDeclaration) (fault : ShapeFault) → arity_fault r domains index ts ≡ Some fault → FoundArity index ts fault
  arities_first index [] fault e = some_is_not_none e
  arities_first index (t ∷ ts) fault e = by_test (is_arity r domains t.arity) refl e (arities_first (index + 1) ts fault)
    where
      by_test : (b : Bool) → is_arity r domains t.arity ≡ b → (if b then arity_fault r domains (index + 1) ts else Some (bad_arity_at index)) ≡ Some fault →
          (arity_fault r domains (index + 1) ts ≡ Some fault → FoundArity (index + 1) ts fault) → FoundArity index (t ∷ ts) fault
      by_test true q e later =
          let f = later e in
          let m : index + 1 + f.i ≡ index + suc f.i = omega arith in
          record { i = suc f.i; t = f.t; fault_is = f.fault_is ∙ ap bad_arity_at m; stands = f.stands; before = (arity_read r domains t.arity q, f.before); is_not = f.is_not }
      by_test false q e later =
          let m : index ≡ index + 0 = omega arith in
          record { i = 0; t = t; fault_is = sym (some_inj e) ∙ ap bad_arity_at m; stands = refl; before = tt; is_not = q }

  arities_at : (index : ℕ) (ts : List TypeDeclaration) (i : ℕ) → length domains ≡ r → Each GoodArity (take i ts) → (Each GoodArity (take (suc i) ts) → ⊥) → arity_fault r domains index ts ≡ Some (bad_arity_at (index + i))
  arities_at index [] i l h n = absurd (n (none i))
    where
      none : (i : ℕ) → Each GoodArity (take (suc i) [])
      none i = tt
  arities_at index (t ∷ ts) zero l h n =
      let m : index ≡ index + 0 = omega arith in
      stops_here (is_arity r domains t.arity) (arity_fault r domains (index + 1) ts) (bad_arity_at index) (fails (is_arity r domains t.arity) (λ q. n ((arity_read r domains t.arity q).shape, tt)))
      ∙ ap (λ z. Some (bad_arity_at z)) m
  arities_at index (t ∷ ts) (suc i) l h n =
      let m : index + 1 + i ≡ index + suc i = omega arith in
      goes_on (is_arity r domains t.arity) (arity_fault r domains (index + 1) ts) (bad_arity_at index) (arity_passes r domains t.arity l h.0)
      ∙ arities_at (index + 1) ts i l h.1 (λ k. n (h.0, k)) ∙ ap (λ z. Some (bad_arity_at z)) m

  -- Constructors of one type
  module _ (l : length domains ≡ r) (t : TypeDeclaration) (index n : ℕ) (counted : index_count r t ≡ n) where
    record FoundConstructor (place : ℕ) (cs : List ConstructorDeclaration) (fault : ShapeFault) : Type 0 where
      p : ℕ
      c : ConstructorDeclaration
      fault_is : fault ≡ bad_constructor_at index (place + p)
      first : FirstNot (GoodConstructor t.id n) cs p c

    has_shape : (c : ConstructorDeclaration) → is_constructor_type r domains t.id (index_count r t) c.type ≡ true → GoodConstructor t.id n c
    has_shape c q = constructor_shape r domains t.id n c.type l (ap (λ k. is_constructor_type r domains t.id k c.type) (sym counted) ∙ q)

    passes_too : (c : ConstructorDeclaration) → GoodConstructor t.id n c → is_constructor_type r domains t.id (index_count r t) c.type ≡ true
    passes_too c h = ap (λ k. is_constructor_type r domains t.id k c.type) counted ∙ constructor_passes r domains t.id n c.type l h

    constructors_first : (place : ℕ) (cs : List ConstructorDeclaration) (fault : ShapeFault) → constructor_fault r domains t index place cs ≡ Some fault → FoundConstructor place cs fault
    constructors_first place [] fault e = some_is_not_none e
    constructors_first place (c ∷ cs) fault e = by_test (is_constructor_type r domains t.id (index_count r t) c.type) refl e (constructors_first (place + 1) cs fault)
      where
        by_test : (b : Bool) → is_constructor_type r domains t.id (index_count r t) c.type ≡ b → (if b then constructor_fault r domains t index (place + 1) cs else Some (bad_constructor_at index place)) ≡ Some fault →
            (constructor_fault r domains t index (place + 1) cs ≡ Some fault → FoundConstructor (place + 1) cs fault) → FoundConstructor place (c ∷ cs) fault
        by_test true q e later =
            let f = later e in
            let m : place + 1 + f.p ≡ place + suc f.p = omega arith in
            record { p = suc f.p; c = f.c; fault_is = f.fault_is ∙ ap (bad_constructor_at index) m; first = record { stands = f.first.stands; before = (has_shape c q, f.first.before); is_not = f.first.is_not } }
        by_test false q e later =
            let m : place ≡ place + 0 = omega arith in
            record { p = 0; c = c; fault_is = sym (some_inj e) ∙ ap (bad_constructor_at index) m; first = record { stands = refl; before = tt; is_not = λ h. absurd (grind (arith, q, passes_too c h)) } }

    constructors_at : (place : ℕ) (cs : List ConstructorDeclaration) (p : ℕ) (c : ConstructorDeclaration) → FirstNot (GoodConstructor t.id n) cs p c → constructor_fault r domains t index place cs ≡ Some (bad_constructor_at index (place + p))
    constructors_at place [] p c h = some_is_not_none h.stands
    constructors_at place (x ∷ cs) zero c h =
        let m : place ≡ place + 0 = omega arith in
        stops_here (is_constructor_type r domains t.id (index_count r t) x.type) (constructor_fault r domains t index (place + 1) cs) (bad_constructor_at index place)
        (fails (is_constructor_type r domains t.id (index_count r t) x.type) (λ q. h.is_not (subst (GoodConstructor t.id n) (some_inj h.stands) (has_shape x q)))) ∙ ap (λ z. Some (bad_constructor_at index z)) m
    constructors_at place (x ∷ cs) (suc p) c h =
        let m : place + 1 + p ≡ place + suc p = omega arith in
        goes_on (is_constructor_type r domains t.id (index_count r t) x.type) (constructor_fault r domains t index (place + 1) cs) (bad_constructor_at index place) (passes_too x h.before.0)
        ∙ constructors_at (place + 1) cs p c (record { stands = h.stands; before = h.before.1; is_not = h.is_not }) ∙ ap (λ z. Some (bad_constructor_at index z)) m

  -- Constructors of all types
  record FoundType (index : ℕ) (ts : List TypeDeclaration) (fault : ShapeFault) : Type 0 where
    i : ℕ
    p : ℕ
    t : TypeDeclaration
    c : ConstructorDeclaration
    arity : ArityShape domains t.arity
    fault_is : fault ≡ bad_constructor_at (index + i) p
    first : FirstNot (TypeShape domains) ts i t
    constructor : FirstNot (GoodConstructor t.id (length arity.indices)) t.constructors p c

  types_first : (index : ℕ) (ts : List TypeDeclaration) (fault : ShapeFault) → length domains ≡ r → Each GoodArity ts → constructors_fault r domains index ts ≡ Some fault → FoundType index ts fault
  types_first index [] fault l h e = some_is_not_none e
  types_first index (t ∷ ts) fault l h e = by_constructors (constructor_fault r domains t index 0 t.constructors) refl e (types_first (index + 1) ts fault l h.1)
    where
      by_constructors : (o : Option ShapeFault) → constructor_fault r domains t index 0 t.constructors ≡ o → or_else o (constructors_fault r domains (index + 1) ts) ≡ Some fault →
          (constructors_fault r domains (index + 1) ts ≡ Some fault → FoundType (index + 1) ts fault) → FoundType index (t ∷ ts) fault
      by_constructors None q e later =
          let f = later e in
          let m : index + 1 + f.i ≡ index + suc f.i = omega arith in
          let good : TypeShape domains t = record { arity = h.0; constructors = constructors_read r domains t index 0 (length h.0.indices) t.constructors l (index_count_is r domains t l h.0) q } in
          record {
            i = suc f.i;
            p = f.p;
            t = f.t;
            c = f.c;
            arity = f.arity;
            fault_is = f.fault_is ∙ ap (λ z. bad_constructor_at z f.p) m;
            first = record { stands = f.first.stands; before = (good, f.first.before); is_not = f.first.is_not };
            constructor = f.constructor;
          }
      by_constructors (Some k) q e later =
          let counted = index_count_is r domains t l h.0 in
          let f = constructors_first l t index (length h.0.indices) counted 0 t.constructors fault (q ∙ e) in
          let m : index ≡ index + 0 = omega arith in
          let z : 0 + f.p ≡ f.p = omega arith in
          record {
            i = 0;
            p = f.p;
            t = t;
            c = f.c;
            arity = h.0;
            fault_is = f.fault_is ∙ ap₂ bad_constructor_at m z;
            first = record {
              stands = refl;
              before = tt;
              is_not = λ good. some_is_not_none (sym (constructors_pass r domains t index 0 (length good.arity.indices) t.constructors l (index_count_is r domains t l good.arity) good.constructors) ∙ q);
            };
            constructor = f.first;
          }

  types_at : (index : ℕ) (ts : List TypeDeclaration) (i p : ℕ) (t : TypeDeclaration) (c : ConstructorDeclaration) (arity : ArityShape domains t.arity) → length domains ≡ r → FirstNot (TypeShape domains) ts i t →
      FirstNot (GoodConstructor t.id (length arity.indices)) t.constructors p c → constructors_fault r domains index ts ≡ Some (bad_constructor_at (index + i) p)
  types_at index [] i p t c arity l h k = some_is_not_none h.stands
  types_at index (x ∷ ts) zero p t c arity l h k =
      let m : index ≡ index + 0 = omega arith in
      let z : 0 + p ≡ p = omega arith in
      ap (λ y. or_else (constructor_fault r domains y index 0 y.constructors) (constructors_fault r domains (index + 1) ts)) (some_inj h.stands)
      ∙ ap (λ o. or_else o (constructors_fault r domains (index + 1) ts)) (constructors_at l t index (length arity.indices) (index_count_is r domains t l arity) 0 t.constructors p c k)
      ∙ ap₂ (λ x y. Some (bad_constructor_at x y)) m z
  types_at index (x ∷ ts) (suc i) p t c arity l h k =
      let m : index + 1 + i ≡ index + suc i = omega arith in
      let good = h.before.0 in
      ap (λ o. or_else o (constructors_fault r domains (index + 1) ts)) (constructors_pass r domains x index 0 (length good.arity.indices) x.constructors l (index_count_is r domains x l good.arity) good.constructors)
      ∙ types_at (index + 1) ts i p t c arity l (record { stands = h.stands; before = h.before.1; is_not = h.is_not }) k ∙ ap (λ z. Some (bad_constructor_at z p)) m

shapes_of_read : (r : ℕ) (domains : List Tree) (ts : List TypeDeclaration) → Each (λ t. ArityRead r domains t.arity) ts → Each (λ t. ArityShape domains t.arity) ts
shapes_of_read r domains [] h = tt
shapes_of_read r domains (t ∷ ts) h = (h.0.shape, shapes_of_read r domains ts h.1)

-- Blocks. The domains of the parameters are those that the first type has.
module _ (block : Block) (t : TypeDeclaration) (ts : List TypeDeclaration) (is : block.types ≡ t ∷ ts) where
  abbrev r : ℕ
  r = block.parameters

  abbrev first_domains : List Tree
  first_domains = take r (domains_of t.arity)

  as_many_domains : ArityRead r first_domains t.arity → length first_domains ≡ r
  as_many_domains h = length-take-le r (domains_of t.arity) h.enough

  share_before : (i : ℕ) → Each (λ u. ArityRead r first_domains u.arity) (take i (t ∷ ts)) → ShareParameters r (take i (t ∷ ts))
  share_before zero h = record { domains = replicate r (sort prop); as_many = length-replicate r (sort prop); arities = tt }
  share_before (suc i) h = record { domains = first_domains; as_many = as_many_domains h.0; arities = shapes_of_read r first_domains (take (suc i) (t ∷ ts)) h }

  shared_are_first : (i : ℕ) (h : ShareParameters r (take (suc i) (t ∷ ts))) → first_domains ≡ h.domains
  shared_are_first i h = taken_domains r h.domains t.arity h.as_many h.arities.0

  not_shared : (i : ℕ) (u : TypeDeclaration) → element (t ∷ ts) i ≡ Some u → is_arity r first_domains u.arity ≡ false → ShareParameters r (take (suc i) (t ∷ ts)) → ⊥
  not_shared i u e q h =
      let k = in_front (λ u. ArityShape h.domains u.arity) (t ∷ ts) i u e h.arities in
      let passes = ap (λ z. is_arity r z u.arity) (shared_are_first i h) ∙ arity_passes r h.domains u.arity h.as_many k in
      absurd (grind (arith, q, passes))

  block_first : (fault : ShapeFault) → or_else (arity_fault r first_domains 0 (t ∷ ts)) (constructors_fault r first_domains 0 (t ∷ ts)) ≡ Some fault → FirstNotShaped block fault
  block_first fault e = by_arities (arity_fault r first_domains 0 (t ∷ ts)) refl e
    where
      by_arities : (o : Option ShapeFault) → arity_fault r first_domains 0 (t ∷ ts) ≡ o → or_else o (constructors_fault r first_domains 0 (t ∷ ts)) ≡ Some fault → FirstNotShaped block fault
      by_arities None q e =
          let h = arities_read r first_domains 0 (t ∷ ts) q in
          let l = as_many_domains h.0 in
          let shapes = shapes_of_read r first_domains (t ∷ ts) h in
          let f = types_first r first_domains 0 (t ∷ ts) fault l shapes e in
          let z : 0 + f.i ≡ f.i = omega arith in
          first_constructor f.i f.p f.t f.c first_domains f.arity (f.fault_is ∙ ap (λ i. bad_constructor_at i f.p) z) l (subst (Each (λ u. ArityShape first_domains u.arity)) (sym is) shapes)
          (subst (λ us. FirstNot (TypeShape first_domains) us f.i f.t) (sym is) f.first) f.constructor
      by_arities (Some k) q e =
          let f = arities_first r first_domains 0 (t ∷ ts) fault (q ∙ e) in
          let z : 0 + f.i ≡ f.i = omega arith in
          let m : suc f.i ≡ f.i + 1 = omega arith in
          first_arity f.i (f.fault_is ∙ ap bad_arity_at z) (subst (λ us. ShareParameters r (take f.i us)) (sym is) (share_before f.i f.before))
          (λ h. not_shared f.i f.t f.stands f.is_not (subst (λ us. ShareParameters r (take (suc f.i) us)) is (subst (λ i. ShareParameters r (take i block.types)) (sym m) h)))

  arity_at : (i : ℕ) → ShareParameters r (take i (t ∷ ts)) → (ShareParameters r (take (suc i) (t ∷ ts)) → ⊥) → arity_fault r first_domains 0 (t ∷ ts) ≡ Some (bad_arity_at i)
  arity_at zero h n =
      stops_here (is_arity r first_domains t.arity) (arity_fault r first_domains 1 ts) (bad_arity_at 0) (fails (is_arity r first_domains t.arity) (λ q.
      let k = arity_read r first_domains t.arity q in n (record { domains = first_domains; as_many = as_many_domains k; arities = (k.shape, tt) })))
  arity_at (suc i) h n =
      let same = shared_are_first i h in
      let l : length first_domains ≡ r = ap length same ∙ h.as_many in
      let z : 0 + suc i ≡ suc i = omega arith in
      arities_at r first_domains 0 (t ∷ ts) (suc i) l (subst (λ ds. Each (λ u. ArityShape ds u.arity) (take (suc i) (t ∷ ts))) (sym same) h.arities)
      (λ k. n (record { domains = first_domains; as_many = l; arities = k })) ∙ ap (λ z. Some (bad_arity_at z)) z

  block_at : (fault : ShapeFault) → FirstNotShaped block fault → or_else (arity_fault r first_domains 0 (t ∷ ts)) (constructors_fault r first_domains 0 (t ∷ ts)) ≡ Some fault
  block_at fault (first_arity i e h n) =
      let m : i + 1 ≡ suc i = omega arith in
      ap (λ o. or_else o (constructors_fault r first_domains 0 (t ∷ ts)))
      (arity_at i (subst (λ us. ShareParameters r (take i us)) is h) (λ k. n (subst (λ us. ShareParameters r (take (i + 1) us)) (sym is) (subst (λ z. ShareParameters r (take z (t ∷ ts))) (sym m) k))))
      ∙ ap Some (sym e)
  block_at fault (first_constructor i p u c domains arity e l h k f) =
      let shapes = subst (Each (λ u. ArityShape domains u.arity)) is h in
      let z : 0 + i ≡ i = omega arith in
      ap (λ ds. or_else (arity_fault r ds 0 (t ∷ ts)) (constructors_fault r ds 0 (t ∷ ts))) (taken_domains r domains t.arity l shapes.0)
      ∙ ap₂ or_else (arities_pass r domains 0 (t ∷ ts) l shapes) (types_at r domains 0 (t ∷ ts) i p u c arity l (subst (λ us. FirstNot (TypeShape domains) us i u) is k) f)
      ∙ ap (λ i. Some (bad_constructor_at i p)) z ∙ ap Some (sym e)

no_type_no_fault : (block : Block) (fault : ShapeFault) → block.types ≡ [] → FirstNotShaped block fault → ⊥
no_type_no_fault block fault is (first_arity i e h n) =
    n (record { domains = h.domains; as_many = h.as_many; arities = subst (λ us. Each (λ u. ArityShape h.domains u.arity) (take (i + 1) us)) (sym is) (none (λ u. ArityShape h.domains u.arity) (i + 1)) })
  where
    none : (So : TypeDeclaration → Type 0) (i : ℕ) → Each So (take i [])
    none So zero = tt
    none So (suc i) = tt
no_type_no_fault block fault is (first_constructor i p u c domains arity e l h k f) = some_is_not_none (sym (ap (λ us. element us i) is) ∙ k.stands)

pub shape_fault_is_first : (block : Block) (fault : ShapeFault) → shape_fault block ≡ Some fault → FirstNotShaped block fault
shape_fault_is_first block fault e = by_types block.types refl
  where
    by_types : (us : List TypeDeclaration) → block.types ≡ us → FirstNotShaped block fault
    by_types [] is = some_is_not_none (sym (ap (λ us. or_else (arity_fault block.parameters (parameter_domains block.parameters us) 0 us) (constructors_fault block.parameters (parameter_domains block.parameters us) 0 us)) is) ∙ e)
    by_types (t ∷ ts) is =
        block_first block t ts is fault
        (sym (ap (λ us. or_else (arity_fault block.parameters (parameter_domains block.parameters us) 0 us) (constructors_fault block.parameters (parameter_domains block.parameters us) 0 us)) is) ∙ e)

pub first_shape_fault : (block : Block) (fault : ShapeFault) → FirstNotShaped block fault → shape_fault block ≡ Some fault
first_shape_fault block fault h = by_types block.types refl
  where
    by_types : (us : List TypeDeclaration) → block.types ≡ us → shape_fault block ≡ Some fault
    by_types [] is = absurd (no_type_no_fault block fault is h)
    by_types (t ∷ ts) is =
        ap (λ us. or_else (arity_fault block.parameters (parameter_domains block.parameters us) 0 us) (constructors_fault block.parameters (parameter_domains block.parameters us) 0 us)) is
        ∙ block_at block t ts is fault h
