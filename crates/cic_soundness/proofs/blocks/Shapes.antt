-- A block that passes the test of shape has the shape of the rules. The check of a block refuses one with a fault,
-- since the type or the constructor that a fault names is there, so its id can be told. The kernel law needs it, since
-- the rules ask for a block of that shape.
use Rattle.std.proofs.Common.{◌≡◌, inl, inr, ℕ, zero, suc, ◌+◌, ◌-◌, ◌≤◌, Bool, true, false, not, ◌&&◌, nat_eq, nat_le, if◌then◌else◌, Option, Some, None, List, [], ◌∷◌, ◌++◌, length, take, drop, refl, sym, ap, ap₂, ◌∙◌, arith}
use Rattle.std.specs.Prelude.{is_none, option_map, option_and_then, replicate}
use Rattle.std.proofs.lemmas.Bool.{eqb-true, leb-true, and_parts}
use Rattle.std.proofs.Math.Seq.{take-append_seam, drop-append_seam}
use Rattle.std.proofs.lemmas.List.{append-nil, length-map, take-append-drop, length-drop, length-take-le, length-replicate}
use Rattle.cic_terms.specs.Tree.{TreeSort, prop, set, typ, own, Tree, sort, prod, ind}
use Rattle.cic_terms.specs.Lift.{lift_tree}
use Rattle.cic_names.specs.declared.name.GlobalId.{GlobalId}
use Rattle.cic_names.specs.declared.level.Level.{Level}
use Rattle.cic_counted.specs.Sameness.{same_tree}
use Rattle.cic_rules.specs.Numbering.{plain_level}
use Rattle.cic_rules.specs.Environment.{Block, TypeDeclaration, ConstructorDeclaration, element, or_else}
use Rattle.cic_rules.specs.Telescopes.{apply, head_of, products, domains_of, conclusion_of, variables, lift_all}
use Rattle.cic_rules.specs.Inductive.{Each, PlainSort, plain_prop, plain_set, plain_universe, ArityShape, ConstructorShape, TypeShape, ShapedBlock}
use Rattle.cic_counted.specs.Readings.{arguments_of}
use Rattle.cic_counted.specs.Outcome.{Cause, bad_arity, bad_constructor}
use Rattle.cic_counted.specs.BlockTests.{is_plain_sort_term, same_trees, parameter_domains, index_count, is_arity, is_constructor_type, ShapeFault, bad_arity_at, bad_constructor_at, arity_fault, constructor_fault, constructors_fault, shape_fault}
use Rattle.cic_counted.specs.Checking.{constructor_id, shape_cause}
use Rattle.cic_counted.proofs.Decided.{same_tree-is, false_is_not_true}
use Rattle.cic_counted.proofs.Functions.{arguments_of_apply}
use Rattle.cic_soundness.proofs.evaluations.Readings.{apply_head}
use Rattle.cic_metatheory.proofs.environments.Order.{or_else_cases, or_else_none}
use Rattle.cic_metatheory.proofs.basics.Options.{some_inj, some_is_not_none}
use Rattle.cic_metatheory.proofs.basics.Products.{domains_of_products, conclusion_of_products, no_domains_of_apply, conclusion_of_apply}

-- Tests that pass
pub no_fault_here : {F : Type 0} (test : Bool) (rest : Option F) (fault : F) → (if test then rest else Some fault) ≡ None → (test ≡ true) × (rest ≡ None)
no_fault_here true rest fault e = (refl, e)
no_fault_here false rest fault e = some_is_not_none (sym e)

trees_are : (xs ys : List Tree) → same_trees xs ys ≡ true → xs ≡ ys
trees_are [] [] e = refl
trees_are [] (y ∷ ys) e = false_is_not_true e
trees_are (x ∷ xs) [] e = false_is_not_true e
trees_are (x ∷ xs) (y ∷ ys) e =
    let p = and_parts (same_tree x y) (same_trees xs ys) e in
    ap₂ ◌∷◌ (same_tree-is x y p.0) (trees_are xs ys p.1)

-- A term as its products, and a row of products as two
products_of_domains : (t : Tree) → products (domains_of t) (conclusion_of t) ≡ t
products_of_domains (prod a b) = ap (prod a) (products_of_domains b)
products_of_domains t = refl

pub products_in_two : (as_ bs : List Tree) (t : Tree) → products (as_ ++ bs) t ≡ products as_ (products bs t)
products_in_two [] bs t = refl
products_in_two (a ∷ as_) bs t = ap (prod a) (products_in_two as_ bs t)

products_after : (r : ℕ) (ds : List Tree) (t : Tree) → take r (domains_of t) ≡ ds → t ≡ products ds (products (drop r (domains_of t)) (conclusion_of t))
products_after r ds t e =
    sym (products_of_domains t)
    ∙ ap (λ z. products z (conclusion_of t)) (sym (take-append-drop r (domains_of t)))
    ∙ products_in_two (take r (domains_of t)) (drop r (domains_of t)) (conclusion_of t)
    ∙ ap (λ z. products z (products (drop r (domains_of t)) (conclusion_of t))) e

-- Arities
plain_universe_is : (e : _) (o : Option Level) → plain_level e ≡ o → not (is_none o) ≡ true → PlainSort (typ e)
plain_universe_is e (Some l) q h = plain_universe q
plain_universe_is e None q h = false_is_not_true h

plain_sort_is : (t : Tree) → is_plain_sort_term t ≡ true → (s : TreeSort) × (t ≡ sort s) × PlainSort s
plain_sort_is (sort prop) h = (prop, refl, plain_prop)
plain_sort_is (sort set) h = (set, refl, plain_set)
plain_sort_is (sort (typ e)) h = (typ e, refl, plain_universe_is e (plain_level e) refl h)
plain_sort_is (sort (own i)) h = false_is_not_true h
plain_sort_is t h = false_is_not_true h

pub record ArityRead (r : ℕ) (domains : List Tree) (arity : Tree) : Type 0 where
  pub enough : r ≤ length (domains_of arity)
  pub taken : take r (domains_of arity) ≡ domains
  pub shape : ArityShape domains arity
  pub as_many : length shape.indices ≡ length (domains_of arity) - r

pub arity_read : (r : ℕ) (domains : List Tree) (arity : Tree) → is_arity r domains arity ≡ true → ArityRead r domains arity
arity_read r domains arity h =
    let p = and_parts (nat_le r (length (domains_of arity)) && same_trees (take r (domains_of arity)) domains) (is_plain_sort_term (conclusion_of arity)) h in
    let q = and_parts (nat_le r (length (domains_of arity))) (same_trees (take r (domains_of arity)) domains) p.0 in
    let taken = trees_are (take r (domains_of arity)) domains q.1 in
    let ends = plain_sort_is (conclusion_of arity) p.1 in
    record {
      enough = leb-true r (length (domains_of arity)) q.0;
      taken = taken;
      shape = record {
        indices = drop r (domains_of arity);
        sort_of = ends.0;
        is_arity = products_after r domains arity taken ∙ ap (λ z. products domains (products (drop r (domains_of arity)) z)) ends.1;
        is_plain = ends.2;
      };
      as_many = length-drop r (domains_of arity);
    }

-- Types of constructors
dropped_count : (r n k : ℕ) → k ≡ r + n → k - r ≡ n
dropped_count r n k e = omega (arith, e)

pub constructor_shape : (r : ℕ) (domains : List Tree) (id : GlobalId) (n : ℕ) (type : Tree) → length domains ≡ r → is_constructor_type r domains id n type ≡ true → ConstructorShape domains id n type
constructor_shape r domains id n type l h =
    let ds = domains_of type in
    let end = conclusion_of type in
    let us = arguments_of end in
    let enough = nat_le r (length ds) in
    let begins = same_trees (take r ds) domains in
    let headed = same_tree (head_of end) (ind id) in
    let counted = nat_eq (length us) (r + n) in
    let applied = same_trees (take r us) (lift_all (length ds - r) (variables r)) in
    let p = and_parts (enough && begins && headed && counted) applied h in
    let q = and_parts (enough && begins && headed) counted p.0 in
    let o = and_parts (enough && begins) headed q.0 in
    let m = and_parts enough begins o.0 in
    let is_applied : take r us ≡ lift_all (length (drop r ds)) (variables (length domains)) =
    trees_are (take r us) (lift_all (length ds - r) (variables r)) p.1 ∙ ap₂ (λ i j. lift_all i (variables j)) (sym (length-drop r ds)) (sym l) in
    let is_end : end ≡ apply (ind id) (lift_all (length (drop r ds)) (variables (length domains)) ++ drop r us) =
    sym (apply_head end)
    ∙ ap (λ f. apply f us) (same_tree-is (head_of end) (ind id) o.1)
    ∙ ap (apply (ind id)) (sym (take-append-drop r us) ∙ ap (λ z. z ++ drop r us) is_applied) in
    record {
      parts = record {
        parameters = domains;
        arguments = drop r ds;
        applied_to = lift_all (length (drop r ds)) (variables (length domains)) ++ drop r us;
        is_type = products_after r domains type (trees_are (take r ds) domains m.1) ∙ ap (λ z. products domains (products (drop r ds) z)) is_end;
        as_many = refl;
      };
      indices = drop r us;
      same_parameters = refl;
      is_applied = refl;
      as_many = length-drop r us ∙ dropped_count r n (length us) (eqb-true (length us) (r + n) q.1);
    }

-- A block without fault
pub arities_read : (r : ℕ) (domains : List Tree) (index : ℕ) (ts : List TypeDeclaration) → arity_fault r domains index ts ≡ None → Each (λ t. ArityRead r domains t.arity) ts
arities_read r domains index [] h = tt
arities_read r domains index (t ∷ ts) h =
    let p = no_fault_here (is_arity r domains t.arity) (arity_fault r domains (index + 1) ts) (bad_arity_at index) h in
    (arity_read r domains t.arity p.0, arities_read r domains (index + 1) ts p.1)

pub constructors_read : (r : ℕ) (domains : List Tree) (t : TypeDeclaration) (index place n : ℕ) (cs : List ConstructorDeclaration) → length domains ≡ r → index_count r t ≡ n → constructor_fault r domains t index place cs ≡ None →
    Each (λ c. ConstructorShape domains t.id n c.type) cs
constructors_read r domains t index place n [] l e h = tt
constructors_read r domains t index place n (c ∷ cs) l e h =
    let p = no_fault_here (is_constructor_type r domains t.id (index_count r t) c.type) (constructor_fault r domains t index (place + 1) cs) (bad_constructor_at index place) h in
    (constructor_shape r domains t.id n c.type l (ap (λ k. is_constructor_type r domains t.id k c.type) (sym e) ∙ p.0), constructors_read r domains t index (place + 1) n cs l e p.1)

types_read : (r : ℕ) (domains : List Tree) (index : ℕ) (ts : List TypeDeclaration) → length domains ≡ r → Each (λ t. ArityRead r domains t.arity) ts → constructors_fault r domains index ts ≡ None → Each (TypeShape domains) ts
types_read r domains index [] l a h = tt
types_read r domains index (t ∷ ts) l a h =
    let p = or_else_none (constructor_fault r domains t index 0 t.constructors) (constructors_fault r domains (index + 1) ts) h in (
      record { arity = a.0.shape; constructors = constructors_read r domains t index 0 (length a.0.shape.indices) t.constructors l (sym a.0.as_many) p.0 },
      types_read r domains (index + 1) ts l a.1 p.1,
    )

-- Without types there is no arity to read the parameters off, and any domains serve.
shaped_types : (r : ℕ) (ts : List TypeDeclaration) → or_else (arity_fault r (parameter_domains r ts) 0 ts) (constructors_fault r (parameter_domains r ts) 0 ts) ≡ None →
    (domains : List Tree) × (length domains ≡ r) × Each (TypeShape domains) ts
shaped_types r [] h = (replicate r (sort prop), length-replicate r (sort prop), tt)
shaped_types r (t ∷ ts) h =
    let domains = take r (domains_of t.arity) in
    let p = or_else_none (arity_fault r domains 0 (t ∷ ts)) (constructors_fault r domains 0 (t ∷ ts)) h in
    let a = arities_read r domains 0 (t ∷ ts) p.0 in
    let l = length-take-le r (domains_of t.arity) a.0.enough in
    (domains, l, types_read r domains 0 (t ∷ ts) l a p.1)

pub shaped_block : (block : Block) → shape_fault block ≡ None → ShapedBlock block
shaped_block block h =
    let p = shaped_types block.parameters block.types h in
    record { domains = p.0; as_many = p.1; types = p.2 }

-- What a fault names is there.
arity_fault_names : (r : ℕ) (domains : List Tree) (index : ℕ) (ts : List TypeDeclaration) (fault : ShapeFault) → arity_fault r domains index ts ≡ Some fault →
    (i : ℕ) × (t : TypeDeclaration) × (element ts i ≡ Some t) × (fault ≡ bad_arity_at (index + i))
arity_fault_names r domains index [] fault h = some_is_not_none h
arity_fault_names r domains index (t ∷ ts) fault h = by_test (is_arity r domains t.arity) h (arity_fault_names r domains (index + 1) ts fault)
  where
    by_test : (test : Bool) → (if test then arity_fault r domains (index + 1) ts else Some (bad_arity_at index)) ≡ Some fault →
        (arity_fault r domains (index + 1) ts ≡ Some fault → (i : ℕ) × (u : TypeDeclaration) × (element ts i ≡ Some u) × (fault ≡ bad_arity_at (index + 1 + i))) →
        (i : ℕ) × (u : TypeDeclaration) × (element (t ∷ ts) i ≡ Some u) × (fault ≡ bad_arity_at (index + i))
    by_test true e later =
        let p = later e in
        let q : index + 1 + p.0 ≡ index + suc p.0 = omega arith in
        (suc p.0, p.1, p.2, p.3 ∙ ap bad_arity_at q)
    by_test false e later = let q : index ≡ index + 0 = omega arith in (0, t, refl, sym (some_inj e) ∙ ap bad_arity_at q)

constructor_fault_names : (r : ℕ) (domains : List Tree) (t : TypeDeclaration) (index place : ℕ) (cs : List ConstructorDeclaration) (fault : ShapeFault) → constructor_fault r domains t index place cs ≡ Some fault →
    (p : ℕ) × (c : ConstructorDeclaration) × (element cs p ≡ Some c) × (fault ≡ bad_constructor_at index (place + p))
constructor_fault_names r domains t index place [] fault h = some_is_not_none h
constructor_fault_names r domains t index place (c ∷ cs) fault h =
    by_test (is_constructor_type r domains t.id (index_count r t) c.type) h (constructor_fault_names r domains t index (place + 1) cs fault)
  where
    by_test : (test : Bool) → (if test then constructor_fault r domains t index (place + 1) cs else Some (bad_constructor_at index place)) ≡ Some fault →
        (constructor_fault r domains t index (place + 1) cs ≡ Some fault → (p : ℕ) × (d : ConstructorDeclaration) × (element cs p ≡ Some d) × (fault ≡ bad_constructor_at index (place + 1 + p))) →
        (p : ℕ) × (d : ConstructorDeclaration) × (element (c ∷ cs) p ≡ Some d) × (fault ≡ bad_constructor_at index (place + p))
    by_test true e later =
        let o = later e in
        let q : place + 1 + o.0 ≡ place + suc o.0 = omega arith in
        (suc o.0, o.1, o.2, o.3 ∙ ap (bad_constructor_at index) q)
    by_test false e later = let q : place ≡ place + 0 = omega arith in (0, c, refl, sym (some_inj e) ∙ ap (bad_constructor_at index) q)

constructors_fault_names : (r : ℕ) (domains : List Tree) (index : ℕ) (ts : List TypeDeclaration) (fault : ShapeFault) → constructors_fault r domains index ts ≡ Some fault →
    (i p : ℕ) × (t : TypeDeclaration) × (c : ConstructorDeclaration) × (element ts i ≡ Some t) × (element t.constructors p ≡ Some c) × (fault ≡ bad_constructor_at (index + i) p)
constructors_fault_names r domains index [] fault h = some_is_not_none h
constructors_fault_names r domains index (t ∷ ts) fault h =
    elim (or_else_cases (constructor_fault r domains t index 0 t.constructors) (constructors_fault r domains (index + 1) ts) fault h) [
      | inl k ↦
          let o = constructor_fault_names r domains t index 0 t.constructors fault k in
          let q : index ≡ index + 0 = omega arith in
          let z : 0 + o.0 ≡ o.0 = omega arith in
          (0, o.0, t, o.1, refl, o.2, o.3 ∙ ap₂ bad_constructor_at q z)
      | inr k ↦
          let o = constructors_fault_names r domains (index + 1) ts fault k in
          let q : index + 1 + o.0 ≡ index + suc o.0 = omega arith in
          (suc o.0, o.1, o.2, o.3, o.4, o.5, o.6 ∙ ap (λ i. bad_constructor_at i o.1) q)
    ]

-- The id of what is there
pub constructor_id_found : (block : Block) (i p : ℕ) (t : TypeDeclaration) (c : ConstructorDeclaration) → element block.types i ≡ Some t → element t.constructors p ≡ Some c →
    constructor_id block i p ≡ Some c.id
constructor_id_found block i p t c e d =
    ap (option_and_then (λ u. option_map (λ k. k.id) (element u.constructors p))) e ∙ ap (option_map (λ k. k.id)) d

cause_found : (block : Block) (fault : ShapeFault) → shape_fault block ≡ Some fault → (cause : Cause) × (shape_cause block fault ≡ Some cause)
cause_found block fault h =
    let domains = parameter_domains block.parameters block.types in
    elim (or_else_cases (arity_fault block.parameters domains 0 block.types) (constructors_fault block.parameters domains 0 block.types) fault h) [
      | inl k ↦
          let o = arity_fault_names block.parameters domains 0 block.types fault k in
          let z : 0 + o.0 ≡ o.0 = omega arith in
          (bad_arity o.1.id, ap (shape_cause block) (o.3 ∙ ap bad_arity_at z) ∙ ap (option_map (λ t. bad_arity t.id)) o.2)
      | inr k ↦
          let o = constructors_fault_names block.parameters domains 0 block.types fault k in
          let z : 0 + o.0 ≡ o.0 = omega arith in
          (bad_constructor o.3.id, ap (shape_cause block) (o.6 ∙ ap (λ i. bad_constructor_at i o.1) z) ∙ ap (option_map bad_constructor) (constructor_id_found block o.0 o.1 o.2 o.3 o.4 o.5))
    ]

pub passes_shape : (block : Block) → option_and_then (shape_cause block) (shape_fault block) ≡ None → ShapedBlock block
passes_shape block h = by_fault (shape_fault block) refl
  where
    by_fault : (o : Option ShapeFault) → shape_fault block ≡ o → ShapedBlock block
    by_fault None q = shaped_block block q
    by_fault (Some fault) q =
        let c = cause_found block fault q in
        some_is_not_none (sym h ∙ ap (option_and_then (shape_cause block)) q ∙ c.1)

-- What is read off the type of a constructor that has the shape, as the check reads it
pub record ConstructorRead (r : ℕ) (domains arguments us : List Tree) (id : GlobalId) (type : Tree) : Type 0 where
  pub is_type : type ≡ products domains (products arguments (apply (ind id) us))
  pub taken : take r (domains_of type) ≡ domains
  pub dropped : drop r (domains_of type) ≡ arguments
  pub concluded : conclusion_of type ≡ apply (ind id) us

pub constructor_read : (r : ℕ) (domains arguments us : List Tree) (id : GlobalId) (type : Tree) → length domains ≡ r → type ≡ products domains (products arguments (apply (ind id) us)) → ConstructorRead r domains arguments us id type
constructor_read r domains arguments us id type l e =
    let all : domains_of type ≡ domains ++ arguments =
    ap domains_of e ∙ domains_of_products domains (products arguments (apply (ind id) us))
    ∙ ap (λ z. domains ++ z) (domains_of_products arguments (apply (ind id) us) ∙ ap (λ z. arguments ++ z) (no_domains_of_apply us (ind id) refl) ∙ append-nil arguments) in
    record {
      is_type = e;
      taken = ap₂ take (sym l) all ∙ take-append_seam domains arguments;
      dropped = ap₂ drop (sym l) all ∙ drop-append_seam domains arguments;
      concluded =
          ap conclusion_of e ∙ conclusion_of_products domains (products arguments (apply (ind id) us))
          ∙ conclusion_of_products arguments (apply (ind id) us) ∙ conclusion_of_apply us (ind id) refl;
    }

length_variables : (n : ℕ) → length (variables n) ≡ n
length_variables zero = refl
length_variables (suc n) = ap suc (length_variables n)

-- The terms that the conclusion of such a type is applied to: the parameters, then the indices
abbrev pub applied_to : (domains arguments : List Tree) → List Tree
applied_to domains arguments = lift_all (length arguments) (variables (length domains))

pub length_applied_to : (domains arguments : List Tree) → length (applied_to domains arguments) ≡ length domains
length_applied_to domains arguments = length-map (variables (length domains)) (lift_tree 0 (length arguments)) ∙ length_variables (length domains)

pub indices_read : (r : ℕ) (domains arguments indices : List Tree) (id : GlobalId) (type : Tree) → length domains ≡ r → ConstructorRead r domains arguments (applied_to domains arguments ++ indices) id type →
    drop r (arguments_of (conclusion_of type)) ≡ indices
indices_read r domains arguments indices id type l k =
    ap₂ drop (sym l ∙ sym (length_applied_to domains arguments)) (ap arguments_of k.concluded ∙ arguments_of_apply (applied_to domains arguments ++ indices) (ind id))
    ∙ drop-append_seam (applied_to domains arguments) indices
