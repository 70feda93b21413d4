-- The test of shape is exact: a block that has the shape of the rules passes it. The tests of positivity and of
-- inference look at the blocks of others by this test, and the rules by the shape.
use Rattle.std.specs.Cmp.Lexicographic.{pointwise_decides}
use Rattle.std.proofs.Common.{◌≡◌, ℕ, ◌+◌, ◌-◌, Bool, true, false, if◌then◌else◌, Option, Some, None, List, [], ◌∷◌, ◌++◌, length, take, refl, sym, ap, ap₂, ◌∙◌, arith, eq-eqb}
use Rattle.std.specs.Prelude.{is_none, not}
use Rattle.std.proofs.lemmas.Bool.{le-leb, and_from}
use Rattle.std.proofs.lemmas.List.{append-nil, length-append}
use Rattle.std.proofs.Math.Seq.{take-append_seam}
use Rattle.cic_terms.specs.Tree.{TreeSort, Tree, sort, ind}
use Rattle.cic_names.specs.declared.name.GlobalId.{GlobalId}
use Rattle.cic_rules.specs.Environment.{Block, TypeDeclaration, ConstructorDeclaration, or_else}
use Rattle.cic_rules.specs.Telescopes.{apply, head_of, domains_of, conclusion_of, products, variables, lift_all}
use Rattle.cic_rules.specs.Inductive.{Each, PlainSort, plain_prop, plain_set, plain_universe, ArityShape, ConstructorShape, TypeShape, ShapedBlock}
use Rattle.cic_counted.specs.Readings.{arguments_of}
use Rattle.cic_counted.specs.BlockTests.{is_plain_sort, is_plain_sort_term, same_trees, parameter_domains, index_count, is_arity, is_constructor_type, bad_arity_at, bad_constructor_at, arity_fault, constructor_fault, constructors_fault, shape_fault, is_shaped}
use Rattle.cic_counted.proofs.Decided.{same_tree_decides}
use Rattle.cic_counted.proofs.Functions.{arguments_of_apply}
use Rattle.cic_soundness.proofs.blocks.Shapes.{constructor_read, applied_to, length_applied_to}
use Rattle.cic_metatheory.proofs.basics.ConstructorTypes.{shape_is_type}
use Rattle.cic_metatheory.proofs.basics.Products.{domains_of_products, conclusion_of_products, no_domains_of_apply}
use Rattle.cic_metatheory.proofs.basics.Applications.{head_of_apply}

-- Tests that pass
pub goes_on : {F : Type 0} (test : Bool) (rest : Option F) (fault : F) → test ≡ true → (if test then rest else Some fault) ≡ rest
goes_on true rest fault e = refl
goes_on false rest fault e = absurd (grind arith)

pub same_trees_of : (xs ys : List Tree) → xs ≡ ys → same_trees xs ys ≡ true
same_trees_of xs ys = (pointwise_decides same_tree_decides xs ys).1

-- Arities
plain_passes : {s : TreeSort} → PlainSort s → is_plain_sort s ≡ true
plain_passes plain_prop = refl
plain_passes plain_set = refl
plain_passes (plain_universe q) = ap (λ o. not (is_none o)) q

domains_of_arity : (domains : List Tree) (arity : Tree) (h : ArityShape domains arity) → domains_of arity ≡ domains ++ h.indices
domains_of_arity domains arity h =
    ap domains_of h.is_arity ∙ domains_of_products domains (products h.indices (sort h.sort_of))
    ∙ ap (λ z. domains ++ z) (domains_of_products h.indices (sort h.sort_of) ∙ append-nil h.indices)

pub taken_domains : (r : ℕ) (domains : List Tree) (arity : Tree) → length domains ≡ r → ArityShape domains arity → take r (domains_of arity) ≡ domains
taken_domains r domains arity l h = ap₂ take (sym l) (domains_of_arity domains arity h) ∙ take-append_seam domains h.indices

pub index_count_is : (r : ℕ) (domains : List Tree) (t : TypeDeclaration) → length domains ≡ r → (h : ArityShape domains t.arity) → index_count r t ≡ length h.indices
index_count_is r domains t l h =
    let p = ap length (domains_of_arity domains t.arity h) ∙ length-append domains h.indices in
    omega (arith, p, l)

pub arity_passes : (r : ℕ) (domains : List Tree) (arity : Tree) → length domains ≡ r → ArityShape domains arity → is_arity r domains arity ≡ true
arity_passes r domains arity l h =
    let p = ap length (domains_of_arity domains arity h) ∙ length-append domains h.indices in
    let ends : conclusion_of arity ≡ sort h.sort_of =
    ap conclusion_of h.is_arity ∙ conclusion_of_products domains (products h.indices (sort h.sort_of)) ∙ conclusion_of_products h.indices (sort h.sort_of) in
    and_from _ _
    (and_from _ _ (le-leb r (length (domains_of arity)) (omega (arith, p, l))) (same_trees_of (take r (domains_of arity)) domains (taken_domains r domains arity l h)))
    (ap is_plain_sort_term ends ∙ plain_passes h.is_plain)

-- Types of constructors
pub constructor_passes : (r : ℕ) (domains : List Tree) (id : GlobalId) (n : ℕ) (type : Tree) → length domains ≡ r → ConstructorShape domains id n type → is_constructor_type r domains id n type ≡ true
constructor_passes r domains id n type l h =
    let us = applied_to domains h.parts.arguments ++ h.indices in
    let k = constructor_read r domains h.parts.arguments us id type l (shape_is_type h) in
    let all : domains_of type ≡ domains ++ h.parts.arguments =
    ap domains_of (shape_is_type h) ∙ domains_of_products domains (products h.parts.arguments (apply (ind id) us))
    ∙ ap (λ z. domains ++ z) (domains_of_products h.parts.arguments (apply (ind id) us) ∙ ap (λ z. h.parts.arguments ++ z) (no_domains_of_apply us (ind id) refl) ∙ append-nil h.parts.arguments) in
    let p = ap length all ∙ length-append domains h.parts.arguments in
    let applied : arguments_of (conclusion_of type) ≡ us = ap arguments_of k.concluded ∙ arguments_of_apply us (ind id) in
    let m = length-append (applied_to domains h.parts.arguments) h.indices in
    let o = length_applied_to domains h.parts.arguments in
    let i = h.as_many in
    let c = ap length applied in
    let counted : length (arguments_of (conclusion_of type)) ≡ r + n = omega (arith, c, m, o, i, l) in
    let past : length (domains_of type) - r ≡ length h.parts.arguments = omega (arith, p, l) in
    let first : take r (arguments_of (conclusion_of type)) ≡ lift_all (length (domains_of type) - r) (variables r) =
    ap₂ take (sym l ∙ sym o) applied ∙ take-append_seam (applied_to domains h.parts.arguments) h.indices ∙ ap₂ (λ x y. lift_all x (variables y)) (sym past) l in
    and_from _ _
    (and_from _ _
    (and_from _ _
    (and_from _ _ (le-leb r (length (domains_of type)) (omega (arith, p, l))) (same_trees_of (take r (domains_of type)) domains k.taken))
    ((same_tree_decides (head_of (conclusion_of type)) (ind id)).1 (ap head_of k.concluded ∙ head_of_apply us (ind id))))
    (eq-eqb (length (arguments_of (conclusion_of type))) (r + n) counted))
    (same_trees_of (take r (arguments_of (conclusion_of type))) (lift_all (length (domains_of type) - r) (variables r)) first)

-- Blocks
arities_of : (domains : List Tree) (ts : List TypeDeclaration) → Each (TypeShape domains) ts → Each (λ t. ArityShape domains t.arity) ts
arities_of domains [] h = tt
arities_of domains (t ∷ ts) h = (h.0.arity, arities_of domains ts h.1)

pub arities_pass : (r : ℕ) (domains : List Tree) (index : ℕ) (ts : List TypeDeclaration) → length domains ≡ r → Each (λ t. ArityShape domains t.arity) ts → arity_fault r domains index ts ≡ None
arities_pass r domains index [] l h = refl
arities_pass r domains index (t ∷ ts) l h =
    goes_on (is_arity r domains t.arity) (arity_fault r domains (index + 1) ts) (bad_arity_at index) (arity_passes r domains t.arity l h.0)
    ∙ arities_pass r domains (index + 1) ts l h.1

pub constructors_pass : (r : ℕ) (domains : List Tree) (t : TypeDeclaration) (index place n : ℕ) (cs : List ConstructorDeclaration) → length domains ≡ r → index_count r t ≡ n → Each (λ c. ConstructorShape domains t.id n c.type) cs →
    constructor_fault r domains t index place cs ≡ None
constructors_pass r domains t index place n [] l e h = refl
constructors_pass r domains t index place n (c ∷ cs) l e h =
    goes_on (is_constructor_type r domains t.id (index_count r t) c.type) (constructor_fault r domains t index (place + 1) cs) (bad_constructor_at index place)
    (ap (λ k. is_constructor_type r domains t.id k c.type) e ∙ constructor_passes r domains t.id n c.type l h.0)
    ∙ constructors_pass r domains t index (place + 1) n cs l e h.1

types_pass : (r : ℕ) (domains : List Tree) (index : ℕ) (ts : List TypeDeclaration) → length domains ≡ r → Each (TypeShape domains) ts → constructors_fault r domains index ts ≡ None
types_pass r domains index [] l h = refl
types_pass r domains index (t ∷ ts) l h =
    ap (λ o. or_else o (constructors_fault r domains (index + 1) ts))
    (constructors_pass r domains t index 0 (length h.0.arity.indices) t.constructors l (index_count_is r domains t l h.0.arity) h.0.constructors)
    ∙ types_pass r domains (index + 1) ts l h.1

shape_passes : (r : ℕ) (domains : List Tree) (ts : List TypeDeclaration) → length domains ≡ r → Each (TypeShape domains) ts →
    or_else (arity_fault r (parameter_domains r ts) 0 ts) (constructors_fault r (parameter_domains r ts) 0 ts) ≡ None
shape_passes r domains [] l h = refl
shape_passes r domains (t ∷ ts) l h =
    ap (λ z. or_else (arity_fault r z 0 (t ∷ ts)) (constructors_fault r z 0 (t ∷ ts))) (taken_domains r domains t.arity l h.0.arity)
    ∙ ap₂ or_else (arities_pass r domains 0 (t ∷ ts) l (arities_of domains (t ∷ ts) h)) (types_pass r domains 0 (t ∷ ts) l h)

pub shaped_passes : (block : Block) → ShapedBlock block → shape_fault block ≡ None
shaped_passes block h = shape_passes block.parameters h.domains block.types h.as_many h.types

pub is_shaped_passes : (block : Block) → ShapedBlock block → is_shaped block ≡ true
is_shaped_passes block h = ap is_none (shaped_passes block h)
