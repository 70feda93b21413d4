-- What the test of elimination reads off a type of a block: the sort that the arity ends in, and the parameters
-- and arguments of a constructor. In these words the rule of elimination is said, and the context that it looks
-- at, of the parameters alone, is well formed.
use Rattle.std.proofs.Common.{◌≡◌, ℕ, true, not, ◌||◌, List, [], ◌∷◌, ◌++◌, length, take, drop, refl, sym, ap, ap₂, ◌∙◌, arith, append-nil, subst}
use Rattle.std.proofs.Math.Seq.{take-append_seam, drop-append_seam}
use Rattle.cic_terms.specs.Tree.{TreeSort, prop, set, typ, own, Tree, sort, ind}
use Rattle.cic_names.specs.declared.name.GlobalId.{GlobalId}
use Rattle.cic_rules.specs.Numbering.{Numbering}
use Rattle.cic_rules.specs.Environment.{Environment, TypeDeclaration, ConstructorDeclaration}
use Rattle.cic_rules.specs.Telescopes.{apply, products, domains_of, conclusion_of, extend}
use Rattle.cic_rules.specs.Inductive.{ArityShape, ConstructorParts, ConstructorShape}
use Rattle.cic_rules.specs.Typing.{Eliminated, into_prop, of_no_proposition, HasSort, WellFormedContext}
use Rattle.cic_counted.specs.Inference.{is_prop, ends_in_prop}
use Rattle.cic_metatheory.proofs.basics.ConstructorTypes.{with_parameters}
use Rattle.cic_metatheory.proofs.typings.Instances.{sort_at, opened_well_formed}
use Rattle.cic_metatheory.proofs.basics.Products.{domains_of_products, conclusion_of_products, no_domains_of_apply}

pub sort_is_prop : (s : TreeSort) → is_prop s ≡ true → s ≡ prop
sort_is_prop prop q = refl
sort_is_prop set q = absurd (grind arith)
sort_is_prop (typ e) q = absurd (grind arith)
sort_is_prop (own i) q = absurd (grind arith)

products_in_two : (as_ bs : List Tree) (t : Tree) → products as_ (products bs t) ≡ products (as_ ++ bs) t
products_in_two [] bs t = refl
products_in_two (a ∷ as_) bs t = ap (λ z. products (a ∷ []) z) (products_in_two as_ bs t)

into_sort : (E : Environment) (N : Numbering) (r : ℕ) (t : TypeDeclaration) (s s' : TreeSort) (ds : List Tree) → t.arity ≡ products ds (sort s') → (not (is_prop s') || is_prop s) ≡ true → Eliminated E N r t s
into_sort E N r t s prop ds e q = subst (Eliminated E N r t) (sym (sort_is_prop s q)) into_prop
into_sort E N r t s set ds e q = of_no_proposition ds set e (λ f. grind arith)
into_sort E N r t s (typ l) ds e q = of_no_proposition ds (typ l) e (λ f. grind arith)
into_sort E N r t s (own i) ds e q = of_no_proposition ds (own i) e (λ f. grind arith)

-- A type that is no proposition, or the sort Prop
pub eliminated_freely : (E : Environment) (N : Numbering) (r : ℕ) (t : TypeDeclaration) (s : TreeSort) (ds : List Tree) → ArityShape ds t.arity →
    (not (ends_in_prop (conclusion_of t.arity)) || is_prop s) ≡ true → Eliminated E N r t s
eliminated_freely E N r t s ds h q =
    let e : conclusion_of t.arity ≡ sort h.sort_of =
    ap conclusion_of h.is_arity ∙ conclusion_of_products ds (products h.indices (sort h.sort_of)) ∙ conclusion_of_products h.indices (sort h.sort_of) in
    into_sort E N r t s h.sort_of (ds ++ h.indices) (h.is_arity ∙ products_in_two ds h.indices (sort h.sort_of))
    (subst (λ z. (not (ends_in_prop z) || is_prop s) ≡ true) e q)

-- The parameters and the arguments of a constructor, as inference takes them off its type
pub record OpenedConstructor (E : Environment) (N : Numbering) (r : ℕ) (id : GlobalId) (c : ConstructorDeclaration) : Type 0 where
  pub parts : ConstructorParts r id c.type
  pub parameters : take r (domains_of c.type) ≡ parts.parameters
  pub arguments : drop r (domains_of c.type) ≡ parts.arguments
  pub well_formed : WellFormedContext E N (extend [] parts.parameters)

pub opened_constructor : (E : Environment) (N : Numbering) (r n : ℕ) (id : GlobalId) (c : ConstructorDeclaration) (ds : List Tree) → ConstructorShape ds id n c.type → length ds ≡ r → HasSort E N [] c.type →
    OpenedConstructor E N r id c
opened_constructor E N r n id c ds h l k =
    let p : ConstructorParts r id c.type = with_parameters h.parts l in
    let conclusion : Tree = apply (ind id) p.applied_to in
    let all : domains_of c.type ≡ p.parameters ++ p.arguments =
    ap domains_of p.is_type ∙ domains_of_products p.parameters (products p.arguments conclusion)
    ∙ ap (λ z. p.parameters ++ z) (domains_of_products p.arguments conclusion ∙ ap (λ z. p.arguments ++ z) (no_domains_of_apply p.applied_to (ind id) refl) ∙ append-nil p.arguments) in
    record {
      parts = p;
      parameters = ap₂ take (sym p.as_many) all ∙ take-append_seam p.parameters p.arguments;
      arguments = ap₂ drop (sym p.as_many) all ∙ drop-append_seam p.parameters p.arguments;
      well_formed = opened_well_formed E N [] p.parameters (products p.arguments conclusion) (sort_at E N [] _ _ p.is_type k) tt;
    }
