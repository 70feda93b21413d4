-- The arity of a type of a block, and the type of each of its constructors, with parameters put in: products
-- that end in a sort, and products that end in the type at the same parameters. Inference reads the contexts and
-- goals of a match off these two, and the rule of a match names them; so both speak of the same terms.
use Rattle.std.proofs.Common.{◌≡◌, ℕ, ◌+◌, ◌-◌, List, [], ◌∷◌, ◌++◌, length, map, drop, refl, sym, ap, ap₂, ◌∙◌, arith, append-nil, length-append}
use Rattle.std.proofs.lemmas.List.{length-map}
use Rattle.std.proofs.Math.Seq.{drop-append_seam}
use Rattle.cic_terms.specs.Tree.{TreeSort, Tree, sort, ind, ctor}
use Rattle.cic_terms.specs.Lift.{lift_tree}
use Rattle.cic_names.specs.declared.name.GlobalId.{GlobalId}
use Rattle.cic_rules.specs.Environment.{TypeDeclaration, ConstructorDeclaration}
use Rattle.cic_rules.specs.Telescopes.{apply, products, domains_of, conclusion_of, substitute_all, variables, lift_all, Instantiated}
use Rattle.cic_rules.specs.Inductive.{ArityShape, ConstructorShape}
use Rattle.cic_counted.specs.Readings.{arguments_of, instantiate}
use Rattle.cic_counted.specs.BlockTests.{index_count}
use Rattle.cic_counted.specs.Inference.{branch_goal}
use Rattle.cic_counted.proofs.Functions.{arguments_of_apply}
use Rattle.cic_metatheory.specs.Substitution.{substitution_under, substitute, substitute_domains}
use Rattle.cic_metatheory.proofs.basics.ConstructorTypes.{shape_is_type}
use Rattle.cic_metatheory.proofs.substitutions.Telescopes.{length_substitute_domains}
use Rattle.cic_metatheory.proofs.typings.Typing.{substitute_products, inductive_in_two, lift_all_under}
use Rattle.cic_metatheory.proofs.typings.InstancesTogether.{for_several, put_in_together, several_for_variables, products_instantiated}
use Rattle.cic_soundness.proofs.matches.Instantiate.{instantiate_gives}
use Rattle.cic_metatheory.proofs.basics.Products.{instantiated_between, domains_of_products, conclusion_of_products, no_domains_of_apply, conclusion_of_apply}

-- The arity
pub record ArityForm (parameters : List Tree) (n : ℕ) (arity : Tree) : Type 0 where
  pub domains : List Tree
  pub ends_in : TreeSort
  pub instantiated : Instantiated arity parameters (products domains (sort ends_in))
  pub as_many : length domains ≡ n

pub arity_form : (ps qs : List Tree) (n : ℕ) (arity : Tree) (h : ArityShape ps arity) → length qs ≡ length ps → n ≡ length h.indices → ArityForm qs n arity
unfolding substitute
arity_form ps qs n arity h l e =
    let s : ℕ → Tree = for_several qs in
    let z : substitute_all qs (products h.indices (sort h.sort_of)) ≡ products (substitute_domains s h.indices) (sort h.sort_of) =
    put_in_together qs (products h.indices (sort h.sort_of)) ∙ substitute_products h.indices (sort h.sort_of) s in
    record {
      domains = substitute_domains s h.indices;
      ends_in = h.sort_of;
      instantiated = instantiated_between _ _ _ _ (sym h.is_arity) z (products_instantiated ps qs (products h.indices (sort h.sort_of)) l);
      as_many = length_substitute_domains h.indices s ∙ sym e;
    }

pub index_count_of_arity : (ps : List Tree) (r : ℕ) (T : TypeDeclaration) (h : ArityShape ps T.arity) → length ps ≡ r → index_count r T ≡ length h.indices
index_count_of_arity ps r T h l =
    let e : domains_of T.arity ≡ ps ++ (h.indices ++ []) =
    ap domains_of h.is_arity ∙ domains_of_products ps (products h.indices (sort h.sort_of)) ∙ ap (λ z. ps ++ z) (domains_of_products h.indices (sort h.sort_of)) in
    let f : length (domains_of T.arity) ≡ length ps + length h.indices =
    ap length e ∙ length-append ps (h.indices ++ []) ∙ ap (λ z. length ps + length z) (append-nil h.indices) in
    omega (arith, f, l)

pub arity_domains_read : {parameters : List Tree} {n : ℕ} {arity : Tree} (f : ArityForm parameters n arity) → domains_of (instantiate parameters arity) ≡ f.domains
arity_domains_read f =
    ap domains_of (instantiate_gives f.instantiated) ∙ domains_of_products f.domains (sort f.ends_in) ∙ append-nil f.domains

-- The type of a constructor
pub record BranchForm (id : GlobalId) (parameters : List Tree) (n : ℕ) (type : Tree) : Type 0 where
  pub domains : List Tree
  pub indices : List Tree
  pub instantiated : Instantiated type parameters (products domains (apply (ind id) (lift_all (length domains) parameters ++ indices)))
  pub as_many : length indices ≡ n
  pub count : length domains ≡ length (domains_of type) - length parameters

parameters_in_conclusion : (id : GlobalId) (ps qs is as_ : List Tree) → length qs ≡ length ps →
    substitute (for_several qs) (products as_ (apply (ind id) (lift_all (length as_) (variables (length ps)) ++ is)))
    ≡ products (substitute_domains (for_several qs) as_) (apply (ind id) (lift_all (length (substitute_domains (for_several qs) as_)) qs ++ map (substitute (substitution_under (length as_) (for_several qs))) is))
parameters_in_conclusion id ps qs is as_ l =
    let s : ℕ → Tree = for_several qs in
    let m : ℕ = length as_ in
    substitute_products as_ (apply (ind id) (lift_all m (variables (length ps)) ++ is)) s
    ∙ ap (products (substitute_domains s as_))
    (inductive_in_two id (lift_all m (variables (length ps))) is (substitution_under m s) _ refl
    ∙ ap (λ z. apply (ind id) (z ++ map (substitute (substitution_under m s)) is))
    (lift_all_under m (variables (length ps)) s
    ∙ ap₂ (λ k i. lift_all k (map (substitute s) (variables i))) (sym (length_substitute_domains as_ s)) (sym l)
    ∙ ap (lift_all (length (substitute_domains s as_))) (several_for_variables qs)))

pub branch_form : (ps qs : List Tree) (id : GlobalId) (n : ℕ) (type : Tree) → ConstructorShape ps id n type → length qs ≡ length ps → BranchForm id qs n type
branch_form ps qs id n type h l =
    let s : ℕ → Tree = for_several qs in
    let m : ℕ = length h.parts.arguments in
    let w : Tree = products h.parts.arguments (apply (ind id) (lift_all m (variables (length ps)) ++ h.indices)) in
    let d : domains_of type ≡ ps ++ (h.parts.arguments ++ []) =
    ap domains_of (shape_is_type h) ∙ domains_of_products ps w ∙ ap (λ z. ps ++ z) (domains_of_products h.parts.arguments _ ∙ ap (λ z. h.parts.arguments ++ z) (no_domains_of_apply (lift_all m (variables (length ps)) ++ h.indices) (ind id) refl)) in
    let c : length (domains_of type) ≡ length ps + m =
    ap length d ∙ length-append ps (h.parts.arguments ++ []) ∙ ap (λ z. length ps + length z) (append-nil h.parts.arguments) in
    record {
      domains = substitute_domains s h.parts.arguments;
      indices = map (substitute (substitution_under m s)) h.indices;
      instantiated = instantiated_between _ _ _ _ (sym (shape_is_type h)) (put_in_together qs w ∙ parameters_in_conclusion id ps qs h.indices h.parts.arguments l) (products_instantiated ps qs w l);
      as_many = length-map h.indices (substitute (substitution_under m s)) ∙ h.as_many;
      count = length_substitute_domains h.parts.arguments s ∙ omega (arith, c, l);
    }

pub branch_domains_read : {id : GlobalId} {parameters : List Tree} {n : ℕ} {type : Tree} (f : BranchForm id parameters n type) → domains_of (instantiate parameters type) ≡ f.domains
branch_domains_read {id} {parameters} f =
    ap domains_of (instantiate_gives f.instantiated) ∙ domains_of_products f.domains _ ∙ ap (λ z. f.domains ++ z) (no_domains_of_apply (lift_all (length f.domains) parameters ++ f.indices) (ind id) refl) ∙ append-nil f.domains

abbrev goal_from : (a : ℕ) → (parameters : List Tree) → (motive : Tree) → GlobalId → List Tree → List Tree → Tree
goal_from a parameters p c domains arguments =
    substitute_all (drop (length parameters) arguments ++ apply (ctor c) (lift_all (length domains) parameters ++ variables (length domains)) ∷ []) (lift_tree (a + 1) (length domains) p)

pub branch_goal_read : {id : GlobalId} {parameters : List Tree} {n : ℕ} (c : ConstructorDeclaration) (f : BranchForm id parameters n c.type) (p : Tree) →
    branch_goal n parameters p c
    ≡ substitute_all (f.indices ++ apply (ctor c.id) (lift_all (length f.domains) parameters ++ variables (length f.domains)) ∷ []) (lift_tree (n + 1) (length f.domains) p)
branch_goal_read {id} {parameters} {n} c f p =
    let us : List Tree = lift_all (length f.domains) parameters in
    let e : conclusion_of (instantiate parameters c.type) ≡ apply (ind id) (us ++ f.indices) =
    ap conclusion_of (instantiate_gives f.instantiated) ∙ conclusion_of_products f.domains _ ∙ conclusion_of_apply (us ++ f.indices) (ind id) refl in
    let g : arguments_of (conclusion_of (instantiate parameters c.type)) ≡ us ++ f.indices = ap arguments_of e ∙ arguments_of_apply (us ++ f.indices) (ind id) in
    let i : drop (length parameters) (us ++ f.indices) ≡ f.indices =
    ap (λ k. drop k (us ++ f.indices)) (sym (length-map parameters (lift_tree 0 (length f.domains)))) ∙ drop-append_seam us f.indices in
    ap₂ (goal_from n parameters p c.id) (branch_domains_read f) g
    ∙ ap (λ z. substitute_all (z ++ apply (ctor c.id) (us ++ variables (length f.domains)) ∷ []) (lift_tree (n + 1) (length f.domains) p)) i
