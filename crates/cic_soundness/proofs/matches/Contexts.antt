-- The contexts of a match are well formed: that of the motive, under the indices and a value, and that of each
-- branch, under the constructor's arguments. The type of the value has a sort, so its parameters are typed
-- arguments of the arity, and of each constructor, whose first domains are the same; inference needs no more.
use Rattle.std.proofs.Common.{◌≡◌, ℕ, Some, List, [], ◌∷◌, ◌++◌, length, refl, sym, ap, ◌∙◌, arith, subst}
use Rattle.cic_terms.specs.Tree.{Tree, sort, ind}
use Rattle.cic_terms.specs.Lift.{lift_tree, subst_tree}
use Rattle.cic_names.specs.declared.name.GlobalId.{GlobalId}
use Rattle.cic_rules.specs.Numbering.{Numbering}
use Rattle.cic_rules.specs.Environment.{Environment, Context, TypeInBlock, Block, TypeDeclaration, ConstructorDeclaration, Constructor, whole_block, constructor_of, element, assumed}
use Rattle.cic_rules.specs.Telescopes.{apply, products, domains_of, extend, substitute_all, variables, lift_all, Instantiated}
use Rattle.cic_rules.specs.Inductive.{Each, ConstructorShape}
use Rattle.cic_rules.specs.Typing.{HasSort, WellFormedContext}
use Rattle.cic_counted.specs.Readings.{instantiate}
use Rattle.cic_counted.specs.BlockTests.{index_count}
use Rattle.cic_metatheory.specs.Substitution.{substitute_domains, for_innermost}
use Rattle.cic_metatheory.specs.WellTypedLookups.{WellTypedLookups, TypeShown, ConstructorShown}
use Rattle.cic_metatheory.proofs.basics.ConstructorTypes.{shape_is_type}
use Rattle.cic_metatheory.proofs.substitutions.LiftAndSubst.{subst_innermost, subst_under_binders}
use Rattle.cic_metatheory.proofs.substitutions.Telescopes.{length_substitute_domains}
use Rattle.cic_metatheory.proofs.typings.Typing.{substitute_products}
use Rattle.cic_metatheory.proofs.typings.Scopes.{closed_lifts}
use Rattle.cic_metatheory.proofs.typings.Instances.{TypedArguments, no_more, one_more, arguments_at, arguments_instantiate, inductive_arguments, instantiated_has_sort, assumed_well_formed, opened_well_formed, inductive_under_domains}
use Rattle.cic_metatheory.proofs.typings.InstancesTogether.{products_instantiated, sort_with_several}
use Rattle.cic_metatheory.proofs.typings.Validity.{closed_has_sort, whole_block_has_arity}
use Rattle.cic_soundness.proofs.matches.Instantiate.{instantiate_gives}
use Rattle.cic_soundness.proofs.matches.Forms.{ArityForm, BranchForm, arity_form, branch_form, index_count_of_arity, arity_domains_read, branch_domains_read}
use Rattle.cic_metatheory.proofs.basics.Products.{instantiated_between}

-- The type of the value of a match: a type of a whole block, with n indices, under as many parameters and
-- indices as it has; and it has a sort.
pub record MatchedType (E : Environment) (N : Numbering) (G : Context) (id : GlobalId) (place : TypeInBlock) (T : TypeDeclaration) (n : ℕ) (parameters indices : List Tree) : Type 0 where
  pub shown : whole_block E id ≡ Some place
  pub in_block : element place.block.types place.index ≡ Some T
  pub counts : n ≡ index_count place.block.parameters T
  pub all_parameters : length parameters ≡ place.block.parameters
  pub all_indices : length indices ≡ n
  pub sorted : HasSort E N G (apply (ind id) (parameters ++ indices))

-- The parameters are typed arguments of the arity.
pub record MatchedArity (E : Environment) (N : Numbering) (G : Context) (n : ℕ) (parameters : List Tree) (arity : Tree) : Type 0 where
  pub form : ArityForm parameters n arity
  pub typed : TypedArguments E N G (lift_tree 0 (length G) arity) parameters (products form.domains (sort form.ends_in))

pub closed_type : (E : Environment) (N : Numbering) (t : Tree) (n : ℕ) → HasSort E N [] t → lift_tree 0 n t ≡ t
closed_type E N t n h = closed_lifts E N t (sort h.its_sort) 0 n h.typed

pub matched_arity : (E : Environment) (N : Numbering) → WellTypedLookups E N → {G : Context} {id : GlobalId} {place : TypeInBlock} {T : TypeDeclaration} {n : ℕ} {parameters indices : List Tree} →
    MatchedType E N G id place T n parameters indices → MatchedArity E N G n parameters T.arity
matched_arity E N k {G = G} {id = id} {place = place} {T = T} {n = n} {parameters = qs} {indices = is} m =
    let h : TypeShown E N id place.block T = k.types id place T m.shown m.in_block in
    let f : ArityForm qs n T.arity =
    arity_form h.domains qs n T.arity h.arity (m.all_parameters ∙ sym h.as_many) (m.counts ∙ index_count_of_arity h.domains place.block.parameters T h.arity h.as_many) in
    let left : Instantiated (products f.domains (sort f.ends_in)) is (sort f.ends_in) =
    instantiated_between _ _ _ _ refl (sort_with_several is f.ends_in) (products_instantiated f.domains is (sort f.ends_in) (m.all_indices ∙ sym f.as_many)) in
    record {
      form = f;
      typed =
          (inductive_arguments E N G id _ m.sorted.its_sort (apply (ind id) (qs ++ is)) (products f.domains (sort f.ends_in)) (sort f.ends_in) qs is
          (whole_block_has_arity E id place T m.shown m.in_block) m.sorted.typed refl
          (instantiated_between _ _ _ _ (sym (closed_type E N T.arity (length G) h.sorted)) refl f.instantiated) left).0;
    }

-- The context of the motive, and that of the indices in it
pub index_context_well_formed : (E : Environment) (N : Numbering) → WellTypedLookups E N → {G : Context} {id : GlobalId} {place : TypeInBlock} {T : TypeDeclaration} {n : ℕ} {parameters indices : List Tree} →
    MatchedType E N G id place T n parameters indices → WellFormedContext E N G → WellFormedContext E N (extend G (domains_of (instantiate parameters T.arity)))
index_context_well_formed E N k {G = G} {id = id} {place = place} {T = T} m w =
    let a = matched_arity E N k m in
    let h = instantiated_has_sort E N G a.typed (closed_has_sort E N G T.arity (k.types id place T m.shown m.in_block).sorted) in
    subst (λ z. WellFormedContext E N (extend G z)) (sym (arity_domains_read a.form)) (opened_well_formed E N G a.form.domains (sort a.form.ends_in) h w)

pub value_type_has_sort : (E : Environment) (N : Numbering) → WellTypedLookups E N → {G : Context} {id : GlobalId} {place : TypeInBlock} {T : TypeDeclaration} {n : ℕ} {parameters indices : List Tree} →
    MatchedType E N G id place T n parameters indices → HasSort E N (extend G (domains_of (instantiate parameters T.arity))) (apply (ind id) (lift_all n parameters ++ variables n))
value_type_has_sort E N k {G = G} {id = id} {place = place} {T = T} {n = n} {parameters = qs} m =
    let a = matched_arity E N k m in
    let h : HasSort E N (extend G a.form.domains) (apply (ind id) (lift_all (length a.form.domains) qs ++ variables (length a.form.domains))) = record {
      its_sort = a.form.ends_in;
      typed = inductive_under_domains E N G a.form.domains (sort a.form.ends_in) qs id _ (whole_block_has_arity E id place T m.shown m.in_block) a.typed;
    } in
    subst (λ z. HasSort E N (extend G z) (apply (ind id) (lift_all n qs ++ variables n))) (sym (arity_domains_read a.form))
    (subst (λ i. HasSort E N (extend G a.form.domains) (apply (ind id) (lift_all i qs ++ variables i))) a.form.as_many h)

pub motive_context_well_formed : (E : Environment) (N : Numbering) → WellTypedLookups E N → {G : Context} {id : GlobalId} {place : TypeInBlock} {T : TypeDeclaration} {n : ℕ} {parameters indices : List Tree} →
    MatchedType E N G id place T n parameters indices → WellFormedContext E N G →
    WellFormedContext E N (assumed (apply (ind id) (lift_all n parameters ++ variables n)) ∷ extend G (domains_of (instantiate parameters T.arity)))
motive_context_well_formed E N k m w = assumed_well_formed E N _ _ (value_type_has_sort E N k m) (index_context_well_formed E N k m w)

-- A constructor at the parameters of the type of the value: they are typed arguments of its type, and what
-- they leave of it has a sort.
pub record MatchedConstructor (E : Environment) (N : Numbering) (G : Context) (id : GlobalId) (n : ℕ) (parameters : List Tree) (c : ConstructorDeclaration) : Type 0 where
  pub form : BranchForm id parameters n c.type
  pub shown : Constructor
  pub stands : constructor_of E c.id ≡ Some shown
  pub is_type : shown.type ≡ c.type
  pub typed : TypedArguments E N G (lift_tree 0 (length G) c.type) parameters (products form.domains (apply (ind id) (lift_all (length form.domains) parameters ++ form.indices)))
  pub sorted : HasSort E N G (products form.domains (apply (ind id) (lift_all (length form.domains) parameters ++ form.indices)))

-- Arguments of products are arguments of all products over the same domains.
arguments_of_domains : (E : Environment) (N : Numbering) (G : Context) (ps us : List Tree) (x y z : Tree) → length us ≡ length ps → TypedArguments E N G (products ps y) us z →
    TypedArguments E N G (products ps x) us (substitute_all us x)
arguments_of_domains E N G [] [] x y z l h = no_more
arguments_of_domains E N G [] (u ∷ us) x y z l h = absurd (omega arith)
arguments_of_domains E N G (p ∷ ps) [] x y z l h = absurd (omega arith)
arguments_of_domains E N G (p ∷ ps) (u ∷ us) x y z l (one_more q e h) =
    let f : length us ≡ length ps = omega arith in
    let ps' : List Tree = substitute_domains (for_innermost u) ps in
    let at : (t : Tree) → subst_tree 0 u (products ps t) ≡ products ps' (subst_tree (length us) u t) =
    λ t. subst_innermost u (products ps t) ∙ substitute_products ps t (for_innermost u) ∙ ap (products ps') (sym (subst_under_binders (length ps) u t) ∙ ap (λ i. subst_tree i u t) (sym f)) in
    one_more q (sym (at x))
    (arguments_of_domains E N G ps' us (subst_tree (length us) u x) (subst_tree (length us) u y) z (f ∙ sym (length_substitute_domains ps (for_innermost u)))
    (arguments_at E N G _ _ us z z (e ∙ at y) refl h))

arguments_leave : (E : Environment) (N : Numbering) (G : Context) {t z z' : Tree} {us : List Tree} → TypedArguments E N G t us z → Instantiated t us z' → TypedArguments E N G t us z'
arguments_leave E N G h p = arguments_at E N G _ _ _ _ _ refl (sym (instantiate_gives (arguments_instantiate E N G h)) ∙ instantiate_gives p) h

matched_constructor : (E : Environment) (N : Numbering) {G : Context} {id owner : GlobalId} {block : Block} {T : TypeDeclaration} {n : ℕ} {parameters : List Tree} →
    MatchedArity E N G n parameters T.arity → (h : TypeShown E N id block T) → length parameters ≡ block.parameters → owner ≡ id →
    (c : ConstructorDeclaration) → ConstructorShown E N h.domains owner n c → MatchedConstructor E N G id n parameters c
matched_constructor E N {G = G} {id = id} {T = T} {n = n} {parameters = qs} a h l o c k =
    let count : length qs ≡ length h.domains = l ∙ sym h.as_many in
    let f : BranchForm id qs n c.type = branch_form h.domains qs id n c.type (subst (λ i. ConstructorShape h.domains i n c.type) o k.shape) count in
    let closed : lift_tree 0 (length G) c.type ≡ c.type = closed_type E N c.type (length G) k.sorted in
    let along_arity = arguments_at E N G _ _ qs _ _ (closed_type E N T.arity (length G) h.sorted ∙ h.arity.is_arity) refl a.typed in
    let t : TypedArguments E N G (lift_tree 0 (length G) c.type) qs (products f.domains (apply (ind id) (lift_all (length f.domains) qs ++ f.indices))) =
    arguments_leave E N G
    (arguments_at E N G _ _ qs _ _ (sym (shape_is_type k.shape) ∙ sym closed) refl (arguments_of_domains E N G h.domains qs _ _ _ count along_arity))
    (instantiated_between _ _ _ _ (sym closed) refl f.instantiated) in
    record {
      form = f;
      shown = k.shown;
      stands = k.stands;
      is_type = k.is_type;
      typed = t;
      sorted = instantiated_has_sort E N G t (closed_has_sort E N G c.type k.sorted);
    }

each_matched_constructor : (E : Environment) (N : Numbering) {G : Context} {id owner : GlobalId} {block : Block} {T : TypeDeclaration} {n : ℕ} {parameters : List Tree} →
    MatchedArity E N G n parameters T.arity → (h : TypeShown E N id block T) → length parameters ≡ block.parameters → owner ≡ id →
    (cs : List ConstructorDeclaration) → Each (ConstructorShown E N h.domains owner n) cs → Each (MatchedConstructor E N G id n parameters) cs
each_matched_constructor E N a h l o [] k = tt
each_matched_constructor E N a h l o (c ∷ cs) k = (matched_constructor E N a h l o c k.0, each_matched_constructor E N a h l o cs k.1)

pub matched_constructors : (E : Environment) (N : Numbering) → WellTypedLookups E N → {G : Context} {id : GlobalId} {place : TypeInBlock} {T : TypeDeclaration} {n : ℕ} {parameters indices : List Tree} →
    MatchedType E N G id place T n parameters indices → Each (MatchedConstructor E N G id n parameters) T.constructors
matched_constructors E N k {id = id} {place = place} {T = T} {n = n} m =
    let h : TypeShown E N id place.block T = k.types id place T m.shown m.in_block in
    let count : length h.arity.indices ≡ n = sym (m.counts ∙ index_count_of_arity h.domains place.block.parameters T h.arity h.as_many) in
    each_matched_constructor E N (matched_arity E N k m) h m.all_parameters h.is_named T.constructors
    (subst (λ i. Each (ConstructorShown E N h.domains T.id i) T.constructors) count h.constructors)

-- The context of a branch
pub branch_context_well_formed : (E : Environment) (N : Numbering) {G : Context} {id : GlobalId} {n : ℕ} {parameters : List Tree} (c : ConstructorDeclaration) →
    MatchedConstructor E N G id n parameters c → WellFormedContext E N G → WellFormedContext E N (extend G (domains_of (instantiate parameters c.type)))
branch_context_well_formed E N {G = G} c m w =
    subst (λ z. WellFormedContext E N (extend G z)) (sym (branch_domains_read m.form)) (opened_well_formed E N G m.form.domains _ m.sorted w)
