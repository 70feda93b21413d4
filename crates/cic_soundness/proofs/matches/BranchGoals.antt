-- The goal of a branch has a sort, and what inference checks of a match is what the rule of a match asks. The
-- motive is lifted past the arguments of the constructor; the constructor under the parameters and its arguments
-- has a type with a sort, which gives its indices their types; so the motive may be taken at both.
use Rattle.std.proofs.Common.{◌≡◌, ℕ, ◌+◌, ◌-◌, true, Some, List, [], ◌∷◌, ◌++◌, length, map, refl, sym, ap, ap₂, ◌∙◌, arith, subst, inl, take, drop}
use Rattle.std.proofs.lemmas.Bool.Decides.{nat_tests}
use Rattle.std.proofs.lemmas.List.{length-take-le, length-drop, take-append-drop}
use Rattle.cic_terms.specs.Tree.{TreeSort, Binders, over, Tree, rel, Children, child, sort, ind, ctor, case}
use Rattle.cic_terms.specs.Lift.{lift_tree}
use Rattle.cic_names.specs.declared.name.GlobalId.{GlobalId}
use Rattle.cic_counted.specs.Sameness.{same_tree}
use Rattle.cic_rules.specs.Numbering.{Numbering}
use Rattle.cic_rules.specs.Environment.{Environment, Context, TypeInBlock, TypeDeclaration, ConstructorDeclaration, whole_block, element, assumed}
use Rattle.cic_rules.specs.Telescopes.{apply, head_of, products, domains_of, extend, substitute_all, variables, lift_all, Instantiated}
use Rattle.cic_rules.specs.Step.{delta_variable}
use Rattle.cic_rules.specs.Inductive.{Each}
use Rattle.cic_rules.specs.Typing as T
use Rattle.cic_rules.specs.Typing.{Typed, Branches, branch, Eliminated, HasSort, WellFormedContext}
use Rattle.cic_counted.specs.Readings.{arguments_of, instantiate}
use Rattle.cic_counted.specs.BlockTests.{index_count}
use Rattle.cic_counted.specs.Inference.{branch_goal}
use Rattle.cic_counted.proofs.Decided.{same_tree-is}
use Rattle.cic_metatheory.specs.Substitution.{renaming_under, rename, substitution_under_one, substitution_under, substitute, substitute_domains}
use Rattle.cic_metatheory.specs.TypedContexts.{SubstitutesTypedContext}
use Rattle.cic_metatheory.specs.WellTypedLookups.{WellTypedLookups}
use Rattle.cic_metatheory.proofs.substitutions.Composition.{rename_as_substitute, substitute_rename, substitute_rename_under, substitute_identity, identity_under}
use Rattle.cic_metatheory.proofs.substitutions.LiftAndSubst.{lift_is_rename, lifted_under, lift_adds}
use Rattle.cic_metatheory.proofs.substitutions.Telescopes.{one_more_under, length_substitute_domains}
use Rattle.cic_metatheory.proofs.typings.Typing.{substitute_products, inductive_in_two, good_extended, variables_under, lift_all_under}
use Rattle.cic_metatheory.proofs.conversions.Weakening.{grows_alike}
use Rattle.cic_metatheory.proofs.typings.Weakening.{typed_substitution_goes_under, typed_substituted, typed_substitutions}
use Rattle.cic_soundness.proofs.evaluations.Readings.{apply_head}
use Rattle.cic_metatheory.proofs.typings.Instances.{arguments_at, sort_at, arguments_instantiate, opened_has_sort, renames_past_domains, arguments_past_domains, constructor_under_domains}
use Rattle.cic_metatheory.proofs.typings.Validity.{whole_block_has_arity, match_type_has_sort}
use Rattle.cic_soundness.proofs.matches.Forms.{arity_domains_read, branch_domains_read, branch_goal_read}
use Rattle.cic_soundness.proofs.matches.Contexts.{MatchedType, MatchedArity, matched_arity, MatchedConstructor, matched_constructors, branch_context_well_formed, closed_type}
use Rattle.cic_metatheory.proofs.basics.Products.{instantiated_between}

-- A lift past binders, as a substitution
past : ℕ → ℕ → Tree
past n x = rel (x + n)

lift_as_substitution : (n : ℕ) (t : Tree) → lift_tree 0 n t ≡ substitute (past n) t
unfolding past
lift_as_substitution n t = lift_adds n t ∙ rename_as_substitute t (λ x. x + n)

lifts_as_substitution : (n : ℕ) (ts : List Tree) → map (substitute (past n)) ts ≡ lift_all n ts
lifts_as_substitution n [] = refl
lifts_as_substitution n (t ∷ ts) = ap₂ ◌∷◌ (sym (lift_as_substitution n t)) (lifts_as_substitution n ts)

lift_under_as_substitution : (place n : ℕ) (t : Tree) → lift_tree place n t ≡ substitute (substitution_under place (past n)) t
unfolding past
lift_under_as_substitution place n t =
    let r : ℕ → ℕ = λ x. x + n in
    lift_is_rename t place n (renaming_under place r) (lifted_under place r 0 n place (omega arith) (λ x. grind (arith, nat_tests)))
    ∙ sym (substitute_identity (rename (renaming_under place r) t) (substitution_under place rel) (identity_under place rel (λ x. refl)))
    ∙ substitute_rename t (substitution_under place rel) (renaming_under place r) (substitution_under place (λ x. rel (x + n))) (substitute_rename_under place rel r (λ x. rel (x + n)) (λ x. refl))

lift_leads : (E : Environment) (N : Numbering) (G : Context) (as_ : List Tree) → SubstitutesTypedContext E N (past (length as_)) G (extend G as_)
unfolding past
lift_leads E N G as_ =
    let h = renames_past_domains G as_ in
    record {
      context = record {
        bodies = λ x t a. let b = h.context.bodies x t a in rw (← rename_as_substitute t (λ y. y + length as_)) (inl (delta_variable b.stands b.is_lifted));
        outside = λ k. ap rel (h.context.outside k);
      };
      types = λ x t a. let b = h.types x t a in rw (← rename_as_substitute t (λ y. y + length as_)) (T.Typed.variable b.stands b.is_lifted);
    }

-- The motive under the arguments of a constructor
motive_past_domains : (E : Environment) (N : Numbering) (G : Context) (as_ domains parameters : List Tree) (id : GlobalId) (n : ℕ) (p : Tree) (s : TreeSort) → length domains ≡ n →
    Typed E N (assumed (apply (ind id) (lift_all n parameters ++ variables n)) ∷ extend G domains) p (sort s) →
    Typed E N (assumed (apply (ind id) (lift_all n (lift_all (length as_) parameters) ++ variables n)) ∷ extend (extend G as_) (substitute_domains (past (length as_)) domains)) (lift_tree (n + 1) (length as_) p) (sort s)
unfolding substitute
motive_past_domains E N G as_ domains qs id n p s l h =
    let m : ℕ = length as_ in
    let q : ℕ → Tree = past m in
    let D : Context = extend G as_ in
    let inner : ℕ → Tree = substitution_under (length domains) q in
    let value : Tree = apply (ind id) (lift_all n qs ++ variables n) in
    let at : substitute inner value ≡ apply (ind id) (lift_all n (lift_all m qs) ++ variables n) =
    ap (λ i. substitute (substitution_under i q) value) l
    ∙ inductive_in_two id (lift_all n qs) (variables n) (substitution_under n q) _ refl
    ∙ ap₂ (λ y z. apply (ind id) (y ++ z)) (lift_all_under n qs q ∙ ap (lift_all n) (lifts_as_substitution m qs)) (variables_under n q) in
    let under : substitute (substitution_under_one inner) p ≡ lift_tree (n + 1) m p =
    ap (λ z. substitute z p) (one_more_under (length domains) q ∙ ap (λ i. substitution_under (i + 1) q) l) ∙ sym (lift_under_as_substitution (n + 1) m p) in
    let k : Typed E N (assumed (substitute inner value) ∷ extend D (substitute_domains q domains)) (substitute (substitution_under_one inner) p) (sort s) =
    typed_substituted E E N (substitution_under_one inner) (assumed value ∷ extend G domains) (assumed (substitute inner value) ∷ extend D (substitute_domains q domains)) p (sort s) (grows_alike E)
    (typed_substitution_goes_under E N inner (extend G domains) (extend D (substitute_domains q domains)) (assumed value) (good_extended E E (typed_substitutions E E N (grows_alike E)).kind domains q G D (lift_leads E N G as_))) h in
    subst (λ z. Typed E N (assumed z ∷ extend D (substitute_domains q domains)) (lift_tree (n + 1) m p) (sort s)) at
    (subst (λ z. Typed E N (assumed (substitute inner value) ∷ extend D (substitute_domains q domains)) z (sort s)) under k)

arity_past_domains : (E : Environment) (N : Numbering) (G : Context) (as_ : List Tree) {n : ℕ} {parameters : List Tree} {arity : Tree} → HasSort E N [] arity → (a : MatchedArity E N G n parameters arity) →
    Instantiated (lift_tree 0 (length (extend G as_)) arity) (lift_all (length as_) parameters) (products (substitute_domains (past (length as_)) a.form.domains) (sort a.form.ends_in))
unfolding substitute
arity_past_domains E N G as_ {arity = arity} h a =
    let closed : (n : ℕ) → lift_tree 0 n arity ≡ arity = λ n. closed_type E N arity n h in
    instantiated_between _ _ _ _ (ap (lift_tree 0 (length as_)) (closed (length G)) ∙ closed (length as_) ∙ sym (closed (length (extend G as_))))
    (lift_as_substitution (length as_) (products a.form.domains (sort a.form.ends_in)) ∙ substitute_products a.form.domains (sort a.form.ends_in) (past (length as_)))
    (arguments_instantiate E N (extend G as_) (arguments_past_domains E N G as_ a.typed))

-- The goal of a branch
pub branch_goal_is_typed : (E : Environment) (N : Numbering) → WellTypedLookups E N → {G : Context} {id : GlobalId} {place : TypeInBlock} {T : TypeDeclaration} {n : ℕ} {parameters indices : List Tree} →
    MatchedType E N G id place T n parameters indices → (p : Tree) (s : TreeSort) →
    Typed E N (assumed (apply (ind id) (lift_all n parameters ++ variables n)) ∷ extend G (domains_of (instantiate parameters T.arity))) p (sort s) →
    (c : ConstructorDeclaration) → MatchedConstructor E N G id n parameters c →
    Typed E N (extend G (domains_of (instantiate parameters c.type))) (branch_goal n parameters p c) (sort s)
branch_goal_is_typed E N k {G = G} {id = id} {place = place} {T = T} {n = n} {parameters = qs} h p s hp c m =
    let a = matched_arity E N k h in
    let as_ : List Tree = m.form.domains in
    let i : ℕ = length as_ in
    let D : Context = extend G as_ in
    let y : Tree = apply (ind id) (lift_all i qs ++ m.form.indices) in
    let v : Tree = apply (ctor c.id) (lift_all i qs ++ variables i) in
    let hv : Typed E N D v y =
    constructor_under_domains E N G as_ y qs c.id m.shown m.stands (arguments_at E N G _ _ qs _ _ (ap (lift_tree 0 (length G)) (sym m.is_type)) refl m.typed) in
    let hm = motive_past_domains E N G as_ a.form.domains qs id n p s a.form.as_many
    (subst (λ z. Typed E N (assumed (apply (ind id) (lift_all n qs ++ variables n)) ∷ extend G z) p (sort s)) (arity_domains_read a.form) hp) in
    let g = match_type_has_sort E N D id _ (lift_all i qs) m.form.indices (substitute_domains (past i) a.form.domains) a.form.ends_in s n v y _ (lift_tree (n + 1) i p)
    (whole_block_has_arity E id place T h.shown h.in_block) m.form.as_many refl hv (opened_has_sort E N G as_ y m.sorted)
    (arity_past_domains E N G as_ (k.types id place T h.shown h.in_block).sorted a) refl (length_substitute_domains a.form.domains (past i) ∙ a.form.as_many) hm in
    subst (λ z. Typed E N (extend G z) (branch_goal n qs p c) (sort s)) (sym (branch_domains_read m.form))
    (subst (λ z. Typed E N D z (sort s)) (sym (branch_goal_read c m.form p)) g)

pub branch_goal_has_sort : (E : Environment) (N : Numbering) → WellTypedLookups E N → {G : Context} {id : GlobalId} {place : TypeInBlock} {T : TypeDeclaration} {n : ℕ} {parameters indices : List Tree} →
    MatchedType E N G id place T n parameters indices → (p : Tree) (s : TreeSort) →
    Typed E N (assumed (apply (ind id) (lift_all n parameters ++ variables n)) ∷ extend G (domains_of (instantiate parameters T.arity))) p (sort s) →
    (c : ConstructorDeclaration) → MatchedConstructor E N G id n parameters c →
    HasSort E N (extend G (domains_of (instantiate parameters c.type))) (branch_goal n parameters p c)
branch_goal_has_sort E N k h p s hp c m = record { its_sort = s; typed = branch_goal_is_typed E N k h p s hp c m }

-- A branch by the rule
pub branch_by_rule : (E : Environment) (N : Numbering) {G : Context} {id : GlobalId} {n : ℕ} {parameters : List Tree} (p : Tree) (c : ConstructorDeclaration) (cs : List ConstructorDeclaration) (b : Binders) (t : Tree) (ks : Children) →
    MatchedConstructor E N G id n parameters c → over b 0 ≡ length (domains_of c.type) - length parameters →
    Typed E N (extend G (domains_of (instantiate parameters c.type))) t (branch_goal n parameters p c) →
    Branches E N G id parameters n p cs ks → Branches E N G id parameters n p (c ∷ cs) (child b t ks)
branch_by_rule E N {G = G} {n = n} {parameters = qs} p c cs b t ks m l h rest =
    let e : length m.form.domains ≡ over b 0 = m.form.count ∙ sym l in
    branch m.form.domains m.form.indices (arguments_instantiate E N G m.typed) refl e m.form.as_many
    (branch_goal_read c m.form p ∙ ap (λ i. substitute_all (m.form.indices ++ apply (ctor c.id) (lift_all i qs ++ variables i) ∷ []) (lift_tree (n + 1) i p)) e)
    (subst (λ z. Typed E N (extend G z) t (branch_goal n qs p c)) (branch_domains_read m.form) h)
    rest

-- What inference needs of each branch: its context is well formed, its goal has a sort there, and a body of
-- that type makes it a branch by the rule.
pub record BranchLaws (E : Environment) (N : Numbering) (G : Context) (id : GlobalId) (r n : ℕ) (parameters : List Tree) (p : Tree) (c : ConstructorDeclaration) : Type 0 where
  pub context : WellFormedContext E N (extend G (domains_of (instantiate parameters c.type)))
  pub goal : HasSort E N (extend G (domains_of (instantiate parameters c.type))) (branch_goal n parameters p c)
  pub rule : (b : Binders) (t : Tree) (cs : List ConstructorDeclaration) (ks : Children) → over b 0 ≡ length (domains_of c.type) - r →
      Typed E N (extend G (domains_of (instantiate parameters c.type))) t (branch_goal n parameters p c) → Branches E N G id parameters n p cs ks → Branches E N G id parameters n p (c ∷ cs) (child b t ks)

branch_laws_from : (E : Environment) (N : Numbering) (k : WellTypedLookups E N) {G : Context} {id : GlobalId} {place : TypeInBlock} {T : TypeDeclaration} {n : ℕ} {parameters indices : List Tree} (r : ℕ) → length parameters ≡ r →
    MatchedType E N G id place T n parameters indices → WellFormedContext E N G → (p : Tree) (s : TreeSort) →
    Typed E N (assumed (apply (ind id) (lift_all n parameters ++ variables n)) ∷ extend G (domains_of (instantiate parameters T.arity))) p (sort s) →
    (cs : List ConstructorDeclaration) → Each (MatchedConstructor E N G id n parameters) cs → Each (BranchLaws E N G id r n parameters p) cs
branch_laws_from E N k r l h w p s hp [] m = tt
branch_laws_from E N k r l h w p s hp (c ∷ cs) m = (
  record {
    context = branch_context_well_formed E N c m.0 w;
    goal = branch_goal_has_sort E N k h p s hp c m.0;
    rule = λ b t rest ks e. branch_by_rule E N p c rest b t ks m.0 (e ∙ ap (λ i. length (domains_of c.type) - i) (sym l));
  },
  branch_laws_from E N k r l h w p s hp cs m.1,
)

pub branch_laws : (E : Environment) (N : Numbering) → WellTypedLookups E N → {G : Context} {id : GlobalId} {place : TypeInBlock} {T : TypeDeclaration} {n : ℕ} {parameters indices : List Tree} (r : ℕ) → length parameters ≡ r →
    MatchedType E N G id place T n parameters indices → WellFormedContext E N G → (p : Tree) (s : TreeSort) →
    Typed E N (assumed (apply (ind id) (lift_all n parameters ++ variables n)) ∷ extend G (domains_of (instantiate parameters T.arity))) p (sort s) →
    Each (BranchLaws E N G id r n parameters p) T.constructors
branch_laws E N k {T = T} r l h w p s hp = branch_laws_from E N k r l h w p s hp T.constructors (matched_constructors E N k h)

-- A match by the rule
pub match_by_rule : (E : Environment) (N : Numbering) → WellTypedLookups E N → {G : Context} {id : GlobalId} {place : TypeInBlock} {T : TypeDeclaration} {n : ℕ} {parameters indices : List Tree} →
    MatchedType E N G id place T n parameters indices → (v w p t : Tree) (branches : Children) (s : TreeSort) →
    w ≡ apply (ind id) (parameters ++ indices) → Typed E N G v w →
    Typed E N (assumed (apply (ind id) (lift_all n parameters ++ variables n)) ∷ extend G (domains_of (instantiate parameters T.arity))) p (sort s) →
    Eliminated E N place.block.parameters T s → Branches E N G id parameters n p T.constructors branches →
    t ≡ substitute_all (indices ++ v ∷ []) p → Typed E N G (case id n p v branches) t
match_by_rule E N k {G = G} {id = id} {n = n} {parameters = qs} {indices = is} h v w p t branches s ew hv hp he hb et =
    let a = matched_arity E N k h in
    T.Typed.matching qs is a.form.domains a.form.ends_in h.shown h.in_block h.all_parameters h.all_indices ew hv (arguments_instantiate E N G a.typed) refl a.form.as_many
    (subst (λ z. Typed E N (assumed (apply (ind id) (lift_all n qs ++ variables n)) ∷ extend G z) p (sort s)) (arity_domains_read a.form) hp) he hb et

-- The type of the value as inference reads it: its first r arguments are the parameters, the others the indices.
pub value_type_read : (id : GlobalId) (r : ℕ) (w : Tree) (parameters : List Tree) → parameters ≡ take r (arguments_of w) → same_tree (head_of w) (ind id) ≡ true →
    w ≡ apply (ind id) (parameters ++ drop r (arguments_of w))
value_type_read id r w qs q e =
    sym (apply_head w) ∙ ap₂ apply (same_tree-is (head_of w) (ind id) e) (sym (take-append-drop r (arguments_of w)) ∙ ap (λ z. z ++ drop r (arguments_of w)) (sym q))

pub matched_type_read : (E : Environment) (N : Numbering) {G : Context} (id : GlobalId) (place : TypeInBlock) (T : TypeDeclaration) (r n : ℕ) (w : Tree) (parameters : List Tree) → parameters ≡ take r (arguments_of w) →
    whole_block E id ≡ Some place → element place.block.types place.index ≡ Some T → r ≡ place.block.parameters → n ≡ index_count r T →
    same_tree (head_of w) (ind id) ≡ true → length (arguments_of w) ≡ r + n → HasSort E N G w →
    MatchedType E N G id place T n parameters (drop r (arguments_of w))
matched_type_read E N {G = G} id place T r n w qs q d el er en e l h = record {
  shown = d;
  in_block = el;
  counts = en ∙ ap (λ i. index_count i T) er;
  all_parameters = ap length q ∙ length-take-le r (arguments_of w) (omega (arith, l)) ∙ er;
  all_indices = (let k = length-drop r (arguments_of w) in omega (arith, l, k));
  sorted = sort_at E N G _ _ (value_type_read id r w qs q e) h;
}
