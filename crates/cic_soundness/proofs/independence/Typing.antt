-- Inference, a check against a type and the sort of a type answer the same over two environments that agree on a set
-- of ids, where the terms name ids of the set alone and so does what these ids stand for. It follows the text of each
-- definition, and is by induction on what is left of the depth. The check of a declaration over two such environments
-- rests on it.
use Rattle.std.proofs.Common.{◌≡◌, ℕ, zero, suc, ◌+◌, ◌-◌, not, ◌&&◌, ◌||◌, nat_eq, List, [], ◌∷◌, ◌++◌, length, take, drop, ap}
use Rattle.std.specs.Prelude.{option_map}
use Rattle.cic_terms.specs.Tree.{TreeSort, prop, set, typ, own, Shape, Tree, rel, Children, child, sort, prod, lam, let_in, app, const, ind, ctor, case, fix}
use Rattle.cic_terms.specs.Lift.{lift_tree, subst_tree}
use Rattle.cic_names.specs.declared.name.GlobalId.{GlobalId}
use Rattle.cic_names.specs.declared.level.Level.TheVariants.{Set}
use Rattle.cic_rules.specs.Inductive.{Each}
use Rattle.cic_counted.specs.Sameness.{same_tree}
use Rattle.cic_rules.specs.Numbering.{plain_level}
use Rattle.cic_rules.specs.Environment.{Environment, Context, meaning, TypeDeclaration, ConstructorDeclaration, constant_type, constant_type_in, inductive_type_of, inductive_type_in, whole_block, whole_block_in, constructor_of, constructor_in, type_at, element, assumed, defined}
use Rattle.cic_rules.specs.Telescopes.{apply, head_of, domains_of, conclusion_of, extend, substitute_all, variables, lift_all, Function, function_types, function_type}
use Rattle.cic_counted.specs.Readings.{arguments_of, instantiate, functions_of}
use Rattle.cic_counted.specs.BlockTests.{is_shaped, index_count}
use Rattle.cic_counted.specs.GuardTest.{guard_fault}
use Rattle.cic_counted.specs.Outcome.{Counted, refused, global, local, unbound, not_function, not_inductive, bad_elimination, bad_branch_count, universe_form, unguarded, deep, give, or_refuse, require, refuse_for, tick}
use Rattle.cic_counted.specs.Evaluation.{whnf_at}
use Rattle.cic_counted.specs.Inference.{Calls, Product, as_sort, as_product, expose, next_level, type_of_sort, product_sort, are_branches, is_prop, ends_in_prop, branch_goal, all_propositions, eliminates_constructors, eliminates, check_branches, infer_match, infer_case, sort_each, function_context, check_bodies, infer_fix, infer_step, calls_at, calls_from}
use Rattle.cic_soundness.proofs.independence.Terms.{TreeIn, PartsIn, TreesIn, ContextIn, FunctionIn, FunctionsIn, extend_in, type_at_in, naming}
use Rattle.cic_soundness.proofs.independence.Guard.{guard_same}
use Rattle.cic_soundness.proofs.independence.Calls.{Any, Alike, alike_itself, alike_give, alike_stop, alike_bind, alike_then, alike_if, alike_to, alike_or_refuse, alike_lookup, alike_fitting, alike_fitting_all, ConstructorIn, TypeIn, MeaningIn, constant_in, inductive_in, block_in, constructor_within}
use Rattle.cic_soundness.proofs.independence.Evaluation.{alike_whnf, alike_cumul, alike_fitting_body}
use Rattle.cic_soundness.proofs.independence.Formers.{lift_in, subst_in, apply_in, arguments_in, domains_in, conclusion_in, substitute_all_in, variables_in, lift_all_in, instantiate_in, functions_in, function_type_in, function_types_in}
use Rattle.cic_metatheory.proofs.basics.Elements.{IfThere, each_joined, each_taken, each_dropped, each_element}

pub record CallsAlike (S : GlobalId → Type 0) (calls calls' : Calls) : Type 0 where
  pub infer : (G : Context) (t : Tree) → ContextIn S G → TreeIn S t → Alike (TreeIn S) (calls.infer G t) (calls'.infer G t)
  pub check : (G : Context) (t T : Tree) → ContextIn S G → TreeIn S t → TreeIn S T → Alike Any (calls.check G t T) (calls'.check G t T)
  pub sort_of : (G : Context) (t : Tree) → ContextIn S G → TreeIn S t → Alike Any (calls.sort_of G t) (calls'.sort_of G t)

module _ (S : GlobalId → Type 0) where
  abbrev ProductIn : Product → Type 0
  ProductIn p = TreeIn S p.domain × TreeIn S p.codomain

  alike_as_product : (G : Context) (t : Tree) → TreeIn S t → Alike ProductIn (as_product G t) (as_product G t)
  alike_as_product G (prod a b) h = alike_give ProductIn (record { domain = a; codomain = b }) (h.1.0, h.1.1.0)
  alike_as_product G t h = alike_stop ProductIn (refused (not_function (length G) t))

  alike_type_of_sort : (s : TreeSort) → Alike (TreeIn S) (type_of_sort s) (type_of_sort s)
  alike_type_of_sort prop = alike_give (TreeIn S) (sort (next_level Set)) (tt, tt)
  alike_type_of_sort set = alike_give (TreeIn S) (sort (next_level Set)) (tt, tt)
  alike_type_of_sort (typ e) =
      alike_bind (alike_itself (or_refuse (plain_level e) (universe_form (typ e) (typ e)))) (λ l k. alike_give (TreeIn S) (sort (next_level l)) (tt, tt))
  alike_type_of_sort (own i) = alike_stop (TreeIn S) (refused (universe_form (own i) (own i)))

  alike_context : (before : ℕ) (G : Context) (ts : List Tree) → ContextIn S G → TreesIn S ts → Alike (ContextIn S) (function_context before G ts) (function_context before G ts)
  alike_context before G [] g h = alike_give (ContextIn S) G g
  alike_context before G (t ∷ ts) g h =
      alike_bind (alike_fitting S (lift_tree 0 before t) (lift_in (naming S) 0 before t h.0)) (λ u k. alike_context (before + 1) (assumed u ∷ G) ts ((k, tt), g) h.1)

  goal_in : (a : ℕ) (parameters : List Tree) (p : Tree) (k : ConstructorDeclaration) → TreesIn S parameters → TreeIn S p → ConstructorIn S k → TreeIn S (branch_goal a parameters p k)
  goal_in a parameters p k hs hp hk =
      let type = instantiate parameters k.type in
      let m = length (domains_of type) in
      let inside : TreeIn S type = instantiate_in (naming S) parameters k.type hs hk.1 in
      let made : TreeIn S (apply (ctor k.id) (lift_all m parameters ++ variables m)) =
      apply_in (naming S) (ctor k.id) (lift_all m parameters ++ variables m) (hk.0, tt)
      (each_joined (TreeIn S) (lift_all m parameters) (variables m) (lift_all_in (naming S) m parameters hs) (variables_in (naming S) m)) in
      substitute_all_in (naming S)
      (drop (length parameters) (arguments_of (conclusion_of type)) ++ apply (ctor k.id) (lift_all m parameters ++ variables m) ∷ [])
      (lift_tree (a + 1) m p)
      (each_joined (TreeIn S) (drop (length parameters) (arguments_of (conclusion_of type))) (apply (ctor k.id) (lift_all m parameters ++ variables m) ∷ [])
      (each_dropped (TreeIn S) (length parameters) (arguments_of (conclusion_of type)) (arguments_in (naming S) (conclusion_of type) (conclusion_in (naming S) type inside)))
      (made, tt))
      (lift_in (naming S) (a + 1) m p hp)

module _ (S : GlobalId → Type 0) (calls calls' : Calls) (c : CallsAlike S calls calls') where
  alike_all_propositions : (id : GlobalId) (G : Context) (as_ : List Tree) → ContextIn S G → TreesIn S as_ → Alike Any (all_propositions calls id G as_) (all_propositions calls' id G as_)
  alike_all_propositions id G [] g h = alike_itself (give tt)
  alike_all_propositions id G (a ∷ as_) g h =
      alike_bind (c.sort_of G a g h.0) (λ s k. alike_then (alike_itself (require (is_prop s) (bad_elimination id)))
      (alike_all_propositions id (assumed a ∷ G) as_ ((h.0, tt), g) h.1))

  alike_eliminates_constructors : (id : GlobalId) (r : ℕ) (ks : List ConstructorDeclaration) → Each (ConstructorIn S) ks → Alike Any (eliminates_constructors calls id r ks) (eliminates_constructors calls' id r ks)
  alike_eliminates_constructors id r [] h = alike_itself (give tt)
  alike_eliminates_constructors id r (k ∷ []) h =
      let domains : TreesIn S (domains_of k.type) = domains_in (naming S) k.type h.0.1 in
      alike_all_propositions id (extend [] (take r (domains_of k.type))) (drop r (domains_of k.type))
      (extend_in S [] (take r (domains_of k.type)) tt (each_taken (TreeIn S) r (domains_of k.type) domains))
      (each_dropped (TreeIn S) r (domains_of k.type) domains)
  alike_eliminates_constructors id r _ h = alike_stop Any (refused (bad_elimination id))

  alike_eliminates : (id : GlobalId) (r : ℕ) (t : TypeDeclaration) (s : TreeSort) → Each (ConstructorIn S) t.constructors → Alike Any (eliminates calls id r t s) (eliminates calls' id r t s)
  alike_eliminates id r t s h =
      alike_if (not (ends_in_prop (conclusion_of t.arity)) || is_prop s) (alike_itself (give tt)) (alike_eliminates_constructors id r t.constructors h)

  alike_branches : (G : Context) (a : ℕ) (parameters : List Tree) (p : Tree) (ks : List ConstructorDeclaration) (branches : Children) → ContextIn S G → TreesIn S parameters → TreeIn S p → Each (ConstructorIn S) ks → PartsIn S branches → Alike Any (check_branches calls G a parameters p ks branches) (check_branches calls' G a parameters p ks branches)
  alike_branches G a parameters p (k ∷ ks) (child b t branches) g hs hp hk h =
      alike_bind (alike_fitting_all S (domains_of (instantiate parameters k.type)) (domains_in (naming S) (instantiate parameters k.type) (instantiate_in (naming S) parameters k.type hs hk.0.1))) (λ as_ ha.
      alike_bind (alike_fitting S (branch_goal a parameters p k) (goal_in S a parameters p k hs hp hk.0)) (λ goal hg.
      alike_then (c.check (extend G as_) t goal (extend_in S G as_ g ha) h.0 hg) (alike_branches G a parameters p ks branches g hs hp hk.1 h.1)))
  alike_branches G a parameters p _ _ g hs hp hk h = alike_itself (give tt)

  alike_sort_each : (G : Context) (ts : List Tree) → ContextIn S G → TreesIn S ts → Alike Any (sort_each calls G ts) (sort_each calls' G ts)
  alike_sort_each G [] g h = alike_itself (give tt)
  alike_sort_each G (t ∷ ts) g h = alike_then (c.sort_of G t g h.0) (alike_sort_each G ts g h.1)

  alike_check_bodies : (G : Context) (all : ℕ) (fs : List Function) → ContextIn S G → FunctionsIn S fs → Alike Any (check_bodies calls G all fs) (check_bodies calls' G all fs)
  alike_check_bodies G all [] g h = alike_itself (give tt)
  alike_check_bodies G all (f ∷ fs) g h =
      alike_bind (alike_fitting_body S all f h.0) (λ b hb.
      alike_bind (alike_fitting S (lift_tree 0 all (function_type f)) (lift_in (naming S) 0 all (function_type f) (function_type_in (naming S) f h.0))) (λ t ht.
      alike_then (c.check G b t g hb ht) (alike_check_bodies G all fs g h.1)))

  module _ (whnf whnf' : Tree → Counted Tree) (w : (t : Tree) → TreeIn S t → Alike (TreeIn S) (whnf t) (whnf' t)) where
    alike_expose : (G : Context) (T : Tree) → ContextIn S G → TreeIn S T → Alike (TreeIn S) (expose whnf calls G T) (expose whnf' calls' G T)
    alike_expose G T g h =
        alike_bind (w T h) (λ V k. alike_if (same_tree V T) (alike_give (TreeIn S) V k) (alike_then (c.sort_of G V g k) (alike_give (TreeIn S) V k)))

    alike_infer_match : (G : Context) (id : GlobalId) (n : ℕ) (p v : Tree) (branches : Children) (r a : ℕ) (t : TypeDeclaration) → ContextIn S G → S id → TreeIn S p → TreeIn S v → PartsIn S branches → TypeIn S t → Alike (TreeIn S) (infer_match whnf calls G id n p v branches r a t) (infer_match whnf' calls' G id n p v branches r a t)
    alike_infer_match G id n p v branches r a t g s hp hv hb ht =
        alike_bind (c.infer G v g hv) (λ T hT. alike_bind (alike_expose G T g hT) (λ C hC.
        let firsts = take r (arguments_of C) in
        let first_in : TreesIn S firsts = each_taken (TreeIn S) r (arguments_of C) (arguments_in (naming S) C hC) in
        let last_in : TreesIn S (drop r (arguments_of C)) = each_dropped (TreeIn S) r (arguments_of C) (arguments_in (naming S) C hC) in
        alike_then (alike_itself (require (same_tree (head_of C) (ind id) && nat_eq (length (arguments_of C)) (r + a)) (not_inductive (length G) C)))
        (alike_then (alike_itself (require (nat_eq n a && are_branches r t.constructors branches) (bad_branch_count id)))
        (alike_bind (alike_fitting_all S (domains_of (instantiate firsts t.arity)) (domains_in (naming S) (instantiate firsts t.arity) (instantiate_in (naming S) firsts t.arity first_in ht.1))) (λ indices hi.
        alike_bind (alike_fitting_all S (lift_all a firsts) (lift_all_in (naming S) a firsts first_in)) (λ parameters hs.
        alike_bind (c.sort_of (assumed (apply (ind id) (parameters ++ variables a)) ∷ extend G indices) p
        ((apply_in (naming S) (ind id) (parameters ++ variables a) (s, tt) (each_joined (TreeIn S) parameters (variables a) hs (variables_in (naming S) a)), tt), extend_in S G indices g hi) hp) (λ sort k.
        alike_then (alike_eliminates id r t sort ht.2)
        (alike_then (alike_branches G a firsts p t.constructors branches g first_in hp ht.2 hb)
        (alike_fitting S (substitute_all (drop r (arguments_of C) ++ v ∷ []) p)
        (substitute_all_in (naming S) (drop r (arguments_of C) ++ v ∷ []) p (each_joined (TreeIn S) (drop r (arguments_of C)) (v ∷ []) last_in (hv, tt)) hp))))))))))

module _ (S : GlobalId → Type 0) (E E' : Environment) (e : (id : GlobalId) → S id → meaning E id ≡ meaning E' id) (saturated : (id : GlobalId) → S id → IfThere (MeaningIn S) (meaning E id)) where
  module _ (calls calls' : Calls) (c : CallsAlike S calls calls') where
    alike_guard : (fs : List Function) → FunctionsIn S fs → Alike Any (refuse_for (option_map (λ fault. unguarded fault.which fault.call) (guard_fault E fs))) (refuse_for (option_map (λ fault. unguarded fault.which fault.call) (guard_fault E' fs)))
    alike_guard fs h =
        alike_to (ap (λ o. refuse_for (option_map (λ fault. unguarded fault.which fault.call) o)) (guard_same S E E' e saturated fs h))
        (alike_itself (refuse_for (option_map (λ fault. unguarded fault.which fault.call) (guard_fault E fs))))

    alike_infer_fix : (G : Context) (which : ℕ) (shapes : List Shape) (parts : Children) → ContextIn S G → PartsIn S parts → Alike (TreeIn S) (infer_fix calls E G which shapes parts) (infer_fix calls' E' G which shapes parts)
    alike_infer_fix G which shapes parts g h =
        alike_bind (alike_or_refuse (FunctionsIn S) (functions_of shapes parts) (unguarded which 0) (functions_in (naming S) shapes parts h)) (λ fs hs.
        alike_bind (alike_or_refuse (FunctionIn S) (element fs which) (unguarded which 0) (each_element (FunctionIn S) fs which hs)) (λ f hf.
        alike_then (alike_sort_each S calls calls' c G (function_types fs) g (function_types_in (naming S) fs hs))
        (alike_bind (alike_context S 0 G (function_types fs) g (function_types_in (naming S) fs hs)) (λ G' g'.
        alike_then (alike_check_bodies S calls calls' c G' (length fs) fs g' hs)
        (alike_then (alike_guard fs hs) (alike_give (TreeIn S) (function_type f) (function_type_in (naming S) f hf)))))))

    alike_infer_case : (whnf whnf' : Tree → Counted Tree) → ((t : Tree) → TreeIn S t → Alike (TreeIn S) (whnf t) (whnf' t)) → (G : Context) (id : GlobalId) (n : ℕ) (p v : Tree) (branches : Children) → ContextIn S G → S id → TreeIn S p → TreeIn S v → PartsIn S branches → Alike (TreeIn S) (infer_case whnf calls E G id n p v branches) (infer_case whnf' calls' E' G id n p v branches)
    alike_infer_case whnf whnf' w G id n p v branches g s hp hv hb =
        alike_bind (alike_lookup (λ place. Each (TypeIn S) place.block.types) (whole_block E id) (whole_block E' id) (unbound (global id)) (ap whole_block_in (e id s)) (block_in S (meaning E id) (saturated id s))) (λ place h.
        alike_then (alike_itself (require (is_shaped place.block) (unbound (global id))))
        (alike_bind (alike_or_refuse (TypeIn S) (element place.block.types place.index) (unbound (global id)) (each_element (TypeIn S) place.block.types place.index h)) (λ t ht.
        alike_infer_match S calls calls' c whnf whnf' w G id n p v branches place.block.parameters (index_count place.block.parameters t) t g s hp hv hb ht)))

    alike_infer : (whnf whnf' : Context → Tree → Counted Tree) → ((G : Context) (t : Tree) → ContextIn S G → TreeIn S t → Alike (TreeIn S) (whnf G t) (whnf' G t)) → (G : Context) (t : Tree) → ContextIn S G → TreeIn S t → Alike (TreeIn S) (infer_step whnf calls E G t) (infer_step whnf' calls' E' G t)
    alike_infer whnf whnf' w G (rel x) g h =
        alike_bind (alike_or_refuse (TreeIn S) (type_at G x) (unbound (local x)) (type_at_in S G x g)) (λ a k. alike_fitting S (lift_tree 0 (x + 1) a) (lift_in (naming S) 0 (x + 1) a k))
    alike_infer whnf whnf' w G (sort s) g h = alike_type_of_sort S s
    alike_infer whnf whnf' w G (prod a b) g h =
        alike_bind (c.sort_of G a g h.1.0) (λ s k. alike_bind (c.sort_of (assumed a ∷ G) b ((h.1.0, tt), g) h.1.1.0) (λ s' k'.
        alike_bind (alike_itself (or_refuse (product_sort s s') (universe_form s s'))) (λ r l. alike_give (TreeIn S) (sort r) (tt, tt))))
    alike_infer whnf whnf' w G (lam a t) g h =
        alike_then (c.sort_of G a g h.1.0) (alike_bind (c.infer (assumed a ∷ G) t ((h.1.0, tt), g) h.1.1.0) (λ b k.
        alike_give (TreeIn S) (prod a b) (tt, (h.1.0, (k, tt)))))
    alike_infer whnf whnf' w G (let_in t a u) g h =
        alike_then (c.sort_of G a g h.1.1.0) (alike_then (c.check G t a g h.1.0 h.1.1.0)
        (alike_bind (c.infer (defined t a ∷ G) u ((h.1.1.0, h.1.0), g) h.1.1.1.0) (λ b k. alike_fitting S (subst_tree 0 t b) (subst_in (naming S) 0 t b h.1.0 k))))
    alike_infer whnf whnf' w G (app f u) g h =
        alike_bind (c.infer G f g h.1.0) (λ T hT.
        alike_bind (alike_expose S calls calls' c (whnf G) (whnf' G) (λ t k. w G t g k) G T g hT) (λ V hV.
        alike_bind (alike_as_product S G V hV) (λ P hP.
        alike_then (c.check G u P.domain g h.1.1.0 hP.0) (alike_fitting S (subst_tree 0 u P.codomain) (subst_in (naming S) 0 u P.codomain h.1.1.0 hP.1)))))
    alike_infer whnf whnf' w G (const k) g h =
        alike_lookup (TreeIn S) (constant_type E k) (constant_type E' k) (unbound (global k)) (ap constant_type_in (e k h.0)) (constant_in S (meaning E k) (saturated k h.0))
    alike_infer whnf whnf' w G (ind k) g h =
        alike_lookup (TreeIn S) (option_map (λ a. a.arity) (inductive_type_of E k)) (option_map (λ a. a.arity) (inductive_type_of E' k)) (unbound (global k))
        (ap (λ m. option_map (λ a. a.arity) (inductive_type_in m)) (e k h.0)) (inductive_in S (meaning E k) (saturated k h.0))
    alike_infer whnf whnf' w G (ctor k) g h =
        alike_lookup (TreeIn S) (option_map (λ k. k.type) (constructor_of E k)) (option_map (λ k. k.type) (constructor_of E' k)) (unbound (global k))
        (ap (λ m. option_map (λ k. k.type) (constructor_in m)) (e k h.0)) (constructor_within S (meaning E k) (saturated k h.0))
    alike_infer whnf whnf' w G (case id n p v branches) g h =
        alike_infer_case (whnf G) (whnf' G) (λ t k. w G t g k) G id n p v branches g h.0 h.1.0 h.1.1.0 h.1.1.1
    alike_infer whnf whnf' w G (fix which shapes parts) g h = alike_infer_fix G which shapes parts g h.1
    alike_infer whnf whnf' w G t g h = alike_stop (TreeIn S) (refused (not_function (length G) t))

  alike_calls_at : (k : ℕ) → CallsAlike S (calls_at k E) (calls_at k E')
  unfolding calls_at
  alike_calls_at zero = record {
    infer = λ G t g h. alike_stop (TreeIn S) deep;
    check = λ G t T g h l. alike_stop Any deep;
    sort_of = λ G t g h. alike_stop Any deep;
  }
  alike_calls_at (suc k) =
      let c = alike_calls_at k in
      record {
        infer = λ G t g h. alike_bind (alike_itself tick) (λ _ _. alike_infer (calls_at k E) (calls_at k E') c (whnf_at k E) (whnf_at k E') (alike_whnf S E E' e saturated k) G t g h);
        check = λ G t T g h l. alike_bind (alike_itself tick) (λ _ _. alike_bind (c.infer G t g h) (λ U hU. alike_cumul S E E' e saturated k G U T g hU l));
        sort_of = λ G t g h. alike_bind (alike_itself tick) (λ _ _. alike_bind (c.infer G t g h) (λ U hU. alike_bind (alike_whnf S E E' e saturated k G U g hU) (λ V hV. alike_itself (as_sort G V))));
      }

pub alike_calls : (S : GlobalId → Type 0) (E E' : Environment) → ((id : GlobalId) → S id → meaning E id ≡ meaning E' id) → ((id : GlobalId) → S id → IfThere (MeaningIn S) (meaning E id)) → (d : ℕ) → CallsAlike S (calls_from d E) (calls_from d E')
unfolding calls_from
alike_calls S E E' e saturated d = alike_calls_at S E E' e saturated (2001 - d)
