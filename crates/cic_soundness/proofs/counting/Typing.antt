-- A closed relation of counted calls holds between inference, a check against a type and the sort of a type over some
-- calls and over others where it holds between these. It follows the text of each definition. So, by induction on what
-- is left of the depth, it holds of these functions as they are where it holds of evaluation. The laws of budgets and
-- the law on eta rest on it.
use Rattle.std.proofs.Common.{ℕ, zero, suc, ◌+◌, not, ◌&&◌, ◌||◌, nat_eq, List, [], ◌∷◌, ◌++◌, length, take, drop}
use Rattle.std.specs.Prelude.{option_map}
use Rattle.cic_terms.specs.Tree.{TreeSort, prop, set, typ, own, Shape, Tree, rel, Children, child, sort, prod, lam, let_in, app, const, ind, ctor, case, fix}
use Rattle.cic_terms.specs.Lift.{lift_tree, subst_tree}
use Rattle.cic_names.specs.declared.name.GlobalId.{GlobalId}
use Rattle.cic_names.specs.declared.level.Level.TheVariants.{Set}
use Rattle.cic_counted.specs.Sameness.{same_tree}
use Rattle.cic_rules.specs.Numbering.{plain_level}
use Rattle.cic_rules.specs.Environment.{Environment, Context, TypeDeclaration, ConstructorDeclaration, constant_type, inductive_type_of, whole_block, constructor_of, type_at, element, assumed, defined}
use Rattle.cic_rules.specs.Telescopes.{apply, head_of, domains_of, conclusion_of, extend, substitute_all, variables, lift_all, Function, function_types, function_type}
use Rattle.cic_counted.specs.Readings.{arguments_of, instantiate, functions_of}
use Rattle.cic_counted.specs.BlockTests.{is_shaped, index_count}
use Rattle.cic_counted.specs.GuardTest.{guard_fault}
use Rattle.cic_counted.specs.Outcome.{Counted, global, local, unbound, not_function, not_sort, not_inductive, bad_elimination, bad_branch_count, universe_form, unguarded, deep}
use Rattle.cic_counted.specs.Evaluation.{whnf_at, cumul_at}
use Rattle.cic_counted.specs.Inference.{Calls, Product, as_sort, as_product, expose, next_level, type_of_sort, product_sort, are_branches, is_prop, ends_in_prop, branch_goal, all_propositions, eliminates_constructors, eliminates, check_branches, infer_match, infer_case, sort_each, function_context, check_bodies, infer_fix, infer_step, check_step, sort_step, too_deep, calls_over, calls_at}
use Rattle.cic_soundness.proofs.counting.Compositional.{Compositional, holds_then, holds_if, holds_refuse, holds_fitting, holds_fitting_all, holds_or_refuse, holds_require, holds_refuse_for}
use Rattle.cic_soundness.proofs.counting.Evaluation.{holds_fitting_body, holds_cumul}

module _ {R : (A : Type 0) → Counted A → Counted A → Type 0} (h : Compositional R) where
  pub record HoldsOfCalls (calls calls' : Calls) : Type 0 where
    pub infer : (G : Context) (t : Tree) → R Tree (calls.infer G t) (calls'.infer G t)
    pub check : (G : Context) (t T : Tree) → R (Unit {0}) (calls.check G t T) (calls'.check G t T)
    pub sort_of : (G : Context) (t : Tree) → R TreeSort (calls.sort_of G t) (calls'.sort_of G t)

  holds_as_sort : (G : Context) (t : Tree) → R TreeSort (as_sort G t) (as_sort G t)
  holds_as_sort G (sort s) = h.give s
  holds_as_sort G t = holds_refuse h (not_sort (length G) t)

  holds_as_product : (G : Context) (t : Tree) → R Product (as_product G t) (as_product G t)
  holds_as_product G (prod a b) = h.give (record { domain = a; codomain = b })
  holds_as_product G t = holds_refuse h (not_function (length G) t)

  holds_type_of_sort : (s : TreeSort) → R Tree (type_of_sort s) (type_of_sort s)
  holds_type_of_sort prop = h.give (sort (next_level Set))
  holds_type_of_sort set = h.give (sort (next_level Set))
  holds_type_of_sort (typ e) = h.bind (holds_or_refuse h (plain_level e) (universe_form (typ e) (typ e))) (λ l. h.give (sort (next_level l)))
  holds_type_of_sort (own i) = holds_refuse h (universe_form (own i) (own i))

  holds_context : (before : ℕ) (G : Context) (ts : List Tree) → R Context (function_context before G ts) (function_context before G ts)
  holds_context before G [] = h.give G
  holds_context before G (t ∷ ts) = h.bind (holds_fitting h (lift_tree 0 before t)) (λ u. holds_context (before + 1) (assumed u ∷ G) ts)

  module _ (calls calls' : Calls) (c : HoldsOfCalls calls calls') where
    holds_all_propositions : (id : GlobalId) (G : Context) (as_ : List Tree) → R (Unit {0}) (all_propositions calls id G as_) (all_propositions calls' id G as_)
    holds_all_propositions id G [] = h.give tt
    holds_all_propositions id G (a ∷ as_) =
        h.bind (c.sort_of G a) (λ s. holds_then h (holds_require h (is_prop s) (bad_elimination id))
        (holds_all_propositions id (assumed a ∷ G) as_))

    holds_eliminates_constructors : (id : GlobalId) (r : ℕ) (cs : List ConstructorDeclaration) → R (Unit {0}) (eliminates_constructors calls id r cs) (eliminates_constructors calls' id r cs)
    holds_eliminates_constructors id r [] = h.give tt
    holds_eliminates_constructors id r (k ∷ []) = holds_all_propositions id (extend [] (take r (domains_of k.type))) (drop r (domains_of k.type))
    holds_eliminates_constructors id r _ = holds_refuse h (bad_elimination id)

    holds_eliminates : (id : GlobalId) (r : ℕ) (t : TypeDeclaration) (s : TreeSort) → R (Unit {0}) (eliminates calls id r t s) (eliminates calls' id r t s)
    holds_eliminates id r t s =
        holds_if h (not (ends_in_prop (conclusion_of t.arity)) || is_prop s) (h.give tt) (holds_eliminates_constructors id r t.constructors)

    holds_branches : (G : Context) (a : ℕ) (parameters : List Tree) (p : Tree) (cs : List ConstructorDeclaration) (ks : Children) → R (Unit {0}) (check_branches calls G a parameters p cs ks) (check_branches calls' G a parameters p cs ks)
    holds_branches G a parameters p (k ∷ cs) (child b t ks) =
        h.bind (holds_fitting_all h (domains_of (instantiate parameters k.type))) (λ as_.
        h.bind (holds_fitting h (branch_goal a parameters p k)) (λ goal.
        holds_then h (c.check (extend G as_) t goal) (holds_branches G a parameters p cs ks)))
    holds_branches G a parameters p _ _ = h.give tt

    holds_sort_each : (G : Context) (ts : List Tree) → R (Unit {0}) (sort_each calls G ts) (sort_each calls' G ts)
    holds_sort_each G [] = h.give tt
    holds_sort_each G (t ∷ ts) = holds_then h (c.sort_of G t) (holds_sort_each G ts)

    holds_check_bodies : (G : Context) (all : ℕ) (fs : List Function) → R (Unit {0}) (check_bodies calls G all fs) (check_bodies calls' G all fs)
    holds_check_bodies G all [] = h.give tt
    holds_check_bodies G all (f ∷ fs) =
        h.bind (holds_fitting_body h all f) (λ b. h.bind (holds_fitting h (lift_tree 0 all (function_type f))) (λ t.
        holds_then h (c.check G b t) (holds_check_bodies G all fs)))

    holds_infer_fix : (E : Environment) (G : Context) (which : ℕ) (shapes : List Shape) (parts : Children) → R Tree (infer_fix calls E G which shapes parts) (infer_fix calls' E G which shapes parts)
    holds_infer_fix E G which shapes parts =
        h.bind (holds_or_refuse h (functions_of shapes parts) (unguarded which 0)) (λ fs.
        h.bind (holds_or_refuse h (element fs which) (unguarded which 0)) (λ f.
        holds_then h (holds_sort_each G (function_types fs))
        (h.bind (holds_context 0 G (function_types fs)) (λ G'.
        holds_then h (holds_check_bodies G' (length fs) fs)
        (holds_then h (holds_refuse_for h (option_map (λ fault. unguarded fault.which fault.call) (guard_fault E fs)))
        (h.give (function_type f)))))))

    module _ (whnf whnf' : Tree → Counted Tree) (w : (t : Tree) → R Tree (whnf t) (whnf' t)) where
      holds_expose : (G : Context) (T : Tree) → R Tree (expose whnf calls G T) (expose whnf' calls' G T)
      holds_expose G T =
          h.bind (w T) (λ V. holds_if h (same_tree V T) (h.give V) (holds_then h (c.sort_of G V) (h.give V)))

      holds_infer_match : (G : Context) (id : GlobalId) (n : ℕ) (p v : Tree) (branches : Children) (r a : ℕ) (t : TypeDeclaration) → R Tree (infer_match whnf calls G id n p v branches r a t) (infer_match whnf' calls' G id n p v branches r a t)
      holds_infer_match G id n p v branches r a t =
          h.bind (c.infer G v) (λ T. h.bind (holds_expose G T) (λ C.
          holds_then h (holds_require h (same_tree (head_of C) (ind id) && nat_eq (length (arguments_of C)) (r + a)) (not_inductive (length G) C))
          (holds_then h (holds_require h (nat_eq n a && are_branches r t.constructors branches) (bad_branch_count id))
          (h.bind (holds_fitting_all h (domains_of (instantiate (take r (arguments_of C)) t.arity))) (λ indices.
          h.bind (holds_fitting_all h (lift_all a (take r (arguments_of C)))) (λ parameters.
          h.bind (c.sort_of (assumed (apply (ind id) (parameters ++ variables a)) ∷ extend G indices) p) (λ s.
          holds_then h (holds_eliminates id r t s)
          (holds_then h (holds_branches G a (take r (arguments_of C)) p t.constructors branches)
          (holds_fitting h (substitute_all (drop r (arguments_of C) ++ v ∷ []) p))))))))))

      holds_infer_case : (E : Environment) (G : Context) (id : GlobalId) (n : ℕ) (p v : Tree) (branches : Children) → R Tree (infer_case whnf calls E G id n p v branches) (infer_case whnf' calls' E G id n p v branches)
      holds_infer_case E G id n p v branches =
          h.bind (holds_or_refuse h (whole_block E id) (unbound (global id))) (λ place.
          holds_then h (holds_require h (is_shaped place.block) (unbound (global id)))
          (h.bind (holds_or_refuse h (element place.block.types place.index) (unbound (global id))) (λ t.
          holds_infer_match G id n p v branches place.block.parameters (index_count place.block.parameters t) t)))

    holds_infer : (whnf whnf' : Context → Tree → Counted Tree) → ((G : Context) (t : Tree) → R Tree (whnf G t) (whnf' G t)) → (E : Environment) (G : Context) (t : Tree) → R Tree (infer_step whnf calls E G t) (infer_step whnf' calls' E G t)
    holds_infer whnf whnf' w E G (rel x) = h.bind (holds_or_refuse h (type_at G x) (unbound (local x))) (λ a. holds_fitting h (lift_tree 0 (x + 1) a))
    holds_infer whnf whnf' w E G (sort s) = holds_type_of_sort s
    holds_infer whnf whnf' w E G (prod a b) =
        h.bind (c.sort_of G a) (λ s. h.bind (c.sort_of (assumed a ∷ G) b) (λ s'. h.bind (holds_or_refuse h (product_sort s s') (universe_form s s')) (λ r. h.give (sort r))))
    holds_infer whnf whnf' w E G (lam a t) =
        holds_then h (c.sort_of G a) (h.bind (c.infer (assumed a ∷ G) t) (λ b. h.give (prod a b)))
    holds_infer whnf whnf' w E G (let_in t a u) =
        holds_then h (c.sort_of G a) (holds_then h (c.check G t a)
        (h.bind (c.infer (defined t a ∷ G) u) (λ b. holds_fitting h (subst_tree 0 t b))))
    holds_infer whnf whnf' w E G (app f u) =
        h.bind (c.infer G f) (λ T. h.bind (holds_expose (whnf G) (whnf' G) (w G) G T) (λ V. h.bind (holds_as_product G V) (λ P.
        holds_then h (c.check G u P.domain) (holds_fitting h (subst_tree 0 u P.codomain)))))
    holds_infer whnf whnf' w E G (const k) = holds_or_refuse h (constant_type E k) (unbound (global k))
    holds_infer whnf whnf' w E G (ind k) = holds_or_refuse h (option_map (λ a. a.arity) (inductive_type_of E k)) (unbound (global k))
    holds_infer whnf whnf' w E G (ctor k) = holds_or_refuse h (option_map (λ k. k.type) (constructor_of E k)) (unbound (global k))
    holds_infer whnf whnf' w E G (case id n p v branches) = holds_infer_case (whnf G) (whnf' G) (w G) E G id n p v branches
    holds_infer whnf whnf' w E G (fix which shapes parts) = holds_infer_fix E G which shapes parts
    holds_infer whnf whnf' w E G t = holds_refuse h (not_function (length G) t)

    holds_check : (cumul cumul' : Context → Tree → Tree → Counted (Unit {0})) → ((G : Context) (t u : Tree) → R (Unit {0}) (cumul G t u) (cumul' G t u)) → (G : Context) (t T : Tree) → R (Unit {0}) (check_step cumul calls G t T) (check_step cumul' calls' G t T)
    holds_check cumul cumul' u G t T = h.bind (c.infer G t) (λ S. u G S T)

    holds_sort : (whnf whnf' : Context → Tree → Counted Tree) → ((G : Context) (t : Tree) → R Tree (whnf G t) (whnf' G t)) → (G : Context) (T : Tree) → R TreeSort (sort_step whnf calls G T) (sort_step whnf' calls' G T)
    holds_sort whnf whnf' w G T = h.bind (c.infer G T) (λ S. h.bind (w G S) (λ V. holds_as_sort G V))

    pub holds_calls_over : (whnf whnf' : Context → Tree → Counted Tree) → ((G : Context) (t : Tree) → R Tree (whnf G t) (whnf' G t)) → (cumul cumul' : Context → Tree → Tree → Counted (Unit {0})) → ((G : Context) (t u : Tree) → R (Unit {0}) (cumul G t u) (cumul' G t u)) → (E : Environment) → HoldsOfCalls (calls_over whnf cumul calls E) (calls_over whnf' cumul' calls' E)
    holds_calls_over whnf whnf' w cumul cumul' u E = record {
      infer = λ G t. h.bind h.tick (λ _. holds_infer whnf whnf' w E G t);
      check = λ G t T. h.bind h.tick (λ _. holds_check cumul cumul' u G t T);
      sort_of = λ G t. h.bind h.tick (λ _. holds_sort whnf whnf' w G t);
    }

  pub holds_too_deep : HoldsOfCalls too_deep too_deep
  holds_too_deep = record {
    infer = λ G t. h.stop deep;
    check = λ G t T. h.stop deep;
    sort_of = λ G t. h.stop deep;
  }

  pub holds_calls : ((k : ℕ) (E : Environment) (G : Context) (t : Tree) → R Tree (whnf_at k E G t) (whnf_at k E G t)) → (k : ℕ) (E : Environment) → HoldsOfCalls (calls_at k E) (calls_at k E)
  unfolding calls_at
  holds_calls of_whnf zero E = holds_too_deep
  holds_calls of_whnf (suc k) E =
      holds_calls_over (calls_at k E) (calls_at k E) (holds_calls of_whnf k E) (whnf_at k E) (whnf_at k E) (of_whnf k E) (cumul_at k E) (cumul_at k E) (holds_cumul h of_whnf k E) E
