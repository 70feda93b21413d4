-- Evaluation, conversion and subtyping answer the same over two environments that agree on a set of ids, where the
-- terms name ids of the set alone and so does what these ids stand for. It follows the text of each definition, and is
-- by induction on what is left of the depth. Inference over two such environments rests on it.
use Rattle.std.proofs.Common.{◌≡◌, ℕ, zero, suc, ◌+◌, Bool, true, false, if◌then◌else◌, ◌&&◌, nat_eq, Option, Some, None, List, ◌∷◌, length, drop, refl, ap}
use Rattle.std.specs.Prelude.{option_and_then}
use Rattle.cic_terms.specs.Tree.{Former, LetF, CaseF, FixF, over, Tree, rel, node, Children, child, sort, prod, lam, let_in, app, const, ctor, case, fix}
use Rattle.cic_terms.specs.Lift.{lift_tree, subst_tree}
use Rattle.cic_names.specs.declared.name.GlobalId.{GlobalId}
use Rattle.cic_names.specs.Sameness.{same_id}
use Rattle.cic_counted.specs.Sameness.{same_shapes, same_former, same_tree}
use Rattle.cic_rules.specs.Environment.{Environment, Context, meaning, transparent_body, transparent_body_in, Constructor, constructor_of, constructor_in, element, body_at, unknown, under_unknown}
use Rattle.cic_rules.specs.Telescopes.{apply, head_of, abstractions, substitute_all, lift_domains, BranchParts, branch_at, Function, function_types, unfolded}
use Rattle.cic_counted.specs.Readings.{arguments_of, functions_of}
use Rattle.cic_counted.specs.Outcome.{Counted, spent, deep, stop, give, tick}
use Rattle.cic_counted.specs.Evaluation.{Turn, answer, again, reduce, variable_turn, constant_turn, is_constructor, unfolded_at, unfolds, recursive_turn, fix_turn, application_turn, branch_result, selected, matched, match_turn, turn_of, goes_on, loop_of, whnf_at, differ, equal_sorts, sorts_at_most, same_places, convert_children, convert_each, fitting_body, convert_bodies, convert_functions, value_first, compare_nodes, compare, body_of, by_bodies, compare_heads, conv_at, below_or_equal, cumul_at}
use Rattle.cic_soundness.proofs.independence.Terms.{TreeIn, PartsIn, TreesIn, ContextIn, FunctionIn, FunctionsIn, under_unknown_in, body_at_in, naming}
use Rattle.cic_soundness.proofs.independence.Calls.{Any, Alike, alike_itself, alike_give, alike_stop, alike_bind, alike_then, alike_if, alike_within, alike_to, alike_fitting, alike_fitting_all, MeaningIn, transparent_in}
use Rattle.cic_soundness.proofs.independence.Formers.{lift_in, subst_in, apply_in, head_in, arguments_in, abstractions_in, substitute_all_in, lift_domains_in, branch_in, functions_in, unfolded_in, function_types_in}
use Rattle.cic_metatheory.proofs.basics.Elements.{IfThere, each_element, each_dropped}

within_if : {A : Type 0} (P : A → Type 0) (c : Bool) (o : Option A) → IfThere P o → IfThere P (if c then o else None)
within_if P true o h = h
within_if P false o h = tt

module _ (S : GlobalId → Type 0) where
  abbrev TurnIn : Turn → Type 0
  TurnIn (answer t) = TreeIn S t
  TurnIn (again t) = TreeIn S t

  alike_reduce : (t : Tree) → TreeIn S t → Alike TurnIn (reduce t) (reduce t)
  alike_reduce t h = alike_then (alike_itself tick) (alike_bind (alike_fitting S t h) (λ u k. alike_give TurnIn (again u) k))

  alike_variable : (o : Option Tree) (x : ℕ) → IfThere (TreeIn S) o → Alike TurnIn (variable_turn o x) (variable_turn o x)
  alike_variable None x h = alike_give TurnIn (answer (rel x)) tt
  alike_variable (Some b) x h = alike_reduce (lift_tree 0 (x + 1) b) (lift_in (naming S) 0 (x + 1) b h)

  alike_constant : (o : Option Tree) (c : GlobalId) → S c → IfThere (TreeIn S) o → Alike TurnIn (constant_turn o c) (constant_turn o c)
  alike_constant None c s h = alike_give TurnIn (answer (const c)) (s, tt)
  alike_constant (Some b) c s h = alike_then (alike_itself tick) (alike_give TurnIn (again b) h)

  alike_recursive : (f u v F : Tree) → TreeIn S f → TreeIn S u → TreeIn S v → TreeIn S F → Alike TurnIn (recursive_turn f u v F) (recursive_turn f u v F)
  alike_recursive f u v F hf hu hv hF =
      alike_if (is_constructor (head_of v))
      (alike_then (alike_itself tick) (alike_bind (alike_fitting S F hF) (λ F' k.
      alike_give TurnIn (again (app (apply F' (arguments_of f)) v)) (tt, (apply_in (naming S) F' (arguments_of f) k (arguments_in (naming S) f hf), (hv, tt))))))
      (alike_give TurnIn (answer (app f u)) (tt, (hf, (hu, tt))))

  alike_match : (stuck : Tree) (o : Option Tree) → TreeIn S stuck → IfThere (TreeIn S) o → Alike TurnIn (match_turn stuck o) (match_turn stuck o)
  alike_match stuck None h k = alike_give TurnIn (answer stuck) h
  alike_match stuck (Some t) h k = alike_reduce t k

  unfolded_at_in : (count : ℕ) (fs : List Function) (o : Option Function) → FunctionsIn S fs → IfThere (FunctionIn S) o → IfThere (TreeIn S) (unfolded_at count fs o)
  unfolded_at_in count fs None h k = tt
  unfolded_at_in count fs (Some f) h k = within_if (TreeIn S) (nat_eq count f.recursive_place) (Some (unfolded fs f)) (unfolded_in (naming S) fs f h k)

  unfolds_which_in : (count which : ℕ) (o : Option (List Function)) → IfThere (FunctionsIn S) o → IfThere (TreeIn S) (option_and_then (λ fs. unfolded_at count fs (element fs which)) o)
  unfolds_which_in count which None h = tt
  unfolds_which_in count which (Some fs) h = unfolded_at_in count fs (element fs which) h (each_element (FunctionIn S) fs which h)

  unfolds_in : (count : ℕ) (t : Tree) → TreeIn S t → IfThere (TreeIn S) (unfolds count t)
  unfolds_in count (fix which shapes parts) h = unfolds_which_in count which (functions_of shapes parts) (functions_in (naming S) shapes parts h.1)
  unfolds_in count t h = tt

  branch_result_in : (r : ℕ) (us : List Tree) (o : Option BranchParts) → TreesIn S us → IfThere (λ b. TreeIn S b.body) o → IfThere (TreeIn S) (branch_result r us o)
  branch_result_in r us None h k = tt
  branch_result_in r us (Some b) h k =
      within_if (TreeIn S) (nat_eq (length us) (r + b.binders)) (Some (substitute_all (drop r us) b.body))
      (substitute_all_in (naming S) (drop r us) b.body (each_dropped (TreeIn S) r us h) k)

  selected_in : (id : GlobalId) (branches : Children) (us : List Tree) (o : Option Constructor) → PartsIn S branches → TreesIn S us → IfThere (TreeIn S) (selected id branches us o)
  selected_in id branches us None h k = tt
  selected_in id branches us (Some c) h k =
      within_if (TreeIn S) (same_id c.owner id) (branch_result c.parameters us (branch_at branches c.place))
      (branch_result_in c.parameters us (branch_at branches c.place) k (branch_in (naming S) branches c.place h))

  matched_in : (E : Environment) (id : GlobalId) (branches : Children) (us : List Tree) (t : Tree) → PartsIn S branches → TreesIn S us → IfThere (TreeIn S) (matched E id branches us t)
  matched_in E id branches us (ctor c) h k = selected_in id branches us (constructor_of E c) h k
  matched_in E id branches us t h k = tt

  module _ (whnf whnf' : Tree → Counted Tree) (w : (t : Tree) → TreeIn S t → Alike (TreeIn S) (whnf t) (whnf' t)) where
    alike_fix : (f u : Tree) (o : Option Tree) → TreeIn S f → TreeIn S u → IfThere (TreeIn S) o → Alike TurnIn (fix_turn whnf f u o) (fix_turn whnf' f u o)
    alike_fix f u None h k l = alike_give TurnIn (answer (app f u)) (tt, (h, (k, tt)))
    alike_fix f u (Some F) h k l = alike_bind (w u k) (λ v hv. alike_recursive f u v F h k hv l)

    alike_application : (f u : Tree) → TreeIn S f → TreeIn S u → Alike TurnIn (application_turn whnf f u) (application_turn whnf' f u)
    alike_application (lam a b) u h k = alike_reduce (subst_tree 0 u b) (subst_in (naming S) 0 u b k h.1.1.0)
    alike_application f u h k =
        alike_fix f u (unfolds (length (arguments_of f)) (head_of f)) h k (unfolds_in (length (arguments_of f)) (head_of f) (head_in (naming S) f h))

  alike_goes_on : (on on' : Tree → Counted Tree) → ((t : Tree) → TreeIn S t → Alike (TreeIn S) (on t) (on' t)) → (turn : Turn) → TurnIn turn → Alike (TreeIn S) (goes_on on turn) (goes_on on' turn)
  alike_goes_on on on' p (answer t) h = alike_give (TreeIn S) t h
  alike_goes_on on on' p (again t) h = p t h

  pub alike_fitting_body : (all : ℕ) (f : Function) → FunctionIn S f → Alike (TreeIn S) (fitting_body all f) (fitting_body all f)
  alike_fitting_body all f h =
      alike_bind (alike_fitting_all S (lift_domains 0 all f.domains) (lift_domains_in (naming S) 0 all f.domains h.0)) (λ as_ k.
      alike_give (TreeIn S) (abstractions as_ f.body) (abstractions_in (naming S) as_ f.body k h.2))

  value_first_in : (ks : Children) → PartsIn S ks → PartsIn S (value_first ks)
  value_first_in (child b p (child c v branches)) h = (h.1.0, (h.0, h.1.1))
  value_first_in ks h = h

  body_in : (t : Tree) → TreeIn S t → IfThere (TreeIn S) (body_of t)
  body_in (lam a t) h = h.1.1.0
  body_in t h = tt

  module _ (conv conv' : Context → Tree → Tree → Counted (Unit {0})) (p : (G : Context) (t u : Tree) → ContextIn S G → TreeIn S t → TreeIn S u → Alike Any (conv G t u) (conv' G t u)) where
    alike_children : (G : Context) (ks ls : Children) → ContextIn S G → PartsIn S ks → PartsIn S ls → Alike Any (convert_children conv G ks ls) (convert_children conv' G ks ls)
    alike_children G (child b t ks) (child c u ls) g h k =
        alike_then (p (under_unknown (over b 0) G) t u (under_unknown_in S (over b 0) G g) h.0 k.0) (alike_children G ks ls g h.1 k.1)
    alike_children G _ _ g h k = alike_itself (give tt)

    alike_each : (G : Context) (ts us : List Tree) → ContextIn S G → TreesIn S ts → TreesIn S us → Alike Any (convert_each conv G ts us) (convert_each conv' G ts us)
    alike_each G (t ∷ ts) (u ∷ us) g h k = alike_then (p G t u g h.0 k.0) (alike_each G ts us g h.1 k.1)
    alike_each G _ _ g h k = alike_itself (give tt)

    alike_bodies : (G : Context) (all : ℕ) (fs gs : List Function) → ContextIn S G → FunctionsIn S fs → FunctionsIn S gs → Alike Any (convert_bodies conv G all fs gs) (convert_bodies conv' G all fs gs)
    alike_bodies G all (f ∷ fs) (f' ∷ gs) g h k =
        alike_bind (alike_fitting_body all f h.0) (λ t ht. alike_bind (alike_fitting_body all f' k.0) (λ u hu.
        alike_then (p G t u g ht hu) (alike_bodies G all fs gs g h.1 k.1)))
    alike_bodies G all _ _ g h k = alike_itself (give tt)

    alike_functions : (G : Context) (a b : Tree) (o o' : Option (List Function)) → ContextIn S G → IfThere (FunctionsIn S) o → IfThere (FunctionsIn S) o' → Alike Any (convert_functions conv G a b o o') (convert_functions conv' G a b o o')
    alike_functions G a b (Some fs) (Some gs) g h k =
        alike_then (alike_each G (function_types fs) (function_types gs) g (function_types_in (naming S) fs h) (function_types_in (naming S) gs k))
        (alike_bodies (under_unknown (length fs) G) (length fs) fs gs (under_unknown_in S (length fs) G g) h k)
    alike_functions G a b _ _ g h k = alike_itself (differ G a b)

    alike_nodes : (G : Context) (f f' : Former) (ks ls : Children) → ContextIn S G → PartsIn S ks → PartsIn S ls → Alike Any (compare_nodes conv G f f' ks ls) (compare_nodes conv' G f f' ks ls)
    alike_nodes G (CaseF c) (CaseF d) ks ls g h k =
        alike_if (same_id c d && same_places ks ls) (alike_children G (value_first ks) (value_first ls) g (value_first_in ks h) (value_first_in ls k))
        (alike_itself (differ G (node (CaseF c) ks) (node (CaseF d) ls)))
    alike_nodes G (FixF i s) (FixF j s') ks ls g h k =
        alike_if (nat_eq i j && same_shapes s s')
        (alike_functions G (node (FixF i s) ks) (node (FixF j s') ls) (functions_of s ks) (functions_of s' ls) g (functions_in (naming S) s ks h) (functions_in (naming S) s' ls k))
        (alike_itself (differ G (node (FixF i s) ks) (node (FixF j s') ls)))
    alike_nodes G LetF f' ks ls g h k = alike_itself (differ G (node LetF ks) (node f' ls))
    alike_nodes G f f' ks ls g h k =
        alike_if (same_former f f' && same_places ks ls) (alike_children G ks ls g h k) (alike_itself (differ G (node f ks) (node f' ls)))

    alike_compare : (G : Context) (a b : Tree) → ContextIn S G → TreeIn S a → TreeIn S b → Alike Any (compare conv G a b) (compare conv' G a b)
    alike_compare G (sort s) (sort s') g h k = alike_itself (equal_sorts G s s')
    alike_compare G (rel x) (rel y) g h k = alike_if (nat_eq x y) (alike_itself (give tt)) (alike_itself (differ G (rel x) (rel y)))
    alike_compare G (node f ks) (node f' ls) g h k = alike_nodes G f f' ks ls g h.1 k.1
    alike_compare G a b g h k = alike_itself (differ G a b)

    alike_by_bodies : (G : Context) (v w : Tree) (o o' : Option Tree) → ContextIn S G → TreeIn S v → TreeIn S w → IfThere (TreeIn S) o → IfThere (TreeIn S) o' → Alike Any (by_bodies conv G v w o o') (by_bodies conv' G v w o o')
    alike_by_bodies G v w (Some t) None g h k l l' =
        alike_bind (alike_fitting S (lift_tree 0 1 w) (lift_in (naming S) 0 1 w k)) (λ w' k'. p (unknown ∷ G) t (app w' (rel 0)) ((tt, tt), g) l (tt, (k', (tt, tt))))
    alike_by_bodies G v w None (Some t) g h k l l' =
        alike_bind (alike_fitting S (lift_tree 0 1 v) (lift_in (naming S) 0 1 v h)) (λ v' h'. p (unknown ∷ G) (app v' (rel 0)) t ((tt, tt), g) (tt, (h', (tt, tt))) l')
    alike_by_bodies G v w None None g h k l l' = alike_compare G v w g h k
    alike_by_bodies G v w (Some t) (Some t') g h k l l' = alike_compare G v w g h k

    alike_compare_heads : (G : Context) (v w : Tree) → ContextIn S G → TreeIn S v → TreeIn S w → Alike Any (compare_heads conv G v w) (compare_heads conv' G v w)
    alike_compare_heads G v w g h k = alike_by_bodies G v w (body_of v) (body_of w) g h k (body_in v h) (body_in w k)

  module _ (conv conv' cumul cumul' : Context → Tree → Tree → Counted (Unit {0})) (p : (G : Context) (t u : Tree) → ContextIn S G → TreeIn S t → TreeIn S u → Alike Any (conv G t u) (conv' G t u)) (q : (G : Context) (t u : Tree) → ContextIn S G → TreeIn S t → TreeIn S u → Alike Any (cumul G t u) (cumul' G t u)) where
    alike_below : (G : Context) (a b : Tree) → ContextIn S G → TreeIn S a → TreeIn S b → Alike Any (below_or_equal conv cumul G a b) (below_or_equal conv' cumul' G a b)
    alike_below G (prod a b) (prod c d) g h k =
        alike_then (p G a c g h.1.0 k.1.0) (q (unknown ∷ G) b d ((tt, tt), g) h.1.1.0 k.1.1.0)
    alike_below G (sort s) (sort s') g h k = alike_itself (sorts_at_most G s s')
    alike_below G a b g h k = alike_compare_heads conv conv' p G a b g h k

module _ (S : GlobalId → Type 0) (E E' : Environment) (e : (id : GlobalId) → S id → meaning E id ≡ meaning E' id) (saturated : (id : GlobalId) → S id → IfThere (MeaningIn S) (meaning E id)) where
  matched_same : (id : GlobalId) (branches : Children) (us : List Tree) (t : Tree) → TreeIn S t → matched E id branches us t ≡ matched E' id branches us t
  matched_same id branches us (ctor c) h = ap (λ m. selected id branches us (constructor_in m)) (e c h.0)
  matched_same id branches us t h = refl

  module _ (whnf whnf' : Tree → Counted Tree) (w : (t : Tree) → TreeIn S t → Alike (TreeIn S) (whnf t) (whnf' t)) where
    alike_turn : (G : Context) (t : Tree) → ContextIn S G → TreeIn S t → Alike (TurnIn S) (turn_of whnf E G t) (turn_of whnf' E' G t)
    alike_turn G (rel x) g h = alike_variable S (body_at G x) x (body_at_in S G x g)
    alike_turn G (const c) g h =
        alike_to (ap (λ m. constant_turn (transparent_body_in m) c) (e c h.0))
        (alike_constant S (transparent_body E c) c h.0 (transparent_in S (meaning E c) (saturated c h.0)))
    alike_turn G (let_in t a u) g h = alike_reduce S (subst_tree 0 t u) (subst_in (naming S) 0 t u h.1.0 h.1.1.1.0)
    alike_turn G (app f u) g h = alike_bind (w f h.1.0) (λ v k. alike_application S whnf whnf' w v u k h.1.1.0)
    alike_turn G (case id n p c branches) g h =
        alike_bind (w c h.1.1.0) (λ v k.
        alike_to (ap (match_turn (case id n p v branches)) (matched_same id branches (arguments_of v) (head_of v) (head_in (naming S) v k)))
        (alike_match S (case id n p v branches) (matched E id branches (arguments_of v) (head_of v)) (h.0, (h.1.0, (k, h.1.1.1)))
        (matched_in S E id branches (arguments_of v) (head_of v) h.1.1.1 (arguments_in (naming S) v k))))
    alike_turn G t g h = alike_give (TurnIn S) (answer t) h

    alike_loop : (n : ℕ) (G : Context) (t : Tree) → ContextIn S G → TreeIn S t → Alike (TreeIn S) (loop_of n whnf E G t) (loop_of n whnf' E' G t)
    alike_loop zero G t g h =
        alike_bind (alike_turn G t g h) (λ turn k. alike_goes_on S (λ _. stop spent) (λ _. stop spent) (λ u l. alike_stop (TreeIn S) spent) turn k)
    alike_loop (suc n) G t g h =
        alike_bind (alike_turn G t g h) (λ turn k. alike_goes_on S (loop_of n whnf E G) (loop_of n whnf' E' G) (λ u l. alike_loop n G u g l) turn k)

  pub alike_whnf : (k : ℕ) (G : Context) (t : Tree) → ContextIn S G → TreeIn S t → Alike (TreeIn S) (whnf_at k E G t) (whnf_at k E' G t)
  unfolding whnf_at
  alike_whnf zero G t g h = alike_stop (TreeIn S) deep
  alike_whnf (suc k) G t g h =
      alike_then (alike_itself tick) (alike_within (λ b. alike_loop (whnf_at k E G) (whnf_at k E' G) (λ u l. alike_whnf k G u g l) b.rest G t g h))

  alike_conv : (k : ℕ) (G : Context) (a b : Tree) → ContextIn S G → TreeIn S a → TreeIn S b → Alike Any (conv_at k E G a b) (conv_at k E' G a b)
  unfolding conv_at
  alike_conv zero G a b g h l = alike_stop Any deep
  alike_conv (suc k) G a b g h l =
      alike_then (alike_itself tick) (alike_if (same_tree a b) (alike_itself (give tt))
      (alike_bind (alike_whnf k G a g h) (λ v hv. alike_bind (alike_whnf k G b g l) (λ w hw.
      alike_compare_heads S (conv_at k E) (conv_at k E') (alike_conv k) G v w g hv hw))))

  pub alike_cumul : (k : ℕ) (G : Context) (a b : Tree) → ContextIn S G → TreeIn S a → TreeIn S b → Alike Any (cumul_at k E G a b) (cumul_at k E' G a b)
  unfolding cumul_at
  alike_cumul zero G a b g h l = alike_stop Any deep
  alike_cumul (suc k) G a b g h l =
      alike_then (alike_itself tick) (alike_if (same_tree a b) (alike_itself (give tt))
      (alike_bind (alike_whnf k G a g h) (λ v hv. alike_bind (alike_whnf k G b g l) (λ w hw.
      alike_below S (conv_at k E) (conv_at k E') (cumul_at k E) (cumul_at k E') (alike_conv k) (alike_cumul k) G v w g hv hw))))
