-- What inference, check and the sort of a type are done with stands in the relation, with its cost. By induction on
-- the depth, over evaluation and subtyping; the soundness of inference is proved by induction on the relation.
use Rattle.std.proofs.Common.{◌≡◌, ℕ, zero, suc, ◌+◌, ◌≤◌, max, Bool, true, false, not, ◌&&◌, ◌||◌, nat_eq, if◌then◌else◌, Option, Some, None, List, [], ◌∷◌, ◌++◌, length, take, drop, refl, sym, ap, ◌∙◌, arith, subst}
use Rattle.std.specs.Prelude.{option_map}
use Rattle.std.proofs.lemmas.Bool.{eqb-true, and_parts}
use Rattle.cic_terms.specs.Tree.{TreeSort, prop, set, typ, own, Shape, Tree, rel, Children, no_child, child, sort, prod, lam, let_in, app, const, ind, ctor, case, fix}
use Rattle.cic_terms.specs.Lift.{lift_tree}
use Rattle.cic_names.specs.declared.name.GlobalId.{GlobalId}
use Rattle.cic_counted.specs.Sameness.{same_tree}
use Rattle.cic_names.specs.declared.constraint.Constraint.{Constraint}
use Rattle.cic_rules.specs.Numbering.{plain_level}
use Rattle.cic_rules.specs.Environment.{Environment, Context, TypeInBlock, TypeDeclaration, ConstructorDeclaration, constant_type, inductive_type_of, whole_block, constructor_of, type_at, element, assumed, defined}
use Rattle.cic_rules.specs.Telescopes.{apply, head_of, domains_of, conclusion_of, extend, substitute_all, variables, lift_all, Function, function_types, function_type, full_body}
use Rattle.cic_counted.specs.Readings.{arguments_of, instantiate, functions_of}
use Rattle.cic_counted.specs.Outcome.{universe_form, or_refuse, ◌>>=◌, Budget, done, Counted, Cause, unguarded, not_inductive, bad_branch_count, follow, ◌>>◌, give, tick, is_small, fitting, fitting_all, require, refuse_for}
use Rattle.cic_counted.specs.BlockTests.{is_shaped, index_count}
use Rattle.cic_counted.specs.GuardTest.{Unguarded, guard_fault}
use Rattle.cic_counted.specs.Evaluation.{whnf_at, cumul_at, fitting_body}
use Rattle.cic_counted.specs.Inference.{product_sort, Calls, Product, as_sort, as_product, expose, type_of_sort, are_branches, is_prop, ends_in_prop, branch_goal, all_propositions, eliminates_constructors, eliminates, check_branches, infer_match, infer_case, sort_each, function_context, check_bodies, infer_fix, infer_step, check_step, sort_step, calls_at}
use Rattle.cic_rules.specs.Typing.{function_entries}
use Rattle.cic_counted.specs.calls.Done.{Cost, free, ◌then◌, called, Took, AllSmall, Evaluates, Cumulates}
use Rattle.cic_counted.specs.calls.DoneTyping.{SmallEntries, Infers, infers, Checks, checks, SortOf, sorts_of, Exposes, exposes_itself, exposes_another, HasInferred, infers_variable, infers_prop, infers_set, infers_universe, infers_product, infers_abstraction, infers_let, infers_application, infers_constant, infers_type, infers_constructor, infers_match, infers_fix, Eliminates, eliminates_freely, eliminates_nothing, eliminates_propositions, AllPropositions, no_more, proposition, ChecksBranches, no_branch_left, checks_branch, SortsEach, sorts_none, sorts_one_more, ChecksBodies, no_body_left, checks_body}
use Rattle.cic_counted.proofs.Taken.{took_free, took_then, follow_done, done_value, done_rest, fitting_done, max_le, whnf_done}
use Rattle.cic_counted.proofs.TakenConversion.{At, at_free, fitting_all_done, body_done, cumul_done}

or_refuse_done : {A : Type 0} (o : Option A) (cause : Cause) (v : A) (b b' : Budget) → or_refuse o cause b ≡ done v b' → (o ≡ Some v) × (b ≡ b')
or_refuse_done None cause v b b' e = absurd (grind arith)
or_refuse_done (Some a) cause v b b' e = (ap Some (done_value e), done_rest e)

require_done : (test : Bool) (cause : Cause) (u : Unit {0}) (b b' : Budget) → require test cause b ≡ done u b' → (test ≡ true) × (b ≡ b')
require_done true cause u b b' e = (refl, done_rest e)
require_done false cause u b b' e = absurd (grind arith)

-- An answer, and one that a lift or a substitution made.
given : {k : ℕ} {b b1 b' : Budget} {T V : Tree} {c : Cost} (R : Tree → Cost → Type 0) → R V c → c.depth ≤ k → Took c b b1 → done V b1 ≡ done T b' → At k (R T) b b'
given {b = b} {T = T} {V = V} {c = c} R h d took e = (c, subst (λ z. R z c) (done_value e) h, d, subst (λ z. Took c b z) (done_rest e) took)

fitted : {k : ℕ} {b b1 b' : Budget} {T V : Tree} {c : Cost} (R : Tree → Cost → Type 0) → (is_small V ≡ true → R V c) → c.depth ≤ k → Took c b b1 → fitting V b1 ≡ done T b' → At k (R T) b b'
fitted {b = b} {b1 = b1} {b' = b'} {T = T} {V = V} {c = c} R h d took e =
    let p = fitting_done V T b1 b' e in
    (c, subst (λ z. R z c) p.1 (h p.0), d, subst (λ z. Took c b z) p.2 took)

moved : {c : Cost} {b b1 b' : Budget} → b1 ≡ b' → Took c b b1 → Took c b b'
moved {c} {b} e took = subst (λ z. Took c b z) e took

moved_back : {c : Cost} {b b1 b' : Budget} → b ≡ b1 → Took c b1 b' → Took c b b'
moved_back {c} {b} {b1} {b'} e took = subst (λ z. Took c z b') (sym e) took

as_product_done : (G : Context) (V : Tree) (P : Product) (b b' : Budget) → as_product G V b ≡ done P b' → (V ≡ prod P.domain P.codomain) × (b ≡ b')
as_product_done G (prod x y) P b b' e = (ap (λ p. prod p.domain p.codomain) (done_value e), done_rest e)
as_product_done G V P b b' e = absurd (grind arith)

as_sort_done : (G : Context) (V : Tree) (s : TreeSort) (b b' : Budget) → as_sort G V b ≡ done s b' → (V ≡ sort s) × (b ≡ b')
as_sort_done G (sort r) s b b' e = (ap sort (done_value e), done_rest e)
as_sort_done G V s b b' e = absurd (grind arith)

context_done : (before : ℕ) (G : Context) (ts : List Tree) (D : Context) (b b' : Budget) → function_context before G ts b ≡ done D b' → SmallEntries before ts × (function_entries before G ts ≡ D) × (b ≡ b')
context_done before G [] D b b' e = (tt, done_value e, done_rest e)
context_done before G (t ∷ ts) D b b' e =
    let i = follow_done (fitting (lift_tree 0 before t) b) (λ u. function_context (before + 1) (assumed u ∷ G) ts) D b' e in
    let p = fitting_done (lift_tree 0 before t) i.0 b i.1 i.2 in
    let r = context_done (before + 1) (assumed i.0 ∷ G) ts D i.1 b' i.3 in
    ((p.0, r.0), ap (λ z. function_entries (before + 1) (assumed z ∷ G) ts) p.1 ∙ r.1, p.2 ∙ r.2)

option_map_some : {A B : Type 0} (f : A → B) (o : Option A) (v : B) → option_map f o ≡ Some v → (a : A) × (o ≡ Some a) × (v ≡ f a)
option_map_some f None v e = absurd (grind arith)
option_map_some {B = B} f (Some a) v e = (a, refl, inj e)
  where
    inj : {x y : B} → ◌≡◌ {A = Option B} (Some x) (Some y) → y ≡ x
    inj e = cc

none_refused : (o : Option Unguarded) (f : Unguarded → Cause) (u : Unit {0}) (b b' : Budget) → refuse_for (option_map f o) b ≡ done u b' → (o ≡ None) × (b ≡ b')
none_refused None f u b b' e = (refl, done_rest e)
none_refused (Some fault) f u b b' e = absurd (grind arith)

module _ (E : Environment) (k : ℕ) (calls : Calls)
    (infer_calls : (G : Context) (t T : Tree) (b b' : Budget) → calls.infer G t b ≡ done T b' → At k (Infers E G t T) b b')
    (check_calls : (G : Context) (t T : Tree) (u : Unit {0}) (b b' : Budget) → calls.check G t T b ≡ done u b' → At k (Checks E G t T) b b')
    (sort_calls : (G : Context) (t : Tree) (s : TreeSort) (b b' : Budget) → calls.sort_of G t b ≡ done s b' → At k (SortOf E G t s) b b') where
  exposes_done : (G : Context) (T V : Tree) (b b' : Budget) → expose (whnf_at k E G) calls G T b ≡ done V b' → At k (Exposes E G T V) b b'
  exposes_done G T V b b' e =
      let i = follow_done (whnf_at k E G T b) _ V b' e in
      let p = whnf_done E G k T i.0 b i.1 i.2 in
      cases i.0 i.1 p.0 p.1 p.2 p.3 (same_tree i.0 T) refl i.3
    where
      cases : (W : Tree) (b1 : Budget) (c : Cost) → Evaluates E G T W c → c.depth ≤ k → Took c b b1 → (test : Bool) → same_tree W T ≡ test → (if test then give W else (calls.sort_of G W >> give W)) b1 ≡ done V b' → At k (Exposes E G T V) b b'
      cases W b1 c h d took true q e = given (Exposes E G T) (exposes_itself h q) d took e
      cases W b1 c h d took false q e =
          let j = follow_done (calls.sort_of G W b1) _ V b' e in
          let p = sort_calls G W j.0 b1 j.1 j.2 in
          given (Exposes E G T) (exposes_another h q p.1 refl) (max_le _ _ k d p.2) (took_then took p.3) j.3

  each_sorted : (G : Context) (ts : List Tree) (u : Unit {0}) (b b' : Budget) → sort_each calls G ts b ≡ done u b' → At k (SortsEach E G ts) b b'
  each_sorted G [] u b b' e = at_free sorts_none e
  each_sorted G (t ∷ ts) u b b' e =
      let i = follow_done (calls.sort_of G t b) _ u b' e in
      let p = sort_calls G t i.0 b i.1 i.2 in
      let r = each_sorted G ts u i.1 b' i.3 in
      (p.0 then r.0, sorts_one_more p.1 r.1 refl, max_le _ _ k p.2 r.2, took_then p.3 r.3)

  bodies_checked : (G : Context) (all : ℕ) (fs : List Function) (u : Unit {0}) (b b' : Budget) → check_bodies calls G all fs b ≡ done u b' → At k (ChecksBodies E G all fs) b b'
  bodies_checked G all [] u b b' e = at_free no_body_left e
  bodies_checked G all (f ∷ fs) u b b' e =
      let i = follow_done (fitting_body all f b) _ u b' e in
      let p = body_done all f i.0 b i.1 i.2 in
      let j = follow_done (fitting (lift_tree 0 all (function_type f)) i.1) _ u b' i.3 in
      let q = fitting_done (lift_tree 0 all (function_type f)) j.0 i.1 j.1 j.2 in
      let l = follow_done (calls.check G i.0 j.0 j.1) _ u b' j.3 in
      let c = check_calls G i.0 j.0 l.0 j.1 l.1 l.2 in
      let r = bodies_checked G all fs u l.1 b' l.3 in
      let call : Checks E G (full_body all f) (lift_tree 0 all (function_type f)) c.0 =
      subst (λ z. Checks E G z (lift_tree 0 all (function_type f)) c.0) (sym p.1) (subst (λ z. Checks E G i.0 z c.0) (sym q.1) c.1) in
      (c.0 then r.0, checks_body p.0 q.0 call r.1 refl, max_le _ _ k c.2 r.2, took_then (moved_back (p.2 ∙ q.2) c.3) r.3)

  propositions_done : (id : GlobalId) (G : Context) (as_ : List Tree) (u : Unit {0}) (b b' : Budget) → all_propositions calls id G as_ b ≡ done u b' → At k (AllPropositions E G as_) b b'
  propositions_done id G [] u b b' e = at_free no_more e
  propositions_done id G (a ∷ as_) u b b' e =
      let i = follow_done (calls.sort_of G a b) _ u b' e in
      let p = sort_calls G a i.0 b i.1 i.2 in
      let j = follow_done (require (is_prop i.0) _ i.1) _ u b' i.3 in
      let q = require_done (is_prop i.0) _ j.0 i.1 j.1 j.2 in
      let r = propositions_done id (assumed a ∷ G) as_ u j.1 b' j.3 in
      (p.0 then r.0, proposition p.1 q.0 r.1 refl, max_le _ _ k p.2 r.2, took_then (moved q.1 p.3) r.3)

  eliminates_done : (id : GlobalId) (r : ℕ) (t : TypeDeclaration) (s : TreeSort) (u : Unit {0}) (b b' : Budget) → eliminates calls id r t s b ≡ done u b' → At k (Eliminates E r t s) b b'
  eliminates_done id r t s u b b' e = cases _ refl t.constructors refl e
    where
      cases : (test : Bool) → (not (ends_in_prop (conclusion_of t.arity)) || is_prop s) ≡ test → (cs : List ConstructorDeclaration) → t.constructors ≡ cs → (if test then give tt else eliminates_constructors calls id r cs) b ≡ done u b' → At k (Eliminates E r t s) b b'
      cases true q cs l e = at_free (eliminates_freely q) e
      cases false q [] l e = at_free (eliminates_nothing q l) e
      cases false q (c ∷ []) l e =
          let p = propositions_done id (extend [] (take r (domains_of c.type))) (drop r (domains_of c.type)) u b b' e in
          (p.0, eliminates_propositions c q l p.1, p.2, p.3)
      cases false q (c ∷ d ∷ cs) l e = absurd (grind arith)

  branches_done : (G : Context) (r a : ℕ) (parameters : List Tree) (p : Tree) (cs : List ConstructorDeclaration) (ks : Children) (u : Unit {0}) (b b' : Budget) → are_branches r cs ks ≡ true → check_branches calls G a parameters p cs ks b ≡ done u b' → At k (ChecksBranches E G a parameters p cs ks) b b'
  branches_done G r a ps p [] no_child u b b' l e = at_free no_branch_left e
  branches_done G r a ps p (c ∷ cs) (child x t ks) u b b' l e =
      let i = follow_done (fitting_all (domains_of (instantiate ps c.type)) b) _ u b' e in
      let f = fitting_all_done (domains_of (instantiate ps c.type)) i.0 b i.1 i.2 in
      let j = follow_done (fitting (branch_goal a ps p c) i.1) _ u b' i.3 in
      let g = fitting_done (branch_goal a ps p c) j.0 i.1 j.1 j.2 in
      let h = follow_done (calls.check (extend G i.0) t j.0 j.1) _ u b' j.3 in
      let call = check_calls (extend G i.0) t j.0 h.0 j.1 h.1 h.2 in
      let rest = branches_done G r a ps p cs ks u h.1 b' (and_parts _ (are_branches r cs ks) l).1 h.3 in
      let checked : Checks E (extend G (domains_of (instantiate ps c.type))) t (branch_goal a ps p c) call.0 =
      subst (λ z. Checks E (extend G z) t (branch_goal a ps p c) call.0) (sym f.1) (subst (λ z. Checks E (extend G i.0) t z call.0) (sym g.1) call.1) in
      (call.0 then rest.0, checks_branch f.0 g.0 checked rest.1 refl, max_le _ _ k call.2 rest.2, took_then (moved_back (f.2 ∙ g.2) call.3) rest.3)
  branches_done G r a ps p [] (child x t ks) u b b' l e = absurd (grind arith)
  branches_done G r a ps p (c ∷ cs) no_child u b b' l e = absurd (grind arith)

  product_given : (G : Context) (x y T : Tree) (s s' : TreeSort) {c d : Cost} {b between b' : Budget} (o : Option TreeSort) → product_sort s s' ≡ o → SortOf E G x s c → SortOf E (assumed x ∷ G) y s' d → (c then d).depth ≤ k → Took (c then d) b between →
      (or_refuse o (universe_form s s') >>= (λ r. give (sort r))) between ≡ done T b' → At k (HasInferred E G (prod x y) T) b b'
  product_given G x y T s s' (Some r) q p p' l taken e = given (HasInferred E G (prod x y)) (infers_product p p' q refl refl) l taken e
  product_given G x y T s s' None q p p' l taken e = absurd (grind arith)

  sort_inferred : (G : Context) (s : TreeSort) (T : Tree) (b b' : Budget) → type_of_sort s b ≡ done T b' → At k (HasInferred E G (sort s) T) b b'
  sort_inferred G prop T b b' e = given (HasInferred E G (sort prop)) (infers_prop refl) (omega arith) (took_free b) e
  sort_inferred G set T b b' e = given (HasInferred E G (sort set)) (infers_set refl) (omega arith) (took_free b) e
  sort_inferred G (typ a) T b b' e =
      let i = follow_done (or_refuse (plain_level a) _ b) _ T b' e in
      let p = or_refuse_done (plain_level a) _ i.0 b i.1 i.2 in
      given (HasInferred E G (sort (typ a))) (infers_universe p.0 refl) (omega arith) (moved p.1 (took_free b)) i.3
  sort_inferred G (own i) T b b' e = absurd (grind arith)

  -- A match, from the test of elimination on; from its motive on; and whole. What is left to show is
  -- handed on as `h`.
  from_elimination : (G : Context) (id : GlobalId) (r a : ℕ) (t : TypeDeclaration) (ps : List Tree) (p V T : Tree) (branches : Children) (s : TreeSort) (R : Tree → Cost → Type 0) (c : Cost) (b b1 b' : Budget) →
      ((f g : Cost) → Eliminates E r t s f → ChecksBranches E G a ps p t.constructors branches g → is_small V ≡ true → R V (c then f then g)) →
      c.depth ≤ k → Took c b b1 → are_branches r t.constructors branches ≡ true →
      (eliminates calls id r t s >> (check_branches calls G a ps p t.constructors branches >> fitting V)) b1 ≡ done T b' → At k (R T) b b'
  from_elimination G id r a t ps p V T branches s R c b b1 b' h d took as_declared e =
      let i = follow_done (eliminates calls id r t s b1) _ T b' e in
      let q = eliminates_done id r t s i.0 b1 i.1 i.2 in
      let j = follow_done (check_branches calls G a ps p t.constructors branches i.1) _ T b' i.3 in
      let q' = branches_done G r a ps p t.constructors branches j.0 i.1 j.1 as_declared j.2 in
      fitted R (λ small. h q.0 q'.0 q.1 q'.1 small) (max_le _ _ k (max_le _ _ k d q.2) q'.2) (took_then (took_then took q.3) q'.3) j.3

  from_motive : (G : Context) (id : GlobalId) (r a : ℕ) (t : TypeDeclaration) (ps domains lifted : List Tree) (p V T : Tree) (branches : Children) (R : Tree → Cost → Type 0) (c : Cost) (b b1 b' : Budget) →
      ((s : TreeSort) (e f g : Cost) → AllSmall domains → AllSmall lifted → SortOf E (assumed (apply (ind id) (lifted ++ variables a)) ∷ extend G domains) p s e → Eliminates E r t s f → ChecksBranches E G a ps p t.constructors branches g → is_small V ≡ true → R V (c then e then f then g)) →
      c.depth ≤ k → Took c b b1 → are_branches r t.constructors branches ≡ true →
      (fitting_all domains >>= (λ ds. fitting_all lifted >>= (λ ls. calls.sort_of (assumed (apply (ind id) (ls ++ variables a)) ∷ extend G ds) p >>= (λ s. eliminates calls id r t s >> (check_branches calls G a ps p t.constructors branches >> fitting V))))) b1 ≡ done T b' → At k (R T) b b'
  from_motive G id r a t ps domains lifted p V T branches R c b b1 b' h d took as_declared e =
      let i = follow_done (fitting_all domains b1) _ T b' e in
      let q = fitting_all_done domains i.0 b1 i.1 i.2 in
      let j = follow_done (fitting_all lifted i.1) _ T b' i.3 in
      let q' = fitting_all_done lifted j.0 i.1 j.1 j.2 in
      at_sort i.0 j.0 b1 j.1 q.0 q'.0 q.1 q'.1 (q.2 ∙ q'.2) d took j.3
    where
      at_sort : (ds ls : List Tree) (b1 b2 : Budget) → AllSmall domains → AllSmall lifted → domains ≡ ds → lifted ≡ ls → b1 ≡ b2 → c.depth ≤ k → Took c b b1 →
          (calls.sort_of (assumed (apply (ind id) (ls ++ variables a)) ∷ extend G ds) p >>= (λ s. eliminates calls id r t s >> (check_branches calls G a ps p t.constructors branches >> fitting V))) b2 ≡ done T b' → At k (R T) b b'
      at_sort ds ls b1 b2 small small' q q' same d took e =
          let i = follow_done (calls.sort_of (assumed (apply (ind id) (ls ++ variables a)) ∷ extend G ds) p b2) _ T b' e in
          let m = sort_calls (assumed (apply (ind id) (ls ++ variables a)) ∷ extend G ds) p i.0 b2 i.1 i.2 in
          let motive : SortOf E (assumed (apply (ind id) (lifted ++ variables a)) ∷ extend G domains) p i.0 m.0 =
          subst (λ z. SortOf E (assumed (apply (ind id) (z ++ variables a)) ∷ extend G domains) p i.0 m.0) (sym q')
          (subst (λ z. SortOf E (assumed (apply (ind id) (ls ++ variables a)) ∷ extend G z) p i.0 m.0) (sym q) m.1) in
          from_elimination G id r a t ps p V T branches i.0 R (c then m.0) b i.1 b' (λ f g. h i.0 m.0 f g small small' motive) (max_le _ _ k d m.2) (took_then took (moved_back same m.3)) as_declared i.3

  from_value : (G : Context) (id : GlobalId) (n : ℕ) (p v F V T : Tree) (branches : Children) (place : TypeInBlock) (t : TypeDeclaration) (r a : ℕ) (c d : Cost) (b b1 b' : Budget) → whole_block E id ≡ Some place → is_shaped place.block ≡ true → element place.block.types place.index ≡ Some t → r ≡ place.block.parameters → a ≡ index_count r t →
      Infers E G v F c → Exposes E G F V d → max c.depth d.depth ≤ k → Took (c then d) b b1 →
      (require (same_tree (head_of V) (ind id) && nat_eq (length (arguments_of V)) (r + a)) (not_inductive (length G) V) >> (require (nat_eq n a && are_branches r t.constructors branches) (bad_branch_count id) >>
      (fitting_all (domains_of (instantiate (take r (arguments_of V)) t.arity)) >>= (λ ds. fitting_all (lift_all a (take r (arguments_of V))) >>= (λ ls. calls.sort_of (assumed (apply (ind id) (ls ++ variables a)) ∷ extend G ds) p >>= (λ s. eliminates calls id r t s >> (check_branches calls G a (take r (arguments_of V)) p t.constructors branches >> fitting (substitute_all (drop r (arguments_of V) ++ v ∷ []) p)))))))) b1 ≡ done T b' →
      At k (HasInferred E G (case id n p v branches) T) b b'
  from_value G id n p v F V T branches place t r a c d b b1 b' found shaped is_type is_r is_a inf exp nesting took e =
      let i = follow_done (require (same_tree (head_of V) (ind id) && nat_eq (length (arguments_of V)) (r + a)) _ b1) _ T b' e in
      let q = require_done (same_tree (head_of V) (ind id) && nat_eq (length (arguments_of V)) (r + a)) _ i.0 b1 i.1 i.2 in
      let h = and_parts (same_tree (head_of V) (ind id)) (nat_eq (length (arguments_of V)) (r + a)) q.0 in
      let j = follow_done (require (nat_eq n a && are_branches r t.constructors branches) _ i.1) _ T b' i.3 in
      let q' = require_done (nat_eq n a && are_branches r t.constructors branches) _ j.0 i.1 j.1 j.2 in
      let h' = and_parts (nat_eq n a) (are_branches r t.constructors branches) q'.0 in
      from_motive G id r a t (take r (arguments_of V)) (domains_of (instantiate (take r (arguments_of V)) t.arity)) (lift_all a (take r (arguments_of V))) p
      (substitute_all (drop r (arguments_of V) ++ v ∷ []) p) T branches (HasInferred E G (case id n p v branches)) (c then d) b j.1 b'
      (λ s e f g small small' motive el br fits. infers_match r a (take r (arguments_of V)) found shaped is_type is_r is_a inf exp h.0 (eqb-true (length (arguments_of V)) (r + a) h.1) refl (eqb-true n a h'.0) h'.1 small small' motive el br refl fits refl)
      nesting (moved (q.1 ∙ q'.1) took) h'.1 j.3

  match_inferred : (G : Context) (id : GlobalId) (n : ℕ) (p v T : Tree) (branches : Children) (place : TypeInBlock) (t : TypeDeclaration) (b b' : Budget) → whole_block E id ≡ Some place → is_shaped place.block ≡ true → element place.block.types place.index ≡ Some t →
      infer_match (whnf_at k E G) calls G id n p v branches place.block.parameters (index_count place.block.parameters t) t b ≡ done T b' → At k (HasInferred E G (case id n p v branches) T) b b'
  match_inferred G id n p v T branches place t b b' found shaped is_type e =
      let i = follow_done (calls.infer G v b) _ T b' e in
      let q = infer_calls G v i.0 b i.1 i.2 in
      let j = follow_done (expose (whnf_at k E G) calls G i.0 i.1) _ T b' i.3 in
      let q' = exposes_done G i.0 j.0 i.1 j.1 j.2 in
      from_value G id n p v i.0 j.0 T branches place t place.block.parameters (index_count place.block.parameters t) q.0 q'.0 b j.1 b' found shaped is_type refl refl q.1 q'.1 (max_le _ _ k q.2 q'.2) (took_then q.3 q'.3) j.3

  case_inferred : (G : Context) (id : GlobalId) (n : ℕ) (p v T : Tree) (branches : Children) (b b' : Budget) → infer_case (whnf_at k E G) calls E G id n p v branches b ≡ done T b' → At k (HasInferred E G (case id n p v branches) T) b b'
  case_inferred G id n p v T branches b b' e =
      let i1 = follow_done (or_refuse (whole_block E id) _ b) _ T b' e in
      let q1 = or_refuse_done (whole_block E id) _ i1.0 b i1.1 i1.2 in
      let i2 = follow_done (require (is_shaped i1.0.block) _ i1.1) _ T b' i1.3 in
      let q2 = require_done (is_shaped i1.0.block) _ i2.0 i1.1 i2.1 i2.2 in
      let i3 = follow_done (or_refuse (element i1.0.block.types i1.0.index) _ i2.1) _ T b' i2.3 in
      let q3 = or_refuse_done (element i1.0.block.types i1.0.index) _ i3.0 i2.1 i3.1 i3.2 in
      let r = match_inferred G id n p v T branches i1.0 i3.0 i3.1 b' q1.0 q2.0 q3.0 i3.3 in
      (r.0, r.1, r.2, moved_back (q1.1 ∙ q2.1 ∙ q3.1) r.3)

  fix_inferred : (G : Context) (which : ℕ) (shapes : List Shape) (parts : Children) (T : Tree) (b b' : Budget) → infer_fix calls E G which shapes parts b ≡ done T b' → At k (HasInferred E G (fix which shapes parts) T) b b'
  fix_inferred G which shapes parts T b b' e =
      let i1 = follow_done (or_refuse (functions_of shapes parts) _ b) _ T b' e in
      let q1 = or_refuse_done (functions_of shapes parts) _ i1.0 b i1.1 i1.2 in
      let fs = i1.0 in
      let i2 = follow_done (or_refuse (element fs which) _ i1.1) _ T b' i1.3 in
      let q2 = or_refuse_done (element fs which) _ i2.0 i1.1 i2.1 i2.2 in
      let i3 = follow_done (sort_each calls G (function_types fs) i2.1) _ T b' i2.3 in
      let c3 = each_sorted G (function_types fs) i3.0 i2.1 i3.1 i3.2 in
      let i4 = follow_done (function_context 0 G (function_types fs) i3.1) _ T b' i3.3 in
      let q4 = context_done 0 G (function_types fs) i4.0 i3.1 i4.1 i4.2 in
      let i5 = follow_done (check_bodies calls i4.0 (length fs) fs i4.1) _ T b' i4.3 in
      let c5 = bodies_checked i4.0 (length fs) fs i5.0 i4.1 i5.1 i5.2 in
      let i6 = follow_done (refuse_for (option_map (λ fault. unguarded fault.which fault.call) (guard_fault E fs)) i5.1) _ T b' i5.3 in
      let q6 = none_refused (guard_fault E fs) (λ fault. unguarded fault.which fault.call) i6.0 i5.1 i6.1 i6.2 in
      let bodies : ChecksBodies E (function_entries 0 G (function_types fs)) (length fs) fs c5.0 = subst (λ z. ChecksBodies E z (length fs) fs c5.0) (sym q4.1) c5.1 in
      given (HasInferred E G (fix which shapes parts)) (infers_fix fs q1.0 q2.0 c3.1 q4.0 bodies q6.0 refl refl) (max_le _ _ k c3.2 c5.2)
      (moved q6.1 (took_then (moved_back (q1.1 ∙ q2.1) c3.3) (moved_back q4.2 c5.3))) i6.3

  inferred : (G : Context) (t T : Tree) (b b' : Budget) → infer_step (whnf_at k E) calls E G t b ≡ done T b' → At k (HasInferred E G t T) b b'
  inferred G (rel x) T b b' e =
      let i = follow_done (or_refuse (type_at G x) _ b) _ T b' e in
      let p = or_refuse_done (type_at G x) _ i.0 b i.1 i.2 in
      fitted (HasInferred E G (rel x)) (λ small. infers_variable p.0 refl small) (omega arith) (moved p.1 (took_free b)) i.3
  inferred G (sort s) T b b' e = sort_inferred G s T b b' e
  inferred G (prod x y) T b b' e =
      let i = follow_done (calls.sort_of G x b) _ T b' e in
      let p = sort_calls G x i.0 b i.1 i.2 in
      let j = follow_done (calls.sort_of (assumed x ∷ G) y i.1) _ T b' i.3 in
      let q = sort_calls (assumed x ∷ G) y j.0 i.1 j.1 j.2 in
      product_given G x y T i.0 j.0 (product_sort i.0 j.0) refl p.1 q.1 (max_le _ _ k p.2 q.2) (took_then p.3 q.3) j.3
  inferred G (lam x t) T b b' e =
      let i = follow_done (calls.sort_of G x b) _ T b' e in
      let p = sort_calls G x i.0 b i.1 i.2 in
      let j = follow_done (calls.infer (assumed x ∷ G) t i.1) _ T b' i.3 in
      let q = infer_calls (assumed x ∷ G) t j.0 i.1 j.1 j.2 in
      given (HasInferred E G (lam x t)) (infers_abstraction p.1 q.1 refl refl) (max_le _ _ k p.2 q.2) (took_then p.3 q.3) j.3
  inferred G (let_in t x u) T b b' e =
      let i = follow_done (calls.sort_of G x b) _ T b' e in
      let p = sort_calls G x i.0 b i.1 i.2 in
      let j = follow_done (calls.check G t x i.1) _ T b' i.3 in
      let q = check_calls G t x j.0 i.1 j.1 j.2 in
      let l = follow_done (calls.infer (defined t x ∷ G) u j.1) _ T b' j.3 in
      let r = infer_calls (defined t x ∷ G) u l.0 j.1 l.1 l.2 in
      fitted (HasInferred E G (let_in t x u)) (λ small. infers_let p.1 q.1 r.1 refl small refl) (max_le _ _ k (max_le _ _ k p.2 q.2) r.2) (took_then (took_then p.3 q.3) r.3) l.3
  inferred G (app f u) T b b' e =
      let i = follow_done (calls.infer G f b) _ T b' e in
      let p = infer_calls G f i.0 b i.1 i.2 in
      let j = follow_done (expose (whnf_at k E G) calls G i.0 i.1) _ T b' i.3 in
      let q = exposes_done G i.0 j.0 i.1 j.1 j.2 in
      let l = follow_done (as_product G j.0 j.1) _ T b' j.3 in
      let h = as_product_done G j.0 l.0 j.1 l.1 l.2 in
      let m = follow_done (calls.check G u l.0.domain l.1) _ T b' l.3 in
      let r = check_calls G u l.0.domain m.0 l.1 m.1 m.2 in
      let exposed : Exposes E G i.0 (prod l.0.domain l.0.codomain) q.0 = subst (λ z. Exposes E G i.0 z q.0) h.0 q.1 in
      fitted (HasInferred E G (app f u)) (λ small. infers_application p.1 exposed r.1 refl small refl) (max_le _ _ k (max_le _ _ k p.2 q.2) r.2)
      (took_then (took_then p.3 q.3) (moved_back h.1 r.3)) m.3
  inferred G (const c) T b b' e =
      let p = or_refuse_done (constant_type E c) _ T b b' e in
      (free, infers_constant p.0, omega arith, moved p.1 (took_free b))
  inferred G (ind c) T b b' e =
      let p = or_refuse_done (option_map (λ a. a.arity) (inductive_type_of E c)) _ T b b' e in
      let q = option_map_some (λ a. a.arity) (inductive_type_of E c) T p.0 in
      (free, infers_type q.1 q.2, omega arith, moved p.1 (took_free b))
  inferred G (ctor c) T b b' e =
      let p = or_refuse_done (option_map (λ a. a.type) (constructor_of E c)) _ T b b' e in
      let q = option_map_some (λ a. a.type) (constructor_of E c) T p.0 in
      (free, infers_constructor q.1 q.2, omega arith, moved p.1 (took_free b))
  inferred G (case id n p v branches) T b b' e = case_inferred G id n p v T branches b b' e
  inferred G (fix which shapes parts) T b b' e = fix_inferred G which shapes parts T b b' e
  inferred G t T b b' e = absurd (grind arith)

  checked : (G : Context) (t T : Tree) (cumul : Context → Tree → Tree → Counted (Unit {0})) → ((G : Context) (t t' : Tree) (u : Unit {0}) (b b' : Budget) → cumul G t t' b ≡ done u b' → At k (Cumulates E G t t') b b') → (u : Unit {0}) (b b' : Budget) → check_step cumul calls G t T b ≡ done u b' → (c : Cost) × Checks E G t T (called c) × (c.depth ≤ k) × Took c b b'
  checked G t T cumul cumul_calls u b b' e =
      let i = follow_done (calls.infer G t b) _ u b' e in
      let p = infer_calls G t i.0 b i.1 i.2 in
      let r = cumul_calls G i.0 T u i.1 b' i.3 in
      (p.0 then r.0, checks p.1 r.1 refl, max_le _ _ k p.2 r.2, took_then p.3 r.3)

  sorted : (G : Context) (T : Tree) (s : TreeSort) (b b' : Budget) → sort_step (whnf_at k E) calls G T b ≡ done s b' → (c : Cost) × SortOf E G T s (called c) × (c.depth ≤ k) × Took c b b'
  sorted G T s b b' e =
      let i = follow_done (calls.infer G T b) _ s b' e in
      let p = infer_calls G T i.0 b i.1 i.2 in
      let j = follow_done (whnf_at k E G i.0 i.1) _ s b' i.3 in
      let q = whnf_done E G k i.0 j.0 i.1 j.1 j.2 in
      let h = as_sort_done G j.0 s j.1 b' j.3 in
      let ends : Evaluates E G i.0 (sort s) q.0 = subst (λ z. Evaluates E G i.0 z q.0) h.0 q.1 in
      (p.0 then q.0, sorts_of p.1 ends refl, max_le _ _ k p.2 q.2, took_then p.3 (moved h.1 q.3))

-- The entry of a call, which takes a step and is one call deeper.
entry : {A : Type 0} (rest : ℕ) (found : List Constraint) (k : ℕ) (R : A → Cost → Type 0) (body : Counted A) → ((v : A) (b b' : Budget) → body b ≡ done v b' → (c : Cost) × R v (called c) × (c.depth ≤ k) × Took c b b') → (v : A) (b' : Budget) → follow (tick (record { rest = rest; found = found })) (λ _. body) ≡ done v b' → At (suc k) (R v) (record { rest = rest; found = found }) b'
entry zero found k R body inner v b' h = absurd (grind arith)
entry (suc rest) found k R body inner v b' h =
    let r = inner v (record { rest = rest; found = found }) b' h in
    (called r.0, r.1, (let d = r.2 in omega (arith, d)), record { rest = (let p = r.3.rest in omega (arith, p)); found = r.3.found })

-- The three calls at once.
record AllDone (E : Environment) (k : ℕ) : Type 0 where
  infer : (G : Context) (t T : Tree) (b b' : Budget) → (calls_at k E).infer G t b ≡ done T b' → At k (Infers E G t T) b b'
  check : (G : Context) (t T : Tree) (u : Unit {0}) (b b' : Budget) → (calls_at k E).check G t T b ≡ done u b' → At k (Checks E G t T) b b'
  sort_of : (G : Context) (t : Tree) (s : TreeSort) (b b' : Budget) → (calls_at k E).sort_of G t b ≡ done s b' → At k (SortOf E G t s) b b'

all_done : (E : Environment) (k : ℕ) → AllDone E k
unfolding calls_at
all_done E zero = record {
  infer = λ G t T b b' e. absurd (grind arith);
  check = λ G t T u b b' e. absurd (grind arith);
  sort_of = λ G t s b b' e. absurd (grind arith);
}
all_done E (suc k) =
    let h = all_done E k in
    record {
      infer = λ G t T b b' e. entry b.rest b.found k (Infers E G t) (infer_step (whnf_at k E) (calls_at k E) E G t)
          (λ T b b' e. let r = inferred E k (calls_at k E) h.infer h.check h.sort_of G t T b b' e in (r.0, infers r.1 refl, r.2, r.3)) T b' e;
      check = λ G t T u b b' e. entry b.rest b.found k (λ _. Checks E G t T) (check_step (cumul_at k E) (calls_at k E) G t T)
          (λ u b b' e. checked E k (calls_at k E) h.infer h.check h.sort_of G t T (cumul_at k E) (cumul_done E k) u b b' e) u b' e;
      sort_of = λ G t s b b' e. entry b.rest b.found k (SortOf E G t) (sort_step (whnf_at k E) (calls_at k E) G t)
          (λ s b b' e. sorted E k (calls_at k E) h.infer h.check h.sort_of G t s b b' e) s b' e;
    }

pub infer_done : (E : Environment) (k : ℕ) (G : Context) (t T : Tree) (b b' : Budget) → (calls_at k E).infer G t b ≡ done T b' → (c : Cost) × Infers E G t T c × (c.depth ≤ k) × Took c b b'
infer_done E k = (all_done E k).infer

pub check_done : (E : Environment) (k : ℕ) (G : Context) (t T : Tree) (u : Unit {0}) (b b' : Budget) → (calls_at k E).check G t T b ≡ done u b' → (c : Cost) × Checks E G t T c × (c.depth ≤ k) × Took c b b'
check_done E k = (all_done E k).check

pub sort_of_done : (E : Environment) (k : ℕ) (G : Context) (t : Tree) (s : TreeSort) (b b' : Budget) → (calls_at k E).sort_of G t b ≡ done s b' → (c : Cost) × SortOf E G t s c × (c.depth ≤ k) × Took c b b'
sort_of_done E k = (all_done E k).sort_of
