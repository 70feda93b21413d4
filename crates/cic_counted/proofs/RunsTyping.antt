-- Where the relations of typing hold, the counted functions are done, at every budget that suffices. By one induction
-- on the relations, over those of evaluation and subtyping; so the relations say no less than the functions.
use Rattle.std.proofs.Common.{◌≡◌, ℕ, zero, suc, ◌+◌, ◌-◌, ◌≤◌, max, Bool, true, ◌&&◌, nat_eq, if◌then◌else◌, Option, Some, None, List, [], ◌∷◌, ◌++◌, length, take, drop, refl, sym, ap, ◌∙◌, arith, subst, eq-eqb}
use Rattle.std.specs.Prelude.{option_map}
use Rattle.std.proofs.lemmas.List.{append_assoc}
use Rattle.std.proofs.lemmas.Bool.{and_from}
use Rattle.cic_terms.specs.Tree.{TreeSort, Shape, Tree, Children, child, sort, prod, lam, let_in, app, ind, case, fix}
use Rattle.cic_terms.specs.Lift.{lift_tree, subst_tree}
use Rattle.cic_names.specs.declared.name.GlobalId.{GlobalId}
use Rattle.cic_counted.specs.Sameness.{same_tree}
use Rattle.cic_names.specs.declared.constraint.Constraint.{Constraint}
use Rattle.cic_rules.specs.Numbering.{plain_level}
use Rattle.cic_rules.specs.Environment.{Environment, Context, TypeInBlock, TypeDeclaration, ConstructorDeclaration, inductive_type_of, constructor_of, constant_type, type_at, whole_block, element, assumed, defined}
use Rattle.cic_rules.specs.Telescopes.{apply, head_of, domains_of, extend, substitute_all, variables, lift_all, Function, function_types, function_type, full_body}
use Rattle.cic_counted.specs.Readings.{arguments_of, instantiate, functions_of}
use Rattle.cic_counted.specs.Outcome.{Budget, universe_form, unguarded, done, Cause, Counted, follow, ◌>>=◌, ◌>>◌, give, tick, is_small, fitting, or_refuse, require}
use Rattle.cic_counted.specs.BlockTests.{is_shaped, index_count}
use Rattle.cic_counted.specs.GuardTest.{guard_fault}
use Rattle.cic_counted.specs.Evaluation.{whnf_at, cumul_at}
use Rattle.cic_counted.specs.Inference.{next_level, Calls, are_branches, product_sort, as_sort, expose, is_prop, branch_goal, all_propositions, eliminates, check_branches, sort_each, function_context, check_bodies, infer_step, check_step, sort_step, calls_at}
use Rattle.cic_rules.specs.Typing.{function_entries}
use Rattle.cic_names.specs.Orders.{insert_constraints}
use Rattle.cic_counted.specs.calls.Done.{left_after, Cost, free, ◌then◌, called, AllSmall}
use Rattle.cic_counted.specs.calls.DoneTyping.{SmallEntries, Infers, infers, Checks, checks, SortOf, sorts_of, Exposes, exposes_itself, exposes_another, HasInferred, infers_variable, infers_prop, infers_set, infers_universe, infers_product, infers_abstraction, infers_let, infers_application, infers_constant, infers_type, infers_constructor, infers_match, infers_fix, Eliminates, eliminates_freely, eliminates_nothing, eliminates_propositions, AllPropositions, no_more, proposition, ChecksBranches, no_branch_left, checks_branch, SortsEach, sorts_none, sorts_one_more, ChecksBodies, no_body_left, checks_body}
use Rattle.cic_counted.proofs.Runs.{left_free, left_then, whnf_runs, made, max_left, max_right, along}
use Rattle.cic_counted.proofs.RunsConversion.{fitting_at, fitting_all_at, body_at, cumulates_run}

-- Done with a value, at a cost, at every budget that suffices.
abbrev pub GivesAt : {A : Type 0} → Counted A → A → Cost → Type 0
GivesAt m v c = (b : Budget) → c.steps ≤ b.rest → m b ≡ done v (left_after c b)

given_at : {A : Type 0} (m : Counted A) (v : A) → ((b : Budget) → m b ≡ done v b) → GivesAt m v free
given_at m v h b p = h b ∙ ap (done v) (left_free b)

after_at : {A B : Type 0} (m : Counted A) (f : A → Counted B) (v : A) (w : B) (c d : Cost) → GivesAt m v c → GivesAt (f v) w d → GivesAt (m >>= f) w (c then d)
after_at m f v w c d h i b p =
    ap (λ o. follow o f) (h b (omega (arith, p))) ∙ i (left_after c b) (omega (arith, p)) ∙ ap (done w) (left_then c d b)

make_cost : ℕ → ℕ → List Constraint → Cost
make_cost steps depth found = record { steps = steps; depth = depth; found = found }

then_assoc : (c d e : Cost) → (c then d) then e ≡ c then (d then e)
unfolding make_cost
then_assoc c d e =
    let steps : c.steps + d.steps + e.steps ≡ c.steps + (d.steps + e.steps) = omega arith in
    let depth : max (max c.depth d.depth) e.depth ≡ max c.depth (max d.depth e.depth) = omega arith in
    ap (λ x. make_cost x (max (max c.depth d.depth) e.depth) (c.found ++ d.found ++ e.found)) steps
    ∙ ap (λ x. make_cost (c.steps + (d.steps + e.steps)) x (c.found ++ d.found ++ e.found)) depth
    ∙ ap (make_cost (c.steps + (d.steps + e.steps)) (max c.depth (max d.depth e.depth))) (append_assoc c.found d.found e.found)

-- What takes nothing before, and after.
before_at : {A B : Type 0} (m : Counted A) (f : A → Counted B) (v : A) (w : B) (d : Cost) → ((b : Budget) → m b ≡ done v b) → GivesAt (f v) w d → GivesAt (m >>= f) w d
before_at m f v w d h i b p = ap (λ o. follow o f) (h b) ∙ i b p

then_at : {A B : Type 0} (m : Counted A) (f : A → Counted B) (v : A) (w : B) (c : Cost) → GivesAt m v c → ((b : Budget) → f v b ≡ done w b) → GivesAt (m >>= f) w c
then_at m f v w c h i b p = ap (λ o. follow o f) (h b p) ∙ i (left_after c b)

or_refuse_at : {A : Type 0} (o : Option A) (cause : Cause) (v : A) (b : Budget) → o ≡ Some v → or_refuse o cause b ≡ done v b
or_refuse_at o cause v b e = ap (λ z. or_refuse z cause b) e

require_at : (test : Bool) (cause : Cause) (b : Budget) → test ≡ true → require test cause b ≡ done tt b
require_at test cause b e = ap (λ z. require z cause b) e

context_at : (before : ℕ) (G : Context) (ts : List Tree) (b : Budget) → SmallEntries before ts → function_context before G ts b ≡ done (function_entries before G ts) b
context_at before G [] b h = refl
context_at before G (t ∷ ts) b h =
    ap (λ o. follow o (λ u. function_context (before + 1) (assumed u ∷ G) ts)) (fitting_at (lift_tree 0 before t) b h.0)
    ∙ context_at (before + 1) (assumed (lift_tree 0 before t) ∷ G) ts b h.1

module _ (E : Environment) (k : ℕ) (calls : Calls)
    (infer_calls : (G : Context) (t T : Tree) (c : Cost) → Infers E G t T c → c.depth ≤ k → GivesAt (calls.infer G t) T c)
    (check_calls : (G : Context) (t T : Tree) (c : Cost) → Checks E G t T c → c.depth ≤ k → GivesAt (calls.check G t T) tt c)
    (sort_calls : (G : Context) (t : Tree) (s : TreeSort) (c : Cost) → SortOf E G t s c → c.depth ≤ k → GivesAt (calls.sort_of G t) s c) where
  infer_runs : {G : Context} {t T : Tree} {c : Cost} → Infers E G t T c → c.depth ≤ k → GivesAt (calls.infer G t) T c
  infer_runs {G} {t} {T} {c} = infer_calls G t T c

  check_runs : {G : Context} {t T : Tree} {c : Cost} → Checks E G t T c → c.depth ≤ k → GivesAt (calls.check G t T) tt c
  check_runs {G} {t} {T} {c} = check_calls G t T c

  sort_runs : {G : Context} {t : Tree} {s : TreeSort} {c : Cost} → SortOf E G t s c → c.depth ≤ k → GivesAt (calls.sort_of G t) s c
  sort_runs {G} {t} {s} {c} = sort_calls G t s c

  exposes_run : {G : Context} {T V : Tree} {c : Cost} → Exposes E G T V c → c.depth ≤ k → GivesAt (expose (whnf_at k E G) calls G T) V c
  exposes_run (exposes_itself {G = G} {T = T} {V = V} {c = c} h e) = λ d b p.
      ap (λ o. follow o (λ V. if same_tree V T then give V else (calls.sort_of G V >> give V))) (whnf_runs E G k T V c b h d p) ∙ rw e refl
  exposes_run (exposes_another {G = G} {T = T} {V = V} {s = s} {c = c} {d = c'} h e i kq) =
      along (λ z. z.depth ≤ k → GivesAt (expose (whnf_at k E G) calls G T) V z) kq (λ d b p.
      ap (λ o. follow o (λ V. if same_tree V T then give V else (calls.sort_of G V >> give V))) (whnf_runs E G k T V c b h (max_left c.depth c'.depth k d) (omega (arith, p)))
      ∙ rw e (ap (λ o. follow o (λ _. give V)) (sort_runs i (max_right c.depth c'.depth k d) (left_after c b) (omega (arith, p))) ∙ ap (done V) (left_then c c' b)))

  each_sorts : {G : Context} {ts : List Tree} {c : Cost} → SortsEach E G ts c → c.depth ≤ k → GivesAt (sort_each calls G ts) tt c
  each_sorts (sorts_none {G = G}) = λ d. given_at (give tt) tt (λ b. refl)
  each_sorts (sorts_one_more {G = G} {t = t} {ts = ts} {s = s} {c = c} {d = c'} h hs kq) =
      along (λ z. z.depth ≤ k → GivesAt (sort_each calls G (t ∷ ts)) tt z) kq (λ d.
      after_at (calls.sort_of G t) (λ _. sort_each calls G ts) s tt c c' (sort_runs h (max_left c.depth c'.depth k d)) (each_sorts hs (max_right c.depth c'.depth k d)))

  bodies_check : {G : Context} {all : ℕ} {fs : List Function} {c : Cost} → ChecksBodies E G all fs c → c.depth ≤ k → GivesAt (check_bodies calls G all fs) tt c
  bodies_check (no_body_left {G = G}) = λ d. given_at (give tt) tt (λ b. refl)
  bodies_check (checks_body {G = G} {all = all} {f = f} {fs = fs} {c = c} {d = c'} sf small h hs kq) =
      along (λ z. z.depth ≤ k → GivesAt (check_bodies calls G all (f ∷ fs)) tt z) kq (λ d.
      before_at _ _ (full_body all f) tt (c then c') (λ b. body_at all f b sf)
      (before_at _ _ (lift_tree 0 all (function_type f)) tt (c then c') (λ b. fitting_at (lift_tree 0 all (function_type f)) b small)
      (after_at (calls.check G (full_body all f) (lift_tree 0 all (function_type f))) (λ _. check_bodies calls G all fs) tt tt c c' (check_runs h (max_left c.depth c'.depth k d)) (bodies_check hs (max_right c.depth c'.depth k d)))))

  propositions_run : (id : _) {G : Context} {as_ : List Tree} {c : Cost} → AllPropositions E G as_ c → c.depth ≤ k → GivesAt (all_propositions calls id G as_) tt c
  propositions_run id (no_more {G = G}) = λ d. given_at (give tt) tt (λ b. refl)
  propositions_run id (proposition {G = G} {a = a} {as_ = as_} {s = s} {c = c} {d = c'} h is hs kq) =
      along (λ z. z.depth ≤ k → GivesAt (all_propositions calls id G (a ∷ as_)) tt z) kq (λ d.
      after_at (calls.sort_of G a) _ s tt c c' (sort_runs h (max_left c.depth c'.depth k d))
      (before_at _ (λ _. all_propositions calls id (assumed a ∷ G) as_) tt tt c' (λ b. require_at (is_prop s) _ b is) (propositions_run id hs (max_right c.depth c'.depth k d))))

  eliminates_run : (id : _) {r : ℕ} {t : TypeDeclaration} {s : TreeSort} {c : Cost} → Eliminates E r t s c → c.depth ≤ k → GivesAt (eliminates calls id r t s) tt c
  eliminates_run id (eliminates_freely {r = r} {t = t} {s = s} q) = λ d. given_at (eliminates calls id r t s) tt (λ b. rw q refl)
  eliminates_run id (eliminates_nothing {r = r} {t = t} {s = s} q l) = λ d. given_at (eliminates calls id r t s) tt (λ b. rw (q, l) refl)
  eliminates_run id (eliminates_propositions {r = r} {t = t} {s = s} {c = c} constructor q l h) = λ d b p. rw (q, l) (propositions_run id h d b p)

  branches_run : {G : Context} {a : ℕ} {ps : List Tree} {p : Tree} {cs : List ConstructorDeclaration} {ks : Children} {c : Cost} → ChecksBranches E G a ps p cs ks c → c.depth ≤ k → GivesAt (check_branches calls G a ps p cs ks) tt c
  branches_run (no_branch_left {G = G}) = λ d. given_at (give tt) tt (λ b. refl)
  branches_run (checks_branch {G = G} {a = a} {parameters = ps} {p = p} {t = t} {constructor = x} {rest = cs} {b = y} {ks = ks} {c = c} {d = c'} small fits h hs kq) =
      along (λ z. z.depth ≤ k → GivesAt (check_branches calls G a ps p (x ∷ cs) (child y t ks)) tt z) kq (λ d.
      before_at _ _ (domains_of (instantiate ps x.type)) tt (c then c') (λ b. fitting_all_at (domains_of (instantiate ps x.type)) b small)
      (before_at _ _ (branch_goal a ps p x) tt (c then c') (λ b. fitting_at (branch_goal a ps p x) b fits)
      (after_at (calls.check (extend G (domains_of (instantiate ps x.type))) t (branch_goal a ps p x)) (λ _. check_branches calls G a ps p cs ks) tt tt c c'
      (check_runs h (max_left c.depth c'.depth k d)) (branches_run hs (max_right c.depth c'.depth k d)))))

  fit_to : (V T : Tree) (b : Budget) → T ≡ V → is_small T ≡ true → fitting V b ≡ done T b
  fit_to V T b q h = subst (λ z. fitting z b ≡ done T b) q (fitting_at T b h)

  product_at : {G : Context} {x y : Tree} {T : Tree} {s s' r : TreeSort} {c d : Cost} → SortOf E G x s c → SortOf E (assumed x ∷ G) y s' d → product_sort s s' ≡ Some r → T ≡ sort r → max c.depth d.depth ≤ k → GivesAt (infer_step (whnf_at k E) calls E G (prod x y)) T (c then d)
  product_at {G} {x} {y} {T} {s} {s'} {r} {c} {d} h h' w q l =
      after_at (calls.sort_of G x) _ s T c d (sort_runs h (max_left c.depth d.depth k l))
      (then_at (calls.sort_of (assumed x ∷ G) y) (λ s'. or_refuse (product_sort s s') (universe_form s s') >>= (λ r. give (sort r))) s' T d (sort_runs h' (max_right c.depth d.depth k l)) (λ b. rw w (ap (λ z. done z b) (sym q))))

  abstraction_at : {G : Context} {x y t T : Tree} {s : TreeSort} {c d : Cost} → SortOf E G x s c → Infers E (assumed x ∷ G) t y d → T ≡ prod x y → max c.depth d.depth ≤ k → GivesAt (infer_step (whnf_at k E) calls E G (lam x t)) T (c then d)
  abstraction_at {G} {x} {y} {t} {T} {s} {c} {d} h h' q l =
      after_at (calls.sort_of G x) _ s T c d (sort_runs h (max_left c.depth d.depth k l))
      (then_at (calls.infer (assumed x ∷ G) t) (λ y. give (prod x y)) y T d (infer_runs h' (max_right c.depth d.depth k l)) (λ b. ap (λ z. done z b) (sym q)))

  nested3 : (c d e : Cost) → max (max c.depth d.depth) e.depth ≤ k → (c.depth ≤ k) × (d.depth ≤ k) × (e.depth ≤ k)
  nested3 c d e l = let h = max_left (max c.depth d.depth) e.depth k l in (max_left c.depth d.depth k h, max_right c.depth d.depth k h, max_right (max c.depth d.depth) e.depth k l)

  let_at : {G : Context} {t x u y T : Tree} {s : TreeSort} {c d e : Cost} → SortOf E G x s c → Checks E G t x d → Infers E (defined t x ∷ G) u y e → T ≡ subst_tree 0 t y → is_small T ≡ true → max (max c.depth d.depth) e.depth ≤ k → GivesAt (infer_step (whnf_at k E) calls E G (let_in t x u)) T (c then d then e)
  let_at {G} {t} {x} {u} {y} {T} {s} {c} {d} {e} h i j q small l =
      let n = nested3 c d e l in
      along (GivesAt (infer_step (whnf_at k E) calls E G (let_in t x u)) T) (then_assoc c d e)
      (after_at (calls.sort_of G x) _ s T c (d then e) (sort_runs h n.0)
      (after_at (calls.check G t x) _ tt T d e (check_runs i n.1)
      (then_at (calls.infer (defined t x ∷ G) u) (λ y. fitting (subst_tree 0 t y)) y T e (infer_runs j n.2) (λ b. fit_to (subst_tree 0 t y) T b q small))))

  application_at : {G : Context} {f u F x y T : Tree} {c d e : Cost} → Infers E G f F c → Exposes E G F (prod x y) d → Checks E G u x e → T ≡ subst_tree 0 u y → is_small T ≡ true → max (max c.depth d.depth) e.depth ≤ k → GivesAt (infer_step (whnf_at k E) calls E G (app f u)) T (c then d then e)
  application_at {G} {f} {u} {F} {x} {y} {T} {c} {d} {e} h i j q small l =
      let n = nested3 c d e l in
      along (GivesAt (infer_step (whnf_at k E) calls E G (app f u)) T) (then_assoc c d e)
      (after_at (calls.infer G f) _ F T c (d then e) (infer_runs h n.0)
      (after_at (expose (whnf_at k E G) calls G F) _ (prod x y) T d e (exposes_run i n.1)
      (then_at (calls.check G u x) (λ _. fitting (subst_tree 0 u y)) tt T e (check_runs j n.2) (λ b. fit_to (subst_tree 0 u y) T b q small))))

  fix_at : {G : Context} {f : Function} {T : Tree} {c d : Cost} (which : ℕ) (shapes : List Shape) (parts : Children) (fs : List Function) → functions_of shapes parts ≡ Some fs → element fs which ≡ Some f → SortsEach E G (function_types fs) c → SmallEntries 0 (function_types fs) → ChecksBodies E (function_entries 0 G (function_types fs)) (length fs) fs d → guard_fault E fs ≡ None → T ≡ function_type f → max c.depth d.depth ≤ k → GivesAt (infer_step (whnf_at k E) calls E G (fix which shapes parts)) T (c then d)
  fix_at {G} {f} {T} {c} {d} which shapes parts fs q e hs small hb g r l =
      before_at (or_refuse (functions_of shapes parts) (unguarded which 0)) _ fs T (c then d) (λ b. or_refuse_at (functions_of shapes parts) _ fs b q)
      (before_at (or_refuse (element fs which) (unguarded which 0)) _ f T (c then d) (λ b. or_refuse_at (element fs which) _ f b e)
      (after_at (sort_each calls G (function_types fs)) _ tt T c d (each_sorts hs (max_left c.depth d.depth k l))
      (before_at (function_context 0 G (function_types fs)) _ (function_entries 0 G (function_types fs)) T d (λ b. context_at 0 G (function_types fs) b small)
      (then_at (check_bodies calls (function_entries 0 G (function_types fs)) (length fs) fs) _ tt T d (bodies_check hb (max_right c.depth d.depth k l))
      (λ b. rw g (ap (λ z. done z b) (sym r)))))))

  match_at : (id : GlobalId) {G : Context} {n : ℕ} {p v F V T : Tree} {branches : Children} {place : TypeInBlock} {t : TypeDeclaration} {s : TreeSort} {c d e f g : Cost} →
      whole_block E id ≡ Some place → is_shaped place.block ≡ true → element place.block.types place.index ≡ Some t →
      Infers E G v F c → Exposes E G F V d → same_tree (head_of V) (ind id) ≡ true → length (arguments_of V) ≡ place.block.parameters + index_count place.block.parameters t →
      n ≡ index_count place.block.parameters t → are_branches place.block.parameters t.constructors branches ≡ true →
      AllSmall (domains_of (instantiate (take place.block.parameters (arguments_of V)) t.arity)) → AllSmall (lift_all (index_count place.block.parameters t) (take place.block.parameters (arguments_of V))) →
      SortOf E (assumed (apply (ind id) (lift_all (index_count place.block.parameters t) (take place.block.parameters (arguments_of V)) ++ variables (index_count place.block.parameters t))) ∷ extend G (domains_of (instantiate (take place.block.parameters (arguments_of V)) t.arity))) p s e →
      Eliminates E place.block.parameters t s f → ChecksBranches E G (index_count place.block.parameters t) (take place.block.parameters (arguments_of V)) p t.constructors branches g →
      T ≡ substitute_all (drop place.block.parameters (arguments_of V) ++ v ∷ []) p → is_small T ≡ true →
      c.depth ≤ k → d.depth ≤ k → e.depth ≤ k → f.depth ≤ k → g.depth ≤ k →
      GivesAt (infer_step (whnf_at k E) calls E G (case id n p v branches)) T (c then (d then (e then (f then g))))
  match_at id {G} {n} {p} {v} {F} {V} {T} {branches} {place} {t} {s} {c} {d} {e} {f} {g} found shaped is_type hi he hh hl hn hb sd sl hs hel hbr q small lc ld le lf lg =
      before_at (or_refuse (whole_block E id) _) _ place T (c then (d then (e then (f then g)))) (λ b. or_refuse_at (whole_block E id) _ place b found)
      (before_at (require (is_shaped place.block) _) _ tt T (c then (d then (e then (f then g)))) (λ b. require_at (is_shaped place.block) _ b shaped)
      (before_at (or_refuse (element place.block.types place.index) _) _ t T (c then (d then (e then (f then g)))) (λ b. or_refuse_at (element place.block.types place.index) _ t b is_type)
      (after_at (calls.infer G v) _ F T c (d then (e then (f then g))) (infer_runs hi lc)
      (after_at (expose (whnf_at k E G) calls G F) _ V T d (e then (f then g)) (exposes_run he ld)
      (before_at (require (same_tree (head_of V) (ind id) && nat_eq (length (arguments_of V)) (place.block.parameters + index_count place.block.parameters t)) _) _ tt T (e then (f then g)) (λ b. require_at _ _ b (and_from _ _ hh (eq-eqb _ _ hl)))
      (before_at (require (nat_eq n (index_count place.block.parameters t) && are_branches place.block.parameters t.constructors branches) _) _ tt T (e then (f then g)) (λ b. require_at _ _ b (and_from _ _ (eq-eqb _ _ hn) hb))
      (before_at _ _ (domains_of (instantiate (take place.block.parameters (arguments_of V)) t.arity)) T (e then (f then g)) (λ b. fitting_all_at _ b sd)
      (before_at _ _ (lift_all (index_count place.block.parameters t) (take place.block.parameters (arguments_of V))) T (e then (f then g)) (λ b. fitting_all_at _ b sl)
      (after_at _ _ s T e (f then g) (sort_runs hs le)
      (after_at (eliminates calls id place.block.parameters t s) _ tt T f g (eliminates_run id hel lf)
      (then_at _ _ tt T g (branches_run hbr lg) (λ b. fit_to _ T b q small))))))))))))

  has_inferred_run : {G : Context} {t T : Tree} {c : Cost} → HasInferred E G t T c → c.depth ≤ k → GivesAt (infer_step (whnf_at k E) calls E G t) T c
  has_inferred_run (infers_variable {G = G} {x = x} {a = a} {T = T} e q small) = λ d.
      before_at (or_refuse (type_at G x) _) _ a T free (λ b. or_refuse_at (type_at G x) _ a b e) (given_at (fitting (lift_tree 0 (x + 1) a)) T (λ b. fit_to (lift_tree 0 (x + 1) a) T b q small))
  has_inferred_run (infers_prop {T = T} q) = λ d. given_at _ T (λ b. ap (λ z. done z b) (sym q))
  has_inferred_run (infers_set {T = T} q) = λ d. given_at _ T (λ b. ap (λ z. done z b) (sym q))
  has_inferred_run (infers_universe {e = e} {l = l} {T = T} h q) = λ d.
      before_at (or_refuse (plain_level e) _) _ l T free (λ b. or_refuse_at (plain_level e) _ l b h) (given_at (give (sort (next_level l))) T (λ b. ap (λ z. done z b) (sym q)))
  has_inferred_run (infers_product {G = G} {a = x} {b = y} {T = T} h h' w q kq) = along (λ z. z.depth ≤ k → GivesAt (infer_step (whnf_at k E) calls E G (prod x y)) T z) kq (product_at h h' w q)
  has_inferred_run (infers_abstraction {G = G} {a = x} {t = t} {T = T} h h' q kq) = along (λ z. z.depth ≤ k → GivesAt (infer_step (whnf_at k E) calls E G (lam x t)) T z) kq (abstraction_at h h' q)
  has_inferred_run (infers_let {G = G} {t = t} {a = x} {u = u} {T = T} h i j q small kq) = along (λ z. z.depth ≤ k → GivesAt (infer_step (whnf_at k E) calls E G (let_in t x u)) T z) kq (let_at h i j q small)
  has_inferred_run (infers_application {G = G} {f = f} {u = u} {T = T} h i j q small kq) = along (λ z. z.depth ≤ k → GivesAt (infer_step (whnf_at k E) calls E G (app f u)) T z) kq (application_at h i j q small)
  has_inferred_run (infers_constant {id = id} {T = T} e) = λ d. given_at _ T (λ b. or_refuse_at (constant_type E id) _ T b e)
  has_inferred_run (infers_type {id = id} {a = a} {T = T} e q) = λ d. given_at _ T (λ b. or_refuse_at (option_map (λ a. a.arity) (inductive_type_of E id)) _ T b (ap (option_map (λ a. a.arity)) e ∙ ap Some (sym q)))
  has_inferred_run (infers_constructor {id = id} {K = K} {T = T} e q) = λ d. given_at _ T (λ b. or_refuse_at (option_map (λ z. z.type) (constructor_of E id)) _ T b (ap (option_map (λ z. z.type)) e ∙ ap Some (sym q)))
  has_inferred_run (infers_fix {G = G} {which = which} {shapes = shapes} {parts = parts} {T = T} fs q e hs small hb g r kq) = along (λ z. z.depth ≤ k → GivesAt (infer_step (whnf_at k E) calls E G (fix which shapes parts)) T z) kq (fix_at which shapes parts fs q e hs small hb g r)
  has_inferred_run (infers_match {G = G} {id = id} {n = n} {p = p} {v = v} {F = F} {V = V} {T = T} {branches = branches} {place = place} {t = t} {s = s} {c = c} {d = d} {e = e} {f = f} {g = g} r a ps found shaped is_type rq aq hi he hh hl pq hn hb sd sl hs hel hbr q small kq) =
      along (λ z. z.depth ≤ k → GivesAt (infer_step (whnf_at k E) calls E G (case id n p v branches)) T z) kq (λ l.
      let l4 = max_left (max (max (max c.depth d.depth) e.depth) f.depth) g.depth k l in
      let l3 = max_left (max (max c.depth d.depth) e.depth) f.depth k l4 in
      let n3 = nested3 c d e l3 in
      let tie : length (arguments_of V) ≡ r + a → n ≡ a → are_branches r t.constructors branches ≡ true → AllSmall (domains_of (instantiate ps t.arity)) → AllSmall (lift_all a ps) →
      SortOf E (assumed (apply (ind id) (lift_all a ps ++ variables a)) ∷ extend G (domains_of (instantiate ps t.arity))) p s e → Eliminates E r t s f → ChecksBranches E G a ps p t.constructors branches g →
      T ≡ substitute_all (drop r (arguments_of V) ++ v ∷ []) p → GivesAt (infer_step (whnf_at k E) calls E G (case id n p v branches)) T (c then (d then (e then (f then g)))) =
      rw (pq, aq, rq) (λ hl hn hb sd sl hs hel hbr q. match_at id found shaped is_type hi he hh hl hn hb sd sl hs hel hbr q small n3.0 n3.1 n3.2
      (max_right (max (max c.depth d.depth) e.depth) f.depth k l4) (max_right (max (max (max c.depth d.depth) e.depth) f.depth) g.depth k l)) in
      along (GivesAt (infer_step (whnf_at k E) calls E G (case id n p v branches)) T)
      (then_assoc (c then d then e) f g ∙ then_assoc (c then d) e (f then g) ∙ then_assoc c d (e then (f then g)))
      (tie hl hn hb sd sl hs hel hbr q))

-- The entry of a call.
enter_with : {A : Type 0} (m : Counted A) (v : A) (c : Cost) → GivesAt m v c → (rest : ℕ) (found : List Constraint) → c.steps + 1 ≤ rest → follow (tick (record { rest = rest; found = found })) (λ _. m) ≡ done v (left_after (called c) (record { rest = rest; found = found }))
enter_with m v c h zero found p = absurd (omega (arith, p))
enter_with m v c h (suc r) found p =
    let e : r - c.steps ≡ suc r - (c.steps + 1) = omega arith in
    h (record { rest = r; found = found }) (omega (arith, p)) ∙ ap (λ z. done v (made z (insert_constraints found c.found))) e

record AllRun (E : Environment) (k : ℕ) : Type 0 where
  infer : (G : Context) (t T : Tree) (c : Cost) → Infers E G t T c → c.depth ≤ k → GivesAt ((calls_at k E).infer G t) T c
  check : (G : Context) (t T : Tree) (c : Cost) → Checks E G t T c → c.depth ≤ k → GivesAt ((calls_at k E).check G t T) tt c
  sort_of : (G : Context) (t : Tree) (s : TreeSort) (c : Cost) → SortOf E G t s c → c.depth ≤ k → GivesAt ((calls_at k E).sort_of G t) s c

infers_open : {E : Environment} {G : Context} {t T : Tree} {c : Cost} → Infers E G t T c → c.depth ≤ 0 → ⊥
infers_open (infers {c = c} h q) d = let e = ap (λ z. z.depth) q in omega (arith, e, d)

checks_open : {E : Environment} {G : Context} {t T : Tree} {c : Cost} → Checks E G t T c → c.depth ≤ 0 → ⊥
checks_open (checks h i q) d = let e = ap (λ z. z.depth) q in omega (arith, e, d)

sorts_open : {E : Environment} {G : Context} {t : Tree} {s : TreeSort} {c : Cost} → SortOf E G t s c → c.depth ≤ 0 → ⊥
sorts_open (sorts_of h i q) d = let e = ap (λ z. z.depth) q in omega (arith, e, d)

infer_next : (E : Environment) (k : ℕ) → AllRun E k → {G : Context} {t T : Tree} {c : Cost} → Infers E G t T c → c.depth ≤ suc k → GivesAt ((calls_at (suc k) E).infer G t) T c
unfolding calls_at
infer_next E k r {G} {t} {T} (infers {c = c} h q) =
    along (λ z. z.depth ≤ suc k → GivesAt ((calls_at (suc k) E).infer G t) T z) q (λ d b p.
    enter_with (infer_step (whnf_at k E) (calls_at k E) E G t) T c (has_inferred_run E k (calls_at k E) r.infer r.check r.sort_of h (omega (arith, d))) b.rest b.found p)

check_next : (E : Environment) (k : ℕ) → AllRun E k → {G : Context} {t T : Tree} {c : Cost} → Checks E G t T c → c.depth ≤ suc k → GivesAt ((calls_at (suc k) E).check G t T) tt c
unfolding calls_at
check_next E k r (checks {G = G} {t = t} {S = S} {T = T} {c = c} {d = c'} h i q) =
    along (λ z. z.depth ≤ suc k → GivesAt ((calls_at (suc k) E).check G t T) tt z) q (λ d b p.
    let inner : max c.depth c'.depth ≤ k = omega (arith, d) in
    enter_with (check_step (cumul_at k E) (calls_at k E) G t T) tt (c then c')
    (after_at ((calls_at k E).infer G t) (λ S. cumul_at k E G S T) S tt c c' (r.infer G t S c h (max_left c.depth c'.depth k inner)) (cumulates_run E i k (max_right c.depth c'.depth k inner))) b.rest b.found p)

sort_next : (E : Environment) (k : ℕ) → AllRun E k → {G : Context} {t : Tree} {s : TreeSort} {c : Cost} → SortOf E G t s c → c.depth ≤ suc k → GivesAt ((calls_at (suc k) E).sort_of G t) s c
unfolding calls_at
sort_next E k r (sorts_of {G = G} {T = T} {S = S} {s = s} {c = c} {d = c'} h i q) =
    along (λ z. z.depth ≤ suc k → GivesAt ((calls_at (suc k) E).sort_of G T) s z) q (λ d b p.
    let inner : max c.depth c'.depth ≤ k = omega (arith, d) in
    enter_with (sort_step (whnf_at k E) (calls_at k E) G T) s (c then c')
    (after_at ((calls_at k E).infer G T) (λ S. whnf_at k E G S >>= as_sort G) S s c c' (r.infer G T S c h (max_left c.depth c'.depth k inner))
    (then_at (whnf_at k E G S) (as_sort G) (sort s) s c' (λ b p. whnf_runs E G k S (sort s) c' b i (max_right c.depth c'.depth k inner) p) (λ b. refl))) b.rest b.found p)

all_run : (E : Environment) (k : ℕ) → AllRun E k
all_run E zero = record {
  infer = λ G t T c h d. absurd (infers_open h d);
  check = λ G t T c h d. absurd (checks_open h d);
  sort_of = λ G t s c h d. absurd (sorts_open h d);
}
all_run E (suc k) =
    let r = all_run E k in
    record {
      infer = λ G t T c h. infer_next E k r h;
      check = λ G t T c h. check_next E k r h;
      sort_of = λ G t s c h. sort_next E k r h;
    }

pub infer_run : (E : Environment) (G : Context) (k : ℕ) (t T : Tree) (c : Cost) (b : Budget) → Infers E G t T c → c.depth ≤ k → c.steps ≤ b.rest → (calls_at k E).infer G t b ≡ done T (left_after c b)
infer_run E G k t T c b h d p = (all_run E k).infer G t T c h d b p

pub check_run : (E : Environment) (G : Context) (k : ℕ) (t T : Tree) (c : Cost) (b : Budget) → Checks E G t T c → c.depth ≤ k → c.steps ≤ b.rest → (calls_at k E).check G t T b ≡ done tt (left_after c b)
check_run E G k t T c b h d p = (all_run E k).check G t T c h d b p

pub sort_run : (E : Environment) (G : Context) (k : ℕ) (t : Tree) (s : TreeSort) (c : Cost) (b : Budget) → SortOf E G t s c → c.depth ≤ k → c.steps ≤ b.rest → (calls_at k E).sort_of G t b ≡ done s (left_after c b)
sort_run E G k t s c b h d p = (all_run E k).sort_of G t s c h d b p
