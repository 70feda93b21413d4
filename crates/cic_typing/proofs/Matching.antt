-- The typing of a match, step by step.
use Rattle.std.proofs.Common.{◌≡◌, ◌+◌, ◌&&◌, ℕ, nat_eq, List, [], ◌∷◌, ◌++◌, length, take, drop, Result, sym, ap, ap₂, subst, ◌∙◌}
use Rattle.std.specs.declared.rc.Rc.{Rc}
use Rattle.std.specs.declared.alloc.Global.{Global}
use Rattle.cic_terms.specs.declared.term.Term.{Term}
use Rattle.cic_terms.specs.Denotes.{branch_list}
use Rattle.cic_terms.specs.Tree.{Tree, ind}
use Rattle.cic_names.specs.declared.name.GlobalId.{GlobalId}
use Rattle.cic_rules.specs.Environment.{Environment, Context, TypeDeclaration, assumed}
use Rattle.cic_rules.specs.Telescopes.{apply, domains_of, extend, head_of, lift_all, substitute_all, variables}
use Rattle.cic_counted.specs.Inference.{Calls, are_branches, calls_from, check_branches, eliminates, expose}
use Rattle.cic_counted.specs.Evaluation.{whnf_from}
use Rattle.cic_counted.specs.Outcome.{Budget, Outcome, Counted, done, follow, fitting, fitting_all, require, not_inductive, bad_branch_count}
use Rattle.cic_counted.specs.Readings.{arguments_of, instantiate}
use Rattle.cic_counted.specs.Sameness.{same_tree}
use Rattle.cic_env.specs.Declarations.{type_declaration}
use Rattle.cic_spines.specs.Lists.{shared_tree}
use Rattle.cic_work.specs.calls.Counting.{Counts}
use Rattle.cic_work.specs.declared.stop.Stop.{Stop}
use Rattle.cic_typing.specs.declared.matches.Match.{Match}
use Rattle.cic_typing.specs.calls.Matches.{check_motive, match_at, match_steps, match_with, typed_match}
use Rattle.cic_typing.proofs.Following.{follow_twice, follow_same}

-- Three calls and a fourth, and what follows them.
four : {A B S C D : Type 0} (o : Outcome A) (f : A → Counted B) (g : A → B → Counted S) (k : A → B → S → Counted C) (rest : Counted D) →
    follow o (λ x. λ b1. follow (f x b1) (λ y. λ b2. follow (g x y b2) (λ s. λ b3. follow (k x y s b3) (λ _. rest))))
    ≡ follow (follow o (λ x. λ b1. follow (f x b1) (λ y. λ b2. follow (g x y b2) (k x y)))) (λ _. rest)
four o f g k rest =
    sym (follow_twice o (λ x. λ b1. follow (f x b1) (λ y. λ b2. follow (g x y b2) (k x y))) (λ _. rest)
    ∙ follow_same o _ _ (λ x b1. follow_twice (f x b1) (λ y. λ b2. follow (g x y b2) (k x y)) (λ _. rest)
    ∙ follow_same (f x b1) _ _ (λ y b2. follow_twice (g x y b2) (k x y) (λ _. rest))))

motive_first : (calls : Calls) (G : Context) (id : GlobalId) (r a : ℕ) (us : List Tree) (p : Tree) (t : TypeDeclaration) (rest : Counted Tree) (b : Budget) →
    follow (fitting_all (domains_of (instantiate us t.arity)) b) (λ indices. λ b1. follow (fitting_all (lift_all a us) b1)
    (λ parameters. λ b2. follow (calls.sort_of (assumed (apply (ind id) (parameters ++ variables a)) ∷ extend G indices) p b2) (λ s. λ b3. follow (eliminates calls id r t s b3) (λ _. rest))))
    ≡ follow (check_motive calls G id r a us p t b) (λ _. rest)
motive_first calls G id r a us p t rest b =
    four (fitting_all (domains_of (instantiate us t.arity)) b) (λ indices. fitting_all (lift_all a us))
    (λ indices parameters. calls.sort_of (assumed (apply (ind id) (parameters ++ variables a)) ∷ extend G indices) p)
    (λ indices parameters s. eliminates calls id r t s) rest

pub typed_in_order : (whnf : Tree → Counted Tree) (calls : Calls) (G : Context) (m : Match) (b : Budget) →
    typed_match whnf calls G m b ≡ match_steps whnf calls G m b
typed_in_order whnf calls G m b =
    let t = type_declaration m.ty.now in
    let p = shared_tree m.motive.now in
    let branches = branch_list m.branches.now in
    follow_same (calls.infer G (shared_tree m.scrutinee.now) b) _ _ (λ T b1.
    follow_same (expose whnf calls G T b1) _ _ (λ C b2.
    follow_same (require (same_tree (head_of C) (ind m.ind.now) && nat_eq (length (arguments_of C)) (m.parameters + m.indices)) (not_inductive (length G) C) b2) _ _ (λ _ b3.
    follow_same (require (nat_eq m.arity m.indices && are_branches m.parameters t.constructors branches) (bad_branch_count m.ind.now) b3) _ _ (λ _ b4.
    motive_first calls G m.ind.now m.parameters m.indices (take m.parameters (arguments_of C)) p t
    (λ b5. follow (check_branches calls G m.indices (take m.parameters (arguments_of C)) p t.constructors branches b5)
    (λ _. fitting (substitute_all (drop m.parameters (arguments_of C) ++ shared_tree m.scrutinee.now ∷ []) p))) b4))))

-- The steps in a row, each in the context and at the depth in which the one before left off.
pub steps_join : (E : Environment) (d d1 d2 : ℕ) (G G1 G2 : Context) (m : Match) (T C : Tree) (b b1 b2 left : Budget) (result : Result (Rc Term Global) Stop) →
    (calls_from (d + 1) E).infer G (shared_tree m.scrutinee.now) b ≡ done T b1 →
    d1 ≡ d → G1 ≡ G → expose (whnf_from (d1 + 1) E G1) (calls_from (d1 + 1) E) G1 T b1 ≡ done C b2 →
    d2 ≡ d → G2 ≡ G → Counts shared_tree result left (match_at (calls_from (d2 + 1) E) G2 m C b2) →
    Counts shared_tree result left (match_steps (whnf_from (d + 1) E G) (calls_from (d + 1) E) G m b)
steps_join E d d1 d2 G G1 G2 m T C b b1 b2 left result inferred e1 f1 exposed e2 f2 last =
    let calls = calls_from (d + 1) E in
    let whnf = whnf_from (d + 1) E G in
    let at : Tree → Counted Tree = λ C. match_at calls G m C in
    let from : Tree → Counted Tree = λ T. λ b. follow (expose whnf calls G T b) at in
    let here : expose whnf calls G T b1 ≡ done C b2 = sym (ap₂ (λ n H. expose (whnf_from (n + 1) E H) (calls_from (n + 1) E) H T b1) e1 f1) ∙ exposed in
    subst (λ o. Counts shared_tree result left o)
    (ap₂ (λ n H. match_at (calls_from (n + 1) E) H m C b2) e2 f2 ∙ sym (ap (λ o. follow o from) inferred ∙ ap (λ o. follow o at) here))
    last

-- What is left when the motive is checked.
pub after_motive : (calls : Calls) (G : Context) (m : Match) (us vs : List Tree) (b b1 : Budget) →
    check_motive calls G m.ind.now m.parameters m.indices us (shared_tree m.motive.now) (type_declaration m.ty.now) b ≡ done tt b1 →
    match_with calls G m us vs b
    ≡ follow (check_branches calls G m.indices us (shared_tree m.motive.now) (type_declaration m.ty.now).constructors (branch_list m.branches.now) b1)
    (λ _. fitting (substitute_all (vs ++ shared_tree m.scrutinee.now ∷ []) (shared_tree m.motive.now)))
after_motive calls G m us vs b b1 checked =
    ap (λ o. follow o (λ _. λ b2. follow (check_branches calls G m.indices us (shared_tree m.motive.now) (type_declaration m.ty.now).constructors (branch_list m.branches.now) b2)
    (λ _. fitting (substitute_all (vs ++ shared_tree m.scrutinee.now ∷ []) (shared_tree m.motive.now))))) checked
