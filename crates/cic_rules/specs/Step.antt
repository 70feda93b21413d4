-- One step of reduction, at any position of a term (Coq Reference Manual, "Conversion rules": beta,
-- delta, iota and zeta reduction).
use Rattle.std.specs.Prelude.{ℕ, ◌+◌, ◌≡◌, ◌≢◌, Some, List, [], ◌∷◌, ◌++◌, length}
use Rattle.cic_terms.specs.Tree.{Former, LetF, Binders, over, Tree, rel, node, Children, child, lam, let_in, app, const, ctor, case}
use Rattle.cic_terms.specs.Lift.{lift_tree, subst_tree}
use Rattle.cic_names.specs.declared.name.GlobalId.{GlobalId}
use Rattle.cic_rules.specs.Environment.{Environment, Context, Constructor, transparent_body, constructor_of, body_at, element, defined, under_unknown}
use Rattle.cic_rules.specs.Telescopes.{apply, substitute_all, branch_at, Function, fixpoint, unfolded}

mutual
  pub data Step (E : Environment) : Context → Tree → Tree → Type 0 where
    -- (fun x : A => b) u steps to b with u for x.
    beta : {G : Context} {a b u t : Tree} →
        t ≡ subst_tree 0 u b →
        Step E G (app (lam a b) u) t
    -- let x := t : A in u steps to u with t for x.
    zeta : {G : Context} {a b u t : Tree} →
        t ≡ subst_tree 0 u b →
        Step E G (let_in u a b) t
    -- A variable with a body steps to it, lifted past the entries up to its own.
    delta_variable : {G : Context} {x : ℕ} {b t : Tree} →
        body_at G x ≡ Some b →
        t ≡ lift_tree 0 (x + 1) b →
        Step E G (rel x) t
    -- A transparent constant steps to its body, lifted past the context. An opaque one has no step.
    delta_constant : {G : Context} {c : GlobalId} {b t : Tree} →
        transparent_body E c ≡ Some b →
        t ≡ lift_tree 0 (length G) b →
        Step E G (const c) t
    -- A match on constructor c of its type, under the parameters and the constructor's arguments, steps
    -- to the branch of c with the arguments put in.
    iota_match : {G : Context} {id : GlobalId} {n : ℕ} {p v b t : Tree} {branches : Children} {K : Constructor} →
        (c : GlobalId) (parameters arguments : List Tree) →
        v ≡ apply (ctor c) (parameters ++ arguments) →
        constructor_of E c ≡ Some K →
        K.owner ≡ id →
        length parameters ≡ K.parameters →
        branch_at branches K.place ≡ Some (record { binders = length arguments; body = b }) →
        t ≡ substitute_all arguments b →
        Step E G (case id n p v branches) t
    -- A function of a Fix, under the arguments before its recursive one and then a constructor under
    -- arguments, steps to its full body with the Fixes for the functions, applied to all of them.
    iota_fix : {G : Context} {f : Function} {s t : Tree} →
        (which : ℕ) (fs : List Function) (before : List Tree) (c : GlobalId) (arguments : List Tree) →
        s ≡ apply (fixpoint which fs) (before ++ apply (ctor c) arguments ∷ []) →
        element fs which ≡ Some f →
        length before ≡ f.recursive_place →
        t ≡ apply (unfolded fs f) (before ++ apply (ctor c) arguments ∷ []) →
        Step E G s t
    -- A step in one of the parts of a term that is no let, under binders of which nothing is known.
    inside : {G : Context} {f : Former} {ks ks' : Children} →
        f ≢ LetF →
        StepInside E G ks ks' →
        Step E G (node f ks) (node f ks')
    -- A step in the body, the type or the rest of a let. In the rest its body is known.
    in_body : {G : Context} {t t' a b : Tree} →
        Step E G t t' →
        Step E G (let_in t a b) (let_in t' a b)
    in_type : {G : Context} {t a a' b : Tree} →
        Step E G a a' →
        Step E G (let_in t a b) (let_in t a' b)
    in_rest : {G : Context} {t a b b' : Tree} →
        Step E (defined t a ∷ G) b b' →
        Step E G (let_in t a b) (let_in t a b')

  -- A step in one of several parts.
  pub data StepInside (E : Environment) : Context → Children → Children → Type 0 where
    here : {G : Context} {b : Binders} {t t' : Tree} {ks : Children} →
        Step E (under_unknown (over b 0) G) t t' →
        StepInside E G (child b t ks) (child b t' ks)
    there : {G : Context} {b : Binders} {t : Tree} {ks ks' : Children} →
        StepInside E G ks ks' →
        StepInside E G (child b t ks) (child b t ks')
