-- The counted functions of evaluation where they are done: with which answer, in how many steps, how many calls deep
-- and with which constraints (this project's own). It says the same as the functions do, as rules, for
-- proofs by induction on what is accepted.
use Rattle.std.specs.Prelude.{ℕ, ◌-◌, ◌+◌, ◌≡◌, ◌≢◌, ◌≤◌, max, true, false, nat_eq, Some, None, List, [], ◌∷◌, ◌++◌, length}
use Rattle.cic_terms.specs.Tree.{TreeSort, prop, set, typ, Shape, Former, CaseF, FixF, LetF, over, Tree, rel, node, Children, no_child, child, sort, prod, lam, let_in, app, const, case}
use Rattle.cic_terms.specs.Lift.{lift_tree, subst_tree}
use Rattle.cic_names.specs.declared.name.GlobalId.{GlobalId}
use Rattle.cic_names.specs.declared.level.Level.{Level}
use Rattle.cic_names.specs.declared.level.Atom.{Atom}
use Rattle.cic_names.specs.Sameness.{same_id, same_atoms}
use Rattle.cic_counted.specs.Sameness.{same_sort, same_shapes, same_former, same_tree}
use Rattle.cic_names.specs.declared.constraint.Constraint.{Constraint}
use Rattle.cic_names.specs.Orders.{insert_constraints}
use Rattle.cic_rules.specs.Numbering.{plain_level}
use Rattle.cic_rules.specs.Environment.{Environment, Context, transparent_body, body_at, unknown, under_unknown}
use Rattle.cic_rules.specs.Telescopes.{apply, head_of, lift_domains, Function, function_types, full_body}
use Rattle.cic_counted.specs.Readings.{arguments_of, functions_of}
use Rattle.cic_counted.specs.Outcome.{Budget, is_small}
use Rattle.cic_counted.specs.Evaluation.{is_constructor, unfolds, matched, same_places, value_first, body_of}

-- What a call takes: its steps, the calls that are open at once, itself among them, and the constraints
-- that it finds, in order.
pub record Cost : Type 0 where
  pub steps : ℕ
  pub depth : ℕ
  pub found : List Constraint

abbrev pub free : Cost
free = record { steps = 0; depth = 0; found = [] }

-- One after the other, the entry of a call, a reduction step, and a constraint that is found.
infixl 10 ◌then◌
abbrev pub ◌then◌ : Cost → Cost → Cost
c then d = record { steps = c.steps + d.steps; depth = max c.depth d.depth; found = c.found ++ d.found }

abbrev pub called : Cost → Cost
called c = record { steps = c.steps + 1; depth = c.depth + 1; found = c.found }

abbrev pub stepped : Cost → Cost
stepped c = record { steps = c.steps + 1; depth = c.depth; found = c.found }

abbrev pub finds : Constraint → Cost
finds c = record { steps = 0; depth = 0; found = c ∷ [] }

-- What a call that is done has taken.
pub record Took (c : Cost) (b b' : Budget) : Type 0 where
  pub rest : b.rest ≡ c.steps + b'.rest
  pub found : b'.found ≡ insert_constraints b.found c.found

-- What is left after a cost.
abbrev pub left_after : Cost → Budget → Budget
left_after c b = record { rest = b.rest - c.steps; found = insert_constraints b.found c.found }

-- Each of several terms is within the limits.
abbrev pub AllSmall : List Tree → Type 0
AllSmall [] = Unit {0}
AllSmall (t ∷ ts) = (is_small t ≡ true) × AllSmall ts

-- Terms at which evaluation stops at once: all but variables, constants, local definitions, applications
-- and matches.
abbrev pub NeedsNoEvaluation : Tree → Type 0
NeedsNoEvaluation (rel x) = ⊥
NeedsNoEvaluation (const c) = ⊥
NeedsNoEvaluation (let_in t a u) = ⊥
NeedsNoEvaluation (app f u) = ⊥
NeedsNoEvaluation (case id n p v branches) = ⊥
NeedsNoEvaluation t = Unit {0}

abbrev pub IsAbstraction : Tree → Type 0
IsAbstraction (lam a b) = Unit {0}
IsAbstraction t = ⊥

mutual
  -- A call of evaluation to weak head normal form, and its loop.
  pub data Evaluates (E : Environment) (G : Context) : Tree → Tree → Cost → Type 0 where
    evaluates : {t v : Tree} {c k : Cost} →
        Reduces E G t v c →
        k ≡ called c →
        Evaluates E G t v k

  pub data Reduces (E : Environment) (G : Context) : Tree → Tree → Cost → Type 0 where
    needs_no_evaluation : {t : Tree} →
        NeedsNoEvaluation t →
        Reduces E G t t free
    variable_stays : {x : ℕ} →
        body_at G x ≡ None →
        Reduces E G (rel x) (rel x) free
    variable_steps : {x : ℕ} {b v : Tree} {c k : Cost} →
        body_at G x ≡ Some b →
        is_small (lift_tree 0 (x + 1) b) ≡ true →
        Reduces E G (lift_tree 0 (x + 1) b) v c →
        k ≡ stepped c →
        Reduces E G (rel x) v k
    constant_stays : {id : GlobalId} →
        transparent_body E id ≡ None →
        Reduces E G (const id) (const id) free
    constant_steps : {id : GlobalId} {b v : Tree} {c k : Cost} →
        transparent_body E id ≡ Some b →
        Reduces E G b v c →
        k ≡ stepped c →
        Reduces E G (const id) v k
    let_steps : {t a u v : Tree} {c k : Cost} →
        is_small (subst_tree 0 t u) ≡ true →
        Reduces E G (subst_tree 0 t u) v c →
        k ≡ stepped c →
        Reduces E G (let_in t a u) v k
    function_applied : {f u a b v : Tree} {c d k : Cost} →
        Evaluates E G f (lam a b) c →
        is_small (subst_tree 0 u b) ≡ true →
        Reduces E G (subst_tree 0 u b) v d →
        k ≡ (c then stepped d) →
        Reduces E G (app f u) v k
    application_stays : {f g u t : Tree} {c : Cost} →
        Evaluates E G f g c →
        ¬ IsAbstraction g →
        unfolds (length (arguments_of g)) (head_of g) ≡ None →
        t ≡ app g u →
        Reduces E G (app f u) t c
    recursion_stays : {f g u F w t : Tree} {c d k : Cost} →
        Evaluates E G f g c →
        unfolds (length (arguments_of g)) (head_of g) ≡ Some F →
        Evaluates E G u w d →
        is_constructor (head_of w) ≡ false →
        t ≡ app g u →
        k ≡ (c then d) →
        Reduces E G (app f u) t k
    recursion_steps : {f g u F w v : Tree} {c d e k : Cost} →
        Evaluates E G f g c →
        unfolds (length (arguments_of g)) (head_of g) ≡ Some F →
        Evaluates E G u w d →
        is_constructor (head_of w) ≡ true →
        is_small F ≡ true →
        Reduces E G (app (apply F (arguments_of g)) w) v e →
        k ≡ (c then d then stepped e) →
        Reduces E G (app f u) v k
    match_stays : {id : GlobalId} {n : ℕ} {p t w s : Tree} {branches : Children} {c : Cost} →
        Evaluates E G t w c →
        matched E id branches (arguments_of w) (head_of w) ≡ None →
        s ≡ case id n p w branches →
        Reduces E G (case id n p t branches) s c
    match_steps : {id : GlobalId} {n : ℕ} {p t w b v : Tree} {branches : Children} {c d k : Cost} →
        Evaluates E G t w c →
        matched E id branches (arguments_of w) (head_of w) ≡ Some b →
        is_small b ≡ true →
        Reduces E G b v d →
        k ≡ (c then stepped d) →
        Reduces E G (case id n p t branches) v k

-- Evaluated with at most k calls open, at the cost that was taken.
abbrev pub Evaluated : Environment → Context → ℕ → Tree → Tree → Budget → Budget → Type 0
Evaluated E G k t v b b' = (c : Cost) × Evaluates E G t v c × (c.depth ≤ k) × Took c b b'

-- Two sorts are made equal, and one at most the other, by constraints.
pub data SortsEqual : TreeSort → TreeSort → Cost → Type 0 where
  same_sorts : {s s' : TreeSort} →
      same_sort s s' ≡ true →
      SortsEqual s s' free
  levels_equal : {e e' : List Atom} {k : Cost} →
      (l m : Level) →
      same_atoms e e' ≡ false →
      plain_level e ≡ Some l →
      plain_level e' ≡ Some m →
      k ≡ (finds (record { left = l; strict = false; right = m }) then finds (record { left = m; strict = false; right = l })) →
      SortsEqual (typ e) (typ e') k

pub data AtomsBelow (m : Level) : List Atom → Cost → Type 0 where
  no_atom :
      AtomsBelow m [] free
  atom_below : {a : Atom} {as_ : List Atom} {c k : Cost} →
      AtomsBelow m as_ c →
      k ≡ (finds (record { left = a.level; strict = a.plus; right = m }) then c) →
      AtomsBelow m (a ∷ as_) k

pub data SortsBelow : TreeSort → TreeSort → Cost → Type 0 where
  prop_below : {s : TreeSort} →
      SortsBelow prop s free
  set_below_set :
      SortsBelow set set free
  set_below_universe : {e : List Atom} →
      SortsBelow set (typ e) free
  same_universes : {e e' : List Atom} →
      same_atoms e e' ≡ true →
      SortsBelow (typ e) (typ e') free
  levels_below : {e e' : List Atom} {c : Cost} →
      (m : Level) →
      same_atoms e e' ≡ false →
      plain_level e' ≡ Some m →
      AtomsBelow m e c →
      SortsBelow (typ e) (typ e') c

-- The formers whose parts are compared in order.
abbrev pub InOrder : Former → Type 0
InOrder (CaseF id) = ⊥
InOrder (FixF which shapes) = ⊥
InOrder LetF = ⊥
InOrder f = Unit {0}

mutual
  -- A call of conversion, and the comparison of two terms in weak head form.
  pub data Converts (E : Environment) : Context → Tree → Tree → Cost → Type 0 where
    converts_same : {G : Context} {a b : Tree} {k : Cost} →
        same_tree a b ≡ true →
        k ≡ called free →
        Converts E G a b k
    converts_heads : {G : Context} {a b v w : Tree} {c d e k : Cost} →
        same_tree a b ≡ false →
        Evaluates E G a v c →
        Evaluates E G b w d →
        Compares E G v w e →
        k ≡ called (c then d then e) →
        Converts E G a b k

  pub data Compares (E : Environment) : Context → Tree → Tree → Cost → Type 0 where
    same_variables : {G : Context} {x y : ℕ} →
        nat_eq x y ≡ true →
        Compares E G (rel x) (rel y) free
    equal_sorts : {G : Context} {s s' : TreeSort} {c : Cost} →
        SortsEqual s s' c →
        Compares E G (sort s) (sort s') c
    in_order : {G : Context} {f g : Former} {ks ls : Children} {c : Cost} →
        InOrder f →
        same_former f g ≡ true →
        same_places ks ls ≡ true →
        ConvertsParts E G ks ls c →
        Compares E G (node f ks) (node g ls) c
    matches : {G : Context} {id id' : GlobalId} {ks ls : Children} {c : Cost} →
        same_id id id' ≡ true →
        same_places ks ls ≡ true →
        ConvertsParts E G (value_first ks) (value_first ls) c →
        Compares E G (node (CaseF id) ks) (node (CaseF id') ls) c
    fixpoints : {G : Context} {i j : ℕ} {shapes shapes' : List Shape} {ks ls : Children} {c d k : Cost} →
        (fs gs : List Function) →
        nat_eq i j ≡ true →
        same_shapes shapes shapes' ≡ true →
        functions_of shapes ks ≡ Some fs →
        functions_of shapes' ls ≡ Some gs →
        ConvertsEach E G (function_types fs) (function_types gs) c →
        ConvertsBodies E (under_unknown (length fs) G) (length fs) fs gs d →
        k ≡ (c then d) →
        Compares E G (node (FixF i shapes) ks) (node (FixF j shapes') ls) k
    expands_left : {G : Context} {v w t : Tree} {c : Cost} →
        body_of v ≡ Some t →
        body_of w ≡ None →
        is_small (lift_tree 0 1 w) ≡ true →
        Converts E (unknown ∷ G) t (app (lift_tree 0 1 w) (rel 0)) c →
        Compares E G v w c
    expands_right : {G : Context} {v w t : Tree} {c : Cost} →
        body_of v ≡ None →
        body_of w ≡ Some t →
        is_small (lift_tree 0 1 v) ≡ true →
        Converts E (unknown ∷ G) (app (lift_tree 0 1 v) (rel 0)) t c →
        Compares E G v w c

  pub data ConvertsParts (E : Environment) : Context → Children → Children → Cost → Type 0 where
    converts_no_part : {G : Context} →
        ConvertsParts E G no_child no_child free
    converts_part : {G : Context} {b b' : _} {t u : Tree} {ks ls : Children} {c d k : Cost} →
        Converts E (under_unknown (over b 0) G) t u c →
        ConvertsParts E G ks ls d →
        k ≡ (c then d) →
        ConvertsParts E G (child b t ks) (child b' u ls) k

  pub data ConvertsEach (E : Environment) : Context → List Tree → List Tree → Cost → Type 0 where
    converts_none : {G : Context} →
        ConvertsEach E G [] [] free
    converts_more : {G : Context} {t u : Tree} {ts us : List Tree} {c d k : Cost} →
        Converts E G t u c →
        ConvertsEach E G ts us d →
        k ≡ (c then d) →
        ConvertsEach E G (t ∷ ts) (u ∷ us) k

  pub data ConvertsBodies (E : Environment) : Context → (all : ℕ) → List Function → List Function → Cost → Type 0 where
    converts_no_body : {G : Context} {all : ℕ} →
        ConvertsBodies E G all [] [] free
    converts_body : {G : Context} {all : ℕ} {f g : Function} {fs gs : List Function} {c d k : Cost} →
        AllSmall (lift_domains 0 all f.domains) →
        AllSmall (lift_domains 0 all g.domains) →
        Converts E G (full_body all f) (full_body all g) c →
        ConvertsBodies E G all fs gs d →
        k ≡ (c then d) →
        ConvertsBodies E G all (f ∷ fs) (g ∷ gs) k

mutual
  -- A call of subtyping, and the comparison of two terms in weak head form.
  pub data Cumulates (E : Environment) : Context → Tree → Tree → Cost → Type 0 where
    cumulates_same : {G : Context} {a b : Tree} {k : Cost} →
        same_tree a b ≡ true →
        k ≡ called free →
        Cumulates E G a b k
    cumulates_heads : {G : Context} {a b v w : Tree} {c d e k : Cost} →
        same_tree a b ≡ false →
        Evaluates E G a v c →
        Evaluates E G b w d →
        Below E G v w e →
        k ≡ called (c then d then e) →
        Cumulates E G a b k

  pub data Below (E : Environment) : Context → Tree → Tree → Cost → Type 0 where
    products_below : {G : Context} {a a' b b' : Tree} {c d k : Cost} →
        Converts E G a a' c →
        Cumulates E (unknown ∷ G) b b' d →
        k ≡ (c then d) →
        Below E G (prod a b) (prod a' b') k
    sorts_below : {G : Context} {s s' : TreeSort} {c : Cost} →
        SortsBelow s s' c →
        Below E G (sort s) (sort s') c
    compared : {G : Context} {a b : Tree} {c : Cost} →
        ((s s' : TreeSort) → a ≡ sort s → b ≢ sort s') →
        ((x y x' y' : Tree) → a ≡ prod x y → b ≢ prod x' y') →
        Compares E G a b c →
        Below E G a b c

-- Converted, and at most, with at most k calls open, at the cost that was taken.
abbrev pub Converted : Environment → Context → ℕ → Tree → Tree → Budget → Budget → Type 0
Converted E G k t u b b' = (c : Cost) × Converts E G t u c × (c.depth ≤ k) × Took c b b'

abbrev pub Cumulated : Environment → Context → ℕ → Tree → Tree → Budget → Budget → Type 0
Cumulated E G k t u b b' = (c : Cost) × Cumulates E G t u c × (c.depth ≤ k) × Took c b b'
