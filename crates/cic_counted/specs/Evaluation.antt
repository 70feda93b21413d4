-- The counted functions of evaluation: weak head normal form, conversion and subtyping, with their
-- calls and steps counted (this project's own; the reductions are those of the Coq Reference Manual,
-- "Conversion rules"). Each is one step over the calls one deeper; only the functions named `.._at`
-- recurse, on what is left of the depth.
use Rattle.std.specs.Prelude.{ℕ, zero, suc, ◌+◌, ◌-◌, Bool, true, false, ◌&&◌, nat_eq, if◌then◌else◌, Option, Some, None, option_and_then, List, [], ◌∷◌, length, drop}
use Rattle.cic_terms.specs.Tree.{TreeSort, prop, set, typ, Former, LetF, CaseF, FixF, over, Tree, rel, node, Children, no_child, child, sort, prod, lam, let_in, app, const, ctor, case, fix}
use Rattle.cic_terms.specs.Lift.{lift_tree, subst_tree}
use Rattle.cic_names.specs.declared.name.GlobalId.{GlobalId}
use Rattle.cic_names.specs.declared.level.Level.{Level}
use Rattle.cic_names.specs.declared.level.Atom.{Atom}
use Rattle.cic_names.specs.Sameness.{same_id, same_atoms}
use Rattle.cic_counted.specs.Sameness.{same_sort, same_shapes, same_former, same_binders, same_tree}
use Rattle.cic_rules.specs.Environment.{Environment, Context, Constructor, transparent_body, constructor_of, body_at, element, unknown, under_unknown}
use Rattle.cic_rules.specs.Numbering.{plain_level}
use Rattle.cic_rules.specs.Telescopes.{apply, head_of, abstractions, substitute_all, lift_domains, BranchParts, branch_at, Function, function_types, unfolded}
use Rattle.cic_counted.specs.Readings.{arguments_of, functions_of}
use Rattle.cic_counted.specs.Outcome.{Counted, mismatch, universe_form, spent, deep, ◌>>=◌, ◌>>◌, give, stop, refuse, tick, note, fitting, fitting_all}

-- After a turn of the loop: the answer, or the term to go on with.
pub data Turn : Type 0 where
  answer : Tree → Turn
  again : Tree → Turn

-- A reduction step to a term that a lift or a substitution made.
abbrev pub reduce : Tree → Counted Turn
reduce t = do
  tick
  u ← fitting t
  give (again u)

-- A variable: its body, lifted.
abbrev pub variable_turn : Option Tree → ℕ → Counted Turn
variable_turn None x = give (answer (rel x))
variable_turn (Some b) x = reduce (lift_tree 0 (x + 1) b)

-- A constant: the body of a transparent one, as it stands.
abbrev pub constant_turn : Option Tree → GlobalId → Counted Turn
constant_turn None c = give (answer (const c))
constant_turn (Some b) c = do
  tick
  give (again b)

-- Whether a term is a constructor under arguments.
abbrev pub is_constructor : Tree → Bool
is_constructor (ctor c) = true
is_constructor t = false

-- The function of a Fix that a term is, under exactly as many arguments as stand before its recursive
-- one, with the Fixes put in for the functions: what it unfolds to.
abbrev pub unfolded_at : ℕ → List Function → Option Function → Option Tree
unfolded_at count fs None = None
unfolded_at count fs (Some f) = if nat_eq count f.recursive_place then Some (unfolded fs f) else None

abbrev pub unfolds : ℕ → Tree → Option Tree
unfolds count (fix which shapes parts) =
    option_and_then (λ fs. unfolded_at count fs (element fs which)) (functions_of shapes parts)
unfolds count t = None

-- A function of a Fix under arguments, before its recursive argument `u`, which evaluates to `v`.
abbrev pub recursive_turn : (f u v unfolded : Tree) → Counted Turn
recursive_turn f u v F =
    if is_constructor (head_of v)
    then (do
      tick
      F' ← fitting F
      give (again (app (apply F' (arguments_of f)) v)))
    else give (answer (app f u))

abbrev pub fix_turn : (Tree → Counted Tree) → (f u : Tree) → Option Tree → Counted Turn
fix_turn whnf f u None = give (answer (app f u))
fix_turn whnf f u (Some F) = do
  v ← whnf u
  recursive_turn f u v F

-- An application whose function evaluates to f.
abbrev pub application_turn : (Tree → Counted Tree) → (f u : Tree) → Counted Turn
application_turn whnf (lam a b) u = reduce (subst_tree 0 u b)
application_turn whnf f u = fix_turn whnf f u (unfolds (length (arguments_of f)) (head_of f))

-- The branch that a constructor under arguments selects, with its own arguments put in.
abbrev pub branch_result : (r : ℕ) → List Tree → Option BranchParts → Option Tree
branch_result r us None = None
branch_result r us (Some b) =
    if nat_eq (length us) (r + b.binders) then Some (substitute_all (drop r us) b.body) else None

abbrev pub selected : GlobalId → Children → List Tree → Option Constructor → Option Tree
selected id branches us None = None
selected id branches us (Some c) =
    if same_id c.owner id then branch_result c.parameters us (branch_at branches c.place) else None

abbrev pub matched : Environment → GlobalId → Children → List Tree → Tree → Option Tree
matched E id branches us (ctor c) = selected id branches us (constructor_of E c)
matched E id branches us t = None

-- A match whose value evaluates to v.
abbrev pub match_turn : Tree → Option Tree → Counted Turn
match_turn stuck None = give (answer stuck)
match_turn stuck (Some t) = reduce t

abbrev pub turn_of : (Tree → Counted Tree) → Environment → Context → Tree → Counted Turn
turn_of whnf E G (rel x) = variable_turn (body_at G x) x
turn_of whnf E G (const c) = constant_turn (transparent_body E c) c
turn_of whnf E G (let_in t a u) = reduce (subst_tree 0 t u)
turn_of whnf E G (app f u) = do
  g ← whnf f
  application_turn whnf g u
turn_of whnf E G (case id n p c branches) = do
  v ← whnf c
  match_turn (case id n p v branches) (matched E id branches (arguments_of v) (head_of v))
turn_of whnf E G t = give (answer t)

abbrev pub goes_on : (Tree → Counted Tree) → Turn → Counted Tree
goes_on on (answer t) = give t
goes_on on (again t) = on t

-- At most `turns` more turns after this one. Each turn that goes on took a step, so the rest of the
-- budget is enough of them.
abbrev pub loop_of : (turns : ℕ) → (Tree → Counted Tree) → Environment → Context → Tree → Counted Tree
loop_of zero whnf E G t = turn_of whnf E G t >>= goes_on (λ _. stop spent)
loop_of (suc n) whnf E G t = turn_of whnf E G t >>= goes_on (loop_of n whnf E G)

unfoldable pub whnf_at : ℕ → Environment → Context → Tree → Counted Tree
whnf_at zero E G t = stop deep
whnf_at (suc k) E G t = do
  tick
  λ b. loop_of b.rest (whnf_at k E G) E G t b

-- Two terms, in weak head form, that are not alike.
abbrev pub differ : Context → Tree → Tree → Counted (Unit {0})
differ G a b = refuse (mismatch (length G) a b)

-- Two expressions that differ: two plain levels are made equal by two constraints.
abbrev pub equal_levels : (e e' : List Atom) → Option Level → Option Level → Counted (Unit {0})
equal_levels e e' (Some l) (Some m) = do
  note (record { left = l; strict = false; right = m })
  note (record { left = m; strict = false; right = l })
equal_levels e e' _ _ = refuse (universe_form (typ e) (typ e'))

abbrev pub equal_sorts : Context → TreeSort → TreeSort → Counted (Unit {0})
equal_sorts G (typ e) (typ e') =
    if same_atoms e e' then give tt else equal_levels e e' (plain_level e) (plain_level e')
equal_sorts G s s' = if same_sort s s' then give tt else differ G (sort s) (sort s')

-- Every atom of an expression is at most a level, or below it where it has plus.
abbrev pub atoms_below : List Atom → Level → Counted (Unit {0})
atoms_below [] m = give tt
atoms_below (a ∷ as_) m = do
  note (record { left = a.level; strict = a.plus; right = m })
  atoms_below as_ m

abbrev pub levels_at_most : (e e' : List Atom) → Option Level → Counted (Unit {0})
levels_at_most e e' (Some m) = atoms_below e m
levels_at_most e e' None = refuse (universe_form (typ e) (typ e'))

-- A sort at most another (Coq Reference Manual, "Subtyping rules"). It is not counted.
abbrev pub sorts_at_most : Context → TreeSort → TreeSort → Counted (Unit {0})
sorts_at_most G prop s' = give tt
sorts_at_most G set set = give tt
sorts_at_most G set (typ e') = give tt
sorts_at_most G (typ e) (typ e') =
    if same_atoms e e' then give tt else levels_at_most e e' (plain_level e')
sorts_at_most G s s' = differ G (sort s) (sort s')

-- The same number of parts, pairwise under equal numbers of binders.
abbrev pub same_places : Children → Children → Bool
same_places no_child no_child = true
same_places (child b t ks) (child c u ls) = same_binders b c && same_places ks ls
same_places _ _ = false

-- Part by part, each under its binders.
abbrev pub convert_children : (Context → Tree → Tree → Counted (Unit {0})) → Context → Children → Children → Counted (Unit {0})
convert_children conv G (child b t ks) (child c u ls) = do
  conv (under_unknown (over b 0) G) t u
  convert_children conv G ks ls
convert_children conv G _ _ = give tt

-- Term by term.
abbrev pub convert_each : (Context → Tree → Tree → Counted (Unit {0})) → Context → List Tree → List Tree → Counted (Unit {0})
convert_each conv G (t ∷ ts) (u ∷ us) = do
  conv G t u
  convert_each conv G ts us
convert_each conv G _ _ = give tt

-- The full body of a function, its domains lifted past all functions.
abbrev pub fitting_body : (all : ℕ) → Function → Counted Tree
fitting_body all f = do
  as_ ← fitting_all (lift_domains 0 all f.domains)
  give (abstractions as_ f.body)

abbrev pub convert_bodies : (Context → Tree → Tree → Counted (Unit {0})) → Context → (all : ℕ) → List Function → List Function → Counted (Unit {0})
convert_bodies conv G all (f ∷ fs) (g ∷ gs) = do
  t ← fitting_body all f
  u ← fitting_body all g
  conv G t u
  convert_bodies conv G all fs gs
convert_bodies conv G all _ _ = give tt

-- Two Fixes of the same shape: the types of the functions, then their full bodies under the functions.
abbrev pub convert_functions : (Context → Tree → Tree → Counted (Unit {0})) → Context → (a b : Tree) → Option (List Function) → Option (List Function) → Counted (Unit {0})
convert_functions conv G a b (Some fs) (Some gs) = do
  convert_each conv G (function_types fs) (function_types gs)
  convert_bodies conv (under_unknown (length fs) G) (length fs) fs gs
convert_functions conv G a b _ _ = differ G a b

-- The parts of a match with its value before its motive.
abbrev pub value_first : Children → Children
value_first (child b p (child c v branches)) = child c v (child b p branches)
value_first ks = ks

-- Two nodes: matches by value, motive and branches, Fixes by their functions,
-- and all others with the same former by their parts in order.
abbrev pub compare_nodes : (Context → Tree → Tree → Counted (Unit {0})) → Context → Former → Former → Children → Children → Counted (Unit {0})
compare_nodes conv G (CaseF c) (CaseF d) ks ls =
    if same_id c d && same_places ks ls
    then convert_children conv G (value_first ks) (value_first ls)
    else differ G (node (CaseF c) ks) (node (CaseF d) ls)
compare_nodes conv G (FixF i s) (FixF j s') ks ls =
    if nat_eq i j && same_shapes s s'
    then convert_functions conv G (node (FixF i s) ks) (node (FixF j s') ls) (functions_of s ks) (functions_of s' ls)
    else differ G (node (FixF i s) ks) (node (FixF j s') ls)
compare_nodes conv G LetF g ks ls = differ G (node LetF ks) (node g ls)
compare_nodes conv G f g ks ls =
    if same_former f g && same_places ks ls
    then convert_children conv G ks ls
    else differ G (node f ks) (node g ls)

-- Two terms in weak head form, by their formers.
abbrev pub compare : (Context → Tree → Tree → Counted (Unit {0})) → Context → Tree → Tree → Counted (Unit {0})
compare conv G (sort s) (sort s') = equal_sorts G s s'
compare conv G (rel x) (rel y) = if nat_eq x y then give tt else differ G (rel x) (rel y)
compare conv G (node f ks) (node g ls) = compare_nodes conv G f g ks ls
compare conv G a b = differ G a b

-- The body of an abstraction.
abbrev pub body_of : Tree → Option Tree
body_of (lam a t) = Some t
body_of t = None

-- Two terms in weak head form, by eta for functions where one of them alone is an abstraction: its body
-- and the other, lifted and applied to the variable.
abbrev pub by_bodies : (Context → Tree → Tree → Counted (Unit {0})) → Context → Tree → Tree → Option Tree → Option Tree → Counted (Unit {0})
by_bodies conv G v w (Some t) None = do
  w' ← fitting (lift_tree 0 1 w)
  conv (unknown ∷ G) t (app w' (rel 0))
by_bodies conv G v w None (Some t) = do
  v' ← fitting (lift_tree 0 1 v)
  conv (unknown ∷ G) (app v' (rel 0)) t
by_bodies conv G v w _ _ = compare conv G v w

abbrev pub compare_heads : (Context → Tree → Tree → Counted (Unit {0})) → Context → Tree → Tree → Counted (Unit {0})
compare_heads conv G v w = by_bodies conv G v w (body_of v) (body_of w)

abbrev pub conv_step : (Context → Tree → Counted Tree) → (Context → Tree → Tree → Counted (Unit {0})) → Context → Tree → Tree → Counted (Unit {0})
conv_step whnf conv G a b =
    if same_tree a b then give tt else do
      v ← whnf G a
      w ← whnf G b
      compare_heads conv G v w

unfoldable pub conv_at : ℕ → Environment → Context → Tree → Tree → Counted (Unit {0})
conv_at zero E G a b = stop deep
conv_at (suc k) E G a b = do
  tick
  conv_step (whnf_at k E) (conv_at k E) G a b

-- Two terms in weak head form, the first at most the second: products by their codomains alone.
abbrev pub below_or_equal : (Context → Tree → Tree → Counted (Unit {0})) → (Context → Tree → Tree → Counted (Unit {0})) → Context → Tree → Tree → Counted (Unit {0})
below_or_equal conv cumul G (prod a b) (prod c d) = do
  conv G a c
  cumul (unknown ∷ G) b d
below_or_equal conv cumul G (sort s) (sort s') = sorts_at_most G s s'
below_or_equal conv cumul G a b = compare_heads conv G a b

abbrev pub cumul_step : (Context → Tree → Counted Tree) → (Context → Tree → Tree → Counted (Unit {0})) → (Context → Tree → Tree → Counted (Unit {0})) → Context → Tree → Tree → Counted (Unit {0})
cumul_step whnf conv cumul G a b =
    if same_tree a b then give tt else do
      v ← whnf G a
      w ← whnf G b
      below_or_equal conv cumul G v w

unfoldable pub cumul_at : ℕ → Environment → Context → Tree → Tree → Counted (Unit {0})
cumul_at zero E G a b = stop deep
cumul_at (suc k) E G a b = do
  tick
  cumul_step (whnf_at k E) (conv_at k E) (cumul_at k E) G a b

-- The counted functions by the depth of the call, which is at most 2,001. A call from outside has
-- depth 1.
unfoldable pub whnf_from : ℕ → Environment → Context → Tree → Counted Tree
whnf_from d = whnf_at (2001 - d)

unfoldable pub conv_from : ℕ → Environment → Context → Tree → Tree → Counted (Unit {0})
conv_from d = conv_at (2001 - d)

unfoldable pub cumul_from : ℕ → Environment → Context → Tree → Tree → Counted (Unit {0})
cumul_from d = cumul_at (2001 - d)
