-- What conversion and subtyping are done with stands in the relation, with its cost. By induction on the depth, over
-- that of evaluation; the laws of conversion are proved by induction on the relation.
use Rattle.std.proofs.Common.{◌≡◌, ◌≢◌, ℕ, zero, suc, ◌≤◌, Bool, true, false, ◌&&◌, nat_eq, if◌then◌else◌, Option, Some, None, List, [], ◌∷◌, length, refl, sym, ap, ap₂, ◌∙◌, arith, subst}
use Rattle.std.proofs.lemmas.Bool.{and_parts, and_from}
use Rattle.cic_terms.specs.Tree.{TreeSort, prop, set, typ, Shape, Former, LetF, CaseF, FixF, over, Tree, rel, node, Children, no_child, child, sort, prod, app}
use Rattle.cic_terms.specs.Lift.{lift_tree}
use Rattle.cic_names.specs.declared.level.Level.{Level}
use Rattle.cic_names.specs.declared.level.Atom.{Atom}
use Rattle.cic_names.specs.Sameness.{same_id, same_atoms}
use Rattle.cic_counted.specs.Sameness.{same_sort, same_shapes, same_former, same_binders, same_tree, same_children}
use Rattle.cic_names.specs.declared.constraint.Constraint.{Constraint}
use Rattle.cic_names.specs.Orders.{insert_constraint}
use Rattle.cic_rules.specs.Numbering.{plain_level}
use Rattle.cic_rules.specs.Environment.{Environment, Context, unknown, under_unknown}
use Rattle.cic_rules.specs.Telescopes.{abstractions, lift_domains, Function, function_parts, function_types, full_body}
use Rattle.cic_counted.specs.Readings.{trees_of, split_functions, functions_of}
use Rattle.cic_counted.specs.Outcome.{Budget, done, Counted, follow, ◌>>=◌, give, tick, fitting, fitting_all}
use Rattle.cic_counted.specs.Evaluation.{equal_levels, equal_sorts, atoms_below, levels_at_most, sorts_at_most, same_places, convert_children, convert_each, fitting_body, convert_bodies, convert_functions, value_first, compare_nodes, compare, body_of, by_bodies, compare_heads, conv_step, conv_at, below_or_equal, cumul_step, cumul_at, whnf_at, differ}
use Rattle.cic_counted.specs.calls.Done.{Cost, free, ◌then◌, called, finds, Took, AllSmall, Evaluates, SortsEqual, same_sorts, levels_equal, AtomsBelow, no_atom, atom_below, SortsBelow, prop_below, set_below_set, set_below_universe, same_universes, levels_below, InOrder, Converts, converts_same, converts_heads, Compares, same_variables, in_order, matches, fixpoints, expands_left, expands_right, ConvertsParts, converts_no_part, converts_part, ConvertsEach, converts_none, converts_more, ConvertsBodies, converts_no_body, converts_body, Cumulates, cumulates_same, cumulates_heads, Below, products_below, sorts_below, compared, Converted, Cumulated}
use Rattle.cic_counted.specs.calls.Done as D
use Rattle.cic_counted.proofs.Taken.{took_free, took_then, follow_done, done_value, done_rest, fitting_done, max_le, whnf_done}

-- Done at a cost in a relation, with at most k calls open.
abbrev pub At : ℕ → (Cost → Type 0) → Budget → Budget → Type 0
At k R b b' = (c : Cost) × R c × (c.depth ≤ k) × Took c b b'

pub at_free : {k : ℕ} {R : Cost → Type 0} {A : Type 0} {u v : A} {b b' : Budget} → R free → done u b ≡ done v b' → At k R b b'
at_free {b = b} h e = (free, h, omega arith, subst (λ z. Took free b z) (done_rest e) (took_free b))

took_note : (c : Constraint) (b : Budget) → Took (finds c) b (record { rest = b.rest; found = insert_constraint b.found c })
took_note c b = record { rest = omega arith; found = refl }

levels_done : {k : ℕ} (e e' : List Atom) (u : Unit {0}) (b b' : Budget) → same_atoms e e' ≡ false → (l m : Option Level) → plain_level e ≡ l → plain_level e' ≡ m → equal_levels e e' l m b ≡ done u b' → At k (SortsEqual (typ e) (typ e')) b b'
levels_done e e' u b b' n (Some l) (Some m) p q h =
    let first : Constraint = record { left = l; strict = false; right = m } in
    let second : Constraint = record { left = m; strict = false; right = l } in
    let taken = took_then (took_note first b) (took_note second _) in
    (finds first then finds second, levels_equal l m n p q refl, omega arith, subst (λ z. Took (finds first then finds second) b z) (done_rest h) taken)
levels_done e e' u b b' n None m p q h = absurd (grind arith)
levels_done e e' u b b' n (Some l) None p q h = absurd (grind arith)

sorts_done : {k : ℕ} (G : Context) (s s' : TreeSort) (u : Unit {0}) (b b' : Budget) → equal_sorts G s s' b ≡ done u b' → At k (SortsEqual s s') b b'
sorts_done G (typ e) (typ e') u b b' h = cases (same_atoms e e') refl h
  where
    cases : {k : ℕ} (same : Bool) → same_atoms e e' ≡ same → (if same then give tt else equal_levels e e' (plain_level e) (plain_level e')) b ≡ done u b' → At k (SortsEqual (typ e) (typ e')) b b'
    cases true q h = at_free (same_sorts q) h
    cases false q h = levels_done e e' u b b' q _ _ refl refl h
sorts_done G s s' u b b' h = other G s s' u b b' _ refl h
  where
    other : {k : ℕ} (G : Context) (s s' : TreeSort) (u : Unit {0}) (b b' : Budget) (same : Bool) → same_sort s s' ≡ same → (if same then give tt else differ G (sort s) (sort s')) b ≡ done u b' → At k (SortsEqual s s') b b'
    other G s s' u b b' true q h = at_free (same_sorts q) h
    other G s s' u b b' false q h = absurd (grind arith)

-- One more constraint before others.
atoms_done : {k : ℕ} (m : Level) (as_ : List Atom) (u : Unit {0}) (b b' : Budget) → atoms_below as_ m b ≡ done u b' → At k (AtomsBelow m as_) b b'
atoms_done m [] u b b' h = at_free no_atom h
atoms_done {k} m (a ∷ as_) u b b' h =
    let first : Constraint = record { left = a.level; strict = a.plus; right = m } in
    let r = atoms_done {k = k} m as_ u _ b' h in
    (finds first then r.0, atom_below r.1 refl, max_le _ _ k (omega arith) r.2, took_then (took_note first b) r.3)

universes_done : {k : ℕ} (e e' : List Atom) (u : Unit {0}) (b b' : Budget) → same_atoms e e' ≡ false → (m : Option Level) → plain_level e' ≡ m → levels_at_most e e' m b ≡ done u b' → At k (SortsBelow (typ e) (typ e')) b b'
universes_done {k} e e' u b b' n (Some m) q h =
    let r = atoms_done {k = k} m e u b b' h in
    (r.0, levels_below m n q r.1, r.2, r.3)
universes_done e e' u b b' n None q h = absurd (grind arith)

pub below_done : {k : ℕ} (G : Context) (s s' : TreeSort) (u : Unit {0}) (b b' : Budget) → sorts_at_most G s s' b ≡ done u b' → At k (SortsBelow s s') b b'
below_done G prop s' u b b' h = at_free prop_below h
below_done G set set u b b' h = at_free set_below_set h
below_done G set (typ e') u b b' h = at_free set_below_universe h
below_done G (typ e) (typ e') u b b' h = cases (same_atoms e e') refl h
  where
    cases : {k : ℕ} (same : Bool) → same_atoms e e' ≡ same → (if same then give tt else levels_at_most e e' (plain_level e')) b ≡ done u b' → At k (SortsBelow (typ e) (typ e')) b b'
    cases true q h = at_free (same_universes q) h
    cases false q h = universes_done e e' u b b' q _ refl h
below_done G s s' u b b' h = absurd (grind arith)

pub fitting_all_done : (ts us : List Tree) (b b' : Budget) → fitting_all ts b ≡ done us b' → AllSmall ts × (ts ≡ us) × (b ≡ b')
fitting_all_done [] us b b' e = (tt, done_value e, done_rest e)
fitting_all_done (t ∷ ts) us b b' e =
    let i = follow_done (fitting t b) (λ u. fitting_all ts >>= (λ us. give (u ∷ us))) us b' e in
    let p = fitting_done t i.0 b i.1 i.2 in
    let j = follow_done (fitting_all ts i.1) (λ us. give (i.0 ∷ us)) us b' i.3 in
    let q = fitting_all_done ts j.0 i.1 j.1 j.2 in
    ((p.0, q.0), ap₂ ◌∷◌ p.1 q.1 ∙ done_value j.3, p.2 ∙ q.2 ∙ done_rest j.3)

pub body_done : (all : ℕ) (f : Function) (t : Tree) (b b' : Budget) → fitting_body all f b ≡ done t b' → AllSmall (lift_domains 0 all f.domains) × (full_body all f ≡ t) × (b ≡ b')
body_done all f t b b' e =
    let i = follow_done (fitting_all (lift_domains 0 all f.domains) b) (λ as_. give (abstractions as_ f.body)) t b' e in
    let p = fitting_all_done (lift_domains 0 all f.domains) i.0 b i.1 i.2 in
    (p.0, ap (λ z. abstractions z f.body) p.1 ∙ done_value i.3, p.2 ∙ done_rest i.3)

-- The functions that are read off parts are as many as the shapes.
split_length : (ss : List Shape) (ts : List Tree) → length (split_functions ss ts) ≡ length ss
split_length [] ts = refl
split_length (s ∷ ss) ts = ap suc (split_length ss _)

functions_length : (ss : List Shape) (ks : Children) (fs : List Function) → functions_of ss ks ≡ Some fs → length fs ≡ length ss
functions_length ss ks fs e = cases _ refl e
  where
    some_inj : {x y : List Function} → ◌≡◌ {A = Option (List Function)} (Some x) (Some y) → x ≡ y
    some_inj e = cc

    cases : (test : Bool) → same_children ks (function_parts (length (split_functions ss (trees_of ks))) (split_functions ss (trees_of ks))) ≡ test → ◌≡◌ {A = Option (List Function)} (if test then Some (split_functions ss (trees_of ks)) else None) (Some fs) → length fs ≡ length ss
    cases true q e = ap length (sym (some_inj e)) ∙ split_length ss (trees_of ks)
    cases false q e = absurd (grind arith)

shapes_length : (ss ts : List Shape) → same_shapes ss ts ≡ true → length ss ≡ length ts
shapes_length [] [] e = refl
shapes_length [] (t ∷ ts) e = absurd (grind arith)
shapes_length (s ∷ ss) [] e = absurd (grind arith)
shapes_length (s ∷ ss) (t ∷ ts) e = ap suc (shapes_length ss ts (and_parts (nat_eq s.k t.k && nat_eq s.domains t.domains) (same_shapes ss ts) e).1)

length-types : (fs : List Function) → length (function_types fs) ≡ length fs
length-types [] = refl
length-types (f ∷ fs) = ap suc (length-types fs)

second_false : (x : Bool) → (x && false) ≡ true → ⊥
second_false true e = grind arith
second_false false e = grind arith

places_value_first : (ks ls : Children) → same_places ks ls ≡ true → same_places (value_first ks) (value_first ls) ≡ true
places_value_first no_child no_child e = refl
places_value_first (child b t no_child) (child c u no_child) e = e
places_value_first (child b t (child b' t' ks)) (child c u (child c' u' ls)) e =
    let p = and_parts (same_binders b c) (same_binders b' c' && same_places ks ls) e in
    let q = and_parts (same_binders b' c') (same_places ks ls) p.1 in
    and_from _ _ q.0 (and_from _ _ p.0 q.1)
places_value_first no_child (child c u ls) e = absurd (grind arith)
places_value_first (child b t ks) no_child e = absurd (grind arith)
places_value_first (child b t no_child) (child c u (child c' u' ls)) e = absurd (second_false (same_binders b c) e)
places_value_first (child b t (child b' t' ks)) (child c u no_child) e = absurd (second_false (same_binders b c) e)

module _ (E : Environment) (k : ℕ) (conv : Context → Tree → Tree → Counted (Unit {0}))
    (calls : (G : Context) (t t' : Tree) (u : Unit {0}) (b b' : Budget) → conv G t t' b ≡ done u b' → Converted E G k t t' b b') where
  parts_done : (G : Context) (ks ls : Children) (u : Unit {0}) (b b' : Budget) → same_places ks ls ≡ true → convert_children conv G ks ls b ≡ done u b' → At k (ConvertsParts E G ks ls) b b'
  parts_done G no_child no_child u b b' q h = at_free converts_no_part h
  parts_done G (child x t ks) (child y t' ls) u b b' q h =
      let i = follow_done (conv (under_unknown (over x 0) G) t t' b) (λ _. convert_children conv G ks ls) u b' h in
      let c = calls (under_unknown (over x 0) G) t t' i.0 b i.1 i.2 in
      let r = parts_done G ks ls u i.1 b' (and_parts (same_binders x y) (same_places ks ls) q).1 i.3 in
      (c.0 then r.0, converts_part c.1 r.1 refl, max_le _ _ k c.2 r.2, took_then c.3 r.3)
  parts_done G no_child (child y t' ls) u b b' q h = absurd (grind arith)
  parts_done G (child x t ks) no_child u b b' q h = absurd (grind arith)

  each_done : (G : Context) (ts us : List Tree) (u : Unit {0}) (b b' : Budget) → length ts ≡ length us → convert_each conv G ts us b ≡ done u b' → At k (ConvertsEach E G ts us) b b'
  each_done G [] [] u b b' q h = at_free converts_none h
  each_done G (t ∷ ts) (t' ∷ us) u b b' q h =
      let i = follow_done (conv G t t' b) (λ _. convert_each conv G ts us) u b' h in
      let c = calls G t t' i.0 b i.1 i.2 in
      let r = each_done G ts us u i.1 b' (omega (arith, q)) i.3 in
      (c.0 then r.0, converts_more c.1 r.1 refl, max_le _ _ k c.2 r.2, took_then c.3 r.3)
  each_done G [] (t' ∷ us) u b b' q h = absurd (omega (arith, q))
  each_done G (t ∷ ts) [] u b b' q h = absurd (omega (arith, q))

  bodies_done : (G : Context) (all : ℕ) (fs gs : List Function) (u : Unit {0}) (b b' : Budget) → length fs ≡ length gs → convert_bodies conv G all fs gs b ≡ done u b' → At k (ConvertsBodies E G all fs gs) b b'
  bodies_done G all [] [] u b b' q h = at_free converts_no_body h
  bodies_done G all (f ∷ fs) (g ∷ gs) u b b' q h =
      let i = follow_done (fitting_body all f b) (λ t. fitting_body all g >>= (λ t'. conv G t t' >>= (λ _. convert_bodies conv G all fs gs))) u b' h in
      let p = body_done all f i.0 b i.1 i.2 in
      let j = follow_done (fitting_body all g i.1) (λ t'. conv G i.0 t' >>= (λ _. convert_bodies conv G all fs gs)) u b' i.3 in
      let p' = body_done all g j.0 i.1 j.1 j.2 in
      let l = follow_done (conv G i.0 j.0 j.1) (λ _. convert_bodies conv G all fs gs) u b' j.3 in
      let c = calls G i.0 j.0 l.0 j.1 l.1 l.2 in
      let r = bodies_done G all fs gs u l.1 b' (omega (arith, q)) l.3 in
      let call : Converts E G (full_body all f) (full_body all g) c.0 =
      subst (λ z. Converts E G z (full_body all g) c.0) (sym p.1) (subst (λ z. Converts E G i.0 z c.0) (sym p'.1) c.1) in
      let taken : Took c.0 b l.1 = subst (λ z. Took c.0 z l.1) (sym (p.2 ∙ p'.2)) c.3 in
      (c.0 then r.0, converts_body p.0 p'.0 call r.1 refl, max_le _ _ k c.2 r.2, took_then taken r.3)
  bodies_done G all [] (g ∷ gs) u b b' q h = absurd (omega (arith, q))
  bodies_done G all (f ∷ fs) [] u b b' q h = absurd (omega (arith, q))

  functions_done : (G : Context) (i j : ℕ) (s s' : List Shape) (ks ls : Children) (u : Unit {0}) (b b' : Budget) → nat_eq i j ≡ true → same_shapes s s' ≡ true → (x y : Option (List Function)) → functions_of s ks ≡ x → functions_of s' ls ≡ y → convert_functions conv G (node (FixF i s) ks) (node (FixF j s') ls) x y b ≡ done u b' → At k (Compares E G (node (FixF i s) ks) (node (FixF j s') ls)) b b'
  functions_done G i j s s' ks ls u b b' p q (Some fs) (Some gs) x y h =
      let as_many : length fs ≡ length gs = functions_length s ks fs x ∙ shapes_length s s' q ∙ sym (functions_length s' ls gs y) in
      let l = follow_done (convert_each conv G (function_types fs) (function_types gs) b) (λ _. convert_bodies conv (under_unknown (length fs) G) (length fs) fs gs) u b' h in
      let c = each_done G (function_types fs) (function_types gs) l.0 b l.1 (length-types fs ∙ as_many ∙ sym (length-types gs)) l.2 in
      let r = bodies_done (under_unknown (length fs) G) (length fs) fs gs u l.1 b' as_many l.3 in
      (c.0 then r.0, fixpoints fs gs p q x y c.1 r.1 refl, max_le _ _ k c.2 r.2, took_then c.3 r.3)
  functions_done G i j s s' ks ls u b b' p q (Some fs) None x y h = absurd (grind arith)
  functions_done G i j s s' ks ls u b b' p q None y' x y h = absurd (grind arith)

  in_order_done : (G : Context) (f g : Former) (ks ls : Children) (u : Unit {0}) (b b' : Budget) → InOrder f → (test : Bool) → (same_former f g && same_places ks ls) ≡ test → (if test then convert_children conv G ks ls else differ G (node f ks) (node g ls)) b ≡ done u b' → At k (Compares E G (node f ks) (node g ls)) b b'
  in_order_done G f g ks ls u b b' o true q h =
      let p = and_parts (same_former f g) (same_places ks ls) q in
      let r = parts_done G ks ls u b b' p.1 h in
      (r.0, in_order o p.0 p.1 r.1, r.2, r.3)
  in_order_done G f g ks ls u b b' o false q h = absurd (grind arith)

  nodes_done : (G : Context) (f g : Former) (ks ls : Children) (u : Unit {0}) (b b' : Budget) → compare_nodes conv G f g ks ls b ≡ done u b' → At k (Compares E G (node f ks) (node g ls)) b b'
  nodes_done G (CaseF c) (CaseF d) ks ls u b b' h = cases _ refl h
    where
      cases : (test : Bool) → (same_id c d && same_places ks ls) ≡ test → (if test then convert_children conv G (value_first ks) (value_first ls) else differ G (node (CaseF c) ks) (node (CaseF d) ls)) b ≡ done u b' → At k (Compares E G (node (CaseF c) ks) (node (CaseF d) ls)) b b'
      cases true q h =
          let p = and_parts (same_id c d) (same_places ks ls) q in
          let r = parts_done G (value_first ks) (value_first ls) u b b' (places_value_first ks ls p.1) h in
          (r.0, matches p.0 p.1 r.1, r.2, r.3)
      cases false q h = absurd (grind arith)
  nodes_done G (FixF i s) (FixF j s') ks ls u b b' h = cases _ refl h
    where
      cases : (test : Bool) → (nat_eq i j && same_shapes s s') ≡ test → (if test then convert_functions conv G (node (FixF i s) ks) (node (FixF j s') ls) (functions_of s ks) (functions_of s' ls) else differ G (node (FixF i s) ks) (node (FixF j s') ls)) b ≡ done u b' → At k (Compares E G (node (FixF i s) ks) (node (FixF j s') ls)) b b'
      cases true q h =
          let p = and_parts (nat_eq i j) (same_shapes s s') q in
          functions_done G i j s s' ks ls u b b' p.0 p.1 _ _ refl refl h
      cases false q h = absurd (grind arith)
  nodes_done G LetF g ks ls u b b' h = absurd (grind arith)
  nodes_done G (CaseF c) g ks ls u b b' h = absurd (grind arith)
  nodes_done G (FixF i s) g ks ls u b b' h = absurd (grind arith)
  nodes_done G f g ks ls u b b' h = in_order_done G f g ks ls u b b' tt _ refl h

  compare_done : (G : Context) (t t' : Tree) (u : Unit {0}) (b b' : Budget) → compare conv G t t' b ≡ done u b' → At k (Compares E G t t') b b'
  compare_done G (sort s) (sort s') u b b' h =
      let r = sorts_done {k = k} G s s' u b b' h in
      (r.0, D.equal_sorts r.1, r.2, r.3)
  compare_done G (rel x) (rel y) u b b' h = cases _ refl h
    where
      cases : (test : Bool) → nat_eq x y ≡ test → (if test then give tt else differ G (rel x) (rel y)) b ≡ done u b' → At k (Compares E G (rel x) (rel y)) b b'
      cases true q h = at_free (same_variables q) h
      cases false q h = absurd (grind arith)
  compare_done G (node f ks) (node g ls) u b b' h = nodes_done G f g ks ls u b b' h
  compare_done G (rel x) (node g ls) u b b' h = absurd (grind arith)
  compare_done G (node f ks) (rel y) u b b' h = absurd (grind arith)

-- By eta, where one of them alone is an abstraction.
module _ (E : Environment) (k : ℕ) (conv : Context → Tree → Tree → Counted (Unit {0}))
    (calls : (G : Context) (t t' : Tree) (u : Unit {0}) (b b' : Budget) → conv G t t' b ≡ done u b' → Converted E G k t t' b b') where
  bodies_done_by : (G : Context) (v w : Tree) (u : Unit {0}) (b b' : Budget) → (o o' : Option Tree) → body_of v ≡ o → body_of w ≡ o' → by_bodies conv G v w o o' b ≡ done u b' → At k (Compares E G v w) b b'
  bodies_done_by G v w u b b' (Some t) None p q h =
      let i = follow_done (fitting (lift_tree 0 1 w) b) (λ w'. conv (unknown ∷ G) t (app w' (rel 0))) u b' h in
      let f = fitting_done (lift_tree 0 1 w) i.0 b i.1 i.2 in
      let c = calls (unknown ∷ G) t (app i.0 (rel 0)) u i.1 b' i.3 in (
        c.0,
        expands_left p q f.0 (subst (λ z. Converts E (unknown ∷ G) t (app z (rel 0)) c.0) (sym f.1) c.1),
        c.2,
        subst (λ z. Took c.0 z b') (sym f.2) c.3,
      )
  bodies_done_by G v w u b b' None (Some t) p q h =
      let i = follow_done (fitting (lift_tree 0 1 v) b) (λ v'. conv (unknown ∷ G) (app v' (rel 0)) t) u b' h in
      let f = fitting_done (lift_tree 0 1 v) i.0 b i.1 i.2 in
      let c = calls (unknown ∷ G) (app i.0 (rel 0)) t u i.1 b' i.3 in (
        c.0,
        expands_right p q f.0 (subst (λ z. Converts E (unknown ∷ G) (app z (rel 0)) t c.0) (sym f.1) c.1),
        c.2,
        subst (λ z. Took c.0 z b') (sym f.2) c.3,
      )
  bodies_done_by G v w u b b' None None p q h = compare_done E k conv calls G v w u b b' h
  bodies_done_by G v w u b b' (Some t) (Some t') p q h = compare_done E k conv calls G v w u b b' h

  compare_heads_done : (G : Context) (v w : Tree) (u : Unit {0}) (b b' : Budget) → compare_heads conv G v w b ≡ done u b' → At k (Compares E G v w) b b'
  compare_heads_done G v w u b b' h = bodies_done_by G v w u b b' (body_of v) (body_of w) refl refl h

-- The entry of a call.
entry_done : (rest : ℕ) (found : List Constraint) (k : ℕ) (R S : Cost → Type 0) (body : Counted (Unit {0})) → ((c : Cost) → R c → S (called c)) → ((u : Unit {0}) (b b' : Budget) → body b ≡ done u b' → At k R b b') → (u : Unit {0}) (b' : Budget) → follow (tick (record { rest = rest; found = found })) (λ _. body) ≡ done u b' → At (suc k) S (record { rest = rest; found = found }) b'
entry_done zero found k R S body up inner u b' h = absurd (grind arith)
entry_done (suc rest) found k R S body up inner u b' h =
    let r = inner u (record { rest = rest; found = found }) b' h in
    (called r.0, up r.0 r.1, (let d = r.2 in omega (arith, d)), record { rest = (let p = r.3.rest in omega (arith, p)); found = r.3.found })

-- What a call of conversion does after its entry.
data Unequal (E : Environment) (G : Context) (t t' : Tree) : Cost → Type 0 where
  at_once : same_tree t t' ≡ true → Unequal E G t t' free
  by_heads : {v w : Tree} {c d e k : Cost} → same_tree t t' ≡ false → Evaluates E G t v c → Evaluates E G t' w d → Compares E G v w e → k ≡ (c then d then e) → Unequal E G t t' k

converts_inner : {E : Environment} {G : Context} {t t' : Tree} (c : Cost) → Unequal E G t t' c → Converts E G t t' (called c)
converts_inner c (at_once e) = converts_same e refl
converts_inner c (by_heads e h h' k q) = converts_heads e h h' k (ap called q)

mutual_step : (E : Environment) (k : ℕ) (conv : Context → Tree → Tree → Counted (Unit {0})) → ((G : Context) (t t' : Tree) (u : Unit {0}) (b b' : Budget) → conv G t t' b ≡ done u b' → Converted E G k t t' b b') → (G : Context) (t t' : Tree) (u : Unit {0}) (b b' : Budget) → conv_step (whnf_at k E) conv G t t' b ≡ done u b' → At k (Unequal E G t t') b b'
mutual_step E k conv calls G t t' u b b' h = cases _ refl h
  where
    cases : (test : Bool) → same_tree t t' ≡ test → (if test then give tt else (whnf_at k E G t >>= (λ v. whnf_at k E G t' >>= (λ w. compare_heads conv G v w)))) b ≡ done u b' → At k (Unequal E G t t') b b'
    cases true q h = at_free (at_once q) h
    cases false q h =
        let i = follow_done (whnf_at k E G t b) (λ v. whnf_at k E G t' >>= (λ w. compare_heads conv G v w)) u b' h in
        let j = follow_done (whnf_at k E G t' i.1) (λ w. compare_heads conv G i.0 w) u b' i.3 in
        let p = whnf_done E G k t i.0 b i.1 i.2 in
        let p' = whnf_done E G k t' j.0 i.1 j.1 j.2 in
        let r = compare_heads_done E k conv calls G i.0 j.0 u j.1 b' j.3 in
        (p.0 then p'.0 then r.0, by_heads q p.1 p'.1 r.1 refl, max_le _ _ k (max_le _ _ k p.2 p'.2) r.2, took_then (took_then p.3 p'.3) r.3)

pub conv_done : (E : Environment) (k : ℕ) (G : Context) (t t' : Tree) (u : Unit {0}) (b b' : Budget) → conv_at k E G t t' b ≡ done u b' → Converted E G k t t' b b'
unfolding conv_at
conv_done E zero G t t' u b b' h = absurd (grind arith)
conv_done E (suc k) G t t' u b b' h =
    entry_done b.rest b.found k (Unequal E G t t') (Converts E G t t') (conv_step (whnf_at k E) (conv_at k E) G t t') converts_inner (mutual_step E k (conv_at k E) (conv_done E k) G t t') u b' h

-- The same of subtyping.
data NotAtOnce (E : Environment) (G : Context) (t t' : Tree) : Cost → Type 0 where
  at_once : same_tree t t' ≡ true → NotAtOnce E G t t' free
  by_heads : {v w : Tree} {c d e k : Cost} → same_tree t t' ≡ false → Evaluates E G t v c → Evaluates E G t' w d → Below E G v w e → k ≡ (c then d then e) → NotAtOnce E G t t' k

cumulates_inner : {E : Environment} {G : Context} {t t' : Tree} (c : Cost) → NotAtOnce E G t t' c → Cumulates E G t t' (called c)
cumulates_inner c (NotAtOnce.at_once e) = cumulates_same e refl
cumulates_inner c (NotAtOnce.by_heads e h h' k q) = cumulates_heads e h h' k (ap called q)

module _ (E : Environment) (k : ℕ) (conv cumul : Context → Tree → Tree → Counted (Unit {0}))
    (conv_calls : (G : Context) (t t' : Tree) (u : Unit {0}) (b b' : Budget) → conv G t t' b ≡ done u b' → Converted E G k t t' b b')
    (cumul_calls : (G : Context) (t t' : Tree) (u : Unit {0}) (b b' : Budget) → cumul G t t' b ≡ done u b' → Cumulated E G k t t' b b') where
  compared_done : (G : Context) (t t' : Tree) (u : Unit {0}) (b b' : Budget) → ((s s' : TreeSort) → t ≡ sort s → t' ≢ sort s') → ((x y x' y' : Tree) → t ≡ prod x y → t' ≢ prod x' y') → compare_heads conv G t t' b ≡ done u b' → At k (Below E G t t') b b'
  compared_done G t t' u b b' n m h =
      let r = compare_heads_done E k conv conv_calls G t t' u b b' h in
      (r.0, compared n m r.1, r.2, r.3)

  heads_done : (G : Context) (t t' : Tree) (u : Unit {0}) (b b' : Budget) → below_or_equal conv cumul G t t' b ≡ done u b' → At k (Below E G t t') b b'
  heads_done G (prod x y) (prod x' y') u b b' h =
      let i = follow_done (conv G x x' b) (λ _. cumul (unknown ∷ G) y y') u b' h in
      let p = conv_calls G x x' i.0 b i.1 i.2 in
      let r = cumul_calls (unknown ∷ G) y y' u i.1 b' i.3 in
      (p.0 then r.0, products_below p.1 r.1 refl, max_le _ _ k p.2 r.2, took_then p.3 r.3)
  heads_done G (sort s) (sort s') u b b' h =
      let r = below_done {k = k} G s s' u b b' h in
      (r.0, sorts_below r.1, r.2, r.3)
  heads_done G t t' u b b' h = compared_done G t t' u b b' (λ s s' e e'. grind arith) (λ x y x' y' e e'. grind arith) h

  cumul_inner : (G : Context) (t t' : Tree) (u : Unit {0}) (b b' : Budget) → cumul_step (whnf_at k E) conv cumul G t t' b ≡ done u b' → At k (NotAtOnce E G t t') b b'
  cumul_inner G t t' u b b' h = cases _ refl h
    where
      cases : (test : Bool) → same_tree t t' ≡ test → (if test then give tt else (whnf_at k E G t >>= (λ v. whnf_at k E G t' >>= (λ w. below_or_equal conv cumul G v w)))) b ≡ done u b' → At k (NotAtOnce E G t t') b b'
      cases true q h = at_free (NotAtOnce.at_once q) h
      cases false q h =
          let i = follow_done (whnf_at k E G t b) (λ v. whnf_at k E G t' >>= (λ w. below_or_equal conv cumul G v w)) u b' h in
          let j = follow_done (whnf_at k E G t' i.1) (λ w. below_or_equal conv cumul G i.0 w) u b' i.3 in
          let p = whnf_done E G k t i.0 b i.1 i.2 in
          let p' = whnf_done E G k t' j.0 i.1 j.1 j.2 in
          let r = heads_done G i.0 j.0 u j.1 b' j.3 in
          (p.0 then p'.0 then r.0, NotAtOnce.by_heads q p.1 p'.1 r.1 refl, max_le _ _ k (max_le _ _ k p.2 p'.2) r.2, took_then (took_then p.3 p'.3) r.3)

pub cumul_done : (E : Environment) (k : ℕ) (G : Context) (t t' : Tree) (u : Unit {0}) (b b' : Budget) → cumul_at k E G t t' b ≡ done u b' → Cumulated E G k t t' b b'
unfolding cumul_at
cumul_done E zero G t t' u b b' h = absurd (grind arith)
cumul_done E (suc k) G t t' u b b' h =
    entry_done b.rest b.found k (NotAtOnce E G t t') (Cumulates E G t t') (cumul_step (whnf_at k E) (conv_at k E) (cumul_at k E) G t t') cumulates_inner (cumul_inner E k (conv_at k E) (cumul_at k E) (conv_done E k) (cumul_done E k) G t t') u b' h
