-- Where the relations of conversion and subtyping hold, the counted functions are done, at every budget that suffices.
-- By one induction on the relations, over that of evaluation; typing needs it.
use Rattle.std.specs.Prelude.{is_none}
use Rattle.std.proofs.Common.{Bool, Option, Some, None, ap₂, ◌≡◌, ◌≢◌, ℕ, zero, suc, ◌+◌, ◌-◌, ◌≤◌, max, true, false, ◌&&◌, nat_eq, if◌then◌else◌, List, [], ◌∷◌, length, refl, sym, ap, ◌∙◌, arith, subst}
use Rattle.std.proofs.lemmas.Bool.{and_parts, and_from}
use Rattle.cic_terms.specs.Tree.{TreeSort, prop, set, typ, Former, SortF, LamF, LetF, CaseF, FixF, Binders, none, one, over, Tree, rel, node, Children, no_child, child, sort, prod, app}
use Rattle.cic_terms.specs.Lift.{lift_tree}
use Rattle.cic_names.specs.declared.level.Level.{Level}
use Rattle.cic_names.specs.declared.level.Atom.{Atom}
use Rattle.cic_names.specs.Sameness.{same_id}
use Rattle.cic_counted.specs.Sameness.{same_sort, same_shapes, same_former, same_binders}
use Rattle.cic_names.specs.declared.constraint.Constraint.{Constraint}
use Rattle.cic_names.specs.Orders.{insert_constraint, insert_constraints}
use Rattle.cic_rules.specs.Environment.{Environment, Context, unknown, under_unknown}
use Rattle.cic_rules.specs.Telescopes.{abstractions, lift_domains, Function, function_types, full_body}
use Rattle.cic_counted.specs.Outcome.{Budget, done, Counted, follow, ◌>>=◌, ◌>>◌, give, tick, note, is_small, fitting, fitting_all}
use Rattle.cic_counted.specs.Evaluation.{equal_sorts, atoms_below, sorts_at_most, same_places, convert_children, convert_each, fitting_body, convert_bodies, compare, body_of, by_bodies, compare_heads, conv_step, conv_at, below_or_equal, cumul_step, cumul_at, whnf_at, differ}
use Rattle.cic_counted.specs.calls.Done.{left_after, Cost, free, ◌then◌, called, finds, AllSmall, Evaluates, SortsEqual, same_sorts, levels_equal, AtomsBelow, no_atom, atom_below, SortsBelow, prop_below, set_below_set, set_below_universe, same_universes, levels_below, InOrder, Converts, converts_same, converts_heads, Compares, same_variables, in_order, matches, fixpoints, expands_left, expands_right, ConvertsParts, converts_no_part, converts_part, ConvertsEach, converts_none, converts_more, ConvertsBodies, converts_no_body, converts_body, Cumulates, cumulates_same, cumulates_heads, Below, products_below, sorts_below, compared}
use Rattle.cic_counted.specs.calls.Done as D
use Rattle.cic_counted.proofs.Decided.{same_binders-is}
use Rattle.cic_counted.proofs.Runs.{left_free, left_then, whnf_runs, made, max_left, max_right, along}

-- Done without a value, at a cost, at every budget that suffices.
abbrev pub DoneAt : Counted (Unit {0}) → Cost → Type 0
DoneAt m c = (b : Budget) → c.steps ≤ b.rest → m b ≡ done tt (left_after c b)

at_once : (m : Counted (Unit {0})) → ((b : Budget) → m b ≡ done tt b) → DoneAt m free
at_once m h b p = h b ∙ ap (done tt) (left_free b)

in_row : (m n : Counted (Unit {0})) (c d : Cost) → DoneAt m c → DoneAt n d → DoneAt (m >> n) (c then d)
in_row m n c d h i b p =
    ap (λ o. follow o (λ _. n)) (h b (omega (arith, p))) ∙ i (left_after c b) (omega (arith, p)) ∙ ap (done tt) (left_then c d b)

noted : (c : Constraint) → DoneAt (note c) (finds c)
noted c b p = let e : b.rest ≡ b.rest - 0 = omega arith in ap (λ r. done tt (made r (insert_constraint b.found c))) e

same_sorts_at : (G : Context) (s s' : TreeSort) (b : Budget) → same_sort s s' ≡ true → equal_sorts G s s' b ≡ done tt b
same_sorts_at G (typ e) (typ e') b h = rw h refl
same_sorts_at G s s' b h = other G s s' b h
  where
    other : (G : Context) (s s' : TreeSort) (b : Budget) → same_sort s s' ≡ true → (if same_sort s s' then give tt else differ G (sort s) (sort s')) b ≡ done tt b
    other G s s' b h = rw h refl

sorts_run : (G : Context) {s s' : TreeSort} {c : Cost} → SortsEqual s s' c → DoneAt (equal_sorts G s s') c
sorts_run G (same_sorts {s = s} {s' = s'} h) = at_once (equal_sorts G s s') (λ b. same_sorts_at G s s' b h)
sorts_run G (levels_equal {e = e} {e' = e'} {k = k} l m n p q kq) =
    let first : Constraint = record { left = l; strict = false; right = m } in
    let second : Constraint = record { left = m; strict = false; right = l } in
    subst (DoneAt (equal_sorts G (typ e) (typ e'))) (sym kq)
    (λ b r. rw (n, p, q) (in_row (note first) (note second) (finds first) (finds second) (noted first) (noted second) b r))

atoms_run : (m : Level) {as_ : List Atom} {c : Cost} → AtomsBelow m as_ c → DoneAt (atoms_below as_ m) c
atoms_run m no_atom = at_once (give tt) (λ b. refl)
atoms_run m (atom_below {a = a} {as_ = as_} {c = c} h kq) =
    let first : Constraint = record { left = a.level; strict = a.plus; right = m } in
    subst (DoneAt (atoms_below (a ∷ as_) m)) (sym kq) (in_row (note first) (atoms_below as_ m) (finds first) c (noted first) (atoms_run m h))

below_run : (G : Context) {s s' : TreeSort} {c : Cost} → SortsBelow s s' c → DoneAt (sorts_at_most G s s') c
below_run G (prop_below {s = s}) = at_once (sorts_at_most G prop s) (λ b. refl)
below_run G set_below_set = at_once (sorts_at_most G set set) (λ b. refl)
below_run G (set_below_universe {e = e}) = at_once (sorts_at_most G set (typ e)) (λ b. refl)
below_run G (same_universes {e = e} {e' = e'} h) = at_once (sorts_at_most G (typ e) (typ e')) (λ b. rw h refl)
below_run G (levels_below {e = e} {e' = e'} m n q h) = λ b p. rw (n, q) (atoms_run m h b p)

pub fitting_at : (t : Tree) (b : Budget) → is_small t ≡ true → fitting t b ≡ done t b
fitting_at t b h = rw h refl

pub fitting_all_at : (ts : List Tree) (b : Budget) → AllSmall ts → fitting_all ts b ≡ done ts b
fitting_all_at [] b h = refl
fitting_all_at (t ∷ ts) b h =
    ap (λ o. follow o (λ u. fitting_all ts >>= (λ us. give (u ∷ us)))) (fitting_at t b h.0)
    ∙ ap (λ o. follow o (λ us. give (t ∷ us))) (fitting_all_at ts b h.1)

pub body_at : (all : ℕ) (f : Function) (b : Budget) → AllSmall (lift_domains 0 all f.domains) → fitting_body all f b ≡ done (full_body all f) b
body_at all f b h = ap (λ o. follow o (λ as_. give (abstractions as_ f.body))) (fitting_all_at (lift_domains 0 all f.domains) b h)

enter_unit : (m : Counted (Unit {0})) (c : Cost) → DoneAt m c → (rest : ℕ) (found : List Constraint) → c.steps + 1 ≤ rest → follow (tick (record { rest = rest; found = found })) (λ _. m) ≡ done tt (left_after (called c) (record { rest = rest; found = found }))
enter_unit m c h zero found p = absurd (omega (arith, p))
enter_unit m c h (suc r) found p =
    let e : r - c.steps ≡ suc r - (c.steps + 1) = omega arith in
    h (record { rest = r; found = found }) (omega (arith, p)) ∙ ap (λ z. done tt (made z (insert_constraints found c.found))) e

-- Two terms that are evaluated, and then what is done with their weak head forms.
by_heads_at : (E : Environment) (G : Context) (k : ℕ) (t t' v w : Tree) (c d e : Cost) (next : Tree → Tree → Counted (Unit {0})) → Evaluates E G t v c → Evaluates E G t' w d → DoneAt (next v w) e → max (max c.depth d.depth) e.depth ≤ k → DoneAt (whnf_at k E G t >>= (λ v. whnf_at k E G t' >>= (λ w. next v w))) (c then d then e)
by_heads_at E G k t t' v w c d e next h h' n l b p =
    ap (λ o. follow o (λ v. whnf_at k E G t' >>= (λ w. next v w))) (whnf_runs E G k t v c b h (max_left c.depth d.depth k (max_left (max c.depth d.depth) e.depth k l)) (omega (arith, p)))
    ∙ ap (λ o. follow o (λ w. next v w)) (whnf_runs E G k t' w d (left_after c b) h' (max_right c.depth d.depth k (max_left (max c.depth d.depth) e.depth k l)) (omega (arith, p)))
    ∙ n (left_after d (left_after c b)) (omega (arith, p))
    ∙ ap (λ z. done tt (left_after e z)) (left_then c d b) ∙ ap (done tt) (left_then (c then d) e b)

tested : (conv : Context → Tree → Tree → Counted (Unit {0})) (G : Context) (f g : Former) (ks ls : Children) (c : Cost) → (same_former f g && same_places ks ls) ≡ true → DoneAt (convert_children conv G ks ls) c → DoneAt (if same_former f g && same_places ks ls then convert_children conv G ks ls else differ G (node f ks) (node g ls)) c
tested conv G f g ks ls c q h b p = rw q (h b p)

in_order_at : (conv : Context → Tree → Tree → Counted (Unit {0})) (G : Context) (f g : Former) (ks ls : Children) (c : Cost) → InOrder f → same_former f g ≡ true → same_places ks ls ≡ true → DoneAt (convert_children conv G ks ls) c → DoneAt (compare conv G (node f ks) (node g ls)) c
in_order_at conv G (CaseF id) g ks ls c o sf sp h = absurd o
in_order_at conv G (FixF i s) g ks ls c o sf sp h = absurd o
in_order_at conv G LetF g ks ls c o sf sp h = absurd o
in_order_at conv G (SortF s) (SortF s') no_child no_child c o sf sp h = λ b p. same_sorts_at G s s' b sf ∙ h b p
in_order_at conv G (SortF s) (SortF s') (child x t ks) ls c o sf sp h = tested conv G (SortF s) (SortF s') (child x t ks) ls c (and_from (same_sort s s') (same_places (child x t ks) ls) sf sp) h
in_order_at conv G (SortF s) (SortF s') no_child (child x t ls) c o sf sp h = absurd (grind arith)
in_order_at conv G (SortF s) g ks ls c o sf sp h = absurd (grind arith)
in_order_at conv G f g ks ls c o sf sp h = tested conv G f g ks ls c (and_from (same_former f g) (same_places ks ls) sf sp) h

-- Two terms with the same former and the same numbers of binders are both abstractions, or neither is.
places : Children → List Binders
places no_child = []
places (child b t ks) = b ∷ places ks

no_lam : List Binders → Bool
no_lam (none ∷ one ∷ []) = false
no_lam bs = true

places_alike : (ks ls : Children) → same_places ks ls ≡ true → places ks ≡ places ls
unfolding places
places_alike no_child no_child e = refl
places_alike (child b t ks) (child c u ls) e =
    let p = and_parts (same_binders b c) (same_places ks ls) e in
    ap₂ ◌∷◌ (same_binders-is b c p.0) (places_alike ks ls p.1)
places_alike no_child (child c u ls) e = absurd (grind arith)
places_alike (child b t ks) no_child e = absurd (grind arith)

lam_by_places : (ks : Children) → is_none (body_of (node LamF ks)) ≡ no_lam (places ks)
unfolding places no_lam
lam_by_places no_child = refl
lam_by_places (child none a no_child) = refl
lam_by_places (child none a (child one t no_child)) = refl
lam_by_places (child none a (child one t (child b u ks))) = refl
lam_by_places (child none a (child b t ks)) = refl
lam_by_places (child b a ks) = refl

pub alike : (f g : Former) (ks ls : Children) → same_former f g ≡ true → same_places ks ls ≡ true → is_none (body_of (node f ks)) ≡ is_none (body_of (node g ls))
alike LamF LamF ks ls p q = lam_by_places ks ∙ ap no_lam (places_alike ks ls q) ∙ sym (lam_by_places ls)
alike LamF g ks ls p q = absurd (grind arith)
alike f LamF ks ls p q = absurd (grind arith)
alike f g ks ls p q = refl

pub by_alike_bodies : (conv : Context → Tree → Tree → Counted (Unit {0})) (G : Context) (v w : Tree) (o o' : Option Tree) → is_none o ≡ is_none o' → by_bodies conv G v w o o' ≡ compare conv G v w
by_alike_bodies conv G v w None None e = refl
by_alike_bodies conv G v w (Some t) (Some u) e = refl
by_alike_bodies conv G v w None (Some u) e = absurd (grind arith)
by_alike_bodies conv G v w (Some t) None e = absurd (grind arith)

both_or_none : (conv : Context → Tree → Tree → Counted (Unit {0})) (G : Context) (f g : Former) (ks ls : Children) (c : Cost) → same_former f g ≡ true → same_places ks ls ≡ true → DoneAt (compare conv G (node f ks) (node g ls)) c → DoneAt (compare_heads conv G (node f ks) (node g ls)) c
both_or_none conv G f g ks ls c p q h = subst (λ m. DoneAt m c) (sym (by_alike_bodies conv G (node f ks) (node g ls) (body_of (node f ks)) (body_of (node g ls)) (alike f g ks ls p q))) h

module _ (E : Environment) where
  conv_call_at : (k : ℕ) (G : Context) (t t' : Tree) (c : Cost) → ((j : ℕ) → c.depth ≤ j → DoneAt (conv_step (whnf_at j E) (conv_at j E) G t t') c) → (called c).depth ≤ k → DoneAt (conv_at k E G t t') (called c)
  unfolding conv_at
  conv_call_at zero G t t' c h d b p = absurd (omega (arith, d))
  conv_call_at (suc k) G t t' c h d b p = enter_unit (conv_step (whnf_at k E) (conv_at k E) G t t') c (h k (omega (arith, d))) b.rest b.found p

  mutual
    pub converts_run : {G : Context} {t t' : Tree} {c : Cost} → Converts E G t t' c → (k : ℕ) → c.depth ≤ k → DoneAt (conv_at k E G t t') c
    converts_run (converts_same {G = G} {a = t} {b = t'} h kq) k =
        along (λ z. z.depth ≤ k → DoneAt (conv_at k E G t t') z) kq
        (conv_call_at k G t t' free (λ j d. at_once (conv_step (whnf_at j E) (conv_at j E) G t t') (λ b. rw h refl)))
    converts_run (converts_heads {G = G} {a = t} {b = t'} {v = v} {w = w} {c = c} {d = d} {e = e} h hv hw hc kq) k =
        along (λ z. z.depth ≤ k → DoneAt (conv_at k E G t t') z) kq
        (conv_call_at k G t t' (c then d then e) (λ j l b p.
        rw h (by_heads_at E G j t t' v w c d e (compare_heads (conv_at j E) G) hv hw (compares_run hc j (max_right (max c.depth d.depth) e.depth j l)) l b p)))

    compares_run : {G : Context} {v w : Tree} {c : Cost} → Compares E G v w c → (k : ℕ) → c.depth ≤ k → DoneAt (compare_heads (conv_at k E) G v w) c
    compares_run (same_variables {G = G} {x = x} {y = y} h) k = λ d. at_once (compare_heads (conv_at k E) G (rel x) (rel y)) (λ b. rw h refl)
    compares_run (D.equal_sorts {G = G} h) k = λ d. sorts_run G h
    compares_run (in_order {G = G} {f = f} {g = g} {ks = ks} {ls = ls} {c = c} o sf sp h) k = λ d. both_or_none (conv_at k E) G f g ks ls c sf sp (in_order_at (conv_at k E) G f g ks ls c o sf sp (parts_run h k d))
    compares_run (matches {G = G} {id = id} {id' = id'} {ks = ks} {ls = ls} i sp h) k = λ d b p.
        rw (and_from (same_id id id') (same_places ks ls) i sp) (parts_run h k d b p)
    compares_run (fixpoints {G = G} {i = i} {j = j} {shapes = shapes} {shapes' = shapes'} {ks = ks} {ls = ls} {c = c} {d = d} fs gs p q x y he hb kq) k =
        along (λ z. z.depth ≤ k → DoneAt (compare_heads (conv_at k E) G (node (FixF i shapes) ks) (node (FixF j shapes') ls)) z) kq (λ l b r.
        rw (and_from (nat_eq i j) (same_shapes shapes shapes') p q, x, y)
        (in_row (convert_each (conv_at k E) G (function_types fs) (function_types gs)) (convert_bodies (conv_at k E) (under_unknown (length fs) G) (length fs) fs gs) c d
        (each_run he k (max_left c.depth d.depth k l)) (bodies_run hb k (max_right c.depth d.depth k l)) b r))
    compares_run (expands_left {G = G} {v = v} {w = w} {t = t} {c = c} p q f h) k = λ d b r.
        rw (p, q) (ap (λ o. follow o (λ w'. conv_at k E (unknown ∷ G) t (app w' (rel 0)))) (fitting_at (lift_tree 0 1 w) b f) ∙ converts_run h k d b r)
    compares_run (expands_right {G = G} {v = v} {w = w} {t = t} {c = c} p q f h) k = λ d b r.
        rw (p, q) (ap (λ o. follow o (λ v'. conv_at k E (unknown ∷ G) (app v' (rel 0)) t)) (fitting_at (lift_tree 0 1 v) b f) ∙ converts_run h k d b r)

    parts_run : {G : Context} {ks ls : Children} {c : Cost} → ConvertsParts E G ks ls c → (k : ℕ) → c.depth ≤ k → DoneAt (convert_children (conv_at k E) G ks ls) c
    parts_run (converts_no_part {G = G}) k = λ d. at_once (give tt) (λ b. refl)
    parts_run (converts_part {G = G} {b = x} {b' = y} {t = t} {u = u} {ks = ks} {ls = ls} {c = c} {d = d} h hs kq) k =
        along (λ z. z.depth ≤ k → DoneAt (convert_children (conv_at k E) G (child x t ks) (child y u ls)) z) kq (λ l.
        in_row (conv_at k E (under_unknown (over x 0) G) t u) (convert_children (conv_at k E) G ks ls) c d
        (converts_run h k (max_left c.depth d.depth k l)) (parts_run hs k (max_right c.depth d.depth k l)))

    each_run : {G : Context} {ts us : List Tree} {c : Cost} → ConvertsEach E G ts us c → (k : ℕ) → c.depth ≤ k → DoneAt (convert_each (conv_at k E) G ts us) c
    each_run (converts_none {G = G}) k = λ d. at_once (give tt) (λ b. refl)
    each_run (converts_more {G = G} {t = t} {u = u} {ts = ts} {us = us} {c = c} {d = d} h hs kq) k =
        along (λ z. z.depth ≤ k → DoneAt (convert_each (conv_at k E) G (t ∷ ts) (u ∷ us)) z) kq (λ l.
        in_row (conv_at k E G t u) (convert_each (conv_at k E) G ts us) c d
        (converts_run h k (max_left c.depth d.depth k l)) (each_run hs k (max_right c.depth d.depth k l)))

    bodies_run : {G : Context} {all : ℕ} {fs gs : List Function} {c : Cost} → ConvertsBodies E G all fs gs c → (k : ℕ) → c.depth ≤ k → DoneAt (convert_bodies (conv_at k E) G all fs gs) c
    bodies_run (converts_no_body {G = G}) k = λ d. at_once (give tt) (λ b. refl)
    bodies_run (converts_body {G = G} {all = all} {f = f} {g = g} {fs = fs} {gs = gs} {c = c} {d = d} sf sg h hs kq) k =
        along (λ z. z.depth ≤ k → DoneAt (convert_bodies (conv_at k E) G all (f ∷ fs) (g ∷ gs)) z) kq (λ l b p.
        ap (λ o. follow o (λ t. fitting_body all g >>= (λ u. conv_at k E G t u >> convert_bodies (conv_at k E) G all fs gs))) (body_at all f b sf)
        ∙ ap (λ o. follow o (λ u. conv_at k E G (full_body all f) u >> convert_bodies (conv_at k E) G all fs gs)) (body_at all g b sg)
        ∙ in_row (conv_at k E G (full_body all f) (full_body all g)) (convert_bodies (conv_at k E) G all fs gs) c d
        (converts_run h k (max_left c.depth d.depth k l)) (bodies_run hs k (max_right c.depth d.depth k l)) b p)

  not_special : (conv cumul : Context → Tree → Tree → Counted (Unit {0})) (G : Context) (v w : Tree) (b : Budget) → ((s s' : TreeSort) → v ≡ sort s → w ≢ sort s') → ((x y x' y' : Tree) → v ≡ prod x y → w ≢ prod x' y') → below_or_equal conv cumul G v w b ≡ compare_heads conv G v w b
  not_special conv cumul G (prod x y) (prod x' y') b n m = absurd (m x y x' y' refl refl)
  not_special conv cumul G (sort s) (sort s') b n m = absurd (n s s' refl refl)
  not_special conv cumul G v w b n m = refl

  cumul_call_at : (k : ℕ) (G : Context) (t t' : Tree) (c : Cost) → ((j : ℕ) → c.depth ≤ j → DoneAt (cumul_step (whnf_at j E) (conv_at j E) (cumul_at j E) G t t') c) → (called c).depth ≤ k → DoneAt (cumul_at k E G t t') (called c)
  unfolding cumul_at
  cumul_call_at zero G t t' c h d b p = absurd (omega (arith, d))
  cumul_call_at (suc k) G t t' c h d b p = enter_unit (cumul_step (whnf_at k E) (conv_at k E) (cumul_at k E) G t t') c (h k (omega (arith, d))) b.rest b.found p

  mutual
    pub cumulates_run : {G : Context} {t t' : Tree} {c : Cost} → Cumulates E G t t' c → (k : ℕ) → c.depth ≤ k → DoneAt (cumul_at k E G t t') c
    cumulates_run (cumulates_same {G = G} {a = t} {b = t'} h kq) k =
        along (λ z. z.depth ≤ k → DoneAt (cumul_at k E G t t') z) kq
        (cumul_call_at k G t t' free (λ j d. at_once (cumul_step (whnf_at j E) (conv_at j E) (cumul_at j E) G t t') (λ b. rw h refl)))
    cumulates_run (cumulates_heads {G = G} {a = t} {b = t'} {v = v} {w = w} {c = c} {d = d} {e = e} h hv hw hc kq) k =
        along (λ z. z.depth ≤ k → DoneAt (cumul_at k E G t t') z) kq
        (cumul_call_at k G t t' (c then d then e) (λ j l b p.
        rw h (by_heads_at E G j t t' v w c d e (below_or_equal (conv_at j E) (cumul_at j E) G) hv hw (heads_run hc j (max_right (max c.depth d.depth) e.depth j l)) l b p)))

    heads_run : {G : Context} {v w : Tree} {c : Cost} → Below E G v w c → (k : ℕ) → c.depth ≤ k → DoneAt (below_or_equal (conv_at k E) (cumul_at k E) G v w) c
    heads_run (products_below {G = G} {a = x} {a' = x'} {b = y} {b' = y'} {c = c} {d = d} h hc kq) k =
        along (λ z. z.depth ≤ k → DoneAt (below_or_equal (conv_at k E) (cumul_at k E) G (prod x y) (prod x' y')) z) kq (λ l.
        in_row (conv_at k E G x x') (cumul_at k E (unknown ∷ G) y y') c d
        (converts_run h k (max_left c.depth d.depth k l)) (cumulates_run hc k (max_right c.depth d.depth k l)))
    heads_run (sorts_below {G = G} h) k = λ d. below_run G h
    heads_run (compared {G = G} {a = v} {b = w} n m h) k = λ d b p. not_special (conv_at k E) (cumul_at k E) G v w b n m ∙ compares_run h k d b p
