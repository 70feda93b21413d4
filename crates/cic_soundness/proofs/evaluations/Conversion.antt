-- What conversion and subtyping are done with is convertible and at most: by induction on the steps that were taken,
-- since every call within a call takes fewer. The types of the functions of two fixpoints are compared as products,
-- and their bodies as abstractions; both stay when they are evaluated, so that the comparison went into their domains
-- and into what stands after them. The laws of conversion and of inference rest on it.
use Rattle.std.proofs.Common.{Some, ◌≡◌, ◌≢◌, ℕ, zero, suc, ◌+◌, ◌<◌, ◌⊎◌, inl, inr, true, List, [], ◌∷◌, ◌++◌, length, refl, sym, ap, ◌∙◌, arith, subst}
use Rattle.std.proofs.lemmas.Bool.{eqb-true, and_parts, and_from}
use Rattle.std.proofs.lemmas.List.{length-map}
use Rattle.cic_terms.specs.Tree.{Shape, Former, ProdF, LetF, CaseF, FixF, none, one, many, over, Tree, rel, node, Children, no_child, child, prod, lam, join}
use Rattle.cic_counted.specs.Sameness.{same_binders}
use Rattle.cic_rules.specs.Numbering.{Numbering, MeetsAll}
use Rattle.cic_rules.specs.Environment.{Environment, Context, unknown, under_unknown}
use Rattle.cic_rules.specs.Telescopes.{products, abstractions, lift_domains, Function, domain_parts, function_parts, function_shapes, function_types, full_body}
use Rattle.cic_rules.specs.Conversion.{Convertible, identical, ConvertibleParts, no_parts, both_parts, AtMost, convertible, sorts}
use Rattle.cic_rules.specs.Conversion as C
use Rattle.cic_counted.specs.Outcome.{Budget, done}
use Rattle.cic_counted.specs.Evaluation.{same_places, value_first, body_of, conv_at, cumul_at}
use Rattle.cic_counted.specs.calls.Done.{Cost, ◌then◌, called, NeedsNoEvaluation, Evaluates, Reduces, evaluates, needs_no_evaluation, variable_stays, variable_steps, constant_stays, constant_steps, let_steps, function_applied, application_stays, recursion_stays, recursion_steps, match_stays, match_steps, InOrder, Converts, converts_same, converts_heads, Compares, same_variables, equal_sorts, in_order, matches, fixpoints, expands_left, expands_right, ConvertsParts, converts_no_part, converts_part, ConvertsEach, converts_more, ConvertsBodies, converts_body, Cumulates, cumulates_same, cumulates_heads, Below, products_below, sorts_below, compared}
use Rattle.cic_counted.proofs.Decided.{same_tree-is, same_former-is, same_binders-is}
use Rattle.cic_counted.proofs.TakenConversion.{conv_done, cumul_done}
use Rattle.cic_names.proofs.ByteStrings.{heads, tails}
use Rattle.cic_metatheory.specs.StepsTo.{StepsTo, arrived, after_step, ClosedBodies}
use Rattle.cic_soundness.proofs.evaluations.Readings.{read_off}
use Rattle.cic_soundness.proofs.evaluations.Steps.{evaluates_steps_to}
use Rattle.cic_soundness.proofs.evaluations.Sorts.{meets_append, inserted_met, sorts_convertible, sorts_at_most_is}
use Rattle.cic_metatheory.proofs.substitutions.Telescopes.{length_lift_domains}
use Rattle.cic_metatheory.proofs.basics.Options.{some_inj, some_is_not_none}

-- A cost of fewer than n steps whose constraints a numbering meets.
record MetInFewerSteps (N : Numbering) (n : ℕ) (c : Cost) : Type 0 where
  steps : c.steps < n
  met : MeetsAll N c.found

within_then : {N : Numbering} {n : ℕ} {k : Cost} (c d : Cost) → k ≡ (c then d) → MetInFewerSteps N n k → MetInFewerSteps N n c × MetInFewerSteps N n d
within_then {N} {n} {k} c d e h =
    let s = ap (λ (z : Cost). z.steps) e in
    let p = h.steps in
    let m = meets_append N c.found d.found (subst (λ (z : Cost). MeetsAll N z.found) e h.met) in
    (record { steps = omega (arith, s, p); met = m.0 }, record { steps = omega (arith, s, p); met = m.1 })

within_called : {N : Numbering} {n : ℕ} {k : Cost} (c : Cost) → k ≡ called c → MetInFewerSteps N (suc n) k → MetInFewerSteps N n c
within_called {N} {n} {k} c e h =
    let s = ap (λ (z : Cost). z.steps) e in
    let p = h.steps in
    record { steps = omega (arith, s, p); met = subst (λ (z : Cost). MeetsAll N z.found) e h.met }

within_heads : {N : Numbering} {n : ℕ} {k : Cost} (c d e : Cost) → k ≡ called (c then d then e) → MetInFewerSteps N (suc n) k → MetInFewerSteps N n e
within_heads c d e q h = (within_then (c then d) e refl (within_called (c then d then e) q h)).1

within_more : {N : Numbering} {n : ℕ} {c : Cost} → MetInFewerSteps N n c → MetInFewerSteps N (suc n) c
within_more h = record { steps = (let p = h.steps in omega (arith, p)); met = h.met }

-- Steps before a conversion
module _ (E : Environment) (N : Numbering) (G : Context) where
  pub convertible_left : {a b c : Tree} → StepsTo E G a b → Convertible E N G b c → Convertible E N G a c
  convertible_left arrived h = h
  convertible_left (after_step s p) h = C.Convertible.step_left s (convertible_left p h)

  pub convertible_right : {a b c : Tree} → StepsTo E G a b → Convertible E N G c b → Convertible E N G c a
  convertible_right arrived h = h
  convertible_right (after_step s p) h = C.Convertible.step_right s (convertible_right p h)

  pub at_most_left : {a b c : Tree} → StepsTo E G a b → AtMost E N G b c → AtMost E N G a c
  at_most_left arrived h = h
  at_most_left (after_step s p) h = C.AtMost.step_left s (at_most_left p h)

  pub at_most_right : {a b c : Tree} → StepsTo E G a b → AtMost E N G c b → AtMost E N G c a
  at_most_right arrived h = h
  at_most_right (after_step s p) h = C.AtMost.step_right s (at_most_right p h)

-- A term at which evaluation stops at once is its own value.
reduces_stays : {E : Environment} {G : Context} {t v : Tree} {c : Cost} → Reduces E G t v c → NeedsNoEvaluation t → v ≡ t
reduces_stays (needs_no_evaluation s) h = refl
reduces_stays (variable_stays q) h = absurd h
reduces_stays (variable_steps q s r k) h = absurd h
reduces_stays (constant_stays q) h = absurd h
reduces_stays (constant_steps q r k) h = absurd h
reduces_stays (let_steps s r k) h = absurd h
reduces_stays (function_applied r s r' k) h = absurd h
reduces_stays (application_stays r n q e) h = absurd h
reduces_stays (recursion_stays r q r' n e k) h = absurd h
reduces_stays (recursion_steps r q r' n s r'' k) h = absurd h
reduces_stays (match_stays r q e) h = absurd h
reduces_stays (match_steps r q s r' k) h = absurd h

evaluates_stays : {E : Environment} {G : Context} {t v : Tree} {c : Cost} → Evaluates E G t v c → NeedsNoEvaluation t → v ≡ t
evaluates_stays (evaluates r k) h = reduces_stays r h

-- Terms that stay are converted where they are equal or compare.
stays_compared : {E : Environment} {G : Context} {N : Numbering} {n : ℕ} {t u : Tree} {k : Cost} → Converts E G t u k → MetInFewerSteps N n k → NeedsNoEvaluation t → NeedsNoEvaluation u → (t ≡ u) ⊎ ((e : Cost) × Compares E G t u e × MetInFewerSteps N n e)
stays_compared (converts_same {a = a} {b = b} q kq) w s s' = inl (same_tree-is a b q)
stays_compared {E} {G} {N} {n} {t} {u} (converts_heads {v = v} {w = w} {c = c} {d = d} {e = e} q hv hw hc kq) h s s' =
    let is : Compares E G t u e = subst (λ z. Compares E G z u e) (evaluates_stays hv s) (subst (λ z. Compares E G v z e) (evaluates_stays hw s') hc) in
    inr (e, is, within_heads c d e kq (within_more h))

-- What has a body is an abstraction.
abstraction_with : (v t : Tree) → body_of v ≡ Some t → (a : Tree) × (v ≡ lam a t)
abstraction_with (lam a u) t e = (a, ap (lam a) (some_inj e))
abstraction_with v t e = some_is_not_none e

compared_products : {E : Environment} {G : Context} {ks ls : Children} {c : Cost} → Compares E G (node ProdF ks) (node ProdF ls) c → ConvertsParts E G ks ls c
compared_products (in_order o q p h) = h
compared_products (expands_left p q small h) = some_is_not_none p
compared_products (expands_right p q small h) = some_is_not_none q

compared_abstractions : {E : Environment} {G : Context} {a t b u : Tree} {c : Cost} → Compares E G (lam a t) (lam b u) c → ConvertsParts E G (child none a (child one t no_child)) (child none b (child one u no_child)) c
compared_abstractions (in_order o q p h) = h
compared_abstractions (expands_left p q small h) = some_is_not_none (sym q)
compared_abstractions (expands_right p q small h) = some_is_not_none (sym p)

-- Parts under equally many binders, pairwise convertible under those of the first.
abbrev Pairs : Environment → Numbering → Context → Children → Children → Type 0
Pairs E N G no_child no_child = Unit {0}
Pairs E N G (child b t ks) (child c u ls) = Convertible E N (under_unknown (over b 0) G) t u × Pairs E N G ks ls
Pairs E N G _ _ = ⊥

pairs_are_parts : {E : Environment} {N : Numbering} (G : Context) (ks ls : Children) → Pairs E N G ks ls → same_places ks ls ≡ true → ConvertibleParts E N G ks ls
pairs_are_parts G no_child no_child h q = no_parts
pairs_are_parts {E} {N} G (child b t ks) (child c u ls) h q =
    let p = and_parts (same_binders b c) (same_places ks ls) q in
    subst (λ z. ConvertibleParts E N G (child b t ks) (child z u ls)) (same_binders-is b c p.0) (both_parts h.0 (pairs_are_parts G ks ls h.1 p.1))
pairs_are_parts G no_child (child c u ls) h q = absurd h
pairs_are_parts G (child b t ks) no_child h q = absurd h

pairs_value_first : (E : Environment) (N : Numbering) (G : Context) (ks ls : Children) → Pairs E N G (value_first ks) (value_first ls) → Pairs E N G ks ls
pairs_value_first E N G (child b t (child b' t' ks)) (child c u (child c' u' ls)) h = (h.1.0, (h.0, h.1.1))
pairs_value_first E N G no_child no_child h = h
pairs_value_first E N G (child b t no_child) (child c u no_child) h = h
pairs_value_first E N G no_child (child c u no_child) h = absurd h
pairs_value_first E N G no_child (child c u (child c' u' ls)) h = absurd h
pairs_value_first E N G (child b t no_child) no_child h = absurd h
pairs_value_first E N G (child b t (child b' t' ks)) no_child h = absurd h
pairs_value_first E N G (child b t no_child) (child c u (child c' u' ls)) h = absurd h.1
pairs_value_first E N G (child b t (child b' t' ks)) (child c u no_child) h = absurd h.1

-- Equal, or converted in fewer than n steps.
abbrev Alike : Environment → Numbering → ℕ → Context → Tree → Tree → Type 0
Alike E N n G t u = (t ≡ u) ⊎ ((c : Cost) × Converts E G t u c × MetInFewerSteps N n c)

two_parts : {E : Environment} {N : Numbering} {n : ℕ} {G : Context} {a a' b b' : Tree} {c : Cost} → ConvertsParts E G (child none a (child one b no_child)) (child none a' (child one b' no_child)) c → MetInFewerSteps N n c → Alike E N n G a a' × Alike E N n (unknown ∷ G) b b'
two_parts (converts_part {c = c} h (converts_part {c = d} h' r kq') kq) w =
    let p = within_then c _ kq w in
    let p' = within_then d _ kq' p.1 in
    (inr (c, h, p.0), inr (d, h', p'.0))

alike_products : {E : Environment} {N : Numbering} {n : ℕ} {G : Context} {a a' b b' : Tree} → Alike E N n G (prod a b) (prod a' b') → Alike E N n G a a' × Alike E N n (unknown ∷ G) b b'
alike_products (inl e) = (inl cc, inl cc)
alike_products {E} {N} {n} {G} {a} {a'} {b} {b'} (inr h) = heads (stays_compared h.1 h.2 tt tt)
  where
    heads : (prod a b ≡ prod a' b') ⊎ ((e : Cost) × Compares E G (prod a b) (prod a' b') e × MetInFewerSteps N n e) → Alike E N n G a a' × Alike E N n (unknown ∷ G) b b'
    heads (inl e) = (inl cc, inl cc)
    heads (inr h) = two_parts (compared_products h.1) h.2

alike_abstractions : {E : Environment} {N : Numbering} {n : ℕ} {G : Context} {a a' b b' : Tree} → Alike E N n G (lam a b) (lam a' b') → Alike E N n (unknown ∷ G) b b'
alike_abstractions (inl e) = inl cc
alike_abstractions {E} {N} {n} {G} {a} {a'} {b} {b'} (inr h) = heads (stays_compared h.1 h.2 tt tt)
  where
    heads : (lam a b ≡ lam a' b') ⊎ ((e : Cost) × Compares E G (lam a b) (lam a' b') e × MetInFewerSteps N n e) → Alike E N n (unknown ∷ G) b b'
    heads (inl e) = inl cc
    heads (inr h) = (two_parts (compared_abstractions h.1) h.2).1

shape_domains : (f g : Function) (fs gs : List Function) → function_shapes (f ∷ fs) ≡ function_shapes (g ∷ gs) → (length f.domains ≡ length g.domains) × (function_shapes fs ≡ function_shapes gs)
shape_domains f g fs gs e = (ap (λ (s : Shape). s.domains) (heads e), tails e)

shapes_length : (fs gs : List Function) → function_shapes fs ≡ function_shapes gs → length fs ≡ length gs
shapes_length fs gs e = sym (length-map fs _) ∙ ap length e ∙ length-map gs _

under_more : (m n : ℕ) (G : Context) → under_unknown m (under_unknown n G) ≡ under_unknown (n + m) G
under_more zero n G = ap (λ z. under_unknown z G) (omega arith)
under_more (suc m) n G = ap (λ z. unknown ∷ z) (under_more m n G) ∙ ap (λ z. under_unknown z G) suc_out
  where
    suc_out : suc (n + m) ≡ n + suc m
    suc_out = omega arith

module _ (E : Environment) (N : Numbering) (n : ℕ)
    (calls : (G : Context) (a b : Tree) (c : Cost) → Converts E G a b c → MetInFewerSteps N n c → Convertible E N G a b) where
  alike_convertible : {G : Context} {t u : Tree} → Alike E N n G t u → Convertible E N G t u
  alike_convertible (inl e) = identical e
  alike_convertible (inr h) = calls _ _ _ h.0 h.1 h.2

  pairs : {G : Context} {ks ls : Children} {c : Cost} → ConvertsParts E G ks ls c → MetInFewerSteps N n c → Pairs E N G ks ls
  pairs converts_no_part w = tt
  pairs (converts_part {c = c} {d = d} h r kq) w = let p = within_then c d kq w in (calls _ _ _ c h p.0, pairs r p.1)

  one_part : (G : Context) (place i j : ℕ) (t u : Tree) (ks ls : Children) → i ≡ place → j ≡ place → Convertible E N (under_unknown place G) t u → ConvertibleParts E N G ks ls → ConvertibleParts E N G (child (many i) t ks) (child (many j) u ls)
  one_part G place i j t u ks ls p q h r =
      let here : Convertible E N (under_unknown (over (many i) 0) G) t u = subst (λ z. Convertible E N (under_unknown z G) t u) (omega (arith, p)) h in
      subst (λ z. ConvertibleParts E N G (child (many i) t ks) (child (many z) u ls)) (p ∙ sym q) (both_parts here r)

  -- The domains and what stands after them.
  products_parts : (G : Context) (above : ℕ) (ds ds' : List Tree) (t t' : Tree) (i j : ℕ) (ks ls : Children) → length ds ≡ length ds' → i ≡ above + length ds → j ≡ above + length ds → Alike E N n (under_unknown above G) (products ds t) (products ds' t') → ConvertibleParts E N G ks ls → ConvertibleParts E N G (join (domain_parts above ds) (child (many i) t ks)) (join (domain_parts above ds') (child (many j) t' ls))
  products_parts G above [] [] t t' i j ks ls l p q h r = one_part G above i j t t' ks ls (omega (arith, p)) (omega (arith, q)) (alike_convertible h) r
  products_parts G above (a ∷ ds) (a' ∷ ds') t t' i j ks ls l p q h r =
      let parts = alike_products h in
      let rest : Alike E N n (under_unknown (above + 1) G) (products ds t) (products ds' t') = subst (λ z. Alike E N n (under_unknown z G) (products ds t) (products ds' t')) one_more parts.1 in
      one_part G above above above a a' _ _ refl refl (alike_convertible parts.0)
      (products_parts G (above + 1) ds ds' t t' i j ks ls (omega (arith, l)) (omega (arith, p)) (omega (arith, q)) rest r)
    where
      one_more : suc above ≡ above + 1
      one_more = omega arith
  products_parts G above [] (a' ∷ ds') t t' i j ks ls l p q h r = absurd (omega (arith, l))
  products_parts G above (a ∷ ds) [] t t' i j ks ls l p q h r = absurd (omega (arith, l))

  abstractions_end : (G : Context) (ds ds' : List Tree) (t t' : Tree) → length ds ≡ length ds' → Alike E N n G (abstractions ds t) (abstractions ds' t') → Convertible E N (under_unknown (length ds) G) t t'
  abstractions_end G [] [] t t' l h = alike_convertible h
  abstractions_end G (a ∷ ds) (a' ∷ ds') t t' l h =
      let below = abstractions_end (unknown ∷ G) ds ds' t t' (omega (arith, l)) (alike_abstractions h) in
      subst (λ z. Convertible E N z t t') (under_more (length ds) 1 G ∙ ap (λ z. under_unknown z G) one_more) below
    where
      one_more : 1 + length ds ≡ suc (length ds)
      one_more = omega arith
  abstractions_end G [] (a' ∷ ds') t t' l h = absurd (omega (arith, l))
  abstractions_end G (a ∷ ds) [] t t' l h = absurd (omega (arith, l))

  body_end : (G : Context) (all : ℕ) (f g : Function) → length f.domains ≡ length g.domains → Alike E N n (under_unknown all G) (full_body all f) (full_body all g) → Convertible E N (under_unknown (all + length f.domains) G) f.body g.body
  body_end G all f g l h =
      let lf = length_lift_domains f.domains 0 all in
      let lg = length_lift_domains g.domains 0 all in
      let below = abstractions_end (under_unknown all G) (lift_domains 0 all f.domains) (lift_domains 0 all g.domains) f.body g.body (lf ∙ l ∙ sym lg) h in
      subst (λ z. Convertible E N z f.body g.body) (ap (λ z. under_unknown z (under_unknown all G)) lf ∙ under_more (length f.domains) all G) below

  fixpoint_parts : (G : Context) (all : ℕ) (fs gs : List Function) {c d : Cost} → function_shapes fs ≡ function_shapes gs → ConvertsEach E G (function_types fs) (function_types gs) c → MetInFewerSteps N n c → ConvertsBodies E (under_unknown all G) all fs gs d → MetInFewerSteps N n d → ConvertibleParts E N G (function_parts all fs) (function_parts all gs)
  fixpoint_parts G all [] [] s h w k v = no_parts
  fixpoint_parts G all (f ∷ fs) (g ∷ gs) s (converts_more {c = c} {d = c'} h hs kq) w (converts_body {c = d} {d = d'} small small' k ks lq) v =
      let shape = shape_domains f g fs gs s in
      let p = within_then c c' kq w in
      let q = within_then d d' lq v in
      let others = fixpoint_parts G all fs gs shape.1 hs p.1 ks q.1 in
      let body = one_part G (all + length f.domains) (all + length f.domains) (all + length g.domains) f.body g.body (function_parts all fs) (function_parts all gs) refl (ap (λ z. all + z) (sym shape.0))
      (body_end G all f g shape.0 (inr (d, k, q.0))) others in
      products_parts G 0 f.domains g.domains f.codomain g.codomain (length f.domains) (length g.domains) _ _ shape.0 (omega arith) (let l = shape.0 in omega (arith, l)) (inr (c, h, p.0)) body
  fixpoint_parts G all [] (g ∷ gs) s h w k v = absurd (grind arith)
  fixpoint_parts G all (f ∷ fs) [] s h w k v = absurd (grind arith)

  not_let : (f : Former) → InOrder f → f ≢ LetF
  not_let f o e = subst InOrder e o

  nodes_convertible : (G : Context) (f g : Former) (ks ls : Children) → f ≢ LetF → f ≡ g → ConvertibleParts E N G ks ls → Convertible E N G (node f ks) (node g ls)
  nodes_convertible G f g ks ls other e h = subst (λ z. Convertible E N G (node f ks) (node z ls)) e (C.congruence other h)

  compared_convertible : {G : Context} {v w : Tree} {c : Cost} → Compares E G v w c → MetInFewerSteps N n c → Convertible E N G v w
  compared_convertible (same_variables {x = x} {y = y} q) w = identical (ap rel (eqb-true x y q))
  compared_convertible (equal_sorts {G = G} h) w = sorts_convertible E N G h w.met
  compared_convertible (in_order {G = G} {f = f} {g = g} {ks = ks} {ls = ls} o q p h) w =
      nodes_convertible G f g ks ls (not_let f o) (same_former-is f g q) (pairs_are_parts G ks ls (pairs h w) p)
  compared_convertible (matches {G = G} {id = id} {id' = id'} {ks = ks} {ls = ls} q p h) w =
      nodes_convertible G (CaseF id) (CaseF id') ks ls (λ e. grind arith) (same_former-is (CaseF id) (CaseF id') q) (pairs_are_parts G ks ls (pairs_value_first E N G ks ls (pairs h w)) p)
  compared_convertible (fixpoints {G = G} {i = i} {j = j} {shapes = shapes} {shapes' = shapes'} {ks = ks} {ls = ls} {c = c} {d = d} fs gs p q x y h k kq) w =
      let r = read_off shapes ks fs x in
      let r' = read_off shapes' ls gs y in
      let former : FixF i shapes ≡ FixF j shapes' = same_former-is (FixF i shapes) (FixF j shapes') (and_from _ _ p q) in
      let same : shapes ≡ shapes' = (let e = former in cc) in
      let shapes_are : function_shapes fs ≡ function_shapes gs = sym r.shapes_are ∙ same ∙ r'.shapes_are in
      let costs = within_then c d kq w in
      let parts = fixpoint_parts G (length fs) fs gs shapes_are h costs.0 k costs.1 in
      let left : ConvertibleParts E N G ks (function_parts (length fs) gs) = subst (λ z. ConvertibleParts E N G z (function_parts (length fs) gs)) (sym r.parts_are) parts in
      let both_sides : ConvertibleParts E N G ks ls = subst (ConvertibleParts E N G ks) (ap (λ z. function_parts z gs) (shapes_length fs gs shapes_are) ∙ sym r'.parts_are) left in
      nodes_convertible G (FixF i shapes) (FixF j shapes') ks ls (λ e. grind arith) former both_sides
  compared_convertible (expands_left {G = G} {v = v} {w = w} {t = t} p q small h) r =
      let a = abstraction_with v t p in
      subst (λ z. Convertible E N G z w) (sym a.1) (C.eta_left refl (calls _ _ _ _ h r))
  compared_convertible (expands_right {G = G} {v = v} {w = w} {t = t} p q small h) r =
      let a = abstraction_with w t q in
      subst (λ z. Convertible E N G v z) (sym a.1) (C.eta_right refl (calls _ _ _ _ h r))

module _ (E : Environment) (closed : ClosedBodies E) (N : Numbering) where
  converts_convertible : (n : ℕ) {G : Context} {a b : Tree} {c : Cost} → Converts E G a b c → MetInFewerSteps N n c → Convertible E N G a b
  converts_convertible zero h w = absurd (let p = w.steps in omega (arith, p))
  converts_convertible (suc n) (converts_same {a = a} {b = b} q kq) w = identical (same_tree-is a b q)
  converts_convertible (suc n) (converts_heads {G = G} {c = c} {d = d} {e = e} q hv hw hc kq) w =
      convertible_left E N G (evaluates_steps_to E closed G hv)
      (convertible_right E N G (evaluates_steps_to E closed G hw)
      (compared_convertible E N n (λ G a b c. converts_convertible n) hc (within_heads c d e kq w)))

  pub converted_is_convertible : {G : Context} {a b : Tree} {c : Cost} → Converts E G a b c → MeetsAll N c.found → Convertible E N G a b
  converted_is_convertible {c = c} h met = converts_convertible (suc c.steps) h (record { steps = omega arith; met = met })

pub conversion_is_right : (E : Environment) (N : Numbering) (G : Context) (k : ℕ) (t t' : Tree) (u : Unit {0}) (b b' : Budget) → ClosedBodies E → conv_at k E G t t' b ≡ done u b' → MeetsAll N b'.found → Convertible E N G t t'
conversion_is_right E N G k t t' u b b' closed e met =
    let h = conv_done E k G t t' u b b' e in
    converted_is_convertible E closed N h.1 (inserted_met N b.found h.0.found (subst (MeetsAll N) h.3.found met)).0

module _ (E : Environment) (closed : ClosedBodies E) (N : Numbering) where
  mutual
    pub cumulated_is_at_most : {G : Context} {a b : Tree} {c : Cost} → Cumulates E G a b c → MeetsAll N c.found → AtMost E N G a b
    cumulated_is_at_most (cumulates_same {a = a} {b = b} q kq) met = convertible (identical (same_tree-is a b q))
    cumulated_is_at_most (cumulates_heads {G = G} {c = c} {d = d} {e = e} q hv hw hc kq) met =
        at_most_left E N G (evaluates_steps_to E closed G hv)
        (at_most_right E N G (evaluates_steps_to E closed G hw)
        (below_is_at_most hc (meets_append N (c.found ++ d.found) e.found (subst (λ (z : Cost). MeetsAll N z.found) kq met)).1))

    below_is_at_most : {G : Context} {v w : Tree} {c : Cost} → Below E G v w c → MeetsAll N c.found → AtMost E N G v w
    below_is_at_most (products_below {c = c} {d = d} h r kq) met =
        let m = meets_append N c.found d.found (subst (λ (z : Cost). MeetsAll N z.found) kq met) in
        C.products (converted_is_convertible E closed N h m.0) (cumulated_is_at_most r m.1)
    below_is_at_most (sorts_below h) met = sorts (sorts_at_most_is N h met)
    below_is_at_most (compared {c = k} n m h) met =
        convertible (compared_convertible E N (suc k.steps) (λ G a b c. converts_convertible E closed N (suc k.steps)) h (record { steps = omega arith; met = met }))

pub subtyping_is_right : (E : Environment) (N : Numbering) (G : Context) (k : ℕ) (t t' : Tree) (u : Unit {0}) (b b' : Budget) → ClosedBodies E → cumul_at k E G t t' b ≡ done u b' → MeetsAll N b'.found → AtMost E N G t t'
subtyping_is_right E N G k t t' u b b' closed e met =
    let h = cumul_done E k G t t' u b b' e in
    cumulated_is_at_most E closed N h.1 (inserted_met N b.found h.0.found (subst (MeetsAll N) h.3.found met)).0
