-- Binders that are made one after the other.
use Rattle.std.proofs.Common.{◌≡◌, ℕ, ◌+◌, ◌-◌, ◌≤◌, ◌<◌, max, Bool, true, false, Option, Some, None, option_map, Result, Ok, Err, IfOk, List, [], ◌∷◌, ◌++◌, length, map, take, drop, get_or, refl, sym, ap, subst, ◌∙◌, append_assoc, arith}
use Rattle.std.proofs.lemmas.Grind.{common_steps}
use Rattle.std.specs.declared.rc.Rc.{Rc}
use Rattle.std.specs.declared.alloc.Global.{Global}
use Rattle.cic_names.specs.declared.name.GlobalId.{GlobalId}
use Rattle.cic_terms.specs.Tree.{Tree, prod, lam, let_in}
use Rattle.cic_terms.specs.Sizes.{Fits, depth_tree, max_rel}
use Rattle.cic_terms.specs.Denotes.{tree}
use Rattle.cic_terms.specs.calls.Answer.{Makes, MakesShared}
use Rattle.cic_terms.specs.declared.term.Term.{Term}
use Rattle.cic_terms.specs.declared.term.TermFault.{TermFault}
use Rattle.cic_terms.specs.declared.term.TermFault.TheVariants.{Deep}
use Rattle.cic_terms.proofs.Children.{drop_at, drop_whole}
use Rattle.cic_terms.proofs.Gathered.{take_more}
use Rattle.section_terms.specs.Hypotheses.{Hypothesis}
use Rattle.section_terms.specs.Discharge.{binding}
use Rattle.section_terms.specs.calls.Standing.{Passed, nothing_passed, pass, pass_all, passed_body, Bound, bounds, bound_of, one_or_none, under_binders, put}
use Rattle.section_uses.specs.Kept.{hypothesis, list_of, shared_tree}
use Rattle.section_uses.specs.declared.hypothesis.Hypothesis.{Hypothesis as Kept}
use Rattle.section_uses.specs.declared.lists.Lists.{Lists}
use Rattle.section_discharge.specs.declared.binders.Binding.{Binding}
use Rattle.section_discharge.specs.declared.binders.Binding.TheVariants.{Product, Abstraction}
use Rattle.section_discharge.specs.declared.table.Table.{Table}
use Rattle.section_discharge.specs.calls.Tables.{IsTable, IsNew, IsNext, IsBound, Passes, state_of, arguments_of}
use Rattle.section_discharge.specs.calls.Binders.{bind_with, FitsAt, BodyFitsAt, BoundFits, BoundsFit, AreMade, all_bounds, under_all}
use Rattle.section_discharge.proofs.Passing.{state_after}

-- What fits at a place
pub fits_at : (room at : ℕ) (t : Tree) → room + at ≡ 4000 → Fits room t → FitsAt at t
fits_at room at t e h = record { depth = omega (arith, h.depth); rels = h.rels }

pub at_fits : (room at : ℕ) (t : Tree) → room + at ≡ 4000 → FitsAt at t → Fits room t
at_fits room at t e h = record { depth = omega (arith, h.depth); rels = h.rels }

pub bounds_fit_more : (at : ℕ) (made : List Bound) (b : Bound) → BoundsFit at made → BoundFits (at + length made) b → BoundsFit at (made ++ b ∷ [])
bounds_fit_more at [] b h fits = (subst (λ n. BoundFits n b) (omega arith) fits, tt)
bounds_fit_more at (x ∷ made) b h fits =
    let e : at + length (x ∷ made) ≡ at + 1 + length made = omega arith in
    (h.0, bounds_fit_more (at + 1) made b h.1 (subst (λ n. BoundFits n b) e fits))

pub bounds_unfit : (at : ℕ) (made rest : List Bound) (b : Bound) → ¬ BoundFits (at + length made) b → ¬ BoundsFit at (made ++ b ∷ rest)
bounds_unfit at [] rest b never h = never (subst (λ n. BoundFits n b) (omega arith) h.0)
bounds_unfit at (x ∷ made) rest b never h =
    let e : at + 1 + length made ≡ at + length (x ∷ made) = omega arith in
    bounds_unfit (at + 1) made rest b (λ fits. never (subst (λ n. BoundFits n b) e fits)) h.1

one_fits : (way : Binding) (at : ℕ) (type : Tree) (body : Option Tree) (rest : Tree) → FitsAt (at + 1) type → BodyFitsAt (at + 1) body → FitsAt (at + 1) rest →
    FitsAt at (binding (bind_with way) body type rest)
one_fits Product at type None rest h k l = record { depth = omega (arith, h.depth, l.depth); rels = omega (arith, h.rels, l.rels) }
one_fits Abstraction at type None rest h k l = record { depth = omega (arith, h.depth, l.depth); rels = omega (arith, h.rels, l.rels) }
one_fits way at type (Some body) rest h k l = record { depth = omega (arith, h.depth, k.depth, l.depth); rels = omega (arith, h.rels, k.rels, l.rels) }

fits_one : (way : Binding) (at : ℕ) (type : Tree) (body : Option Tree) (rest : Tree) → FitsAt at (binding (bind_with way) body type rest) →
    FitsAt (at + 1) type × BodyFitsAt (at + 1) body × FitsAt (at + 1) rest
fits_one Product at type None rest h =
    (record { depth = omega (arith, h.depth); rels = omega (arith, h.rels) }, tt, record { depth = omega (arith, h.depth); rels = omega (arith, h.rels) })
fits_one Abstraction at type None rest h =
    (record { depth = omega (arith, h.depth); rels = omega (arith, h.rels) }, tt, record { depth = omega (arith, h.depth); rels = omega (arith, h.rels) })
fits_one way at type (Some body) rest h = (
  record { depth = omega (arith, h.depth); rels = omega (arith, h.rels) },
  record { depth = omega (arith, h.depth); rels = omega (arith, h.rels) },
  record { depth = omega (arith, h.depth); rels = omega (arith, h.rels) },
)

pub under_fits : (way : Binding) (at : ℕ) (bs : List Bound) (t : Tree) → BoundsFit at bs → FitsAt (at + length bs) t → FitsAt at (under_binders (bind_with way) bs t)
under_fits way at [] t h k = subst (λ n. FitsAt n t) (omega arith) k
under_fits way at (b ∷ bs) t h k =
    let e : at + length (b ∷ bs) ≡ at + 1 + length bs = omega arith in
    one_fits way at b.type b.body (under_binders (bind_with way) bs t) h.0.type h.0.body (under_fits way (at + 1) bs t h.1 (subst (λ n. FitsAt n t) e k))

pub fits_bounds : (way : Binding) (at : ℕ) (bs : List Bound) (t : Tree) → FitsAt at (under_binders (bind_with way) bs t) → BoundsFit at bs
fits_bounds way at [] t h = tt
fits_bounds way at (b ∷ bs) t h =
    let p = fits_one way at b.type b.body (under_binders (bind_with way) bs t) h in
    (record { type = p.0; body = p.1 }, fits_bounds way (at + 1) bs t p.2)

pub fits_inside : (way : Binding) (at : ℕ) (bs : List Bound) (t : Tree) → FitsAt at (under_binders (bind_with way) bs t) → FitsAt (at + length bs) t
fits_inside way at [] t h = subst (λ n. FitsAt n t) (omega arith) h
fits_inside way at (b ∷ bs) t h =
    let p = fits_one way at b.type b.body (under_binders (bind_with way) bs t) h in
    let e : at + 1 + length bs ≡ at + length (b ∷ bs) = omega arith in
    subst (λ n. FitsAt n t) e (fits_inside way (at + 1) bs t p.2)

-- The binders that are left
kept_or_not : (keeps : Bool) (h : Hypothesis) (b : Bound) (bs : List Bound) → IsBound keeps h → one_or_none keeps h.body b bs ≡ b ∷ bs
kept_or_not true h b bs is = go h.body
  where
    go : (o : Option Tree) → one_or_none true o b bs ≡ b ∷ bs
    go None = refl
    go (Some t) = refl
kept_or_not false h b bs is = ap (λ (o : Option Tree). one_or_none false o b bs) is

abbrev left_of : Table → List Bound
left_of t = bounds (arguments_of t) t.keeps (map hypothesis (drop t.count t.all.now)) (state_of t)

left_now : (t : Table) (h : Kept) → IsNext t h →
    left_of t ≡ one_or_none t.keeps (hypothesis h).body (bound_of (arguments_of t) (state_of t) (hypothesis h)) (bounds (arguments_of t) t.keeps (map hypothesis (drop (t.count + 1) t.all.now)) (pass (arguments_of t) t.keeps (hypothesis h) (state_of t)))
left_now t h next = ap (λ (hs : List Kept). bounds (arguments_of t) t.keeps (map hypothesis hs) (state_of t)) next.left

changed : (args args' : Lists) (keeps keeps' : Bool) (all all' : List Kept) (n n' : ℕ) (e e' : Passed) → args' ≡ args → keeps' ≡ keeps → all' ≡ all → n' ≡ n → e' ≡ e →
    bounds (list_of args') keeps' (map hypothesis (drop n' all')) e' ≡ bounds (list_of args) keeps (map hypothesis (drop n all)) e
changed args args' keeps keeps' all all' n n' e e' a k l m s = rw (a, k, l, m, s) refl

left_after : (t after : Table) (h : Kept) → IsNext t h → Passes t after →
    left_of after ≡ bounds (arguments_of t) t.keeps (map hypothesis (drop (t.count + 1) t.all.now)) (pass (arguments_of t) t.keeps (hypothesis h) (state_of t))
left_after t after h next p =
    changed t.arguments.now after.arguments.now t.keeps after.keeps t.all.now after.all.now (t.count + 1) after.count _ (state_of after) p.arguments p.keeps p.all p.count
    (state_after t after h next p.arguments p.keeps p.all p.count)

same_all : (args args' : Lists) (keeps keeps' : Bool) (all all' : List Kept) → args' ≡ args → keeps' ≡ keeps → all' ≡ all →
    bounds (list_of args') keeps' (map hypothesis all') nothing_passed ≡ bounds (list_of args) keeps (map hypothesis all) nothing_passed
same_all args args' keeps keeps' all all' a k l = rw (a, k, l) refl

pub all_after : (t after : Table) → after.arguments.now ≡ t.arguments.now → after.keeps ≡ t.keeps → after.all.now ≡ t.all.now → all_bounds after ≡ all_bounds t
all_after t after a k l = same_all t.arguments.now after.arguments.now t.keeps after.keeps t.all.now after.all.now a k l

bound_rest : (t : Table) (h : Kept) → IsNext t h → IsBound t.keeps (hypothesis h) →
    left_of t ≡ bound_of (arguments_of t) (state_of t) (hypothesis h) ∷ bounds (arguments_of t) t.keeps (map hypothesis (drop (t.count + 1) t.all.now)) (pass (arguments_of t) t.keeps (hypothesis h) (state_of t))
bound_rest t h next is = left_now t h next ∙ kept_or_not t.keeps (hypothesis h) _ _ is

pub made_bound : (t after : Table) (h : Kept) (made made' : List Bound) (b : Bound) → AreMade t made → IsNext t h → IsBound t.keeps (hypothesis h) →
    made' ≡ made ++ b ∷ [] → b ≡ bound_of (arguments_of t) (state_of t) (hypothesis h) → BoundFits t.binders (bound_of (arguments_of t) (state_of t) (hypothesis h)) →
    t.binders < 4000 → Passes t after → after.binders ≡ t.binders + 1 → AreMade after made'
made_bound t after h made made' b are next is last e fits room p one =
    let want = bound_of (arguments_of t) (state_of t) (hypothesis h) in
    let made_is : made' ≡ made ++ want ∷ [] = last ∙ ap (λ (x : Bound). made ++ x ∷ []) e in
    let at : 0 + length made ≡ t.binders = omega (arith, are.binders) in
    record {
      table = p.table;
      binders = ap length made_is ∙ count_more made want ∙ ap (λ n. n + 1) are.binders ∙ sym one;
      most = rw one (omega (arith, room));
      fits = subst (BoundsFit 0) (sym made_is) (bounds_fit_more 0 made want are.fits (subst (λ n. BoundFits n want) (sym at) fits));
      rest =
          ap (λ (l : List Bound). l ++ left_of after) made_is ∙ append_assoc made (want ∷ []) (left_of after)
          ∙ ap (λ (l : List Bound). made ++ want ∷ l) (left_after t after h next p)
          ∙ sym (ap (λ (l : List Bound). made ++ l) (bound_rest t h next is))
          ∙ are.rest ∙ sym (all_after t after p.arguments p.keeps p.all);
    }
  where
    count_more : (xs : List Bound) (x : Bound) → length (xs ++ x ∷ []) ≡ length xs + 1
    count_more [] x = refl
    count_more (y ∷ xs) x = let e : length (xs ++ x ∷ []) ≡ length xs + 1 = count_more xs x in omega (arith, e)

pub bound_refused : (t : Table) (h : Kept) (made : List Bound) → AreMade t made → IsNext t h → IsBound t.keeps (hypothesis h) →
    ¬ BoundFits t.binders (bound_of (arguments_of t) (state_of t) (hypothesis h)) → ¬ BoundsFit 0 (all_bounds t)
bound_refused t h made are next is never fits =
    let at : 0 + length made ≡ t.binders = omega (arith, are.binders) in
    let want = bound_of (arguments_of t) (state_of t) (hypothesis h) in
    let all = sym (ap (λ (l : List Bound). made ++ l) (bound_rest t h next is)) ∙ are.rest in
    bounds_unfit 0 made _ want (λ f. never (subst (λ n. BoundFits n want) at f)) (subst (BoundsFit 0) (sym all) fits)

pub made_body : (t after : Table) (h : Kept) (made : List Bound) (body : Tree) → AreMade t made → IsNext t h → t.keeps ≡ false → (hypothesis h).body ≡ Some body →
    Passes t after → after.binders ≡ t.binders → AreMade after made
made_body t after h made body are next keeps is p none =
    let gone : left_of t ≡ bounds (arguments_of t) t.keeps (map hypothesis (drop (t.count + 1) t.all.now)) (pass (arguments_of t) t.keeps (hypothesis h) (state_of t)) =
    left_now t h next ∙ no_binder t.keeps (hypothesis h).body _ _ keeps is in
    record {
      table = p.table;
      binders = are.binders ∙ sym none;
      most = rw none are.most;
      fits = are.fits;
      rest =
          ap (λ (l : List Bound). made ++ l) (left_after t after h next p ∙ sym gone)
          ∙ are.rest ∙ sym (all_after t after p.arguments p.keeps p.all);
    }
  where
    no_binder : (k : Bool) (o : Option Tree) (b : Bound) (bs : List Bound) → k ≡ false → o ≡ Some body → one_or_none k o b bs ≡ bs
    no_binder k o b bs e f = rw (e, f) refl

-- None is made yet, and all are.
pub made_none : (t : Table) (all : List Kept) (arguments : Lists) (keeps : Bool) → IsTable t → IsNew all arguments keeps t → AreMade t []
made_none t all arguments keeps table new =
    record {
      table = table;
      binders = sym new.binders;
      most = rw new.binders (omega arith);
      fits = tt;
      rest = at_first t.arguments.now t.keeps t.all.now t.count new.count;
    }
  where
    at_first : (args : Lists) (k : Bool) (xs : List Kept) (n : ℕ) → n ≡ 0 →
        bounds (list_of args) k (map hypothesis (drop n xs)) (pass_all (list_of args) k (map hypothesis (take n xs)) nothing_passed) ≡ bounds (list_of args) k (map hypothesis xs) nothing_passed
    at_first args k xs n e = rw e refl

taken_whole : {A : Type 0} (xs : List A) (n : ℕ) → length xs ≤ n → take n xs ≡ xs
taken_whole xs n h = grind (arith, common_steps)

nothing_more : (xs : List Bound) → xs ++ [] ≡ xs
nothing_more [] = refl
nothing_more (x ∷ xs) = ap (λ (l : List Bound). x ∷ l) (nothing_more xs)

pub all_made : (t : Table) (made : List Bound) → AreMade t made → length t.all.now ≤ t.count → made ≡ all_bounds t
all_made t made are whole =
    sym (nothing_more made)
    ∙ sym (ap (λ (hs : List Kept). made ++ bounds (arguments_of t) t.keeps (map hypothesis hs) (state_of t)) (drop_whole t.all.now t.count whole))
    ∙ are.rest

pub all_passed : (t : Table) → length t.all.now ≤ t.count → state_of t ≡ pass_all (arguments_of t) t.keeps (map hypothesis t.all.now) nothing_passed
all_passed t whole = ap (λ (hs : List Kept). pass_all (arguments_of t) t.keeps (map hypothesis hs) nothing_passed) (taken_whole t.all.now t.count whole)
