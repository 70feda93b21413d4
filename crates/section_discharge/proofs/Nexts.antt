-- What calls answer that pass one more hypothesis.
use Rattle.std.proofs.Common.{◌≡◌, ℕ, ◌+◌, ◌-◌, ◌≤◌, ◌<◌, Bool, true, false, Option, Some, None, option_map, Result, Ok, Err, OnOk, OnErr, List, [], ◌∷◌, ◌++◌, length, map, drop, refl, sym, ap, subst, ◌∙◌, arith}
use Rattle.std.specs.declared.rc.Rc.{Rc}
use Rattle.std.specs.declared.alloc.Global.{Global}
use Rattle.cic_terms.specs.Tree.{Tree}
use Rattle.cic_terms.specs.Sizes.{Fits}
use Rattle.cic_terms.specs.Lift.{lift_tree}
use Rattle.cic_terms.specs.declared.term.Term.{Term}
use Rattle.cic_terms.specs.declared.term.TermFault.{TermFault}
use Rattle.cic_terms.specs.declared.term.TermFault.TheVariants.{Deep, NoMemory}
use Rattle.section_terms.specs.Names.{replace_names}
use Rattle.section_terms.specs.calls.Standing.{Bound, bound_of, put, nothing_passed, bounds}
use Rattle.section_terms.proofs.Replacing.{lift_none}
use Rattle.section_uses.specs.Kept.{hypothesis, list_of, shared_tree}
use Rattle.section_uses.specs.declared.hypothesis.Hypothesis.{Hypothesis as Kept}
use Rattle.section_uses.specs.declared.lists.Lists.{Lists}
use Rattle.section_discharge.specs.declared.binders.Binder.{Binder}
use Rattle.section_discharge.specs.declared.table.Table.{Table}
use Rattle.section_discharge.specs.calls.Tables.{IsTable, IsNext, IsBound, Passes, state_of, arguments_of, becomes_of}
use Rattle.section_discharge.specs.calls.Binders.{bound, BoundFits, BoundsFit, FitsAt, AreMade, MakesNext, all_bounds}
use Rattle.section_discharge.proofs.Bounds.{made_bound, made_body, fits_at, at_fits, all_after}

pub put_made : (t : Table) (x : Tree) → IsTable t → replace_names (becomes_of t) t.binders 0 x ≡ put (arguments_of t) (state_of t) 0 x
put_made t x table = ap (λ n. replace_names (becomes_of t) n 0 x) table.binders

pub no_lift : (n : ℕ) (t : Tree) → lift_tree 0 (n - n) t ≡ t
no_lift n t = let e : n - n ≡ 0 = omega arith in rw e (lift_none 0 t)

-- A part under the binders, where it is made and where it is refused
pub part_fits : (t : Table) (room at : ℕ) (x : Tree) → IsTable t → room + at ≡ 4000 → Fits room (replace_names (becomes_of t) t.binders 0 x) → FitsAt at (put (arguments_of t) (state_of t) 0 x)
part_fits t room at x table e fits = fits_at room at _ e (subst (Fits room) (put_made t x table) fits)

pub part_unfit : (t : Table) (room at : ℕ) (x : Tree) → IsTable t → room + at ≡ 4000 → ¬ Fits room (replace_names (becomes_of t) t.binders 0 x) → ¬ FitsAt at (put (arguments_of t) (state_of t) 0 x)
part_unfit t room at x table e never fits = never (subst (Fits room) (sym (put_made t x table)) (at_fits room at _ e fits))

no_deep : (e : TermFault) (r : Result (Unit {0}) TermFault) → r ≡ Err e → r ≡ Err NoMemory → e ≡ Deep → ⊥
no_deep e r g h k = cc

push_map : (bs : List Binder) (b : Binder) → map bound (bs ++ b ∷ []) ≡ map bound bs ++ bound b ∷ []
push_map [] b = refl
push_map (x ∷ bs) b = ap (λ (l : List Bound). bound x ∷ l) (push_map bs b)

pub bind_next : (t after : Table) (h : Kept) (bs bs' : List Binder) (b : Binder) (result : Result (Unit {0}) TermFault) →
    AreMade t (map bound bs) → IsNext t h → IsBound t.keeps (hypothesis h) → bs' ≡ bs ++ b ∷ [] → bound b ≡ bound_of (arguments_of t) (state_of t) (hypothesis h) →
    BoundFits t.binders (bound_of (arguments_of t) (state_of t) (hypothesis h)) → OnOk result (Passes t after) → OnOk result (after.binders ≡ t.binders + 1) → OnErr result (result ≡ Err NoMemory) →
    MakesNext t after (map bound bs') result
bind_next t after h bs bs' b (Ok u) are next is last e fits p one none =
    record {
      made = made_bound t after h (map bound bs) (map bound bs') (bound b) are next is (ap (map bound) last ∙ push_map bs b) e fits (omega (arith, fits.type.depth)) p one;
      all = p.all;
      arguments = p.arguments;
      keeps = p.keeps;
      count = p.count;
      deep = tt;
    }
bind_next t after h bs bs' b (Err fault) are next is last e fits p one none =
    record { made = tt; all = tt; arguments = tt; keeps = tt; count = tt; deep = λ d. absurd (no_deep fault (Err fault) refl none d) }

pub body_next : (t after : Table) (h : Kept) (made : List Bound) (body : Tree) (result : Result (Unit {0}) TermFault) →
    AreMade t made → IsNext t h → t.keeps ≡ false → (hypothesis h).body ≡ Some body → OnOk result (Passes t after) → OnOk result (after.binders ≡ t.binders) → OnErr result (result ≡ Err NoMemory) →
    MakesNext t after made result
body_next t after h made body (Ok u) are next keeps is p one none =
    record { made = made_body t after h made body are next keeps is p one; all = p.all; arguments = p.arguments; keeps = p.keeps; count = p.count; deep = tt }
body_next t after h made body (Err fault) are next keeps is p one none =
    record { made = tt; all = tt; arguments = tt; keeps = tt; count = tt; deep = λ d. absurd (no_deep fault (Err fault) refl none d) }

pub bounds_of : (t : Table) (hs : List Kept) (lists : Lists) (keep : Bool) → t.all.now ≡ hs → t.arguments.now ≡ lists → t.keeps ≡ keep →
    all_bounds t ≡ bounds (list_of lists) keep (map hypothesis hs) nothing_passed
bounds_of t hs lists keep a k l = go t.arguments.now t.keeps t.all.now a k l
  where
    go : (args : Lists) (b : Bool) (xs : List Kept) → xs ≡ hs → args ≡ lists → b ≡ keep → bounds (list_of args) b (map hypothesis xs) nothing_passed ≡ bounds (list_of lists) keep (map hypothesis hs) nothing_passed
    go args b xs e f g = rw (e, f, g) refl
