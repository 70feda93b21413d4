-- What holds of counted calls because of how they are put together: a relation between two calls that holds of
-- the parts, each with itself, and is kept by what puts them together holds between each definition of the check
-- over some calls and over others that are so related. So a law about counted calls, of one call or between two,
-- need not follow the text of the definitions again.
use Rattle.std.proofs.Common.{Bool, true, false, if◌then◌else◌, Option, Some, None, List, [], ◌∷◌}
use Rattle.cic_terms.specs.Tree.{Tree}
use Rattle.cic_names.specs.declared.constraint.Constraint.{Constraint}
use Rattle.cic_counted.specs.Outcome.{Stopped, deep, Cause, refused, Counted, ◌>>=◌, ◌>>◌, give, stop, refuse, or_refuse, require, refuse_for, tick, note, is_small, fitting, fitting_all}
use Rattle.cic_counted.specs.Checking.{take_found}

pub record Compositional (R : (A : Type 0) → Counted A → Counted A → Type 0) : Type 1 where
  pub give : {A : Type 0} (a : A) → R A (give a) (give a)
  pub stop : {A : Type 0} (s : Stopped) → R A (stop s) (stop s)
  pub tick : R (Unit {0}) tick tick
  pub note : (c : Constraint) → R (Unit {0}) (note c) (note c)
  pub take_found : R (List Constraint) take_found take_found
  pub bind : {A B : Type 0} {m m' : Counted A} {f f' : A → Counted B} → R A m m' → ((a : A) → R B (f a) (f' a)) → R B (m >>= f) (m' >>= f')

module _ {R : (A : Type 0) → Counted A → Counted A → Type 0} (h : Compositional R) where
  pub holds_then : {A B : Type 0} {m m' : Counted A} {n n' : Counted B} → R A m m' → R B n n' → R B (m >> n) (m' >> n')
  holds_then p q = h.bind p (λ _. q)

  pub holds_if : {A : Type 0} (c : Bool) {m m' n n' : Counted A} → R A m m' → R A n n' → R A (if c then m else n) (if c then m' else n')
  holds_if true p q = p
  holds_if false p q = q

  pub holds_refuse : {A : Type 0} (c : Cause) → R A (refuse c) (refuse c)
  holds_refuse c = h.stop (refused c)

  pub holds_fitting : (t : Tree) → R Tree (fitting t) (fitting t)
  holds_fitting t = holds_if (is_small t) (h.give t) (h.stop deep)

  pub holds_fitting_all : (ts : List Tree) → R (List Tree) (fitting_all ts) (fitting_all ts)
  holds_fitting_all [] = h.give []
  holds_fitting_all (t ∷ ts) = h.bind (holds_fitting t) (λ u. h.bind (holds_fitting_all ts) (λ us. h.give (u ∷ us)))

  pub holds_or_refuse : {A : Type 0} (o : Option A) (c : Cause) → R A (or_refuse o c) (or_refuse o c)
  holds_or_refuse None c = holds_refuse c
  holds_or_refuse (Some a) c = h.give a

  pub holds_require : (test : Bool) (c : Cause) → R (Unit {0}) (require test c) (require test c)
  holds_require true c = h.give tt
  holds_require false c = holds_refuse c

  pub holds_refuse_for : (o : Option Cause) → R (Unit {0}) (refuse_for o) (refuse_for o)
  holds_refuse_for None = h.give tt
  holds_refuse_for (Some c) = holds_refuse c
