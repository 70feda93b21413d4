-- Binders of hypotheses, which are made one after the other, each within the limits where it stands.
use Rattle.std.specs.Prelude.{ℕ, ◌+◌, ◌≤◌, ◌≡◌, Bool, Option, Some, None, List, [], ◌∷◌, ◌++◌, length, map, drop, Vec, Result, IfOk, IfErr, OnOk}
use Rattle.std.specs.Option.{option_map}
use Rattle.cic_names.specs.declared.name.GlobalId.{GlobalId}
use Rattle.cic_terms.specs.Tree.{Tree, prod, lam}
use Rattle.cic_terms.specs.Sizes.{depth_tree, max_rel}
use Rattle.std.specs.declared.rc.Rc.{Rc}
use Rattle.std.specs.declared.alloc.Global.{Global}
use Rattle.cic_terms.specs.declared.term.Term.{Term}
use Rattle.cic_terms.specs.declared.term.TermFault.{TermFault}
use Rattle.cic_terms.specs.declared.term.TermFault.TheVariants.{Deep}
use Rattle.section_terms.specs.Hypotheses.{Hypothesis}
use Rattle.section_terms.specs.calls.Standing.{Passed, nothing_passed, Bound, bounds, bound_of, under_binders, put, pass_all}
use Rattle.section_uses.specs.Kept.{hypothesis, list_of, shared_tree}
use Rattle.section_uses.specs.declared.hypothesis.Hypothesis.{Hypothesis as Kept}
use Rattle.section_uses.specs.declared.lists.Lists.{Lists}
use Rattle.section_discharge.specs.declared.binders.Binder.{Binder}
use Rattle.section_discharge.specs.declared.binders.Binding.{Binding}
use Rattle.section_discharge.specs.declared.binders.Binding.TheVariants.{Product, Abstraction}
use Rattle.section_discharge.specs.declared.binders.Binders.{Binders}
use Rattle.section_discharge.specs.declared.table.Table.{Table}
use Rattle.section_discharge.specs.calls.Tables.{IsTable, arguments_of, state_of}

abbrev pub bound : Binder → Bound
bound b = record { type = shared_tree b.ty; body = option_map shared_tree b.body }

abbrev pub bind_with : Binding → (domain rest : Tree) → Tree
bind_with Product domain rest = prod domain rest
bind_with Abstraction domain rest = lam domain rest

-- A tree is within the limits of a whole in which it stands `at` levels deep.
pub record FitsAt (at : ℕ) (t : Tree) : Type 0 where
  pub depth : depth_tree t + at ≤ 4000
  pub rels : max_rel t ≤ 1048576

abbrev pub BodyFitsAt : ℕ → Option Tree → Type 0
BodyFitsAt at None = Unit {0}
BodyFitsAt at (Some t) = FitsAt at t

pub record BoundFits (at : ℕ) (b : Bound) : Type 0 where
  pub type : FitsAt (at + 1) b.type
  pub body : BodyFitsAt (at + 1) b.body

abbrev pub BoundsFit : ℕ → List Bound → Type 0
BoundsFit at [] = Unit {0}
BoundsFit at (b ∷ bs) = BoundFits at b × BoundsFit (at + 1) bs

-- A binder that is made.
pub record MakesBound (at : ℕ) (want : Bound) (result : Result Binder TermFault) : Type 0 where
  pub ok : IfOk result (λ b. bound b ≡ want)
  pub fits : OnOk result (BoundFits at want)
  pub deep : IfErr result (λ fault. fault ≡ Deep → ¬ BoundFits at want)

pub record MakesBody (at : ℕ) (want : Option Tree) (result : Result (Option (Rc Term Global)) TermFault) : Type 0 where
  pub ok : IfOk result (λ b. option_map shared_tree b ≡ want)
  pub fits : OnOk result (BodyFitsAt at want)
  pub deep : IfErr result (λ fault. fault ≡ Deep → ¬ BodyFitsAt at want)

-- All binders of the hypotheses of a table.
abbrev pub hypotheses_of : Table → List Hypothesis
hypotheses_of t = map hypothesis t.all.now

abbrev pub all_bounds : Table → List Bound
all_bounds t = bounds (arguments_of t) t.keeps (hypotheses_of t) nothing_passed

-- These were made of the hypotheses that were passed.
pub record AreMade (t : Table) (made : List Bound) : Type 0 where
  pub table : IsTable t
  pub binders : length made ≡ t.binders
  pub most : t.binders ≤ 4000
  pub fits : BoundsFit 0 made
  pub rest : made ++ bounds (arguments_of t) t.keeps (map hypothesis (drop t.count t.all.now)) (state_of t) ≡ all_bounds t

-- One more hypothesis was passed, and its binder made where it has one.
pub record MakesNext (before after : Table) (made' : List Bound) (result : Result (Unit {0}) TermFault) : Type 0 where
  pub made : OnOk result (AreMade after made')
  pub all : OnOk result (after.all.now ≡ before.all.now)
  pub arguments : OnOk result (after.arguments.now ≡ before.arguments.now)
  pub keeps : OnOk result (after.keeps ≡ before.keeps)
  pub count : OnOk result (after.count ≡ before.count + 1)
  pub deep : IfErr result (λ fault. fault ≡ Deep → ¬ BoundsFit 0 (all_bounds before))

-- All hypotheses were passed, and these are their binders.
pub record IsReady (b : Binders) : Type 0 where
  pub made : AreMade b.table (map bound b.bounds.items)
  pub whole : length b.table.all.now ≤ b.table.count

-- The binders are those of these hypotheses.
pub record AreBinders (hs : List Kept) (lists : Lists) (keep : Bool) (b : Binders) : Type 0 where
  pub ready : IsReady b
  pub all : b.table.all.now ≡ hs
  pub arguments : b.table.arguments.now ≡ lists
  pub keeps : b.table.keeps ≡ keep

-- A tree under all binders.
abbrev pub under_all : Binding → (arguments : GlobalId → List GlobalId) → (keeps : Bool) → List Hypothesis → Tree → Tree
under_all binding arguments keeps hs t =
    under_binders (bind_with binding) (bounds arguments keeps hs nothing_passed) (put arguments (pass_all arguments keeps hs nothing_passed) 0 t)
