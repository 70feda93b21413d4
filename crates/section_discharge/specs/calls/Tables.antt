-- The table of what constants stand for while hypotheses are passed.
use Rattle.std.specs.Prelude.{ℕ, ◌+◌, ◌-◌, ◌≤◌, ◌<◌, ◌≡◌, Bool, true, false, Option, Some, None, List, [], ◌∷◌, ◌++◌, length, map, take, drop, Result, IfOk, IfErr}
use Rattle.std.specs.Map.{lookup}
use Rattle.std.specs.declared.rc.Rc.{Rc}
use Rattle.std.specs.declared.alloc.Global.{Global}
use Rattle.cic_names.specs.declared.name.GlobalId.{GlobalId}
use Rattle.cic_names.specs.Sameness.{same_id}
use Rattle.cic_terms.specs.Tree.{Former, ConstF, IndF, CtorF, Tree, rel, node, no_child, const}
use Rattle.cic_rules.specs.Telescopes.{apply}
use Rattle.cic_terms.specs.Lift.{lift_tree}
use Rattle.cic_terms.specs.Sizes.{Fits}
use Rattle.cic_terms.specs.calls.Answer.{after}
use Rattle.cic_terms.specs.declared.term.Term.{Term}
use Rattle.cic_terms.specs.declared.term.TermFault.{TermFault}
use Rattle.cic_terms.specs.declared.term.TermFault.TheVariants.{Deep as TooDeep}
use Rattle.section_terms.specs.Hypotheses.{Hypothesis}
use Rattle.section_terms.specs.calls.Standing.{Passed, nothing_passed, standing_for, pass_all}
use Rattle.section_uses.specs.Kept.{hypothesis, list_of, shared_tree}
use Rattle.section_uses.specs.declared.hypothesis.Hypothesis.{Hypothesis as Kept}
use Rattle.section_uses.specs.declared.lists.Lists.{Lists}
use Rattle.section_discharge.specs.declared.table.Standing.{Standing}
use Rattle.section_discharge.specs.declared.table.Standing.TheVariants.{Variable, Body, Deep}
use Rattle.section_discharge.specs.declared.table.Table.{Table}

-- The hypotheses that were passed, and what was passed with them.
abbrev pub passed_of : Table → List Hypothesis
passed_of t = map hypothesis (take t.count t.all.now)

abbrev pub arguments_of : Table → GlobalId → List GlobalId
arguments_of t = list_of t.arguments.now

abbrev pub state_of : Table → Passed
state_of t = pass_all (arguments_of t) t.keeps (passed_of t) nothing_passed

-- An entry that is there. A body that passes the limits is known by that alone.
abbrev pub StandsFor : (binders : ℕ) → Standing → Tree → Type 0
StandsFor binders (Variable level) t = (level ≤ binders) × (t ≡ rel (binders - level))
StandsFor binders (Body level body) t = (level ≤ binders) × (t ≡ lift_tree 0 (binders - level) (shared_tree body))
StandsFor binders Deep t = ¬ Fits 4000 t

-- An entry is right for what an id stands for.
abbrev pub IsRight : (binders : ℕ) → GlobalId → Option Standing → Tree → Type 0
IsRight binders id None t = t ≡ const id
IsRight binders id (Some s) t = StandsFor binders s t

-- The table is right for what was passed.
pub record IsTable (t : Table) : Type 0 where
  pub binders : t.binders ≡ (state_of t).binders
  pub right : (id : GlobalId) → IsRight t.binders id (lookup (same_id id) t.standing.entries) ((state_of t).stands id)

abbrev pub becomes_of : Table → Former → Tree
becomes_of t = standing_for (arguments_of t) (state_of t).stands

-- A term that is not judged: Ok gives what is wanted, or nothing where that is the old one, and Deep comes only where
-- it passes the limits.
pub record Gives (old want : Tree) (result : Result (Option (Rc Term Global)) TermFault) : Type 0 where
  pub ok : IfOk result (λ r. after old r ≡ want)
  pub deep : IfErr result (λ fault. fault ≡ TooDeep → ¬ Fits 4000 want)

-- A name alone, and the names that it is applied to
abbrev pub head_becomes : (stands : GlobalId → Tree) → Tree → Tree
head_becomes stands (node (ConstF id) no_child) = stands id
head_becomes stands t = t

abbrev pub ids_for : (arguments : GlobalId → List GlobalId) → Tree → List GlobalId
ids_for arguments (node (ConstF id) no_child) = arguments id
ids_for arguments (node (IndF id) no_child) = arguments id
ids_for arguments (node (CtorF id) no_child) = arguments id
ids_for arguments t = []

-- What a name stands for
abbrev pub name_becomes : Table → Tree → Tree
name_becomes table t =
    let stands = (state_of table).stands in apply (head_becomes stands t) (map stands (ids_for (arguments_of table) t))

-- A new table, of which nothing was passed.
pub record IsNew (hs : List Kept) (lists : Lists) (keep : Bool) (t : Table) : Type 0 where
  pub all : t.all.now ≡ hs
  pub arguments : t.arguments.now ≡ lists
  pub keeps : t.keeps ≡ keep
  pub count : t.count ≡ 0
  pub binders : t.binders ≡ 0

-- The hypothesis is the next.
pub record IsNext (t : Table) (h : Kept) : Type 0 where
  pub within : t.count < length t.all.now
  pub taken : take (t.count + 1) t.all.now ≡ take t.count t.all.now ++ h ∷ []
  pub left : drop t.count t.all.now ≡ h ∷ drop (t.count + 1) t.all.now

-- It gets a binder: it is a variable, or lets get one.
abbrev pub IsBound : (keeps : Bool) → Hypothesis → Type 0
IsBound true h = Unit {0}
IsBound false h = h.body ≡ None

-- One more was passed.
pub record Passes (before after : Table) : Type 0 where
  pub table : IsTable after
  pub all : after.all.now ≡ before.all.now
  pub arguments : after.arguments.now ≡ before.arguments.now
  pub keeps : after.keeps ≡ before.keeps
  pub count : after.count ≡ before.count + 1
