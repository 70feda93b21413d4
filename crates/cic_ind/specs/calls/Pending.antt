-- What a part of a type stands for, of which nothing is made yet.
use Rattle.std.specs.Prelude.{ℕ, ◌+◌, ◌-◌, List, map, take, drop}
use Rattle.std.specs.declared.rc.Rc.{Rc}
use Rattle.std.specs.declared.alloc.Global.{Global}
use Rattle.cic_terms.specs.declared.term.Term.{Term, Rel, Prod', App'}
use Rattle.cic_terms.specs.Denotes.{tree}
use Rattle.cic_terms.specs.Tree.{Tree, rel, node}
use Rattle.cic_terms.specs.calls.Walk.{map_tree}
use Rattle.cic_spines.specs.Lists.{shared_tree, shared_trees}
use Rattle.cic_spines.specs.calls.Several.{several}
use Rattle.cic_ind.specs.declared.pending.Change.{Change}
use Rattle.cic_ind.specs.declared.pending.Change.TheVariants.{PutIn, Lifted}
use Rattle.cic_ind.specs.declared.pending.Pending.{Pending}
use Rattle.cic_ind.specs.declared.pending.Part.{Part}

-- What a change makes of a free variable under binders, and of a term.
abbrev pub becoming : Change → (at n : ℕ) → Tree
becoming (PutIn terms) = several (shared_trees terms.now)
becoming (Lifted by) = λ at n. rel (n + by)

abbrev pub changed : Change → (under : ℕ) → Tree → Tree
changed change = map_tree (becoming change)

abbrev pub pending_tree : Pending → Tree
pending_tree p = changed p.change p.under (tree p.term.now)

abbrev pub part_tree : Part → Tree
part_tree p = changed p.change p.under (shared_tree p.term.now)

abbrev pub part_trees : List Part → List Tree
part_trees = map part_tree

-- A term with the terms from `begin` to `end` put in.
abbrev pub begun_tree : List (Rc Term Global) → (begin end : ℕ) → Term → Tree
begun_tree terms begin end t = map_tree (several (shared_trees (take (end - begin) (drop begin terms)))) 0 (tree t)

-- A change that lifts.
abbrev pub IsLifted : Change → Type 0
IsLifted (PutIn terms) = ⊥
IsLifted (Lifted by) = Unit {0}

abbrev pub NoProduct : Term → Type 0
NoProduct (Prod' p a q b) = ⊥
NoProduct t = Unit {0}

abbrev pub NoApplication : Term → Type 0
NoApplication (App' p f q x) = ⊥
NoApplication t = Unit {0}

abbrev pub IsVariable : Tree → Type 0
IsVariable (rel n) = Unit {0}
IsVariable (node f ks) = ⊥

-- A term that is a variable still is one after a change.
abbrev pub VariablesStay : Term → (after : Tree) → Type 0
VariablesStay (Rel n) after = IsVariable after
VariablesStay t after = Unit {0}
