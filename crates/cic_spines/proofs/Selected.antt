-- The branch of a match at a place, and what it is with arguments put in.
use Rattle.std.proofs.Common.{◌≡◌, ℕ, zero, suc, ◌+◌, ◌<◌, ◌≤◌, Some, None, Option, nat_eq, if◌then◌else◌, List, [], ◌∷◌, length, drop, get_or, Ok, Err, refl, ap, ◌∙◌, arith}
use Rattle.std.proofs.lemmas.Bool.Decides.{nat_tests}
use Rattle.std.proofs.lemmas.List.{length-map, drop-map}
use Rattle.std.proofs.Math.Nat.{zero-add}
use Rattle.std.specs.declared.rc.Rc.{Rc}
use Rattle.std.specs.declared.alloc.Global.{Global}
use Rattle.cic_terms.specs.declared.term.Term.{Term}
use Rattle.cic_terms.specs.declared.term.Branch.{Branch}
use Rattle.cic_terms.specs.declared.term.TermFault.{TermFault}
use Rattle.cic_terms.specs.Tree.{Tree}
use Rattle.cic_terms.specs.Denotes.{tree, branch_list}
use Rattle.cic_terms.specs.calls.Answer.{MakesShared}
use Rattle.cic_rules.specs.Telescopes.{BranchParts, branch_at, substitute_all}
use Rattle.cic_counted.specs.Evaluation.{branch_result}
use Rattle.cic_spines.specs.Lists.{shared_tree, shared_trees}
use Rattle.cic_spines.specs.calls.Parts.{branch_parts}
use Rattle.cic_spines.specs.Optional.{MakesIfAny}

abbrev parts : ℕ → Tree → BranchParts
parts n t = record { binders = n; body = t }

pub branch_is : (bs : List Branch) (i : ℕ) (d : Branch) → i < length bs → branch_at (branch_list bs) i ≡ Some (branch_parts (get_or bs i d))
branch_is [] i d h = absurd (omega arith)
branch_is (b ∷ bs) zero d h = ap (λ n. Some (parts n (tree b.body))) (zero-add b.binders)
branch_is (b ∷ bs) (suc i) d h = branch_is bs i d (omega arith)

pub no_branch : (bs : List Branch) (i : ℕ) → length bs ≤ i → branch_at (branch_list bs) i ≡ None
no_branch [] i h = grind arith
no_branch (b ∷ bs) zero h = absurd (omega arith)
no_branch (b ∷ bs) (suc i) h = no_branch bs i (omega arith)

where_equal : (m n : ℕ) (x : Option Tree) → m ≡ n → (if nat_eq m n then x else None) ≡ x
where_equal m n x e = grind (arith, nat_tests)

pub selected_is : (us : List (Rc Term Global)) (r : ℕ) (b : Branch) → length us ≡ r + b.binders →
    branch_result r (shared_trees us) (Some (branch_parts b)) ≡ Some (substitute_all (shared_trees (drop r us)) (tree b.body))
selected_is us r b e =
    where_equal (length (shared_trees us)) (r + b.binders) _ (length-map us shared_tree ∙ e)
    ∙ ap (λ l. Some (substitute_all l (tree b.body))) (drop-map shared_tree r us)

-- A term that is made is one that there is.
pub made_if_any : (room : ℕ) (want : Tree) (wanted : Option Tree) (r : Rc Term Global) → wanted ≡ Some want →
    MakesShared room want (Ok r) → MakesIfAny room wanted (Ok (Some r))
made_if_any room want wanted r e h = rw e (record { ok = ap Some h.ok; fits = h.fits; deep = tt })

pub refused_if_any : (room : ℕ) (want : Tree) (wanted : Option Tree) (fault : TermFault) → wanted ≡ Some want →
    MakesShared room want (Err fault) → MakesIfAny room wanted (Err fault)
refused_if_any room want wanted fault e h = rw e (record { ok = tt; fits = tt; deep = h.deep })

pub none_if_none : (room : ℕ) (wanted : Option Tree) → wanted ≡ None → MakesIfAny room wanted (Ok None)
none_if_none room wanted e = rw e (record { ok = refl; fits = tt; deep = tt })
