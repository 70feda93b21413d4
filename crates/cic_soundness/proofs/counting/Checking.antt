-- A closed relation of counted calls holds between the checks of one declaration by some calls and by others where it
-- holds between these. It follows the text of the check. So it holds of the check where it holds of evaluation. The
-- laws of budgets and the law on eta are had of the check by this alone.
use Rattle.std.proofs.Common.{ℕ, ◌-◌, Option, Some, None, List, [], ◌∷◌, ◌++◌, take, drop}
use Rattle.std.specs.Prelude.{option_and_then}
use Rattle.cic_terms.specs.Tree.{TreeSort, Tree}
use Rattle.cic_rules.specs.Environment.{Environment, Context, Declaration, axiom_of, transparent, opaque, inductive, Block, TypeDeclaration, ConstructorDeclaration, bare, assumed}
use Rattle.cic_rules.specs.Telescopes.{domains_of, conclusion_of, extend}
use Rattle.cic_counted.specs.BlockTests.{shape_fault}
use Rattle.cic_counted.specs.NestedTest.{nested_fault}
use Rattle.cic_counted.specs.Outcome.{Counted, bad_constructor}
use Rattle.cic_counted.specs.Inference.{Calls, is_prop, calls_from}
use Rattle.cic_counted.specs.Checking.{Split, all_visible, shape_cause, positivity_cause, check_arities, argument_at_most, check_arguments, ending_sort, check_constructor, check_constructors, check_types, check_block_by, judge_by, judge}
use Rattle.cic_counted.specs.Evaluation.{whnf_at}
use Rattle.cic_soundness.proofs.counting.Compositional.{Compositional, holds_then, holds_if, holds_or_refuse, holds_refuse_for}
use Rattle.cic_soundness.proofs.counting.Evaluation.{holds_sorts_at_most}
use Rattle.cic_soundness.proofs.counting.Typing.{HoldsOfCalls, holds_calls}

module _ {R : (A : Type 0) → Counted A → Counted A → Type 0} (h : Compositional R) where
  holds_all_visible : R Split all_visible all_visible
  holds_all_visible = h.bind h.take_found (λ visible. h.give (record { visible = visible; proofs = [] }))

  holds_argument_at_most : (G : Context) (s s' : TreeSort) → R (Unit {0}) (argument_at_most G s s') (argument_at_most G s s')
  holds_argument_at_most G s s' = holds_if h (is_prop s') (h.give tt) (holds_sorts_at_most h G s s')

  module _ (calls calls' : Calls) (c : HoldsOfCalls h calls calls') where
    holds_arities : (ts : List TypeDeclaration) → R (Unit {0}) (check_arities calls ts) (check_arities calls' ts)
    holds_arities [] = h.give tt
    holds_arities (t ∷ ts) = holds_then h (c.sort_of [] t.arity) (holds_arities ts)

    holds_arguments : (G : Context) (s : TreeSort) (as_ : List Tree) (conclusion : Tree) → R (Unit {0}) (check_arguments calls G s as_ conclusion) (check_arguments calls' G s as_ conclusion)
    holds_arguments G s [] conclusion = holds_then h (c.sort_of G conclusion) (h.give tt)
    holds_arguments G s (a ∷ as_) conclusion =
        h.bind (c.sort_of G a) (λ s'. holds_then h (holds_argument_at_most G s' s) (holds_arguments (assumed a ∷ G) s as_ conclusion))

    holds_constructor : (r : ℕ) (s : Option TreeSort) (k : ConstructorDeclaration) → R (Unit {0}) (check_constructor calls r s k) (check_constructor calls' r s k)
    holds_constructor r s k =
        h.bind (holds_or_refuse h s (bad_constructor k.id)) (λ s'.
        holds_arguments (extend [] (take r (domains_of k.type))) s' (drop r (domains_of k.type)) (conclusion_of k.type))

    holds_constructors : (r : ℕ) (s : Option TreeSort) (ks : List ConstructorDeclaration) → R (Unit {0}) (check_constructors calls r s ks) (check_constructors calls' r s ks)
    holds_constructors r s [] = h.give tt
    holds_constructors r s (k ∷ ks) = holds_then h (holds_constructor r s k) (holds_constructors r s ks)

    holds_types : (r : ℕ) (ts : List TypeDeclaration) → R (Unit {0}) (check_types calls r ts) (check_types calls' r ts)
    holds_types r [] = h.give tt
    holds_types r (t ∷ ts) = holds_then h (holds_constructors r (ending_sort (conclusion_of t.arity)) t.constructors) (holds_types r ts)

  module _ (calls calls' : Environment → Calls) (c : (E : Environment) → HoldsOfCalls h (calls E) (calls' E)) where
    holds_block : (E : Environment) (block : Block) → R (Unit {0}) (check_block_by calls E block) (check_block_by calls' E block)
    holds_block E block =
        let F = E ++ bare block ∷ [] in
        holds_then h (holds_refuse_for h (option_and_then (shape_cause block) (shape_fault block)))
        (holds_then h (holds_arities (calls E) (calls' E) (c E) block.types)
        (holds_then h (holds_refuse_for h (option_and_then (positivity_cause block) (nested_fault E block)))
        (holds_types (calls F) (calls' F) (c F) block.parameters block.types)))

    pub holds_judge_by : (E : Environment) (d : Declaration) → R Split (judge_by calls E d) (judge_by calls' E d)
    holds_judge_by E (axiom_of id type) = holds_then h ((c E).sort_of [] type) holds_all_visible
    holds_judge_by E (transparent id type body) = holds_then h ((c E).sort_of [] type) (holds_then h ((c E).check [] body type) holds_all_visible)
    holds_judge_by E (opaque id type None) = holds_then h ((c E).sort_of [] type) holds_all_visible
    holds_judge_by E (opaque id type (Some body)) =
        holds_then h ((c E).sort_of [] type)
        (h.bind h.take_found (λ visible.
        holds_then h ((c E).check [] body type)
        (h.bind h.take_found (λ proofs. h.give (record { visible = visible; proofs = proofs })))))
    holds_judge_by E (inductive block) = holds_then h (holds_block E block) holds_all_visible

  holds_calls_from : ((k : ℕ) (E : Environment) (G : Context) (t : Tree) → R Tree (whnf_at k E G t) (whnf_at k E G t)) → (d : ℕ) (E : Environment) → HoldsOfCalls h (calls_from d E) (calls_from d E)
  unfolding calls_from
  holds_calls_from of_whnf d E = holds_calls h of_whnf (2001 - d) E

  pub holds_judge : ((k : ℕ) (E : Environment) (G : Context) (t : Tree) → R Tree (whnf_at k E G t) (whnf_at k E G t)) → (E : Environment) (d : Declaration) → R Split (judge E d) (judge E d)
  holds_judge of_whnf E d = holds_judge_by (calls_from 1) (calls_from 1) (holds_calls_from of_whnf 1) E d
