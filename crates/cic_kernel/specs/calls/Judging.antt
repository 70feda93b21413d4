-- The parts of the check of a declaration, each as the definition has it.
use Rattle.std.specs.Prelude.{◌≡◌, ℕ, [], MatchResult}
use Rattle.cic_counted.specs.Outcome.{Counted, ◌>>=◌, ◌>>◌, give}
use Rattle.cic_counted.specs.Inference.{calls_from}
use Rattle.cic_counted.specs.Checking as C
use Rattle.cic_counted.specs.Checking.{take_found, all_visible, check_block}
use Rattle.cic_rules.specs.Environment.{Environment, Block}
use Rattle.cic_terms.specs.Tree.{Tree}
use Rattle.cic_env.specs.declared.verdict.Found.{Found}
use Rattle.cic_env.specs.declared.verdict.Verdict.{Verdict}
use Rattle.cic_work.specs.Verdicts.{found_of, result_of}
use Rattle.cic_kernel.specs.declared.judging.Split.{Split}

-- The constraints found, in their two sets.
abbrev pub split_of : Split → C.Split
split_of split = record { visible = split.visible; proofs = split.proofs }

-- A type alone.
abbrev pub type_judged : Environment → Tree → Counted C.Split
type_judged E type = do
  (calls_from 1 E).sort_of [] type
  all_visible

-- A type and a body that unfolds.
abbrev pub definition_judged : Environment → (type body : Tree) → Counted C.Split
definition_judged E type body = do
  (calls_from 1 E).sort_of [] type
  (calls_from 1 E).check [] body type
  all_visible

-- A type and an opaque body.
abbrev pub proof_judged : Environment → (type body : Tree) → Counted C.Split
proof_judged E type body = do
  (calls_from 1 E).sort_of [] type
  visible ← take_found
  (calls_from 1 E).check [] body type
  proofs ← take_found
  give (record { visible = visible; proofs = proofs })

-- A block.
abbrev pub block_judged : Environment → Block → Counted C.Split
block_judged E block = do
  check_block E block
  all_visible

-- The verdict accepts, with these constraints, after so many steps.
abbrev pub AcceptsWith : Verdict Found → Split → ℕ → Type 0
AcceptsWith verdict split steps =
    MatchResult (result_of verdict) (λ found. found_of found ≡ record { visible = split.visible; proofs = split.proofs; steps = steps }) (λ reason. ⊥)
