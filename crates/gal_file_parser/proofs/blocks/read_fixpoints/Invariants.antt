use Rattle.std.proofs.Common.{◌≡◌, List, ◌∷◌, ◌≤◌, length}
use Rattle.gal_grammar.specs.Values.{Val, functions}
use Rattle.gal_grammar.specs.Kinds.{Want, nt, k_function, k_fixpoints}
use Rattle.gal_grammar.specs.calls.Machine.{run}
use Rattle.gal_raw.specs.Denotes as V
use Rattle.gal_term_parser.specs.Left.{left}
use Rattle.gal_file_parser.proofs.blocks.read_fixpoints.Given as goal

abbrev pub invariant-more : goal.invariant-more
invariant-more l = record {
  on : length (left l.parser) ≤ length (left l.fn.parser);
  so_far : (k : List Want) (vs : List Val) → run (left l.fn.parser) (nt 0 k_function ∷ nt 0 k_fixpoints ∷ k) (functions (V.functions l.fn.block) ∷ vs) ≡ run (left l.parser) (nt 0 k_fixpoints ∷ k) (functions (V.functions l.block) ∷ vs);
}

abbrev pub decreases-more : goal.decreases-more
decreases-more l = length (left l.parser)
