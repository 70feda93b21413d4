use Rattle.std.proofs.Common.{◌≡◌, List, ◌∷◌, ◌≤◌, length}
use Rattle.gal_grammar.specs.Values.{Val, groups}
use Rattle.gal_grammar.specs.Kinds.{Want, nt, k_bound_groups}
use Rattle.gal_grammar.specs.calls.Machine.{run}
use Rattle.gal_raw.specs.Denotes as V
use Rattle.gal_term_parser.specs.Left.{left}
use Rattle.gal_file_parser.proofs.assumptions.read_bound_groups.Given as goal

abbrev pub invariant-more : goal.invariant-more
invariant-more l = record {
  on : length (left l.parser) ≤ length (left l.fn.parser);
  so_far : (k : List Want) (vs : List Val) → run (left l.fn.parser) (nt 0 k_bound_groups ∷ k) (groups (V.groups l.fn.among) ∷ vs) ≡ run (left l.parser) (nt 0 k_bound_groups ∷ k) (groups (V.groups l.among) ∷ vs);
}

abbrev pub decreases-more : goal.decreases-more
decreases-more l = length (left l.parser)
