use Rattle.std.proofs.Common.{◌≡◌, List, ◌∷◌, ◌≤◌, length, map, Some, true}
use Rattle.gal_grammar.specs.Values.{Val, ctors}
use Rattle.gal_grammar.specs.Kinds.{Want, nt, k_more_ctors}
use Rattle.gal_grammar.specs.calls.Machine.{run}
use Rattle.gal_grammar.specs.calls.Reading.{owner}
use Rattle.gal_raw.specs.Commands.{constructor}
use Rattle.gal_term_parser.specs.Left.{left}
use Rattle.gal_file_parser.proofs.inductives.read_further_constructors.Given as goal

abbrev pub invariant-more : goal.invariant-more
invariant-more l = record {
  on : length (left l.parser) ≤ length (left l.fn.parser);
  so_far : (k : List Want) (vs : List Val) → owner k ≡ Some true → run (left l.fn.parser) (nt 0 k_more_ctors ∷ k) (ctors (map constructor l.fn.found.items) ∷ vs) ≡ run (left l.parser) (nt 0 k_more_ctors ∷ k) (ctors (map constructor l.found.items) ∷ vs);
}

abbrev pub decreases-more : goal.decreases-more
decreases-more l = length (left l.parser)
