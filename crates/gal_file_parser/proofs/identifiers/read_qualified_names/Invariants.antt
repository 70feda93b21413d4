use Rattle.std.proofs.Common.{◌≡◌, List, ◌∷◌, ◌≤◌, length, map}
use Rattle.gal_grammar.specs.Values.{Val, quals}
use Rattle.gal_grammar.specs.Kinds.{Want, nt, k_quals}
use Rattle.gal_grammar.specs.calls.Machine.{run}
use Rattle.gal_raw.specs.Denotes.{qualified}
use Rattle.gal_term_parser.specs.Left.{left}
use Rattle.gal_file_parser.proofs.identifiers.read_qualified_names.Given as goal

abbrev pub invariant-more : goal.invariant-more
invariant-more l = record {
  on : length (left l.parser) ≤ length (left l.fn.parser);
  so_far : (k : List Want) (vs : List Val) → run (left l.fn.parser) (nt 0 k_quals ∷ k) (quals (map qualified l.fn.found.items) ∷ vs) ≡ run (left l.parser) (nt 0 k_quals ∷ k) (quals (map qualified l.found.items) ∷ vs);
}

abbrev pub decreases-more : goal.decreases-more
decreases-more l = length (left l.parser)
