use Rattle.std.proofs.Common.{◌≡◌, List, ◌∷◌, ◌≤◌, length, map}
use Rattle.gal_grammar.specs.Values.{Val, conses}
use Rattle.gal_grammar.specs.Kinds.{Want, nt, k_conses}
use Rattle.gal_grammar.specs.calls.Machine.{run}
use Rattle.gal_raw.specs.Commands.{constraint}
use Rattle.gal_term_parser.specs.Left.{left}
use Rattle.gal_file_parser.proofs.universes.read_constraints.Given as goal

abbrev pub invariant-more : goal.invariant-more
invariant-more l = record {
  on : length (left l.parser) ≤ length (left l.fn.parser);
  so_far : (k : List Want) (vs : List Val) → run (left l.fn.parser) (nt 0 k_conses ∷ k) (conses (map constraint l.fn.found.items) ∷ vs) ≡ run (left l.parser) (nt 0 k_conses ∷ k) (conses (map constraint l.found.items) ∷ vs);
}

abbrev pub decreases-more : goal.decreases-more
decreases-more l = length (left l.parser)
