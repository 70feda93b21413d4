use Rattle.std.proofs.Common.{◌≡◌, List, ◌∷◌, ◌≤◌, length}
use Rattle.gal_grammar.specs.Values.{Val, commands}
use Rattle.gal_grammar.specs.Kinds.{Want, nt, k_file}
use Rattle.gal_grammar.specs.calls.Machine.{run}
use Rattle.gal_raw.specs.Commands as C
use Rattle.gal_term_parser.specs.Left.{left}
use Rattle.gal_file_parser.proofs.file.read_required_files.Given as goal

abbrev pub invariant-more : goal.invariant-more
invariant-more l = record {
  on : length (left l.parser) ≤ length (left l.fn.parser);
  so_far : (k : List Want) (vs : List Val) → run (left l.fn.parser) (nt 0 k_file ∷ k) (commands (C.commands l.fn.list) ∷ vs) ≡ run (left l.parser) (nt 0 k_file ∷ k) (commands (C.commands l.list) ∷ vs);
}

abbrev pub decreases-more : goal.decreases-more
decreases-more l = length (left l.parser)
