use Rattle.std.proofs.Common.{◌≡◌, List, ◌∷◌, ◌≤◌, length, map}
use Rattle.gal_grammar.specs.Values.{Val, binders}
use Rattle.gal_grammar.specs.Kinds.{Want, nt, k_names}
use Rattle.gal_grammar.specs.calls.Machine.{run}
use Rattle.gal_raw.specs.Denotes.{binder}
use Rattle.gal_term_parser.specs.Left.{left}
use Rattle.gal_term_parser.proofs.reader.Parser.binders.Given as goal

abbrev pub invariant-more : goal.invariant-more
invariant-more l = record {
  on : length (left l.self) ≤ length (left l.fn.self);
  so_far : (k : List Want) (vs : List Val) → run (left l.fn.self) (nt l.fn.nesting k_names ∷ k) (binders (map binder l.fn.found.items) ∷ vs) ≡ run (left l.self) (nt l.fn.nesting k_names ∷ k) (binders (map binder l.found.items) ∷ vs);
}

abbrev pub decreases-more : goal.decreases-more
decreases-more l = length (left l.self)
