use Rattle.std.proofs.Common.{◌≡◌, drop}
use Rattle.gal_lines.specs.calls.Cursors.{IsAt}
use Rattle.gal_lines.specs.calls.Building.{state_of, start, run, Follow, IsOpenBefore}
use Rattle.gal_lines.proofs.building.sentences_of.Given as goal

abbrev pub invariant-loop-token : goal.invariant-loop-token
invariant-loop-token l = record {
  so_far : run l.source (state_of l.building) (drop l.token-index l.tokens) ≡ run l.source start l.tokens;
  at : IsAt l.source l.cursor;
  follow : Follow l.source l.cursor.at (drop l.token-index l.tokens);
  opened : IsOpenBefore l.building.opened l.cursor.at;
}
