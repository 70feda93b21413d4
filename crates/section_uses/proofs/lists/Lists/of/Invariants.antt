use Rattle.std.proofs.Common.{◌≡◌, map, take}
use Rattle.section_uses.specs.Kept.{list_of, all_layered}
use Rattle.section_uses.proofs.Inserted.{nothing_below}
use Rattle.section_uses.proofs.lists.Lists.of.Given as goal

abbrev pub invariant-loop-i : goal.invariant-loop-i
invariant-loop-i l = all_layered nothing_below (map (λ m. m.entries) (take l.i l.self.layers.items)) l.id ≡ list_of l.self l.id
