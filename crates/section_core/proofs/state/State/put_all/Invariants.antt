use Rattle.std.proofs.Common.{◌≡◌, ◌<◌, drop, map, length}
use Rattle.section_core.specs.Sections.{into_innermost}
use Rattle.section_core.specs.calls.Stored.{kept_entry, EntriesDeclare}
use Rattle.section_core.specs.calls.States.{IsState, sections_of}
use Rattle.section_core.proofs.state.State.put_all.Given as goal

abbrev pub invariant-loop-kept : goal.invariant-loop-kept
invariant-loop-kept l = record {
  right : IsState l.self;
  some : 0 < length l.self.sections.items;
  declare : EntriesDeclare (map kept_entry (drop l.kept-index l.all));
  put : into_innermost (sections_of l.self) (map kept_entry (drop l.kept-index l.all)) ≡ into_innermost (sections_of l.initial.self) (map kept_entry l.all);
}
