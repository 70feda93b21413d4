use Rattle.std.proofs.Common.{◌≡◌, map}
use Rattle.section_discharge.specs.calls.Binders.{bound, AreMade}
use Rattle.section_discharge.proofs.binders.Binders.new.Given as goal

abbrev pub invariant-loop-h : goal.invariant-loop-h
invariant-loop-h l = record {
  made : AreMade l.table (map bound l.bounds.items);
  count : l.table.count ≡ l.h-index;
  all : l.table.all.now ≡ l.all;
  arguments : l.table.arguments.now ≡ l.arguments;
  keeps : l.table.keeps ≡ l.keeps;
}
