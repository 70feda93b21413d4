-- While the list is printed: the text and the lines that are left are the whole.
use Rattle.std.proofs.Common.{◌≡◌, ◌++◌}
use Rattle.std.specs.String.{string_bytes}
use Rattle.cic_top.specs.Texts.{lines_text}
use Rattle.cic_top.specs.calls.Lines.{lines_of}
use Rattle.cic_top.proofs.printing.push_lines.Given as goal

abbrev pub invariant-loop-id : goal.invariant-loop-id
invariant-loop-id l = string_bytes l.text ++ lines_text (lines_of l.id-iterator) ≡ string_bytes l.fn.text ++ lines_text (lines_of l.fn.sorted.entries)
