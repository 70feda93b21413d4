-- The marks and the arguments that those of the walk stand for.
use Rattle.std.specs.Prelude.{List, [], ◌∷◌}
use Rattle.std.specs.declared.rc.Rc.{Rc}
use Rattle.std.specs.declared.alloc.Global.{Global}
use Rattle.cic_terms.specs.Tree.{Tree}
use Rattle.cic_terms.specs.Denotes.{tree}
use Rattle.cic_rules.specs.Guard.{Marks, all_plain, under_plain, under_marks}
use Rattle.guard_shapes.specs.Marks.{marks}
use Rattle.cic_guard.specs.declared.mark_row.MarkRow.{MarkRow, AllPlain, Run', Marked'}
use Rattle.cic_guard.specs.declared.arguments.Arguments.{Arguments, Nothing, First'}

abbrev pub row_marks : MarkRow → Marks
row_marks AllPlain = all_plain
row_marks (Run' n _ rest) = under_plain n (row_marks rest)
row_marks (Marked' ms _ rest) = under_marks (marks ms.items) (row_marks rest)

abbrev pub shared_marks : Rc MarkRow Global → Marks
shared_marks row = row_marks row.value

abbrev pub argument_trees : Arguments → List Tree
argument_trees Nothing = []
argument_trees (First' t _ rest) = tree t.now ∷ argument_trees rest
