-- The sentences that were read are all that the source begins with, by the laws of the grammar.
use Rattle.std.proofs.Common.{length, refl, ap, arith}
use Rattle.gal_parser.specs.Grammar.{too_long}
use Rattle.gal_parser.proofs.TokenLaws.{some_left, none_left}
use Rattle.gal_parser.proofs.GrammarLaws.{only_these, only_place, unread_at, all_shorten}
use Rattle.gal_parser.proofs.parser.parse.Goals as goal

pub returns-then-source-clause-fault : goal.returns-then-source-clause-fault
returns-then-source-clause-fault c = too_long c.if-source.true refl

pub overflow_sub-result : goal.overflow_sub-result
overflow_sub-result c = rw c.after_blanks-unread.ensures (all_shorten c.in_ok-items.ensures)

pub returns-then-is_empty-clause-only : goal.returns-then-is_empty-clause-only
returns-then-is_empty-clause-only c = λ cs whole. rw c.new.ensures (only_these c.in_ok-items.ensures whole).0

pub returns-then-is_empty-clause-all_read : goal.returns-then-is_empty-clause-all_read
returns-then-is_empty-clause-all_read c = λ q at.
    let some = (only_place c.in_ok-items.ensures c.if-source.false at).0 in
    let none = none_left _ _ _ c.after_blanks-unread.ensures c.is_empty.ensures c.if-is_empty.true in
    omega arith

pub returns-else-is_empty-clause-unread : goal.returns-else-is_empty-clause-unread
returns-else-is_empty-clause-unread c = λ cs whole.
    let none = ap length (only_these c.in_ok-items.ensures whole).1 in
    let some = some_left _ _ _ c.after_blanks-unread.ensures c.is_empty.ensures c.if-is_empty.false in
    omega arith

pub returns-else-is_empty-clause-fault : goal.returns-else-is_empty-clause-fault
returns-else-is_empty-clause-fault c =
    let some = some_left _ _ _ c.after_blanks-unread.ensures c.is_empty.ensures c.if-is_empty.false in
    let within = all_shorten c.in_ok-items.ensures in
    let size = ap length c.after_blanks-unread.ensures in
    unread_at c.in_ok-items.ensures c.if-source.false some (omega arith)

pub returns-else-is_empty-clause-one_place : goal.returns-else-is_empty-clause-one_place
returns-else-is_empty-clause-one_place c = λ q at.
    let position = (only_place c.in_ok-items.ensures c.if-source.false at).1 in
    let size = ap length c.after_blanks-unread.ensures in
    omega arith
