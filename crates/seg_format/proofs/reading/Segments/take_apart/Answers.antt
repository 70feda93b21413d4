use Rattle.std.proofs.Common.{◌≡◌, arith, None, ◌∙◌}
use Rattle.std.proofs.lemmas.List.{take_rest}
use Rattle.std.proofs.lemmas.Result.{err_from_is_err_and}
use Rattle.seg_format.specs.Defects.{first_defect}
use Rattle.seg_format.proofs.TableLaws.{rows_inside}
use Rattle.seg_format.proofs.FileLaws.{defect_of_head, defect_of_table, after_table, spells_read, length_spelled}
use Rattle.seg_format.proofs.reading.Segments.take_apart.Goals as goal

pub returns-in_err-head-clause-fault : goal.returns-in_err-head-clause-fault
returns-in_err-head-clause-fault c =
    let p = err_from_is_err_and c.from_residual.result c.from_residual.ensures.1 in
    rw (p.1, p.2) (defect_of_head c.args.bytes.now _ c.in_err-head.ensures.fault)

pub returns-in_err-table-clause-fault : goal.returns-in_err-table-clause-fault
returns-in_err-table-clause-fault c =
    let p = err_from_is_err_and c.from_residual-in_err-table.result c.from_residual-in_err-table.ensures.1 in
    let fault = rw (c.in_ok-head.ensures.size, take_rest c.args.bytes.now 16) at c.in_err-table.ensures.fault in
    rw (p.1, p.2) (defect_of_table c.args.bytes.now c.in_ok-head.head.kind _ c.in_ok-head.ensures.passes c.in_ok-head.ensures.kind fault)

pub lend_all-requires-clause-inside : goal.lend_all-requires-clause-inside
lend_all-requires-clause-inside c =
    let passes = rw (c.in_ok-head.ensures.size, take_rest c.args.bytes.now 16) at c.in_ok-table.ensures.passes in
    let rows = rw (take_rest c.args.bytes.now 16) at c.in_ok-table.ensures.rows in
    rw rows (rows_inside _ _ _ _ _ passes)

pub returns-in_err-parts-clause-fault : goal.returns-in_err-parts-clause-fault
returns-in_err-parts-clause-fault c =
    let p = err_from_is_err_and c.from_residual-in_err-parts.result c.from_residual-in_err-parts.ensures.1 in
    let passes = rw (c.in_ok-head.ensures.size, take_rest c.args.bytes.now 16) at c.in_ok-table.ensures.passes in
    let rows = rw (take_rest c.args.bytes.now 16) at c.in_ok-table.ensures.rows in
    let fault = rw rows at c.in_err-parts.ensures.fault in
    rw (p.1, p.2) (after_table c.args.bytes.now c.in_ok-head.head.kind c.in_ok-head.ensures.passes c.in_ok-head.ensures.kind passes ∙ fault)

pub returns-clause-spells : goal.returns-clause-spells
returns-clause-spells c =
    let passes = rw (c.in_ok-head.ensures.size, take_rest c.args.bytes.now 16) at c.in_ok-table.ensures.passes in
    let rows = rw (take_rest c.args.bytes.now 16) at c.in_ok-table.ensures.rows in
    let digests = rw rows at c.in_ok-parts.ensures.passes in
    let parts = rw rows at c.in_ok-parts.ensures.parts in
    let none : first_defect c.args.bytes.now ≡ None = after_table c.args.bytes.now c.in_ok-head.head.kind c.in_ok-head.ensures.passes c.in_ok-head.ensures.kind passes ∙ digests in
    let spells = spells_read c.args.bytes.now c.in_ok-head.head.kind (λ i. omega (arith, c.type_inv.bytes i)) c.requires.small c.in_ok-head.ensures.kind none in
    rw parts spells

pub invariant_of-result : goal.invariant_of-result
invariant_of-result c =
    let passes = rw (c.in_ok-head.ensures.size, take_rest c.args.bytes.now 16) at c.in_ok-table.ensures.passes in
    let rows = rw (take_rest c.args.bytes.now 16) at c.in_ok-table.ensures.rows in
    let digests = rw rows at c.in_ok-parts.ensures.passes in
    let parts = rw rows at c.in_ok-parts.ensures.parts in
    let none : first_defect c.args.bytes.now ≡ None = after_table c.args.bytes.now c.in_ok-head.head.kind c.in_ok-head.ensures.passes c.in_ok-head.ensures.kind passes ∙ digests in
    let spells = spells_read c.args.bytes.now c.in_ok-head.head.kind (λ i. omega (arith, c.type_inv.bytes i)) c.requires.small c.in_ok-head.ensures.kind none in
    let size = length_spelled c.args.bytes.now _ spells in
    record { fits = rw parts (omega (arith, size, c.requires.small)) }
