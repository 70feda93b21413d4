use Rattle.std.proofs.Common.{map}
use Rattle.std.proofs.lemmas.Result.{err_from_is_err_and}
use Rattle.cic_terms.specs.Denotes.{tree}
use Rattle.section_discharge.specs.calls.Tables.{state_of, arguments_of, head_becomes, ids_for}
use Rattle.section_discharge.proofs.Limits.{fits_head}
use Rattle.section_discharge.proofs.table.Table.name_becomes.Goals as goal

pub returns-in_err-head : goal.returns-in_err-head
returns-in_err-head c =
    let p = err_from_is_err_and c.from_residual.result c.from_residual.ensures.1 in
    let stands = (state_of c.args.self.now).stands in
    let name = tree c.args.name.now in
    rw (p.1, p.2) (record { ok = tt; deep = λ d h. c.in_err-head.ensures.deep d (fits_head 4000 (head_becomes stands name) (map stands (ids_for (arguments_of c.args.self.now) name)) h) })
