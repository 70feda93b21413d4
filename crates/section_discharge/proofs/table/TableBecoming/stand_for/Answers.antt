use Rattle.std.proofs.lemmas.Result.{err_from_is_err_and}
use Rattle.cic_terms.specs.Denotes.{tree}
use Rattle.section_terms.specs.Names.{replace_names}
use Rattle.section_discharge.specs.calls.Tables.{state_of, arguments_of, becomes_of, name_becomes}
use Rattle.section_discharge.proofs.Tables.{name_deep, name_replaced}
use Rattle.section_discharge.proofs.table.TableBecoming.stand_for.Goals as goal

pub returns-in_err-name_becomes : goal.returns-in_err-name_becomes
returns-in_err-name_becomes c =
    let p = err_from_is_err_and c.from_residual.result c.from_residual.ensures.1 in
    let table = c.args.self.now in
    let name = tree c.args.name.now in
    rw (p.1, p.2) (record {
      ok = tt;
      fits = tt;
      deep = λ d. name_deep c.args.room c.args.at (name_becomes table name) (replace_names (becomes_of table) table.binders c.args.at name)
          (name_replaced (arguments_of table) (state_of table).stands table.binders c.args.at name c.requires.name) c.requires.most (c.in_err-name_becomes.ensures.deep d);
    })
