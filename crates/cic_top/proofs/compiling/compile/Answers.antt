-- A source is compiled to what its sentences give, and refused where it is not understood.
use Rattle.std.proofs.Common.{List, subst}
use Rattle.std.specs.Prelude.{Err}
use Rattle.std.proofs.lemmas.Result.{err_from_is_err_and}
use Rattle.cic_env.specs.Environments.{items}
use Rattle.gal_parser.specs.Grammar.{NotYetAt}
use Rattle.gal_parser.specs.Answers.{OnNotYet}
use Rattle.gal_parser.specs.declared.command.Command.{Command}
use Rattle.cic_top.proofs.Sentences.{read_runs, read_refused, not_read}
use Rattle.cic_top.proofs.compiling.compile.Goals as goal

pub returns-in_ok-run_sentences-in-Ok : goal.returns-in_ok-run_sentences-in-Ok
returns-in_ok-run_sentences-in-Ok c =
    read_runs c.args.library.now c.args.source.now (items c.new-env.result) c.in-Ok.commands c.as_slice.result.now _
    c.in-Ok.ensures.found c.as_slice.ensures c.new-env.ensures c.in_ok-run_sentences-in-Ok.ensures

pub returns-in_err-run_sentences-in-Ok : goal.returns-in_err-run_sentences-in-Ok
returns-in_err-run_sentences-in-Ok c =
    let p = err_from_is_err_and c.from_residual.result c.from_residual.ensures.1 in
    rw (p.1, p.2)
    (read_refused c.args.library.now c.args.source.now (items c.new-env.result) (items c.run_sentences.new.env)
    c.in-Ok.commands c.as_slice.result.now c.in_err-run_sentences-in-Ok.field-0.0
    c.in-Ok.ensures.found c.as_slice.ensures c.new-env.ensures c.in_err-run_sentences-in-Ok.ensures)

pub returns-in_ok-not_yet-in-Err-NotYet : goal.returns-in_ok-not_yet-in-Err-NotYet
returns-in_ok-not_yet-in-Err-NotYet c =
    let told : OnNotYet {X = List Command} (Err c.in-Err-NotYet.field-0) (NotYetAt c.args.source.now) = c.in-Err-NotYet.ensures.fault in
    let at : NotYetAt c.args.source.now c.in-Err-NotYet.place =
    subst (λ fault. OnNotYet {X = List Command} (Err fault) (NotYetAt c.args.source.now)) c.in-Err-NotYet.field-0-is told in
    not_read c.args.library.now c.args.source.now c.in-Err-NotYet.place _ at c.in_ok-not_yet-in-Err-NotYet.ensures
