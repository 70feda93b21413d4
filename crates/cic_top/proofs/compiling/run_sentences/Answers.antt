-- Each sentence goes before those that follow it.
use Rattle.std.proofs.lemmas.Result.{err_from_is_err_and}
use Rattle.cic_env.specs.Environments.{items}
use Rattle.cic_top.proofs.Sentences.{rest_gives_more, rest_gives_refusal, rest_gives_all}
use Rattle.cic_top.proofs.compiling.run_sentences.Goals as goal

pub returns-in_err-run_sentence : goal.returns-in_err-run_sentence
returns-in_err-run_sentence c =
    let p = err_from_is_err_and c.from_residual.result c.from_residual.ensures.1 in
    rw (p.1, p.2) (rest_gives_refusal c.args.library.now (items c.args.env.now) (items c.loop-command.env) (items c.run_sentence.new.env)
    c.args.commands.now c.loop-command.command-index c.command-item.result c.in_err-run_sentence.field-0.0
    c.loop-command-test.true c.command-item.is c.in_err-run_sentence.ensures c.loop-command.invariant)

pub loop-command-preserved : goal.loop-command-preserved
loop-command-preserved c =
    rest_gives_more c.args.library.now (items c.args.env.now) (items c.loop-command.env) (items c.run_sentence.new.env)
    c.args.commands.now c.loop-command.command-index c.command-item.result
    c.loop-command-test.true c.command-item.is c.in_ok-run_sentence.ensures c.loop-command.invariant

pub returns : goal.returns
returns c = rest_gives_all c.args.library.now (items c.args.env.now) (items c.loop-command.env) c.args.commands.now c.loop-command.command-index
    c.loop-command-test.false c.loop-command.invariant
