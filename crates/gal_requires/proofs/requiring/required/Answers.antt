use Rattle.std.proofs.Common.{ap, sym, ◌∙◌, ◌++◌, Some, map, suc, add-one}
use Rattle.std.proofs.lemmas.Option.{slice_get-get_or}
use Rattle.gal_requires.specs.Required.{denoted}
use Rattle.gal_requires.proofs.Places.{from_on, from_next, one_further}
use Rattle.gal_requires.proofs.requiring.required.Goals as goal

pub loop-i-preserved : goal.loop-i-preserved
loop-i-preserved c =
    let cs = c.args.commands.now in
    let i = c.loop-i.i in
    let here = slice_get-get_or cs i c.index-commands-i.result c.loop-i-test.true ∙ ap Some (sym c.index-commands-i.is) in
    one_further _ (map denoted c.loop-i.items.items) (from_on i cs c.args.sentences.now) _ (from_on (suc i) cs c.args.sentences.now) (map denoted c.put.new.items.items) c.loop-i.invariant (from_next i cs c.args.sentences.now c.index-commands-i.result c.of_command.result.now _ here c.of_command.ensures.value c.of_command.ensures.some) c.in_ok-put.ensures
    ∙ ap (λ n. map denoted c.put.new.items.items ++ from_on n cs c.args.sentences.now) (sym (add-one i))
