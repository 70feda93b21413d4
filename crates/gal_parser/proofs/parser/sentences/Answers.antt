-- Each turn of the loop reads one sentence more, and leaves less.
use Rattle.std.proofs.lemmas.List.{map-append}
use Rattle.gal_parser.specs.Grammar.{no_sentence}
use Rattle.gal_parser.proofs.GrammarLaws.{sentences_then, sentence_shortens}
use Rattle.gal_parser.proofs.parser.sentences.Goals as goal

pub loop-items-init : goal.loop-items-init
loop-items-init c = rw c.new-items.ensures.items no_sentence

pub loop-items-smaller : goal.loop-items-smaller
loop-items-smaller c = sentence_shortens (rw c.in-Some.is at c.in_ok-command.ensures)

pub loop-items-preserved : goal.loop-items-preserved
loop-items-preserved c =
    rw (c.in_ok-push.ensures.items, map-append) (sentences_then c.loop-items.invariant (rw c.in-Some.is at c.in_ok-command.ensures))
