-- So far the sentences that are kept were read, and the rest gets shorter.
use Rattle.std.proofs.Common.{length}
use Rattle.gal_parser.specs.Grammar.{SpellsSentences}
use Rattle.gal_parser.specs.Views.{sentences_of}
use Rattle.gal_parser.proofs.parser.sentences.Given as goal

abbrev pub invariant-loop-items : goal.invariant-loop-items
invariant-loop-items l = SpellsSentences l.fn.reader.rest.now l.reader.rest.now (sentences_of l.items.items)

abbrev pub decreases-loop-items : goal.decreases-loop-items
decreases-loop-items l = length l.reader.rest.now
