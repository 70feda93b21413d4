-- What a value of the program stands for in the grammar.
use Rattle.std.specs.Prelude.{List, map}
use Rattle.gal_parser.specs.Grammar.{RawTerm, prop, name, for_all, arrow, Sentence, axiom_sentence}
use Rattle.gal_parser.specs.declared.command.Raw.{Raw}
use Rattle.gal_parser.specs.declared.command.Raw.TheVariants as R
use Rattle.gal_parser.specs.declared.command.Command.{Command}
use Rattle.gal_parser.specs.declared.command.Command.TheVariants as C

abbrev pub raw_term : Raw → RawTerm
raw_term R.Prop = prop
raw_term (R.Name x) = name x
raw_term (R.ForAll' x p type q body) = for_all x (raw_term type) (raw_term body)
raw_term (R.Arrow' p from q to) = arrow (raw_term from) (raw_term to)

abbrev pub sentence_of : Command → Sentence
sentence_of (C.Axiom x type) = axiom_sentence x (raw_term type)

abbrev pub sentences_of : List Command → List Sentence
sentences_of = map sentence_of
