-- The words that the grammar knows by their place.
use Prim.Native.String.{String}
use Rattle.gal_file_parser.specs.declared.words.Word.{Word}
use Rattle.gal_file_parser.specs.declared.words.Word.TheVariants as W

-- how a word is written
abbrev pub word_text : Word → String
word_text W.From = "From"
word_text W.Require = "Require"
word_text W.Import = "Import"
word_text W.Export = "Export"
word_text W.Proof = "Proof"
word_text W.Using = "using"
word_text W.All = "All"
word_text W.Exact = "exact"
word_text W.Qed = "Qed"
word_text W.Defined = "Defined"
word_text W.Admitted = "Admitted"
