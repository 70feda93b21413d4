-- What was found under the name of a source.
use Rattle.std.specs.Prelude.{ℕ, List, Option, Some, None, length, ◌≡◌, ◌<◌}
use Rattle.cic_io.specs.Files.{Files}
use Rattle.gal_parser.specs.Grammar.{longest_source}
use Rattle.cic_top.specs.Command.{Contents, AreContentsOf}
use Rattle.cic_top.specs.declared.source.Source.{Source}
use Rattle.cic_top.specs.declared.source.Source.TheVariants.{Absent, Long, Text}

-- What was found describes the bytes that a file has: there is none, or it is too long, or it is the text.
abbrev pub DescribesContent : Source → Option (List ℕ) → Type 0
DescribesContent Absent bytes = bytes ≡ None
DescribesContent (Long size) bytes = (long : List ℕ) × (bytes ≡ Some long) × (longest_source < length long)
DescribesContent (Text text) bytes = bytes ≡ Some text.items

-- What was found under the name describes some contents, those of the folder where it tells its files.
pub record FoundUnder (told : Option Files) (name : List ℕ) (source : Source) : Type 0 where
  pub content : Contents
  pub describes : DescribesContent source (content name)
  pub of_folder : AreContentsOf content told
