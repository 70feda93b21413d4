-- A named file of the program as a file.
use Rattle.cic_io.specs.declared.named_files.NamedFile.{NamedFile}
use Rattle.cic_io.specs.Files.{File}

-- its name and its bytes
abbrev pub file : NamedFile → File
file named = record { name = named.name; bytes = named.bytes.items }
