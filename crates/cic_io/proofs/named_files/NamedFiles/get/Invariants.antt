-- The files that are left give what all of them give.
use Rattle.std.proofs.Common.{◌≡◌, map, drop}
use Rattle.cic_io.specs.Files.{file_at}
use Rattle.cic_io.specs.NamedFile.{file}
use Rattle.cic_io.proofs.named_files.NamedFiles.get.Given as goal

abbrev pub invariant-loop-file : goal.invariant-loop-file
invariant-loop-file l =
    file_at (map file l.file-items) l.name ≡ file_at (map file (drop l.file-index l.file-items)) l.name
