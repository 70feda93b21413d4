-- The segments of the program as a file.
use Rattle.std.specs.Prelude.{map}
use Rattle.seg_format.specs.declared.reading.Segments.{Segments}
use Rattle.seg_format.specs.Files.{File}
use Rattle.seg_format.specs.calls.Lending.{part_of}

-- the segments of a file as the file
abbrev pub file_of : Segments → File
file_of segments = record { kind = segments.kind; parts = map part_of segments.parts.items }
