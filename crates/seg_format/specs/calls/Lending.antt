-- The parts of a file that rows tell of, and those that are lent.
use Rattle.std.specs.Prelude.{ℕ, List}
use Rattle.seg_format.specs.declared.rows.Row.{Row}
use Rattle.seg_format.specs.declared.reading.Lent.{Lent}
use Rattle.seg_format.specs.Numbers.{bytes_at}
use Rattle.seg_format.specs.Files.{Part}

-- a lent segment as a part of a file
abbrev pub part_of : Lent → Part
part_of lent = record { segment = lent.segment; bytes = lent.bytes.now }

-- the part of a file that a row tells of
abbrev pub part_at : List ℕ → Row → Part
part_at file row = record { segment = row.segment; bytes = bytes_at file row.place row.length }
