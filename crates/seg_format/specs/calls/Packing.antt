-- What is packed, as a file.
use Rattle.std.specs.Prelude.{ℕ, List, [], ◌++◌, ◌^◌, Option, Some, None, length, map}
use Rattle.seg_format.specs.declared.layout.Kind.{Kind}
use Rattle.seg_format.specs.declared.layout.Segment.{Segment}
use Rattle.seg_format.specs.declared.layout.Segment.TheVariants.{Head, Table, Summary, Library, Proofs, Opaques}
use Rattle.seg_format.specs.declared.pieces.Packed.{Packed}
use Rattle.seg_format.specs.declared.packing.PackFault.{PackFault}
use Rattle.seg_format.specs.declared.packing.PackFault.TheVariants.{Limit, NoMemory}
use Rattle.seg_format.specs.Files.{Part, File, segments_of, spelling}

-- the bytes of a segment in what is packed
abbrev pub segment_of : Packed → Segment → List ℕ
segment_of parts Head = []
segment_of parts Table = []
segment_of parts Summary = parts.summary.now
segment_of parts Library = parts.library.now
segment_of parts Proofs = parts.proofs.now
segment_of parts Opaques = parts.opaques_head.now ++ parts.opaques_bodies.now

-- what is packed, as parts of a file
abbrev pub packed_parts : Packed → List Segment → List Part
packed_parts parts segments = map (λ segment. record { segment = segment; bytes = segment_of parts segment }) segments

-- what is packed, as a file of a kind
abbrev pub packed : Kind → Packed → File
packed kind parts = record { kind = kind; parts = packed_parts parts (segments_of kind) }

-- the number of bytes of a file that is packed
abbrev pub packed_size : Kind → Packed → ℕ
packed_size kind parts = length (spelling (packed kind parts))

-- the number of bytes for which no file is made, if that is the reason
abbrev pub limit : PackFault → Option ℕ
limit (Limit number) = Some number
limit NoMemory = None

-- the longest file, 16 MiB
abbrev pub longest : ℕ
longest = 2 ^ 24
