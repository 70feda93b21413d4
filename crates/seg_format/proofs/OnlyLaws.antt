-- Where bytes spell a file, taking them apart gives that file.
use Rattle.std.proofs.Common.{◌≡◌, ℕ, List, sym, ◌∙◌}
use Rattle.std.specs.Prelude.{Some, None, Result, Ok, Err, IfOk, IfErr, IsOkAnd}
use Rattle.seg_format.specs.declared.faults.BadFile.{BadFile}
use Rattle.seg_format.specs.declared.reading.Segments.{Segments}
use Rattle.seg_format.specs.Files.{File, Spells}
use Rattle.seg_format.specs.Defects.{first_defect}
use Rattle.seg_format.specs.calls.Views.{file_of}
use Rattle.seg_format.proofs.FileLaws.{read_spelled}
use Rattle.seg_format.proofs.SpellingLaws.{one_file}

pub only : (bytes : List ℕ) (answer : Result Segments BadFile) → IfOk answer (λ segments. Spells bytes (file_of segments)) → IfErr answer (λ fault. first_defect bytes ≡ Some fault)
    → (file : File) → Spells bytes file → IsOkAnd answer (λ segments. file_of segments ≡ file)
only bytes (Ok segments) found fails file s = one_file bytes (file_of segments) file found s
only bytes (Err fault) found fails file s = let none : None ≡ Some fault = sym (read_spelled bytes file s).none ∙ fails in cc
