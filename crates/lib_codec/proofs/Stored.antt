-- What is read can be stored.
use Rattle.std.proofs.Common.{◌≡◌, ℕ, suc, ◌<◌, List, [], ◌∷◌, get_or}
use Rattle.term_format.specs.Reading.{value}
use Rattle.term_format.proofs.Bytes.{AreBytes}
use Rattle.lib_format.specs.Contents.{SummaryContents, IsSummary, LibraryContents, IsLibrary}
use Rattle.lib_format.specs.ContentsReading.{read_summary, read_library}
use Rattle.lib_format.proofs.ContentsLaws.{summary_spelled, library_spelled}

pub bytes_of : (bs : List ℕ) → ((i : ℕ) → get_or bs i 0 < 256) → AreBytes bs
bytes_of [] h = tt
bytes_of (b ∷ bs) h = (h 0, bytes_of bs (λ i. h (suc i)))

pub stored_summary : (bs : List ℕ) (s : SummaryContents) (rest : List ℕ) → ((i : ℕ) → get_or bs i 0 < 256) → read_summary bs ≡ value s rest → IsSummary s
stored_summary bs s rest h e = (summary_spelled bs s rest (bytes_of bs h) e).ok

pub stored_library : (bs : List ℕ) (c : LibraryContents) (rest : List ℕ) → ((i : ℕ) → get_or bs i 0 < 256) → read_library bs ≡ value c rest → IsLibrary c
stored_library bs c rest h e = (library_spelled bs c rest (bytes_of bs h) e).ok
