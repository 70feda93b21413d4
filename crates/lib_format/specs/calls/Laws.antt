-- The laws of spelling and reading, as statements.
use Rattle.std.specs.Prelude.{ℕ, ◌≡◌, ◌<◌, List, [], ◌++◌, length, All}
use Rattle.cic_rules.specs.Environment.{Declaration}
use Rattle.term_format.specs.Reading.{value}
use Rattle.term_format.specs.calls.Laws.{Spells}
use Rattle.lib_format.specs.DeclarationBytes.{declaration_bytes, declarations_bytes, IsDeclaration, AreDeclarations}
use Rattle.lib_format.specs.DeclarationReading.{read_declaration, read_declarations}
use Rattle.lib_format.specs.Contents.{SummaryContents, summary_bytes, IsSummary, LibraryContents, library_bytes, IsLibrary}
use Rattle.lib_format.specs.ContentsReading.{read_summary, read_library}
use Rattle.lib_format.specs.declared.stored.OpaqueRow.{OpaqueRow}
use Rattle.lib_format.specs.OpaqueHeads.{head_bytes, IsHead, read_head}

abbrev pub AreBytes : List ℕ → Type 0
AreBytes = All (λ b. b < 256)

-- What is spelled is read, and the bytes after it are left. A declaration stands behind those that declare the names
-- seen and have `index` opaque bodies.
abbrev pub spelled_declarations_are_read : Type 0
spelled_declarations_are_read = (library : List ℕ) (seen : List (List ℕ)) (index : ℕ) (d : Declaration) (rest : List ℕ) → IsDeclaration library seen index d → read_declaration library seen index (declaration_bytes index d ++ rest) ≡ value d rest

abbrev pub spelled_lists_are_read : Type 0
spelled_lists_are_read = (library : List ℕ) (ds : List Declaration) (rest : List ℕ) → AreDeclarations library ds → read_declarations library (declarations_bytes ds ++ rest) ≡ value ds rest

abbrev pub spelled_summaries_are_read : Type 0
spelled_summaries_are_read = (s : SummaryContents) (rest : List ℕ) → IsSummary s → read_summary (summary_bytes s ++ rest) ≡ value s rest

abbrev pub spelled_libraries_are_read : Type 0
spelled_libraries_are_read = (c : LibraryContents) (rest : List ℕ) → IsLibrary c → read_library (library_bytes c ++ rest) ≡ value c rest

-- The head of opaques, with their bodies behind it.
abbrev pub spelled_heads_are_read : Type 0
spelled_heads_are_read = (count : ℕ) (rows : List OpaqueRow) (bodies : List ℕ) → IsHead (length bodies) count rows → read_head count (head_bytes rows ++ bodies) ≡ value rows bodies

-- What is read can be stored, and exactly the bytes before the rest spell it.
abbrev pub read_declarations_are_spelled : Type 0
read_declarations_are_spelled = (library : List ℕ) (seen : List (List ℕ)) (index : ℕ) (bytes : List ℕ) (d : Declaration) (rest : List ℕ) → AreBytes bytes → read_declaration library seen index bytes ≡ value d rest → Spells (IsDeclaration library seen index d) (declaration_bytes index d) bytes rest

abbrev pub read_lists_are_spelled : Type 0
read_lists_are_spelled = (library bytes : List ℕ) (ds : List Declaration) (rest : List ℕ) → AreBytes bytes → read_declarations library bytes ≡ value ds rest → Spells (AreDeclarations library ds) (declarations_bytes ds) bytes rest

abbrev pub read_summaries_are_spelled : Type 0
read_summaries_are_spelled = (bytes : List ℕ) (s : SummaryContents) (rest : List ℕ) → AreBytes bytes → read_summary bytes ≡ value s rest → Spells (IsSummary s) (summary_bytes s) bytes rest

abbrev pub read_libraries_are_spelled : Type 0
read_libraries_are_spelled = (bytes : List ℕ) (c : LibraryContents) (rest : List ℕ) → AreBytes bytes → read_library bytes ≡ value c rest → Spells (IsLibrary c) (library_bytes c) bytes rest

abbrev pub read_heads_are_spelled : Type 0
read_heads_are_spelled = (count : ℕ) (bytes : List ℕ) (rows : List OpaqueRow) (bodies : List ℕ) → AreBytes bytes → read_head count bytes ≡ value rows bodies → Spells (IsHead (length bodies) count rows) (head_bytes rows) bytes bodies

-- Different values have different spellings.
abbrev pub declarations_have_one_spelling : Type 0
declarations_have_one_spelling = (library : List ℕ) (ds es : List Declaration) → AreDeclarations library ds → AreDeclarations library es → declarations_bytes ds ≡ declarations_bytes es → ds ≡ es

abbrev pub summaries_have_one_spelling : Type 0
summaries_have_one_spelling = (s t : SummaryContents) → IsSummary s → IsSummary t → summary_bytes s ≡ summary_bytes t → s ≡ t

abbrev pub libraries_have_one_spelling : Type 0
libraries_have_one_spelling = (c d : LibraryContents) → IsLibrary c → IsLibrary d → library_bytes c ≡ library_bytes d → c ≡ d

abbrev pub opaques_have_one_spelling : Type 0
opaques_have_one_spelling = (rows others : List OpaqueRow) (bodies bodies' : List ℕ) (count count' : ℕ) → IsHead (length bodies) count rows → IsHead (length bodies') count' others → head_bytes rows ++ bodies ≡ head_bytes others ++ bodies' → (rows ≡ others) × (bodies ≡ bodies')

-- No spelling is the proper beginning of another.
abbrev pub declarations_end_themselves : Type 0
declarations_end_themselves = (library : List ℕ) (ds es : List Declaration) (more : List ℕ) → AreDeclarations library ds → AreDeclarations library es → declarations_bytes ds ++ more ≡ declarations_bytes es → more ≡ []

abbrev pub summaries_end_themselves : Type 0
summaries_end_themselves = (s t : SummaryContents) (more : List ℕ) → IsSummary s → IsSummary t → summary_bytes s ++ more ≡ summary_bytes t → more ≡ []

abbrev pub libraries_end_themselves : Type 0
libraries_end_themselves = (c d : LibraryContents) (more : List ℕ) → IsLibrary c → IsLibrary d → library_bytes c ++ more ≡ library_bytes d → more ≡ []

abbrev pub opaques_end_themselves : Type 0
opaques_end_themselves = (rows others : List OpaqueRow) (bodies bodies' more : List ℕ) (count count' : ℕ) → IsHead (length bodies) count rows → IsHead (length bodies') count' others → (head_bytes rows ++ bodies) ++ more ≡ head_bytes others ++ bodies' → more ≡ []
