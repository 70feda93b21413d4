-- Reading summaries and library segments.
use Rattle.std.specs.Prelude.{ℕ, ◌==◌, List, length, take, drop, nat_lt, if◌then◌else◌}
use Rattle.seg_format.specs.declared.faults.Defect.TheVariants.{Short, Tag}
use Rattle.term_format.specs.Reading.{Reading, value, wrong, and_then, read_byte, read_number, read_name}
use Rattle.term_format.specs.ConstraintReading.{read_constraints}
use Rattle.lib_format.specs.declared.stored.NeedFlag.{NeedFlag}
use Rattle.lib_format.specs.declared.stored.NeedFlag.TheVariants.{Plain, Import, Export}
use Rattle.lib_format.specs.declared.stored.Need.{Need}
use Rattle.lib_format.specs.declared.stored.Recorded.{Recorded}
use Rattle.lib_format.specs.Lists.{read_list}
use Rattle.lib_format.specs.DeclarationReading.{read_new_name, read_declarations}
use Rattle.lib_format.specs.Contents.{SummaryContents, LibraryContents}

-- A digest.
unfoldable pub read_digest : List ℕ → Reading (List ℕ)
read_digest bytes = if nat_lt (length bytes) 16 then wrong Short 0 else value (take 16 bytes) (drop 16 bytes)

-- How a library is required, by its byte. `bytes` begin with it.
abbrev pub flag_of : (bytes : List ℕ) → (tag : ℕ) → List ℕ → Reading NeedFlag
flag_of bytes tag rest =
    if tag == 0 then value Plain rest
    else if tag == 1 then value Import rest
    else if tag == 2 then value Export rest
    else wrong Tag (length bytes)

unfoldable pub read_flag : List ℕ → Reading NeedFlag
read_flag bytes = and_then (read_byte bytes) (flag_of bytes)

unfoldable pub read_need : List ℕ → Reading Need
read_need bytes =
    and_then (read_flag bytes) (λ flag rest.
    and_then (read_name rest) (λ lib rest.
    value (record { flag = flag; lib = lib }) rest))

unfoldable pub read_recorded : List ℕ → Reading Recorded
read_recorded bytes =
    and_then (read_name bytes) (λ lib rest.
    and_then (read_digest rest) (λ digest rest.
    value (record { lib = lib; digest = digest }) rest))

abbrev pub read_closure : List ℕ → Reading (List Recorded)
read_closure = read_list (λ before. read_recorded)

-- A summary.
unfoldable pub read_summary : List ℕ → Reading SummaryContents
read_summary bytes =
    and_then (read_name bytes) (λ name rest.
    and_then (read_digest rest) (λ source rest.
    and_then (read_number rest) (λ budget rest.
    and_then (read_closure rest) (λ closure rest.
    value (record { name = name; source = source; budget = budget; closure = closure }) rest))))

abbrev pub read_needs : List ℕ → Reading (List Need)
read_needs = read_list (λ before. read_need)

-- The names of the levels differ.
abbrev pub read_levels : List ℕ → Reading (List (List ℕ))
read_levels = read_list read_new_name

-- A library segment. The names of its declarations are names of the library.
unfoldable pub read_library : List ℕ → Reading LibraryContents
read_library bytes =
    and_then (read_name bytes) (λ name rest.
    and_then (read_needs rest) (λ needs rest.
    and_then (read_levels rest) (λ levels rest.
    and_then (read_declarations name rest) (λ declarations rest.
    and_then (read_constraints rest) (λ visible rest.
    value (record { name = name; needs = needs; levels = levels; declarations = declarations; visible = visible }) rest)))))
