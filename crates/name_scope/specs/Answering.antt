-- What is read for names of a library.
use Rattle.std.specs.Prelude.{ℕ, List, Ok, Err, if◌then◌else◌}
use Rattle.cic_names.specs.declared.name.GlobalId.{GlobalId}
use Rattle.gal_scoping.specs.Readings.{Reading, unknown}
use Rattle.gal_scoping.specs.Names.{has_own}

-- The library's name, if it is among these.
abbrev pub own_reading : (library : List ℕ) → (names : List (List ℕ)) → (name written : List ℕ) → Reading GlobalId
own_reading library names name written = if has_own names name then Ok (record { lib = library; name = name }) else Err (unknown written)
