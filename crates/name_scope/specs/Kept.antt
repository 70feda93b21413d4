-- What is kept of the ids that imports bring.
use Rattle.std.specs.Prelude.{◌≡◌, ◌++◌, ◌∷◌, [], ◌&&◌, not, ℕ, Bool, true, List, Option, Some, None, Err, if◌then◌else◌}
use Rattle.std.specs.List.{list_all}
use Rattle.std.specs.Option.{option_to_list}
use Rattle.std.specs.Rc.{rc_str_bytes}
use Rattle.cic_names.specs.declared.name.GlobalId.{GlobalId}
use Rattle.cic_names.specs.Sameness.{same_name, same_id}
use Rattle.gal_scoping.specs.Readings.{Reading, unknown}
use Rattle.gal_scoping.specs.Names.{one_of}
use Rattle.name_scope.specs.Tables.{Text}
use Rattle.name_scope.specs.declared.brought.Brought.{Brought}

-- The ids that are kept for a name.
abbrev pub ids_kept : Option Brought → List GlobalId
ids_kept None = []
ids_kept (Some b) = b.one ∷ option_to_list b.other

abbrev pub ids_of : List (Text × Brought) → List GlobalId
ids_of [] = []
ids_of (e ∷ es) = ids_kept (Some e.1) ++ ids_of es

-- What the name stands for.
abbrev pub reading : (name : List ℕ) → Option Brought → Reading GlobalId
reading name None = Err (unknown name)
reading name (Some b) = one_of name b.one b.other

-- Ids have the name under which they are kept, and the second differs from the first.
abbrev pub is_other : (name : List ℕ) → (one : GlobalId) → Option GlobalId → Bool
is_other name one None = true
is_other name one (Some other) = same_name name other.name && not (same_id one other)

abbrev pub is_right : (name : List ℕ) → Brought → Bool
is_right name b = same_name name b.one.name && is_other name b.one b.other

abbrev pub AreRight : List (Text × Brought) → Type 0
AreRight es = list_all (λ e. is_right (rc_str_bytes e.0) e.1) es ≡ true

-- What is kept where one more id is brought.
abbrev pub with_second : (one id : GlobalId) → Option GlobalId → Brought
with_second one id None = record { one = one; other = if same_id one id then None else Some id }
with_second one id (Some other) = record { one = one; other = Some other }

abbrev pub kept_with : Option Brought → GlobalId → Brought
kept_with None id = record { one = id; other = None }
kept_with (Some b) id = with_second b.one id b.other

-- That is kept already, or is this.
abbrev pub IsNext : Option Brought → GlobalId → Option Brought → Type 0
IsNext before id None = before ≡ Some (kept_with before id)
IsNext before id (Some b) = b ≡ kept_with before id
