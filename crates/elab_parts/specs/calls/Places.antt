-- The recursive places of functions.
use Rattle.std.specs.Prelude.{ℕ, ◌+◌, ◌∷◌, [], List, length, Option, Some, None, Bool, false, if◌then◌else◌}
use Rattle.std.specs.Option.{option_map, option_and_then}
use Rattle.cic_terms.specs.Tree.{Tree}
use Rattle.cic_rules.specs.Environment.{Environment}
use Rattle.cic_rules.specs.Telescopes.{Function, head_of}
use Rattle.gal_grammar.specs.Terms.{Named}
use Rattle.gal_scoping.specs.Readings.{Reading, with_part}
use Rattle.gal_scoping.specs.Names.{text_of}
use Rattle.gal_scoping.specs.Fixpoints.{ReadFunction, last_place, place_or_unknown, is_type, is_guarded_at, first_where, recursive_at}
use Rattle.elab_parts.specs.calls.Bindings.{KnownBinding}
use Rattle.elab_parts.specs.calls.Functions.{KnownFunction, whole_function}
use Rattle.std.specs.Prelude.{Ok}

-- The place behind `struct`, among these names.
abbrev pub struct_at : Option Named → List (Option (List ℕ)) → Reading (Option ℕ)
struct_at None names = Ok None
struct_at (Some x) names = with_part Some (place_or_unknown (text_of x) (last_place (text_of x) names))

-- The first binder with an inductive type at the head of its type.
abbrev pub known_is_type : Option Tree → Bool
known_is_type (Some t) = is_type (head_of t)
known_is_type None = false

abbrev pub first_known : (place : ℕ) → List KnownBinding → ℕ
first_known place [] = 0
first_known place (b ∷ bs) = if known_is_type b.type then place else first_known (place + 1) bs

-- Whether the guard passes with this recursive binder.
abbrev pub guarded_if : Environment → (k : ℕ) → Option ReadFunction → Bool
guarded_if E k (Some f) = is_guarded_at E f k
guarded_if E k None = false

-- The recursive place of a function of several, or of a single one.
abbrev pub place_if : (struct : Option ℕ) → (other : ℕ) → ℕ
place_if (Some k) other = k
place_if None other = other

abbrev pub known_place : Environment → (single : Bool) → KnownFunction → ℕ
known_place E single f =
    place_if f.struct (if single then first_where (λ k. guarded_if E k (whole_function f)) 0 (length f.bindings) else first_known 0 f.bindings)

-- The functions with their recursive places.
abbrev pub placed : Environment → (single : Bool) → List KnownFunction → Option (List Function)
placed E single [] = Some []
placed E single (f ∷ fs) =
    option_and_then (λ g. option_map (λ gs. recursive_at g (known_place E single f) ∷ gs) (placed E single fs)) (whole_function f)
