-- What the calls answer that read terms, groups of binders and functions.
use Rattle.std.specs.Prelude.{ℕ, List, [], ◌∷◌, map, Option, Result, Vec}
use Rattle.std.specs.declared.alloc.Global.{Global}
use Rattle.gal_grammar.specs.Terms.{Raw, Groups, Functions, Branches, prod, func}
use Rattle.gal_scoping.specs.Readings.{with_part}
use Rattle.gal_scoping.specs.Names.{Around}
use Rattle.gal_scoping.specs.Matches.{MatchedType}
use Rattle.gal_scoping.specs.Terms.{term, bindings, functions, branches}
use Rattle.elab_parts.specs.declared.binding.Binding.{Binding}
use Rattle.elab_parts.specs.declared.fault.ScopingFault.{ScopingFault}
use Rattle.elab_parts.specs.declared.functions.ReadFunction.{ReadFunction}
use Rattle.elab_parts.specs.declared.making.Pair.{Pair}
use Rattle.elab_parts.specs.declared.making.Pair.TheVariants.{Product, Abstraction, Application}
use Rattle.elab_parts.specs.declared.parts.Part.{Part}
use Rattle.elab_parts.specs.declared.place.Place.{Place}
use Rattle.elab_parts.specs.Places.{place_of, owner_of}
use Rattle.elab_parts.specs.calls.Bindings.{known_binding, cut_binding}
use Rattle.elab_parts.specs.calls.Functions.{known_function, cut_function}
use Rattle.elab_parts.specs.calls.Parts.{known, cut}
use Rattle.elab_parts.specs.calls.Readings.{Reads}
use Rattle.elab_matches.specs.declared.branches.Done.{Done}
use Rattle.elab_matches.specs.calls.Branches.{done_of, cut_branch}

-- The answer is the term, or nothing where that is not within the limits; or the fault.
abbrev pub ReadsTerm : Place → Around → (first : ℕ) → Raw → Result (Option Part) ScopingFault → Type 0
ReadsTerm place around first raw result = Reads known (with_part cut (term (place_of place) (owner_of place) around first raw)) result

-- The same of the binders of groups.
abbrev pub ReadsGroups : Place → Around → (first : ℕ) → Groups → Result (Vec Binding Global) ScopingFault → Type 0
ReadsGroups place around first gs result =
    Reads (λ bs. map known_binding bs.items) (with_part (map cut_binding) (bindings (place_of place) (owner_of place) around first gs)) result

-- The same of functions, of which the bodies see these names.
abbrev pub ReadsFunctions : Place → (names : List (Option (List ℕ))) → Around → (first : ℕ) → Functions → Result (Vec ReadFunction Global) ScopingFault → Type 0
ReadsFunctions place names around first fs result =
    Reads (λ done. map known_function done.items) (with_part (map cut_function) (functions (place_of place) (owner_of place) names around first fs)) result

-- The same of a single one.
abbrev pub ReadsFunction : Place → (names : List (Option (List ℕ))) → Around → (first : ℕ) → Functions → Result ReadFunction ScopingFault → Type 0
ReadsFunction place names around first fs result =
    Reads (λ f. known_function f ∷ []) (with_part (map cut_function) (functions (place_of place) (owner_of place) names around first fs)) result

-- The same of the branches of a match on this type.
abbrev pub ReadsBranches : Place → Around → (first : ℕ) → MatchedType → Branches → Result Done ScopingFault → Type 0
ReadsBranches place around first type bs result =
    Reads done_of (with_part (map cut_branch) (branches (place_of place) (owner_of place) around first type bs)) result

-- A term over groups of binders.
abbrev pub over_groups : Pair → Groups → Raw → Raw
over_groups Product gs b = prod gs b
over_groups Abstraction gs b = func gs b
over_groups Application gs b = func gs b

-- A kind of terms with binders.
abbrev pub IsOver : Pair → Type 0
IsOver Application = ⊥
IsOver kind = Unit {0}
