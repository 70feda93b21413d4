-- Branches that are read, as far as their bodies are within the limits.
use Rattle.std.specs.Prelude.{ℕ, List, [], ◌∷◌, ◌++◌, map, length, find, nat_eq, Option, is_none, Bool, ◌&&◌, if◌then◌else◌, Err}
use Rattle.cic_terms.specs.Tree.{Tree}
use Rattle.cic_names.specs.Sameness.{same_id}
use Rattle.cic_rules.specs.Environment.{Constructor}
use Rattle.gal_grammar.specs.Terms.{Qual, Binder}
use Rattle.gal_scoping.specs.Readings.{bad_pattern, Reading, after, with_part}
use Rattle.gal_scoping.specs.Names.{Around, written, Place}
use Rattle.gal_scoping.specs.Matches.{MatchedType, ReadBranch as Read, Pattern, names_at, constructor_meant}
use Rattle.elab_parts.specs.calls.Parts.{known, cut}
use Rattle.elab_matches.specs.declared.branches.ReadBranch.{ReadBranch}
use Rattle.elab_matches.specs.declared.branches.Done.{Done}

pub record KnownBranch : Type 0 where
  pub place : ℕ
  pub binders : ℕ
  pub body : Option Tree

abbrev pub known_branch : ReadBranch → KnownBranch
known_branch b = record { place = b.place; binders = b.binders; body = known b.body }

abbrev pub cut_branch : Read → KnownBranch
cut_branch b = record { place = b.place; binders = b.binders; body = cut b.body }

-- The branch of a constructor: the first that has its place.
abbrev pub is_at : ℕ → KnownBranch → Bool
is_at place b = nat_eq place b.place

abbrev pub branch_of : List KnownBranch → (place : ℕ) → Option KnownBranch
branch_of done place = find (is_at place) done

abbrev pub done_of : Done → List KnownBranch
done_of d = map known_branch d.branches.items

-- A pattern, where these branches are read.
abbrev pub known_pattern_of : (name : List ℕ) → MatchedType → List KnownBranch → List Binder → Constructor → Reading Pattern
known_pattern_of name type done binders c =
    if same_id type.id c.owner && is_none (branch_of done c.place)
    then with_part (λ names. record { place = c.place; names = names }) (names_at name c.parameters c.type binders)
    else Err (bad_pattern name)

abbrev pub known_pattern : Place → Around → MatchedType → List KnownBranch → Qual → List Binder → Reading Pattern
known_pattern place around type done x binders =
    after (constructor_meant place around x) (known_pattern_of (written x) type done binders)

-- One branch more, that of this pattern.
abbrev pub known_with_branch : List KnownBranch → Pattern → Option Tree → List KnownBranch
known_with_branch done p body = done ++ (record { place = p.place; binders = length p.names; body = body } ∷ [])
