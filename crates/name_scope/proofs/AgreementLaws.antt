-- Scopes that answer alike mean the same by each name, and stay alike where more is brought or allowed.
use Rattle.std.proofs.Common.{◌≡◌, ◌&&◌, ℕ, Bool, true, false, cond, ◌||◌, List, [], ◌∷◌, ◌++◌, refl, sym, ap, ◌∙◌, if◌then◌else◌, append-nil}
use Rattle.std.specs.Prelude.{Option, Some, None, Ok, Err, not, filter, find}
use Rattle.std.proofs.lemmas.List.Elements.{filter-append}
use Rattle.cic_names.specs.declared.name.GlobalId.{GlobalId}
use Rattle.cic_names.specs.Sameness.{same_name, same_id}
use Rattle.gal_grammar.specs.Terms.{Qual, short, long}
use Rattle.gal_scoping.specs.Scopes.{Scope, Allowed}
use Rattle.gal_scoping.specs.Readings.{Reading, unknown, ambiguous, bad_pattern, with_part}
use Rattle.gal_scoping.specs.Names.{has_own, has_name, imported, one_of, named_id, qualified_id, qualified, words_of, global_id, is_name}
use Rattle.gal_scoping.specs.Levels.{qualified_level, level_id, level_named, declared_level}
use Rattle.name_scope.specs.Agreement.{Agrees}
use Rattle.name_scope.specs.calls.Changes.{Brings, imported_of, is_allowed, is_declared, with_allowed, Allows}
use Rattle.name_scope.proofs.NameLaws.{any-append}

-- What a name stands for where one more id of the name is brought.
abbrev next_reading : (name : List ℕ) → GlobalId → Reading GlobalId → Reading GlobalId
next_reading name id (Ok one) = one_of name one (if same_id one id then None else Some id)
next_reading name id (Err (unknown written)) = Ok id
next_reading name id (Err (ambiguous written one two)) = Err (ambiguous written one two)
next_reading name id (Err (bad_pattern written)) = Err (bad_pattern written)

abbrev first_of : {X : Type 0} → Option X → Option X → Option X
first_of None other = other
first_of (Some x) other = Some x

find-last : {X : Type 0} (test : X → Bool) (xs : List X) (x : X) → find test (xs ++ x ∷ []) ≡ first_of (find test xs) (cond (test x) (Some x) None)
find-last test [] x = refl
find-last test (y ∷ xs) x = elim (test y) as (λ b. cond b (Some y) (find test (xs ++ x ∷ [])) ≡ first_of (cond b (Some y) (find test xs)) (cond (test x) (Some x) None)) [
  | true ↦ refl
  | false ↦ find-last test xs x
]

imported_next : (name : List ℕ) (ids : List GlobalId) (id : GlobalId) → imported name (ids ++ id ∷ []) ≡ next_reading name id (imported name ids)
imported_next name [] id = refl
imported_next name (one ∷ ids) id = ap (one_of name one) (find-last (λ x. not (same_id one x)) ids id) ∙ by (find (λ x. not (same_id one x)) ids)
  where
    by : (o : Option GlobalId) → one_of name one (first_of o (cond (not (same_id one id)) (Some id) None)) ≡ next_reading name id (one_of name one o)
    by (Some other) = refl
    by None = elim (same_id one id) as (λ b. one_of name one (cond (not b) (Some id) None) ≡ one_of name one (if b then None else Some id)) [
      | true ↦ refl
      | false ↦ refl
    ]

imported_more : (name : List ℕ) (ids : List GlobalId) (id : GlobalId) →
    imported_of (ids ++ id ∷ []) name ≡ (if same_name name id.name then next_reading name id (imported_of ids name) else imported_of ids name)
imported_more name ids id =
    ap (imported name) (filter-append (λ (x : GlobalId). same_name name x.name) ids (id ∷ []))
    ∙ elim (same_name name id.name) as (λ b. imported name (filter (λ x. same_name name x.name) ids ++ cond b (id ∷ []) []) ≡ (if b then next_reading name id (imported_of ids name) else imported_of ids name)) [
      | true ↦ imported_next name (filter (λ x. same_name name x.name) ids) id
      | false ↦ ap (imported name) (append-nil (filter (λ x. same_name name x.name) ids))
    ]

-- One more id is brought.
pub brings_on : (all kept after : List GlobalId) (id : GlobalId) → Brings all kept → Brings (kept ++ id ∷ []) after → Brings (all ++ id ∷ []) after
brings_on all kept after id alike more name =
    more name ∙ imported_more name kept id
    ∙ ap (λ r. if same_name name id.name then next_reading name id r else r) (alike name)
    ∙ sym (imported_more name all id)

-- One more library is allowed.
pub allows_on : (name : List ℕ) (levels : List (List ℕ)) (all kept after : List Allowed) →
    ((library : List ℕ) → is_allowed kept library ≡ is_allowed all library) → ((level : GlobalId) → is_declared kept level ≡ is_declared all level) → Allows name levels kept after →
    ((library : List ℕ) → is_allowed after library ≡ is_allowed (with_allowed name levels all) library) ×
    ((level : GlobalId) → is_declared after level ≡ is_declared (with_allowed name levels all) level)
allows_on name levels all kept after libraries declared more = (
  λ library.
      more.libraries library ∙ any-append (is library) kept (one ∷ []) ∙ ap (λ b. b || is_allowed (one ∷ []) library) (libraries library) ∙ sym (any-append (is library) all (one ∷ [])),
  λ level.
      more.declared level ∙ any-append (has level) kept (one ∷ []) ∙ ap (λ b. b || is_declared (one ∷ []) level) (declared level) ∙ sym (any-append (has level) all (one ∷ [])),
)
  where
    one : Allowed
    one = record { library = name; levels = levels }

    is : List ℕ → Allowed → Bool
    is library a = same_name library a.library

    has : GlobalId → Allowed → Bool
    has level a = if same_name level.lib a.library then has_own a.levels level.name else false

module _ (all kept : Scope) (alike : Agrees all kept) where
  named_alike : (own own' : List (List ℕ)) (brought brought' : List GlobalId) → ((name : List ℕ) → has_own own' name ≡ has_own own name) → Brings brought brought' → (name : List ℕ) →
      named_id own' brought' kept.library name ≡ named_id own brought all.library name
  named_alike own own' brought brought' owns brings name =
      ap (λ l. if has_own own' name then Ok (record { lib = l; name = name }) else imported_of brought' name) alike.library
      ∙ ap (λ b. if b then Ok (record { lib = all.library; name = name }) else imported_of brought' name) (owns name)
      ∙ ap (λ r. if has_own own name then Ok (record { lib = all.library; name = name }) else r) (brings name)

  parts_alike : (words : List (List ℕ)) → qualified_id kept words ≡ qualified_id all words
  parts_alike [] = refl
  parts_alike (a ∷ []) = refl
  parts_alike (a ∷ b ∷ []) = refl
  parts_alike (a ∷ b ∷ c ∷ []) = ap (λ p. if has_name a p then Some (record { lib = b; name = c }) else None) alike.prefix
  parts_alike (a ∷ b ∷ c ∷ d ∷ words) = refl

  qualified_alike : (written : List ℕ) (o : Option GlobalId) → qualified kept written o ≡ qualified all written o
  qualified_alike written None = refl
  qualified_alike written (Some id) =
      ap (λ l. if (if same_name l id.lib then has_own kept.own id.name else (is_name id.name && is_allowed kept.allowed id.lib)) then Ok id else Err (unknown written)) alike.library
      ∙ ap (λ b. if (if same_name all.library id.lib then b else (is_name id.name && is_allowed kept.allowed id.lib)) then Ok id else Err (unknown written)) (alike.own id.name)
      ∙ ap (λ b. if (if same_name all.library id.lib then has_own all.own id.name else (is_name id.name && b)) then Ok id else Err (unknown written)) (alike.libraries id.lib)

  levels_alike : (written : List ℕ) (o : Option GlobalId) → qualified_level kept written o ≡ qualified_level all written o
  levels_alike written None = refl
  levels_alike written (Some id) =
      ap (λ l. if (if same_name l id.lib then has_own kept.own_levels id.name else is_declared kept.allowed id) then Ok id else Err (unknown written)) alike.library
      ∙ ap (λ b. if (if same_name all.library id.lib then b else is_declared kept.allowed id) then Ok id else Err (unknown written)) (alike.own_levels id.name)
      ∙ ap (λ b. if (if same_name all.library id.lib then has_own all.own_levels id.name else b) then Ok id else Err (unknown written)) (alike.declared id)

  -- A name means the same id.
  pub same_global : (x : Qual) → global_id kept x ≡ global_id all x
  same_global (short place name) = named_alike all.own kept.own all.brought kept.brought alike.own alike.brought name
  same_global (long place name) = ap (qualified kept name) (parts_alike (words_of name)) ∙ qualified_alike name (qualified_id all (words_of name))

  -- And the same level.
  pub same_level_id : (x : Qual) → level_id kept x ≡ level_id all x
  same_level_id (short place name) = named_alike all.own_levels kept.own_levels all.brought_levels kept.brought_levels alike.own_levels alike.brought_levels name
  same_level_id (long place name) = ap (qualified_level kept name) (parts_alike (words_of name)) ∙ levels_alike name (qualified_id all (words_of name))

  pub same_level_named : (x : Qual) → level_named kept x ≡ level_named all x
  same_level_named x = ap (with_part declared_level) (same_level_id x)
