-- Allowed libraries and their levels are read from what is kept of them.
use Rattle.std.proofs.Common.{◌≡◌, ℕ, Bool, true, false, cond, ◌||◌, List, [], ◌∷◌, ◌++◌, map, refl, sym, ap, ◌∙◌, if◌then◌else◌}
use Rattle.std.specs.Prelude.{Option, Some, None, is_some, IfSome}
use Rattle.std.specs.Borrow.{Bor}
use Rattle.std.specs.List.{IsDistinct}
use Rattle.std.specs.Map.{lookup, keys_of, set_value}
use Rattle.std.specs.Option.{option_copied}
use Rattle.std.specs.Rc.{rc_str_bytes}
use Rattle.std.proofs.lemmas.List.{map-append}
use Rattle.std.proofs.lemmas.Map.Keys.{IsDistinct-head, IsDistinct-tail}
use Rattle.cic_names.specs.declared.name.GlobalId.{GlobalId}
use Rattle.cic_names.specs.Sameness.{same_name}
use Rattle.gal_scoping.specs.Scopes.{Allowed}
use Rattle.gal_scoping.specs.Names.{has_own}
use Rattle.name_scope.specs.Tables.{Text, texts, under, same_text}
use Rattle.name_scope.specs.Permitted.{allowed_of, AreNamed}
use Rattle.name_scope.specs.calls.Changes.{is_allowed, is_declared, with_allowed, with_names, Allows}
use Rattle.name_scope.specs.declared.library.Library.{Library}
use Rattle.name_scope.proofs.NameLaws.{name_is, any-append, has_more}
use Rattle.name_scope.proofs.TableLaws.{absent, texts-last}

pub allowed_any : (name : List ℕ) (es : List (Text × Library)) → is_some (lookup (under name) es) ≡ is_allowed (allowed_of es) name
allowed_any name [] = refl
allowed_any name (e ∷ es) = elim (under name e.0) as (λ b. is_some (cond b (Some e.1) (lookup (under name) es)) ≡ (b || is_allowed (allowed_of es) name)) [
  | true ↦ refl
  | false ↦ allowed_any name es
]

abbrev pub levels_kept : Option Library → List (List ℕ)
levels_kept None = []
levels_kept (Some l) = l.levels

pub declared_any : (level : GlobalId) (es : List (Text × Library)) → IsDistinct same_text (keys_of es) → is_declared (allowed_of es) level ≡ has_own (levels_kept (lookup (under level.lib) es)) level.name
declared_any level [] apart = refl
declared_any level (e ∷ es) apart = by (declared_any level es (IsDistinct-tail same_text e.0 (keys_of es) apart)) (under level.lib e.0) refl
  where
    or_none : (b c : Bool) → c ≡ false → (b || c) ≡ b
    or_none true c e = refl
    or_none false c e = e

    by : is_declared (allowed_of es) level ≡ has_own (levels_kept (lookup (under level.lib) es)) level.name → (b : Bool) → under level.lib e.0 ≡ b →
        ((if b then has_own e.1.levels level.name else false) || is_declared (allowed_of es) level) ≡ has_own (levels_kept (cond b (Some e.1) (lookup (under level.lib) es))) level.name
    by rest true s =
        or_none (has_own e.1.levels level.name) (is_declared (allowed_of es) level)
        (rest ∙ ap (λ o. has_own (levels_kept o) level.name) (absent e.0 es (IsDistinct-head same_text e.0 (keys_of es) apart) level.lib s))
    by rest false s = rest

heads : {x y : List ℕ} {xs ys : List (List ℕ)} → x ∷ xs ≡ y ∷ ys → x ≡ y
heads e = cc

tails : {x y : List ℕ} {xs ys : List (List ℕ)} → x ∷ xs ≡ y ∷ ys → xs ≡ ys
tails e = cc

-- A library that is found has the name, and the levels.
pub found_name : (name : List ℕ) (es : List (Text × Library)) → AreNamed es → IfSome (lookup (under name) es) (λ l. l.name ≡ name)
found_name name [] named = tt
found_name name (e ∷ es) named = by (found_name name es (tails named)) (under name e.0) refl
  where
    by : IfSome (lookup (under name) es) (λ l. l.name ≡ name) → (b : Bool) → under name e.0 ≡ b → IfSome (cond b (Some e.1) (lookup (under name) es)) (λ l. l.name ≡ name)
    by rest true s = heads named ∙ sym (name_is name (rc_str_bytes e.0) s)
    by rest false s = rest

pub found_levels : (name : List ℕ) (es : List (Text × Library)) (allowed : List Allowed) (r : Option (Bor Library)) → IsDistinct same_text (keys_of es) → allowed_of es ≡ allowed →
    option_copied r ≡ lookup (under name) es → IfSome r (λ l. (level : List ℕ) → is_declared allowed (record { lib = name; name = level }) ≡ has_own l.now.levels level)
found_levels name es allowed None apart view e = tt
found_levels name es allowed (Some l) apart view e = λ level.
    ap (λ a. is_declared a (record { lib = name; name = level })) (sym view)
    ∙ declared_any (record { lib = name; name = level }) es apart
    ∙ ap (λ o. has_own (levels_kept o) level) (sym e)

or_false : (a b : Bool) → b ≡ false → a ≡ (a || (b || false))
or_false true b e = refl
or_false false false e = refl
or_false false true e = sym e

or_last : (a b : Bool) → (a || b) ≡ (a || (b || false))
or_last true b = refl
or_last false true = refl
or_last false false = refl

or_true : (a b : Bool) → b ≡ true → true ≡ (a || (b || false))
or_true true b e = refl
or_true false true e = refl
or_true false false e = sym e

-- The table after a library was put into it, or its levels were added to.
pub allows : (name : List ℕ) (levels : List (List ℕ)) (es new : List (Text × Library)) (library : Library) → IsDistinct same_text (keys_of es) → IsDistinct same_text (keys_of new) →
    library.levels ≡ with_names (levels_kept (lookup (under name) es)) levels → lookup (under name) new ≡ Some library →
    ((other : List ℕ) → same_name other name ≡ false → lookup (under other) new ≡ lookup (under other) es) →
    Allows name levels (allowed_of es) (allowed_of new)
allows name levels es new library apart apart' is at keeps = record {
  libraries = λ other. by_name other (same_name other name) refl;
  declared = λ level. by_level level (same_name level.lib name) refl;
}
  where
    one : Allowed
    one = record { library = name; levels = levels }

    by_name : (other : List ℕ) (b : Bool) → same_name other name ≡ b → is_allowed (allowed_of new) other ≡ is_allowed (with_allowed name levels (allowed_of es)) other
    by_name other true s =
        sym (allowed_any other new) ∙ ap (λ t. is_some (lookup (under t) new)) (name_is other name s) ∙ ap is_some at
        ∙ or_true (is_allowed (allowed_of es) other) (same_name other name) s ∙ sym (any-append (λ (a : Allowed). same_name other a.library) (allowed_of es) (one ∷ []))
    by_name other false s =
        sym (allowed_any other new) ∙ ap is_some (keeps other s) ∙ allowed_any other es
        ∙ or_false (is_allowed (allowed_of es) other) (same_name other name) s ∙ sym (any-append (λ (a : Allowed). same_name other a.library) (allowed_of es) (one ∷ []))

    has : GlobalId → Allowed → Bool
    has level a = if same_name level.lib a.library then has_own a.levels level.name else false

    by_level : (level : GlobalId) (b : Bool) → same_name level.lib name ≡ b → is_declared (allowed_of new) level ≡ is_declared (with_allowed name levels (allowed_of es)) level
    by_level level true s =
        declared_any level new apart'
        ∙ ap (λ t. has_own (levels_kept (lookup (under t) new)) level.name) (name_is level.lib name s)
        ∙ ap (λ o. has_own (levels_kept o) level.name) at
        ∙ ap (λ l. has_own l level.name) is
        ∙ has_more (levels_kept (lookup (under name) es)) levels level.name
        ∙ ap (λ t. has_own (levels_kept (lookup (under t) es)) level.name || has_own levels level.name) (sym (name_is level.lib name s))
        ∙ ap (λ b. b || has_own levels level.name) (sym (declared_any level es apart))
        ∙ or_last (is_declared (allowed_of es) level) (has_own levels level.name)
        ∙ ap (λ b. is_declared (allowed_of es) level || ((if b then has_own levels level.name else false) || false)) (sym s)
        ∙ sym (any-append (has level) (allowed_of es) (one ∷ []))
    by_level level false s =
        declared_any level new apart' ∙ ap (λ o. has_own (levels_kept o) level.name) (keeps level.lib s) ∙ sym (declared_any level es apart)
        ∙ or_false (is_declared (allowed_of es) level) (has level one) (ap (λ b. if b then has_own levels level.name else false) s)
        ∙ sym (any-append (has level) (allowed_of es) (one ∷ []))

-- A library's value is written over.
pub set_named : (test : Text → Bool) (es : List (Text × Library)) (l : Library) → IfSome (lookup test es) (λ old. l.name ≡ old.name) → map (λ e. e.1.name) (set_value test es l) ≡ map (λ e. e.1.name) es
set_named test [] l same = refl
set_named test (e ∷ es) l same = elim (test e.0) as (λ b. IfSome (cond b (Some e.1) (lookup test es)) (λ old. l.name ≡ old.name) →
    map (λ x. x.1.name) (cond b ((e.0, l) ∷ es) (e ∷ set_value test es l)) ≡ e.1.name ∷ map (λ x. x.1.name) es) [
      | true ↦ λ same. ap (λ n. n ∷ map (λ (x : Text × Library). x.1.name) es) same
      | false ↦ λ same. ap (λ (ns : List (List ℕ)). e.1.name ∷ ns) (set_named test es l same)
    ] same

pub set_texts : (test : Text → Bool) (es : List (Text × Library)) (l : Library) → texts (set_value test es l) ≡ texts es
set_texts test [] l = refl
set_texts test (e ∷ es) l = elim (test e.0) as (λ b. texts (cond b ((e.0, l) ∷ es) (e ∷ set_value test es l)) ≡ rc_str_bytes e.0 ∷ texts es) [
  | true ↦ refl
  | false ↦ ap (λ (ts : List (List ℕ)). rc_str_bytes e.0 ∷ ts) (set_texts test es l)
]

-- The value that was there.
pub set_same : (test : Text → Bool) (es : List (Text × Library)) (l : Library) → lookup test es ≡ Some l → set_value test es l ≡ es
set_same test [] l h = refl
set_same test (e ∷ es) l h = elim (test e.0) as (λ b. cond b (Some e.1) (lookup test es) ≡ Some l → cond b ((e.0, l) ∷ es) (e ∷ set_value test es l) ≡ e ∷ es) [
  | true ↦ λ k. let same : e.1 ≡ l = cc in ap (λ (v : Library). (e.0, v) ∷ es) (sym same)
  | false ↦ λ k. ap (λ (l' : List (Text × Library)). e ∷ l') (set_same test es l k)
] h

-- A library that goes last under its name.
pub named_last : (es : List (Text × Library)) (key : Text) (l : Library) → AreNamed es → rc_str_bytes key ≡ l.name → AreNamed (es ++ (key, l) ∷ [])
named_last es key l named is =
    map-append (λ (e : Text × Library). e.1.name) es ((key, l) ∷ []) ∙ ap (λ ns. ns ++ l.name ∷ []) named ∙ ap (λ n. texts es ++ n ∷ []) (sym is) ∙ sym (texts-last es key l)
