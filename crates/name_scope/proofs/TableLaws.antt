-- Look-ups in tables in which values are kept under texts.
use Rattle.std.proofs.Common.{◌≡◌, ℕ, Bool, true, false, cond, List, [], ◌∷◌, ◌++◌, take, refl, sym, ap, subst, ◌∙◌, true≢false, arith, if◌then◌else◌}
use Rattle.std.specs.Prelude.{Option, Some, None, is_some, IfSome, IsUtf8, ◌||◌, ◌&&◌, not, position, swap_remove}
use Rattle.std.specs.Borrow.{Bor}
use Rattle.std.specs.Option.{option_copied}
use Rattle.std.specs.List.{AllByRecursion}
use Rattle.std.specs.Map.{lookup, keys_of, values_of, KeepsOthers}
use Rattle.std.specs.Rc.{rc_str_bytes}
use Rattle.std.proofs.lemmas.Str.{IsUtf8-string_bytes}
use Rattle.std.proofs.lemmas.List.{take-map, map-append}
use Rattle.indexmap.specs.IndexMap.{swap_remove_entry, insert_entry}
use Rattle.indexmap.proofs.MapLemmas.{swap_remove_entry-found, swap_remove_entry-missing}
use Rattle.indexmap.proofs.SetLemmas.{map-swap_remove}
use Rattle.cic_names.specs.Sameness.{same_name}
use Rattle.gal_scoping.specs.Names.{has_own}
use Rattle.name_scope.specs.Tables.{Text, texts, under, same_text}
use Rattle.name_scope.specs.calls.Changes.{Leaves}
use Rattle.name_scope.proofs.NameLaws.{name_is}

pub some_copied : {X : Type 0} (r : Option (Bor X)) → is_some r ≡ is_some (option_copied r)
some_copied None = refl
some_copied (Some x) = refl

module _ {X : Type 0} (text : List ℕ) where
  -- A value is kept under the text where the text is among the texts.
  pub some_any : (es : List (Text × X)) → is_some (lookup (under text) es) ≡ has_own (texts es) text
  some_any [] = refl
  some_any (e ∷ es) = elim (under text e.0) as (λ b. is_some (cond b (Some e.1) (lookup (under text) es)) ≡ (b || has_own (texts es) text)) [
    | true ↦ refl
    | false ↦ some_any es
  ]

  -- All texts are UTF-8.
  pub none_other : ¬ IsUtf8 text → (es : List (Text × X)) → has_own (texts es) text ≡ false
  none_other bad [] = refl
  none_other bad (e ∷ es) = elim (under text e.0) as (λ b. under text e.0 ≡ b → (b || has_own (texts es) text) ≡ false) [
    | true ↦ λ s. absurd (bad (subst IsUtf8 (sym (name_is text (rc_str_bytes e.0) s)) (IsUtf8-string_bytes e.0.text.value)))
    | false ↦ λ s. none_other bad es
  ] refl

-- What a test of the keys says of the names.
pub told : {X : Type 0} (names : List (List ℕ)) (name text : List ℕ) (es : List (Text × X)) (r b : Bool) →
    texts es ≡ names → text ≡ name → r ≡ is_some (lookup (under text) es) → r ≡ b → has_own names name ≡ b
told names name text es r b view is tests answer =
    sym (ap (λ l. has_own l name) view) ∙ sym (ap (λ t. has_own (texts es) t) is) ∙ sym (some_any text es) ∙ sym tests ∙ answer

pub none_of : {X : Type 0} (o : Option X) → is_some o ≡ false → o ≡ None
none_of None e = refl
none_of (Some x) e = absurd (cc)

-- A text that is not there goes last.
pub put_last : {X : Type 0} (es : List (Text × X)) (key : Text) (value : X) → has_own (texts es) (rc_str_bytes key) ≡ false → insert_entry same_text es key value ≡ es ++ (key, value) ∷ []
put_last [] key value e = refl
put_last (x ∷ es) key value e = elim (same_text key x.0) as (λ b. (b || has_own (texts es) (rc_str_bytes key)) ≡ false → (if b then (x.0, value) ∷ es else x ∷ insert_entry same_text es key value) ≡ x ∷ (es ++ (key, value) ∷ [])) [
  | true ↦ λ e. absurd (true≢false e)
  | false ↦ λ e. ap (λ l. x ∷ l) (put_last es key value e)
] e

pub texts-last : {X : Type 0} (es : List (Text × X)) (key : Text) (value : X) → texts (es ++ (key, value) ∷ []) ≡ texts es ++ rc_str_bytes key ∷ []
texts-last es key value = map-append (λ e. rc_str_bytes e.0) es ((key, value) ∷ [])

abbrev pub Keyed : List (Text × List ℕ) → Type 0
Keyed es = values_of es ≡ texts es

heads : {x y : List ℕ} {xs ys : List (List ℕ)} → x ∷ xs ≡ y ∷ ys → x ≡ y
heads e = cc

tails : {x y : List ℕ} {xs ys : List (List ℕ)} → x ∷ xs ≡ y ∷ ys → xs ≡ ys
tails e = cc

-- A name that is kept under its text has that text.
pub name_found : (text : List ℕ) (es : List (Text × List ℕ)) → Keyed es → IfSome (lookup (under text) es) (λ name. name ≡ text)
name_found text [] keyed = tt
name_found text (e ∷ es) keyed = elim (under text e.0) as (λ b. under text e.0 ≡ b → IfSome (cond b (Some e.1) (lookup (under text) es)) (λ name. name ≡ text)) [
  | true ↦ λ s. heads keyed ∙ sym (name_is text (rc_str_bytes e.0) s)
  | false ↦ λ s. name_found text es (tails keyed)
] refl

pub behind : {X : Type 0} (P : X → Type 0) (r : Option (Bor X)) (o : Option X) → option_copied r ≡ o → IfSome o P → IfSome r (λ x. P x.now)
behind P None o e h = tt
behind P (Some x) o e h = subst (λ v. IfSome v P) (sym e) h

pub name_told : (text : List ℕ) (es : List (Text × List ℕ)) (r : Option (Bor (List ℕ))) → Keyed es → option_copied r ≡ lookup (under text) es → IfSome r (λ name. name.now ≡ text)
name_told text es r keyed e = behind (λ name. name ≡ text) r (lookup (under text) es) e (name_found text es keyed)

-- A name that goes last under its text.
pub keyed_last : (es : List (Text × List ℕ)) (key : Text) (name : List ℕ) → Keyed es → rc_str_bytes key ≡ name → Keyed (es ++ (key, name) ∷ [])
keyed_last es key name keyed is =
    map-append (λ (e : Text × List ℕ). e.1) es ((key, name) ∷ []) ∙ ap (λ l. l ++ name ∷ []) keyed ∙ ap (λ n. texts es ++ n ∷ []) (sym is) ∙ sym (texts-last es key name)

-- The first entries.
pub keyed_cut : (n : ℕ) (es : List (Text × List ℕ)) → Keyed es → Keyed (take n es)
keyed_cut n es keyed = sym (take-map (λ (e : Text × List ℕ). e.1) n es) ∙ ap (λ l. take n l) keyed ∙ take-map (λ (e : Text × List ℕ). rc_str_bytes e.0) n es

-- An entry that is taken away.
pub keyed_removed : (test : Text → Bool) (es : List (Text × List ℕ)) → Keyed es → Keyed (swap_remove_entry test es)
keyed_removed test [] keyed = refl
keyed_removed test (e ∷ es) keyed = by (position test (keys_of (e ∷ es))) refl
  where
    by : (r : Option ℕ) → position test (keys_of (e ∷ es)) ≡ r → Keyed (swap_remove_entry test (e ∷ es))
    by None p = subst Keyed (sym (swap_remove_entry-missing test (e ∷ es) p)) keyed
    by (Some i) p =
        subst Keyed (sym (swap_remove_entry-found test (e ∷ es) i e p))
        (map-swap_remove (λ (x : Text × List ℕ). x.1) (e ∷ es) i e (omega arith)
        ∙ ap (λ l. swap_remove l i e.1) keyed
        ∙ ap (λ d. swap_remove (texts (e ∷ es)) i d) (heads keyed)
        ∙ sym (map-swap_remove (λ (x : Text × List ℕ). rc_str_bytes x.0) (e ∷ es) i e (omega arith)))

-- A text differs from those that are looked up by another.
pub others : {X : Type 0} (name : List ℕ) (old new : List (Text × X)) → KeepsOthers same_text (under name) old new →
    (other : List ℕ) → same_name other name ≡ false → lookup (under other) new ≡ lookup (under other) old
unfolding KeepsOthers
others name old new keeps other s = keeps (under other) is_test apart
  where
    is_test : (x y : Text) → under other x ≡ true → under other y ≡ same_text x y
    is_test x y e = ap (λ t. same_name t (rc_str_bytes y)) (name_is other (rc_str_bytes x) e)

    apart : (k : Text) → under name k ≡ true → under other k ≡ false
    apart k e = subst (λ t. same_name other t ≡ false) (name_is name (rc_str_bytes k) e) s

-- The name's text is taken away, and each other finds what it found before.
pub leaves : {X : Type 0} (name : List ℕ) (old new : List (Text × X)) → lookup (under name) new ≡ None → KeepsOthers same_text (under name) old new → Leaves name (texts old) (texts new)
leaves name old new none keeps other = by (same_name other name) refl
  where
    by : (b : Bool) → same_name other name ≡ b → has_own (texts new) other ≡ (not b && has_own (texts old) other)
    by true s = sym (some_any other new) ∙ ap (λ t. is_some (lookup (under t) new)) (name_is other name s) ∙ ap is_some none
    by false s = sym (some_any other new) ∙ ap is_some (others name old new keeps other s) ∙ some_any other old

-- A text that is equal to none of the keys is not found.
pub absent : {X : Type 0} (key : Text) (es : List (Text × X)) → AllByRecursion (λ k. same_text key k ≡ false) (keys_of es) → (text : List ℕ) → same_name text (rc_str_bytes key) ≡ true →
    lookup (under text) es ≡ None
absent key [] h text s = refl
absent key (e ∷ es) h text s =
    ap (λ b. cond b (Some e.1) (lookup (under text) es)) (subst (λ t. same_name t (rc_str_bytes e.0) ≡ false) (sym (name_is text (rc_str_bytes key) s)) h.0) ∙ absent key es h.1 text s
