-- What imports bring for a name is read from what is kept of it.
use Rattle.std.proofs.Common.{◌≡◌, ℕ, Bool, true, false, cond, ◌&&◌, List, [], ◌∷◌, ◌++◌, refl, sym, ap, subst, ◌∙◌, if◌then◌else◌, append-nil}
use Rattle.std.specs.Prelude.{Option, Some, None, not, filter, find}
use Rattle.std.specs.List.{list_all, IsDistinct}
use Rattle.std.specs.Option.{option_to_list}
use Rattle.std.specs.Map.{lookup, keys_of}
use Rattle.std.specs.Rc.{rc_str_bytes}
use Rattle.std.proofs.lemmas.List.Elements.{filter-append}
use Rattle.std.proofs.lemmas.Map.Keys.{IsDistinct-head, IsDistinct-tail}
use Rattle.indexmap.specs.IndexMap.{insert_entry}
use Rattle.cic_names.specs.declared.name.GlobalId.{GlobalId}
use Rattle.cic_names.specs.Sameness.{same_name, same_id}
use Rattle.gal_scoping.specs.Names.{imported, one_of}
use Rattle.name_scope.specs.Tables.{Text, under, same_text}
use Rattle.name_scope.specs.Kept.{ids_kept, ids_of, reading, is_other, is_right, AreRight, with_second, kept_with, IsNext}
use Rattle.name_scope.specs.calls.Changes.{imported_of, Brings}
use Rattle.name_scope.specs.declared.brought.Brought.{Brought}
use Rattle.name_scope.proofs.NameLaws.{name_is, and_left, and_right, and_both}
use Rattle.name_scope.proofs.TableLaws.{absent}

abbrev pub of_name : List ℕ → List GlobalId → List GlobalId
of_name name ids = filter (λ id. same_name name id.name) ids

-- What is kept of a name is right.
abbrev pub IsRightFor : List ℕ → Option Brought → Type 0
IsRightFor name None = Unit {0}
IsRightFor name (Some b) = is_right name b ≡ true

all_named : (name : List ℕ) (one : GlobalId) (other : Option GlobalId) → (same_name name one.name && is_other name one other) ≡ true →
    of_name name (one ∷ option_to_list other) ≡ one ∷ option_to_list other
all_named name one None h = ap (λ b. cond b (one ∷ []) []) (and_left (same_name name one.name) true h)
all_named name one (Some other) h =
    let second = and_left (same_name name other.name) (not (same_id one other)) (and_right (same_name name one.name) (is_other name one (Some other)) h) in
    ap (λ b. cond b (one ∷ of_name name (other ∷ [])) (of_name name (other ∷ []))) (and_left (same_name name one.name) (is_other name one (Some other)) h)
    ∙ ap (λ b. one ∷ cond b (other ∷ []) []) second

none_named : (name key : List ℕ) (one : GlobalId) (other : Option GlobalId) → same_name name key ≡ false → (same_name key one.name && is_other key one other) ≡ true →
    of_name name (one ∷ option_to_list other) ≡ []
none_named name key one None s h =
    ap (λ b. cond b (one ∷ []) []) (subst (λ t. same_name name t ≡ false) (name_is key one.name (and_left (same_name key one.name) true h)) s)
none_named name key one (Some other) s h =
    let first = and_left (same_name key one.name) (is_other key one (Some other)) h in
    let second = and_left (same_name key other.name) (not (same_id one other)) (and_right (same_name key one.name) (is_other key one (Some other)) h) in
    ap (λ b. cond b (one ∷ of_name name (other ∷ [])) (of_name name (other ∷ []))) (subst (λ t. same_name name t ≡ false) (name_is key one.name first) s)
    ∙ ap (λ b. cond b (other ∷ []) []) (subst (λ t. same_name name t ≡ false) (name_is key other.name second) s)

-- The ids of a name are those that are kept for it.
pub of_kept : (name : List ℕ) (es : List (Text × Brought)) → AreRight es → IsDistinct same_text (keys_of es) → of_name name (ids_of es) ≡ ids_kept (lookup (under name) es)
of_kept name [] right apart = refl
of_kept name (e ∷ es) right apart = filter-append (λ (id : GlobalId). same_name name id.name) (ids_kept (Some e.1)) (ids_of es) ∙ by (of_kept name es (and_right (is_right (rc_str_bytes e.0) e.1) (list_all (λ x. is_right (rc_str_bytes x.0) x.1) es) right) (IsDistinct-tail same_text e.0 (keys_of es) apart)) (under name e.0) refl
  where
    here : is_right (rc_str_bytes e.0) e.1 ≡ true
    here = and_left (is_right (rc_str_bytes e.0) e.1) (list_all (λ x. is_right (rc_str_bytes x.0) x.1) es) right

    by : of_name name (ids_of es) ≡ ids_kept (lookup (under name) es) → (b : Bool) → under name e.0 ≡ b → of_name name (ids_kept (Some e.1)) ++ of_name name (ids_of es) ≡ ids_kept (cond b (Some e.1) (lookup (under name) es))
    by rest true s =
        ap (λ l. l ++ of_name name (ids_of es)) (all_named name e.1.one e.1.other (subst (λ t. is_right t e.1 ≡ true) (sym (name_is name (rc_str_bytes e.0) s)) here))
        ∙ ap (λ l. ids_kept (Some e.1) ++ l) (rest ∙ ap ids_kept (absent e.0 es (IsDistinct-head same_text e.0 (keys_of es) apart) name s))
        ∙ append-nil (ids_kept (Some e.1))
    by rest false s = ap (λ l. l ++ of_name name (ids_of es)) (none_named name (rc_str_bytes e.0) e.1.one e.1.other s here) ∙ rest

imported_two : (name : List ℕ) (one : GlobalId) (other : Option GlobalId) → (same_name name one.name && is_other name one other) ≡ true →
    imported name (one ∷ option_to_list other) ≡ one_of name one other
imported_two name one None h = refl
imported_two name one (Some other) h =
    ap (λ b. one_of name one (cond b (Some other) None))
    (and_right (same_name name other.name) (not (same_id one other)) (and_right (same_name name one.name) (is_other name one (Some other)) h))

-- What is kept of a name tells what imports bring for it.
pub imported_kept : (name : List ℕ) (o : Option Brought) → IsRightFor name o → imported name (ids_kept o) ≡ reading name o
imported_kept name None h = refl
imported_kept name (Some b) h = imported_two name b.one b.other h

more_two : (name : List ℕ) (one id : GlobalId) (other : Option GlobalId) → (same_name name one.name && is_other name one other) ≡ true →
    imported name ((one ∷ option_to_list other) ++ id ∷ []) ≡ reading name (Some (with_second one id other))
more_two name one id None h = elim (same_id one id) as (λ b. one_of name one (cond (not b) (Some id) None) ≡ one_of name one (if b then None else Some id)) [
  | true ↦ refl
  | false ↦ refl
]
more_two name one id (Some other) h =
    ap (λ b. one_of name one (cond b (Some other) (find (λ x. not (same_id one x)) (id ∷ []))))
    (and_right (same_name name other.name) (not (same_id one other)) (and_right (same_name name one.name) (is_other name one (Some other)) h))

-- The same where one more id is brought.
pub imported_more : (name : List ℕ) (o : Option Brought) (id : GlobalId) → IsRightFor name o → imported name (ids_kept o ++ id ∷ []) ≡ reading name (Some (kept_with o id))
imported_more name None id h = refl
imported_more name (Some b) id h = more_two name b.one id b.other h

second_right : (name : List ℕ) (one id : GlobalId) (other : Option GlobalId) → (same_name name one.name && is_other name one other) ≡ true → same_name name id.name ≡ true →
    is_right name (with_second one id other) ≡ true
second_right name one id (Some other) h s = h
second_right name one id None h s =
    and_both (same_name name one.name) (is_other name one (if same_id one id then None else Some id)) (and_left (same_name name one.name) true h) (by (same_id one id) refl)
  where
    by : (b : Bool) → same_id one id ≡ b → is_other name one (if b then None else Some id) ≡ true
    by true e = refl
    by false e = and_both (same_name name id.name) (not (same_id one id)) s (ap not e)

pub next_right : (name : List ℕ) (o : Option Brought) (id : GlobalId) → IsRightFor name o → same_name name id.name ≡ true → is_right name (kept_with o id) ≡ true
next_right name None id h s = and_both (same_name name id.name) true s refl
next_right name (Some b) id h s = second_right name b.one id b.other h s

pub found_right : (name : List ℕ) (es : List (Text × Brought)) → AreRight es → IsRightFor name (lookup (under name) es)
found_right name [] right = tt
found_right name (e ∷ es) right = by (found_right name es (and_right (is_right (rc_str_bytes e.0) e.1) (list_all (λ x. is_right (rc_str_bytes x.0) x.1) es) right)) (under name e.0) refl
  where
    by : IsRightFor name (lookup (under name) es) → (b : Bool) → under name e.0 ≡ b → IsRightFor name (cond b (Some e.1) (lookup (under name) es))
    by rest true s =
        subst (λ t. is_right t e.1 ≡ true) (sym (name_is name (rc_str_bytes e.0) s)) (and_left (is_right (rc_str_bytes e.0) e.1) (list_all (λ x. is_right (rc_str_bytes x.0) x.1) es) right)
    by rest false s = rest

pub put_right : (es : List (Text × Brought)) (key : Text) (v : Brought) → AreRight es → is_right (rc_str_bytes key) v ≡ true → AreRight (insert_entry same_text es key v)
put_right [] key v right h = and_both (is_right (rc_str_bytes key) v) true h refl
put_right (e ∷ es) key v right h = by (put_right es key v (and_right (is_right (rc_str_bytes e.0) e.1) (list_all (λ x. is_right (rc_str_bytes x.0) x.1) es) right) h) (same_text key e.0) refl
  where
    here : is_right (rc_str_bytes e.0) e.1 ≡ true
    here = and_left (is_right (rc_str_bytes e.0) e.1) (list_all (λ x. is_right (rc_str_bytes x.0) x.1) es) right

    left : AreRight es
    left = and_right (is_right (rc_str_bytes e.0) e.1) (list_all (λ x. is_right (rc_str_bytes x.0) x.1) es) right

    by : AreRight (insert_entry same_text es key v) → (b : Bool) → same_text key e.0 ≡ b → AreRight (if b then (e.0, v) ∷ es else e ∷ insert_entry same_text es key v)
    by rest true s = and_both (is_right (rc_str_bytes e.0) v) (list_all (λ x. is_right (rc_str_bytes x.0) x.1) es) (subst (λ t. is_right t v ≡ true) (name_is (rc_str_bytes key) (rc_str_bytes e.0) s) h) left
    by rest false s = and_both (is_right (rc_str_bytes e.0) e.1) (list_all (λ x. is_right (rc_str_bytes x.0) x.1) (insert_entry same_text es key v)) here rest

abbrev pub IsSound : List (Text × Brought) → Type 0
IsSound es = AreRight es × IsDistinct same_text (keys_of es)

pub read : (name : List ℕ) (es : List (Text × Brought)) → IsSound es → imported_of (ids_of es) name ≡ reading name (lookup (under name) es)
read name es sound = ap (imported name) (of_kept name es sound.0 sound.1) ∙ imported_kept name (lookup (under name) es) (found_right name es sound.0)

-- The table after what is kept of an id's name has become what it is with the id.
pub brings : (es new : List (Text × Brought)) (id : GlobalId) → IsSound es → IsSound new →
    lookup (under id.name) new ≡ Some (kept_with (lookup (under id.name) es) id) → ((other : List ℕ) → same_name other id.name ≡ false → lookup (under other) new ≡ lookup (under other) es) →
    Brings (ids_of es ++ id ∷ []) (ids_of new)
brings es new id sound sound' at keeps name =
    read name new sound' ∙ sym (ap (imported name) (filter-append (λ (x : GlobalId). same_name name x.name) (ids_of es) (id ∷ []) ∙ ap (λ l. l ++ of_name name (id ∷ [])) (of_kept name es sound.0 sound.1)) ∙ by (same_name name id.name) refl)
  where
    o : Option Brought
    o = lookup (under name) es

    right : IsRightFor name o
    right = found_right name es sound.0

    by : (b : Bool) → same_name name id.name ≡ b → imported name (ids_kept o ++ cond b (id ∷ []) []) ≡ reading name (lookup (under name) new)
    by true s =
        imported_more name o id right
        ∙ ap (λ t. reading name (Some (kept_with (lookup (under t) es) id))) (name_is name id.name s)
        ∙ ap (reading name) (sym at)
        ∙ ap (λ t. reading name (lookup (under t) new)) (sym (name_is name id.name s))
    by false s = ap (imported name) (append-nil (ids_kept o)) ∙ imported_kept name o right ∙ ap (reading name) (sym (keeps name s))

-- What is kept where nothing changes.
pub stays : (before : Option Brought) (id : GlobalId) (next : Option Brought) → IsNext before id next → next ≡ None → before ≡ Some (kept_with before id)
stays before id next h e = subst (IsNext before id) e h

pub changes : (before : Option Brought) (id : GlobalId) (next : Option Brought) (b : Brought) → IsNext before id next → next ≡ Some b → b ≡ kept_with before id
changes before id next b h e = subst (IsNext before id) e h
