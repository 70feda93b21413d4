-- Numbers, names, ids and levels: what is spelled is read, and what is read was spelled.
use Rattle.std.proofs.Common.{◌≡◌, ℕ, suc, ◌+◌, ◌*◌, ◌/◌, ◌%◌, ◌≤◌, ◌<◌, ◌^◌, List, [], ◌∷◌, ◌++◌, length, take, drop, Bool, true, false, refl, ap, sym, ◌∙◌, subst, arith, append_assoc, length-append}
use Rattle.std.specs.Prelude.{if◌then◌else◌, nat_le, nat_lt, ◌==◌}
use Rattle.std.proofs.lemmas.List.{take-append-drop, length-take-le}
use Rattle.std.proofs.Math.Seq.{drop-append_seam, take-append_seam}
use Rattle.std.proofs.lemmas.Bool.{leb-true, le-leb, lt-leb, eqb-true, eqb-false, ltb-false}
use Rattle.cic_names.specs.Identifier.{is_identifier}
use Rattle.cic_names.specs.declared.name.GlobalId.{GlobalId}
use Rattle.cic_names.specs.declared.level.Part.{Part}
use Rattle.cic_names.specs.declared.level.Part.TheVariants.{Declared, Visible, Proof}
use Rattle.cic_names.specs.declared.level.LevelName.{LevelName}
use Rattle.cic_names.specs.declared.level.Level.{Level}
use Rattle.cic_names.specs.declared.level.Level.TheVariants.{Set, Named}
use Rattle.cic_names.specs.Orders.{digits, name_bytes, part_byte, number_bytes, owner_bytes, named_bytes, level_bytes}
use Rattle.seg_format.specs.declared.faults.Defect.TheVariants.{Short, Number}
use Rattle.seg_format.specs.declared.faults.Defect.TheVariants.{Name as NoName}
use Rattle.term_format.specs.Spelling.{id_bytes}
use Rattle.term_format.specs.Storable.{IsName, IsId, IsPart, IsLevelName, IsLevel}
use Rattle.term_format.specs.Reading.{value, wrong, and_then, if_right, number_of, read_number, read_limited, read_name, read_id, is_part, read_part, read_named, named_of, read_level_name, read_level}
use Rattle.term_format.proofs.Bytes.{AreBytes, drop_are_bytes, Spelled, follows, right_of, same_of, moved, both, nothing, after_byte, case_on, both_true}

-- numbers
pub number_read : (n : ℕ) (rest : List ℕ) → n < 2 ^ 32 → read_number (digits n ++ rest) ≡ value n rest
unfolding number_of read_number
number_read n rest h =
    let e : n / 16777216 * 16777216 + n / 65536 % 256 * 65536 + n / 256 % 256 * 256 + n % 256 ≡ n = omega arith in
    ap (λ m. value m rest) e

digits_of : (a b c d n : ℕ) → a < 256 → b < 256 → c < 256 → d < 256 → n ≡ number_of a b c d → (a ∷ b ∷ c ∷ d ∷ [] ≡ digits n) × (n < 2 ^ 32)
unfolding number_of
digits_of a b c d n ha hb hc hd e =
    let ea : a ≡ n / 16777216 = omega arith in
    let eb : b ≡ n / 65536 % 256 = omega arith in
    let ec : c ≡ n / 256 % 256 = omega arith in
    let ed : d ≡ n % 256 = omega arith in
    (cc, omega arith)

pub number_spelled : (bytes : List ℕ) (n : ℕ) (rest : List ℕ) → AreBytes bytes → read_number bytes ≡ value n rest → Spelled (n < 2 ^ 32) (digits n) bytes rest
unfolding read_number
number_spelled [] n rest h e = absurd (cc)
number_spelled (a ∷ []) n rest h e = absurd (cc)
number_spelled (a ∷ b ∷ []) n rest h e = absurd (cc)
number_spelled (a ∷ b ∷ c ∷ []) n rest h e = absurd (cc)
number_spelled (a ∷ b ∷ c ∷ d ∷ more) n rest h e =
    let s = same_of e in
    let p = digits_of a b c d n h.0 h.1.0 h.1.1.0 h.1.1.1.0 (sym s.value_is) in
    record { ok = p.1; is = ap (λ xs. xs ++ more) p.0 ∙ ap (λ xs. digits n ++ xs) s.rest_is; left = subst AreBytes s.rest_is h.1.1.1.1 }

pub limited_read : (most n : ℕ) (rest : List ℕ) → n ≤ most → most < 2 ^ 32 → read_limited most (digits n ++ rest) ≡ value n rest
unfolding read_limited
limited_read most n rest h m =
    ap (λ r. and_then r (λ m rest'. if_right (nat_le m most) Number (digits n ++ rest) (value m rest'))) (number_read n rest (omega arith))
    ∙ ap (λ t. if_right t Number (digits n ++ rest) (value n rest)) (le-leb n most h)

pub limited_spelled : (most : ℕ) (bytes : List ℕ) (n : ℕ) (rest : List ℕ) → AreBytes bytes → read_limited most bytes ≡ value n rest → Spelled (n ≤ most) (digits n) bytes rest
unfolding read_limited
limited_spelled most bytes n rest h e =
    let f = follows (read_number bytes) (λ n rest. if_right (nat_le n most) Number bytes (value n rest)) n rest e in
    let r = right_of _ _ _ _ _ _ f.next in
    let s = same_of r.read in
    let p = number_spelled bytes f.first f.after h f.read in
    record {
      ok = subst (λ m. m ≤ most) s.value_is (leb-true f.first most r.holds);
      is = p.is ∙ (ap (λ m. digits m ++ f.after) s.value_is ∙ ap (λ xs. digits n ++ xs) s.rest_is);
      left = subst AreBytes s.rest_is p.left;
    }

-- names
pub name_read : (name rest : List ℕ) → IsName name → read_name (name_bytes name ++ rest) ≡ value name rest
unfolding read_name
name_read name rest h =
    let l : nat_lt (length (name ++ rest)) (length name) ≡ false = lt-leb (suc (length (name ++ rest))) (length name) (omega (arith, length-append name rest)) in
    rw (l, take-append_seam name rest, drop-append_seam name rest, h.0) refl

pub name_spelled : (bytes name rest : List ℕ) → AreBytes bytes → read_name bytes ≡ value name rest → Spelled (IsName name) (name_bytes name) bytes rest
unfolding read_name
name_spelled [] name rest h e = absurd (cc)
name_spelled (n ∷ more) name rest h e = by (nat_lt (length more) n) refl e
  where
    by : (t : Bool) → nat_lt (length more) n ≡ t → (if t then wrong Short 0 else if_right (is_identifier (take n more)) NoName (n ∷ more) (value (take n more) (drop n more))) ≡ value name rest → Spelled (IsName name) (name_bytes name) (n ∷ more) rest
    by true t e = absurd (cc)
    by false t e =
        let r = right_of _ _ _ _ _ _ e in
        let s = same_of r.read in
        let l : length (take n more) ≡ n = length-take-le n more (ltb-false (length more) n t) in
        let small : length (take n more) ≤ 255 = omega (arith, h.0) in
        let all : n ∷ more ≡ name_bytes (take n more) ++ drop n more = ap (λ k. k ∷ more) (sym l) ∙ ap (λ xs. length (take n more) ∷ xs) (sym (take-append-drop n more)) in
        moved IsName name_bytes s (record { ok = (r.holds, small); is = all; left = drop_are_bytes n more h.1 })

-- ids
pub id_read : (id : GlobalId) (rest : List ℕ) → IsId id → read_id (id_bytes id ++ rest) ≡ value id rest
unfolding read_id
id_read id rest h = rw (append_assoc, name_read id.lib (name_bytes id.name ++ rest) h.0, name_read id.name rest h.1) refl

pub id_spelled : (bytes : List ℕ) (id : GlobalId) (rest : List ℕ) → AreBytes bytes → read_id bytes ≡ value id rest → Spelled (IsId id) (id_bytes id) bytes rest
unfolding read_id
id_spelled bytes id rest h e =
    let f = follows (read_name bytes) (λ lib rest. and_then (read_name rest) (λ name rest. value (record { lib = lib; name = name }) rest)) id rest e in
    let g = follows (read_name f.after) (λ name rest. value (record { lib = f.first; name = name }) rest) id rest f.next in
    let a = name_spelled bytes f.first f.after h f.read in
    let b = name_spelled f.after g.first g.after a.left g.read in
    moved IsId id_bytes (same_of g.next) (both (λ x y. (x, y)) a b)

-- levels
pub part_read : (part : Part) (rest : List ℕ) → IsPart part → read_part (part_byte part) (number_bytes part ++ rest) ≡ value part rest
part_read Declared rest h = refl
part_read (Visible n) rest h = rw (number_read n rest h) refl
part_read (Proof n) rest h = rw (number_read n rest h) refl

pub part_byte_is_part : (part : Part) → is_part (part_byte part) ≡ true
part_byte_is_part Declared = refl
part_byte_is_part (Visible n) = refl
part_byte_is_part (Proof n) = refl

part_byte_not_0 : (part : Part) → (part_byte part == 0) ≡ false
part_byte_not_0 Declared = refl
part_byte_not_0 (Visible n) = refl
part_byte_not_0 (Proof n) = refl

pub record PartSpelled (part : Part) (tag : ℕ) (bytes rest : List ℕ) : Type 0 where
  pub tag_is : tag ≡ part_byte part
  pub spelled : Spelled (IsPart part) (number_bytes part) bytes rest

part_spelled : (tag : ℕ) (bytes : List ℕ) (part : Part) (rest : List ℕ) → is_part tag ≡ true → AreBytes bytes → read_part tag bytes ≡ value part rest → PartSpelled part tag bytes rest
part_spelled tag bytes part rest t h e =
    case_on (tag == 1) _ _ e
    (λ is e.
    let s = same_of e in
    let one = eqb-true tag 1 is in
    record { tag_is = one ∙ ap part_byte s.value_is; spelled = moved IsPart number_bytes s (nothing bytes h) })
    (λ not_1 e. case_on (tag == 2) _ _ e
    (λ is e.
    let f = follows (read_number bytes) (λ n rest. value (Visible n) rest) part rest e in
    let s = same_of f.next in
    let two = eqb-true tag 2 is in
    record { tag_is = two ∙ ap part_byte s.value_is; spelled = moved IsPart number_bytes s (number_spelled bytes f.first f.after h f.read) })
    (λ not_2 e.
    let f = follows (read_number bytes) (λ n rest. value (Proof n) rest) part rest e in
    let s = same_of f.next in
    let p = both_true (nat_le 1 tag) (nat_le tag 3) t in
    let low = leb-true 1 tag p.0 in
    let high = leb-true tag 3 p.1 in
    let n1 = eqb-false tag 1 not_1 in
    let n2 = eqb-false tag 2 not_2 in
    let three : tag ≡ 3 = omega (arith, low, high, n1, n2) in
    record { tag_is = three ∙ ap part_byte s.value_is; spelled = moved IsPart number_bytes s (number_spelled bytes f.first f.after h f.read) }))

pub named_read : (l : LevelName) (rest : List ℕ) → IsLevelName l → read_named (part_byte l.part) (named_bytes l ++ rest) ≡ value l rest
unfolding read_named
named_read l rest h =
    rw (
      append_assoc (name_bytes l.lib) (owner_bytes l) rest,
      name_read l.lib (owner_bytes l ++ rest) h.0,
      append_assoc (name_bytes l.owner) (number_bytes l.part) rest,
      name_read l.owner (number_bytes l.part ++ rest) h.1,
      part_read l.part rest h.2,
    ) refl

pub record NamedSpelled (l : LevelName) (tag : ℕ) (bytes rest : List ℕ) : Type 0 where
  pub tag_is : tag ≡ part_byte l.part
  pub spelled : Spelled (IsLevelName l) (named_bytes l) bytes rest

named_spelled : (tag : ℕ) (bytes : List ℕ) (l : LevelName) (rest : List ℕ) → is_part tag ≡ true → AreBytes bytes → read_named tag bytes ≡ value l rest → NamedSpelled l tag bytes rest
unfolding read_named
named_spelled tag bytes l rest t h e =
    let f = follows (read_name bytes) (λ lib rest. and_then (read_name rest) (λ owner rest. and_then (read_part tag rest) (λ part rest. value (record { lib = lib; owner = owner; part = part }) rest))) l rest e in
    let g = follows (read_name f.after) (λ owner rest. and_then (read_part tag rest) (λ part rest. value (record { lib = f.first; owner = owner; part = part }) rest)) l rest f.next in
    let k = follows (read_part tag g.after) (λ part rest. value (record { lib = f.first; owner = g.first; part = part }) rest) l rest g.next in
    let a = name_spelled bytes f.first f.after h f.read in
    let b = name_spelled f.after g.first g.after a.left g.read in
    let c = part_spelled tag g.after k.first k.after t b.left k.read in
    let s = same_of k.next in
    record {
      tag_is = c.tag_is ∙ ap (λ (l : LevelName). part_byte l.part) s.value_is;
      spelled = moved IsLevelName named_bytes s (both (λ x (y : IsName g.first × IsPart k.first). (x, y.0, y.1)) a (both (λ x y. (x, y)) b c.spelled));
    }

pub level_name_read : (l : LevelName) (rest : List ℕ) → IsLevelName l → read_level_name (part_byte l.part ∷ (named_bytes l ++ rest)) ≡ value l rest
unfolding read_level_name
level_name_read l rest h = rw (part_byte_is_part l.part, named_read l rest h) refl

pub level_name_spelled : (bytes : List ℕ) (l : LevelName) (rest : List ℕ) → AreBytes bytes → read_level_name bytes ≡ value l rest → Spelled (IsLevelName l) (part_byte l.part ∷ named_bytes l) bytes rest
unfolding read_level_name
level_name_spelled [] l rest h e = absurd (cc)
level_name_spelled (tag ∷ more) l rest h e =
    let r = right_of _ _ _ _ _ _ e in
    let n = named_spelled tag more l rest r.holds h.1 r.read in
    after_byte tag (part_byte l.part) n.tag_is n.spelled

pub level_read : (l : Level) (rest : List ℕ) → IsLevel l → read_level (level_bytes l ++ rest) ≡ value l rest
unfolding read_level
level_read Set rest h = refl
level_read (Named l) rest h = rw (part_byte_not_0 l.part, part_byte_is_part l.part, named_read l rest h) refl

pub level_spelled : (bytes : List ℕ) (l : Level) (rest : List ℕ) → AreBytes bytes → read_level bytes ≡ value l rest → Spelled (IsLevel l) (level_bytes l) bytes rest
unfolding read_level
level_spelled [] l rest h e = absurd (cc)
level_spelled (tag ∷ more) l rest h e =
    case_on (tag == 0) _ _ e
    (λ is e. moved IsLevel level_bytes (same_of e) (after_byte tag 0 (eqb-true tag 0 is) (nothing more h.1)))
    (λ not_0 e.
    let f = follows (named_of (tag ∷ more) tag more) (λ l rest. value (Named l) rest) l rest e in
    let r = right_of _ _ _ _ _ _ f.read in
    let n = named_spelled tag more f.first f.after r.holds h.1 r.read in
    moved IsLevel level_bytes (same_of f.next) (after_byte tag (part_byte f.first.part) n.tag_is n.spelled))
