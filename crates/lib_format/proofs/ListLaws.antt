-- Lists: what is spelled is read, and what is read was spelled, where that holds of each item.
use Rattle.std.proofs.Common.{◌≡◌, ℕ, zero, suc, ◌<◌, ◌^◌, List, [], ◌∷◌, ◌++◌, length, refl, ap, sym, ◌∙◌, subst, append_assoc, append-nil}
use Rattle.std.specs.Prelude.{nat_lt}
use Rattle.std.proofs.lemmas.Bool.{le-leb, leb-true}
use Rattle.cic_names.specs.Orders.{digits}
use Rattle.seg_format.specs.declared.faults.Defect.TheVariants.{Number}
use Rattle.term_format.specs.Reading.{Reading, value, and_then, if_right, read_number}
use Rattle.term_format.proofs.Bytes.{AreBytes, Spelled, follows, right_of, same_of, both, nothing}
use Rattle.term_format.proofs.NameLaws.{number_read, number_spelled}
use Rattle.lib_format.specs.Lists.{items_bytes, list_bytes, MayStand, IsList, read_items, read_list, read_some}

module _ {A : Type 0} (spelling : List A → A → List ℕ) (May : List A → A → Type 0) (read : List A → List ℕ → Reading A) where
  -- What is spelled is read, of each item.
  abbrev pub ItemsAreRead : Type 0
  ItemsAreRead = (before : List A) (x : A) (rest : List ℕ) → May before x → read before (spelling before x ++ rest) ≡ value x rest

  -- What is read was spelled, of each item.
  abbrev pub ItemsAreSpelled : Type 0
  ItemsAreSpelled = (before : List A) (bytes : List ℕ) (x : A) (rest : List ℕ) → AreBytes bytes → read before bytes ≡ value x rest → Spelled (May before x) (spelling before x) bytes rest

  pub items_read : ItemsAreRead → (before xs : List A) (rest : List ℕ) → MayStand May before xs → read_items read before (length xs) (items_bytes spelling before xs ++ rest) ≡ value (before ++ xs) rest
  items_read h before [] rest m = ap (λ z. value z rest) (sym (append-nil before))
  items_read h before (x ∷ xs) rest m =
      let others = items_bytes spelling (before ++ x ∷ []) xs in
      let next : A → List ℕ → Reading (List A) = λ x rest. read_items read (before ++ x ∷ []) (length xs) rest in
      ap (λ b. and_then (read before b) next) (append_assoc (spelling before x) others rest)
      ∙ (ap (λ r. and_then r next) (h before x (others ++ rest) m.0)
      ∙ (items_read h (before ++ x ∷ []) xs rest m.1 ∙ ap (λ z. value z rest) (append_assoc before (x ∷ []) xs)))

  pub list_read : ItemsAreRead → (xs : List A) (rest : List ℕ) → IsList May xs → read_list read (list_bytes spelling xs ++ rest) ≡ value xs rest
  unfolding read_list
  list_read h xs rest m =
      let items = items_bytes spelling [] xs in
      let next : ℕ → List ℕ → Reading (List A) = λ count rest. read_items read [] count rest in
      ap (λ b. and_then (read_number b) next) (append_assoc (digits (length xs)) items rest)
      ∙ (ap (λ r. and_then r next) (number_read (length xs) (items ++ rest) m.few) ∙ items_read h [] xs rest m.each)

  pub some_read : ItemsAreRead → (xs : List A) (rest : List ℕ) → 0 < length xs → IsList May xs → read_some read (list_bytes spelling xs ++ rest) ≡ value xs rest
  unfolding read_some
  some_read h xs rest l m =
      let items = items_bytes spelling [] xs in
      let bytes = list_bytes spelling xs ++ rest in
      let next : ℕ → List ℕ → Reading (List A) = λ count rest. if_right (nat_lt 0 count) Number bytes (read_items read [] count rest) in
      ap (λ b. and_then (read_number b) next) (append_assoc (digits (length xs)) items rest)
      ∙ (ap (λ r. and_then r next) (number_read (length xs) (items ++ rest) m.few)
      ∙ (ap (λ t. if_right t Number bytes (read_items read [] (length xs) (items ++ rest))) (le-leb 1 (length xs) l) ∙ items_read h [] xs rest m.each))

  -- Items that were read behind those before.
  pub record ItemsSpelled (before : List A) (count : ℕ) (all : List A) (bytes rest : List ℕ) : Type 0 where
    pub items : List A
    pub all_are : all ≡ before ++ items
    pub count_is : length items ≡ count
    pub spelled : Spelled (MayStand May before items) (items_bytes spelling before items) bytes rest

  pub items_spelled : ItemsAreSpelled → (before : List A) (count : ℕ) (bytes : List ℕ) (all : List A) (rest : List ℕ) → AreBytes bytes → read_items read before count bytes ≡ value all rest → ItemsSpelled before count all bytes rest
  items_spelled h before zero bytes all rest a e =
      let s = same_of e in
      record {
        items = [];
        all_are = sym s.value_is ∙ sym (append-nil before);
        count_is = refl;
        spelled = subst (λ r. Spelled (Unit {0}) [] bytes r) s.rest_is (nothing bytes a);
      }
  items_spelled h before (suc count) bytes all rest a e =
      let f = follows (read before bytes) (λ x rest. read_items read (before ++ x ∷ []) count rest) all rest e in
      let p = h before bytes f.first f.after a f.read in
      let q = items_spelled h (before ++ f.first ∷ []) count f.after all rest p.left f.next in
      record {
        items = f.first ∷ q.items;
        all_are = q.all_are ∙ append_assoc before (f.first ∷ []) q.items;
        count_is = ap suc q.count_is;
        spelled = both (λ x y. (x, y)) p q.spelled;
      }

  list_of : (count : ℕ) (bytes after rest : List ℕ) (xs : List A) → Spelled (count < 2 ^ 32) (digits count) bytes after → ItemsSpelled [] count xs after rest → Spelled (IsList May xs) (list_bytes spelling xs) bytes rest
  list_of count bytes after rest xs p q =
      let made : Spelled (IsList May q.items) (digits count ++ items_bytes spelling [] q.items) bytes rest =
      both (λ few each. record { each = each; few = subst (λ n. n < 2 ^ 32) (sym q.count_is) few }) p q.spelled in
      subst (λ ys. Spelled (IsList May ys) (list_bytes spelling ys) bytes rest) (sym q.all_are)
      (subst (λ n. Spelled (IsList May q.items) (digits n ++ items_bytes spelling [] q.items) bytes rest) (sym q.count_is) made)

  pub list_spelled : ItemsAreSpelled → (bytes : List ℕ) (xs : List A) (rest : List ℕ) → AreBytes bytes → read_list read bytes ≡ value xs rest → Spelled (IsList May xs) (list_bytes spelling xs) bytes rest
  unfolding read_list
  list_spelled h bytes xs rest a e =
      let f = follows (read_number bytes) (λ count rest. read_items read [] count rest) xs rest e in
      let p = number_spelled bytes f.first f.after a f.read in
      list_of f.first bytes f.after rest xs p (items_spelled h [] f.first f.after xs rest p.left f.next)

  pub record SomeSpelled (xs : List A) (bytes rest : List ℕ) : Type 0 where
    pub some : 0 < length xs
    pub spelled : Spelled (IsList May xs) (list_bytes spelling xs) bytes rest

  pub some_spelled : ItemsAreSpelled → (bytes : List ℕ) (xs : List A) (rest : List ℕ) → AreBytes bytes → read_some read bytes ≡ value xs rest → SomeSpelled xs bytes rest
  unfolding read_some
  some_spelled h bytes xs rest a e =
      let f = follows (read_number bytes) (λ count rest. if_right (nat_lt 0 count) Number bytes (read_items read [] count rest)) xs rest e in
      let r = right_of _ _ _ _ _ _ f.next in
      let p = number_spelled bytes f.first f.after a f.read in
      let q = items_spelled h [] f.first f.after xs rest p.left r.read in
      let n : 0 < f.first = leb-true 1 f.first r.holds in
      record {
        some = subst (λ ys. 0 < length ys) (sym q.all_are) (subst (λ k. 0 < k) (sym q.count_is) n);
        spelled = list_of f.first bytes f.after rest xs p q;
      }

-- Three spellings, and more, one after another.
pub three : {A B C D : Type 0} {s t u bytes b c rest : List ℕ} → (A → B → C → D) → Spelled A s bytes b → Spelled B t b c → Spelled C u c rest → Spelled D (s ++ (t ++ u)) bytes rest
three {A} {B} {C} {D} f p q r = both {B = A → D} (λ a g. g a) p (both (λ b c a. f a b c) q r)

pub four : {A B C D E : Type 0} {s t u v bytes b c d rest : List ℕ} → (A → B → C → D → E) → Spelled A s bytes b → Spelled B t b c → Spelled C u c d → Spelled D v d rest → Spelled E (s ++ (t ++ (u ++ v))) bytes rest
four {A} {B} {C} {D} {E} f p q r x = both {B = A → E} (λ a g. g a) p (three (λ b c d a. f a b c d) q r x)

pub five : {A B C D E F : Type 0} {s t u v w bytes b c d e rest : List ℕ} → (A → B → C → D → E → F) → Spelled A s bytes b → Spelled B t b c → Spelled C u c d → Spelled D v d e → Spelled E w e rest → Spelled F (s ++ (t ++ (u ++ (v ++ w)))) bytes rest
five {A} {B} {C} {D} {E} {F} f p q r x y = both {B = A → F} (λ a g. g a) p (four (λ b c d e a. f a b c d e) q r x y)
