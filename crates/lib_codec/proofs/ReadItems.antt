-- Lists, read item after item.
use Rattle.std.proofs.Common.{◌≡◌, ℕ, suc, ◌<◌, List, [], ◌∷◌, ◌++◌, ap, sym, ◌∙◌, arith}
use Rattle.std.specs.Prelude.{nat_lt}
use Rattle.std.proofs.lemmas.Bool.{le-leb}
use Rattle.seg_format.specs.declared.faults.Defect.TheVariants.{Number}
use Rattle.term_format.specs.Reading.{Reading, value, and_then, if_right, read_number}
use Rattle.term_codec.specs.declared.faults.Stop.{Stop}
use Rattle.term_codec.specs.calls.Answers.{Stops}
use Rattle.term_codec.proofs.Ends.{stops_on, stops_same}
use Rattle.lib_format.specs.Lists.{read_items, read_list, read_some}

-- One item more.
pub item_more : {A : Type 0} (read : List A → List ℕ → Reading A) (before after : List A) (m n : ℕ) (whole : Reading (List A)) (x : A) (bytes rest : List ℕ) (one : Reading A)
    → whole ≡ read_items read before n bytes → n ≡ suc m → read before bytes ≡ one → one ≡ value x rest → after ≡ before ++ x ∷ [] → whole ≡ read_items read after m rest
item_more read before after m n whole x bytes rest one h e o r a =
    h ∙ (ap (λ k. read_items read before k bytes) e ∙ (ap (λ y. and_then y (λ x rest. read_items read (before ++ x ∷ []) m rest)) (o ∙ r) ∙ ap (λ xs. read_items read xs m rest) (sym a)))

-- An item that stops stops the list.
pub item_stops : {A : Type 0} (size : ℕ) (read : List A → List ℕ → Reading A) (before : List A) (m n : ℕ) (whole : Reading (List A)) (bytes : List ℕ) (one : Reading A) (s : Stop)
    → whole ≡ read_items read before n bytes → n ≡ suc m → read before bytes ≡ one → Stops size one s → Stops size whole s
item_stops size read before m n whole bytes one s h e o st =
    stops_same size whole _ s (h ∙ ap (λ k. read_items read before k bytes) e) (stops_on size (read before bytes) _ s (stops_same size (read before bytes) one s o st))

-- No item is left.
pub items_end : {A : Type 0} (read : List A → List ℕ → Reading A) (before : List A) (n : ℕ) (whole : Reading (List A)) (bytes : List ℕ)
    → whole ≡ read_items read before n bytes → n ≡ 0 → whole ≡ value before bytes
items_end read before n whole bytes h e = h ∙ ap (λ k. read_items read before k bytes) e

-- The count, and what follows it.
pub list_begins : {A : Type 0} (read : List A → List ℕ → Reading A) (bytes : List ℕ) (count : ℕ) (rest : List ℕ) → read_number bytes ≡ value count rest → read_list read bytes ≡ read_items read [] count rest
unfolding read_list
list_begins read bytes count rest e = ap (λ r. and_then r (λ count rest. read_items read [] count rest)) e

pub some_count : (n : ℕ) → ¬ (n ≡ 0) → 0 < n
some_count n h = omega (arith, h)

pub some_begin : {A : Type 0} (read : List A → List ℕ → Reading A) (bytes : List ℕ) (count : ℕ) (rest : List ℕ) → 0 < count → read_number bytes ≡ value count rest → read_some read bytes ≡ read_items read [] count rest
unfolding read_some
some_begin read bytes count rest l e =
    ap (λ r. and_then r (λ count rest. if_right (nat_lt 0 count) Number bytes (read_items read [] count rest))) e
    ∙ ap (λ t. if_right t Number bytes (read_items read [] count rest)) (le-leb 1 count l)
