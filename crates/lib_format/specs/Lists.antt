-- Lists: the count and the items. How an item is spelled, whether it may stand there and how it is read may depend on
-- the items before it.
use Rattle.std.specs.Prelude.{ℕ, zero, suc, ◌<◌, ◌^◌, List, [], ◌∷◌, ◌++◌, length, nat_lt}
use Rattle.cic_names.specs.Orders.{digits}
use Rattle.seg_format.specs.declared.faults.Defect.TheVariants.{Number}
use Rattle.term_format.specs.Reading.{Reading, value, and_then, if_right, read_number}

-- Items behind those before, one after another.
abbrev pub items_bytes : {A : Type 0} → (List A → A → List ℕ) → (before : List A) → List A → List ℕ
items_bytes spelling before [] = []
items_bytes spelling before (x ∷ xs) = spelling before x ++ items_bytes spelling (before ++ x ∷ []) xs

-- A list.
abbrev pub list_bytes : {A : Type 0} → (List A → A → List ℕ) → List A → List ℕ
list_bytes spelling xs = digits (length xs) ++ items_bytes spelling [] xs

-- Each item may stand behind those before it.
abbrev pub MayStand : {A : Type 0} → (List A → A → Type 0) → (before : List A) → List A → Type 0
MayStand May before [] = Unit {0}
MayStand May before (x ∷ xs) = May before x × MayStand May (before ++ x ∷ []) xs

-- A list that can be stored: fewer than 2^32 items, each of which may stand behind those before it.
pub record IsList {A : Type 0} (May : List A → A → Type 0) (xs : List A) : Type 0 where
  pub each : MayStand May [] xs
  pub few : length xs < 2 ^ 32

-- So many items behind those before.
abbrev pub read_items : {A : Type 0} → (List A → List ℕ → Reading A) → (before : List A) → (count : ℕ) → List ℕ → Reading (List A)
read_items read before zero bytes = value before bytes
read_items read before (suc count) bytes = and_then (read before bytes) (λ x rest. read_items read (before ++ x ∷ []) count rest)

-- A list.
unfoldable pub read_list : {A : Type 0} → (List A → List ℕ → Reading A) → List ℕ → Reading (List A)
read_list read bytes = and_then (read_number bytes) (λ count rest. read_items read [] count rest)

-- A list that is not empty.
unfoldable pub read_some : {A : Type 0} → (List A → List ℕ → Reading A) → List ℕ → Reading (List A)
read_some read bytes =
    and_then (read_number bytes) (λ count rest.
    if_right (nat_lt 0 count) Number bytes (read_items read [] count rest))
