-- The ids of the first items, and of one more item.
use Rattle.std.proofs.Common.{◌≡◌, ℕ, zero, suc, ◌+◌, ◌<◌, ◌≤◌, List, [], ◌∷◌, ◌++◌, length, map, take, drop, All, refl, sym, ap, subst, ◌∙◌, arith, append_assoc, add-zero}
use Rattle.std.specs.Prelude.{slice_index_or, slice_get, Some}
use Rattle.std.proofs.lemmas.Option.{slice_get_within, get_or_from_slice_get}
use Rattle.std.proofs.lemmas.List.{append-nil, drop_more, length-map, map-append}
use Rattle.std.proofs.lemmas.List.Elements.{All-nil, All-cons, All-head, All-tail, All-append, All-weaker}
use Rattle.cic_rules.specs.Environment.{Environment, Item, axiom_of, transparent, opaque, inductive, declared, bare}
use Rattle.cic_env.specs.Items.{stripped, as_item, environment}
use Rattle.cic_env.specs.calls.Places.{Named, item_places, places_from, EndsBefore}
use Rattle.cic_env.specs.declared.item.Item.{Item as Kept}
use Rattle.cic_env.proofs.Lookups.{AllOf, places-of}

-- One more item.
pub places-append : (n : ℕ) (E : Environment) (item : Item) → places_from n (E ++ item ∷ []) ≡ places_from n E ++ item_places (n + length E) item
places-append n [] item = rw add-zero (append-nil (item_places n item))
places-append n (first ∷ E) item =
    let z : n + suc (length E) ≡ n + 1 + length E = omega arith in
    rw z (ap (λ (es : List Named). item_places n first ++ es) (places-append (n + 1) E item) ∙ sym (append_assoc (item_places n first) (places_from (n + 1) E) (item_places (n + 1 + length E) item)))

-- The table after one more item.
pub placed-more : (kept all : List Kept) (item : Kept) (place : ℕ) (old new : List Named) → old ≡ places_from 0 (environment kept) → place ≡ length kept →
    new ≡ old ++ item_places place (as_item item) → all ≡ kept ++ item ∷ [] → new ≡ places_from 0 (environment all)
placed-more kept all item place old new was at is more =
    let count : place ≡ 0 + length (environment kept) = omega (arith, at, length-map kept as_item) in
    is ∙ (λ i. was i ++ item_places (count i) (as_item item)) ∙ sym (places-append 0 (environment kept) (as_item item))
    ∙ ap (places_from 0) (sym (map-append as_item kept (item ∷ []))) ∙ ap (λ (l : List Kept). places_from 0 (environment l)) (sym more)

-- The ids do not depend on opaque bodies.
pub places-stripped : (n : ℕ) (E : Environment) → places_from n (map stripped E) ≡ places_from n E
places-stripped n [] = refl
places-stripped n (item ∷ E) = (λ i. same item i ++ places-stripped (n + 1) E i)
  where
    same : (item : Item) → item_places n (stripped item) ≡ item_places n item
    same (declared (axiom_of id type)) = refl
    same (declared (transparent id type body)) = refl
    same (declared (opaque id type body)) = refl
    same (declared (inductive block)) = refl
    same (bare block) = refl

-- The ids of the first items, and those of the others.
places-split : (n len : ℕ) (E : Environment) → places_from n E ≡ places_from n (take len E) ++ places_from (n + len) (drop len E)
places-split n zero E = rw add-zero refl
places-split n (suc len) [] = refl
places-split n (suc len) (item ∷ E) =
    let z : n + suc len ≡ n + 1 + len = omega arith in
    rw z (ap (λ (es : List Named). item_places n item ++ es) (places-split (n + 1) len E) ∙ sym (append_assoc (item_places n item) (places_from (n + 1) (take len E)) (places_from (n + 1 + len) (drop len E))))

abbrev pub IsFrom : ℕ → Named → Type 0
IsFrom n e = n ≤ e.1.item

abbrev pub IsBefore : ℕ → Named → Type 0
IsBefore n e = e.1.item < n

all-of_item : (P : Named → Type 0) (n : ℕ) (es : List Named) → AllOf n es → ((e : Named) → e.1.item ≡ n → P e) → All P es
all-of_item P n [] all f = All-nil P
all-of_item P n (e ∷ es) all f = All-cons P e es (f e all.0) (all-of_item P n es all.1 f)

all-from : (n : ℕ) (E : Environment) → All (IsFrom n) (places_from n E)
all-from n [] = All-nil (IsFrom n)
all-from n (item ∷ E) =
    All-append (IsFrom n) (item_places n item) (places_from (n + 1) E)
    (all-of_item (IsFrom n) n (item_places n item) (places-of n item) (λ e h. omega (arith, h)))
    (All-weaker (IsFrom (n + 1)) (IsFrom n) (λ e h. omega (arith, h)) (places_from (n + 1) E) (all-from (n + 1) E))

all-before : (n len : ℕ) (E : Environment) → All (IsBefore (n + len)) (places_from n (take len E))
all-before n zero E = All-nil (IsBefore (n + 0))
all-before n (suc len) [] = All-nil (IsBefore (n + suc len))
all-before n (suc len) (item ∷ E) =
    All-append (IsBefore (n + suc len)) (item_places n item) (places_from (n + 1) (take len E))
    (all-of_item (IsBefore (n + suc len)) n (item_places n item) (places-of n item) (λ e h. omega (arith, h)))
    (All-weaker (IsBefore (n + 1 + len)) (IsBefore (n + suc len)) (λ e h. omega (arith, h)) (places_from (n + 1) (take len E)) (all-before (n + 1) len E))

-- So many ids that those after them are of later items and the last of them is of an earlier one: the ids of the earlier items.
cut-at : (len : ℕ) (xs ys : List Named) (count : ℕ) → All (IsBefore len) xs → All (IsFrom len) ys → count ≤ length (xs ++ ys) →
    All (IsFrom len) (drop count (xs ++ ys)) → EndsBefore len (xs ++ ys) count → take count (xs ++ ys) ≡ xs
cut-at len [] ys zero before from within later last = refl
cut-at len [] [] (suc k) before from within later last = absurd (omega (arith, within))
cut-at len [] (y ∷ ys) (suc k) before from within later last = absurd (omega (arith, from k y (omega (arith, within)), last y))
cut-at len (x ∷ xs) ys zero before from within later last =
    absurd (omega (arith, All-head (IsBefore len) x xs before, All-head (IsFrom len) x (xs ++ ys) later))
cut-at len (x ∷ xs) ys (suc zero) before from within later last =
    ap (λ (es : List Named). x ∷ es) (cut-at len xs ys zero (All-tail (IsBefore len) x xs before) from (omega arith) later tt)
cut-at len (x ∷ xs) ys (suc (suc k)) before from within later last =
    ap (λ (es : List Named). x ∷ es) (cut-at len xs ys (suc k) (All-tail (IsBefore len) x xs before) from (omega (arith, within)) later (λ other. last other))

pub cut-places : (len count : ℕ) (es : List Named) (E : Environment) → es ≡ places_from 0 E → count ≤ length es →
    All (IsFrom len) (drop count es) → EndsBefore len es count → take count es ≡ places_from 0 (take len E)
cut-places len count es E e within later last =
    let z : 0 + len ≡ len = omega arith in
    let xs = places_from 0 (take len E) in
    let ys = places_from len (drop len E) in
    let parts : es ≡ xs ++ ys = e ∙ places-split 0 len E ∙ ap (λ m. xs ++ places_from m (drop len E)) z in
    ap (take count) parts ∙
    cut-at len xs ys count (subst (λ m. All (IsBefore m) xs) z (all-before 0 len E)) (all-from len (drop len E))
    (subst (λ (l : List Named). count ≤ length l) parts within)
    (subst (λ (l : List Named). All (IsFrom len) (drop count l)) parts later)
    (subst (λ (l : List Named). EndsBefore len l count) parts last)

-- One id fewer, of a later item.
pub later-more : (len k : ℕ) (es : List Named) → k < length es → ((other : Named) → len ≤ (slice_index_or es k other).1.item) →
    All (IsFrom len) (drop (suc k) es) → All (IsFrom len) (drop k es)
later-more len k [] within here later = absurd (omega (arith, within))
later-more len zero (e ∷ es) within here later = All-cons (IsFrom len) e es (here e) later
later-more len (suc k) (e ∷ es) within here later = later-more len k es (omega (arith, within)) here later

-- What is left of the ids after one of them is read.
pub left-get : (es : List Named) (i : ℕ) (e : Named) → Some e ≡ slice_get es i → drop i es ≡ e ∷ drop (i + 1) es
left-get es i e at =
    let within : i < length es = slice_get_within es i e (sym at) in
    drop_more es i e within ∙ ap (λ (x : Named). x ∷ drop (i + 1) es) (get_or_from_slice_get es i e e (sym at))
