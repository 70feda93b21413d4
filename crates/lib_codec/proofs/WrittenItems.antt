-- Lists, written item after item.
use Rattle.std.proofs.Common.{◌≡◌, ℕ, List, [], ◌∷◌, ◌++◌, ap, sym, ◌∙◌, append_assoc, append-nil}
use Rattle.lib_format.specs.Lists.{items_bytes}

items_last : {A : Type 0} (spelling : List A → A → List ℕ) (before xs : List A) (x : A) → items_bytes spelling before (xs ++ x ∷ []) ≡ items_bytes spelling before xs ++ spelling (before ++ xs) x
items_last spelling before [] x = append-nil (spelling before x) ∙ ap (λ b. spelling b x) (sym (append-nil before))
items_last spelling before (y ∷ ys) x =
    let others = items_bytes spelling (before ++ y ∷ []) ys in
    ap (λ z. spelling before y ++ z) (items_last spelling (before ++ y ∷ []) ys x ∙ ap (λ b. others ++ spelling b x) (append_assoc before (y ∷ []) ys))
    ∙ sym (append_assoc (spelling before y) others (spelling (before ++ (y ∷ ys)) x))

-- One item more.
pub item_written : {A : Type 0} (spelling : List A → A → List ℕ) (old now after count : List ℕ) (xs ys : List A) (x : A)
    → now ≡ old ++ (count ++ items_bytes spelling [] xs) → after ≡ now ++ spelling xs x → ys ≡ xs ++ x ∷ [] → after ≡ old ++ (count ++ items_bytes spelling [] ys)
item_written spelling old now after count xs ys x n a e =
    let items = items_bytes spelling [] xs in
    a ∙ (ap (λ z. z ++ spelling xs x) n ∙ (append_assoc old (count ++ items) (spelling xs x) ∙ (ap (λ z. old ++ z) (append_assoc count items (spelling xs x))
    ∙ ap (λ z. old ++ (count ++ z)) (sym (items_last spelling [] xs x) ∙ ap (items_bytes spelling []) (sym e)))))
