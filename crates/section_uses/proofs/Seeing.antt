-- What is seen step by step.
use Rattle.std.proofs.Common.{◌≡◌, ◌||◌, if◌then◌else◌, List, [], ◌∷◌, ◌++◌, refl, sym, ap, ◌∙◌}
use Rattle.cic_names.specs.declared.name.GlobalId.{GlobalId}
use Rattle.section_terms.specs.Used.{is_in, with_those_of}
use Rattle.section_uses.specs.declared.seen.Seen.{Seen}
use Rattle.section_uses.specs.calls.Closing.{has, Sees}
use Rattle.section_uses.proofs.Membership.{or_assoc, or_swap, in_both, with_both, in_inserted}
use Rattle.section_uses.proofs.Noted.{names_end}

pub sees_both : (xs zs ys : List GlobalId) (a b c : Seen) → Sees xs a b → Sees zs b c → ys ≡ xs ++ zs → Sees ys a c
sees_both xs zs ys a b c first second e = λ id.
    second id ∙ ap (λ z. is_in id zs || z) (first id) ∙ or_swap (is_in id zs) (is_in id xs) (has a id)
    ∙ sym (or_assoc (is_in id xs) (is_in id zs) (has a id)) ∙ ap (λ z. z || has a id) (sym (in_both id xs zs) ∙ ap (is_in id) (sym e))

pub sees_one : (k : GlobalId) (a b : Seen) → b.ids.keys ≡ (if is_in k a.ids.keys then a.ids.keys else a.ids.keys ++ k ∷ []) → Sees (k ∷ []) a b
sees_one k a b e = λ id. ap (is_in id) e ∙ in_inserted (is_in k a.ids.keys) id k a.ids.keys refl

pub with_one_more : (over : GlobalId → List GlobalId) (xs : List GlobalId) (x : GlobalId) → with_those_of over (xs ++ x ∷ []) ≡ with_those_of over xs ++ (x ∷ over x)
with_one_more over xs x = with_both over xs (x ∷ []) ∙ ap (λ (zs : List GlobalId). with_those_of over xs ++ zs) (names_end (x ∷ over x))
