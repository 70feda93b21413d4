-- The first pattern of branches, and the name of a value.
use Rattle.std.proofs.Common.{◌≡◌, ◌<◌, List, [], ◌∷◌, length, get_or, refl, sym, ap, ◌∙◌, arith}
use Rattle.std.specs.Prelude.{Some, None}
use Rattle.gal_grammar.specs.Terms as S
use Rattle.gal_raw.specs.Denotes.{tree, qualified, applied}
use Rattle.gal_raw.specs.calls.Lists.{branch_list}
use Rattle.gal_raw.specs.declared.terms.Branch.{Branch}
use Rattle.gal_raw.specs.declared.terms.Raw.{Raw}
use Rattle.gal_scoping.specs.Matches.{first_pattern, value_name}

stays : (b : S.Branches) (c d : S.Qual) (xs : List S.Binder) (t : S.Raw) → first_pattern b ≡ Some c → first_pattern (S.branch b d xs t) ≡ Some c
stays S.no_branches c d xs t e = absurd (let z : ⊥ = cc in z)
stays (S.branch b x ys u) c d xs t e = e

pub first_of_list : (b : S.Branches) (c : S.Qual) (xs : List Branch) → first_pattern b ≡ Some c → first_pattern (branch_list b xs) ≡ Some c
first_of_list b c [] e = e
first_of_list b c (x ∷ xs) e = first_of_list (S.branch b (qualified x.constructor) _ _) c xs (stays b c _ _ _ e)

pub first_at : (xs : List Branch) (d : Branch) → 0 < length xs → d ≡ get_or xs 0 d → first_pattern (branch_list S.no_branches xs) ≡ Some (qualified d.constructor)
first_at [] d h e = absurd (omega (arith, h))
first_at (x ∷ xs) d h e =
    first_of_list (S.branch S.no_branches (qualified x.constructor) _ _) (qualified x.constructor) xs refl ∙ ap (λ (b : Branch). Some (qualified b.constructor)) (sym e)

-- An application to arguments is no name.
applied_unnamed : (f u : S.Raw) (ts : List Raw) → value_name (applied (S.app f u) ts) None ≡ None
applied_unnamed f u [] = refl
applied_unnamed f u (t ∷ ts) = applied_unnamed (S.app f u) (tree t) ts

pub unnamed : (t x : S.Raw) (ts : List Raw) → t ≡ applied x ts → (length ts ≡ 0 → ⊥) → value_name t None ≡ None
unnamed t x [] e h = absurd (h refl)
unnamed t x (u ∷ ts) e h = ap (λ r. value_name r None) e ∙ applied_unnamed x (tree u) ts

-- An application to no arguments is what is applied.
pub as_head : (t x : S.Raw) (ts : List Raw) → t ≡ applied x ts → length ts ≡ 0 → value_name t None ≡ value_name x None
as_head t x [] e h = ap (λ r. value_name r None) e
as_head t x (u ∷ ts) e h = absurd (omega (arith, h))
