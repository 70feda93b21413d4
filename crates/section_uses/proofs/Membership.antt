-- What is in lists of names.
use Rattle.std.proofs.Common.{◌≡◌, Bool, true, false, ◌||◌, if◌then◌else◌, List, [], ◌∷◌, ◌++◌, refl, sym, ap, ◌∙◌}
use Rattle.cic_names.specs.declared.name.GlobalId.{GlobalId}
use Rattle.cic_names.specs.Sameness.{same_id}
use Rattle.cic_names.proofs.Equality.{same_id_decides}
use Rattle.section_terms.specs.Hypotheses.{Hypothesis}
use Rattle.section_terms.specs.Used.{is_in, with_those_of, names_in_hypothesis, names_in_hypotheses}

pub or_assoc : (a b c : Bool) → ((a || b) || c) ≡ (a || (b || c))
or_assoc true b c = refl
or_assoc false b c = refl

pub or_none : (a : Bool) → (a || false) ≡ a
or_none true = refl
or_none false = refl

pub or_swap : (a b c : Bool) → (a || (b || c)) ≡ (b || (a || c))
or_swap true true c = refl
or_swap true false c = refl
or_swap false b c = refl

pub in_both : (id : GlobalId) (xs ys : List GlobalId) → is_in id (xs ++ ys) ≡ (is_in id xs || is_in id ys)
in_both id [] ys = refl
in_both id (x ∷ xs) ys = ap (λ b. same_id id x || b) (in_both id xs ys) ∙ sym (or_assoc (same_id id x) (is_in id xs) (is_in id ys))

pub with_both : (over : GlobalId → List GlobalId) (xs ys : List GlobalId) → with_those_of over (xs ++ ys) ≡ with_those_of over xs ++ with_those_of over ys
with_both over [] ys = refl
with_both over (x ∷ xs) ys =
    ap (λ (zs : List GlobalId). (x ∷ over x) ++ zs) (with_both over xs ys) ∙ joined (x ∷ over x) (with_those_of over xs) (with_those_of over ys)
  where
    joined : (as_ bs cs : List GlobalId) → as_ ++ (bs ++ cs) ≡ (as_ ++ bs) ++ cs
    joined [] bs cs = refl
    joined (a ∷ as_) bs cs = ap (λ (zs : List GlobalId). a ∷ zs) (joined as_ bs cs)

-- A name that is the same as one that is there is there.
pub same_in : (id k : GlobalId) (ks : List GlobalId) → is_in k ks ≡ true → is_in id ks ≡ (same_id id k || is_in id ks)
same_in id k ks there = go (same_id id k) refl
  where
    go : (b : Bool) → same_id id k ≡ b → is_in id ks ≡ (b || is_in id ks)
    go true e = ap (λ (x : GlobalId). is_in x ks) ((same_id_decides id k).0 e) ∙ there
    go false e = refl

pub in_inserted : (b : Bool) (id k : GlobalId) (ks : List GlobalId) → is_in k ks ≡ b → is_in id (if b then ks else ks ++ k ∷ []) ≡ ((same_id id k || false) || is_in id ks)
in_inserted true id k ks e = same_in id k ks e ∙ ap (λ b. b || is_in id ks) (sym (or_none (same_id id k)))
in_inserted false id k ks e = in_both id ks (k ∷ []) ∙ turned (is_in id ks) (same_id id k || false)
  where
    turned : (a b : Bool) → (a || b) ≡ (b || a)
    turned true true = refl
    turned true false = refl
    turned false true = refl
    turned false false = refl

-- One more hypothesis
pub sees_more : (over : GlobalId → List GlobalId) (id : GlobalId) (b : Bool) (h : Hypothesis) (uses : List Hypothesis) (names : List GlobalId) →
    (is_in id (if b then with_those_of over (names_in_hypothesis h) else []) || is_in id (with_those_of over (names ++ names_in_hypotheses uses)))
    ≡ is_in id (with_those_of over (names ++ names_in_hypotheses (if b then h ∷ uses else uses)))
sees_more over id true h uses names =
    let own : List GlobalId = names_in_hypothesis h in
    let rest : List GlobalId = names_in_hypotheses uses in
    ap (λ z. is_in id (with_those_of over own) || z) (split names rest)
    ∙ or_swap (is_in id (with_those_of over own)) (is_in id (with_those_of over names)) (is_in id (with_those_of over rest))
    ∙ ap (λ z. is_in id (with_those_of over names) || z) (sym (split own rest))
    ∙ sym (split names (own ++ rest))
  where
    split : (xs ys : List GlobalId) → is_in id (with_those_of over (xs ++ ys)) ≡ (is_in id (with_those_of over xs) || is_in id (with_those_of over ys))
    split xs ys = ap (is_in id) (with_both over xs ys) ∙ in_both id (with_those_of over xs) (with_those_of over ys)
sees_more over id false h uses names = refl
