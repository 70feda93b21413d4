-- A declaration that may use what its body uses, or all, is never refused.
use Rattle.std.proofs.Common.{◌≡◌, Bool, true, false, ◌||◌, if◌then◌else◌, Option, Some, None, List, [], ◌∷◌, ◌++◌, ◌⊎◌, inl, inr, refl, sym, ap, ◌∙◌, true≢false}
use Rattle.cic_names.specs.declared.name.GlobalId.{GlobalId}
use Rattle.cic_names.specs.Sameness.{same_id}
use Rattle.cic_names.proofs.Equality.{same_id_decides}
use Rattle.cic_rules.specs.Environment.{Declaration}
use Rattle.section_terms.specs.Hypotheses.{Hypothesis, ids_of}
use Rattle.section_terms.specs.Used.{is_in, with_those_of, names_in_hypothesis, names_in_hypotheses, used, statement_names, body_names}
use Rattle.section_uses.proofs.Membership.{in_both, with_both}
use Rattle.section_core.specs.Sections.{Known, free, every, first_outside, undeclared}

or_left : (a b : Bool) → a ≡ true → (a || b) ≡ true
or_left true b e = refl
or_left false b e = absurd (true≢false (sym e))

or_right : (a b : Bool) → b ≡ true → (a || b) ≡ true
or_right true b e = refl
or_right false b e = e

or_cases : (a b : Bool) → (a || b) ≡ true → (a ≡ true) ⊎ (b ≡ true)
or_cases true b e = inl refl
or_cases false b e = inr e

abbrev Covers : (fewer more : GlobalId → Bool) → Type 0
Covers fewer more = (id : GlobalId) → fewer id ≡ true → more id ≡ true

module _ (over : GlobalId → List GlobalId) where
  -- Whether names, or what the constants among them are generalised over, have an id
  abbrev reach : List GlobalId → GlobalId → Bool
  reach names id = is_in id (with_those_of over names)

  reach_both : (xs ys : List GlobalId) (id : GlobalId) → reach (xs ++ ys) id ≡ (reach xs id || reach ys id)
  reach_both xs ys id = ap (is_in id) (with_both over xs ys) ∙ in_both id (with_those_of over xs) (with_those_of over ys)

  reach_left : (xs ys : List GlobalId) → Covers (reach xs) (reach (xs ++ ys))
  reach_left xs ys id e = reach_both xs ys id ∙ or_left (reach xs id) (reach ys id) e

  pub reach_right : (xs ys : List GlobalId) → Covers (reach ys) (reach (xs ++ ys))
  reach_right xs ys id e = reach_both xs ys id ∙ or_right (reach xs id) (reach ys id) e

  reach_cases : (xs ys : List GlobalId) (more : GlobalId → Bool) → Covers (reach xs) more → Covers (reach ys) more → Covers (reach (xs ++ ys)) more
  reach_cases xs ys more f g id e = elim (or_cases (reach xs id) (reach ys id) (sym (reach_both xs ys id) ∙ e)) [ inl x ↦ f id x | inr y ↦ g id y ]

  abbrev with_used : List GlobalId → List Hypothesis → List GlobalId
  with_used names uses = names ++ names_in_hypotheses uses

  -- More names use more hypotheses.
  pub record UsesMore (names names' : List GlobalId) (uses uses' : List Hypothesis) : Type 0 where
    pub ids : Covers (λ id. is_in id (ids_of uses)) (λ id. is_in id (ids_of uses'))
    pub reaches : Covers (reach (with_used names uses)) (reach (with_used names' uses'))

  past_one : (names : List GlobalId) (h : Hypothesis) (uses : List Hypothesis) → Covers (reach (with_used names uses)) (reach (with_used names (h ∷ uses)))
  past_one names h uses =
      reach_cases names (names_in_hypotheses uses) (reach (with_used names (h ∷ uses)))
      (reach_left names (names_in_hypothesis h ++ names_in_hypotheses uses))
      (λ id e. reach_right names (names_in_hypothesis h ++ names_in_hypotheses uses) id (reach_right (names_in_hypothesis h) (names_in_hypotheses uses) id e))

  uses_step : (names names' : List GlobalId) (h : Hypothesis) (uses uses' : List Hypothesis) (b b' : Bool) → Covers (reach names) (reach names') → (b ≡ true → b' ≡ true) →
      UsesMore names names' uses uses' → UsesMore names names' (if b then h ∷ uses else uses) (if b' then h ∷ uses' else uses')
  uses_step names names' h uses uses' true true r f more = record {
    ids = λ id e. elim (or_cases (same_id id h.id) (is_in id (ids_of uses)) e) [
      | inl x ↦ or_left (same_id id h.id) (is_in id (ids_of uses')) x
      | inr y ↦ or_right (same_id id h.id) (is_in id (ids_of uses')) (more.ids id y)
    ];
    reaches =
        let whole : List GlobalId = names_in_hypothesis h ++ names_in_hypotheses uses' in
        reach_cases names (names_in_hypothesis h ++ names_in_hypotheses uses) (reach (with_used names' (h ∷ uses')))
        (λ id e. reach_left names' whole id (r id e))
        (reach_cases (names_in_hypothesis h) (names_in_hypotheses uses) (reach (with_used names' (h ∷ uses')))
        (λ id e. reach_right names' whole id (reach_left (names_in_hypothesis h) (names_in_hypotheses uses') id e))
        (λ id e. past_one names' h uses' id (more.reaches id (reach_right names (names_in_hypotheses uses) id e))));
  }
  uses_step names names' h uses uses' false true r f more = record {
    ids = λ id e. or_right (same_id id h.id) (is_in id (ids_of uses')) (more.ids id e);
    reaches = λ id e. past_one names' h uses' id (more.reaches id e);
  }
  uses_step names names' h uses uses' true false r f more = absurd (true≢false (sym (f refl)))
  uses_step names names' h uses uses' false false r f more = more

  pub uses_more : (hs : List Hypothesis) (names names' : List GlobalId) → Covers (reach names) (reach names') → UsesMore names names' (used over hs names) (used over hs names')
  uses_more [] names names' r = record {
    ids = λ id e. e;
    reaches = reach_cases names [] (reach (names' ++ [])) (λ id e. reach_left names' [] id (r id e)) (λ id e. absurd (true≢false (sym e)));
  }
  uses_more (h ∷ later) names names' r =
      let more : UsesMore names names' (used over later names) (used over later names') = uses_more later names names' r in
      uses_step names names' h (used over later names) (used over later names')
      (reach (with_used names (used over later names)) h.id) (reach (with_used names' (used over later names')) h.id) r (more.reaches h.id) more

  -- What is used is among the hypotheses.
  within_step : (h : Hypothesis) (uses later : List Hypothesis) (b : Bool) → Covers (λ id. is_in id (ids_of uses)) (λ id. is_in id (ids_of later)) →
      Covers (λ id. is_in id (ids_of (if b then h ∷ uses else uses))) (λ id. is_in id (ids_of (h ∷ later)))
  within_step h uses later true f id e = elim (or_cases (same_id id h.id) (is_in id (ids_of uses)) e) [
    | inl x ↦ or_left (same_id id h.id) (is_in id (ids_of later)) x
    | inr y ↦ or_right (same_id id h.id) (is_in id (ids_of later)) (f id y)
  ]
  within_step h uses later false f id e = or_right (same_id id h.id) (is_in id (ids_of later)) (f id e)

  pub uses_within : (hs : List Hypothesis) (names : List GlobalId) → Covers (λ id. is_in id (ids_of (used over hs names))) (λ id. is_in id (ids_of hs))
  uses_within [] names = λ id e. e
  uses_within (h ∷ later) names = within_step h (used over later names) later (reach (with_used names (used over later names)) h.id) (uses_within later names)

-- None is outside ids that cover all.
none_outside : (ids : List GlobalId) (hs : List Hypothesis) → Covers (λ id. is_in id (ids_of hs)) (λ id. is_in id ids) → first_outside ids hs ≡ None
none_outside ids [] covers = refl
none_outside ids (h ∷ hs) covers =
    let here : is_in h.id ids ≡ true = covers h.id (or_left (same_id h.id h.id) (is_in h.id (ids_of hs)) ((same_id_decides h.id h.id).1 refl)) in
    let choice : Bool → Option Hypothesis = λ b. if b then first_outside ids hs else Some h in
    ap choice here ∙ none_outside ids hs (λ id e. covers id (or_right (same_id id h.id) (is_in id (ids_of hs)) e))

pub free_allowed : (k : Known) (d : Declaration) → undeclared k d free ≡ None
free_allowed k d =
    let more = uses_more k.over k.hypotheses (body_names d) (statement_names d ++ body_names d) (reach_right k.over (statement_names d) (body_names d)) in
    none_outside (ids_of (used k.over k.hypotheses (statement_names d ++ body_names d))) (used k.over k.hypotheses (body_names d)) more.ids

pub every_allowed : (k : Known) (d : Declaration) → undeclared k d every ≡ None
every_allowed k d = none_outside (ids_of k.hypotheses) (used k.over k.hypotheses (body_names d)) (uses_within k.over k.hypotheses (body_names d))
