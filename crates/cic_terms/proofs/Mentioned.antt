-- An id stands in joined parts where it stands in one of the two.
use Rattle.std.proofs.Common.{◌≡◌, ◌↔◌, ◌⊎◌, inl, inr, ℕ, ◌+◌, List, [], ◌∷◌, length, ap, sym, subst}
use Rattle.cic_terms.specs.Tree.{Children, no_child, child, many, join}
use Rattle.cic_terms.specs.Mentions.{ChildrenMention}
use Rattle.cic_terms.specs.calls.Answer.{PartsMention}
use Rattle.cic_terms.specs.Denotes.{tree, bodies, body_list, body_parts, terms, domain_count}
use Rattle.cic_names.specs.declared.name.GlobalId.{GlobalId}
use Rattle.cic_terms.specs.declared.term.FixBody.{FixBody}
use Rattle.cic_terms.specs.declared.term.FixBodies.{FixBodies, out-FixBodies}
use Rattle.cic_terms.proofs.Rows.{bodies-out}

pub split : (id : GlobalId) (a b : Children) → ChildrenMention id (join a b) → ChildrenMention id a ⊎ ChildrenMention id b
split id no_child b h = inr h
split id (child n t ks) b (inl h) = inl (inl h)
split id (child n t ks) b (inr h) = elim (split id ks b h) [ inl k ↦ inl (inr k) | inr k ↦ inr k ]

pub left : (id : GlobalId) (a b : Children) → ChildrenMention id a → ChildrenMention id (join a b)
left id no_child b h = absurd h
left id (child n t ks) b (inl h) = inl h
left id (child n t ks) b (inr h) = inr (left id ks b h)

pub right : (id : GlobalId) (a b : Children) → ChildrenMention id b → ChildrenMention id (join a b)
right id no_child b h = h
right id (child n t ks) b h = inr (right id ks b h)

pub joined : (id : GlobalId) (a b : Children) → ChildrenMention id (join a b) ↔ (ChildrenMention id a ⊎ ChildrenMention id b)
joined id a b = (split id a b, λ h. elim h [ inl k ↦ left id a b k | inr k ↦ right id a b k ])

parts_any : (id : GlobalId) (m n : ℕ) (b : FixBody) → ChildrenMention id (body_parts m b) → ChildrenMention id (body_parts n b)
parts_any id m n b h =
    let rest : ℕ → Children = λ z. child (many (domain_count b)) (tree b.codomain) (child (many (z + domain_count b)) (tree b.body) no_child) in
    elim (split id (terms b.domains) (rest m) h) [ inl k ↦ left id (terms b.domains) (rest n) k | inr k ↦ right id (terms b.domains) (rest n) k ]

list_any : (id : GlobalId) (m n : ℕ) (bs : List FixBody) → ChildrenMention id (body_list m bs) → ChildrenMention id (body_list n bs)
list_any id m n [] h = h
list_any id m n (b ∷ bs) h =
    elim (split id (body_parts m b) (body_list m bs) h) [
      | inl k ↦ left id (body_parts n b) (body_list n bs) (parts_any id m n b k)
      | inr k ↦ right id (body_parts n b) (body_list n bs) (list_any id m n bs k)
    ]

pub bodies_mention_are : (id : GlobalId) (bs : FixBodies) (xs : List FixBody) → xs ≡ (out-FixBodies bs).items.items →
    ChildrenMention id (body_list 0 xs) ↔ ChildrenMention id (bodies bs)
bodies_mention_are id bs xs e =
    let ys = (out-FixBodies bs).items.items in (
      λ h. subst (ChildrenMention id) (sym (bodies-out bs)) (list_any id 0 (length ys) ys (subst (ChildrenMention id) (ap (body_list 0) e) h)),
      λ h. subst (ChildrenMention id) (ap (body_list 0) (sym e)) (list_any id (length ys) 0 ys (subst (ChildrenMention id) (bodies-out bs) h)),
    )

open_parts : (id : GlobalId) (n : ℕ) (b : FixBody) → ChildrenMention id (body_parts n b) → PartsMention id b
open_parts id n b h =
    elim (split id (terms b.domains) (child (many (domain_count b)) (tree b.codomain) (child (many (n + domain_count b)) (tree b.body) no_child)) h) [
      | inl k ↦ inl k
      | inr k ↦ inr (elim k [ inl u ↦ inl u | inr u ↦ inr (elim u [ inl v ↦ v | inr v ↦ absurd v ]) ])
    ]

close_parts : (id : GlobalId) (n : ℕ) (b : FixBody) → PartsMention id b → ChildrenMention id (body_parts n b)
close_parts id n b h =
    let rest = child (many (domain_count b)) (tree b.codomain) (child (many (n + domain_count b)) (tree b.body) no_child) in
    elim h [
      | inl k ↦ left id (terms b.domains) rest k
      | inr k ↦ right id (terms b.domains) rest (elim k [ inl u ↦ inl u | inr u ↦ inr (inl u) ])
    ]

pub mention_step : (id : GlobalId) (b : FixBody) (now rest : List FixBody) → now ≡ b ∷ rest →
    ChildrenMention id (body_list 0 now) ↔ (PartsMention id b ⊎ ChildrenMention id (body_list 0 rest))
mention_step id b now rest e = rw e (
  λ h. elim (split id (body_parts 0 b) (body_list 0 rest) h) [ inl k ↦ inl (open_parts id 0 b k) | inr k ↦ inr k ],
  λ h. elim h [ inl k ↦ left id (body_parts 0 b) (body_list 0 rest) (close_parts id 0 b k) | inr k ↦ right id (body_parts 0 b) (body_list 0 rest) k ],
)
