-- Counts after more levels are taken.
use Rattle.std.proofs.Common.{◌≡◌, ℕ, ◌+◌, Bool, true, false, cond, List, refl, sym, ap, ◌∙◌, if◌then◌else◌}
use Rattle.std.specs.Prelude.{Some, ◌&&◌}
use Rattle.std.specs.Map.{lookup}
use Rattle.std.proofs.Math.Bool.{beq}
use Rattle.cic_names.specs.Sameness.{same_name}
use Rattle.gal_scoping.specs.Levels.{Owner}
use Rattle.name_scope.specs.Counting.{count_or_none, part_count, with_more, count_in}
use Rattle.name_scope.specs.calls.Changes.{Takes}
use Rattle.name_scope.specs.declared.counts.Count.{Count}
use Rattle.name_scope.proofs.NameLaws.{name_is, same_turned, other_turned}

part_more : (asked opaque : Bool) (more : ℕ) (c : Count) → part_count asked (with_more opaque more c) ≡ (if beq asked opaque then part_count asked c + more else part_count asked c)
part_more true true more c = refl
part_more true false more c = refl
part_more false true more c = refl
part_more false false more c = refl

pub takes : (old new : List (List ℕ × Count)) (owner : Owner) (more : ℕ) →
    ((q : List ℕ) → lookup (same_name q) new ≡ cond (same_name owner.name q) (Some (with_more owner.opaque more (count_or_none (lookup (same_name owner.name) old)))) (lookup (same_name q) old)) →
    Takes owner more (count_in old) (count_in new)
takes old new owner more h other = by (same_name other.name owner.name) refl
  where
    v : Count
    v = with_more owner.opaque more (count_or_none (lookup (same_name owner.name) old))

    by : (b : Bool) → same_name other.name owner.name ≡ b →
        count_in new other ≡ (if b && beq other.opaque owner.opaque then count_in old other + more else count_in old other)
    by true s =
        ap (λ o. part_count other.opaque (count_or_none o)) (h other.name ∙ ap (λ b. cond b (Some v) (lookup (same_name other.name) old)) (same_turned other.name owner.name s))
        ∙ part_more other.opaque owner.opaque more (count_or_none (lookup (same_name owner.name) old))
        ∙ ap (λ n. if beq other.opaque owner.opaque then part_count other.opaque (count_or_none (lookup (same_name n) old)) + more else part_count other.opaque (count_or_none (lookup (same_name n) old)))
        (sym (name_is other.name owner.name s))
    by false s =
        ap (λ o. part_count other.opaque (count_or_none o)) (h other.name ∙ ap (λ b. cond b (Some v) (lookup (same_name other.name) old)) (other_turned other.name owner.name s))
