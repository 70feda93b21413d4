-- A function of a Fix under arguments, by whether it unfolds.
use Rattle.std.proofs.Common.{◌≡◌, ◌<◌, ◌≤◌, ℕ, zero, suc, Bool, true, false, true≢false, Option, Some, None, List, [], ◌∷◌, length, get_or, nat_eq, if◌then◌else◌, refl, ap, sym, ◌∙◌, arith}
use Rattle.std.specs.Option.{option_map}
use Rattle.std.specs.Prelude.{option_and_then}
use Rattle.cic_terms.specs.declared.term.FixBody.{FixBody}
use Rattle.cic_terms.specs.Denotes.{shape_list, body_list}
use Rattle.cic_terms.specs.Tree.{Shape, Tree, Children, app, fix}
use Rattle.cic_rules.specs.Environment.{element}
use Rattle.cic_rules.specs.Telescopes.{Function, function_parts, unfolded}
use Rattle.cic_counted.specs.Readings.{split_functions, trees_of}
use Rattle.cic_counted.specs.Sameness.{same_children}
use Rattle.cic_counted.specs.Outcome.{Budget, Counted, follow, done}
use Rattle.cic_counted.specs.Evaluation.{answer, fix_turn, recursive_turn, unfolded_at, unfolds}
use Rattle.cic_spines.proofs.FixParts.{unfolds_to, no_unfolding}
use Rattle.cic_eval.specs.calls.Turns.{is_there, the_tree}

pub unfolds_there : (whnf : Tree → Counted Tree) (f u : Tree) (o : Option Tree) (b : Budget) → is_there o ≡ true →
    fix_turn whnf f u o b ≡ follow (whnf u b) (λ v. recursive_turn f u v (the_tree o))
unfolds_there whnf f u None b h = absurd (true≢false (sym h))
unfolds_there whnf f u (Some F) b h = refl

pub unfolds_nowhere : (whnf : Tree → Counted Tree) (f u : Tree) (o : Option Tree) (b : Budget) → is_there o ≡ false →
    fix_turn whnf f u o b ≡ done (answer (app f u)) b
unfolds_nowhere whnf f u None b h = refl
unfolds_nowhere whnf f u (Some F) b h = absurd (true≢false h)

-- The recursive places of the functions are those of the shapes.
places : (ss : List Shape) (ts : List Tree) (i : ℕ) → option_map (λ f. f.recursive_place) (element (split_functions ss ts) i) ≡ option_map (λ s. s.k) (element ss i)
places [] ts i = refl
places (s ∷ ss) ts zero = refl
places (s ∷ ss) ts (suc i) = places ss _ i

place_of : (bs : List FixBody) (i : ℕ) (d : FixBody) → i < length bs → option_map (λ (s : Shape). s.k) (element (shape_list bs) i) ≡ Some (get_or bs i d).k
place_of [] i d h = absurd (omega arith)
place_of (b ∷ bs) zero d h = refl
place_of (b ∷ bs) (suc i) d h = place_of bs i d (omega arith)

is_there_if : (t : Bool) (w : Tree) → is_there (if t then Some w else None) ≡ t
is_there_if false w = refl
is_there_if true w = refl

one_there : (fs : List Function) (o : Option Function) (count k : ℕ) → option_map (λ (f : Function). f.recursive_place) o ≡ Some k → is_there (unfolded_at count fs o) ≡ nat_eq count k
one_there fs None count k h = grind arith
one_there fs (Some f) count k h =
    let e : f.recursive_place ≡ k = grind arith in
    is_there_if (nat_eq count f.recursive_place) (unfolded fs f) ∙ ap (nat_eq count) e

there : (test : Bool) (fs : List Function) (count i k : ℕ) (w : Tree) →
    option_and_then (λ fs. option_map (unfolded fs) (element fs i)) (if test then Some fs else None) ≡ Some w →
    option_map (λ (f : Function). f.recursive_place) (element fs i) ≡ Some k →
    is_there (option_and_then (λ fs. unfolded_at count fs (element fs i)) (if test then Some fs else None)) ≡ nat_eq count k
there false fs count i k w h e = grind arith
there true fs count i k w h e = one_there fs (element fs i) count k e

none_there : (fs : List Function) (o : Option Function) (count : ℕ) → option_map (unfolded fs) o ≡ None → is_there (unfolded_at count fs o) ≡ false
none_there fs None count h = refl
none_there fs (Some f) count h = grind arith

nowhere : (test : Bool) (fs : List Function) (count i : ℕ) →
    option_and_then (λ fs. option_map (unfolded fs) (element fs i)) (if test then Some fs else None) ≡ None →
    is_there (option_and_then (λ fs. unfolded_at count fs (element fs i)) (if test then Some fs else None)) ≡ false
nowhere false fs count i h = refl
nowhere true fs count i h = none_there fs (element fs i) count h

pub unfolds_by_place : (bs : List FixBody) (i : ℕ) (d : FixBody) (ss : List Shape) (ks : Children) (count : ℕ) →
    ss ≡ shape_list bs → ks ≡ body_list (length bs) bs → i < length bs → d ≡ get_or bs i d →
    is_there (unfolds count (fix i ss ks)) ≡ nat_eq count d.k
unfolds_by_place bs i d ss ks count e f h g =
    let fs : List Function = split_functions ss (trees_of ks) in
    there (same_children ks (function_parts (length fs) fs)) fs count i d.k _ (unfolds_to bs i d ss ks e f h)
    (places ss (trees_of ks) i ∙ ap (λ z. option_map (λ (s : Shape). s.k) (element z i)) e ∙ place_of bs i d h ∙ ap (λ (b : FixBody). Some b.k) (sym g))

pub unfolds_to_nothing : (bs : List FixBody) (i : ℕ) (ss : List Shape) (ks : Children) (count : ℕ) →
    ss ≡ shape_list bs → ks ≡ body_list (length bs) bs → length bs ≤ i → is_there (unfolds count (fix i ss ks)) ≡ false
unfolds_to_nothing bs i ss ks count e f h =
    let fs : List Function = split_functions ss (trees_of ks) in
    nowhere (same_children ks (function_parts (length fs) fs)) fs count i (no_unfolding bs i ss ks e f h)
