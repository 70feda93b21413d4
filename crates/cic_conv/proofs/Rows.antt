-- Branches and functions that are compared one by one.
use Rattle.std.proofs.Common.{◌≡◌, ℕ, ◌+◌, ◌<◌, List, ◌∷◌, Option, length, map, drop, get_or, refl, ap, ap₂, sym, ◌∙◌}
use Rattle.std.proofs.lemmas.List.{drop_more}
use Rattle.std.proofs.Math.Nat.{zero-add}
use Rattle.cic_terms.specs.declared.term.Branch.{Branch}
use Rattle.cic_terms.specs.declared.term.FixBody.{FixBody}
use Rattle.cic_terms.specs.Denotes.{tree, branch_list}
use Rattle.cic_terms.specs.Tree.{Tree}
use Rattle.cic_rules.specs.Environment.{Context, under_unknown}
use Rattle.cic_rules.specs.Telescopes.{Function, function_type, function_types}
use Rattle.cic_counted.specs.Evaluation.{convert_bodies, convert_children, convert_each, fitting_body}
use Rattle.cic_counted.specs.Outcome.{Budget, Counted, Outcome, done, stops, follow, Stopped, give}
use Rattle.cic_spines.specs.Fixes.{function_of}
use Rattle.cic_work.proofs.Depths.{stops_on}
use Rattle.cic_work.specs.calls.Counting.{StopsFor}
use Rattle.cic_conv.specs.calls.Parts.{convert_body}

abbrev pub Compares : Type 0
Compares = Context → Tree → Tree → Counted (Unit {0})

-- What is left begins with the next item.
first_of_rest : {X : Type 0} (xs : List X) (i : ℕ) (x : X) → x ≡ get_or xs i x → i < length xs → drop i xs ≡ x ∷ drop (i + 1) xs
first_of_rest xs i x read h = drop_more xs i x h ∙ ap (λ y. y ∷ drop (i + 1) xs) (sym read)

pub next_branches : (C : Compares) (G : Context) (xs ys : List Branch) (i : ℕ) (x y : Branch) (b : Budget) →
    x ≡ get_or xs i x → y ≡ get_or ys i y → i < length xs → i < length ys →
    convert_children C G (branch_list (drop i xs)) (branch_list (drop i ys)) b
    ≡ follow (C (under_unknown x.binders G) (tree x.body) (tree y.body) b) (λ _. convert_children C G (branch_list (drop (i + 1) xs)) (branch_list (drop (i + 1) ys)))
next_branches C G xs ys i x y b e f h k =
    ap₂ (λ l m. convert_children C G (branch_list l) (branch_list m) b) (first_of_rest xs i x e h) (first_of_rest ys i y f k)
    ∙ ap (λ n. follow (C (under_unknown n G) (tree x.body) (tree y.body) b) (λ _. convert_children C G (branch_list (drop (i + 1) xs)) (branch_list (drop (i + 1) ys)))) (zero-add x.binders)

pub next_types : (C : Compares) (G : Context) (xs ys : List FixBody) (i : ℕ) (x y : FixBody) (b : Budget) →
    x ≡ get_or xs i x → y ≡ get_or ys i y → i < length xs → i < length ys →
    convert_each C G (function_types (map function_of (drop i xs))) (function_types (map function_of (drop i ys))) b
    ≡ follow (C G (function_type (function_of x)) (function_type (function_of y)) b)
    (λ _. convert_each C G (function_types (map function_of (drop (i + 1) xs))) (function_types (map function_of (drop (i + 1) ys))))
next_types C G xs ys i x y b e f h k =
    ap₂ (λ l m. convert_each C G (function_types (map function_of l)) (function_types (map function_of m)) b) (first_of_rest xs i x e h) (first_of_rest ys i y f k)

follow_follow : {A B D : Type 0} (o : Outcome A) (f : A → Counted B) (g : B → Counted D) → follow (follow o f) g ≡ follow o (λ a. λ b. follow (f a b) g)
follow_follow (done a b) f g = refl
follow_follow (stops s) f g = refl

-- Calls after three that follow one another, and after the three as one.
after_three : {A B D F : Type 0} (o : Outcome A) (p : Counted B) (q : A → B → Counted D) (r : Counted F) →
    follow o (λ a. λ b. follow (p b) (λ u. λ b'. follow (q a u b') (λ _. r))) ≡ follow (follow o (λ a. λ b. follow (p b) (q a))) (λ _. r)
after_three (done a b) p q r = sym (follow_follow (p b) (q a) (λ _. r))
after_three (stops s) p q r = refl

body_and_rest : (C : Compares) (G : Context) (n : ℕ) (f g : Function) (fs gs : List Function) (b : Budget) →
    convert_bodies C G n (f ∷ fs) (g ∷ gs) b ≡ follow (convert_body C G n f g b) (λ _. convert_bodies C G n fs gs)
body_and_rest C G n f g fs gs b = after_three (fitting_body n f b) (fitting_body n g) (C G) (convert_bodies C G n fs gs)

pub next_bodies : (C : Compares) (G : Context) (n : ℕ) (xs ys : List FixBody) (i : ℕ) (x y : FixBody) (b : Budget) →
    x ≡ get_or xs i x → y ≡ get_or ys i y → i < length xs → i < length ys →
    convert_bodies C G n (map function_of (drop i xs)) (map function_of (drop i ys)) b
    ≡ follow (convert_body C G n (function_of x) (function_of y) b) (λ _. convert_bodies C G n (map function_of (drop (i + 1) xs)) (map function_of (drop (i + 1) ys)))
next_bodies C G n xs ys i x y b e f h k =
    ap₂ (λ l m. convert_bodies C G n (map function_of l) (map function_of m) b) (first_of_rest xs i x e h) (first_of_rest ys i y f k)
    ∙ body_and_rest C G n (function_of x) (function_of y) (map function_of (drop (i + 1) xs)) (map function_of (drop (i + 1) ys)) b

-- After the next item: what is left of the whole, or the stop of the whole.
pub goes_on : {A B : Type 0} (o : Outcome A) (k : A → Counted B) (left whole : Outcome B) (a : A) (b : Budget) →
    left ≡ follow o k → left ≡ whole → o ≡ done a b → k a b ≡ whole
goes_on o k left whole a b e inv f = sym (ap (λ p. follow p k) f) ∙ sym e ∙ inv

pub stops_there : {A B : Type 0} (why : Option Stopped) (o : Outcome A) (k : A → Counted B) (left whole : Outcome B) →
    left ≡ follow o k → left ≡ whole → StopsFor why o → StopsFor why whole
stops_there why o k left whole e inv h = rw (sym inv ∙ e) (stops_on why o k h)

-- Nothing after the last part
pub no_more : (o : Outcome (Unit {0})) → follow o (λ _. give tt) ≡ o
no_more (done a b) = refl
no_more (stops s) = refl
