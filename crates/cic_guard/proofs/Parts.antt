-- A walk over the parts of an inner Fix, one function after the other.
use Rattle.std.proofs.Common.{◌≡◌, ◌≢◌, ℕ, zero, suc, ◌+◌, List, [], ◌∷◌, ◌++◌, None, Option, Bool, true, false, length, get_or, replicate, refl, sym, ap, ap₂, ◌∙◌, add-one, arith}
use Rattle.cic_terms.specs.Tree.{Tree, Children, no_child, child, many, over, join}
use Rattle.cic_terms.specs.Denotes.{tree, terms, term_list, body_list, shape_list, domain_count}
use Rattle.cic_terms.specs.declared.term.Term.{Term}
use Rattle.cic_terms.specs.declared.term.FixBody.{FixBody}
use Rattle.cic_terms.proofs.Children.{join_assoc}
use Rattle.cic_rules.specs.Guard.{Mark, Marks, under_marks, under_plain}
use Rattle.cic_counted.specs.GuardTest.{passed, failed, fix_marks, marks_or_plain}
use Rattle.cic_guard.specs.declared.smaller.Guard.{Guard}
use Rattle.cic_guard.specs.calls.Guards.{places_of, recursive_of}
use Rattle.cic_guard.specs.calls.Walks.{End, flags, then_on, walk_of_body, walk_of_chosen, walk_of_parts, walk_of_term, walk_of_types, walked}
use Rattle.cic_guard.specs.declared.walking.WalkEnd.{WalkEnd}
use Rattle.cic_guard.specs.declared.walking.WalkEnd.TheVariants.{Passed, Failed}

-- A walk ends where nothing follows.
pub end_of_parts : (guard : Guard) (marks : Marks) (w : End guard) → then_on guard w (walk_of_parts guard marks no_child) ≡ w
end_of_parts guard marks (passed call) = refl
end_of_parts guard marks (failed call) = refl

-- A walk in three steps, of which the first two may be taken as one.
in_steps : (guard : Guard) (w : End guard) (f g h : ℕ → End guard) → ((call : ℕ) → h call ≡ then_on guard (f call) g) → then_on guard w h ≡ then_on guard (then_on guard w f) g
in_steps guard (passed call) f g h e = e call
in_steps guard (failed call) f g h e = refl

-- Domains that are gone over, and domains that are passed over.
chosen : (guard : Guard) (marks : Marks) (above n : ℕ) (ts : List Term) (flags : List Bool) (rest : Children) (call : ℕ) → length ts ≡ n →
    walk_of_chosen guard marks None (replicate n true ++ flags) (join (term_list above ts) rest) call
    ≡ then_on guard (walk_of_parts guard marks (term_list above ts) call) (walk_of_chosen guard marks None flags rest)
chosen guard marks above zero [] flags rest call e = refl
chosen guard marks above (suc n) [] flags rest call e = absurd (omega arith)
chosen guard marks above zero (t ∷ ts) flags rest call e = absurd (omega arith)
chosen guard marks above (suc n) (t ∷ ts) flags rest call e =
    in_steps guard (walk_of_term guard (under_plain (over (many above) 0) marks) [] (tree t) call)
    (walk_of_parts guard marks (term_list (above + 1) ts)) (walk_of_chosen guard marks None flags rest)
    (walk_of_chosen guard marks None (replicate n true ++ flags) (join (term_list (above + 1) ts) rest))
    (λ c. chosen guard marks (above + 1) n ts flags rest c (omega arith))

passed_over : (guard : Guard) (marks : Marks) (known : Option (List Mark)) (above n : ℕ) (ts : List Term) (flags : List Bool) (rest : Children) (call : ℕ) → length ts ≡ n →
    walk_of_chosen guard marks known (replicate n false ++ flags) (join (term_list above ts) rest) call ≡ walk_of_chosen guard marks known flags rest call
passed_over guard marks known above zero [] flags rest call e = refl
passed_over guard marks known above (suc n) [] flags rest call e = absurd (omega arith)
passed_over guard marks known above zero (t ∷ ts) flags rest call e = absurd (omega arith)
passed_over guard marks known above (suc n) (t ∷ ts) flags rest call e = passed_over guard marks known (above + 1) n ts flags rest call (omega arith)

-- Flags in a row, and one more.
flag_inside : (n : ℕ) (b : Bool) (flags : List Bool) → b ∷ (replicate n b ++ flags) ≡ replicate n b ++ b ∷ flags
flag_inside zero b flags = refl
flag_inside (suc n) b flags = ap (λ z. b ∷ z) (flag_inside n b flags)

one_flag_more : (n : ℕ) (b : Bool) (flags : List Bool) → replicate (n + 1) b ++ flags ≡ replicate n b ++ b ∷ flags
one_flag_more n b flags = ap (λ k. replicate k b ++ flags) (add-one n) ∙ flag_inside n b flags

-- No binder before others.
none_before : (n : ℕ) → 0 + n ≡ n
none_before n = omega arith

-- The parts of several functions begin with those of the first.
parts_of_first : (all : ℕ) (b : FixBody) (bs : List FixBody) →
    body_list all (b ∷ bs)
    ≡ join (terms b.domains) (child (many (domain_count b)) (tree b.codomain) (child (many (all + domain_count b)) (tree b.body) (body_list all bs)))
parts_of_first all b bs =
    join_assoc (terms b.domains) (child (many (domain_count b)) (tree b.codomain) (child (many (all + domain_count b)) (tree b.body) no_child)) (body_list all bs)

-- The walk over types begins with those of the first function, and that over bodies with its body.
pub first_types : (guard : Guard) (marks : Marks) (all : ℕ) (b : FixBody) (bs : List FixBody) (call : ℕ) →
    walk_of_chosen guard marks None (flags guard true false (shape_list (b ∷ bs))) (body_list all (b ∷ bs)) call
    ≡ then_on guard (walk_of_types guard marks b call) (walk_of_chosen guard marks None (flags guard true false (shape_list bs)) (body_list all bs))
first_types guard marks all b bs call =
    let n : ℕ = domain_count b in
    let others : List Bool = false ∷ flags guard true false (shape_list bs) in
    let rest : Children = child (many n) (tree b.codomain) (child (many (all + n)) (tree b.body) (body_list all bs)) in
    ap₂ (λ fs ks. walk_of_chosen guard marks None fs ks call) (one_flag_more n true others) (parts_of_first all b bs)
    ∙ chosen guard marks 0 n b.domains.items.items (true ∷ others) rest call refl
    ∙ in_steps guard (walk_of_parts guard marks (terms b.domains) call) (walk_of_term guard (under_plain n marks) [] (tree b.codomain))
    (walk_of_chosen guard marks None (flags guard true false (shape_list bs)) (body_list all bs))
    (walk_of_chosen guard marks None (true ∷ others) rest)
    (λ c. ap (λ k. then_on guard (walk_of_term guard (under_plain k marks) [] (tree b.codomain) c) (walk_of_chosen guard marks None (flags guard true false (shape_list bs)) (body_list all bs))) (none_before n))

pub first_body : (guard : Guard) (marks : Marks) (known : Option (List Mark)) (all : ℕ) (b : FixBody) (bs : List FixBody) (call : ℕ) →
    walk_of_chosen guard marks known (flags guard false true (shape_list (b ∷ bs))) (body_list all (b ∷ bs)) call
    ≡ then_on guard (walk_of_body guard marks all known b call) (walk_of_chosen guard marks known (flags guard false true (shape_list bs)) (body_list all bs))
first_body guard marks known all b bs call =
    let n : ℕ = domain_count b in
    let others : List Bool = true ∷ flags guard false true (shape_list bs) in
    let rest : Children = child (many n) (tree b.codomain) (child (many (all + n)) (tree b.body) (body_list all bs)) in
    ap₂ (λ fs ks. walk_of_chosen guard marks known fs ks call) (one_flag_more n false others) (parts_of_first all b bs)
    ∙ passed_over guard marks known 0 n b.domains.items.items (false ∷ others) rest call refl
    ∙ ap (λ k. then_on guard (walk_of_term guard (under_marks (marks_or_plain k known) marks) [] (tree b.body) call) (walk_of_chosen guard marks known (flags guard false true (shape_list bs)) (body_list all bs))) (none_before (all + n))

-- A walk that goes on behind one that was passed, and one that stops.
pub goes_on : (guard : Guard) (call : ℕ) (v : End guard) (next : ℕ → End guard) → passed call ≡ v → next call ≡ then_on guard v next
goes_on guard call v next e = ap (λ w. then_on guard w next) e

pub stops_there : (guard : Guard) (w : WalkEnd) (v : End guard) (next : ℕ → End guard) → ((call : ℕ) → w ≡ Passed call → ⊥) → walked guard w ≡ v → walked guard w ≡ then_on guard v next
stops_there guard (Passed call) v next never e = absurd (never call refl)
stops_there guard (Failed call) v next never e = ap (λ w. then_on guard w next) e

-- The walk over domains, in the middle of them.
domain_first : (guard : Guard) (marks : Marks) (i : ℕ) (t : Term) (now rest : List Term) (call : ℕ) → now ≡ t ∷ rest →
    walk_of_parts guard marks (term_list i now) call ≡ then_on guard (walk_of_term guard (under_plain i marks) [] (tree t) call) (walk_of_parts guard marks (term_list (i + 1) rest))
domain_first guard marks i t now rest call e =
    ap (λ ts. walk_of_parts guard marks (term_list i ts) call) e
    ∙ ap (λ k. then_on guard (walk_of_term guard (under_plain k marks) [] (tree t) call) (walk_of_parts guard marks (term_list (i + 1) rest))) (none_before i)

pub domain_stops : (guard : Guard) (marks : Marks) (i : ℕ) (t : Term) (now rest : List Term) (call : ℕ) (w : WalkEnd) (whole : End guard) → now ≡ t ∷ rest →
    ((next : ℕ) → w ≡ Passed next → ⊥) → walked guard w ≡ walk_of_term guard (under_plain i marks) [] (tree t) call → walk_of_parts guard marks (term_list i now) call ≡ whole → walked guard w ≡ whole
domain_stops guard marks i t now rest call w whole e never h inv =
    stops_there guard w _ (walk_of_parts guard marks (term_list (i + 1) rest)) never h ∙ sym (domain_first guard marks i t now rest call e) ∙ inv

pub domain_passed : (guard : Guard) (marks : Marks) (i : ℕ) (t : Term) (now rest : List Term) (call next : ℕ) (w : WalkEnd) (whole : End guard) → now ≡ t ∷ rest →
    w ≡ Passed next → walked guard w ≡ walk_of_term guard (under_plain i marks) [] (tree t) call → walk_of_parts guard marks (term_list i now) call ≡ whole → walk_of_parts guard marks (term_list (i + 1) rest) next ≡ whole
domain_passed guard marks i t now rest call next w whole e p h inv =
    goes_on guard next _ (walk_of_parts guard marks (term_list (i + 1) rest)) (sym (ap (walked guard) p) ∙ h) ∙ sym (domain_first guard marks i t now rest call e) ∙ inv

-- The walk over the types of functions, in the middle of them.
abbrev types_from : (guard : Guard) → Marks → ℕ → List FixBody → ℕ → End guard
types_from guard marks all bs = walk_of_chosen guard marks None (flags guard true false (shape_list bs)) (body_list all bs)

types_first : (guard : Guard) (marks : Marks) (all : ℕ) (b : FixBody) (now rest : List FixBody) (call : ℕ) → now ≡ b ∷ rest →
    types_from guard marks all now call ≡ then_on guard (walk_of_types guard marks b call) (types_from guard marks all rest)
types_first guard marks all b now rest call e = ap (λ bs. types_from guard marks all bs call) e ∙ first_types guard marks all b rest call

pub types_stop : (guard : Guard) (marks : Marks) (all : ℕ) (b : FixBody) (now rest : List FixBody) (call : ℕ) (w : WalkEnd) (whole : End guard) → now ≡ b ∷ rest →
    ((next : ℕ) → w ≡ Passed next → ⊥) → walked guard w ≡ walk_of_types guard marks b call → types_from guard marks all now call ≡ whole → walked guard w ≡ whole
types_stop guard marks all b now rest call w whole e never h inv =
    stops_there guard w _ (types_from guard marks all rest) never h ∙ sym (types_first guard marks all b now rest call e) ∙ inv

pub types_passed : (guard : Guard) (marks : Marks) (all : ℕ) (b : FixBody) (now rest : List FixBody) (call next : ℕ) (w : WalkEnd) (whole : End guard) → now ≡ b ∷ rest →
    w ≡ Passed next → walked guard w ≡ walk_of_types guard marks b call → types_from guard marks all now call ≡ whole → types_from guard marks all rest next ≡ whole
types_passed guard marks all b now rest call next w whole e p h inv =
    goes_on guard next _ (types_from guard marks all rest) (sym (ap (walked guard) p) ∙ h) ∙ sym (types_first guard marks all b now rest call e) ∙ inv

-- The walk over bodies, in the middle of them.
abbrev bodies_from : (guard : Guard) → Marks → ℕ → List FixBody → ℕ → End guard
bodies_from guard marks all bs = walk_of_chosen guard marks None (flags guard false true (shape_list bs)) (body_list all bs)

bodies_first : (guard : Guard) (marks : Marks) (all : ℕ) (b : FixBody) (now rest : List FixBody) (call : ℕ) → now ≡ b ∷ rest →
    bodies_from guard marks all now call ≡ then_on guard (walk_of_body guard marks all None b call) (bodies_from guard marks all rest)
bodies_first guard marks all b now rest call e = ap (λ bs. bodies_from guard marks all bs call) e ∙ first_body guard marks None all b rest call

pub bodies_stop : (guard : Guard) (marks : Marks) (all : ℕ) (b : FixBody) (now rest : List FixBody) (call : ℕ) (w : WalkEnd) (whole : End guard) → now ≡ b ∷ rest →
    ((next : ℕ) → w ≡ Passed next → ⊥) → walked guard w ≡ walk_of_body guard marks all None b call → bodies_from guard marks all now call ≡ whole → walked guard w ≡ whole
bodies_stop guard marks all b now rest call w whole e never h inv =
    stops_there guard w _ (bodies_from guard marks all rest) never h ∙ sym (bodies_first guard marks all b now rest call e) ∙ inv

pub bodies_passed : (guard : Guard) (marks : Marks) (all : ℕ) (b : FixBody) (now rest : List FixBody) (call next : ℕ) (w : WalkEnd) (whole : End guard) → now ≡ b ∷ rest →
    w ≡ Passed next → walked guard w ≡ walk_of_body guard marks all None b call → bodies_from guard marks all now call ≡ whole → bodies_from guard marks all rest next ≡ whole
bodies_passed guard marks all b now rest call next w whole e p h inv =
    goes_on guard next _ (bodies_from guard marks all rest) (sym (ap (walked guard) p) ∙ h) ∙ sym (bodies_first guard marks all b now rest call e) ∙ inv

-- The body of a single function, and several functions, of which no argument is known to be smaller.
end_of_chosen : (guard : Guard) (marks : Marks) (known : Option (List Mark)) (ending : List Bool) (w : End guard) → then_on guard w (walk_of_chosen guard marks known ending no_child) ≡ w
end_of_chosen guard marks known ending (passed call) = refl
end_of_chosen guard marks known ending (failed call) = refl

single : (bs : List FixBody) (b : FixBody) → length bs ≡ 1 → b ≡ get_or bs 0 b → bs ≡ b ∷ []
single [] b n e = absurd (omega arith)
single (x ∷ []) b n e = ap (λ z. z ∷ []) (sym e)
single (x ∷ y ∷ bs) b n e = absurd (omega arith)

abbrev pub fix_marks_of : (guard : Guard) → Marks → List Tree → List FixBody → Option (List Mark)
fix_marks_of guard marks us bs = fix_marks (recursive_of guard) (places_of guard) marks us (shape_list bs)

pub single_body : (guard : Guard) (marks : Marks) (us : List Tree) (bs : List FixBody) (b : FixBody) (call : ℕ) → length bs ≡ 1 → b ≡ get_or bs 0 b →
    walk_of_body guard marks 1 (fix_marks_of guard marks us (b ∷ [])) b call
    ≡ walk_of_chosen guard marks (fix_marks_of guard marks us bs) (flags guard false true (shape_list bs)) (body_list (length bs) bs) call
single_body guard marks us bs b call n e =
    sym (ap (λ l. walk_of_chosen guard marks (fix_marks_of guard marks us l) (flags guard false true (shape_list l)) (body_list (length l) l) call) (single bs b n e)
    ∙ first_body guard marks (fix_marks_of guard marks us (b ∷ [])) 1 b [] call
    ∙ end_of_chosen guard marks (fix_marks_of guard marks us (b ∷ [])) (flags guard false true []) (walk_of_body guard marks 1 (fix_marks_of guard marks us (b ∷ [])) b call))

pub several_without_marks : (guard : Guard) (marks : Marks) (us : List Tree) (bs : List FixBody) → length bs ≢ 1 → None ≡ fix_marks_of guard marks us bs
several_without_marks guard marks us [] n = refl
several_without_marks guard marks us (b ∷ []) n = absurd (n refl)
several_without_marks guard marks us (b ∷ c ∷ bs) n = refl
