-- The branches of a match beside the constructors of its type.
use Rattle.std.proofs.Common.{◌≡◌, ◌+◌, ◌-◌, ◌<◌, ◌≤◌, ℕ, zero, suc, Bool, true, false, true≢false, List, [], ◌∷◌, length, map, drop, get_or, nat_eq, ◌&&◌, refl, sym, ap, ap₂, ◌∙◌, arith}
use Rattle.std.proofs.lemmas.Bool.{and_parts}
use Rattle.cic_terms.specs.declared.term.Branch.{Branch}
use Rattle.cic_terms.specs.Denotes.{branch_list, tree}
use Rattle.cic_terms.specs.Tree.{Tree, Children, no_child, child, Binders, over, many}
use Rattle.cic_rules.specs.Environment.{Context, ConstructorDeclaration}
use Rattle.cic_rules.specs.Telescopes.{domains_of, extend}
use Rattle.cic_counted.specs.Inference.{Calls, are_branches, branch_goal, check_branches}
use Rattle.cic_counted.specs.Outcome.{Budget, done, follow, fitting, fitting_all}
use Rattle.cic_counted.specs.Readings.{instantiate}
use Rattle.cic_env.specs.Declarations.{constructor_declaration}
use Rattle.cic_env.specs.declared.declaration.CtorDecl.{CtorDecl}
use Rattle.cic_typing.specs.calls.Matches.{check_branch}
use Rattle.cic_typing.proofs.Following.{follow_twice, follow_same}

false_and : (p q : Bool) → q ≡ false → (p && q) ≡ false
false_and true q e = e
false_and false q e = refl

pub other_count : (r : ℕ) (cs : List CtorDecl) (bs : List Branch) → ¬ (length cs ≡ length bs) → are_branches r (map constructor_declaration cs) (branch_list bs) ≡ false
other_count r [] [] h = absurd (h refl)
other_count r [] (b ∷ bs) h = refl
other_count r (c ∷ cs) [] h = refl
other_count r (c ∷ cs) (b ∷ bs) h =
    false_and (nat_eq (over (many b.binders) 0) (length (domains_of (tree c.ty)) - r)) _ (other_count r cs bs (λ e. h (ap suc e)))

pub as_many : (r : ℕ) (cs : List CtorDecl) (bs : List Branch) → are_branches r (map constructor_declaration cs) (branch_list bs) ≡ true → length cs ≡ length bs
as_many r [] [] h = refl
as_many r [] (b ∷ bs) h = absurd (true≢false (sym h))
as_many r (c ∷ cs) [] h = absurd (true≢false (sym h))
as_many r (c ∷ cs) (b ∷ bs) h =
    let p = and_parts (nat_eq (over (many b.binders) 0) (length (domains_of (tree c.ty)) - r)) (are_branches r (map constructor_declaration cs) (branch_list bs)) h in
    ap suc (as_many r cs bs p.1)

-- The check of a branch stands before that of the others.
pub branch_first : (calls : Calls) (G : Context) (a : ℕ) (us : List Tree) (p : Tree) (c : ConstructorDeclaration) (cs : List ConstructorDeclaration) (t : Tree) (n : Binders) (ks : Children) (o : Budget) →
    check_branches calls G a us p (c ∷ cs) (child n t ks) o ≡ follow (check_branch calls G a us p c t o) (λ _. check_branches calls G a us p cs ks)
branch_first calls G a us p c cs t n ks o =
    let as_ = fitting_all (domains_of (instantiate us c.type)) in
    let goal = fitting (branch_goal a us p c) in
    let rest = check_branches calls G a us p cs ks in
    sym (follow_twice (as_ o) (λ types. λ o1. follow (goal o1) (λ g. calls.check (extend G types) t g)) (λ _. rest)
    ∙ follow_same (as_ o) _ _ (λ types o1. follow_twice (goal o1) (λ g. calls.check (extend G types) t g) (λ _. rest)))

pub next_branch : (calls : Calls) (G : Context) (a i : ℕ) (us : List Tree) (p : Tree) (cs : List CtorDecl) (bs : List Branch) (c : CtorDecl) (b : Branch) (o : Budget) → i < length cs → i < length bs →
    check_branches calls G a us p (map constructor_declaration (drop i cs)) (branch_list (drop i bs)) o
    ≡ follow (check_branch calls G a us p (constructor_declaration (get_or cs i c)) (tree (get_or bs i b).body) o) (λ _. check_branches calls G a us p (map constructor_declaration (drop (i + 1) cs)) (branch_list (drop (i + 1) bs)))
next_branch calls G a zero us p [] bs c b o h k = absurd (omega arith)
next_branch calls G a zero us p (c' ∷ cs) [] c b o h k = absurd (omega arith)
next_branch calls G a zero us p (c' ∷ cs) (b' ∷ bs) c b o h k =
    branch_first calls G a us p (constructor_declaration c') (map constructor_declaration cs) (tree b'.body) (many b'.binders) (branch_list bs) o
next_branch calls G a (suc i) us p [] bs c b o h k = absurd (omega arith)
next_branch calls G a (suc i) us p (c' ∷ cs) [] c b o h k = absurd (omega arith)
next_branch calls G a (suc i) us p (c' ∷ cs) (b' ∷ bs) c b o h k =
    let e : suc i + 1 ≡ suc (i + 1) = omega arith in
    next_branch calls G a i us p cs bs c b o (omega arith) (omega arith)
    ∙ ap (λ n. follow (check_branch calls G a us p (constructor_declaration (get_or cs i c)) (tree (get_or bs i b).body) o) (λ _. check_branches calls G a us p (map constructor_declaration (drop n (c' ∷ cs))) (branch_list (drop n (b' ∷ bs))))) (sym e)

no_branch : (calls : Calls) (G : Context) (a : ℕ) (us : List Tree) (p : Tree) (cs : List ConstructorDeclaration) (o : Budget) → check_branches calls G a us p cs no_child o ≡ done tt o
no_branch calls G a us p [] o = refl
no_branch calls G a us p (c ∷ cs) o = refl

pub no_more : (calls : Calls) (G : Context) (a i : ℕ) (us : List Tree) (p : Tree) (cs : List CtorDecl) (bs : List Branch) (o : Budget) → length cs ≤ i →
    check_branches calls G a us p (map constructor_declaration (drop i cs)) (branch_list (drop i bs)) o ≡ done tt o
no_more calls G a zero us p [] bs o h = refl
no_more calls G a zero us p (c ∷ cs) bs o h = absurd (omega arith)
no_more calls G a (suc i) us p [] bs o h = refl
no_more calls G a (suc i) us p (c ∷ cs) [] o h = no_branch calls G a us p (map constructor_declaration (drop i cs)) o
no_more calls G a (suc i) us p (c ∷ cs) (b ∷ bs) o h = no_more calls G a i us p cs bs o (omega arith)

-- What is left from place i on begins with the branch there.
pub branch_turn : (calls : Calls) (G : Context) (a i : ℕ) (us : List Tree) (p : Tree) (cs : List CtorDecl) (bs : List Branch) (c : CtorDecl) (b : Branch) (o : Budget) → i < length cs → i < length bs →
    c ≡ get_or cs i c → b ≡ get_or bs i b →
    check_branches calls G a us p (map constructor_declaration (drop i cs)) (branch_list (drop i bs)) o
    ≡ follow (check_branch calls G a us p (constructor_declaration c) (tree b.body) o) (λ _. check_branches calls G a us p (map constructor_declaration (drop (i + 1) cs)) (branch_list (drop (i + 1) bs)))
branch_turn calls G a i us p cs bs c b o h k e f =
    next_branch calls G a i us p cs bs c b o h k
    ∙ ap₂ (λ c1 b1. follow (check_branch calls G a us p (constructor_declaration c1) (tree b1.body) o) (λ _. check_branches calls G a us p (map constructor_declaration (drop (i + 1) cs)) (branch_list (drop (i + 1) bs)))) (sym e) (sym f)
