-- Contexts under several entries, and the domains of products.
use Rattle.std.proofs.Common.{◌≡◌, ◌+◌, ◌<◌, ◌≤◌, ◌++◌, ℕ, zero, suc, List, [], ◌∷◌, length, take, drop, get_or, refl, sym, ap, ◌∙◌, arith}
use Rattle.std.specs.declared.rc.Rc.{Rc}
use Rattle.std.specs.declared.alloc.Global.{Global}
use Rattle.cic_terms.specs.declared.term.Term.{Term, Rel, Sort as SortTerm, Prod', Lam', Let', App', Prod, Const, Ind, Ctor, Case', Fix'}
use Rattle.cic_terms.specs.Denotes.{tree}
use Rattle.cic_terms.specs.Tree.{Tree, prod}
use Rattle.cic_rules.specs.Environment.{Context, assumed, under_unknown, unknown}
use Rattle.cic_rules.specs.Telescopes.{domains_of, extend}
use Rattle.cic_spines.specs.Lists.{shared_tree, shared_trees}

-- One entry fewer.
drop_none : (n : ℕ) (G : Context) → G ≡ [] → drop n G ≡ G
drop_none zero G e = refl
drop_none (suc n) [] e = refl
drop_none (suc n) (x ∷ G) e = grind arith

pub one_less : (n : ℕ) (G : Context) → drop 1 (drop n G) ≡ drop (n + 1) G
one_less zero G = refl
one_less (suc n) [] = sym (drop_none (suc n + 1) [] refl)
one_less (suc n) (e ∷ G) = let h : suc (n + 1) ≡ suc n + 1 = omega arith in one_less n G ∙ ap (λ k. drop k (e ∷ G)) h

-- The type that stands under all others is the innermost.
pub entered_last : (G : Context) (ts : List Tree) (t : Tree) → extend G (ts ++ t ∷ []) ≡ assumed t ∷ extend G ts
entered_last G [] t = refl
entered_last G (a ∷ ts) t = entered_last (assumed a ∷ G) ts t

-- One type more of a list is entered.
one_more_at : (G : Context) (xs : List (Rc Term Global)) (i m : ℕ) (d : Rc Term Global) → m ≡ i + 1 → i < length xs →
    assumed (shared_tree (get_or xs i d)) ∷ extend G (shared_trees (take i xs)) ≡ extend G (shared_trees (take m xs))
one_more_at G [] i m d e h = absurd (omega arith)
one_more_at G (x ∷ xs) zero zero d e h = absurd (omega arith)
one_more_at G (x ∷ xs) zero (suc zero) d e h = refl
one_more_at G (x ∷ xs) zero (suc (suc m)) d e h = absurd (omega arith)
one_more_at G (x ∷ xs) (suc i) zero d e h = absurd (omega arith)
one_more_at G (x ∷ xs) (suc i) (suc m) d e h = one_more_at (assumed (shared_tree x) ∷ G) xs i m d (omega arith) (omega arith)

pub one_more : (G : Context) (xs : List (Rc Term Global)) (i : ℕ) (d : Rc Term Global) → i < length xs →
    extend G (shared_trees (take (i + 1) xs)) ≡ assumed (shared_tree (get_or xs i d)) ∷ extend G (shared_trees (take i xs))
one_more G xs i d h = sym (one_more_at G xs i (i + 1) d refl h)

-- What was entered is taken away again.
pub drop_extended : (G : Context) (ts : List Tree) → drop (length ts) (extend G ts) ≡ G
drop_extended G [] = refl
drop_extended G (t ∷ ts) =
    let h : suc (length ts) ≡ length ts + 1 = omega arith in
    ap (λ n. drop n (extend (assumed t ∷ G) ts)) h
    ∙ sym (one_less (length ts) (extend (assumed t ∷ G) ts))
    ∙ ap (drop 1) (drop_extended (assumed t ∷ G) ts)

pub same_count : (xs : List (Rc Term Global)) → length (shared_trees xs) ≡ length xs
same_count [] = refl
same_count (x ∷ xs) = ap suc (same_count xs)

pub drop_entered : (G : Context) (xs : List (Rc Term Global)) → drop (length xs) (extend G (shared_trees xs)) ≡ G
drop_entered G xs = ap (λ n. drop n (extend G (shared_trees xs))) (sym (same_count xs)) ∙ drop_extended G (shared_trees xs)

count_taken : (i : ℕ) (xs : List (Rc Term Global)) → i ≤ length xs → length (take i xs) ≡ i
count_taken zero xs h = refl
count_taken (suc i) [] h = absurd (omega arith)
count_taken (suc i) (x ∷ xs) h = ap suc (count_taken i xs (omega arith))

pub drop_some : (G : Context) (xs : List (Rc Term Global)) (i : ℕ) → i ≤ length xs → drop i (extend G (shared_trees (take i xs))) ≡ G
drop_some G xs i h = ap (λ n. drop n (extend G (shared_trees (take i xs)))) (sym (count_taken i xs h)) ∙ drop_entered G (take i xs)

-- One entry of which nothing is known more.
unknown_at : (n m : ℕ) (G : Context) → m ≡ n + 1 → unknown ∷ under_unknown n G ≡ under_unknown m G
unknown_at n zero G e = absurd (omega (arith, e))
unknown_at n (suc m) G e = let h : n ≡ m = omega (arith, e) in ap (λ k. unknown ∷ under_unknown k G) h

pub one_more_unknown : (n : ℕ) (G : Context) → under_unknown (n + 1) G ≡ unknown ∷ under_unknown n G
one_more_unknown n G = sym (unknown_at n (n + 1) G refl)

pub drop_opened : (n : ℕ) (G : Context) → drop n (under_unknown n G) ≡ G
drop_opened zero G = refl
drop_opened (suc n) G = drop_opened n G

-- What is no product has no domains.
pub no_domains : (t : Term) → ((a b : Rc Term Global) → t ≡ Prod a b → ⊥) → domains_of (tree t) ≡ []
no_domains (Prod' p a q b) h = absurd (h (record { ptr = p.ptr; value = a }) (record { ptr = q.ptr; value = b }) refl)
no_domains (Rel n) h = refl
no_domains (SortTerm s) h = refl
no_domains (App' _ a _ b) h = refl
no_domains (Lam' _ a _ b) h = refl
no_domains (Let' _ t _ a _ b) h = refl
no_domains (Const id) h = refl
no_domains (Ind id) h = refl
no_domains (Ctor id) h = refl
no_domains (Case' n id _ p _ c _ bs) h = refl
no_domains (Fix' w _ bs) h = refl

-- The domains of a product, of which so many are taken.
pub next_taken : (n m : ℕ) (a b : Tree) → n ≡ m + 1 → take n (domains_of (prod a b)) ≡ a ∷ take m (domains_of b)
next_taken zero m a b e = absurd (omega arith)
next_taken (suc n) m a b e = let h : n ≡ m = omega arith in ap (λ k. a ∷ take k (domains_of b)) h

pub next_dropped : (n m : ℕ) (a b : Tree) → n ≡ m + 1 → drop n (domains_of (prod a b)) ≡ drop m (domains_of b)
next_dropped zero m a b e = absurd (omega arith)
next_dropped (suc n) m a b e = let h : n ≡ m = omega arith in ap (λ k. drop k (domains_of b)) h
