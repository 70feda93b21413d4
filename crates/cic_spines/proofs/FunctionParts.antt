-- The type and the full body of a function, as loops over its domains make them.
use Rattle.std.proofs.Common.{◌≡◌, ℕ, ◌+◌, ◌<◌, ◌≤◌, List, [], ◌∷◌, ◌++◌, length, map, take, drop, get_or, refl, sym, ap, ◌∙◌, arith, append_assoc}
use Rattle.std.proofs.lemmas.List.{map_more, map_push, drop_more, drop_all}
use Rattle.cic_terms.specs.declared.term.Term.{Term}
use Rattle.cic_terms.specs.Tree.{Tree, prod}
use Rattle.cic_terms.specs.Denotes.{tree}
use Rattle.cic_terms.specs.Lift.{lift_tree}
use Rattle.cic_terms.specs.Sizes.{Fits}
use Rattle.cic_rules.specs.Telescopes.{products, lift_domains}
use Rattle.cic_spines.specs.Several.{AllFit}

-- Products, the innermost first
products_last : (as_ : List Tree) (a t : Tree) → products (as_ ++ a ∷ []) t ≡ products as_ (prod a t)
products_last [] a t = refl
products_last (b ∷ as_) a t = ap (prod b) (products_last as_ a t)

one_product_more : (ds : List Term) (i : ℕ) (d : Term) (t : Tree) → i < length ds →
    products (map tree (take i ds)) (prod (tree (get_or ds i d)) t) ≡ products (map tree (take (i + 1) ds)) t
one_product_more ds i d t h =
    sym (ap (λ l. products l t) (map_more tree ds i d h) ∙ products_last (map tree (take i ds)) (tree (get_or ds i d)) t)

pub quantified_more : (ds : List Term) (i n : ℕ) (d : Term) (t t' whole : Tree) → d ≡ get_or ds n d → n + 1 ≡ i → i ≤ length ds → t' ≡ prod (tree d) t →
    products (map tree (take i ds)) t ≡ whole → products (map tree (take n ds)) t' ≡ whole
quantified_more ds i n d t t' whole read e h made inv =
    ap (products (map tree (take n ds))) (made ∙ ap (λ x. prod (tree x) t) read)
    ∙ one_product_more ds n d t (omega arith)
    ∙ ap (λ k. products (map tree (take k ds)) t) e
    ∙ inv

-- The domains that are left begin with the next one.
pub next_domain : (ds : List Term) (n all : ℕ) (d : Term) → d ≡ get_or ds n d → n < length ds →
    lift_domains n all (map tree (drop n ds)) ≡ lift_tree n all (tree d) ∷ lift_domains (n + 1) all (map tree (drop (n + 1) ds))
next_domain ds n all d read h =
    ap (λ l. lift_domains n all (map tree l)) (drop_more ds n d h)
    ∙ ap (λ x. lift_tree n all (tree x) ∷ lift_domains (n + 1) all (map tree (drop (n + 1) ds))) (sym read)

pub no_domain_left : (ds : List Term) (n all : ℕ) → length ds ≤ n → lift_domains n all (map tree (drop n ds)) ≡ []
no_domain_left ds n all h = ap (λ l. lift_domains n all (map tree l)) (drop_all n ds h)

-- One domain more is made.
pub made_more : (made made' : List Term) (t : Term) (want : Tree) (left left' whole : List Tree) → made' ≡ made ++ t ∷ [] → tree t ≡ want → left ≡ want ∷ left' →
    map tree made ++ left ≡ whole → map tree made' ++ left' ≡ whole
made_more made made' t want left left' whole e f g inv =
    ap (λ l. map tree l ++ left') e
    ∙ ap (λ l. l ++ left') (map_push tree made t)
    ∙ append_assoc (map tree made) (tree t ∷ []) left'
    ∙ ap (λ x. map tree made ++ x ∷ left') f
    ∙ ap (λ l. map tree made ++ l) (sym g)
    ∙ inv

pub fit_more : (want : Tree) (left left' : List Tree) → left ≡ want ∷ left' → Fits 4000 want → AllFit left' → AllFit left
fit_more want left left' e h r = rw e (h, r)

pub left_fit : (want : Tree) (left left' : List Tree) → left ≡ want ∷ left' → AllFit left → Fits 4000 want × AllFit left'
left_fit want left left' e h = rw e at h
