-- Functions of a fix as they are written, one after another.
use Rattle.std.proofs.Common.{◌≡◌, ℕ, suc, ◌+◌, List, [], ◌∷◌, ◌++◌, length, take, drop, refl, ap, sym, ◌∙◌, append_assoc, append-nil, length-append}
use Rattle.std.proofs.lemmas.List.{drop_at, take_at}
use Rattle.cic_names.specs.Orders.{digits}
use Rattle.cic_terms.specs.Tree.{Children, no_child, child, many, join}
use Rattle.cic_terms.specs.Denotes.{tree, terms, term_list, domain_count, body_parts, body_list, shape_list}
use Rattle.cic_terms.specs.declared.term.Term.{Term}
use Rattle.cic_terms.specs.declared.term.FixBody.{FixBody}
use Rattle.term_format.specs.Spelling.{joined, part_bytes, term_bytes, function_bytes}
use Rattle.term_format.specs.Storable.{HaveRows, FewDomains}
use Rattle.term_codec.specs.calls.Functions.{all_bytes, AreWritable}

parts_join : (a b : Children) → part_bytes (join a b) ≡ part_bytes a ++ part_bytes b
parts_join no_child b = refl
parts_join (child x t a) b = ap (λ xs. term_bytes t ∷ xs) (parts_join a b)

joined_append : (xs ys : List (List ℕ)) → joined (xs ++ ys) ≡ joined xs ++ joined ys
joined_append [] ys = refl
joined_append (x ∷ xs) ys = ap (λ z. x ++ z) (joined_append xs ys) ∙ sym (append_assoc x (joined xs) (joined ys))

pub count_terms : (above : ℕ) (ts : List Term) → length (part_bytes (term_list above ts)) ≡ length ts
count_terms above [] = refl
count_terms above (t ∷ ts) = ap suc (count_terms (above + 1) ts)

rows_front : (a b : Children) → HaveRows (join a b) → HaveRows a × HaveRows b
rows_front no_child b h = (tt, h)
rows_front (child x t a) b h = let r = rows_front a b h.1 in ((h.0, r.0), r.1)

pub shape_count : (bs : List FixBody) → length (shape_list bs) ≡ length bs
shape_count [] = refl
shape_count (b ∷ bs) = ap suc (shape_count bs)

one_function : (all : ℕ) (b : FixBody) → joined (part_bytes (body_parts all b)) ≡ joined (part_bytes (terms b.domains)) ++ (term_bytes (tree b.codomain) ++ term_bytes (tree b.body))
one_function all b =
    ap joined (parts_join (terms b.domains) _) ∙ (joined_append (part_bytes (terms b.domains)) (term_bytes (tree b.codomain) ∷ (term_bytes (tree b.body) ∷ []))
    ∙ ap (λ xs. joined (part_bytes (terms b.domains)) ++ (term_bytes (tree b.codomain) ++ xs)) (append-nil (term_bytes (tree b.body))))

pub functions_bytes : (all : ℕ) (bs : List FixBody) → function_bytes (shape_list bs) (part_bytes (body_list all bs)) ≡ all_bytes bs
functions_bytes all [] = refl
functions_bytes all (b ∷ bs) =
    let ps = part_bytes (body_parts all b) in
    let qs = part_bytes (body_list all bs) in
    let split : part_bytes (join (body_parts all b) (body_list all bs)) ≡ ps ++ qs = parts_join (body_parts all b) (body_list all bs) in
    let last : List (List ℕ) = term_bytes (tree b.codomain) ∷ (term_bytes (tree b.body) ∷ []) in
    let count : length ps ≡ domain_count b + 2 = ap length (parts_join (terms b.domains) _) ∙ (length-append (part_bytes (terms b.domains)) last ∙ ap (λ n. n + 2) (count_terms 0 b.domains.items.items)) in
    let taken : take (domain_count b + 2) (ps ++ qs) ≡ ps = take_at ps qs (domain_count b + 2) count in
    let dropped : drop (domain_count b + 2) (ps ++ qs) ≡ qs = drop_at ps qs (domain_count b + 2) count in
    let body = joined (part_bytes (terms b.domains)) ++ (term_bytes (tree b.codomain) ++ term_bytes (tree b.body)) in
    rw (split, taken, dropped, one_function all b, functions_bytes all bs)
    (ap (λ xs. digits b.k ++ xs) (sym (append_assoc (digits (domain_count b)) body (all_bytes bs))) ∙ sym (append_assoc (digits b.k) (digits (domain_count b) ++ body) (all_bytes bs)))

pub writable : (all : ℕ) (bs : List FixBody) → HaveRows (body_list all bs) → FewDomains (shape_list bs) → AreWritable bs
writable all [] h f = tt
writable all (b ∷ bs) h f =
    let r = rows_front (body_parts all b) (body_list all bs) h in
    let p = rows_front (terms b.domains) (child (many (domain_count b)) (tree b.codomain) (child (many (all + domain_count b)) (tree b.body) no_child)) r.0 in
    (record { few = f.0; domains = p.0; codomain = p.1.0; body = p.1.1.0 }, writable all bs r.1 f.1)
