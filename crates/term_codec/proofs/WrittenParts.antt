-- Matches and fixes, written part after part.
use Rattle.std.proofs.Common.{◌≡◌, ℕ, suc, ◌+◌, ◌≤◌, ◌<◌, List, [], ◌∷◌, ◌++◌, length, max, refl, ap, sym, ◌∙◌, subst, arith, append_assoc}
use Rattle.std.specs.Prelude.{Result, Ok, Err, OnOk}
use Rattle.cic_names.specs.Orders.{digits}
use Rattle.cic_names.specs.declared.name.GlobalId.{GlobalId}
use Rattle.cic_terms.specs.Tree.{Shape, Tree, Children, no_child, child, many, case, fix}
use Rattle.cic_terms.specs.Sizes.{depth_tree, depth_children}
use Rattle.cic_terms.specs.Denotes.{tree, terms, term_list, branch_list, body_parts, body_list, shape_list, domain_count}
use Rattle.cic_terms.specs.declared.term.Term.{Term}
use Rattle.cic_terms.specs.declared.term.Terms.{Terms}
use Rattle.cic_terms.specs.declared.term.Branch.{Branch}
use Rattle.cic_terms.specs.declared.term.FixBody.{FixBody}
use Rattle.cic_terms.proofs.Children.{depth_join}
use Rattle.term_format.specs.Spelling.{joined, id_bytes, part_bytes, term_bytes, branch_bytes, count_of}
use Rattle.term_codec.specs.calls.Functions.{one_bytes, all_bytes, Writable, AreWritable}
use Rattle.term_codec.proofs.Written.{count_terms, functions_bytes, shape_count}

pub on_ok : {A E P Q : Type 0} (r : Result A E) → (P → Q) → OnOk r P → OnOk r Q
on_ok (Ok a) f h = f h
on_ok (Err e) f h = h

pub count_list : (bs : List Branch) → count_of (branch_list bs) ≡ length bs
count_list [] = refl
count_list (b ∷ bs) = ap suc (count_list bs)

pub case_depth : (id : GlobalId) (n : ℕ) (p c : Tree) (bs ks : Children) → bs ≡ ks → depth_children ks < depth_tree (case id n p c bs)
case_depth id n p c bs ks e = subst (λ k. depth_children k < depth_tree (case id n p c bs)) e (omega arith)

pub case_written : (old b1 b2 b3 b4 b5 : List ℕ) (id : GlobalId) (arity : ℕ) (p p' c c' : Tree) (bs ks : Children) (n : ℕ) → p ≡ p' → c ≡ c' → bs ≡ ks → count_of ks ≡ n
    → b1 ≡ old ++ 11 ∷ id_bytes id → b2 ≡ b1 ++ digits arity → b3 ≡ b2 ++ term_bytes p → b4 ≡ b3 ++ term_bytes c → b5 ≡ b4 ++ (digits n ++ branch_bytes ks)
    → b5 ≡ old ++ term_bytes (case id arity p' c' bs)
case_written old b1 b2 b3 b4 b5 id arity p p' c c' bs ks n ep ec eb en e1 e2 e3 e4 e5 =
    let x4 = digits n ++ branch_bytes ks in
    let x3 = term_bytes c ++ x4 in
    let x2 = term_bytes p ++ x3 in
    let x1 = digits arity ++ x2 in
    let s4 : b5 ≡ b3 ++ x3 = e5 ∙ (ap (λ z. z ++ x4) e4 ∙ append_assoc b3 (term_bytes c) x4) in
    let s3 : b5 ≡ b2 ++ x2 = s4 ∙ (ap (λ z. z ++ x3) e3 ∙ append_assoc b2 (term_bytes p) x3) in
    let s2 : b5 ≡ b1 ++ x1 = s3 ∙ (ap (λ z. z ++ x2) e2 ∙ append_assoc b1 (digits arity) x2) in
    let s1 : b5 ≡ old ++ (11 ∷ (id_bytes id ++ x1)) = s2 ∙ (ap (λ z. z ++ x1) e1 ∙ append_assoc old (11 ∷ id_bytes id) x1) in
    let all : 11 ∷ (id_bytes id ++ x1) ≡ term_bytes (case id arity p c ks) = ap (λ m. 11 ∷ (id_bytes id ++ (digits arity ++ (term_bytes p ++ (term_bytes c ++ (digits m ++ branch_bytes ks)))))) (sym en) in
    s1 ∙ (ap (λ z. old ++ z) all ∙ (ap (λ z. old ++ term_bytes (case id arity z c ks)) ep ∙ (ap (λ z. old ++ term_bytes (case id arity p' z ks)) ec ∙ ap (λ z. old ++ term_bytes (case id arity p' c' z)) (sym eb))))

pub fix_written : (old b1 b2 b3 b4 : List ℕ) (which : ℕ) (shapes : List Shape) (parts : Children) (items : List FixBody) → shapes ≡ shape_list items → parts ≡ body_list (length items) items
    → b1 ≡ old ++ 12 ∷ [] → b2 ≡ b1 ++ digits which → b3 ≡ b2 ++ digits (length items) → b4 ≡ b3 ++ all_bytes items
    → b4 ≡ old ++ term_bytes (fix which shapes parts)
fix_written old b1 b2 b3 b4 which shapes parts items es ep e1 e2 e3 e4 =
    let x3 = all_bytes items in
    let x2 = digits (length items) ++ x3 in
    let x1 = digits which ++ x2 in
    let s3 : b4 ≡ b2 ++ x2 = e4 ∙ (ap (λ z. z ++ x3) e3 ∙ append_assoc b2 (digits (length items)) x3) in
    let s2 : b4 ≡ b1 ++ x1 = s3 ∙ (ap (λ z. z ++ x2) e2 ∙ append_assoc b1 (digits which) x2) in
    let s1 : b4 ≡ old ++ (12 ∷ x1) = s2 ∙ (ap (λ z. z ++ x1) e1 ∙ append_assoc old (12 ∷ []) x1) in
    let n : length items ≡ length (shape_list items) = sym (shape_count items) in
    let all : 12 ∷ x1 ≡ term_bytes (fix which (shape_list items) (body_list (length items) items)) =
    ap (λ m. 12 ∷ (digits which ++ (digits m ++ all_bytes items))) n
    ∙ ap (λ z. 12 ∷ (digits which ++ (digits (length (shape_list items)) ++ z))) (sym (functions_bytes (length items) items)) in
    s1 ∙ (ap (λ z. old ++ z) all ∙ (ap (λ z. old ++ term_bytes (fix which z (body_list (length items) items))) (sym es) ∙ ap (λ z. old ++ term_bytes (fix which shapes z)) (sym ep)))

pub same_count : (ds : Terms) (xs : List Term) → terms ds ≡ term_list 0 xs → length ds.items.items ≡ length xs
same_count ds xs e = sym (count_terms 0 ds.items.items) ∙ (ap (λ k. length (part_bytes k)) e ∙ count_terms 0 xs)

pub function_written : (old b1 b2 b3 b4 b5 : List ℕ) (one : FixBody) (xs : List Term) → terms one.domains ≡ term_list 0 xs
    → b1 ≡ old ++ digits one.k → b2 ≡ b1 ++ digits (length xs) → b3 ≡ b2 ++ joined (part_bytes (term_list 0 xs)) → b4 ≡ b3 ++ term_bytes (tree one.codomain) → b5 ≡ b4 ++ term_bytes (tree one.body)
    → b5 ≡ old ++ one_bytes one
function_written old b1 b2 b3 b4 b5 one xs e e1 e2 e3 e4 e5 =
    let x4 = term_bytes (tree one.body) in
    let x3 = term_bytes (tree one.codomain) ++ x4 in
    let x2 = joined (part_bytes (term_list 0 xs)) ++ x3 in
    let x1 = digits (length xs) ++ x2 in
    let s4 : b5 ≡ b3 ++ x3 = e5 ∙ (ap (λ z. z ++ x4) e4 ∙ append_assoc b3 (term_bytes (tree one.codomain)) x4) in
    let s3 : b5 ≡ b2 ++ x2 = s4 ∙ (ap (λ z. z ++ x3) e3 ∙ append_assoc b2 (joined (part_bytes (term_list 0 xs))) x3) in
    let s2 : b5 ≡ b1 ++ x1 = s3 ∙ (ap (λ z. z ++ x2) e2 ∙ append_assoc b1 (digits (length xs)) x2) in
    let s1 : b5 ≡ old ++ (digits one.k ++ x1) = s2 ∙ (ap (λ z. z ++ x1) e1 ∙ append_assoc old (digits one.k) x1) in
    s1 ∙ (ap (λ m. old ++ (digits one.k ++ (digits m ++ x2))) (sym (same_count one.domains xs e))
    ∙ ap (λ k. old ++ (digits one.k ++ (digits (domain_count one) ++ (joined (part_bytes k) ++ x3)))) (sym e))

-- The first of the functions that are left.
pub record First (n : ℕ) (one : FixBody) (rest : List FixBody) (most : ℕ) : Type 0 where
  pub writable : Writable one
  pub others : AreWritable rest
  pub here : max (depth_children (terms one.domains)) (max (depth_tree (tree one.codomain)) (depth_tree (tree one.body))) ≤ most
  pub later : depth_children (body_list n rest) ≤ most

parts_depth : (n most : ℕ) (one : FixBody) → depth_children (body_parts n one) ≤ most → max (depth_children (terms one.domains)) (max (depth_tree (tree one.codomain)) (depth_tree (tree one.body))) ≤ most
parts_depth n most one h =
    let e = depth_join (terms one.domains) (child (many (domain_count one)) (tree one.codomain) (child (many (n + domain_count one)) (tree one.body) no_child)) in
    omega (arith, e, h)

pub first_of_list : (n most : ℕ) (one : FixBody) (rest xs : List FixBody) → xs ≡ one ∷ rest → AreWritable xs → depth_children (body_list n xs) ≤ most → First n one rest most
first_of_list n most one rest xs e w d =
    let w' : Writable one × AreWritable rest = subst AreWritable e w in
    let d' : depth_children (body_list n (one ∷ rest)) ≤ most = subst (λ ys. depth_children (body_list n ys) ≤ most) e d in
    let j = depth_join (body_parts n one) (body_list n rest) in
    record { writable = w'.0; others = w'.1; here = parts_depth n most one (omega (arith, d', j)); later = omega (arith, d', j) }

pub function_appended : (old now after : List ℕ) (one : FixBody) (rest xs : List FixBody) (all : List ℕ) → xs ≡ one ∷ rest → now ++ all_bytes xs ≡ all → after ≡ now ++ one_bytes one → after ++ all_bytes rest ≡ all
function_appended old now after one rest xs all e h a =
    ap (λ z. z ++ all_bytes rest) a ∙ (append_assoc now (one_bytes one) (all_bytes rest) ∙ (ap (λ ys. now ++ all_bytes ys) (sym e) ∙ h))
