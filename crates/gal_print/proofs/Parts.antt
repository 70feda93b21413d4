-- The parts of a term, in order.
use Rattle.std.proofs.Common.{◌≡◌, ℕ, zero, suc, ◌+◌, List, [], ◌∷◌, ◌++◌, length, take, drop, refl, ap, ap₂, ◌∙◌, arith, append_assoc, codes, true, false, if◌then◌else◌, Some, None}
use Rattle.cic_terms.specs.Tree.{Tree, Children, no_child, child, join, many, over}
use Rattle.cic_terms.proofs.Children.{join_assoc}
use Rattle.cic_terms.specs.Denotes.{tree, terms, term_list, branch_list, body_list, body_parts, shape, shape_list, domain_count}
use Rattle.cic_terms.specs.declared.term.Term.{Term}
use Rattle.cic_terms.specs.declared.term.Branch.{Branch}
use Rattle.cic_terms.specs.declared.term.FixBody.{FixBody}
use Rattle.cic_names.specs.declared.name.GlobalId.{GlobalId}
use Rattle.cic_names.specs.Sameness.{same_id}
use Rattle.cic_rules.specs.Environment.{Environment, Block, TypeDeclaration, bare, bare_meaning, bare_type, or_else, whole_block_in}
use Rattle.gal_print.specs.Heads.{heads, heads_in, unknown_heads}
use Rattle.gal_print.specs.Printing.{Part, Place, alone, function_place, text, parts, domains_text, result_text, function_text, functions_text, name_text}
use Rattle.gal_print.specs.calls.Places.{function_of, result_of}

pub parts_join : (E : Environment) (a b : Children) → parts E (join a b) ≡ parts E a ++ parts E b
parts_join E no_child b = refl
parts_join E (child n t ks) b = ap (λ (ps : List Part). record { binders = over n 0; tree = t; text = text E t } ∷ ps) (parts_join E ks b)

pub count_branches : (E : Environment) (bs : List Branch) → length (parts E (branch_list bs)) ≡ length bs
count_branches E [] = refl
count_branches E (b ∷ bs) = ap suc (count_branches E bs)

pub count_terms : (E : Environment) (above : ℕ) (ts : List Term) → length (parts E (term_list above ts)) ≡ length ts
count_terms E above [] = refl
count_terms E above (t ∷ ts) = ap suc (count_terms E (above + 1) ts)

pub count_shapes : (bs : List FixBody) → length (shape_list bs) ≡ length bs
count_shapes [] = refl
count_shapes (b ∷ bs) = ap suc (count_shapes bs)

take_front : {A : Type 0} (xs ys : List A) (n : ℕ) → length xs ≡ n → take n (xs ++ ys) ≡ xs
take_front [] ys zero e = refl
take_front [] ys (suc n) e = absurd (omega (arith, e))
take_front (x ∷ xs) ys zero e = absurd (omega (arith, e))
take_front (x ∷ xs) ys (suc n) e = ap (λ zs. x ∷ zs) (take_front xs ys n (omega (arith, e)))

drop_front : {A : Type 0} (xs ys : List A) (n : ℕ) → length xs ≡ n → drop n (xs ++ ys) ≡ ys
drop_front [] ys zero e = refl
drop_front [] ys (suc n) e = absurd (omega (arith, e))
drop_front (x ∷ xs) ys zero e = absurd (omega (arith, e))
drop_front (x ∷ xs) ys (suc n) e = drop_front xs ys n (omega (arith, e))

drop_two : {A : Type 0} (xs : List A) (c b : A) (ys : List A) (n : ℕ) → length xs ≡ n → drop (n + 2) (xs ++ c ∷ b ∷ ys) ≡ ys
drop_two [] c b ys zero e = refl
drop_two [] c b ys (suc n) e = absurd (omega (arith, e))
drop_two (x ∷ xs) c b ys zero e = absurd (omega (arith, e))
drop_two (x ∷ xs) c b ys (suc n) e = ap (λ k. drop k (x ∷ xs ++ c ∷ b ∷ ys)) (next n) ∙ drop_two xs c b ys n (omega (arith, e))
  where
    next : (m : ℕ) → suc m + 2 ≡ suc (m + 2)
    next m = omega arith

-- The parts of a function, before others.
abbrev pub part_of : Environment → (binders : ℕ) → Tree → Part
part_of E n t = record { binders = n; tree = t; text = text E t }

pub parts_of_function : (E : Environment) (all : ℕ) (b : FixBody) (rest : Children) →
    parts E (join (body_parts all b) rest)
    ≡ parts E (terms b.domains) ++ part_of E (0 + domain_count b) (tree b.codomain) ∷ part_of E (0 + (all + domain_count b)) (tree b.body) ∷ parts E rest
parts_of_function E all b rest =
    ap (parts E) (join_assoc (terms b.domains) (child (many (domain_count b)) (tree b.codomain) (child (many (all + domain_count b)) (tree b.body) no_child)) rest)
    ∙ parts_join E (terms b.domains) (child (many (domain_count b)) (tree b.codomain) (child (many (all + domain_count b)) (tree b.body) rest))

regroup : (p q r s t u : List ℕ) → p ++ q ++ r ++ s ++ t ++ u ≡ p ++ q ++ (r ++ s ++ t) ++ u
regroup p q r s t u = simp append_assoc

-- A function by its parts.
pub function_front : (E : Environment) (all : ℕ) (b : FixBody) (place : Place) (number : ℕ) (rest : Children) (ns : List ℕ) (next : ℕ) →
    function_text all (shape b) place number (parts E (join (body_parts all b) rest)) ns next ≡ function_of E all place number b ns next
function_front E all b place number rest ns next =
    let after : List Part = part_of E (0 + domain_count b) (tree b.codomain) ∷ part_of E (0 + (all + domain_count b)) (tree b.body) ∷ parts E rest in
    let counted : length (parts E (terms b.domains)) ≡ domain_count b = count_terms E 0 b.domains.items.items in
    ap (λ (ps : List Part). function_text all (shape b) place number ps ns next) (parts_of_function E all b rest)
    ∙ ap₂ (λ (ds others : List Part). name_text number ++ domains_text ds ns (next + all) ++ codes " {struct " ++ name_text (next + all + b.k) ++ codes "} : " ++ result_text all (domain_count b) place others ns next)
    (take_front (parts E (terms b.domains)) after (domain_count b) counted)
    (drop_front (parts E (terms b.domains)) after (domain_count b) counted)
    ∙ regroup (name_text number) (domains_text (parts E (terms b.domains)) ns (next + all)) (codes " {struct ") (name_text (next + all + b.k)) (codes "} : ") (result_of E all place b ns next)

pub later_parts : (E : Environment) (all : ℕ) (b : FixBody) (rest : Children) → drop (domain_count b + 2) (parts E (join (body_parts all b) rest)) ≡ parts E rest
later_parts E all b rest =
    ap (drop (domain_count b + 2)) (parts_of_function E all b rest)
    ∙ drop_two (parts E (terms b.domains)) _ _ (parts E rest) (domain_count b) (count_terms E 0 b.domains.items.items)

-- The last function, and one before others.
pub last_function : (E : Environment) (all : ℕ) (b : FixBody) (number : ℕ) (ns : List ℕ) (next : ℕ) →
    functions_text all (shape_list (b ∷ [])) number (parts E (body_list all (b ∷ []))) ns next ≡ function_of E all alone number b ns next
last_function E all b number ns next = function_front E all b alone number no_child ns next

pub function_before : (E : Environment) (all : ℕ) (b c : FixBody) (bs : List FixBody) (number : ℕ) (ns : List ℕ) (next : ℕ) →
    functions_text all (shape_list (b ∷ c ∷ bs)) number (parts E (body_list all (b ∷ c ∷ bs))) ns next
    ≡ function_of E all function_place number b ns next ++ codes " with " ++ functions_text all (shape_list (c ∷ bs)) (number + 1) (parts E (body_list all (c ∷ bs))) ns next
function_before E all b c bs number ns next =
    ap₂ (λ (f : List ℕ) (ps : List Part). f ++ codes " with " ++ functions_text all (shape_list (c ∷ bs)) (number + 1) ps ns next)
    (function_front E all b function_place number (body_list all (c ∷ bs)) ns next)
    (later_parts E all b (body_list all (c ∷ bs)))

-- A bare block tells nothing of its types.
bare_in : (b : Block) (index branches : ℕ) (ts : List TypeDeclaration) (id : GlobalId) → heads_in branches (whole_block_in (or_else (bare_meaning b index ts id) None)) ≡ unknown_heads
bare_in b index branches [] id = refl
bare_in b index branches (t ∷ ts) id =
    elim (same_id t.id id) as (λ s. heads_in branches (whole_block_in (or_else (or_else (if s then Some (bare_type b index) else None) (bare_meaning b (index + 1) ts id)) None)) ≡ unknown_heads)
    [ true ↦ refl | false ↦ bare_in b (index + 1) branches ts id ]

pub bare_is_unknown : (b : Block) (id : GlobalId) (branches : ℕ) → heads (bare b ∷ []) id branches ≡ unknown_heads
bare_is_unknown b id branches = bare_in b 0 branches b.types id
