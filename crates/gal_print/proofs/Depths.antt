-- No part of a list of parts is deeper than the list.
use Rattle.std.proofs.Common.{◌≡◌, ℕ, zero, suc, ◌+◌, ◌<◌, ◌≤◌, max, List, [], ◌∷◌, length, get_or, ap, sym, ◌∙◌, arith}
use Rattle.cic_terms.specs.declared.term.Term.{Term}
use Rattle.cic_terms.specs.declared.term.Branch.{Branch}
use Rattle.cic_terms.specs.declared.term.FixBody.{FixBody}
use Rattle.cic_terms.specs.Tree.{child, no_child, many}
use Rattle.cic_terms.specs.Denotes.{tree, terms, term_list, branch_list, body_list, body_parts, domain_count}
use Rattle.cic_terms.specs.Sizes.{depth_tree, depth_children}
use Rattle.cic_terms.proofs.Children.{depth_join}

-- A number among two, of which it is one, or below one of which it is.
at_most_head : (a b c : ℕ) → a ≡ b → a ≤ max b c
at_most_head a b c e = omega arith

at_most_rest : (a b c : ℕ) → a ≤ c → a ≤ max b c
at_most_rest a b c h = omega arith

-- A branch, and a domain, is no deeper than all of them.
pub branch_depth : (bs : List Branch) (i : ℕ) (b : Branch) → i < length bs → b ≡ get_or bs i b → depth_tree (tree b.body) ≤ depth_children (branch_list bs)
branch_depth [] i b h e = absurd (omega arith)
branch_depth (x ∷ bs) zero b h e = at_most_head _ _ _ (ap (λ (z : Branch). depth_tree (tree z.body)) e)
branch_depth (x ∷ bs) (suc i) b h e = at_most_rest _ _ _ (branch_depth bs i b (omega arith) e)

pub domain_depth : (above : ℕ) (ts : List Term) (i : ℕ) (t : Term) → i < length ts → t ≡ get_or ts i t → depth_tree (tree t) ≤ depth_children (term_list above ts)
domain_depth above [] i t h e = absurd (omega arith)
domain_depth above (x ∷ ts) zero t h e = at_most_head _ _ _ (ap (λ (z : Term). depth_tree (tree z)) e)
domain_depth above (x ∷ ts) (suc i) t h e = at_most_rest _ _ _ (domain_depth (above + 1) ts i t (omega arith) e)

-- The depth of the parts of a function, which is the same among any number of functions.
parts_depth : (all : ℕ) (b : FixBody) → depth_children (body_parts all b) ≡ max (depth_children (terms b.domains)) (max (depth_tree (tree b.codomain)) (max (depth_tree (tree b.body)) 0))
parts_depth all b = depth_join (terms b.domains) (child (many (domain_count b)) (tree b.codomain) (child (many (all + domain_count b)) (tree b.body) no_child))

any_parts : (m n : ℕ) (b c : FixBody) → b ≡ c → depth_children (body_parts m b) ≡ depth_children (body_parts n c)
any_parts m n b c e = parts_depth m b ∙ sym (parts_depth n b) ∙ ap (λ (z : FixBody). depth_children (body_parts n z)) e

-- The parts of a function are no deeper than those of all, and its domains, codomain and body no deeper than these.
pub function_depth : (all : ℕ) (bs : List FixBody) (i : ℕ) (b : FixBody) → i < length bs → b ≡ get_or bs i b → depth_children (body_parts 0 b) ≤ depth_children (body_list all bs)
function_depth all [] i b h e = absurd (omega arith)
function_depth all (x ∷ bs) zero b h e =
    let joined = depth_join (body_parts all x) (body_list all bs) in
    let same = any_parts 0 all b x e in
    let here = at_most_head _ _ (depth_children (body_list all bs)) same in
    omega arith
function_depth all (x ∷ bs) (suc i) b h e =
    let joined = depth_join (body_parts all x) (body_list all bs) in
    let there = at_most_rest _ (depth_children (body_parts all x)) _ (function_depth all bs i b (omega arith) e) in
    omega arith

pub depths_in_function : (b : FixBody) →
    (depth_children (terms b.domains) ≤ depth_children (body_parts 0 b)) × (depth_tree (tree b.codomain) ≤ depth_children (body_parts 0 b)) × (depth_tree (tree b.body) ≤ depth_children (body_parts 0 b))
depths_in_function b = let whole = parts_depth 0 b in (omega arith, omega arith, omega arith)
