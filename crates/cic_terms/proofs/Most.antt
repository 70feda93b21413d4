-- The greatest depth so far, which stands still at the end of its type.
use Rattle.std.proofs.Common.{◌≡◌, ℕ, ◌+◌, max, min, arith, List, [], ◌∷◌, length, refl, sym, ap, ◌∙◌}
use Rattle.cic_terms.specs.Tree.{Tree, Children, no_child, child, many}
use Rattle.cic_terms.specs.Sizes.{depth_children, depth_tree}
use Rattle.cic_terms.specs.Denotes.{bodies, body_list, body_parts, terms, tree, domain_count}
use Rattle.cic_terms.specs.declared.term.FixBody.{FixBody}
use Rattle.cic_terms.specs.declared.term.FixBodies.{FixBodies, out-FixBodies}
use Rattle.cic_terms.proofs.Children.{depth_join}
use Rattle.cic_terms.proofs.Rows.{bodies-out, parts}

pub depth_parts : (ds : Children) (m : ℕ) (c : Tree) (n : ℕ) (b : Tree) → depth_children (parts ds m c n b) ≡ max (depth_children ds) (max (depth_tree c) (depth_tree b))
depth_parts ds m c n b = omega (arith, depth_join ds (child (many m) c (child (many n) b no_child)))

-- the depth is the same under any number of functions
depth_any : (m n : ℕ) (bs : List FixBody) → depth_children (body_list m bs) ≡ depth_children (body_list n bs)
depth_any m n [] = refl
depth_any m n (b ∷ bs) =
    let p = depth_parts (terms b.domains) (domain_count b) (tree b.codomain) (m + domain_count b) (tree b.body) in
    let q = depth_parts (terms b.domains) (domain_count b) (tree b.codomain) (n + domain_count b) (tree b.body) in
    omega (arith, depth_any m n bs, depth_join (body_parts m b) (body_list m bs), depth_join (body_parts n b) (body_list n bs))

pub depth_bodies_are : (bs : FixBodies) (xs : List FixBody) → xs ≡ (out-FixBodies bs).items.items → depth_children (body_list 0 xs) ≡ depth_children (bodies bs)
depth_bodies_are bs xs e =
    ap (λ (l : List FixBody). depth_children (body_list 0 l)) e ∙ depth_any 0 (length (out-FixBodies bs).items.items) (out-FixBodies bs).items.items ∙ ap depth_children (sym (bodies-out bs))

pub most_step : (most one d rest now m w : ℕ) → now ≡ max d rest → one ≡ min d m → max most (min now m) ≡ w → max (max one most) (min rest m) ≡ w
most_step most one d rest now m w e f g = omega arith
