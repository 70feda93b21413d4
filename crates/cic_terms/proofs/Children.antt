-- Lists of parts: how they join, and a loop that makes one.
use Rattle.std.proofs.Common.{◌≡◌, ◌≢◌, ℕ, suc, ◌+◌, ◌-◌, ◌≤◌, ◌<◌, max, List, [], ◌∷◌, length, get_or, drop, refl, sym, ap, ◌∙◌, arith, subst, add-one}
use Rattle.std.proofs.Math.Seq.{drop-cons}
use Rattle.std.proofs.lemmas.Grind.{common_steps}
use Rattle.cic_terms.specs.Tree.{Tree, node, Former, Children, no_child, child, Binders, over, join}
use Rattle.cic_terms.specs.Sizes.{Fits, ChildrenFit, depth_children, max_rel_children}
use Rattle.cic_terms.specs.calls.Walk.{map_tree, map_children}

pub drop_at : {A : Type 0} (xs : List A) (i : ℕ) (x : A) → i < length xs → x ≡ get_or xs i x → drop i xs ≡ x ∷ drop (i + 1) xs
drop_at xs i x h e = rw add-one (drop-cons xs i x h ∙ ap (λ y. y ∷ drop (suc i) xs) (sym e))

pub drop_whole : {A : Type 0} (xs : List A) (i : ℕ) → length xs ≤ i → drop i xs ≡ []
drop_whole xs i h = grind (arith, common_steps)

pub join_leaf : (a : Children) → join a no_child ≡ a
join_leaf no_child = refl
join_leaf (child b t ks) = ap (child b t) (join_leaf ks)

pub join_assoc : (a b c : Children) → join (join a b) c ≡ join a (join b c)
join_assoc no_child b c = refl
join_assoc (child n t ks) b c = ap (child n t) (join_assoc ks b c)

pub depth_join : (a b : Children) → depth_children (join a b) ≡ max (depth_children a) (depth_children b)
depth_join no_child b = omega arith
depth_join (child n t ks) b = let e = depth_join ks b in omega arith

pub rels_join : (a b : Children) → max_rel_children (join a b) ≡ max (max_rel_children a) (max_rel_children b)
rels_join no_child b = omega arith
rels_join (child n t ks) b = let e = rels_join ks b in omega arith

pub fits_join : (room : ℕ) (a b : Children) → ChildrenFit room a → ChildrenFit room b → ChildrenFit room (join a b)
fits_join room a b f g = record { depth = omega (arith, depth_join a b, f.depth, g.depth); rels = omega (arith, rels_join a b, f.rels, g.rels) }

pub join_fits : (room : ℕ) (a b : Children) → ChildrenFit room (join a b) → ChildrenFit room a × ChildrenFit room b
join_fits room a b h = (
  record { depth = omega (arith, depth_join a b, h.depth); rels = omega (arith, rels_join a b, h.rels) },
  record { depth = omega (arith, depth_join a b, h.depth); rels = omega (arith, rels_join a b, h.rels) },
)

pub map_join : (becomes : ℕ → ℕ → Tree) (at : ℕ) (a b : Children) → map_children becomes at (join a b) ≡ join (map_children becomes at a) (map_children becomes at b)
map_join becomes at no_child b = refl
map_join becomes at (child n t ks) b = ap (child n (map_tree becomes (over n at) t)) (map_join becomes at ks b)

pub kid_fits : (room : ℕ) (b : Binders) (t : Tree) → Fits room t → ChildrenFit room (child b t no_child)
kid_fits room b t f = record { depth = omega (arith, f.depth); rels = omega (arith, f.rels) }

pub fits_kid : (room : ℕ) (b : Binders) (t : Tree) → ChildrenFit room (child b t no_child) → Fits room t
fits_kid room b t f = record { depth = omega (arith, f.depth); rels = omega (arith, f.rels) }

-- the second part of a node fits, one level further down
pub second_fits : (room : ℕ) (f : Former) (b c : Binders) (x y : Tree) (ks : Children) → room ≢ 0 → Fits room (node f (child b x (child c y ks))) → Fits (room - 1) y
second_fits room f b c x y ks h k = record { depth = omega (arith, k.depth); rels = omega (arith, k.rels) }

-- what a loop has made, and what is left
pub record ChildrenSoFar (room : ℕ) (made rest whole : Children) : Type 0 where
  pub joined : join made rest ≡ whole
  pub fits : ChildrenFit room made

pub children_begin : (room : ℕ) (made now whole : Children) → made ≡ no_child → now ≡ whole → ChildrenSoFar room made now whole
children_begin room made now whole e f = rw e (record { joined = f; fits = record { depth = omega arith; rels = omega arith } })

pub children_more : (room : ℕ) (made made' one now rest whole : Children) → ChildrenSoFar room made now whole →
    now ≡ join one rest → made' ≡ join made one → ChildrenFit room one → ChildrenSoFar room made' rest whole
children_more room made made' one now rest whole s e e' f = rw e' (record {
  joined = join_assoc made one rest ∙ sym (ap (join made) e) ∙ s.joined;
  fits = fits_join room made one s.fits f;
})

-- where the next one passes the limits, the whole does
pub children_refused : (room : ℕ) (made one now rest whole : Children) → ChildrenSoFar room made now whole → now ≡ join one rest → ¬ ChildrenFit room one → ¬ ChildrenFit room whole
children_refused room made one now rest whole s e never h =
    let k : ChildrenFit room (join made (join one rest)) = subst (ChildrenFit room) (sym s.joined ∙ ap (join made) e) h in
    never (join_fits room one rest (join_fits room made (join one rest) k).1).0

pub children_end : (room : ℕ) (made whole : Children) → ChildrenSoFar room made no_child whole → (made ≡ whole) × ChildrenFit room whole
children_end room made whole s = let e = sym (join_leaf made) ∙ s.joined in (e, subst (ChildrenFit room) e s.fits)

unfoldable pub count_children : Children → ℕ
count_children no_child = 0
count_children (child b t ks) = suc (count_children ks)

pub count_map : (becomes : ℕ → ℕ → Tree) (at : ℕ) (ks : Children) → count_children (map_children becomes at ks) ≡ count_children ks
unfolding count_children
count_map becomes at no_child = refl
count_map becomes at (child b t ks) = ap suc (count_map becomes at ks)
