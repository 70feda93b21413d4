-- What is read of parts, and of what is made of them.
use Rattle.std.proofs.Common.{◌≡◌, ℕ, ◌+◌, ◌≤◌, List, [], ◌∷◌, ◌++◌, map, reverse, refl, sym, ap, ◌∙◌, inl, inr, arith}
use Rattle.std.specs.Prelude.{Option, Some, None, Ok, Err}
use Rattle.std.proofs.lemmas.List.{map-append}
use Rattle.cic_terms.specs.Tree.{Tree, rel, node, Children, no_child, child, over, let_in}
use Rattle.cic_terms.specs.Lift.{lift_tree, lift_children}
use Rattle.cic_terms.specs.Sizes.{Fits, max_rel, max_rel_children}
use Rattle.cic_rules.specs.Telescopes.{products, abstractions}
use Rattle.gal_grammar.specs.Terms.{Binder}
use Rattle.gal_scoping.specs.Readings.{Fault, Reading, after, with_part, with_parts}
use Rattle.gal_scoping.specs.Names.{Around}
use Rattle.gal_scoping.specs.Fixpoints.{Binding, domains, names, inside, bindings_from}
use Rattle.std.specs.Prelude.{Vec}
use Rattle.std.specs.declared.alloc.Global.{Global}
use Rattle.elab_parts.specs.declared.binding.Binding.{Binding as HeldBinding}
use Rattle.elab_parts.specs.declared.fault.ScopingFault.{ScopingFault}
use Rattle.elab_parts.specs.declared.fault.ScopingFault.TheVariants as F
use Rattle.elab_parts.specs.declared.making.Pair.{Pair}
use Rattle.elab_parts.specs.declared.making.Pair.TheVariants.{Product, Abstraction}
use Rattle.elab_parts.specs.calls.Parts.{known, cut, of_two, of_three, lifted, pair_tree}
use Rattle.elab_parts.specs.calls.Bindings.{KnownBinding, known_binding, cut_binding, bindings_known, over_all, known_inside}
use Rattle.elab_parts.specs.calls.Readings.{Reads}
use Rattle.elab_parts.proofs.Cuts.{cut_is, cut_unfit, pair_depth, pair_rels, let_depth, let_rels, lifted_depth}

-- a fault of a part is that of the whole
pub fault_passes : {B B' C C' : Type 0} (known : B → C) (known' : B' → C') (R : Reading C) (R' : Reading C') (fault : ScopingFault) →
    ((f : Fault) → R ≡ Err f → R' ≡ Err f) → Reads known R (Err fault) → Reads known' R' (Err fault)
fault_passes known known' R R' (F.Unknown name) h r = h _ r
fault_passes known known' R R' (F.Ambiguous name one two) h r = h _ r
fault_passes known known' R R' (F.BadPattern name) h r = h _ r
fault_passes known known' R R' (F.NoBranch c) h r = h _ r
fault_passes known known' R R' F.NoMemory h r = tt

-- from or to groups of binders
abbrev pub held : Vec HeldBinding Global → List KnownBinding
held bs = map known_binding bs.items

pub passes_from_groups : (R : Reading (List KnownBinding)) (R' : Reading (Option Tree)) (fault : ScopingFault) →
    ((f : Fault) → R ≡ Err f → R' ≡ Err f) → Reads held R (Err fault) → Reads known R' (Err fault)
passes_from_groups = fault_passes held known

pub passes_to_groups : (R : Reading (Option Tree)) (R' : Reading (List KnownBinding)) (fault : ScopingFault) →
    ((f : Fault) → R ≡ Err f → R' ≡ Err f) → Reads known R (Err fault) → Reads held R' (Err fault)
passes_to_groups = fault_passes known held

pub part_fault : {A C B D : Type 0} (m : A → C) (g : A → B) (m' : B → D) (R : Reading A) (f : Fault) → with_part m R ≡ Err f → with_part m' (with_part g R) ≡ Err f
part_fault m g m' (Ok a) f h = absurd (let e : ⊥ = cc in e)
part_fault m g m' (Err e) f h = let e' : e ≡ f = cc in ap Err e'

pub after_fault : {A C B D : Type 0} (m : A → C) (next : A → Reading B) (m' : B → D) (R : Reading A) (f : Fault) → with_part m R ≡ Err f → with_part m' (after R next) ≡ Err f
after_fault m next m' (Ok a) f h = absurd (let e : ⊥ = cc in e)
after_fault m next m' (Err e) f h = let e' : e ≡ f = cc in ap Err e'

pub first_fault : {A B C D E : Type 0} (m : A → C) (g : A → B → D) (m' : D → E) (R : Reading A) (R' : Reading B) (f : Fault) →
    with_part m R ≡ Err f → with_part m' (with_parts g R R') ≡ Err f
first_fault m g m' (Ok a) R' f h = absurd (let e : ⊥ = cc in e)
first_fault m g m' (Err e) R' f h = let e' : e ≡ f = cc in ap Err e'

pub second_fault : {A B C C' D E : Type 0} (m : A → C) (n : B → C') (g : A → B → D) (m' : D → E) (R : Reading A) (R' : Reading B) (c : C) (f : Fault) →
    with_part m R ≡ Ok c → with_part n R' ≡ Err f → with_part m' (with_parts g R R') ≡ Err f
second_fault m n g m' (Ok a) R' c f h k = part_fault n (g a) m' R' f k
second_fault m n g m' (Err e) R' c f h k = absurd (let e : ⊥ = cc in e)

pub after_part : {A C B D : Type 0} (m : A → C) (next : A → Reading B) (m' : B → D) (R : Reading A) (c : C) (d : Reading D) →
    with_part m R ≡ Ok c → ((a : A) → m a ≡ c → with_part m' (next a) ≡ d) → with_part m' (after R next) ≡ d
after_part m next m' (Ok a) c d h k = k a (let e : m a ≡ c = cc in e)
after_part m next m' (Err e) c d h k = absurd (let e : ⊥ = cc in e)

pub whole_part : {A C B D : Type 0} (m : A → C) (g : A → B) (m' : B → D) (R : Reading A) (c : C) (d : D) →
    with_part m R ≡ Ok c → ((a : A) → m a ≡ c → m' (g a) ≡ d) → with_part m' (with_part g R) ≡ Ok d
whole_part m g m' (Ok a) c d h k = ap Ok (k a (let e : m a ≡ c = cc in e))
whole_part m g m' (Err e) c d h k = absurd (let e : ⊥ = cc in e)

pub both_parts : {A B C C' D E : Type 0} (m : A → C) (n : B → C') (g : A → B → D) (m' : D → E) (R : Reading A) (R' : Reading B) (c : C) (c' : C') (d : E) →
    with_part m R ≡ Ok c → with_part n R' ≡ Ok c' → ((a : A) (b : B) → m a ≡ c → n b ≡ c' → m' (g a b) ≡ d) → with_part m' (with_parts g R R') ≡ Ok d
both_parts m n g m' (Ok a) R' c c' d h k l = whole_part n (g a) m' R' c' d k (λ b e. l a b (let e : m a ≡ c = cc in e) e)
both_parts m n g m' (Err e) R' c c' d h k l = absurd (let e : ⊥ = cc in e)

-- the limits of what is made of parts
left_fits : (kind : Pair) (a b : Tree) → Fits 4000 (pair_tree kind a b) → Fits 4000 a
left_fits kind a b f = record { depth = omega (arith, pair_depth kind a b, f.depth); rels = omega (arith, pair_rels kind a b, f.rels) }

right_fits : (kind : Pair) (a b : Tree) → Fits 4000 (pair_tree kind a b) → Fits 4000 b
right_fits kind a b f = record { depth = omega (arith, pair_depth kind a b, f.depth); rels = omega (arith, pair_rels kind a b, f.rels) }

of_two_none : (make : Tree → Tree → Tree) (a : Option Tree) → of_two make a None ≡ None
of_two_none make None = refl
of_two_none make (Some a) = refl

pub cut_pair : (kind : Pair) (a b : Tree) → of_two (pair_tree kind) (cut a) (cut b) ≡ cut (pair_tree kind a b)
cut_pair kind a b = elim (cut_is a) [
  | inl p ↦ elim (cut_is b) [
    | inl q ↦ rw (p.0, q.0) refl
    | inr q ↦ rw q.0 (of_two_none (pair_tree kind) (cut a) ∙ sym (cut_unfit (pair_tree kind a b) (λ f. q.1 (right_fits kind a b f))))
  ]
  | inr p ↦ rw p.0 (sym (cut_unfit (pair_tree kind a b) (λ f. p.1 (left_fits kind a b f))))
]

pub cut_over : (kind : Pair) (make : List Tree → Tree → Tree) → ((t : Tree) → make [] t ≡ t) → ((a : Tree) (ds : List Tree) (t : Tree) → make (a ∷ ds) t ≡ pair_tree kind a (make ds t)) →
    (bs : List Binding) (t : Tree) → over_all (pair_tree kind) (map cut_binding bs) (cut t) ≡ cut (make (domains bs) t)
cut_over kind make none more [] t = ap cut (sym (none t))
cut_over kind make none more (b ∷ bs) t =
    ap (of_two (pair_tree kind) (cut b.type)) (cut_over kind make none more bs t) ∙ cut_pair kind b.type (make (domains bs) t) ∙ ap cut (sym (more b.type (domains bs) t))

pub cut_products : (bs : List Binding) (t : Tree) → over_all (pair_tree Product) (map cut_binding bs) (cut t) ≡ cut (products (domains bs) t)
cut_products = cut_over Product products (λ t. refl) (λ a ds t. refl)

pub cut_abstractions : (bs : List Binding) (t : Tree) → over_all (pair_tree Abstraction) (map cut_binding bs) (cut t) ≡ cut (abstractions (domains bs) t)
cut_abstractions = cut_over Abstraction abstractions (λ t. refl) (λ a ds t. refl)

mutual
  lifted_rels : (from by : ℕ) (t : Tree) → max_rel t ≤ max_rel (lift_tree from by t)
  lifted_rels from by (rel n) = grind arith
  lifted_rels from by (node f ks) = lifted_rels_in from by ks

  lifted_rels_in : (from by : ℕ) (ks : Children) → max_rel_children ks ≤ max_rel_children (lift_children from by ks)
  lifted_rels_in from by no_child = omega arith
  lifted_rels_in from by (child b t ks) = let d = lifted_rels (over b from) by t in let e = lifted_rels_in from by ks in omega arith

cut_lifted : (by : ℕ) (t : Tree) → cut (lift_tree 0 by t) ≡ lifted by (cut t)
cut_lifted by t = elim (cut_is t) [
  | inl p ↦ rw p.0 refl
  | inr p ↦ rw p.0 (cut_unfit (lift_tree 0 by t) (λ f. p.1 (record { depth = omega (arith, lifted_depth 0 by t, f.depth); rels = omega (arith, lifted_rels 0 by t, f.rels) })))
]

group_cut : (passed : ℕ) (xs : List Binder) (t : Tree) → map cut_binding (bindings_from passed xs t) ≡ bindings_known passed xs (cut t)
group_cut passed [] t = refl
group_cut passed (x ∷ xs) t = let e = cut_lifted passed t in let e' = group_cut (passed + 1) xs t in rw (e, e') refl

pub names_cut : (bs : List Binding) → map (λ b. b.name) (map cut_binding bs) ≡ names bs
names_cut [] = refl
names_cut (b ∷ bs) = ap (λ ys. b.name ∷ ys) (names_cut bs)

pub inside_cut : (bs : List Binding) (ks : List KnownBinding) (around : Around) → map cut_binding bs ≡ ks → known_inside ks around ≡ inside bs around
inside_cut bs ks around e = ap (λ ys. known_inside ys around) (sym e) ∙ ap (λ ys. reverse ys ++ around) (names_cut bs)

pub more_cut : (bs : List Binding) (ks : List KnownBinding) (xs : List Binder) (t : Tree) (k : Option Tree) → map cut_binding bs ≡ ks → cut t ≡ k →
    map cut_binding (bs ++ bindings_from 0 xs t) ≡ ks ++ bindings_known 0 xs k
more_cut bs ks xs t k e e' = map-append cut_binding bs (bindings_from 0 xs t) ∙ ap (λ ys. map cut_binding bs ++ ys) (group_cut 0 xs t) ∙ rw (e, e') refl

first_of_let : (t a u : Tree) → Fits 4000 (let_in t a u) → Fits 4000 t
first_of_let t a u f = record { depth = omega (arith, let_depth t a u, f.depth); rels = omega (arith, let_rels t a u, f.rels) }

second_of_let : (t a u : Tree) → Fits 4000 (let_in t a u) → Fits 4000 a
second_of_let t a u f = record { depth = omega (arith, let_depth t a u, f.depth); rels = omega (arith, let_rels t a u, f.rels) }

third_of_let : (t a u : Tree) → Fits 4000 (let_in t a u) → Fits 4000 u
third_of_let t a u f = record { depth = omega (arith, let_depth t a u, f.depth); rels = omega (arith, let_rels t a u, f.rels) }

third_none : (make : Tree → Tree → Tree → Tree) (a b : Option Tree) → of_three make a b None ≡ None
third_none make None b = refl
third_none make (Some a) None = refl
third_none make (Some a) (Some b) = refl

second_none : (make : Tree → Tree → Tree → Tree) (a c : Option Tree) → of_three make a None c ≡ None
second_none make None c = refl
second_none make (Some a) c = refl

pub cut_let : (t a u : Tree) → of_three (λ t a u. let_in t a u) (cut t) (cut a) (cut u) ≡ cut (let_in t a u)
cut_let t a u = elim (cut_is t) [
  | inl p ↦ elim (cut_is a) [
    | inl q ↦ elim (cut_is u) [
      | inl r ↦ rw (p.0, q.0, r.0) refl
      | inr r ↦ rw r.0 (third_none (λ t a u. let_in t a u) (cut t) (cut a) ∙ sym (cut_unfit (let_in t a u) (λ f. r.1 (third_of_let t a u f))))
    ]
    | inr q ↦ rw q.0 (second_none (λ t a u. let_in t a u) (cut t) (cut u) ∙ sym (cut_unfit (let_in t a u) (λ f. q.1 (second_of_let t a u f))))
  ]
  | inr p ↦ rw p.0 (sym (cut_unfit (let_in t a u) (λ f. p.1 (first_of_let t a u f))))
]
