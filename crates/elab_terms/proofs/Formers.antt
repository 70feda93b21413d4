-- What is read of each form of terms, from what is read of its parts.
use Rattle.std.proofs.Common.{◌≡◌, ℕ, ◌+◌, ◌-◌, ◌≤◌, ◌<◌, List, [], ◌∷◌, ◌++◌, map, reverse, length, drop, refl, sym, ap, ◌∙◌, length-append, append_assoc, arith}
use Rattle.std.specs.Prelude.{Option, Some, None, Ok, Err}
use Rattle.std.proofs.Math.Seq.{drop-append_seam}
use Rattle.std.proofs.lemmas.List.{map-append, reverse-append}
use Rattle.cic_terms.specs.Tree as T
use Rattle.cic_terms.specs.Tree.{Tree}
use Rattle.cic_rules.specs.Telescopes.{products, abstractions}
use Rattle.gal_grammar.specs.Terms as S
use Rattle.gal_grammar.specs.Terms.{Named, Binder, app, arrow, Groups, group}
use Rattle.gal_raw.specs.Denotes.{tree, applied, binder}
use Rattle.gal_raw.specs.calls.Lists.{group_list}
use Rattle.gal_raw.specs.declared.terms.Raw.{Raw}
use Rattle.gal_raw.specs.declared.terms.Group.{Group}
use Rattle.gal_scoping.specs.Readings.{Fault, Reading, with_part}
use Rattle.gal_scoping.specs.Names.{Around, Place, text_of, binder_name}
use Rattle.gal_scoping.specs.Levels.{Owner, types_in, types_in_groups}
use Rattle.gal_scoping.specs.Fixpoints.{Binding, domains, inside, bindings_from}
use Rattle.gal_scoping.specs.Terms.{term, bindings}
use Rattle.elab_parts.specs.declared.making.Pair.{Pair}
use Rattle.elab_parts.specs.declared.making.Pair.TheVariants.{Product, Abstraction, Application}
use Rattle.elab_parts.specs.calls.Parts.{cut, of_two, of_three, pair_tree}
use Rattle.elab_parts.specs.calls.Bindings.{KnownBinding, cut_binding, bindings_known, over_all, known_inside}
use Rattle.elab_terms.specs.calls.Sizes.{size, size_groups}
use Rattle.elab_terms.specs.calls.Walks.{over_groups, IsOver}
use Rattle.elab_terms.proofs.Measures.{argument_smaller, applied_types, groups_size, groups_types}
use Rattle.elab_terms.proofs.Steps.{part_fault, after_fault, first_fault, second_fault, after_part, whole_part, both_parts, cut_pair, cut_let, cut_products, cut_abstractions, inside_cut, more_cut}

-- the parts that a loop comes to
pub argument_facts : (f : S.Raw) (x : Raw) (xs rest : List Raw) (whole : S.Raw) → xs ≡ x ∷ rest → applied f xs ≡ whole →
    (size (tree x) < size whole) × (types_in f + types_in (tree x) ≤ types_in whole)
argument_facts f x xs rest whole at is =
    let e = ap (applied f) (sym at) ∙ is in
    (omega (arith, argument_smaller f x rest, ap size e), omega (arith, applied_types (app f (tree x)) rest, ap types_in e))

pub group_facts : (g : Groups) (x : Group) (xs rest : List Group) (whole : Groups) → xs ≡ x ∷ rest → group_list g xs ≡ whole →
    (size (tree x.ty) < size_groups whole) × (types_in_groups g + types_in (tree x.ty) ≤ types_in_groups whole)
group_facts g x xs rest whole at is =
    let e = ap (group_list g) (sym at) ∙ is in
    let more = group g (map binder x.binders.items) (tree x.ty) in
    (omega (arith, groups_size more rest, ap size_groups e), omega (arith, groups_types more rest, ap types_in_groups e))

pub inside_longer : (ks : List KnownBinding) (around : Around) → length around ≤ length (known_inside ks around)
inside_longer ks around = omega (arith, length-append (reverse (map (λ (b : KnownBinding). b.name) ks)) around)

pub left_behind : {A : Type 0} (xs ys : List A) (n : ℕ) → n ≡ length ys → drop (length (xs ++ ys) - n) (xs ++ ys) ≡ ys
left_behind xs ys n e =
    let k : length (xs ++ ys) - n ≡ length xs = omega (arith, length-append xs ys) in rw k (drop-append_seam xs ys)

pub left_twice : (xs ys around whole : Around) (n : ℕ) → n ≡ length around → whole ≡ xs ++ (ys ++ around) → drop (length whole - n) whole ≡ around
left_twice xs ys around whole n e is = rw (is, sym (append_assoc xs ys around)) (left_behind (xs ++ ys) around n e)

pub left_inside : (ks : List KnownBinding) (around whole : Around) (n : ℕ) → n ≡ length around → whole ≡ known_inside ks around → drop (length whole - n) whole ≡ around
left_inside ks around whole n e is = rw is (left_behind (reverse (map (λ (b : KnownBinding). b.name) ks)) around n e)

pub left_one : (b : Option (List ℕ)) (around whole : Around) (n : ℕ) → n ≡ length around → whole ≡ b ∷ around → drop (length whole - n) whole ≡ around
left_one b around whole n e is = rw is (left_behind (b ∷ []) around n e)

group_names : (passed : ℕ) (xs : List Binder) (k : Option Tree) → map (λ (b : KnownBinding). b.name) (bindings_known passed xs k) ≡ map binder_name xs
group_names passed [] k = refl
group_names passed (x ∷ xs) k = ap (λ ys. binder_name x ∷ ys) (group_names (passed + 1) xs k)

-- a group's names stand inside those before it
pub inside_more : (ks : List KnownBinding) (xs : List Binder) (k : Option Tree) (around : Around) →
    reverse (map binder_name xs) ++ known_inside ks around ≡ known_inside (ks ++ bindings_known 0 xs k) around
inside_more ks xs k around =
    let name = λ (b : KnownBinding). b.name in
    let e : reverse (map name (ks ++ bindings_known 0 xs k)) ≡ reverse (map binder_name xs) ++ reverse (map name ks) =
    ap reverse (map-append name ks (bindings_known 0 xs k) ∙ ap (λ ys. map name ks ++ ys) (group_names 0 xs k)) ∙ reverse-append (map name ks) (map binder_name xs) in
    sym (append_assoc (reverse (map binder_name xs)) (reverse (map name ks)) around) ∙ ap (λ ys. ys ++ around) (sym e)

module _ (place : Place) (owner : Owner) (around : Around) (first : ℕ) where
  -- applications
  pub applied_fault : (f : S.Raw) (xs : List Raw) (e : Fault) → with_part cut (term place owner around first f) ≡ Err e →
      with_part cut (term place owner around first (applied f xs)) ≡ Err e
  applied_fault f [] e h = h
  applied_fault f (x ∷ xs) e h =
      applied_fault (app f (tree x)) xs e
      (first_fault cut (λ f u. T.app f u) cut (term place owner around first f) (term place owner around (first + types_in f) (tree x)) e h)

  pub argument_fault : (f whole : S.Raw) (x : Raw) (xs rest : List Raw) (around' : Around) (first' : ℕ) (k : Option Tree) (e : Fault) →
      with_part cut (term place owner around first f) ≡ Ok k → around' ≡ around → first' ≡ first + types_in f →
      xs ≡ x ∷ rest → applied f xs ≡ whole →
      with_part cut (term place owner around' first' (tree x)) ≡ Err e → with_part cut (term place owner around first whole) ≡ Err e
  argument_fault f whole x xs rest around' first' k e told same counted at is h =
      rw (← is, at) (applied_fault (app f (tree x)) rest e
      (second_fault cut cut (λ f u. T.app f u) cut (term place owner around first f) (term place owner around (first + types_in f) (tree x)) k e told (rw (same, counted) at h)))

  pub argument_more : (f : S.Raw) (x : S.Raw) (around' : Around) (first' : ℕ) (k kx made : Option Tree) →
      with_part cut (term place owner around first f) ≡ Ok k → around' ≡ around → first' ≡ first + types_in f →
      with_part cut (term place owner around' first' x) ≡ Ok kx → made ≡ of_two (pair_tree Application) k kx →
      with_part cut (term place owner around first (app f x)) ≡ Ok made
  argument_more f x around' first' k kx made told same counted toldx is =
      both_parts cut cut (λ f u. T.app f u) cut (term place owner around first f) (term place owner around (first + types_in f) x) k kx made told (rw (same, counted) at toldx)
      (λ a b e e'. sym (cut_pair Application a b) ∙ ap (λ z. of_two (pair_tree Application) z (cut b)) e ∙ ap (of_two (pair_tree Application) k) e' ∙ sym is)

  -- arrows
  pub codomain_fault : (a b : S.Raw) (around' : Around) (first' : ℕ) (k : Option Tree) (e : Fault) →
      with_part cut (term place owner around first a) ≡ Ok k → around' ≡ None ∷ around → first' ≡ first + types_in a →
      with_part cut (term place owner around' first' b) ≡ Err e → with_part cut (term place owner around first (arrow a b)) ≡ Err e
  codomain_fault a b around' first' k e told same counted h =
      second_fault cut cut (λ a b. T.prod a b) cut (term place owner around first a) (term place owner (None ∷ around) (first + types_in a) b) k e told (rw (same, counted) at h)

  -- products and abstractions
  pub binders_fault : (kind : Pair) (gs : Groups) (b : S.Raw) (e : Fault) → IsOver kind →
      with_part (map cut_binding) (bindings place owner around first gs) ≡ Err e → with_part cut (term place owner around first (over_groups kind gs b)) ≡ Err e
  binders_fault Product gs b e is h = after_fault (map cut_binding) _ cut (bindings place owner around first gs) e h
  binders_fault Abstraction gs b e is h = after_fault (map cut_binding) _ cut (bindings place owner around first gs) e h
  binders_fault Application gs b e is h = absurd is

  pub inner : {C : Type 0} (m : Tree → C) (ks : List KnownBinding) (around' : Around) (first' n : ℕ) (b : S.Raw) (x : Reading C) →
      around' ≡ known_inside ks around → first' ≡ n → with_part m (term place owner around' first' b) ≡ x →
      (bs : List Binding) → map cut_binding bs ≡ ks → with_part m (term place owner (inside bs around) n b) ≡ x
  inner m ks around' first' n b x same counted h bs e =
      ap (λ z. with_part m (term place owner z n b)) (sym (inside_cut bs ks around e)) ∙ ap (λ z. with_part m (term place owner z n b)) (sym same)
      ∙ ap (λ z. with_part m (term place owner around' z b)) (sym counted) ∙ h

  pub body_fault : (kind : Pair) (gs : Groups) (b : S.Raw) (ks : List KnownBinding) (around' : Around) (first' : ℕ) (e : Fault) → IsOver kind →
      with_part (map cut_binding) (bindings place owner around first gs) ≡ Ok ks → around' ≡ known_inside ks around → first' ≡ first + types_in_groups gs →
      with_part cut (term place owner around' first' b) ≡ Err e → with_part cut (term place owner around first (over_groups kind gs b)) ≡ Err e
  body_fault Product gs b ks around' first' e is told same counted h =
      after_part (map cut_binding) _ cut (bindings place owner around first gs) ks (Err e) told
      (λ bs is. part_fault cut (products (domains bs)) cut (term place owner (inside bs around) (first + types_in_groups gs) b) e (inner cut ks around' first' _ b (Err e) same counted h bs is))
  body_fault Abstraction gs b ks around' first' e is told same counted h =
      after_part (map cut_binding) _ cut (bindings place owner around first gs) ks (Err e) told
      (λ bs is. part_fault cut (abstractions (domains bs)) cut (term place owner (inside bs around) (first + types_in_groups gs) b) e (inner cut ks around' first' _ b (Err e) same counted h bs is))
  body_fault Application gs b ks around' first' e is told same counted h = absurd is

  pub over_whole : (kind : Pair) (gs : Groups) (b : S.Raw) (ks : List KnownBinding) (around' : Around) (first' : ℕ) (k made : Option Tree) → IsOver kind →
      with_part (map cut_binding) (bindings place owner around first gs) ≡ Ok ks → around' ≡ known_inside ks around → first' ≡ first + types_in_groups gs →
      with_part cut (term place owner around' first' b) ≡ Ok k → made ≡ over_all (pair_tree kind) ks k →
      with_part cut (term place owner around first (over_groups kind gs b)) ≡ Ok made
  over_whole Product gs b ks around' first' k made is told same counted h made_is =
      after_part (map cut_binding) _ cut (bindings place owner around first gs) ks (Ok made) told
      (λ bs is. whole_part cut (products (domains bs)) cut (term place owner (inside bs around) (first + types_in_groups gs) b) k made (inner cut ks around' first' _ b (Ok k) same counted h bs is)
      (λ t e. sym (cut_products bs t) ∙ ap (λ z. over_all (pair_tree Product) z (cut t)) is ∙ ap (over_all (pair_tree Product) ks) e ∙ sym made_is))
  over_whole Abstraction gs b ks around' first' k made is told same counted h made_is =
      after_part (map cut_binding) _ cut (bindings place owner around first gs) ks (Ok made) told
      (λ bs is. whole_part cut (abstractions (domains bs)) cut (term place owner (inside bs around) (first + types_in_groups gs) b) k made (inner cut ks around' first' _ b (Ok k) same counted h bs is)
      (λ t e. sym (cut_abstractions bs t) ∙ ap (λ z. over_all (pair_tree Abstraction) z (cut t)) is ∙ ap (over_all (pair_tree Abstraction) ks) e ∙ sym made_is))
  over_whole Application gs b ks around' first' k made is told same counted h made_is = absurd is

  -- groups of binders
  pub groups_fault : (g : Groups) (xs : List Group) (e : Fault) → with_part (map cut_binding) (bindings place owner around first g) ≡ Err e →
      with_part (map cut_binding) (bindings place owner around first (group_list g xs)) ≡ Err e
  groups_fault g [] e h = h
  groups_fault g (x ∷ xs) e h =
      groups_fault (group g (map binder x.binders.items) (tree x.ty)) xs e (after_fault (map cut_binding) _ (map cut_binding) (bindings place owner around first g) e h)

  pub group_fault : (g whole : Groups) (x : Group) (xs rest : List Group) (around' : Around) (first' : ℕ) (ks : List KnownBinding) (e : Fault) →
      with_part (map cut_binding) (bindings place owner around first g) ≡ Ok ks → around' ≡ known_inside ks around → first' ≡ first + types_in_groups g →
      xs ≡ x ∷ rest → group_list g xs ≡ whole →
      with_part cut (term place owner around' first' (tree x.ty)) ≡ Err e → with_part (map cut_binding) (bindings place owner around first whole) ≡ Err e
  group_fault g whole x xs rest around' first' ks e told same counted at is h =
      rw (← is, at) (groups_fault (group g (map binder x.binders.items) (tree x.ty)) rest e
      (after_part (map cut_binding) _ (map cut_binding) (bindings place owner around first g) ks (Err e) told
      (λ bs is. part_fault cut (λ type. bs ++ bindings_from 0 (map binder x.binders.items) type) (map cut_binding) (term place owner (inside bs around) (first + types_in_groups g) (tree x.ty)) e
      (inner cut ks around' first' _ (tree x.ty) (Err e) same counted h bs is))))

  pub group_more : (g : Groups) (xs : List Binder) (a : S.Raw) (around' : Around) (first' : ℕ) (ks made : List KnownBinding) (k : Option Tree) →
      with_part (map cut_binding) (bindings place owner around first g) ≡ Ok ks → around' ≡ known_inside ks around → first' ≡ first + types_in_groups g →
      with_part cut (term place owner around' first' a) ≡ Ok k → made ≡ ks ++ bindings_known 0 xs k →
      with_part (map cut_binding) (bindings place owner around first (group g xs a)) ≡ Ok made
  group_more g xs a around' first' ks made k told same counted h made_is =
      after_part (map cut_binding) _ (map cut_binding) (bindings place owner around first g) ks (Ok made) told
      (λ bs is. whole_part cut (λ type. bs ++ bindings_from 0 xs type) (map cut_binding) (term place owner (inside bs around) (first + types_in_groups g) a) k made
      (inner cut ks around' first' _ a (Ok k) same counted h bs is) (λ t e. more_cut bs ks xs t k is e ∙ sym made_is))

  -- definitions within a term
  pub let_binders_fault : (x : Named) (gs : Groups) (a t u : S.Raw) (e : Fault) →
      with_part (map cut_binding) (bindings place owner around first gs) ≡ Err e → with_part cut (term place owner around first (S.let_in x gs a t u)) ≡ Err e
  let_binders_fault x gs a t u e h = after_fault (map cut_binding) _ cut (bindings place owner around first gs) e h

  pub let_type_fault : (x : Named) (gs : Groups) (a t u : S.Raw) (ks : List KnownBinding) (around' : Around) (first' : ℕ) (e : Fault) →
      with_part (map cut_binding) (bindings place owner around first gs) ≡ Ok ks → around' ≡ known_inside ks around → first' ≡ first + types_in_groups gs →
      with_part cut (term place owner around' first' a) ≡ Err e → with_part cut (term place owner around first (S.let_in x gs a t u)) ≡ Err e
  let_type_fault x gs a t u ks around' first' e told same counted h =
      after_part (map cut_binding) _ cut (bindings place owner around first gs) ks (Err e) told
      (λ bs is. after_fault cut _ cut (term place owner (inside bs around) (first + types_in_groups gs) a) e (inner cut ks around' first' _ a (Err e) same counted h bs is))

  pub let_body_fault : (x : Named) (gs : Groups) (a t u : S.Raw) (ks : List KnownBinding) (around' around'' : Around) (first' first'' : ℕ) (ka : Option Tree) (e : Fault) →
      with_part (map cut_binding) (bindings place owner around first gs) ≡ Ok ks → around' ≡ known_inside ks around → first' ≡ first + types_in_groups gs →
      with_part cut (term place owner around' first' a) ≡ Ok ka → around'' ≡ around' → first'' ≡ first' + types_in a →
      with_part cut (term place owner around'' first'' t) ≡ Err e → with_part cut (term place owner around first (S.let_in x gs a t u)) ≡ Err e
  let_body_fault x gs a t u ks around' around'' first' first'' ka e told same counted tolda same' counted' h =
      after_part (map cut_binding) _ cut (bindings place owner around first gs) ks (Err e) told
      (λ bs is. after_part cut _ cut (term place owner (inside bs around) (first + types_in_groups gs) a) ka (Err e) (inner cut ks around' first' _ a (Ok ka) same counted tolda bs is)
      (λ a' _. first_fault cut _ cut (term place owner (inside bs around) (first + types_in_groups gs + types_in a) t) (term place owner (Some (text_of x) ∷ around) (first + types_in_groups gs + types_in a + types_in t) u) e
      (inner cut ks around'' first'' _ t (Err e) (same' ∙ same) (counted' ∙ ap (λ z. z + types_in a) counted) h bs is)))

  pub let_rest_fault : (x : Named) (gs : Groups) (a t u : S.Raw) (ks : List KnownBinding) (around' around'' around''' : Around) (first' first'' first''' : ℕ) (ka kt : Option Tree) (e : Fault) →
      with_part (map cut_binding) (bindings place owner around first gs) ≡ Ok ks → around' ≡ known_inside ks around → first' ≡ first + types_in_groups gs →
      with_part cut (term place owner around' first' a) ≡ Ok ka → around'' ≡ around' → first'' ≡ first' + types_in a →
      with_part cut (term place owner around'' first'' t) ≡ Ok kt → around''' ≡ Some (text_of x) ∷ around → first''' ≡ first'' + types_in t →
      with_part cut (term place owner around''' first''' u) ≡ Err e → with_part cut (term place owner around first (S.let_in x gs a t u)) ≡ Err e
  let_rest_fault x gs a t u ks around' around'' around''' first' first'' first''' ka kt e told same counted tolda same' counted' toldt same'' counted'' h =
      let count = counted' ∙ ap (λ z. z + types_in a) counted in
      after_part (map cut_binding) _ cut (bindings place owner around first gs) ks (Err e) told
      (λ bs is. after_part cut _ cut (term place owner (inside bs around) (first + types_in_groups gs) a) ka (Err e) (inner cut ks around' first' _ a (Ok ka) same counted tolda bs is)
      (λ a' _. second_fault cut cut _ cut (term place owner (inside bs around) (first + types_in_groups gs + types_in a) t) (term place owner (Some (text_of x) ∷ around) (first + types_in_groups gs + types_in a + types_in t) u) kt e
      (inner cut ks around'' first'' _ t (Ok kt) (same' ∙ same) count toldt bs is)
      (ap (λ z. with_part cut (term place owner z (first + types_in_groups gs + types_in a + types_in t) u)) (sym same'')
      ∙ ap (λ z. with_part cut (term place owner around''' z u)) (sym (counted'' ∙ ap (λ z. z + types_in t) count)) ∙ h)))

  pub let_whole : (x : Named) (gs : Groups) (a t u : S.Raw) (ks : List KnownBinding) (around' around'' around''' : Around) (first' first'' first''' : ℕ) (ka kt ku ka' kt' made : Option Tree) →
      with_part (map cut_binding) (bindings place owner around first gs) ≡ Ok ks → around' ≡ known_inside ks around → first' ≡ first + types_in_groups gs →
      with_part cut (term place owner around' first' a) ≡ Ok ka → around'' ≡ around' → first'' ≡ first' + types_in a →
      with_part cut (term place owner around'' first'' t) ≡ Ok kt → around''' ≡ Some (text_of x) ∷ around → first''' ≡ first'' + types_in t →
      with_part cut (term place owner around''' first''' u) ≡ Ok ku →
      ka' ≡ over_all (pair_tree Product) ks ka → kt' ≡ over_all (pair_tree Abstraction) ks kt → made ≡ of_three (λ t a u. T.let_in t a u) kt' ka' ku →
      with_part cut (term place owner around first (S.let_in x gs a t u)) ≡ Ok made
  let_whole x gs a t u ks around' around'' around''' first' first'' first''' ka kt ku ka' kt' made told same counted tolda same' counted' toldt same'' counted'' toldu isa ist is_made =
      let count = counted' ∙ ap (λ z. z + types_in a) counted in
      after_part (map cut_binding) _ cut (bindings place owner around first gs) ks (Ok made) told
      (λ bs is. after_part cut _ cut (term place owner (inside bs around) (first + types_in_groups gs) a) ka (Ok made) (inner cut ks around' first' _ a (Ok ka) same counted tolda bs is)
      (λ a' ea. both_parts cut cut (λ t u. T.let_in (abstractions (domains bs) t) (products (domains bs) a') u) cut
      (term place owner (inside bs around) (first + types_in_groups gs + types_in a) t) (term place owner (Some (text_of x) ∷ around) (first + types_in_groups gs + types_in a + types_in t) u) kt ku made
      (inner cut ks around'' first'' _ t (Ok kt) (same' ∙ same) count toldt bs is)
      (ap (λ z. with_part cut (term place owner z (first + types_in_groups gs + types_in a + types_in t) u)) (sym same'')
      ∙ ap (λ z. with_part cut (term place owner around''' z u)) (sym (counted'' ∙ ap (λ z. z + types_in t) count)) ∙ toldu)
      (λ t' u' et eu.
      let ea' : ka' ≡ cut (products (domains bs) a') = isa ∙ sym (sym (cut_products bs a') ∙ ap (λ z. over_all (pair_tree Product) z (cut a')) is ∙ ap (over_all (pair_tree Product) ks) ea) in
      let et' : kt' ≡ cut (abstractions (domains bs) t') = ist ∙ sym (sym (cut_abstractions bs t') ∙ ap (λ z. over_all (pair_tree Abstraction) z (cut t')) is ∙ ap (over_all (pair_tree Abstraction) ks) et) in
      sym (cut_let (abstractions (domains bs) t') (products (domains bs) a') u') ∙ rw (is_made, ea', et', eu) refl)))
