-- The guard of a Fix stays where the marks of the arguments of more constructors are known, and so where the
-- environment grows. One induction over the smaller terms, one over the guarded ones. The marks of a constructor's
-- arguments are the same over two environments that show the same blocks of what stands in its type. The typing of a
-- Fix over a greater environment needs it.
use Rattle.std.proofs.Common.{◌≡◌, inl, inr, ℕ, zero, suc, if◌then◌else◌, List, [], ◌∷◌, drop, Option, Some, None, refl, ap, ap₂, ◌∙◌}
use Rattle.cic_terms.specs.Tree.{Tree, rel, Children, prod, app, ind}
use Rattle.cic_terms.specs.Mentions.{Mentions}
use Rattle.cic_names.specs.declared.name.GlobalId.{GlobalId}
use Rattle.cic_rules.specs.Environment.{Environment, TypeInBlock, Block, TypeDeclaration, ConstructorDeclaration, whole_block, element, bare_ids}
use Rattle.cic_rules.specs.Telescopes.{is_among, domains_of, Function}
use Rattle.cic_rules.specs.Shapes.{GuardShape, own_block, nest, GuardShapes, no_more, unshaped, shaped, before_shapes, under_shapes, shape_of_other, shape_of_type}
use Rattle.cic_rules.specs.Guard.{Mark, Marks, mark_of_shape, argument_marks, constructor_marks, type_marks, marks_in_block, marks_by_shape, marks_with_own, recursive_marks, recursive_places, Smaller, smaller_variable, smaller_application, smaller_abstraction, smaller_empty_match, smaller_match, ValueShape, no_value_shape, recursive_value, smaller_value, SmallerBranches, no_smaller_branch, smaller_branch, smaller_plain_branch, GuardedTerm, guarded_variable, guarded_call, guarded_parts, guarded_match, guarded_inner_fix, GuardedTerms, none_guarded, more_guarded, GuardedParts, no_guarded_part, guarded_part, GuardedBranches, no_guarded_branch, guarded_branch, guarded_plain_branch, GuardedToBody, guarded_last_part, guarded_earlier_part, GuardedFunction, EachGuarded, Guarded}
use Rattle.cic_metatheory.specs.calls.Guards.{ShowsBlocks}
use Rattle.cic_metatheory.specs.Growth.{SeesTypes}

module _ (known more : (of : Option GuardShape) → GlobalId → (place : ℕ) → Option (List Mark)) (places : List ℕ)
    (grows : (of : Option GuardShape) (id : GlobalId) (place : ℕ) (ms : List Mark) → known of id place ≡ Some ms → more of id place ≡ Some ms) where
  mutual
    smaller_grows : {m : Marks} {t : Tree} {s : GuardShape} → Smaller known places m t s → Smaller more places m t s
    smaller_grows (smaller_variable e) = smaller_variable e
    smaller_grows (smaller_application c) = smaller_application (smaller_grows c)
    smaller_grows (smaller_abstraction c) = smaller_abstraction (smaller_grows c)
    smaller_grows smaller_empty_match = smaller_empty_match
    smaller_grows (smaller_match of k c) = smaller_match of (known_grows k) (smaller_branches_grow c)

    known_grows : {m : Marks} {t : Tree} {of : Option GuardShape} → ValueShape known places m t of → ValueShape more places m t of
    known_grows no_value_shape = no_value_shape
    known_grows (recursive_value e) = recursive_value e
    known_grows (smaller_value c) = smaller_value (smaller_grows c)

    smaller_branches_grow : {m : Marks} {s : GuardShape} {of : Option GuardShape} {id : GlobalId} {place : ℕ} {ks : Children} →
        SmallerBranches known places m s of id place ks → SmallerBranches more places m s of id place ks
    smaller_branches_grow no_smaller_branch = no_smaller_branch
    smaller_branches_grow (smaller_branch {known = of} {id = id} {place = place} ms e n c cs) =
        smaller_branch ms (grows of id place ms e) n (smaller_grows c) (smaller_branches_grow cs)
    smaller_branches_grow (smaller_plain_branch c cs) = smaller_plain_branch (smaller_grows c) (smaller_branches_grow cs)

  mutual
    pub guarded_term_grows : {m : Marks} {t : Tree} → GuardedTerm known places m t → GuardedTerm more places m t
    guarded_term_grows (guarded_variable n) = guarded_variable n
    guarded_term_grows (guarded_call x j k us u s e q p a c cs) = guarded_call x j k us u s e q p a (smaller_grows c) (all_guarded_grow cs)
    guarded_term_grows (guarded_parts c) = guarded_parts (guarded_parts_grow c)
    guarded_term_grows (guarded_match of k p v c) = guarded_match of (known_grows k) (guarded_term_grows p) (guarded_term_grows v) (guarded_branches_grow c)
    guarded_term_grows (guarded_inner_fix which f parts us u s e a c b cs) =
        guarded_inner_fix which f parts us u s e a (smaller_grows c) (guarded_to_body_grows b) (all_guarded_grow cs)

    all_guarded_grow : {m : Marks} {ts : List Tree} → GuardedTerms known places m ts → GuardedTerms more places m ts
    all_guarded_grow none_guarded = none_guarded
    all_guarded_grow (more_guarded c cs) = more_guarded (guarded_term_grows c) (all_guarded_grow cs)

    guarded_parts_grow : {m : Marks} {ks : Children} → GuardedParts known places m ks → GuardedParts more places m ks
    guarded_parts_grow no_guarded_part = no_guarded_part
    guarded_parts_grow (guarded_part c cs) = guarded_part (guarded_term_grows c) (guarded_parts_grow cs)

    guarded_branches_grow : {m : Marks} {of : Option GuardShape} {id : GlobalId} {place : ℕ} {ks : Children} →
        GuardedBranches known places m of id place ks → GuardedBranches more places m of id place ks
    guarded_branches_grow no_guarded_branch = no_guarded_branch
    guarded_branches_grow (guarded_branch {known = of} {id = id} {place = place} ms e n c cs) =
        guarded_branch ms (grows of id place ms e) n (guarded_term_grows c) (guarded_branches_grow cs)
    guarded_branches_grow (guarded_plain_branch c cs) = guarded_plain_branch (guarded_term_grows c) (guarded_branches_grow cs)

    guarded_to_body_grows : {m : Marks} {ms : List Mark} {ks : Children} → GuardedToBody known places m ms ks → GuardedToBody more places m ms ks
    guarded_to_body_grows (guarded_last_part n c) = guarded_last_part n (guarded_term_grows c)
    guarded_to_body_grows (guarded_earlier_part c cs) = guarded_earlier_part (guarded_term_grows c) (guarded_to_body_grows cs)

-- The shape of a type over two environments that show the same blocks of what stands in it
module _ (E E' : Environment) (own : List GlobalId) where
  abbrev pub Seen : Tree → Type 0
  Seen t = (J : GlobalId) → Mentions J t → whole_block E' J ≡ whole_block E J

  shape_same : (t : Tree) (variables arguments : GuardShapes) → Seen t → shape_of_type E' own variables arguments t ≡ shape_of_type E own variables arguments t
  shape_same (app f u) vs us h =
      ap (λ s. shape_of_type E' own vs (before_shapes s us) f) (shape_same u vs no_more (λ J m. h J (inr (inr (inl m)))))
      ∙ shape_same f vs (before_shapes (shape_of_type E own vs no_more u) us) (λ J m. h J (inr (inl m)))
  shape_same (ind id) vs us h = ap (λ o. if is_among id own then Some own_block else shape_of_other o us) (h id (inl refl))
  shape_same (prod a b) vs no_more h = shape_same b (unshaped vs) no_more (λ J m. h J (inr (inr (inl m))))
  shape_same (prod a b) vs (unshaped us) h = refl
  shape_same (prod a b) vs (shaped s us) h = refl
  shape_same (rel x) vs no_more h = refl
  shape_same (rel x) vs (unshaped us) h = refl
  shape_same (rel x) vs (shaped s us) h = refl
  shape_same t vs us h = refl

  -- The marks of arguments
  abbrev AllSeen : List Tree → Type 0
  AllSeen [] = Unit {0}
  AllSeen (a ∷ as_) = Seen a × AllSeen as_

  dropped_seen : (r : ℕ) (as_ : List Tree) → AllSeen as_ → AllSeen (drop r as_)
  dropped_seen zero as_ h = h
  dropped_seen (suc r) [] h = tt
  dropped_seen (suc r) (a ∷ as_) h = dropped_seen r as_ h.1

  domains_seen : (t : Tree) → Seen t → AllSeen (domains_of t)
  domains_seen (prod a b) h = (λ J m. h J (inr (inl m)), domains_seen b (λ J m. h J (inr (inr (inl m)))))
  domains_seen t h = tt

  arguments_same : (as_ : List Tree) (variables : GuardShapes) → AllSeen as_ → argument_marks E' own variables as_ ≡ argument_marks E own variables as_
  arguments_same [] vs h = refl
  arguments_same (a ∷ as_) vs h = ap₂ (λ s ms. mark_of_shape s ∷ ms) (shape_same a vs no_more h.0) (arguments_same as_ (unshaped vs) h.1)

  constructor_same : (r : ℕ) (variables : GuardShapes) (o : Option ConstructorDeclaration) → ((c : ConstructorDeclaration) → o ≡ Some c → Seen c.type) →
      constructor_marks E' own variables r o ≡ constructor_marks E own variables r o
  constructor_same r vs None h = refl
  constructor_same r vs (Some c) h =
      ap Some (arguments_same (drop r (domains_of c.type)) vs (dropped_seen r (domains_of c.type) (domains_seen c.type (h c refl))))

  type_same : (block : Block) (place : ℕ) (variables : GuardShapes) (o : Option TypeDeclaration) →
      ((T : TypeDeclaration) (c : ConstructorDeclaration) → o ≡ Some T → element T.constructors place ≡ Some c → Seen c.type) →
      type_marks E' own variables block place o ≡ type_marks E own variables block place o
  type_same block place vs None h = refl
  type_same block place vs (Some T) h = constructor_same block.parameters vs (element T.constructors place) (λ c e. h T c refl e)

-- The marks that two environments show
module _ (E E' : Environment) (shows : ShowsBlocks E E') (seen : SeesTypes E E') where
  in_block_grows : (own types : List GlobalId) (variables : GuardShapes) (id : GlobalId) (place : ℕ) (o : Option TypeInBlock) (ms : List Mark) → whole_block E id ≡ o →
      marks_in_block E own types variables id place o ≡ Some ms → marks_in_block E' own types variables id place (whole_block E' id) ≡ Some ms
  in_block_grows own types vs id place None ms q e = absurd cc
  in_block_grows own types vs id place (Some J) ms q e =
      ap (marks_in_block E' own types vs id place) (shows id J q)
      ∙ ap (λ o. if is_among id types then o else None)
      (type_same E E' own J.block place vs (element J.block.types J.index)
      (λ T c p r K m. seen id K (record { place = J; type = T; number = place; constructor = c; shown = q; is_type = p; is_constructor = r; mentions = m })))
      ∙ e

  by_shape_grows : (own : List GlobalId) (of : Option GuardShape) (id : GlobalId) (place : ℕ) (ms : List Mark) →
      marks_by_shape E own of id place ≡ Some ms → marks_by_shape E' own of id place ≡ Some ms
  by_shape_grows own None id place ms e = absurd cc
  by_shape_grows own (Some own_block) id place ms e = in_block_grows own own no_more id place (whole_block E id) ms refl e
  by_shape_grows own (Some (nest types ps)) id place ms e = in_block_grows own types (under_shapes ps no_more) id place (whole_block E id) ms refl e

  with_own_grows : (head : GlobalId) (o : Option TypeInBlock) (of : Option GuardShape) (id : GlobalId) (place : ℕ) (ms : List Mark) → whole_block E head ≡ o →
      marks_with_own E o of id place ≡ Some ms → recursive_marks E' head of id place ≡ Some ms
  with_own_grows head None of id place ms q e = absurd cc
  with_own_grows head (Some I) of id place ms q e =
      ap (λ o. marks_with_own E' o of id place) (shows head I q) ∙ by_shape_grows (bare_ids I.block.types) of id place ms e

  pub recursive_marks_grow : (head : GlobalId) (of : Option GuardShape) (id : GlobalId) (place : ℕ) (ms : List Mark) →
      recursive_marks E head of id place ≡ Some ms → recursive_marks E' head of id place ≡ Some ms
  recursive_marks_grow head of id place ms e = with_own_grows head (whole_block E head) of id place ms refl e

  guarded_function_grows : (all : List Function) (f : Function) → GuardedFunction E all f → GuardedFunction E' all f
  guarded_function_grows all f g = record {
    head = g.head;
    arguments = g.arguments;
    recursive_domain = g.recursive_domain;
    guarded_body = guarded_term_grows (recursive_marks E g.head) (recursive_marks E' g.head) (recursive_places all) (recursive_marks_grow g.head) g.guarded_body;
  }

  each_guarded_grows : (all fs : List Function) → EachGuarded E all fs → EachGuarded E' all fs
  each_guarded_grows all [] g = tt
  each_guarded_grows all (f ∷ fs) g = (guarded_function_grows all f g.0, each_guarded_grows all fs g.1)

  pub guarded_grows : (fs : List Function) → Guarded E fs → Guarded E' fs
  guarded_grows fs g = each_guarded_grows fs fs g
