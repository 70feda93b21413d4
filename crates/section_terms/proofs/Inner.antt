-- A declaration that was generalised over inner hypotheses, and then over outer ones, with the constants applied to
-- the inner variables and then to the outer ones.
use Rattle.std.proofs.Common.{◌≡◌, ℕ, Bool, true, false, ◌||◌, if◌then◌else◌, Option, Some, None, option_map, List, [], ◌∷◌, ◌++◌, map, refl, sym, ap, ap₂, ◌∙◌, arith}
use Rattle.cic_names.specs.declared.name.GlobalId.{GlobalId}
use Rattle.cic_names.specs.Sameness.{same_id}
use Rattle.cic_names.proofs.Equality.{same_id_decides}
use Rattle.cic_terms.specs.Tree.{Former, ConstF, IndF, CtorF, Tree, rel, node, no_child, prod, lam, let_in, app, const, ind, ctor}
use Rattle.cic_terms.specs.Lift.{lift_tree}
use Rattle.cic_rules.specs.Telescopes.{apply}
use Rattle.section_terms.specs.Names.{replace_names}
use Rattle.section_terms.specs.Hypotheses.{Hypothesis}
use Rattle.section_terms.specs.Used.{is_in}
use Rattle.section_terms.specs.Discharge.{in_place_of, abstracted, with_arguments, applied, hypotheses_applied, binding, over_part, parameter, over_block_part, generalised_type, generalised_body, generalised_part}
use Rattle.section_terms.specs.Laws.{HaveNoArguments, joined, IsFresh, AreFresh}
use Rattle.section_terms.proofs.Replacing.{lift_none, replaced_twice, replaced_apply}
use Rattle.section_terms.proofs.Twice.{part_twice, block_part_twice}

abbrev Arguments : Type 0
Arguments = GlobalId → List GlobalId

abbrev constants : List GlobalId → List Tree
constants = map (λ x. const x)

-- Arguments are not applied to anything.
each_stays : (arguments : Arguments) (xs : List GlobalId) → HaveNoArguments arguments xs → map (replace_names (with_arguments arguments) 0 0) (constants xs) ≡ constants xs
each_stays arguments [] none = refl
each_stays arguments (x ∷ xs) none =
    ap₂ ◌∷◌ (ap (λ (ys : List GlobalId). lift_tree 0 0 (apply (const x) (constants ys))) none.0) (each_stays arguments xs none.1)

apply_more : (f : Tree) (xs ys : List GlobalId) → apply (apply f (constants xs)) (constants ys) ≡ apply f (constants (xs ++ ys))
apply_more f [] ys = refl
apply_more f (x ∷ xs) ys = apply_more (app f (const x)) xs ys

lifted_constants : (at : ℕ) (f : Tree) (xs : List GlobalId) → lift_tree 0 at (apply f (constants xs)) ≡ apply (lift_tree 0 at f) (constants xs)
lifted_constants at f [] = refl
lifted_constants at f (x ∷ xs) = lifted_constants at (app f (const x)) xs

-- No argument is replaced that is not among those.
not_replaced : (id : GlobalId) (w : Tree) (by : ℕ) (xs : List GlobalId) → is_in id xs ≡ false → map (replace_names (in_place_of id w) by 0) (constants xs) ≡ constants xs
not_replaced id w by [] none = refl
not_replaced id w by (x ∷ xs) none = both (same_id id x) (is_in id xs) none (not_replaced id w by xs)
  where
    both : (b rest : Bool) → (b || rest) ≡ false → (rest ≡ false → map (replace_names (in_place_of id w) by 0) (constants xs) ≡ constants xs) →
        lift_tree 0 0 (if b then w else const x) ∷ map (replace_names (in_place_of id w) by 0) (constants xs) ≡ const x ∷ constants xs
    both true rest none more = cc
    both false rest none more = ap (λ (us : List Tree). const x ∷ us) (more none)

-- Two rows of arguments are one.
one_row : (outer inner : Arguments) (f : Tree) (c : GlobalId) → HaveNoArguments outer (inner c) → replace_names (with_arguments outer) 0 0 f ≡ apply f (constants (outer c)) →
    replace_names (with_arguments outer) 0 0 (apply f (constants (inner c))) ≡ apply f (constants (joined outer inner c))
one_row outer inner f c none e =
    replaced_apply (with_arguments outer) 0 0 f (constants (inner c)) ∙ ap₂ apply e (each_stays outer (inner c) none)
    ∙ apply_more f (outer c) (inner c)

pub applied_twice : (outer inner : Arguments) (t : Tree) → ((c : GlobalId) → HaveNoArguments outer (inner c)) → applied outer (applied inner t) ≡ applied (joined outer inner) t
applied_twice outer inner t none =
    replaced_twice (with_arguments inner) (with_arguments outer) (with_arguments (joined outer inner)) 0 0 0 0 0 t (omega arith) (omega arith)
    (record {
      constants = λ c. one_row outer inner (const c) c (none c) (lift_none 0 (apply (const c) (constants (outer c))));
      types = λ c. one_row outer inner (ind c) c (none c) (lift_none 0 (apply (ind c) (constants (outer c))));
      constructors = λ c. one_row outer inner (ctor c) c (none c) (lift_none 0 (apply (ctor c) (constants (outer c))));
    })

-- The outer arguments go through what stands in place of an inner hypothesis.
abbrev in_place_or_applied : Arguments → GlobalId → Tree → Former → Tree
in_place_or_applied outer id w (ConstF c) = if same_id id c then w else apply (const c) (constants (outer c))
in_place_or_applied outer id w (IndF c) = apply (ind c) (constants (outer c))
in_place_or_applied outer id w (CtorF c) = apply (ctor c) (constants (outer c))
in_place_or_applied outer id w f = node f no_child

first_way : (outer : Arguments) (by : ℕ) (b : Bool) (w : Tree) (c : GlobalId) →
    replace_names (with_arguments outer) 0 by (if b then w else const c) ≡ (if b then replace_names (with_arguments outer) 0 by w else apply (const c) (constants (outer c)))
first_way outer by true w c = refl
first_way outer by false w c = lifted_constants by (const c) (outer c)

second_way : (outer : Arguments) (id c : GlobalId) (by : ℕ) (w : Tree) → IsFresh outer id →
    replace_names (in_place_of id w) by 0 (apply (const c) (constants (outer c))) ≡ (if same_id id c then w else apply (const c) (constants (outer c)))
second_way outer id c by w fresh =
    replaced_apply (in_place_of id w) by 0 (const c) (constants (outer c))
    ∙ ap₂ apply (lift_none 0 (if same_id id c then w else const c)) (not_replaced id w by (outer c) (fresh.no_argument c))
    ∙ choose (same_id id c) refl
  where
    choose : (b : Bool) → same_id id c ≡ b → apply (if b then w else const c) (constants (outer c)) ≡ (if b then w else apply (const c) (constants (outer c)))
    choose true e = ap (λ (xs : List GlobalId). apply w (constants xs)) (ap outer (sym ((same_id_decides id c).0 e)) ∙ fresh.alone)
    choose false e = refl

name_stays : (id c : GlobalId) (w f : Tree) (by : ℕ) (xs : List GlobalId) → is_in id xs ≡ false → replace_names (in_place_of id w) by 0 f ≡ f →
    replace_names (in_place_of id w) by 0 (apply f (constants xs)) ≡ apply f (constants xs)
name_stays id c w f by xs none e = replaced_apply (in_place_of id w) by 0 f (constants xs) ∙ ap₂ apply e (not_replaced id w by xs none)

in_place_applied : (outer : Arguments) (id : GlobalId) (w : Tree) (by : ℕ) (t : Tree) → IsFresh outer id →
    replace_names (with_arguments outer) 0 by (replace_names (in_place_of id w) by 0 t)
    ≡ replace_names (in_place_of id (replace_names (with_arguments outer) 0 by w)) by 0 (applied outer t)
in_place_applied outer id w by t fresh =
    let w' : Tree = replace_names (with_arguments outer) 0 by w in
    replaced_twice (in_place_of id w) (with_arguments outer) (in_place_or_applied outer id w') by 0 by 0 by t (omega arith) (omega arith)
    (record {
      constants = λ c. first_way outer by (same_id id c) w c;
      types = λ c. lifted_constants by (ind c) (outer c);
      constructors = λ c. lifted_constants by (ctor c) (outer c);
    })
    ∙ sym (replaced_twice (with_arguments outer) (in_place_of id w') (in_place_or_applied outer id w') 0 by by 0 0 t (omega arith) (omega arith)
    (record {
      constants = λ c. second_way outer id c by w' fresh;
      types = λ c. name_stays id c w' (ind c) by (outer c) (fresh.no_argument c) refl;
      constructors = λ c. name_stays id c w' (ctor c) by (outer c) (fresh.no_argument c) refl;
    }))

-- Through the binders of inner hypotheses
abbrev Goes : (Tree → Tree → Tree) → Type 0
Goes bind = (outer : Arguments) (a b : Tree) → applied outer (bind a b) ≡ bind (applied outer a) (replace_names (with_arguments outer) 0 1 b)

through_binding : (bind : Tree → Tree → Tree) → Goes bind → (outer : Arguments) (id : GlobalId) (body : Option Tree) (type rest : Tree) → IsFresh outer id →
    applied outer (binding bind body type (abstracted id rest)) ≡ binding bind (option_map (applied outer) body) (applied outer type) (abstracted id (applied outer rest))
through_binding bind goes outer id None type rest fresh = goes outer type (abstracted id rest) ∙ ap (bind (applied outer type)) (in_place_applied outer id (rel 0) 1 rest fresh)
through_binding bind goes outer id (Some body) type rest fresh = ap (let_in (applied outer body) (applied outer type)) (in_place_applied outer id (rel 0) 1 rest fresh)

through_part : (bind : Tree → Tree → Tree) → Goes bind → (outer : Arguments) (hs : List Hypothesis) (t : Tree) → AreFresh outer hs →
    applied outer (over_part bind hs t) ≡ over_part bind (hypotheses_applied outer hs) (applied outer t)
through_part bind goes outer [] t fresh = refl
through_part bind goes outer (h ∷ hs) t fresh =
    through_binding bind goes outer h.id h.body h.type (over_part bind hs t) fresh.0
    ∙ ap (λ (u : Tree). binding bind (option_map (applied outer) h.body) (applied outer h.type) (abstracted h.id u)) (through_part bind goes outer hs t fresh.1)

through_parameter : (outer : Arguments) (id : GlobalId) (body : Option Tree) (type rest : Tree) → IsFresh outer id →
    applied outer (parameter id body type rest) ≡ parameter id (option_map (applied outer) body) (applied outer type) (applied outer rest)
through_parameter outer id None type rest fresh = ap (prod (applied outer type)) (in_place_applied outer id (rel 0) 1 rest fresh)
through_parameter outer id (Some body) type rest fresh = in_place_applied outer id body 0 rest fresh

through_block_part : (outer : Arguments) (hs : List Hypothesis) (t : Tree) → AreFresh outer hs →
    applied outer (over_block_part hs t) ≡ over_block_part (hypotheses_applied outer hs) (applied outer t)
through_block_part outer [] t fresh = refl
through_block_part outer (h ∷ hs) t fresh =
    through_parameter outer h.id h.body h.type (over_block_part hs t) fresh.0
    ∙ ap (parameter h.id (option_map (applied outer) h.body) (applied outer h.type)) (through_block_part outer hs t fresh.1)

still_fresh : (outer inner : Arguments) (hs : List Hypothesis) → AreFresh outer hs → AreFresh outer (hypotheses_applied inner hs)
still_fresh outer inner [] fresh = tt
still_fresh outer inner (h ∷ hs) fresh = (fresh.0, still_fresh outer inner hs fresh.1)

abbrev hypothesis_with : GlobalId → Tree → Option Tree → Hypothesis
hypothesis_with id type body = record { id = id; type = type; body = body }

bodies_twice : (outer inner : Arguments) (body : Option Tree) → ((c : GlobalId) → HaveNoArguments outer (inner c)) →
    option_map (applied outer) (option_map (applied inner) body) ≡ option_map (applied (joined outer inner)) body
bodies_twice outer inner None none = refl
bodies_twice outer inner (Some t) none = ap Some (applied_twice outer inner t none)

hypotheses_twice : (outer inner : Arguments) (hs : List Hypothesis) → ((c : GlobalId) → HaveNoArguments outer (inner c)) →
    hypotheses_applied outer (hypotheses_applied inner hs) ≡ hypotheses_applied (joined outer inner) hs
hypotheses_twice outer inner [] none = refl
hypotheses_twice outer inner (h ∷ hs) none =
    ap₂ ◌∷◌ (ap₂ (hypothesis_with h.id) (applied_twice outer inner h.type none) (bodies_twice outer inner h.body none)) (hypotheses_twice outer inner hs none)

inner_then_outer : (bind : Tree → Tree → Tree) → Goes bind → (outer inner : Arguments) (os is : List Hypothesis) (t : Tree) → ((c : GlobalId) → HaveNoArguments outer (inner c)) → AreFresh outer is →
    over_part bind (hypotheses_applied outer os) (applied outer (over_part bind (hypotheses_applied inner is) (applied inner t)))
    ≡ over_part bind (hypotheses_applied outer os ++ hypotheses_applied (joined outer inner) is) (applied (joined outer inner) t)
inner_then_outer bind goes outer inner os is t none fresh =
    ap (over_part bind (hypotheses_applied outer os))
    (through_part bind goes outer (hypotheses_applied inner is) (applied inner t) (still_fresh outer inner is fresh)
    ∙ ap₂ (over_part bind) (hypotheses_twice outer inner is none) (applied_twice outer inner t none))
    ∙ part_twice bind (hypotheses_applied outer os) (hypotheses_applied (joined outer inner) is) (applied (joined outer inner) t)

pub types_inner_then_outer : (outer inner : Arguments) (os is : List Hypothesis) (t : Tree) → ((c : GlobalId) → HaveNoArguments outer (inner c)) → AreFresh outer is →
    generalised_type outer os (generalised_type inner is t)
    ≡ over_part (λ a b. prod a b) (hypotheses_applied outer os ++ hypotheses_applied (joined outer inner) is) (applied (joined outer inner) t)
types_inner_then_outer = inner_then_outer (λ a b. prod a b) (λ outer a b. refl)

pub bodies_inner_then_outer : (outer inner : Arguments) (os is : List Hypothesis) (t : Tree) → ((c : GlobalId) → HaveNoArguments outer (inner c)) → AreFresh outer is →
    generalised_body outer os (generalised_body inner is t)
    ≡ over_part (λ a b. lam a b) (hypotheses_applied outer os ++ hypotheses_applied (joined outer inner) is) (applied (joined outer inner) t)
bodies_inner_then_outer = inner_then_outer (λ a b. lam a b) (λ outer a b. refl)

pub parts_inner_then_outer : (outer inner : Arguments) (os is : List Hypothesis) (t : Tree) → ((c : GlobalId) → HaveNoArguments outer (inner c)) → AreFresh outer is →
    generalised_part outer os (generalised_part inner is t)
    ≡ over_block_part (hypotheses_applied outer os ++ hypotheses_applied (joined outer inner) is) (applied (joined outer inner) t)
parts_inner_then_outer outer inner os is t none fresh =
    ap (over_block_part (hypotheses_applied outer os))
    (through_block_part outer (hypotheses_applied inner is) (applied inner t) (still_fresh outer inner is fresh)
    ∙ ap₂ over_block_part (hypotheses_twice outer inner is none) (applied_twice outer inner t none))
    ∙ block_part_twice (hypotheses_applied outer os) (hypotheses_applied (joined outer inner) is) (applied (joined outer inner) t)
