-- A Fix that is guarded without shapes is guarded: each smaller term without shapes is smaller with shape Own, and more
-- variables are smaller. One induction over the smaller terms, one over the guarded ones.
use Rattle.std.proofs.Common.{◌≡◌, ◌≢◌, ℕ, zero, suc, ◌+◌, Bool, true, false, if◌then◌else◌, List, [], ◌∷◌, ◌++◌, length, map, drop, replicate, Option, Some, None, refl, sym, ap, ◌∙◌, arith, subst}
use Rattle.cic_terms.specs.Tree.{over, Tree, Children, no_child, child, prod, app, ind}
use Rattle.cic_names.specs.declared.name.GlobalId.{GlobalId}
use Rattle.cic_rules.specs.Environment.{Environment, TypeInBlock, Block, TypeDeclaration, ConstructorDeclaration, bare_ids, environment_ids, whole_block, element}
use Rattle.cic_rules.specs.Telescopes.{is_among, head_of, domains_of, conclusion_of, Function}
use Rattle.cic_counted.specs.BlockTests.{is_type_among}
use Rattle.cic_rules.specs.Shapes.{GuardShape, own_block, GuardShapes, no_more, unshaped, before_shapes, shape_of_type}
use Rattle.cic_rules.specs.Guard.{Mark, plain, main, smaller, function, Marks, all_plain, under_mark, under_marks, under_plain, mark_of_shape, argument_marks, constructor_marks, type_marks, marks_in_block, marks_with_own, recursive_marks, function_marks, domain_marks, recursive_places, Smaller, smaller_variable, smaller_application, smaller_abstraction, smaller_empty_match, smaller_match, ValueShape, no_value_shape, recursive_value, smaller_value, SmallerBranches, no_smaller_branch, smaller_branch, smaller_plain_branch, GuardedTerm, guarded_variable, guarded_call, guarded_parts, guarded_match, GuardedTerms, none_guarded, more_guarded, GuardedParts, no_guarded_part, guarded_part, GuardedBranches, no_guarded_branch, guarded_branch, guarded_plain_branch, EachGuarded, Guarded}
use Rattle.cic_rules.specs.Formed.{Distinct}
use Rattle.cic_soundness.specs.calls.PlainGuard as P
use Rattle.cic_metatheory.proofs.environments.Blocks.{one_block}
use Rattle.cic_soundness.proofs.blocks.Nested.{among}
use Rattle.cic_metatheory.proofs.basics.Options.{some_inj, some_is_not_none}

-- A variable has at least the mark that it has without shapes.
data AtLeast : P.Mark → Mark → Type 0 where
  stays_plain : AtLeast P.plain plain
  becomes_smaller : {s : GuardShape} → AtLeast P.plain (smaller s)
  stays_main : AtLeast P.main main
  is_of_own_block : AtLeast P.smaller (smaller own_block)
  stays_function : {j : ℕ} → AtLeast (P.function j) (function j)

abbrev AllAtLeast : List P.Mark → List Mark → Type 0
AllAtLeast [] [] = Unit {0}
AllAtLeast (m ∷ ms) (n ∷ ns) = AtLeast m n × AllAtLeast ms ns
AllAtLeast _ _ = ⊥

abbrev MarksAtLeast : P.Marks → Marks → Type 0
MarksAtLeast f f' = (x : ℕ) → AtLeast (f x) (f' x)

as_long : (ms : List P.Mark) (ns : List Mark) → AllAtLeast ms ns → length ms ≡ length ns
as_long [] [] h = refl
as_long (m ∷ ms) (n ∷ ns) h = ap suc (as_long ms ns h.1)
as_long [] (n ∷ ns) h = absurd h
as_long (m ∷ ms) [] h = absurd h

under_one : (m : P.Mark) (n : Mark) (f : P.Marks) (f' : Marks) → AtLeast m n → MarksAtLeast f f' → MarksAtLeast (P.under_mark m f) (under_mark n f')
under_one m n f f' h k zero = h
under_one m n f f' h k (suc x) = k x

under_all : (ms : List P.Mark) (ns : List Mark) (f : P.Marks) (f' : Marks) → AllAtLeast ms ns → MarksAtLeast f f' → MarksAtLeast (P.under_marks ms f) (under_marks ns f')
under_all [] [] f f' h k = k
under_all (m ∷ ms) (n ∷ ns) f f' h k = under_all ms ns (P.under_mark m f) (under_mark n f') h.1 (under_one m n f f' h.0 k)
under_all [] (n ∷ ns) f f' h k = absurd h
under_all (m ∷ ms) [] f f' h k = absurd h

all_plain_marks : (n : ℕ) → AllAtLeast (replicate n P.plain) (replicate n plain)
all_plain_marks zero = tt
all_plain_marks (suc n) = (stays_plain, all_plain_marks n)

under_plain_marks : (n : ℕ) (f : P.Marks) (f' : Marks) → MarksAtLeast f f' → MarksAtLeast (P.under_plain n f) (under_plain n f')
under_plain_marks n f f' k = under_all (replicate n P.plain) (replicate n plain) f f' (all_plain_marks n) k

-- What a mark says
smaller_there : {m : P.Mark} {n : Mark} → AtLeast m n → m ≡ P.smaller → n ≡ smaller own_block
smaller_there stays_plain e = absurd (grind arith)
smaller_there becomes_smaller e = absurd (grind arith)
smaller_there stays_main e = absurd (grind arith)
smaller_there is_of_own_block e = refl
smaller_there stays_function e = absurd (grind arith)

main_there : {m : P.Mark} {n : Mark} → AtLeast m n → m ≡ P.main → n ≡ main
main_there stays_plain e = absurd (grind arith)
main_there becomes_smaller e = absurd (grind arith)
main_there stays_main e = refl
main_there is_of_own_block e = absurd (grind arith)
main_there stays_function e = absurd (grind arith)

function_there : {m : P.Mark} {n : Mark} → AtLeast m n → (j : ℕ) → m ≡ P.function j → n ≡ function j
function_there stays_plain j e = absurd (grind arith)
function_there becomes_smaller j e = absurd (grind arith)
function_there stays_main j e = absurd (grind arith)
function_there is_of_own_block j e = absurd (grind arith)
function_there (stays_function {j = i}) j e = let z : i ≡ j = cc in ap function z

no_function_there : {m : P.Mark} {n : Mark} → AtLeast m n → ((j : ℕ) → m ≢ P.function j) → (j : ℕ) → n ≢ function j
no_function_there stays_plain h j e = grind arith
no_function_there becomes_smaller h j e = grind arith
no_function_there stays_main h j e = grind arith
no_function_there is_of_own_block h j e = grind arith
no_function_there (stays_function {j = i}) h j e = h i refl

module _ (old : GlobalId → ℕ → Option (List P.Mark)) (new : (known : Option GuardShape) → GlobalId → (place : ℕ) → Option (List Mark)) (places : List ℕ)
    (at_least : (id : GlobalId) (place : ℕ) (ms : List P.Mark) → old id place ≡ Some ms → (ns : List Mark) × (new (Some own_block) id place ≡ Some ns) × AllAtLeast ms ns) where
  mutual
    smaller_with_shape : {f : P.Marks} {t : Tree} → P.Smaller old places f t → (f' : Marks) → MarksAtLeast f f' → Smaller new places f' t own_block
    smaller_with_shape (P.smaller_variable {x = x} e) f' k = smaller_variable (smaller_there (k x) e)
    smaller_with_shape (P.smaller_application c) f' k = smaller_application (smaller_with_shape c f' k)
    smaller_with_shape (P.smaller_abstraction {marks = f} c) f' k = smaller_abstraction (smaller_with_shape c (under_mark plain f') (under_one P.plain plain f f' stays_plain k))
    smaller_with_shape (P.smaller_match {branches = no_child} c) f' k = smaller_empty_match
    smaller_with_shape (P.smaller_match {id = id} {branches = child b t ks} c) f' k = smaller_match None no_value_shape (parts_with_shape c id 0 f' k)
    smaller_with_shape (P.smaller_match_on_smaller {branches = no_child} v c) f' k = smaller_empty_match
    smaller_with_shape (P.smaller_match_on_smaller {branches = child b t ks} v c) f' k = smaller_match (Some own_block) (known_with_shape v f' k) (branches_with_shape c f' k)

    known_with_shape : {f : P.Marks} {t : Tree} → P.ValueShape old places f t → (f' : Marks) → MarksAtLeast f f' → ValueShape new places f' t (Some own_block)
    known_with_shape (P.recursive_value {x = x} e) f' k = recursive_value (main_there (k x) e)
    known_with_shape (P.smaller_value c) f' k = smaller_value (smaller_with_shape c f' k)

    parts_with_shape : {f : P.Marks} {ks : Children} → P.SmallerParts old places f ks → (id : GlobalId) (place : ℕ) (f' : Marks) → MarksAtLeast f f' → SmallerBranches new places f' own_block None id place ks
    parts_with_shape P.no_smaller_part id place f' k = no_smaller_branch
    parts_with_shape (P.smaller_part {marks = f} {b = b} c cs) id place f' k =
        smaller_plain_branch (smaller_with_shape c (under_plain (over b 0) f') (under_plain_marks (over b 0) f f' k)) (parts_with_shape cs id (place + 1) f' k)

    branches_with_shape : {f : P.Marks} {id : GlobalId} {place : ℕ} {ks : Children} → P.SmallerBranches old places f id place ks → (f' : Marks) → MarksAtLeast f f' → SmallerBranches new places f' own_block (Some own_block) id place ks
    branches_with_shape P.no_smaller_branch f' k = no_smaller_branch
    branches_with_shape (P.smaller_branch {marks = f} {id = id} {place = place} ms e n c cs) f' k =
        let a = at_least id place ms e in
        smaller_branch a.0 a.1 (n ∙ as_long ms a.0 a.2) (smaller_with_shape c (under_marks a.0 f') (under_all ms a.0 f f' a.2 k)) (branches_with_shape cs f' k)
    branches_with_shape (P.smaller_plain_branch {marks = f} {b = b} c cs) f' k =
        smaller_plain_branch (smaller_with_shape c (under_plain (over b 0) f') (under_plain_marks (over b 0) f f' k)) (branches_with_shape cs f' k)

  mutual
    guarded_term_with_shapes : {f : P.Marks} {t : Tree} → P.GuardedTerm old places f t → (f' : Marks) → MarksAtLeast f f' → GuardedTerm new places f' t
    guarded_term_with_shapes (P.guarded_variable {x = x} n) f' k = guarded_variable (no_function_there (k x) n)
    guarded_term_with_shapes (P.guarded_call x j k us u e q p a c cs) f' h =
        guarded_call x j k us u own_block e (function_there (h x) j q) p a (smaller_with_shape c f' h) (all_with_shapes cs f' h)
    guarded_term_with_shapes (P.guarded_parts c) f' k = guarded_parts (guarded_parts_with_shapes c f' k)
    guarded_term_with_shapes (P.guarded_match_on_smaller {marks = f} {n = n} v p c bs) f' k =
        guarded_match (Some own_block) (known_with_shape v f' k) (guarded_term_with_shapes p (under_plain (n + 1) f') (under_plain_marks (n + 1) f f' k)) (guarded_term_with_shapes c f' k) (guarded_branches_with_shapes bs f' k)

    all_with_shapes : {f : P.Marks} {ts : List Tree} → P.GuardedTerms old places f ts → (f' : Marks) → MarksAtLeast f f' → GuardedTerms new places f' ts
    all_with_shapes P.none_guarded f' k = none_guarded
    all_with_shapes (P.more_guarded c cs) f' k = more_guarded (guarded_term_with_shapes c f' k) (all_with_shapes cs f' k)

    guarded_parts_with_shapes : {f : P.Marks} {ks : Children} → P.GuardedParts old places f ks → (f' : Marks) → MarksAtLeast f f' → GuardedParts new places f' ks
    guarded_parts_with_shapes P.no_guarded_part f' k = no_guarded_part
    guarded_parts_with_shapes (P.guarded_part {marks = f} {b = b} c cs) f' k =
        guarded_part (guarded_term_with_shapes c (under_plain (over b 0) f') (under_plain_marks (over b 0) f f' k)) (guarded_parts_with_shapes cs f' k)

    guarded_branches_with_shapes : {f : P.Marks} {id : GlobalId} {place : ℕ} {ks : Children} → P.GuardedBranches old places f id place ks → (f' : Marks) → MarksAtLeast f f' → GuardedBranches new places f' (Some own_block) id place ks
    guarded_branches_with_shapes P.no_guarded_branch f' k = no_guarded_branch
    guarded_branches_with_shapes (P.guarded_branch {marks = f} {id = id} {place = place} ms e n c cs) f' k =
        let a = at_least id place ms e in
        guarded_branch a.0 a.1 (n ∙ as_long ms a.0 a.2) (guarded_term_with_shapes c (under_marks a.0 f') (under_all ms a.0 f f' a.2 k)) (guarded_branches_with_shapes cs f' k)
    guarded_branches_with_shapes (P.guarded_plain_branch {marks = f} {b = b} c cs) f' k =
        guarded_plain_branch (guarded_term_with_shapes c (under_plain (over b 0) f') (under_plain_marks (over b 0) f f' k)) (guarded_branches_with_shapes cs f' k)

-- A type of the own block has shape Own.
module _ (E : Environment) (own : List GlobalId) where
  head_has_own : (t : Tree) (variables arguments : GuardShapes) → is_type_among own (head_of t) ≡ true → shape_of_type E own variables arguments t ≡ Some own_block
  head_has_own (app f u) vs us e = head_has_own f vs (before_shapes (shape_of_type E own vs no_more u) us) e
  head_has_own (ind id) vs us e = rw e refl
  head_has_own t vs us e = absurd (grind arith)

  type_has_own : (t : Tree) (variables : GuardShapes) → is_type_among own (head_of (conclusion_of t)) ≡ true → shape_of_type E own variables no_more t ≡ Some own_block
  type_has_own (prod a b) vs e = type_has_own b (unshaped vs) e
  type_has_own t vs e = head_has_own t vs no_more e

  mark_at_least : (test : Bool) (o : Option GuardShape) → (test ≡ true → o ≡ Some own_block) → AtLeast (if test then P.smaller else P.plain) (mark_of_shape o)
  mark_at_least true o h = rw (h refl) is_of_own_block
  mark_at_least false None h = stays_plain
  mark_at_least false (Some s) h = becomes_smaller

  arguments_at_least : (as_ : List Tree) (variables : GuardShapes) → AllAtLeast (map (P.argument_mark own) as_) (argument_marks E own variables as_)
  arguments_at_least [] vs = tt
  arguments_at_least (a ∷ as_) vs =
      (mark_at_least (is_type_among own (head_of (conclusion_of a))) (shape_of_type E own vs no_more a) (type_has_own a vs), arguments_at_least as_ (unshaped vs))

  constructor_at_least : (block : Block) (variables : GuardShapes) (o : Option ConstructorDeclaration) (ms : List P.Mark) → bare_ids block.types ≡ own → P.constructor_marks block o ≡ Some ms →
      (ns : List Mark) × (constructor_marks E own variables block.parameters o ≡ Some ns) × AllAtLeast ms ns
  constructor_at_least block vs None ms q e = some_is_not_none e
  constructor_at_least block vs (Some c) ms q e =
      let as_ = drop block.parameters (domains_of c.type) in
      (argument_marks E own vs as_, refl, subst (λ z. AllAtLeast z (argument_marks E own vs as_)) (ap (λ ids. map (P.argument_mark ids) as_) (sym q) ∙ some_inj e) (arguments_at_least as_ vs))

  type_at_least : (block : Block) (variables : GuardShapes) (place : ℕ) (o : Option TypeDeclaration) (ms : List P.Mark) → bare_ids block.types ≡ own → P.type_marks block place o ≡ Some ms →
      (ns : List Mark) × (type_marks E own variables block place o ≡ Some ns) × AllAtLeast ms ns
  type_at_least block vs place None ms q e = some_is_not_none e
  type_at_least block vs place (Some t) ms q e = constructor_at_least block vs (element t.constructors place) ms q e

-- The marks that an environment shows, where no id is declared twice
module _ (E : Environment) (distinct : Distinct (environment_ids E)) (head : GlobalId) where
  in_block_at_least : (id : GlobalId) (place : ℕ) (I J : TypeInBlock) (ms : List P.Mark) → whole_block E head ≡ Some I → whole_block E id ≡ Some J → (test : Bool) → is_among id (bare_ids I.block.types) ≡ test →
      (if test then P.type_marks J.block place (element J.block.types J.index) else None) ≡ Some ms →
      (ns : List Mark) × ((if test then type_marks E (bare_ids I.block.types) no_more J.block place (element J.block.types J.index) else None) ≡ Some ns) × AllAtLeast ms ns
  in_block_at_least id place I J ms h h' true q e =
      let same = ap (λ b. bare_ids b.types) (one_block E head id I J distinct h h' (among (bare_ids I.block.types) id q)) in
      type_at_least E (bare_ids I.block.types) J.block no_more place (element J.block.types J.index) ms same e
  in_block_at_least id place I J ms h h' false q e = some_is_not_none e

  at_least_there : (id : GlobalId) (place : ℕ) (ms : List P.Mark) (o o' : Option TypeInBlock) → whole_block E head ≡ o → whole_block E id ≡ o' → P.marks_in_block id place o o' ≡ Some ms →
      (ns : List Mark) × (marks_with_own E o (Some own_block) id place ≡ Some ns) × AllAtLeast ms ns
  at_least_there id place ms (Some I) (Some J) h h' e =
      let r = in_block_at_least id place I J ms h h' (is_among id (bare_ids I.block.types)) refl e in
      (r.0, ap (marks_in_block E (bare_ids I.block.types) (bare_ids I.block.types) no_more id place) h' ∙ r.1, r.2)
  at_least_there id place ms (Some I) None h h' e = some_is_not_none e
  at_least_there id place ms None o' h h' e = some_is_not_none e

  marks_at_least : (id : GlobalId) (place : ℕ) (ms : List P.Mark) → P.recursive_marks E head id place ≡ Some ms → (ns : List Mark) × (recursive_marks E head (Some own_block) id place ≡ Some ns) × AllAtLeast ms ns
  marks_at_least id place ms e = at_least_there id place ms (whole_block E head) (whole_block E id) refl refl e

-- The marks in a body
both_at_least : (ms ms' : List P.Mark) (ns ns' : List Mark) → AllAtLeast ms ns → AllAtLeast ms' ns' → AllAtLeast (ms ++ ms') (ns ++ ns')
both_at_least [] ms' [] ns' h k = k
both_at_least (m ∷ ms) ms' (n ∷ ns) ns' h k = (h.0, both_at_least ms ms' ns ns' h.1 k)
both_at_least [] ms' (n ∷ ns) ns' h k = absurd h
both_at_least (m ∷ ms) ms' [] ns' h k = absurd h

functions_at_least : (j n : ℕ) → AllAtLeast (P.function_marks j n) (function_marks j n)
functions_at_least j zero = tt
functions_at_least j (suc n) = (stays_function, functions_at_least (j + 1) n)

domains_at_least : (k n : ℕ) → AllAtLeast (P.domain_marks k n) (domain_marks main k n)
domains_at_least zero zero = tt
domains_at_least (suc k) zero = tt
domains_at_least zero (suc n) = (stays_main, all_plain_marks n)
domains_at_least (suc k) (suc n) = (stays_plain, domains_at_least k n)

each_guarded_with_shapes : (E : Environment) → Distinct (environment_ids E) → (all fs : List Function) → P.EachGuarded E all fs → EachGuarded E all fs
each_guarded_with_shapes E d all [] g = tt
each_guarded_with_shapes E d all (f ∷ fs) g =
    let h = g.0 in
    let ms = P.function_marks 0 (length all) ++ P.domain_marks f.recursive_place (length f.domains) in
    let ns = function_marks 0 (length all) ++ domain_marks main f.recursive_place (length f.domains) in (
      record {
        head = h.head;
        arguments = h.arguments;
        recursive_domain = h.recursive_domain;
        guarded_body = guarded_term_with_shapes (P.recursive_marks E h.head) (recursive_marks E h.head) (recursive_places all) (marks_at_least E d h.head) h.guarded_body (under_marks ns all_plain)
            (under_all ms ns P.all_plain all_plain
            (both_at_least (P.function_marks 0 (length all)) (P.domain_marks f.recursive_place (length f.domains)) (function_marks 0 (length all)) (domain_marks main f.recursive_place (length f.domains)) (functions_at_least 0 (length all)) (domains_at_least f.recursive_place (length f.domains)))
            (λ x. stays_plain));
      },
      each_guarded_with_shapes E d all fs g.1,
    )

pub guarded_with_shapes : (E : Environment) (fs : List Function) → Distinct (environment_ids E) → P.Guarded E fs → Guarded E fs
guarded_with_shapes E fs d g = each_guarded_with_shapes E d fs fs g
