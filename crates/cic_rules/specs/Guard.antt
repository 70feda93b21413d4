-- The guard of a Fix, on its terms as written (Coq Reference Manual, "Inductive definitions": "Fixpoint
-- definitions" and their guard condition; the condition here is this project's own).
use Rattle.std.specs.Prelude.{ℕ, zero, suc, ◌+◌, ◌≡◌, ◌≢◌, if◌then◌else◌, Option, Some, None, List, [], ◌∷◌, ◌++◌, length, map, drop, replicate}
use Rattle.cic_terms.specs.Tree.{Shape, Former, Binders, over, Tree, rel, node, Children, no_child, child, lam, app, ind, case, fix}
use Rattle.cic_names.specs.declared.name.GlobalId.{GlobalId}
use Rattle.cic_rules.specs.Environment.{Environment, TypeInBlock, Block, TypeDeclaration, ConstructorDeclaration, whole_block, element, bare_ids}
use Rattle.cic_rules.specs.Telescopes.{is_among, apply, domains_of, Function}
use Rattle.cic_rules.specs.Shapes.{GuardShape, own_block, nest, GuardShapes, no_more, unshaped, under_shapes, shape_of_type}

-- What a variable is for the guard: none of these, the recursive one, a smaller one, or function `j`.
pub data Mark : Type 0 where
  plain main : Mark
  smaller : (s : GuardShape) → Mark
  function : (j : ℕ) → Mark

-- The mark of each variable, by its Rel number.
abbrev pub Marks : Type 0
Marks = ℕ → Mark

abbrev pub all_plain : Marks
all_plain x = plain

-- Under one more binder, and under several, whose marks are given with the outermost first.
abbrev pub under_mark : Mark → Marks → Marks
under_mark m marks zero = m
under_mark m marks (suc x) = marks x

abbrev pub under_marks : List Mark → Marks → Marks
under_marks [] marks = marks
under_marks (m ∷ ms) marks = under_marks ms (under_mark m marks)

abbrev pub under_plain : ℕ → Marks → Marks
under_plain n marks = under_marks (replicate n plain) marks

-- The marks of the arguments of a constructor whose parameters have these shapes: an argument whose declared
-- type, as written, has a shape is smaller, with that shape.
abbrev pub mark_of_shape : Option GuardShape → Mark
mark_of_shape None = plain
mark_of_shape (Some s) = smaller s

abbrev pub argument_marks : Environment → (own : List GlobalId) → (variables : GuardShapes) → List Tree → List Mark
argument_marks E own variables [] = []
argument_marks E own variables (a ∷ as_) =
    mark_of_shape (shape_of_type E own variables no_more a) ∷ argument_marks E own (unshaped variables) as_

abbrev pub constructor_marks : Environment → (own : List GlobalId) → (variables : GuardShapes) → (parameters : ℕ) → Option ConstructorDeclaration → Option (List Mark)
constructor_marks E own variables r None = None
constructor_marks E own variables r (Some c) = Some (argument_marks E own variables (drop r (domains_of c.type)))

abbrev pub type_marks : Environment → (own : List GlobalId) → (variables : GuardShapes) → Block → (place : ℕ) → Option TypeDeclaration → Option (List Mark)
type_marks E own variables block place None = None
type_marks E own variables block place (Some t) =
    constructor_marks E own variables block.parameters (element t.constructors place)

-- Those of constructor `place` of the type that `id` names, where it is one of these types.
abbrev pub marks_in_block : Environment → (own types : List GlobalId) → (variables : GuardShapes) → GlobalId → (place : ℕ) → Option TypeInBlock → Option (List Mark)
marks_in_block E own types variables id place None = None
marks_in_block E own types variables id place (Some J) =
    if is_among id types then type_marks E own variables J.block place (element J.block.types J.index) else None

-- Those of a branch of a match, by the shape that is known of the value: where it is Own, of a match on a
-- type of the own block, and no parameter has a shape; where it is Nest of a block, of one on a type of that
-- block, and its parameters have the shapes of the Nest.
abbrev pub marks_by_shape : Environment → (own : List GlobalId) → (known : Option GuardShape) → GlobalId → (place : ℕ) → Option (List Mark)
marks_by_shape E own None id place = None
marks_by_shape E own (Some own_block) id place = marks_in_block E own own no_more id place (whole_block E id)
marks_by_shape E own (Some (nest types parameters)) id place =
    marks_in_block E own types (under_shapes parameters no_more) id place (whole_block E id)

-- The own block is that of `head`, which heads the domain of the recursive variable. While it is bare, no
-- match makes anything smaller.
abbrev pub marks_with_own : Environment → Option TypeInBlock → (known : Option GuardShape) → GlobalId → (place : ℕ) → Option (List Mark)
marks_with_own E None known id place = None
marks_with_own E (Some I) known id place = marks_by_shape E (bare_ids I.block.types) known id place

abbrev pub recursive_marks : Environment → (head : GlobalId) → (known : Option GuardShape) → GlobalId → (place : ℕ) → Option (List Mark)
recursive_marks E head known id place = marks_with_own E (whole_block E head) known id place

-- The marks of the functions of a Fix, and of the domains of one of them, where that of domain k is given.
abbrev pub function_marks : (j count : ℕ) → List Mark
function_marks j zero = []
function_marks j (suc count) = function j ∷ function_marks (j + 1) count

abbrev pub domain_marks : Mark → (k count : ℕ) → List Mark
domain_marks m k zero = []
domain_marks m zero (suc count) = m ∷ replicate count plain
domain_marks m (suc k) (suc count) = plain ∷ domain_marks m k count

abbrev pub body_marks : (all : ℕ) → Function → Marks
body_marks all f = under_marks (function_marks 0 all ++ domain_marks main f.recursive_place (length f.domains)) all_plain

-- Those in the body of an inner Fix, whose recursive argument is smaller: the binder of that domain is so.
abbrev pub inner_marks : GuardShape → Shape → List Mark
inner_marks s f = plain ∷ domain_marks (smaller s) f.k f.domains

abbrev pub recursive_places : List Function → List ℕ
recursive_places = map (λ f. f.recursive_place)

module _ (recursive : (known : Option GuardShape) → GlobalId → (place : ℕ) → Option (List Mark)) (places : List ℕ) where
  -- The smaller terms, each with a shape.
  mutual
    pub data Smaller : Marks → Tree → GuardShape → Type 0 where
      -- A smaller variable.
      smaller_variable : {marks : Marks} {x : ℕ} {s : GuardShape} →
          marks x ≡ smaller s →
          Smaller marks (rel x) s
      -- An application whose function is smaller.
      smaller_application : {marks : Marks} {f u : Tree} {s : GuardShape} →
          Smaller marks f s →
          Smaller marks (app f u) s
      -- An abstraction whose body is smaller.
      smaller_abstraction : {marks : Marks} {a t : Tree} {s : GuardShape} →
          Smaller (under_mark plain marks) t s →
          Smaller marks (lam a t) s
      -- A match without branches, with shape Own.
      smaller_empty_match : {marks : Marks} {id : GlobalId} {n : ℕ} {p v : Tree} →
          Smaller marks (case id n p v no_child) own_block
      -- A match whose branches are all smaller with one shape.
      smaller_match : {marks : Marks} {id : GlobalId} {n : ℕ} {p v t : Tree} {b : Binders} {ks : Children} {s : GuardShape} →
          (known : Option GuardShape) →
          ValueShape marks v known →
          SmallerBranches marks s known id 0 (child b t ks) →
          Smaller marks (case id n p v (child b t ks)) s

    -- What is known of the value of a match: nothing need be; the recursive variable counts as of shape Own;
    -- and a smaller term has its shape.
    pub data ValueShape : Marks → Tree → Option GuardShape → Type 0 where
      no_value_shape : {marks : Marks} {t : Tree} →
          ValueShape marks t None
      recursive_value : {marks : Marks} {x : ℕ} →
          marks x ≡ main →
          ValueShape marks (rel x) (Some own_block)
      smaller_value : {marks : Marks} {t : Tree} {s : GuardShape} →
          Smaller marks t s →
          ValueShape marks t (Some s)

    -- The branches from that of constructor `place` on. A branch has the marks of its constructor's
    -- arguments by what is known of the value, or does without them: more marks make no fewer terms smaller.
    pub data SmallerBranches : Marks → GuardShape → (known : Option GuardShape) → GlobalId → (place : ℕ) → Children → Type 0 where
      no_smaller_branch : {marks : Marks} {s : GuardShape} {known : Option GuardShape} {id : GlobalId} {place : ℕ} →
          SmallerBranches marks s known id place no_child
      smaller_branch : {marks : Marks} {s : GuardShape} {known : Option GuardShape} {id : GlobalId} {place : ℕ} {b : Binders} {t : Tree} {ks : Children} →
          (ms : List Mark) →
          recursive known id place ≡ Some ms →
          over b 0 ≡ length ms →
          Smaller (under_marks ms marks) t s →
          SmallerBranches marks s known id (place + 1) ks →
          SmallerBranches marks s known id place (child b t ks)
      smaller_plain_branch : {marks : Marks} {s : GuardShape} {known : Option GuardShape} {id : GlobalId} {place : ℕ} {b : Binders} {t : Tree} {ks : Children} →
          Smaller (under_plain (over b 0) marks) t s →
          SmallerBranches marks s known id (place + 1) ks →
          SmallerBranches marks s known id place (child b t ks)

  -- The terms in which each occurrence of a function of the Fix heads an application whose argument
  -- at the function's recursive place is smaller.
  mutual
    pub data GuardedTerm : Marks → Tree → Type 0 where
      -- A variable that is no function.
      guarded_variable : {marks : Marks} {x : ℕ} →
          ((j : ℕ) → marks x ≢ function j) →
          GuardedTerm marks (rel x)
      -- A call with a smaller argument.
      guarded_call : {marks : Marks} {t : Tree} →
          (x j k : ℕ) (us : List Tree) (u : Tree) (s : GuardShape) →
          t ≡ apply (rel x) us →
          marks x ≡ function j →
          element places j ≡ Some k →
          element us k ≡ Some u →
          Smaller marks u s →
          GuardedTerms marks us →
          GuardedTerm marks t
      -- Any other term whose parts are guarded.
      guarded_parts : {marks : Marks} {f : Former} {ks : Children} →
          GuardedParts marks ks →
          GuardedTerm marks (node f ks)
      -- A match whose branches are guarded by what is known of its value.
      guarded_match : {marks : Marks} {id : GlobalId} {n : ℕ} {p v : Tree} {branches : Children} →
          (known : Option GuardShape) →
          ValueShape marks v known →
          GuardedTerm (under_plain (n + 1) marks) p →
          GuardedTerm marks v →
          GuardedBranches marks known id 0 branches →
          GuardedTerm marks (case id n p v branches)
      -- A Fix of one function, applied, whose recursive argument is smaller: its body is guarded where the
      -- binder of the recursive domain is smaller, with that argument's shape.
      guarded_inner_fix : {marks : Marks} {t : Tree} →
          (which : ℕ) (f : Shape) (parts : Children) (us : List Tree) (u : Tree) (s : GuardShape) →
          t ≡ apply (fix which (f ∷ []) parts) us →
          element us f.k ≡ Some u →
          Smaller marks u s →
          GuardedToBody marks (inner_marks s f) parts →
          GuardedTerms marks us →
          GuardedTerm marks t

    pub data GuardedTerms : Marks → List Tree → Type 0 where
      none_guarded : {marks : Marks} →
          GuardedTerms marks []
      more_guarded : {marks : Marks} {t : Tree} {ts : List Tree} →
          GuardedTerm marks t →
          GuardedTerms marks ts →
          GuardedTerms marks (t ∷ ts)

    pub data GuardedParts : Marks → Children → Type 0 where
      no_guarded_part : {marks : Marks} →
          GuardedParts marks no_child
      guarded_part : {marks : Marks} {b : Binders} {t : Tree} {ks : Children} →
          GuardedTerm (under_plain (over b 0) marks) t →
          GuardedParts marks ks →
          GuardedParts marks (child b t ks)

    pub data GuardedBranches : Marks → (known : Option GuardShape) → GlobalId → (place : ℕ) → Children → Type 0 where
      no_guarded_branch : {marks : Marks} {known : Option GuardShape} {id : GlobalId} {place : ℕ} →
          GuardedBranches marks known id place no_child
      guarded_branch : {marks : Marks} {known : Option GuardShape} {id : GlobalId} {place : ℕ} {b : Binders} {t : Tree} {ks : Children} →
          (ms : List Mark) →
          recursive known id place ≡ Some ms →
          over b 0 ≡ length ms →
          GuardedTerm (under_marks ms marks) t →
          GuardedBranches marks known id (place + 1) ks →
          GuardedBranches marks known id place (child b t ks)
      guarded_plain_branch : {marks : Marks} {known : Option GuardShape} {id : GlobalId} {place : ℕ} {b : Binders} {t : Tree} {ks : Children} →
          GuardedTerm (under_plain (over b 0) marks) t →
          GuardedBranches marks known id (place + 1) ks →
          GuardedBranches marks known id place (child b t ks)

    -- The parts of a Fix of one function: its domains and codomain, and then its body, under these marks.
    pub data GuardedToBody : Marks → List Mark → Children → Type 0 where
      guarded_last_part : {marks : Marks} {ms : List Mark} {b : Binders} {t : Tree} →
          over b 0 ≡ length ms →
          GuardedTerm (under_marks ms marks) t →
          GuardedToBody marks ms (child b t no_child)
      guarded_earlier_part : {marks : Marks} {ms : List Mark} {b : Binders} {t : Tree} {ks : Children} →
          GuardedTerm (under_plain (over b 0) marks) t →
          GuardedToBody marks ms ks →
          GuardedToBody marks ms (child b t ks)

-- A function is guarded where its recursive domain is headed by an inductive type, bare ones included,
-- and its body is guarded. A Fix is guarded where each of its functions is.
pub record GuardedFunction (E : Environment) (fs : List Function) (f : Function) : Type 0 where
  pub head : GlobalId
  pub arguments : List Tree
  pub recursive_domain : element f.domains f.recursive_place ≡ Some (apply (ind head) arguments)
  pub guarded_body : GuardedTerm (recursive_marks E head) (recursive_places fs) (body_marks (length fs) f) f.body

abbrev pub EachGuarded : Environment → (all fs : List Function) → Type 0
EachGuarded E all [] = Unit {0}
EachGuarded E all (f ∷ fs) = GuardedFunction E all f × EachGuarded E all fs

abbrev pub Guarded : Environment → List Function → Type 0
Guarded E fs = EachGuarded E fs fs
