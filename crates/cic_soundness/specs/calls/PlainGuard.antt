-- The guard of a Fix without shapes: a smaller term is one whose type is of the recursive variable's own block. It is
-- what the guard was before types could stand among the parameters of other blocks, and a law says that each Fix that is
-- guarded so is guarded by the rules (this project's own).
use Rattle.std.specs.Prelude.{ℕ, zero, suc, ◌+◌, ◌≡◌, ◌≢◌, if◌then◌else◌, Option, Some, None, List, [], ◌∷◌, ◌++◌, length, map, drop, replicate}
use Rattle.cic_terms.specs.Tree.{Former, Binders, over, Tree, rel, node, Children, no_child, child, lam, app, ind, case}
use Rattle.cic_names.specs.declared.name.GlobalId.{GlobalId}
use Rattle.cic_rules.specs.Environment.{Environment, TypeInBlock, Block, TypeDeclaration, ConstructorDeclaration, whole_block, element, bare_ids}
use Rattle.cic_rules.specs.Telescopes.{is_among, apply, head_of, domains_of, conclusion_of, Function}
use Rattle.cic_counted.specs.BlockTests.{is_type_among}

-- What a variable is for the guard: the recursive variable, a smaller one, function `j`, or none of these.
pub data Mark : Type 0 where
  plain main smaller : Mark
  function : (j : ℕ) → Mark

-- The mark of each variable, by its Rel number.
abbrev pub Marks : Type 0
Marks = ℕ → Mark

abbrev pub all_plain : Marks
all_plain x = plain

-- Under one more binder, and under several, whose marks are given with the outermost first.
abbrev pub under_mark : Mark → Marks → Marks
under_mark m marks zero = m
under_mark m marks (suc x) = marks x

abbrev pub under_marks : List Mark → Marks → Marks
under_marks [] marks = marks
under_marks (m ∷ ms) marks = under_marks ms (under_mark m marks)

abbrev pub under_plain : ℕ → Marks → Marks
under_plain n marks = under_marks (replicate n plain) marks

-- The marks of the arguments of a constructor of the block: an argument whose type, as written, is
-- products and then a type of the block is smaller.
abbrev pub argument_mark : List GlobalId → Tree → Mark
argument_mark ids a = if is_type_among ids (head_of (conclusion_of a)) then smaller else plain

abbrev pub constructor_marks : Block → Option ConstructorDeclaration → Option (List Mark)
constructor_marks block None = None
constructor_marks block (Some c) =
    Some (map (argument_mark (bare_ids block.types)) (drop block.parameters (domains_of c.type)))

abbrev pub type_marks : Block → (place : ℕ) → Option TypeDeclaration → Option (List Mark)
type_marks block place None = None
type_marks block place (Some t) = constructor_marks block (element t.constructors place)

-- Those of constructor `place` of the type that `id` names, where it is a type of the whole block of `head`.
abbrev pub marks_in_block : GlobalId → (place : ℕ) → Option TypeInBlock → Option TypeInBlock → Option (List Mark)
marks_in_block id place (Some of_head) (Some of_id) =
    if is_among id (bare_ids of_head.block.types)
    then type_marks of_id.block place (element of_id.block.types of_id.index)
    else None
marks_in_block id place _ _ = None

abbrev pub recursive_marks : Environment → (head : GlobalId) → GlobalId → (place : ℕ) → Option (List Mark)
recursive_marks E head id place = marks_in_block id place (whole_block E head) (whole_block E id)

-- The marks of the functions of a Fix, and of the domains of one of them whose recursive one is k.
abbrev pub function_marks : (j count : ℕ) → List Mark
function_marks j zero = []
function_marks j (suc count) = function j ∷ function_marks (j + 1) count

abbrev pub domain_marks : (k count : ℕ) → List Mark
domain_marks k zero = []
domain_marks zero (suc count) = main ∷ replicate count plain
domain_marks (suc k) (suc count) = plain ∷ domain_marks k count

abbrev pub body_marks : (all : ℕ) → Function → Marks
body_marks all f = under_marks (function_marks 0 all ++ domain_marks f.recursive_place (length f.domains)) all_plain

abbrev pub recursive_places : List Function → List ℕ
recursive_places = map (λ f. f.recursive_place)

module _ (recursive : GlobalId → ℕ → Option (List Mark)) (places : List ℕ) where
  -- The smaller terms: a smaller variable; an application whose function is smaller; an abstraction whose
  -- body is smaller; and a match all of whose branches are smaller. In a match on a type of the block whose
  -- value is the recursive variable or smaller, the recursive arguments of each branch are smaller variables.
  mutual
    pub data Smaller : Marks → Tree → Type 0 where
      smaller_variable : {marks : Marks} {x : ℕ} →
          marks x ≡ smaller →
          Smaller marks (rel x)
      smaller_application : {marks : Marks} {f u : Tree} →
          Smaller marks f →
          Smaller marks (app f u)
      smaller_abstraction : {marks : Marks} {a t : Tree} →
          Smaller (under_mark plain marks) t →
          Smaller marks (lam a t)
      smaller_match : {marks : Marks} {id : GlobalId} {n : ℕ} {p v : Tree} {branches : Children} →
          SmallerParts marks branches →
          Smaller marks (case id n p v branches)
      smaller_match_on_smaller : {marks : Marks} {id : GlobalId} {n : ℕ} {p v : Tree} {branches : Children} →
          ValueShape marks v →
          SmallerBranches marks id 0 branches →
          Smaller marks (case id n p v branches)

    -- The recursive variable, or a smaller term.
    pub data ValueShape : Marks → Tree → Type 0 where
      recursive_value : {marks : Marks} {x : ℕ} →
          marks x ≡ main →
          ValueShape marks (rel x)
      smaller_value : {marks : Marks} {t : Tree} →
          Smaller marks t →
          ValueShape marks t

    pub data SmallerParts : Marks → Children → Type 0 where
      no_smaller_part : {marks : Marks} →
          SmallerParts marks no_child
      smaller_part : {marks : Marks} {b : Binders} {t : Tree} {ks : Children} →
          Smaller (under_plain (over b 0) marks) t →
          SmallerParts marks ks →
          SmallerParts marks (child b t ks)

    -- The branches from that of constructor `place` on. A branch may do without the marks of its arguments.
    pub data SmallerBranches : Marks → GlobalId → (place : ℕ) → Children → Type 0 where
      no_smaller_branch : {marks : Marks} {id : GlobalId} {place : ℕ} →
          SmallerBranches marks id place no_child
      smaller_branch : {marks : Marks} {id : GlobalId} {place : ℕ} {b : Binders} {t : Tree} {ks : Children} →
          (ms : List Mark) →
          recursive id place ≡ Some ms →
          over b 0 ≡ length ms →
          Smaller (under_marks ms marks) t →
          SmallerBranches marks id (place + 1) ks →
          SmallerBranches marks id place (child b t ks)
      smaller_plain_branch : {marks : Marks} {id : GlobalId} {place : ℕ} {b : Binders} {t : Tree} {ks : Children} →
          Smaller (under_plain (over b 0) marks) t →
          SmallerBranches marks id (place + 1) ks →
          SmallerBranches marks id place (child b t ks)

  -- The terms in which each occurrence of a function of the Fix heads an application whose argument
  -- at the function's recursive place is smaller.
  mutual
    pub data GuardedTerm : Marks → Tree → Type 0 where
      guarded_variable : {marks : Marks} {x : ℕ} →
          ((j : ℕ) → marks x ≢ function j) →
          GuardedTerm marks (rel x)
      guarded_call : {marks : Marks} {t : Tree} →
          (x j k : ℕ) (us : List Tree) (u : Tree) →
          t ≡ apply (rel x) us →
          marks x ≡ function j →
          element places j ≡ Some k →
          element us k ≡ Some u →
          Smaller marks u →
          GuardedTerms marks us →
          GuardedTerm marks t
      guarded_parts : {marks : Marks} {f : Former} {ks : Children} →
          GuardedParts marks ks →
          GuardedTerm marks (node f ks)
      guarded_match_on_smaller : {marks : Marks} {id : GlobalId} {n : ℕ} {p v : Tree} {branches : Children} →
          ValueShape marks v →
          GuardedTerm (under_plain (n + 1) marks) p →
          GuardedTerm marks v →
          GuardedBranches marks id 0 branches →
          GuardedTerm marks (case id n p v branches)

    pub data GuardedTerms : Marks → List Tree → Type 0 where
      none_guarded : {marks : Marks} →
          GuardedTerms marks []
      more_guarded : {marks : Marks} {t : Tree} {ts : List Tree} →
          GuardedTerm marks t →
          GuardedTerms marks ts →
          GuardedTerms marks (t ∷ ts)

    pub data GuardedParts : Marks → Children → Type 0 where
      no_guarded_part : {marks : Marks} →
          GuardedParts marks no_child
      guarded_part : {marks : Marks} {b : Binders} {t : Tree} {ks : Children} →
          GuardedTerm (under_plain (over b 0) marks) t →
          GuardedParts marks ks →
          GuardedParts marks (child b t ks)

    pub data GuardedBranches : Marks → GlobalId → (place : ℕ) → Children → Type 0 where
      no_guarded_branch : {marks : Marks} {id : GlobalId} {place : ℕ} →
          GuardedBranches marks id place no_child
      guarded_branch : {marks : Marks} {id : GlobalId} {place : ℕ} {b : Binders} {t : Tree} {ks : Children} →
          (ms : List Mark) →
          recursive id place ≡ Some ms →
          over b 0 ≡ length ms →
          GuardedTerm (under_marks ms marks) t →
          GuardedBranches marks id (place + 1) ks →
          GuardedBranches marks id place (child b t ks)
      guarded_plain_branch : {marks : Marks} {id : GlobalId} {place : ℕ} {b : Binders} {t : Tree} {ks : Children} →
          GuardedTerm (under_plain (over b 0) marks) t →
          GuardedBranches marks id (place + 1) ks →
          GuardedBranches marks id place (child b t ks)

-- A function is guarded where its recursive domain is headed by an inductive type, bare ones included,
-- and its body is guarded. A Fix is guarded where each of its functions is.
pub record GuardedFunction (E : Environment) (fs : List Function) (f : Function) : Type 0 where
  pub head : GlobalId
  pub arguments : List Tree
  pub recursive_domain : element f.domains f.recursive_place ≡ Some (apply (ind head) arguments)
  pub guarded_body : GuardedTerm (recursive_marks E head) (recursive_places fs) (body_marks (length fs) f) f.body

abbrev pub EachGuarded : Environment → (all fs : List Function) → Type 0
EachGuarded E all [] = Unit {0}
EachGuarded E all (f ∷ fs) = GuardedFunction E all f × EachGuarded E all fs

abbrev pub Guarded : Environment → List Function → Type 0
Guarded E fs = EachGuarded E fs fs
