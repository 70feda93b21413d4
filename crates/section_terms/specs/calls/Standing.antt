-- What names stand for while hypotheses are passed from the first to the last, so that one walk over a term
-- does what the definitions do one hypothesis after the other.
use Rattle.std.specs.Prelude.{ℕ, ◌+◌, Bool, true, false, Option, option_map, Some, None, List, [], ◌∷◌, map, if◌then◌else◌}
use Rattle.cic_names.specs.declared.name.GlobalId.{GlobalId}
use Rattle.cic_names.specs.Sameness.{same_id}
use Rattle.cic_terms.specs.Tree.{Former, ConstF, IndF, CtorF, Tree, rel, node, no_child, const, ind, ctor}
use Rattle.cic_terms.specs.Lift.{lift_tree}
use Rattle.cic_rules.specs.Telescopes.{apply}
use Rattle.section_terms.specs.Names.{replace_names}
use Rattle.section_terms.specs.Hypotheses.{Hypothesis}
use Rattle.section_terms.specs.Discharge.{binding}

-- The binders that were passed, and what a constant stands for under them.
pub record Passed : Type 0 where
  pub binders : ℕ
  pub stands : GlobalId → Tree

abbrev pub nothing_passed : Passed
nothing_passed = record { binders = 0; stands = λ id. const id }

-- What a name stands for, applied to what its arguments stand for.
abbrev pub standing_for : (arguments : GlobalId → List GlobalId) → (stands : GlobalId → Tree) → Former → Tree
standing_for arguments stands (ConstF c) = apply (stands c) (map stands (arguments c))
standing_for arguments stands (IndF c) = apply (ind c) (map stands (arguments c))
standing_for arguments stands (CtorF c) = apply (ctor c) (map stands (arguments c))
standing_for arguments stands f = node f no_child

-- A tree under the binders, and `at` binders of its own.
abbrev pub put : (arguments : GlobalId → List GlobalId) → Passed → (at : ℕ) → Tree → Tree
put arguments e at t = replace_names (standing_for arguments e.stands) e.binders at t

abbrev pub pass_bound : GlobalId → Passed → Passed
pass_bound id e = record {
  binders = e.binders + 1;
  stands = λ c. if same_id id c then rel 0 else lift_tree 0 1 (e.stands c);
}

abbrev pub pass_body : (arguments : GlobalId → List GlobalId) → GlobalId → Tree → Passed → Passed
pass_body arguments id body e = record {
  binders = e.binders;
  stands = λ c. if same_id id c then put arguments e 0 body else e.stands c;
}

-- `keeps` says whether a let is bound. Where it is not, its body takes its place.
abbrev pub passed_body : (arguments : GlobalId → List GlobalId) → (keeps : Bool) → GlobalId → Option Tree → Passed → Passed
passed_body arguments keeps id None e = pass_bound id e
passed_body arguments true id (Some body) e = pass_bound id e
passed_body arguments false id (Some body) e = pass_body arguments id body e

abbrev pub pass : (arguments : GlobalId → List GlobalId) → (keeps : Bool) → Hypothesis → Passed → Passed
pass arguments keeps h e = passed_body arguments keeps h.id h.body e

abbrev pub pass_all : (arguments : GlobalId → List GlobalId) → (keeps : Bool) → List Hypothesis → Passed → Passed
pass_all arguments keeps [] e = e
pass_all arguments keeps (h ∷ hs) e = pass_all arguments keeps hs (pass arguments keeps h e)

-- A binder, each under the earlier ones.
pub record Bound : Type 0 where
  pub type : Tree
  pub body : Option Tree

abbrev pub bound_of : (arguments : GlobalId → List GlobalId) → Passed → Hypothesis → Bound
bound_of arguments e h = record { type = put arguments e 0 h.type; body = option_map (put arguments e 0) h.body }

abbrev pub one_or_none : (keeps : Bool) → Option Tree → Bound → List Bound → List Bound
one_or_none keeps None b bs = b ∷ bs
one_or_none true (Some body) b bs = b ∷ bs
one_or_none false (Some body) b bs = bs

-- The binders of hypotheses.
abbrev pub bounds : (arguments : GlobalId → List GlobalId) → (keeps : Bool) → List Hypothesis → Passed → List Bound
bounds arguments keeps [] e = []
bounds arguments keeps (h ∷ hs) e =
    one_or_none keeps h.body (bound_of arguments e h) (bounds arguments keeps hs (pass arguments keeps h e))

-- The tree under binders, the first outermost.
abbrev pub under_binders : (bind : (domain rest : Tree) → Tree) → List Bound → Tree → Tree
under_binders bind [] t = t
under_binders bind (b ∷ bs) t = binding bind b.body b.type (under_binders bind bs t)
