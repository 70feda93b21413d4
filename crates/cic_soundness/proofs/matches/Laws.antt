-- The laws of matches as they are stated for readers: with the premises on the type of the value one by one, and
-- for the constructor at a place of its type. They follow from the laws that inference uses, which take the
-- premises together and go through all constructors.
use Rattle.std.proofs.Common.{◌≡◌, ℕ, Some, List, ◌∷◌, ◌++◌, length, refl}
use Rattle.cic_terms.specs.Tree.{TreeSort, Tree, sort, ind}
use Rattle.cic_names.specs.declared.name.GlobalId.{GlobalId}
use Rattle.cic_rules.specs.Numbering.{Numbering}
use Rattle.cic_rules.specs.Environment.{Environment, Context, TypeInBlock, TypeDeclaration, ConstructorDeclaration, whole_block, element, assumed}
use Rattle.cic_rules.specs.Telescopes.{apply, domains_of, extend, variables, lift_all}
use Rattle.cic_rules.specs.Typing.{Typed, HasSort, WellFormedContext}
use Rattle.cic_counted.specs.Readings.{instantiate}
use Rattle.cic_counted.specs.BlockTests.{index_count}
use Rattle.cic_counted.specs.Inference.{branch_goal}
use Rattle.cic_metatheory.specs.WellTypedLookups.{WellTypedLookups}
use Rattle.cic_soundness.proofs.matches.Contexts.{MatchedType, MatchedConstructor, matched_constructors, motive_context_well_formed, branch_context_well_formed}
use Rattle.cic_soundness.proofs.matches.BranchGoals.{branch_goal_is_typed}
use Rattle.cic_metatheory.proofs.basics.Elements.{each_at}

matched : (E : Environment) (N : Numbering) (G : Context) (id : GlobalId) (place : TypeInBlock) (T : TypeDeclaration) (parameters indices : List Tree) →
    whole_block E id ≡ Some place → element place.block.types place.index ≡ Some T → length parameters ≡ place.block.parameters → length indices ≡ index_count place.block.parameters T →
    HasSort E N G (apply (ind id) (parameters ++ indices)) → MatchedType E N G id place T (length indices) parameters indices
matched E N G id place T parameters indices d el lp li h = record { shown = d; in_block = el; counts = li; all_parameters = lp; all_indices = refl; sorted = h }

constructor_at : (E : Environment) (N : Numbering) (k : WellTypedLookups E N) {G : Context} {id : GlobalId} {place : TypeInBlock} {T : TypeDeclaration} {n : ℕ} {parameters indices : List Tree} →
    MatchedType E N G id place T n parameters indices → (i : ℕ) (c : ConstructorDeclaration) → element T.constructors i ≡ Some c → MatchedConstructor E N G id n parameters c
constructor_at E N k {G = G} {id = id} {T = T} {n = n} {parameters = qs} m i c e =
    each_at (MatchedConstructor E N G id n qs) T.constructors i c (matched_constructors E N k m) e

pub motive_context : (E : Environment) (N : Numbering) (G : Context) (id : GlobalId) (place : TypeInBlock) (T : TypeDeclaration) (parameters indices : List Tree) → WellTypedLookups E N →
    whole_block E id ≡ Some place → element place.block.types place.index ≡ Some T → length parameters ≡ place.block.parameters → length indices ≡ index_count place.block.parameters T →
    HasSort E N G (apply (ind id) (parameters ++ indices)) → WellFormedContext E N G →
    WellFormedContext E N (assumed (apply (ind id) (lift_all (length indices) parameters ++ variables (length indices))) ∷ extend G (domains_of (instantiate parameters T.arity)))
motive_context E N G id place T parameters indices k d el lp li h w = motive_context_well_formed E N k (matched E N G id place T parameters indices d el lp li h) w

pub branch_context : (E : Environment) (N : Numbering) (G : Context) (id : GlobalId) (place : TypeInBlock) (T : TypeDeclaration) (c : ConstructorDeclaration) (i : ℕ) (parameters indices : List Tree) → WellTypedLookups E N →
    whole_block E id ≡ Some place → element place.block.types place.index ≡ Some T → element T.constructors i ≡ Some c → length parameters ≡ place.block.parameters → length indices ≡ index_count place.block.parameters T →
    HasSort E N G (apply (ind id) (parameters ++ indices)) → WellFormedContext E N G → WellFormedContext E N (extend G (domains_of (instantiate parameters c.type)))
branch_context E N G id place T c i parameters indices k d el ec lp li h w =
    branch_context_well_formed E N c (constructor_at E N k (matched E N G id place T parameters indices d el lp li h) i c ec) w

pub branch_goal_at : (E : Environment) (N : Numbering) (G : Context) (id : GlobalId) (place : TypeInBlock) (T : TypeDeclaration) (c : ConstructorDeclaration) (i : ℕ) (parameters indices : List Tree) (p : Tree) (s : TreeSort) → WellTypedLookups E N →
    whole_block E id ≡ Some place → element place.block.types place.index ≡ Some T → element T.constructors i ≡ Some c → length parameters ≡ place.block.parameters → length indices ≡ index_count place.block.parameters T →
    HasSort E N G (apply (ind id) (parameters ++ indices)) →
    Typed E N (assumed (apply (ind id) (lift_all (length indices) parameters ++ variables (length indices))) ∷ extend G (domains_of (instantiate parameters T.arity))) p (sort s) →
    Typed E N (extend G (domains_of (instantiate parameters c.type))) (branch_goal (length indices) parameters p c) (sort s)
branch_goal_at E N G id place T c i parameters indices p s k d el ec lp li h hp =
    let m = matched E N G id place T parameters indices d el lp li h in
    branch_goal_is_typed E N k m p s hp c (constructor_at E N k m i c ec)
