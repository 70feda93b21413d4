-- What can be wanted in a file, and the form of a row of the grammar.
use Rattle.std.specs.Prelude.{ℕ, List}
use Rattle.gal_grammar.specs.Tests.{Test}
use Rattle.gal_grammar.specs.Actions.{Act}

pub data Kind : Type 0 where
  k_file : Kind
  k_commands : Kind
  k_required : Kind
  k_quals : Kind
  k_level : Kind
  k_relation : Kind
  k_conses : Kind
  k_assums : Kind
  k_idents : Kind
  k_bounds : Kind
  k_bound_groups : Kind
  k_names : Kind
  k_groups : Kind
  k_some_groups : Kind
  k_binders : Kind
  k_definition : Kind
  k_function : Kind
  k_struct : Kind
  k_fixpoints : Kind
  k_ind : Kind
  k_inds : Kind
  k_ctors : Kind
  k_ctors_behind : Kind
  k_more_ctors : Kind
  k_ctor : Kind
  k_ctor_type : Kind
  k_proof : Kind
  k_proof_body : Kind
  k_using : Kind
  k_ending : Kind
  k_qed : Kind
  k_term : Kind
  k_atom : Kind
  k_tail : Kind
  k_type_level : Kind
  k_functions : Kind
  k_as : Kind
  k_in : Kind
  k_with : Kind
  k_with_any : Kind
  k_branches : Kind
  k_any_branches : Kind
  k_branch : Kind
  k_more_branches : Kind

-- what is wanted: a token, an action, a kind at its nesting, or the rest of a fix behind its first function
pub data Want : Type 0 where
  tok : Test → Want
  act : Act → Want
  nt : ℕ → Kind → Want
  fix_tail : ℕ → Want

pub data Row : Type 0 where
  row : Test → List Want → Row
