use Rattle.lib_format.proofs.Shown.{seen_shown, type_name_shown, same_constructor_shown, place_shown, kind_shown, no_types_shown, parameters_shown}
use Rattle.lib_format.proofs.examples.declaration_defects.Goals as goal

pub returns-clause-name_seen : goal.returns-clause-name_seen
returns-clause-name_seen c = seen_shown

pub returns-clause-name_of_the_type : goal.returns-clause-name_of_the_type
returns-clause-name_of_the_type c = type_name_shown

pub returns-clause-constructor_twice : goal.returns-clause-constructor_twice
returns-clause-constructor_twice c = same_constructor_shown

pub returns-clause-place_of_body : goal.returns-clause-place_of_body
returns-clause-place_of_body c = place_shown

pub returns-clause-no_kind : goal.returns-clause-no_kind
returns-clause-no_kind c = kind_shown

pub returns-clause-no_types : goal.returns-clause-no_types
returns-clause-no_types c = no_types_shown

pub returns-clause-many_parameters : goal.returns-clause-many_parameters
returns-clause-many_parameters c = parameters_shown
