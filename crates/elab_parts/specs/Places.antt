-- The place of the definitions that a place of the program stands for.
use Rattle.std.specs.Prelude.{map}
use Rattle.cic_env.specs.Environments.{items}
use Rattle.gal_scoping.specs.Names.{Place, Fresh, fresh_constant, fresh_type}
use Rattle.gal_scoping.specs.Levels.{Owner}
use Rattle.name_scope.specs.Held.{scope_of}
use Rattle.elab_parts.specs.declared.place.Place.{Place as Held}
use Rattle.elab_parts.specs.declared.place.Fresh.{Fresh as HeldFresh}
use Rattle.elab_parts.specs.declared.place.Fresh.TheVariants.{Constant, «Type»}

abbrev pub fresh_of : HeldFresh → Fresh
fresh_of (Constant name) = fresh_constant name
fresh_of («Type» name) = fresh_type name

abbrev pub place_of : Held → Place
place_of p = record { scope = scope_of p.scope.now; environment = items p.env.now; fresh = map fresh_of p.fresh.now }

abbrev pub owner_of : Held → Owner
owner_of p = record { name = p.owner.now; opaque = p.opaque }
