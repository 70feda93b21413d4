use Rattle.std.proofs.Common.{◌≡◌, drop, map}
use Rattle.gal_scoping.specs.Names.{fresh_of as fresh_named}
use Rattle.elab_parts.specs.Places.{fresh_of}
use Rattle.elab_parts.proofs.naming.fresh_named.Given as goal

abbrev pub invariant-loop-one : goal.invariant-loop-one
invariant-loop-one l = fresh_named (map fresh_of l.fresh) l.name ≡ fresh_named (map fresh_of (drop l.one-index l.fresh)) l.name
