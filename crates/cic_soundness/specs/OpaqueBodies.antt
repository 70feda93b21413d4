-- Environments without opaque bodies.
use Rattle.std.specs.Prelude.{None, map}
use Rattle.cic_rules.specs.Environment.{Environment, opaque, Item, declared}

-- An environment whose opaque constants have no bodies.
abbrev pub without_opaque_body : Item → Item
without_opaque_body (declared (opaque id type body)) = declared (opaque id type None)
without_opaque_body item = item

abbrev pub without_opaque_bodies : Environment → Environment
without_opaque_bodies = map without_opaque_body
