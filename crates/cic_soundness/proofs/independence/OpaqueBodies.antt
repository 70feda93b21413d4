-- What an id stands for is left as it is by taking opaque bodies away: no lookup shows one.
use Rattle.std.proofs.Common.{◌≡◌, [], ◌∷◌, refl, ap₂}
use Rattle.cic_names.specs.declared.name.GlobalId.{GlobalId}
use Rattle.cic_rules.specs.Environment.{Environment, axiom_of, transparent, opaque, inductive, Item, declared, bare, or_else, item_meaning, meaning}
use Rattle.cic_soundness.specs.OpaqueBodies.{without_opaque_body, without_opaque_bodies}

item_without_opaque_body : (item : Item) (id : GlobalId) → item_meaning (without_opaque_body item) id ≡ item_meaning item id
item_without_opaque_body (declared (axiom_of other type)) id = refl
item_without_opaque_body (declared (transparent other type body)) id = refl
item_without_opaque_body (declared (opaque other type body)) id = refl
item_without_opaque_body (declared (inductive block)) id = refl
item_without_opaque_body (bare block) id = refl

pub meaning_without_opaque_bodies : (E : Environment) (id : GlobalId) → meaning (without_opaque_bodies E) id ≡ meaning E id
meaning_without_opaque_bodies [] id = refl
meaning_without_opaque_bodies (item ∷ E) id = ap₂ or_else (item_without_opaque_body item id) (meaning_without_opaque_bodies E id)
