-- A declaration without its body declares the same ids.
use Rattle.std.proofs.Common.{◌≡◌, refl}
use Rattle.cic_rules.specs.Environment.{Declaration, axiom_of, transparent, opaque, inductive, declared_ids}
use Rattle.cic_env.specs.Declarations.{without_body}

pub ids_without_body : (d : Declaration) → declared_ids (without_body d) ≡ declared_ids d
ids_without_body (axiom_of id type) = refl
ids_without_body (transparent id type body) = refl
ids_without_body (opaque id type body) = refl
ids_without_body (inductive block) = refl
