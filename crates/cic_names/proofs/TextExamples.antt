-- Texts of an id, of each kind of level, and of both kinds of constraint.
use Rattle.std.proofs.Common.{ℕ, List, ◌++◌, ◌≡◌, codes, refl, ap, Bool, true, false, arith}
use Rattle.std.proofs.lemmas.Fmt.{decimal_digit}
use Rattle.cic_names.specs.declared.level.Part.{Part}
use Rattle.cic_names.specs.declared.level.Part.TheVariants.{Declared, Visible, Proof}
use Rattle.cic_names.specs.declared.level.Level.{Level}
use Rattle.cic_names.specs.declared.level.Level.TheVariants.{Set, Named}
use Rattle.cic_names.specs.declared.constraint.Constraint.{Constraint}
use Rattle.cic_names.specs.Texts.{id_text, level_text, constraint_text}

-- A level of the library A.
abbrev level_of : (owner : List ℕ) → Part → Level
level_of owner part = Named (record { lib = codes "A"; owner = owner; part = part })

id_example : id_text (record { lib = codes "Init"; name = codes "nat" }) ≡ codes "Init.nat"
id_example = refl

set_example : level_text Set ≡ codes "Set"
set_example = refl

declared_example : level_text (level_of (codes "u") Declared) ≡ codes "A.u"
declared_example = refl

visible_example : level_text (level_of (codes "c") (Visible 0)) ≡ codes "A.c.v0"
visible_example = ap (λ (number : List ℕ). codes "A.c.v" ++ number) (decimal_digit 0 (omega arith))

proof_example : level_text (level_of (codes "c") (Proof 7)) ≡ codes "A.c.p7"
proof_example = ap (λ (number : List ℕ). codes "A.c.p" ++ number) (decimal_digit 7 (omega arith))

abbrev between : (strict : Bool) → Constraint
between strict = record { left = Set; strict = strict; right = level_of (codes "u") Declared }

strict_example : constraint_text (between true) ≡ codes "Set < A.u"
strict_example = refl

not_strict_example : constraint_text (between false) ≡ codes "Set <= A.u"
not_strict_example = refl

-- A strict constraint is not printed as one that is not.
strict_is_told_apart : constraint_text (between true) ≡ constraint_text (between false) → ⊥
strict_is_told_apart e = grind arith
