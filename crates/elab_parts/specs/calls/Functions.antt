-- Functions of a fix that are read, as far as their parts are within the limits.
use Rattle.std.specs.Prelude.{ℕ, List, [], ◌∷◌, map, Option, Some, option_map}
use Rattle.std.specs.Option.{option_and_then}
use Rattle.cic_terms.specs.Tree.{Tree}
use Rattle.cic_rules.specs.Environment.{Environment}
use Rattle.gal_scoping.specs.Fixpoints.{Binding, ReadFunction as Read, fix_read}
use Rattle.elab_parts.specs.declared.functions.ReadFunction.{ReadFunction}
use Rattle.elab_parts.specs.calls.Parts.{known, cut}
use Rattle.elab_parts.specs.calls.Bindings.{KnownBinding, known_binding, cut_binding}

pub record KnownFunction : Type 0 where
  pub struct : Option ℕ
  pub bindings : List KnownBinding
  pub codomain : Option Tree
  pub body : Option Tree

abbrev pub known_function : ReadFunction → KnownFunction
known_function f = record { struct = f.structural; bindings = map known_binding f.binders.items; codomain = known f.codomain; body = known f.body }

abbrev pub cut_function : Read → KnownFunction
cut_function f = record { struct = f.struct; bindings = map cut_binding f.bindings; codomain = cut f.codomain; body = cut f.body }

-- The functions, where all their parts are there.
abbrev pub whole_bindings : List KnownBinding → Option (List Binding)
whole_bindings [] = Some []
whole_bindings (b ∷ bs) =
    option_and_then (λ t. option_map (λ rest. record { name = b.name; type = t } ∷ rest) (whole_bindings bs)) b.type

abbrev pub whole_function : KnownFunction → Option Read
whole_function f =
    option_and_then (λ bs. option_and_then (λ a. option_map (λ t. record { struct = f.struct; bindings = bs; codomain = a; body = t }) f.body) f.codomain)
    (whole_bindings f.bindings)

abbrev pub whole_functions : List KnownFunction → Option (List Read)
whole_functions [] = Some []
whole_functions (f ∷ fs) = option_and_then (λ g. option_map (λ gs. g ∷ gs) (whole_functions fs)) (whole_function f)

-- The fix of these functions.
abbrev pub known_fix : Environment → List KnownFunction → (which : ℕ) → Option Tree
known_fix E fs which = option_and_then (λ gs. cut (fix_read E gs which)) (whole_functions fs)
