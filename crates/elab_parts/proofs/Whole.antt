-- A fix within the limits has its parts within them.
use Rattle.std.proofs.Common.{◌≡◌, ℕ, List, [], ◌∷◌, map, length, refl, sym, subst, ◌⊎◌, inl, inr, arith}
use Rattle.std.specs.Prelude.{Some, None}
use Rattle.cic_terms.specs.Sizes.{Fits, ChildrenFit}
use Rattle.cic_rules.specs.Environment.{Environment}
use Rattle.cic_rules.specs.Telescopes.{function_parts}
use Rattle.gal_scoping.specs.Fixpoints.{Binding, ReadFunction, with_places, fix_read}
use Rattle.elab_parts.specs.calls.Parts.{cut}
use Rattle.elab_parts.specs.calls.Bindings.{cut_binding}
use Rattle.elab_parts.specs.calls.Functions.{cut_function, whole_bindings, whole_function, whole_functions, known_fix}
use Rattle.elab_parts.proofs.Cuts.{cut_is, cut_unfit}
use Rattle.elab_parts.proofs.Fixing.{with_parts_any, functions_fit}

bindings_or : (bs : List Binding) → (whole_bindings (map cut_binding bs) ≡ Some bs) ⊎ (whole_bindings (map cut_binding bs) ≡ None)
bindings_or [] = inl refl
bindings_or (b ∷ bs) = elim (cut_is b.type) [
  | inl p ↦ elim (bindings_or bs) [
    | inl q ↦ inl (rw (p.0, q) refl)
    | inr q ↦ inr (rw (p.0, q) refl)
  ]
  | inr p ↦ inr (rw p.0 refl)
]

function_or : (f : ReadFunction) → (whole_function (cut_function f) ≡ Some f) ⊎ (whole_function (cut_function f) ≡ None)
function_or f = elim (bindings_or f.bindings) [
  | inl p ↦ elim (cut_is f.codomain) [
    | inl q ↦ elim (cut_is f.body) [
      | inl r ↦ inl (rw (p, q.0, r.0) refl)
      | inr r ↦ inr (rw (p, q.0, r.0) refl)
    ]
    | inr q ↦ inr (rw (p, q.0) refl)
  ]
  | inr p ↦ inr (rw p refl)
]

functions_or : (fs : List ReadFunction) → (whole_functions (map cut_function fs) ≡ Some fs) ⊎ (whole_functions (map cut_function fs) ≡ None)
functions_or [] = inl refl
functions_or (f ∷ fs) = elim (function_or f) [
  | inl p ↦ elim (functions_or fs) [
    | inl q ↦ inl (rw (p, q) refl)
    | inr q ↦ inr (rw (p, q) refl)
  ]
  | inr p ↦ inr (rw p refl)
]

whole_of_fix : (E : Environment) (fs : List ReadFunction) (which : ℕ) → Fits 4000 (fix_read E fs which) → whole_functions (map cut_function fs) ≡ Some fs
whole_of_fix E fs which f =
    let parts : ChildrenFit 4000 (function_parts (length (with_places E fs)) (with_places E fs)) = record { depth = omega (arith, f.depth); rels = omega (arith, f.rels) } in
    functions_fit _ fs (subst (ChildrenFit 4000) (with_parts_any E _ fs) parts)

-- The fix of parts, each as far as it is within the limits, is the fix as far as it is.
pub fix_cut : (E : Environment) (fs : List ReadFunction) (which : ℕ) → known_fix E (map cut_function fs) which ≡ cut (fix_read E fs which)
fix_cut E fs which = elim (functions_or fs) [
  | inl w ↦ rw w refl
  | inr w ↦ rw w (sym (cut_unfit (fix_read E fs which) (λ f. let e = whole_of_fix E fs which f in let z : ⊥ = cc in z)))
]
