-- Binders and their levels: the level of a name tells its variable, and a level that is put back is the
-- one that was there. The walk needs this because it keeps levels in a map in place of binders in a list.
use Rattle.std.proofs.Common.{◌≡◌, ◌≢◌, ℕ, suc, ◌-◌, ◌<◌, List, [], ◌∷◌, length, Bool, true, false, cond, nat_eq, refl, sym, ap, subst, ◌∙◌, arith}
use Rattle.std.specs.Prelude.{Option, Some, None}
use Rattle.std.specs.Cmp.Lexicographic.{pointwise, bytes_decides}
use Rattle.std.proofs.lemmas.Bool.{true≢false}
use Rattle.gal_elab.specs.Scoping.{Binders, NamesVariable, here, there, NamesNone, no_binder, another}
use Rattle.gal_elab.specs.calls.Resolving.{Levels, put}

-- the levels inside one binder more, which has so many outside it
abbrev pub put_binder : Option (List ℕ) → ℕ → Levels → Levels
put_binder None level levels = levels
put_binder (Some name) level levels = put name (Some level) levels

abbrev pub levels_of : Binders → Levels
levels_of [] = λ _. None
levels_of (binder ∷ outer) = put_binder binder (length outer) (levels_of outer)

-- what a level tells of a name: none that no binder has it, a level its variable
abbrev pub LevelTells : Binders → List ℕ → Option ℕ → Type 0
LevelTells binders name None = NamesNone binders name
LevelTells binders name (Some level) = (level < length binders) × NamesVariable binders name (length binders - 1 - level)

level_outside : (binder : Option (List ℕ)) (outer : Binders) (name : List ℕ) (level : Option ℕ) →
    binder ≢ Some name → LevelTells outer name level → LevelTells (binder ∷ outer) name level
level_outside binder outer name None other tells = another other tells
level_outside binder outer name (Some level) other tells =
    let further : suc (length outer - 1 - level) ≡ suc (length outer) - 1 - level = omega (arith, tells.0) in
    (omega (arith, tells.0), subst (NamesVariable (binder ∷ outer) name) further (there other tells.1))

level_inside : (binder name : List ℕ) (outer : Binders) → binder ≡ name → LevelTells (Some binder ∷ outer) name (Some (length outer))
level_inside binder name outer same =
    let first : 0 ≡ suc (length outer) - 1 - length outer = omega arith in
    (omega arith, subst (NamesVariable (Some binder ∷ outer) name) first (here (ap Some same)))

level_under : (binder name : List ℕ) (outer : Binders) (level : Option ℕ) (b : Bool) → pointwise nat_eq binder name ≡ b →
    LevelTells outer name level → LevelTells (Some binder ∷ outer) name (cond b (Some (length outer)) level)
level_under binder name outer level true same tells = level_inside binder name outer ((bytes_decides binder name).0 same)
level_under binder name outer level false same tells =
    let other : Some binder ≢ Some name = λ h. let e : binder ≡ name = cc in true≢false (sym ((bytes_decides binder name).1 e) ∙ same) in
    level_outside (Some binder) outer name level other tells

pub level_tells : (binders : Binders) (name : List ℕ) → LevelTells binders name (levels_of binders name)
level_tells [] name = no_binder
level_tells (None ∷ outer) name = level_outside None outer name (levels_of outer name) (λ h. cc) (level_tells outer name)
level_tells (Some binder ∷ outer) name = level_under binder name outer (levels_of outer name) _ refl (level_tells outer name)

pub put_back : (name : List ℕ) (level old : Option ℕ) (levels : Levels) → old ≡ levels name → put name old (put name level levels) ≡ levels
put_back name level old levels is = λ i other. at other (pointwise nat_eq name other) refl i
  where
    at : (other : List ℕ) (b : Bool) → pointwise nat_eq name other ≡ b → cond b old (cond b level (levels other)) ≡ levels other
    at other true same = is ∙ ap levels ((bytes_decides name other).0 same)
    at other false same = refl

-- the innermost binder of a name is one variable
pub one_variable : {binders : Binders} {name : List ℕ} {x y : ℕ} → NamesVariable binders name x → NamesVariable binders name y → x ≡ y
one_variable (here same) (here same') = refl
one_variable (here same) (there other h) = absurd (other same)
one_variable (there other h) (here same) = absurd (other same)
one_variable (there other h) (there other' h') = ap suc (one_variable h h')

pub variable_or_none : {binders : Binders} {name : List ℕ} {x : ℕ} → NamesVariable binders name x → NamesNone binders name → ⊥
variable_or_none (here same) (another other h) = other same
variable_or_none (there other h) (another other' h') = variable_or_none h h'
