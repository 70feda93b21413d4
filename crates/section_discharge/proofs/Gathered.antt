-- Lists whose items are made one after the other.
use Rattle.std.proofs.Common.{◌≡◌, ℕ, zero, suc, ◌+◌, ◌≤◌, ◌<◌, Bool, true, false, true≢false, nat_eq, Option, Some, None, option_map, List, [], ◌∷◌, ◌++◌, length, map, take, get_or, refl, sym, ap, ap₂, subst, ◌∙◌, arith}
use Rattle.std.proofs.lemmas.Grind.{common_steps}
use Rattle.cic_names.specs.declared.name.GlobalId.{GlobalId}
use Rattle.cic_env.specs.Declarations.{declaration, constructor_declaration, type_declaration, IsOfConstant}
use Rattle.cic_env.specs.declared.declaration.Decl.{Decl}
use Rattle.cic_env.specs.declared.declaration.IndType.{IndType}
use Rattle.cic_env.specs.declared.declaration.Decl.TheVariants.{Axiom, Transparent, Opaque, Inductive}
use Rattle.cic_rules.specs.Environment as rules
use Rattle.cic_terms.specs.Tree.{Tree}
use Rattle.cic_terms.specs.Sizes.{Fits}
use Rattle.cic_terms.proofs.Gathered.{take_more}
use Rattle.section_terms.specs.Hypotheses.{Hypothesis}
use Rattle.section_terms.specs.Discharge.{generalised, generalised_type, generalised_body, generalised_part, generalised_type_declaration, DeclarationFits, ConstructorsFit, TypesFit}
use Rattle.section_terms.specs.calls.Standing.{nothing_passed, bounds, put, pass_all}
use Rattle.section_terms.proofs.Discharging.{type_at_once, body_at_once, part_at_once}
use Rattle.section_discharge.specs.calls.Parts.{ConstructorFits, TypeFits}
use Rattle.section_discharge.specs.calls.Binders.{BoundsFit, FitsAt}
use Rattle.section_discharge.specs.declared.binders.Binding.TheVariants.{Product}
use Rattle.section_discharge.proofs.Bounds.{fits_at, fits_bounds}

abbrev pub Each : {B : Type 0} → (B → Type 0) → List B → Type 0
Each P [] = Unit {0}
Each P (x ∷ xs) = P x × Each P xs

-- The items that were made of the first ones
pub record Gathered {A B : Type 0} (read : A → B) (gen : B → B) (P : B → Type 0) (all : List A) (i : ℕ) (made : List A) : Type 0 where
  pub are : map read made ≡ map gen (map read (take i all))
  pub fit : Each P (map read made)

module _ {A B : Type 0} (read : A → B) (gen : B → B) (P : B → Type 0) where
  map_more : (xs : List A) (x : A) → map read (xs ++ x ∷ []) ≡ map read xs ++ read x ∷ []
  map_more [] x = refl
  map_more (y ∷ xs) x = ap (λ (l : List B). read y ∷ l) (map_more xs x)

  gen_more : (xs : List B) (x : B) → map gen (xs ++ x ∷ []) ≡ map gen xs ++ gen x ∷ []
  gen_more [] x = refl
  gen_more (y ∷ xs) x = ap (λ (l : List B). gen y ∷ l) (gen_more xs x)

  each_more : (xs : List B) (x : B) → Each P xs → P x → Each P (xs ++ x ∷ [])
  each_more [] x h p = (p, tt)
  each_more (y ∷ xs) x h p = (h.0, each_more xs x h.1 p)

  pub gathered_none : (all made : List A) → made ≡ [] → Gathered read gen P all 0 made
  gathered_none all made e = rw e (record { are = refl; fit = tt })

  pub gathered_more : (all : List A) (i : ℕ) (made made' : List A) (x new : A) → i < length all → x ≡ get_or all i x → made' ≡ made ++ new ∷ [] →
      read new ≡ gen (read x) → P (gen (read x)) → Gathered read gen P all i made → Gathered read gen P all (i + 1) made'
  gathered_more all i made made' x new lt at last e p h =
      let more = ap (map read) last ∙ map_more made new in
      record {
        are =
            more ∙ ap₂ (λ (l : List B) (y : B). l ++ y ∷ []) h.are e
            ∙ sym (gen_more (map read (take i all)) (read x))
            ∙ sym (ap (map gen) (ap (map read) (take_more all i x lt at) ∙ map_more (take i all) x));
        fit = subst (Each P) (sym more) (each_more (map read made) (read new) h.fit (subst P (sym e) p));
      }

  each_at : (all : List A) (i : ℕ) (d : A) → i < length all → Each P (map gen (map read all)) → P (gen (read (get_or all i d)))
  each_at [] i d lt h = absurd (omega arith)
  each_at (x ∷ all) zero d lt h = h.0
  each_at (x ∷ all) (suc i) d lt h = each_at all i d (omega arith) h.1

  pub gathered_refused : (all : List A) (i : ℕ) (x : A) → i < length all → x ≡ get_or all i x → ¬ P (gen (read x)) → ¬ Each P (map gen (map read all))
  gathered_refused all i x lt at never h = never (subst (λ y. P (gen (read y))) (sym at) (each_at all i x lt h))

  taken_whole : (xs : List A) (n : ℕ) → length xs ≤ n → take n xs ≡ xs
  taken_whole xs n h = grind (arith, common_steps)

  pub gathered_all : (all : List A) (i : ℕ) (made : List A) → length all ≤ i → Gathered read gen P all i made → map read made ≡ map gen (map read all)
  gathered_all all i made le h = h.are ∙ ap (λ (l : List A). map gen (map read l)) (taken_whole all i le)

-- What fits, one by one
pub constructors_each : (cs : List rules.ConstructorDeclaration) → ConstructorsFit cs → Each ConstructorFits cs
constructors_each [] h = tt
constructors_each (c ∷ cs) h = (h.0, constructors_each cs h.1)

pub each_constructors : (cs : List rules.ConstructorDeclaration) → Each ConstructorFits cs → ConstructorsFit cs
each_constructors [] h = tt
each_constructors (c ∷ cs) h = (h.0, each_constructors cs h.1)

pub types_each : (ts : List rules.TypeDeclaration) → TypesFit ts → Each TypeFits ts
types_each [] h = tt
types_each (t ∷ ts) h = ((h.0, h.1), types_each ts h.2)

pub each_types : (ts : List rules.TypeDeclaration) → Each TypeFits ts → TypesFit ts
each_types [] h = tt
each_types (t ∷ ts) h = (h.0.0, h.0.1, each_types ts h.1)

-- Binders that do not fit
type_refused : (arguments : GlobalId → List GlobalId) (hs : List Hypothesis) (t : Tree) → ¬ BoundsFit 0 (bounds arguments true hs nothing_passed) → ¬ Fits 4000 (generalised_type arguments hs t)
type_refused arguments hs t never h =
    let whole = subst (Fits 4000) (type_at_once arguments hs t) h in
    never (fits_bounds Product 0 (bounds arguments true hs nothing_passed) (put arguments (pass_all arguments true hs nothing_passed) 0 t) (fits_at 4000 0 _ (omega arith) whole))

pub constant_refused : (arguments : GlobalId → List GlobalId) (hs : List Hypothesis) (d : Decl) → IsOfConstant d →
    ¬ BoundsFit 0 (bounds arguments true hs nothing_passed) → ¬ DeclarationFits (generalised arguments hs (declaration d))
constant_refused arguments hs (Axiom id ty) is never h = type_refused arguments hs _ never h
constant_refused arguments hs (Transparent id ty body) is never h = type_refused arguments hs _ never h.0
constant_refused arguments hs (Opaque id ty body) is never h = type_refused arguments hs _ never h.0
constant_refused arguments hs (Inductive b) is never h = absurd is

pub types_refused : (arguments : GlobalId → List GlobalId) (hs : List Hypothesis) (ts : List rules.TypeDeclaration) → ¬ (ts ≡ []) →
    ¬ BoundsFit 0 (bounds arguments false hs nothing_passed) → ¬ TypesFit (map (generalised_type_declaration arguments hs) ts)
types_refused arguments hs [] some never h = some refl
types_refused arguments hs (t ∷ ts) some never h =
    let whole = subst (Fits 4000) (part_at_once arguments hs t.arity) h.0 in
    never (fits_bounds Product 0 (bounds arguments false hs nothing_passed) (put arguments (pass_all arguments false hs nothing_passed) 0 t.arity) (fits_at 4000 0 _ (omega arith) whole))

-- A list that is not empty stays so.
pub some_types : (ts : List IndType) (b : Bool) → b ≡ nat_eq (length ts) 0 → b ≡ false → ¬ (map type_declaration ts ≡ [])
some_types [] b e f h = true≢false (sym e ∙ f)
some_types (t ∷ ts) b e f h = cc
