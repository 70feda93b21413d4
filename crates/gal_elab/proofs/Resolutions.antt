-- What comes of a written term by levels is what it stands for under the binders, or its first unknown
-- name. So the walk, which goes by levels, answers as the definition of scope says.
use Rattle.std.proofs.Common.{◌≡◌, ℕ, zero, suc, List, [], ◌∷◌, length, Bool, true, false, refl, sym, ap, subst, ◌∙◌, add-one, arith, Contains, nat_eq}
use Rattle.std.specs.Prelude.{Option, Some, None, IsTrue, ◌↔◌, ◌||◌, Result, Ok, Err, OnOk}
use Rattle.std.specs.Cmp.Lexicographic.{pointwise}
use Rattle.std.specs.HashMap.{HashMap}
use Rattle.std.specs.Map.{lookup}
use Rattle.std.proofs.lemmas.Bool.{true≢false}
use Rattle.cic_terms.specs.Tree.{Tree, const}
use Rattle.cic_terms.specs.Denotes.{tree}
use Rattle.cic_terms.specs.declared.term.Term.{Term}
use Rattle.cic_names.specs.declared.name.GlobalId.{GlobalId}
use Rattle.cic_names.specs.Sameness.{same_id}
use Rattle.cic_rules.specs.Environment.{Environment, environment_ids}
use Rattle.cic_names.proofs.Equality.{same_id_decides}
use Rattle.gal_parser.specs.Grammar as G
use Rattle.gal_elab.specs.Scoping.{Binders, NamesNone, id_of, StandsFor, prop_stands, variable_stands, constant_stands, for_all_stands, arrow_stands, FirstUnknown, unknown_name, unknown_in_type, unknown_in_body, unknown_before_arrow, unknown_behind_arrow}
use Rattle.gal_elab.specs.calls.Resolving.{Levels, put, Resolved, found, unknown, is_among, constant_or_unknown, resolve_name, product, resolve}
use Rattle.gal_elab.specs.Answers.{reason}
use Rattle.gal_elab.specs.calls.LookingUp.{Resolves, MakesProduct, levels_in}
use Rattle.memory.specs.Telling.{Tells}
use Rattle.gal_elab.specs.declared.elaborating.ElabFault.{ElabFault}
use Rattle.gal_elab.specs.declared.elaborating.ElabFault.TheVariants.{Unknown, NoMemory}
use Rattle.gal_elab.proofs.Levelled.{levels_of, LevelTells, level_tells}

first_or_later : (id first : GlobalId) (rest : List GlobalId) (b : Bool) → same_id first id ≡ b → b || is_among id rest ≡ true →
    (is_among id rest ≡ true → Contains rest id) → Contains (first ∷ rest) id
first_or_later id first rest true same is later = (0, omega arith, (same_id_decides first id).0 same)
first_or_later id first rest false same is later = let there = later is in (suc there.0, omega (arith, there.1), there.2)

pub among-contained : (id : GlobalId) (ids : List GlobalId) → is_among id ids ≡ true → Contains ids id
among-contained id [] is = absurd (true≢false (sym is))
among-contained id (first ∷ rest) is = first_or_later id first rest _ refl is (among-contained id rest)

second_false : (a b : Bool) → a || b ≡ false → b ≡ false
second_false true b is = absurd (true≢false is)
second_false false b is = is

pub among-all : (id : GlobalId) (ids : List GlobalId) → is_among id ids ≡ false → Contains ids id → ⊥
among-all id [] is has = omega (arith, has.1)
among-all id (first ∷ rest) is (zero, within, same) = true≢false (sym (subst (λ k. same_id k id || is_among id rest ≡ true) (sym same) (rw ((same_id_decides id id).1 refl) refl)) ∙ is)
among-all id (first ∷ rest) is (suc k, within, same) = among-all id rest (second_false (same_id first id) (is_among id rest) is) (k, omega (arith, within), same)

pub contained-among : (id : GlobalId) (ids : List GlobalId) → Contains ids id → is_among id ids ≡ true
contained-among id ids has = by (is_among id ids) refl
  where
    by : (b : Bool) → is_among id ids ≡ b → b ≡ true
    by true is = refl
    by false is = absurd (among-all id ids is has)

pub absent-among : (id : GlobalId) (ids : List GlobalId) → (Contains ids id → ⊥) → is_among id ids ≡ false
absent-among id ids lacks = by (is_among id ids) refl
  where
    by : (b : Bool) → is_among id ids ≡ b → b ≡ false
    by true is = absurd (lacks (among-contained id ids is))
    by false is = refl

-- the answer is what the written term stands for, or its first unknown name
abbrev pub Agrees : (library : List ℕ) → Environment → Binders → G.RawTerm → Resolved → Type 0
Agrees library E binders raw (found t) = StandsFor library E binders raw t
Agrees library E binders raw (unknown name) = FirstUnknown library E binders raw name

constant-agrees : (library : List ℕ) (E : Environment) (binders : Binders) (name : List ℕ) (b : Bool) →
    NamesNone binders name → is_among (id_of library name) (environment_ids E) ≡ b →
    Agrees library E binders (G.name name) (constant_or_unknown b library name)
constant-agrees library E binders name true none is = constant_stands none (among-contained _ _ is) refl
constant-agrees library E binders name false none is = unknown_name none (among-all _ _ is) refl

name-agrees : (library : List ℕ) (E : Environment) (binders : Binders) (name : List ℕ) (level : Option ℕ) →
    LevelTells binders name level → Agrees library E binders (G.name name) (resolve_name library E level (length binders) name)
name-agrees library E binders name None none = constant-agrees library E binders name (is_among (id_of library name) (environment_ids E)) none refl
name-agrees library E binders name (Some level) tells = variable_stands tells.1

for_all-agrees : (library : List ℕ) (E : Environment) (binders : Binders) (binder : List ℕ) (type body : G.RawTerm) (left right : Resolved) →
    Agrees library E binders type left → Agrees library E (Some binder ∷ binders) body right →
    Agrees library E binders (G.for_all binder type body) (product left right)
for_all-agrees library E binders binder type body (unknown name) right l r = unknown_in_type l
for_all-agrees library E binders binder type body (found a) (unknown name) l r = unknown_in_body l r
for_all-agrees library E binders binder type body (found a) (found b) l r = for_all_stands l r

arrow-agrees : (library : List ℕ) (E : Environment) (binders : Binders) (from to : G.RawTerm) (left right : Resolved) →
    Agrees library E binders from left → Agrees library E (None ∷ binders) to right →
    Agrees library E binders (G.arrow from to) (product left right)
arrow-agrees library E binders from to (unknown name) right l r = unknown_before_arrow l
arrow-agrees library E binders from to (found a) (unknown name) l r = unknown_behind_arrow l r
arrow-agrees library E binders from to (found a) (found b) l r = arrow_stands l r

pub resolve-agrees : (library : List ℕ) (E : Environment) (binders : Binders) (raw : G.RawTerm) →
    Agrees library E binders raw (resolve library E (levels_of binders) (length binders) raw)
resolve-agrees library E binders G.prop = prop_stands
resolve-agrees library E binders (G.name name) = name-agrees library E binders name (levels_of binders name) (level_tells binders name)
resolve-agrees library E binders (G.for_all binder type body) =
    for_all-agrees library E binders binder type body _ _ (resolve-agrees library E binders type)
    (subst (λ depth. Agrees library E (Some binder ∷ binders) body (resolve library E (put binder (Some (length binders)) (levels_of binders)) depth body))
    (sym (add-one (length binders))) (resolve-agrees library E (Some binder ∷ binders) body))
resolve-agrees library E binders (G.arrow from to) =
    arrow-agrees library E binders from to _ _ (resolve-agrees library E binders from)
    (subst (λ depth. Agrees library E (None ∷ binders) to (resolve library E (levels_of binders) depth to))
    (sym (add-one (length binders))) (resolve-agrees library E (None ∷ binders) to))

-- The walk's test of a name against what is declared gives the answer of the definition.
pub declared_is_found : (library name : List ℕ) (ids : List GlobalId) (id : GlobalId) (answer : Bool) →
    (IsTrue answer ↔ Contains ids id) → answer ≡ true → id ≡ id_of library name →
    constant_or_unknown (is_among (id_of library name) ids) library name ≡ found (const id)
declared_is_found library name ids id answer told is named =
    ap (λ b. constant_or_unknown b library name) (contained-among _ _ (subst (Contains ids) named (told.0 is))) ∙ ap (λ i. found (const i)) (sym named)

pub undeclared_is_unknown : (library name : List ℕ) (ids : List GlobalId) (id : GlobalId) (answer : Bool) →
    (IsTrue answer ↔ Contains ids id) → answer ≡ false → id ≡ id_of library name →
    constant_or_unknown (is_among (id_of library name) ids) library name ≡ unknown id.name
undeclared_is_unknown library name ids id answer told is named =
    ap (λ b. constant_or_unknown b library name)
    (absent-among _ _ (λ has. true≢false (sym (told.1 (subst (Contains ids) (sym named) has)) ∙ is)))
    ∙ ap (λ i. unknown i.name) (sym named)

-- A fault of the left part is the product's.
pub tells_left : (e : ElabFault) (left right : Resolved) → Resolves (Err e) left → Resolves (Err e) (product left right)
tells_left (Unknown name) left right told = ap (λ part. product part right) told
tells_left NoMemory left right told = tt

-- What came of the right part is the product's, where the left part is a term.
pub tells_product : (a : Term) (codomain answer : Result Term ElabFault) (left right : Resolved) →
    Resolves (Ok a) left → Resolves codomain right → MakesProduct (tree a) codomain answer → Resolves answer (product left right)
tells_product a codomain (Err NoMemory) left right told told' is = tt
tells_product a (Ok b) (Ok t) left right told told' is = ap (λ part. product part right) told ∙ ap (product (found (tree a))) told' ∙ ap found (sym is)
tells_product a (Err e) (Ok t) left right told told' is = absurd is
tells_product a codomain (Err (Unknown name)) left right told told' is =
    ap (λ part. product part right) told ∙ ap (product (found (tree a))) (subst (λ c. Resolves c right) is told')

-- The product is a term only where the codomain is.
pub ok_product : (domain : Tree) (codomain answer : Result Term ElabFault) (P : Type 0) → MakesProduct domain codomain answer → OnOk codomain P → OnOk answer P
ok_product domain codomain (Err fault) P is holds = tt
ok_product domain (Ok b) (Ok t) P is holds = holds
ok_product domain (Err e) (Ok t) P is holds = absurd is

-- A map without entries holds the levels of no binders.
pub empty_levels : {S : Type 0} (map : HashMap (List ℕ) ℕ S) → map.entries ≡ [] → levels_in map ≡ levels_of []
empty_levels map is = ap (λ es. λ (name : List ℕ). lookup (pointwise nat_eq name) es) is

-- The whole term, under no binder.
abbrev pub Settles : (library : List ℕ) → Environment → G.RawTerm → Result Term ElabFault → Type 0
Settles library E raw result = Tells reason result (λ t. StandsFor library E [] raw (tree t)) (FirstUnknown library E [] raw)

pub settles : (library : List ℕ) (E : Environment) (raw : G.RawTerm) (levels : Levels) (result : Result Term ElabFault) →
    levels ≡ levels_of [] → Resolves result (resolve library E levels 0 raw) → Settles library E raw result
settles library E raw levels (Ok t) none told =
    subst (Agrees library E [] raw) (ap (λ l. resolve library E l 0 raw) (sym none) ∙ told) (resolve-agrees library E [] raw)
settles library E raw levels (Err (Unknown name)) none told =
    subst (Agrees library E [] raw) (ap (λ l. resolve library E l 0 raw) (sym none) ∙ told) (resolve-agrees library E [] raw)
settles library E raw levels (Err NoMemory) none told = tt
