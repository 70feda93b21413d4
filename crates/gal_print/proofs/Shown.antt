-- What is told of a type and of a constructor at a place.
use Rattle.std.proofs.Common.{◌≡◌, ℕ, zero, suc, ◌+◌, ◌<◌, ◌≤◌, List, [], ◌∷◌, length, map, drop, get_or, refl, sym, ap, ◌∙◌, arith, Some, None, Bool, if◌then◌else◌, eq-eqb}
use Rattle.std.proofs.lemmas.List.{length-map}
use Rattle.cic_names.specs.declared.name.GlobalId.{GlobalId}
use Rattle.cic_names.specs.Texts.{id_text}
use Rattle.cic_rules.specs.Environment.{element, constructor_ids}
use Rattle.cic_env.specs.Declarations.{type_declaration, constructor_declaration}
use Rattle.cic_env.specs.declared.declaration.CtorDecl.{CtorDecl}
use Rattle.cic_env.specs.declared.declaration.IndType.{IndType}
use Rattle.cic_terms.proofs.Children.{drop_at}
use Rattle.gal_print.specs.Heads.{Heads, heads_of_type, unknown_heads}
use Rattle.gal_print.specs.Printing.{head_text}

drop_map : {A B : Type 0} (f : A → B) (i : ℕ) (xs : List A) → drop i (map f xs) ≡ map f (drop i xs)
drop_map f zero xs = refl
drop_map f (suc i) [] = refl
drop_map f (suc i) (x ∷ xs) = drop_map f i xs

pub head_at : (cs : List CtorDecl) (i : ℕ) (c : CtorDecl) → i < length cs → c ≡ get_or cs i c → head_text (drop i (map (λ (d : CtorDecl). d.id) cs)) ≡ id_text c.id
head_at cs i c l e =
    ap head_text (drop_map (λ (d : CtorDecl). d.id) i cs ∙ ap (map (λ (d : CtorDecl). d.id)) (drop_at cs i c l e))

element_of_drop : {A B : Type 0} (f : A → B) (i : ℕ) (xs : List A) (x : A) (rest : List A) → drop i xs ≡ x ∷ rest → element (map f xs) i ≡ Some (f x)
element_of_drop f zero [] x rest e = absurd cc
element_of_drop f zero (y ∷ xs) x rest e = cc
element_of_drop f (suc i) [] x rest e = absurd cc
element_of_drop f (suc i) (y ∷ xs) x rest e = element_of_drop f i xs x rest e

no_element : {A B : Type 0} (f : A → B) (i : ℕ) (xs : List A) → length xs ≤ i → element (map f xs) i ≡ None
no_element f i [] l = refl
no_element f zero (x ∷ xs) l = absurd (omega (arith, l))
no_element f (suc i) (x ∷ xs) l = no_element f i xs (omega (arith, l))

pub type_at_place : (seen ts : List IndType) (i : ℕ) (t : IndType) → seen ≡ ts → i < length seen → t ≡ get_or seen i t → element (map type_declaration ts) i ≡ Some (type_declaration t)
type_at_place seen ts i t same l e =
    ap (λ (xs : List IndType). element (map type_declaration xs) i) (sym same)
    ∙ element_of_drop type_declaration i seen t (drop (i + 1) seen) (drop_at seen i t l e)

pub no_type_at_place : (seen ts : List IndType) (i : ℕ) → seen ≡ ts → length seen ≤ i → element (map type_declaration ts) i ≡ None
no_type_at_place seen ts i same l =
    ap (λ (xs : List IndType). element (map type_declaration xs) i) (sym same) ∙ no_element type_declaration i seen l

-- A type that has as many constructors as there are branches.
ids_of_constructors : (cs : List CtorDecl) → map (λ (d : CtorDecl). d.id) cs ≡ constructor_ids (map constructor_declaration cs)
ids_of_constructors [] = refl
ids_of_constructors (c ∷ cs) = ap (λ (ids : List GlobalId). c.id ∷ ids) (ids_of_constructors cs)

abbrev known_as : (parameters : ℕ) → List GlobalId → Heads
known_as parameters ids = record { parameters = parameters; constructors = ids }

pub type_is_known : (parameters branches : ℕ) (seen : List CtorDecl) (t : IndType) → seen ≡ t.ctors.items → length t.ctors.items ≡ branches →
    known_as parameters (map (λ (d : CtorDecl). d.id) seen) ≡ heads_of_type parameters branches (Some (type_declaration t))
type_is_known parameters branches seen t same l =
    ap (known_as parameters) (ap (map (λ (d : CtorDecl). d.id)) same ∙ ids_of_constructors t.ctors.items)
    ∙ ap (λ (b : Bool). if b then known_as parameters (constructor_ids (map constructor_declaration t.ctors.items)) else unknown_heads)
    (sym (eq-eqb (length (map constructor_declaration t.ctors.items)) branches (length-map t.ctors.items constructor_declaration ∙ l)))
