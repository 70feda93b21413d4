-- Declarations that can be stored can be written.
use Rattle.std.proofs.Common.{ℕ, List, [], ◌∷◌, ◌++◌}
use Rattle.std.specs.Prelude.{None, Some}
use Rattle.std.specs.List.{AllByRecursion}
use Rattle.cic_rules.specs.Environment.{TypeDeclaration, Declaration, axiom_of, transparent, opaque, inductive}
use Rattle.lib_format.specs.Lists.{MayStand}
use Rattle.lib_format.specs.DeclarationBytes.{constructor_names, block_names, all_names, opaques_of, IsConstructor, IsInductiveType, IsDeclaration, AreDeclarations}
use Rattle.lib_codec.specs.calls.Writing.{ConstructorCanBeWritten, TypeCanBeWritten, CanBeWritten}

each_of : {A : Type 0} (May : List A → A → Type 0) (P : A → Type 0) → ((before : List A) (x : A) → May before x → P x) → (before xs : List A) → MayStand May before xs → AllByRecursion P xs
each_of May P h before [] m = tt
each_of May P h before (x ∷ xs) m = (h before x m.0, each_of May P h (before ++ x ∷ []) xs m.1)

type_writable : (library : List ℕ) (seen : List (List ℕ)) (t : TypeDeclaration) → IsInductiveType library seen t → TypeCanBeWritten t
type_writable library seen t h = record {
  arity = h.arity.rows;
  few = h.constructors.few;
  constructors = each_of (λ before c. IsConstructor library ((seen ++ t.id.name ∷ []) ++ constructor_names before) c) ConstructorCanBeWritten (λ before c m. m.type.rows) [] t.constructors h.constructors.each;
}

writable : (library : List ℕ) (seen : List (List ℕ)) (index : ℕ) (d : Declaration) → IsDeclaration library seen index d → CanBeWritten d
writable library seen index (axiom_of id type) h = h.1.rows
writable library seen index (transparent id type body) h = (h.1.rows, h.2.rows)
writable library seen index (opaque id type None) h = h.1.rows
writable library seen index (opaque id type (Some body)) h = absurd h
writable library seen index (inductive b) h = record {
  few = h.types.few;
  types = each_of (λ before t. IsInductiveType library (seen ++ block_names before) t) TypeCanBeWritten (λ before t m. type_writable library (seen ++ block_names before) t m) [] b.types h.types.each;
}

pub declarations_writable : (library : List ℕ) (ds : List Declaration) → AreDeclarations library ds → AllByRecursion CanBeWritten ds
declarations_writable library ds h =
    each_of (λ before d. IsDeclaration library (all_names before) (opaques_of before) d) CanBeWritten (λ before d m. writable library (all_names before) (opaques_of before) d m) [] ds h.each
