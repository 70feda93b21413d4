-- When a renaming or a substitution leads from one context to another as far as typing can tell: by the
-- types of variables beside what steps can tell.
use Rattle.std.specs.Prelude.{ℕ, ◌+◌, ◌≡◌, Some}
use Rattle.cic_terms.specs.Tree.{Tree}
use Rattle.cic_terms.specs.Lift.{lift_tree}
use Rattle.cic_rules.specs.Numbering.{Numbering}
use Rattle.cic_rules.specs.Environment.{Environment, Context, type_at}
use Rattle.cic_rules.specs.Typing.{Typed}
use Rattle.cic_metatheory.specs.Substitution.{rename, substitute}
use Rattle.cic_metatheory.specs.Growth.{RenamesContext, SubstitutesContext}

-- Variable x has a type, and t is that type, lifted past the entries up to its own.
pub record HasType (G : Context) (x : ℕ) (t : Tree) : Type 0 where
  pub type : Tree
  pub stands : type_at G x ≡ Some type
  pub is_lifted : t ≡ lift_tree 0 (x + 1) type

-- A renaming leads from the context G to D, and a variable with a type goes to one with that type, renamed.
pub record RenamesTypedContext (r : ℕ → ℕ) (G D : Context) : Type 0 where
  pub context : RenamesContext r G D
  pub types : (x : ℕ) (t : Tree) → HasType G x t → HasType D (r x) (rename r t)

-- A substitution leads from the context G to D, and what is put in for a variable with a type has that type.
pub record SubstitutesTypedContext (E : Environment) (N : Numbering) (s : ℕ → Tree) (G D : Context) : Type 0 where
  pub context : SubstitutesContext E s G D
  pub types : (x : ℕ) (t : Tree) → HasType G x t → Typed E N D (s x) (substitute s t)
