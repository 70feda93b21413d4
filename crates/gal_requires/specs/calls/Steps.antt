-- What the steps through the names do.
use Rattle.std.specs.Prelude.{ℕ, List, ◌++◌, ◌≡◌, Option}
use Rattle.gal_raw.specs.Denotes.{identifier}
use Rattle.gal_requires.specs.Roots.{Mention, Means, Roots, with_library, named_of, IsRootFault}
use Rattle.gal_requires.specs.declared.naming.RootFault.{RootFault}
use Rattle.gal_requires.specs.declared.naming.RootFault.TheVariants as F

-- the name's library joins the others
abbrev pub Adds : Option (List ℕ) → Mention → List (List ℕ) → List (List ℕ) → Type 0
Adds prefix m old new = (l : List ℕ) × Means prefix m l × (new ≡ with_library old l)

-- the name means no library
abbrev pub Nameless : Option (List ℕ) → Mention → RootFault → Type 0
Nameless prefix m (F.Unknown name lines) = ((l : List ℕ) → Means prefix m l → ⊥) × (named_of m.name ≡ identifier name) × (m.lines ≡ lines)
Nameless prefix m F.NoMemory = Unit {0}

-- the roots of any names before become those of these names behind them
abbrev pub Goes : Option (List ℕ) → List (List ℕ) → List (List ℕ) → List Mention → Type 0
Goes prefix old new xs = (ms : List Mention) → Roots prefix ms old → Roots prefix (ms ++ xs) new

abbrev pub Fails : Option (List ℕ) → List (List ℕ) → List Mention → RootFault → Type 0
Fails prefix old xs fault = (ms : List Mention) → Roots prefix ms old → IsRootFault prefix (ms ++ xs) fault
