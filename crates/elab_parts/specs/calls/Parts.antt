-- A part of a term that is read: the term with its depth, or nothing where it is not within the limits of a term.
use Rattle.std.specs.Prelude.{ℕ, Bool, ◌&&◌, if◌then◌else◌, Option, Some, None, leb}
use Rattle.std.specs.Option.{option_map}
use Rattle.cic_terms.specs.Tree.{Tree, prod, lam, app}
use Rattle.cic_terms.specs.Denotes.{tree}
use Rattle.cic_terms.specs.Sizes.{depth_tree, max_rel}
use Rattle.cic_terms.specs.Lift.{lift_tree}
use Rattle.elab_parts.specs.declared.parts.Part.{Part}
use Rattle.elab_parts.specs.declared.making.Pair.{Pair}
use Rattle.elab_parts.specs.declared.making.Pair.TheVariants.{Product, Abstraction, Application}

-- The term, where there is one.
abbrev pub known : Option Part → Option Tree
known = option_map (λ p. tree p.term.value)

-- Within the limits.
abbrev pub is_within : Tree → Bool
is_within t = leb (depth_tree t) 4000 && leb (max_rel t) 1048576

abbrev pub cut : Tree → Option Tree
cut t = if is_within t then Some t else None

-- A term of two parts, or of three.
abbrev pub of_two : (Tree → Tree → Tree) → Option Tree → Option Tree → Option Tree
of_two make (Some a) (Some b) = cut (make a b)
of_two make _ _ = None

abbrev pub of_three : (Tree → Tree → Tree → Tree) → Option Tree → Option Tree → Option Tree → Option Tree
of_three make (Some a) (Some b) (Some c) = cut (make a b c)
of_three make _ _ _ = None

-- The term of a kind of two parts.
abbrev pub pair_tree : Pair → Tree → Tree → Tree
pair_tree Product a b = prod a b
pair_tree Abstraction a b = lam a b
pair_tree Application a b = app a b

-- A term past so many binders more.
abbrev pub lifted : ℕ → Option Tree → Option Tree
lifted by (Some t) = cut (lift_tree 0 by t)
lifted by None = None
