-- Types that are strictly positive in a term without nested types are so with them. So a block that was positive before
-- nested types is positive.
use Rattle.std.proofs.Common.{[]}
use Rattle.cic_terms.specs.Tree.{Tree}
use Rattle.cic_names.specs.declared.name.GlobalId.{GlobalId}
use Rattle.cic_rules.specs.Environment.{Environment, Block, bare_ids}
use Rattle.std.proofs.Common.{List}
use Rattle.cic_rules.specs.Nested.{Positive, absent, applied, in_codomain, NestedPositiveBlock}
use Rattle.cic_counted.specs.PlainPositivity.{StrictlyPositive, PositiveBlock}
use Rattle.cic_counted.specs.PlainPositivity as I
use Rattle.cic_metatheory.proofs.guards.Positivity.{types_so}

pub nested_too : (E : Environment) (ids : List GlobalId) {t : Tree} → StrictlyPositive ids t → Positive E ids [] t
nested_too E ids (I.absent a) = absent a
nested_too E ids (I.applied id us e c a) = applied id us e c a
nested_too E ids (I.in_codomain a p) = in_codomain a tt (nested_too E ids p)

pub positive_block_is_nested : (E : Environment) (block : Block) → PositiveBlock block → NestedPositiveBlock E block
positive_block_is_nested E block h =
    types_so (StrictlyPositive (bare_ids block.types)) (Positive E (bare_ids block.types) []) (λ t p. nested_too E (bare_ids block.types) p) (bare_ids block.types) block.parameters block.types h
