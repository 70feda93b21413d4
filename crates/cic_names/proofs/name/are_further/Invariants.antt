-- What is left of the text passes where the whole does.
use Rattle.std.proofs.Common.{◌≡◌}
use Rattle.std.specs.List.{list_all}
use Rattle.std.specs.Str.{chars, IsUtf8}
use Rattle.cic_names.specs.Identifier.{is_further}
use Rattle.cic_names.proofs.name.are_further.Given as goal

abbrev pub invariant-loop-c : goal.invariant-loop-c
invariant-loop-c l =
    (list_all is_further (chars l.c-iterator.rest.now) ≡ list_all is_further (chars l.text)) × IsUtf8 l.c-iterator.rest.now
