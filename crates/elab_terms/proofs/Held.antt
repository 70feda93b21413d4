-- Definitions within terms, and fixpoints, as the program holds them.
use Rattle.std.proofs.Common.{◌≡◌, sym, ap}
use Rattle.std.specs.Option.{option_map}
use Rattle.gal_grammar.specs.Terms as S
use Rattle.gal_raw.specs.Denotes.{identifier, functions, fix_of}
use Rattle.gal_raw.specs.declared.terms.FixOf.{FixOf, FixOf', out-FixOf, outs-FixOf'}

pub fix_parts : (x : FixOf) → fix_of x ≡ S.fix_of (functions (out-FixOf x).functions) (option_map identifier (out-FixOf x).chosen)
fix_parts (FixOf' fs y) = ap (λ r. S.fix_of (functions r.functions) (option_map identifier r.chosen)) (sym (outs-FixOf' fs y))
