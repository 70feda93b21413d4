-- The constructors of a type that is known.
use Rattle.std.proofs.Common.{arith}
use Rattle.gal_print.proofs.Shown.{type_is_known}
use Rattle.gal_print.proofs.heads.heads_of_one.Goals as goal

pub returns-then-len-branches : goal.returns-then-len-branches
returns-then-len-branches c =
    type_is_known c.args.params c.args.branches c.as_slice.result.now c.args.ty.now c.as_slice.ensures.value
    (omega (arith, c.len.ensures, c.if-len-branches.true, c.args.ty.now.ctors.ok.0))
