-- An identifier that is too long, one with parts, or one with a long part.
use Rattle.std.proofs.Common.{subst, sym, ap, refl, ◌≡◌, ◌+◌, drop}
use Rattle.gal_lexer.specs.Pieces.{NoPart, Parts, name, long_identifier, long_part}
use Rattle.gal_lexer.specs.calls.Names.{IsLongPart}
use Rattle.gal_lexer.proofs.piece.name.Goals as goal

pub returns-then-n-gt-LONGEST_NAME-clause-fault : goal.returns-then-n-gt-LONGEST_NAME-clause-fault
returns-then-n-gt-LONGEST_NAME-clause-fault c = long_identifier c.requires.identifier c.if-n-gt-LONGEST_NAME.true

pub returns-in-Ok-clause-piece : goal.returns-in-Ok-clause-piece
returns-in-Ok-clause-piece c =
    let m = c.in-Ok.more in
    let r = c.rest_of.ensures.value in
    name c.requires.identifier c.if-n-gt-LONGEST_NAME.false
    (subst (λ t. Parts t m) r c.in-Ok.ensures.parts) (subst (λ t. NoPart (drop m t)) r c.in-Ok.ensures.all) refl c.name_kind.ensures

pub returns-in-Err-clause-fault : goal.returns-in-Err-clause-fault
returns-in-Err-clause-fault c =
    let l = subst (λ t. IsLongPart t c.in-Err.long) c.rest_of.ensures.value c.in-Err.ensures.long in
    long_part c.requires.identifier c.if-n-gt-LONGEST_NAME.false l.parts l.joined l.long (ap (λ k. c.args.n + k) l.at)
