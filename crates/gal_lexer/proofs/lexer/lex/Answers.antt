-- Piece after piece.
use Rattle.std.proofs.Common.{subst, sym, arith, ◌∙◌, ap, length, ◌≤◌, ◌+◌, List}
use Rattle.gal_lexer.specs.declared.token.Token.{Token}
use Rattle.gal_lexer.specs.Pieces.{Piece}
use Rattle.gal_lexer.specs.Tokens.{Splits, at_start}
use Rattle.gal_lexer.proofs.PieceLemmas.{splits_on}
use Rattle.gal_lexer.proofs.lexer.lex.Goals as goal

pub loop-at-init : goal.loop-at-init
loop-at-init c = record {
  split = subst (λ ts. Splits c.args.source.now 0 ts) (sym c.in_ok-tokens.ensures.items) at_start;
  within = omega arith;
}

pub loop-at-preserved : goal.loop-at-preserved
loop-at-preserved c =
    let piece = subst (λ t. Piece c.in-Ok.piece.kind c.in-Ok.piece.length t) c.rest_of.ensures.value c.in-Ok.ensures.piece in
    let bound = c.in-Ok.ensures.within.1 in
    let length_of = c.rest_of.ensures.length in
    let inside = c.loop-at.invariant.within in
    record {
      split = subst (λ ts. Splits c.args.source.now (c.loop-at.at + c.in-Ok.piece.length) ts) (sym c.in_ok-put-in-Ok.ensures.added)
          (splits_on _ _ _ _ _ c.loop-at.invariant.split c.loop-at-test.true piece);
      within = omega arith;
    }
