-- Token after token.
use Rattle.std.proofs.Common.{subst, sym, arith, ◌∙◌, ap, length, ◌≤◌, ◌<◌, get_or}
use Rattle.gal_lexer.specs.declared.token.Token.{Token}
use Rattle.gal_lexer.specs.declared.token.Kind.TheVariants as K
use Rattle.gal_lexer.specs.declared.token.Mark.TheVariants as M
use Rattle.gal_lines.specs.calls.Building.{state_of, run, Follow, IsOpenBefore}
use Rattle.gal_lines.specs.calls.Groups.{HaveSentences}
use Rattle.gal_lines.proofs.Runs.{have_sentences, run_next, open_behind, at_the_end}
use Rattle.gal_lines.proofs.Follows.{follow_tokens, follow_behind, follow_within, follow_next}
use Rattle.gal_lines.proofs.building.sentences_of.Goals as goal

no_token : Token
no_token = record { kind = K.Mark M.Assign; place = 0; length = 0 }

pub loop-token-init : goal.loop-token-init
loop-token-init c = record {
  so_far = ap (λ s. run c.args.source.now s c.args.tokens.now) c.new-building.ensures;
  at = c.start-cursor.ensures.at;
  follow = subst (λ n. Follow c.args.source.now n c.args.tokens.now) (sym c.start-cursor.ensures.start) (follow_tokens c.args.source.now c.args.tokens.now c.requires.tokens);
  opened = subst (λ o. IsOpenBefore o c.start-cursor.result.at) (sym (ap (λ s. s.open_sentence) c.new-building.ensures)) tt;
}

pub opened_by-requires : goal.opened_by-requires
unfolding no_token
opened_by-requires c =
    let source = c.args.source.now in
    let tokens = c.args.tokens.now in
    let i = c.loop-token.token-index in
    let kept = c.loop-token.invariant in
    record {
      at = kept.at;
      begun = kept.opened;
      ahead = follow_behind source c.loop-token.cursor.at tokens i no_token c.loop-token-test.true kept.follow;
      within = follow_within source c.loop-token.cursor.at tokens i no_token c.loop-token-test.true kept.follow;
      short = c.requires.short;
    }

pub put_token-requires : goal.put_token-requires
unfolding no_token
put_token-requires c =
    let source = c.args.source.now in
    let tokens = c.args.tokens.now in
    let i = c.loop-token.token-index in
    let inside : (get_or tokens i no_token).place < length source =
    follow_within source c.loop-token.cursor.at tokens i no_token c.loop-token-test.true c.loop-token.invariant.follow in
    let begun : c.opened_by.result.1.place ≤ c.opened_by.result.0.at = c.opened_by.ensures.before.0 in
    let ahead : c.opened_by.result.0.at ≤ (get_or tokens i no_token).place = c.opened_by.ensures.ahead in
    let short = c.requires.short in
    record {
      behind = omega arith;
      from = c.opened_by.ensures.before.1;
      short = omega arith;
    }

pub loop-token-preserved : goal.loop-token-preserved
unfolding no_token
loop-token-preserved c =
    let source = c.args.source.now in
    let tokens = c.args.tokens.now in
    let i = c.loop-token.token-index in
    let kept = c.loop-token.invariant in
    let old = state_of c.loop-token.building in
    let new = state_of c.put_token.new.self in
    record {
      so_far = run_next source old new tokens i no_token c.opened_by.result.1 c.loop-token-test.true c.opened_by.ensures.opened c.in_ok-put_token.ensures ∙ kept.so_far;
      at = c.opened_by.ensures.at;
      follow = follow_next source c.loop-token.cursor.at c.opened_by.result.0.at tokens i no_token c.loop-token-test.true c.opened_by.ensures.ahead kept.follow;
      opened = open_behind c.opened_by.result.1 (get_or tokens i no_token) old new c.opened_by.result.0.at c.in_ok-put_token.ensures c.opened_by.ensures.before;
    }

pub new-requires : goal.new-requires
new-requires c =
    let source = c.args.source.now in
    let tokens = c.args.tokens.now in
    let all = at_the_end source (state_of c.loop-token.building) (state_of c.close.new.self) tokens c.loop-token.token-index c.loop-token-test.false c.loop-token.invariant.so_far c.in_ok-close.ensures in
    subst HaveSentences (sym all) (have_sentences source tokens)

pub returns : goal.returns
returns c =
    c.new.ensures
    ∙ at_the_end c.args.source.now (state_of c.loop-token.building) (state_of c.close.new.self) c.args.tokens.now c.loop-token.token-index c.loop-token-test.false c.loop-token.invariant.so_far c.in_ok-close.ensures
