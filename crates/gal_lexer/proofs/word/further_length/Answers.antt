-- A character past ASCII, and the bytes of ASCII behind it.
use Rattle.std.proofs.Common.{sym, subst, ap, ◌∙◌}
use Rattle.std.specs.List.{prefix_len}
use Rattle.cic_names.specs.Identifier.{is_further}
use Rattle.gal_lexer.specs.calls.Runs.{continues_word, StartsWith, Run, EndsAscii}
use Rattle.gal_lexer.proofs.CharacterLemmas.{run_ascii, ends_ascii, run_append, run_one, run_ascii_at, ends_ascii_at, run_bound}
use Rattle.gal_lexer.proofs.word.further_length.Goals as goal

pub loop-at-init : goal.loop-at-init
loop-at-init c =
    let e = c.ascii_length-at.ensures.value in record {
      run = subst (λ n. Run n c.args.text.now) (sym e) (run_ascii c.args.text.now);
      ends = subst (λ n. EndsAscii n c.args.text.now) (sym e) (ends_ascii c.args.text.now);
      within = c.ascii_length-at.ensures.within;
    }

pub loop-at-preserved : goal.loop-at-preserved
loop-at-preserved c =
    let f = subst (λ t. StartsWith is_further c.in-Some.n t) c.rest_of.ensures.value c.in-Some.ensures.some in
    let r = run_append c.loop-at.at c.in-Some.n c.args.text.now c.loop-at.invariant.run (run_one _ _ f) in
    let v = c.ascii_length-at-in-loop-at.ensures.value ∙ ap (λ t. prefix_len continues_word t) c.rest_of-in-loop-at.ensures.value in
    let more = run_ascii_at _ _ _ v r in
    record { run = more; ends = ends_ascii_at _ _ _ v (run_bound _ _ r); within = run_bound _ _ more }
