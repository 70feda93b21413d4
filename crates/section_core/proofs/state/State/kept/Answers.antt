use Rattle.std.proofs.Common.{arith, ◌≡◌, ◌+◌, ◌-◌, Some, length, List, ap, ◌∙◌, subst}
use Rattle.std.proofs.lemmas.Result.{on_ok_weaker, IfOk-weaker}
use Rattle.section_core.specs.Sections.{Entry}
use Rattle.section_core.specs.Answers.{AllFit, declarations_of}
use Rattle.section_core.proofs.Ended.{innermost_declares, innermost_kept, innermost_name, why_not_left}
use Rattle.section_core.proofs.state.State.kept.Goals as goal

pub kept-requires : goal.kept-requires
kept-requires c =
    let e : (c.len.result - 1) + 1 ≡ length c.args.self.now.sections.items = omega (arith, c.len.ensures, c.requires.some, c.args.self.now.sections.ok.0) in
    innermost_declares c.args.self.now c.requires.right (c.len.result - 1) c.index-inner.result.now e c.index-inner.ensures

pub returns-clause-kept : goal.returns-clause-kept
returns-clause-kept c =
    let e : (c.len.result - 1) + 1 ≡ length c.args.self.now.sections.items = omega (arith, c.len.ensures, c.requires.some, c.args.self.now.sections.ok.0) in
    let same = innermost_kept c.args.self.now c.requires.right (c.len.result - 1) c.index-inner.result.now e c.index-inner.ensures in
    IfOk-weaker c.kept.result _ _ (λ all h. h ∙ same) c.kept.ensures.kept

pub returns-clause-fits : goal.returns-clause-fits
returns-clause-fits c =
    let e : (c.len.result - 1) + 1 ≡ length c.args.self.now.sections.items = omega (arith, c.len.ensures, c.requires.some, c.args.self.now.sections.ok.0) in
    let same = innermost_kept c.args.self.now c.requires.right (c.len.result - 1) c.index-inner.result.now e c.index-inner.ensures in
    on_ok_weaker c.kept.result (λ h. subst (λ (es : List Entry). AllFit (declarations_of es)) same h) c.kept.ensures.fits

pub returns-clause-err : goal.returns-clause-err
returns-clause-err c =
    let e : (c.len.result - 1) + 1 ≡ length c.args.self.now.sections.items = omega (arith, c.len.ensures, c.requires.some, c.args.self.now.sections.ok.0) in
    why_not_left c.args.self.now c.requires.right (c.len.result - 1) c.index-inner.result.now e c.index-inner.ensures c.kept.result c.args.name.now c.kept.ensures.err

pub returns-clause-name : goal.returns-clause-name
returns-clause-name c =
    let e : (c.len.result - 1) + 1 ≡ length c.args.self.now.sections.items = omega (arith, c.len.ensures, c.requires.some, c.args.self.now.sections.ok.0) in
    let name = innermost_name c.args.self.now c.requires.right (c.len.result - 1) c.index-inner.result.now e c.index-inner.ensures in
    on_ok_weaker c.kept.result (λ h. name ∙ ap Some h) c.kept.ensures.name
