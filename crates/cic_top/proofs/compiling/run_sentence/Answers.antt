-- A sentence adds its axiom, or is refused: for its name, for an unknown name, or as its check is.
use Rattle.std.proofs.Common.{subst, sym}
use Rattle.std.specs.Prelude.{Err}
use Rattle.std.proofs.lemmas.Result.{err_from_is_err_and}
use Rattle.cic_env.specs.Environments.{items}
use Rattle.cic_terms.specs.Denotes.{tree}
use Rattle.cic_names.specs.declared.name.GlobalId.{GlobalId}
use Rattle.gal_elab.specs.Scoping.{Declares}
use Rattle.gal_parser.specs.Grammar.{Sentence}
use Rattle.gal_parser.specs.Views.{raw_term}
use Rattle.cic_top.specs.calls.Compiling.{DeclaresOrRefuses, AddsOrRefuses}
use Rattle.cic_top.proofs.Sentences.{adds_or_refuses, duplicate_refuses, unknown_refuses, where_true, where_false}
use Rattle.cic_top.proofs.compiling.run_sentence.Goals as goal

pub returns-then-declares : goal.returns-then-declares
returns-then-declares c =
    subst (λ (s : Sentence). AddsOrRefuses c.args.library.now (items c.args.env.now) s (Err c.duplicate.result) (items c.args.env.now)) (sym c.axiom_parts.ensures)
    (duplicate_refuses c.args.library.now c.axiom_parts.result.0.now (raw_term c.axiom_parts.result.1.now) (items c.args.env.now) c.duplicate.result
    (subst (λ (id : GlobalId). Declares (items c.args.env.now) id) c.in_ok-id.ensures (where_true _ c.if-declares.true c.declares.ensures)) c.duplicate.ensures)

pub returns-in_err-ty : goal.returns-in_err-ty
returns-in_err-ty c =
    let p = err_from_is_err_and c.from_residual-in_err-ty.result c.from_residual-in_err-ty.ensures.1 in
    rw (p.1, p.2)
    (subst (λ (s : Sentence). AddsOrRefuses c.args.library.now (items c.args.env.now) s (Err c.in_err-ty.field-0.0) (items c.args.env.now)) (sym c.axiom_parts.ensures)
    (unknown_refuses c.args.library.now c.axiom_parts.result.0.now (raw_term c.axiom_parts.result.1.now) (items c.args.env.now) (items c.args.env.now) c.in_err-ty.field-0.0
    (subst (λ (id : GlobalId). ¬ Declares (items c.args.env.now) id) c.in_ok-id.ensures (where_false _ c.if-declares.false c.declares.ensures)) c.in_err-ty.ensures))

pub returns : goal.returns
returns c =
    subst (λ (s : Sentence). AddsOrRefuses c.args.library.now (items c.args.env.now) s c.declare.result (items c.declare.new.env)) (sym c.axiom_parts.ensures)
    (adds_or_refuses c.args.library.now c.axiom_parts.result.0.now (raw_term c.axiom_parts.result.1.now) (tree c.in_ok-ty.ty) (items c.args.env.now) (items c.declare.new.env) c.declare.result
    (subst (λ (id : GlobalId). ¬ Declares (items c.args.env.now) id) c.in_ok-id.ensures (where_false _ c.if-declares.false c.declares.ensures))
    c.in_ok-ty.ensures
    (subst (λ (id : GlobalId). DeclaresOrRefuses (items c.args.env.now) id (tree c.in_ok-ty.ty) c.declare.result (items c.declare.new.env)) c.in_ok-id.ensures c.declare.ensures))
