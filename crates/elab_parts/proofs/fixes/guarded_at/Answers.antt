use Rattle.std.proofs.Common.{List, [], ◌∷◌, ◌++◌, length, ap, ◌∙◌}
use Rattle.cic_terms.specs.declared.term.FixBody.{FixBody}
use Rattle.cic_env.specs.Environments.{items}
use Rattle.cic_terms.specs.Denotes.{shape_list, body_list}
use Rattle.elab_parts.proofs.Fixing.{guard_read, none_from}
use Rattle.elab_parts.proofs.fixes.guarded_at.Goals as goal

pub returns-in_ok-guarded-in-Some : goal.returns-in_ok-guarded-in-Some
returns-in_ok-guarded-in-Some c =
    let one = c.in_ok-push-in-Some.ensures.items ∙ ap (λ (l : List FixBody). l ++ c.in-Some.made.body ∷ []) c.new-all.ensures.items in
    let whole = rw c.in-Some.is at c.in_ok-function_body.ensures in
    none_from c.in_ok-guarded-in-Some.field-0 c.is_none.result c.is_none.ensures
    ∙ guard_read (items c.args.env.now) c.args.k _ c.in-Some.made.body c.from_vec.result c.in_ok-guarded-in-Some.field-0 whole
    (c.from_vec.ensures.shapes ∙ ap shape_list one) (c.from_vec.ensures.parts ∙ ap (λ (l : List FixBody). body_list (length l) l) one) c.in_ok-guarded-in-Some.ensures
