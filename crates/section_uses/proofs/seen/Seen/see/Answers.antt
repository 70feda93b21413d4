use Rattle.std.proofs.Common.{[], ◌∷◌, subst}
use Rattle.section_uses.specs.declared.seen.Seen.{Seen}
use Rattle.section_uses.specs.calls.Closing.{Sees}
use Rattle.section_uses.proofs.Seeing.{sees_one}
use Rattle.section_uses.proofs.seen.Seen.see.Goals as goal

pub returns : goal.returns
returns c =
    let after : Seen = record { ids = c.insert.new.self } in
    subst (λ k. Sees (k ∷ []) c.args.self.now after) c.in_ok-key.ensures
    (sees_one c.in_ok-key.key c.args.self.now after c.in_ok-insert.ensures.keys)
