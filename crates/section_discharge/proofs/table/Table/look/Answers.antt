use Rattle.std.proofs.Common.{sym, subst}
use Rattle.section_discharge.specs.calls.Tables.{IsRight, state_of}
use Rattle.section_discharge.proofs.table.Table.look.Goals as goal

pub returns-in-None : goal.returns-in-None
returns-in-None c =
    record { ok = sym (subst (λ o. IsRight c.args.self.now.binders c.args.id.now o ((state_of c.args.self.now).stands c.args.id.now)) (sym c.in-None.ensures) (c.requires.right c.args.id.now)); deep = tt }

pub term_of-requires : goal.term_of-requires
term_of-requires c =
    subst (λ o. IsRight c.args.self.now.binders c.args.id.now o ((state_of c.args.self.now).stands c.args.id.now)) (sym c.in-Some.ensures) (c.requires.right c.args.id.now)
