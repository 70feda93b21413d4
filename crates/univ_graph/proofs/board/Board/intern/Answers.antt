-- The names are the same where the level is there, and else one more.
use Rattle.std.proofs.Common.{◌∙◌, sym, ap}
use Rattle.univ_graph.specs.Kept.{with_level}
use Rattle.univ_graph.proofs.LevelLists.{with_known, with_new}
use Rattle.univ_graph.proofs.Spreading.{on_ok_map}
use Rattle.univ_graph.proofs.board.Board.intern.Goals as goal

pub returns-in-Some-clause-names : goal.returns-in-Some-clause-names
returns-in-Some-clause-names c =
    let names = c.args.self.now.names in
    sym (ap (with_level names) c.in-Named.is ∙ with_known names c.in-Named.name c.in-Some.place c.in-Some.ensures.place)

pub returns-in-None-clause-names : goal.returns-in-None-clause-names
returns-in-None-clause-names c =
    let names = c.args.self.now.names in
    let all = ap (with_level names) c.in-Named.is ∙ with_new names c.in-Named.name c.in-None.ensures.place in
    on_ok_map c.add_name.result (λ e. e ∙ sym all) c.add_name.ensures.names
