use Rattle.std.proofs.Common.{◌≡◌, [], ap, sym, subst, rules}
use Rattle.std.proofs.lemmas.List.{nil_from_length}
use Rattle.cic_env.specs.Environments.{items}
use Rattle.cic_top.specs.Texts.{IsAxiomList}
use Rattle.cic_top.specs.calls.Lines.{lines_of}
use Rattle.cic_top.proofs.Printed.{closed_list}
use Rattle.cic_top.proofs.printing.axiom_list.Goals as goal

pub returns-then-is_empty : goal.returns-then-is_empty
returns-then-is_empty c =
    let none : c.in_ok-sorted.sorted.entries ≡ [] = nil_from_length c.in_ok-sorted.sorted.entries (c.if-is_empty.ensures.0 (search rules)) in
    subst (IsAxiomList (items c.args.env.now)) (sym c.in_ok-from_str.ensures.ok)
    (closed_list (items c.args.env.now) (lines_of c.in_ok-sorted.sorted.entries) c.in_ok-sorted.ensures (ap lines_of none))
