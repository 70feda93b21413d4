use Rattle.std.proofs.Common.{List, ◌≡◌, ◌+◌, ap, sym, subst, map, drop}
use Rattle.std.proofs.Math.ListN.{drop_of_length-le}
use Rattle.std.specs.BTreeMap.{insert_entry}
use Rattle.std.specs.declared.string.String.{String}
use Rattle.std.specs.declared.alloc.Global.{Global}
use Rattle.std.specs.String.{string_cmp, string_bytes}
use Rattle.cic_env.specs.Items.{as_item}
use Rattle.cic_env.specs.Environments.{items}
use Rattle.cic_rules.specs.Environment.{Environment}
use Rattle.cic_terms.specs.Denotes.{tree}
use Rattle.gal_print.specs.Printing.{term_text}
use Rattle.cic_top.specs.calls.Lines.{lines_of}
use Rattle.cic_top.proofs.Printed.{SortedSoFar, sorted_at_end, sorted_more, left_axiom, first_left}
use Rattle.cic_top.proofs.printing.sorted_axioms.Goals as goal

pub returns : goal.returns
returns c = sorted_at_end (items c.args.env.now) (map as_item (drop c.loop-item.item-index c.items-item-items.result.now)) (lines_of c.loop-item.sorted.entries)
    (ap (map as_item) (drop_of_length-le c.items-item-items.result.now c.loop-item-test.false)) c.loop-item.invariant

pub loop-item-preserved : goal.loop-item-preserved
loop-item-preserved c =
    let left : Environment = map as_item (drop (c.loop-item.item-index + 1) c.items-item-items.result.now) in
    let printed : string_bytes c.in_ok-ty.ty ≡ term_text (items c.args.env.now) 0 (tree c.axiom_parts.result.1.now) = c.in_ok-ty.ensures in
    let put : c.insert.new.self.entries ≡ insert_entry string_cmp c.loop-item.sorted.entries c.in_ok-id.id c.in_ok-ty.ty = c.in_ok-insert.ensures.entries in
    subst (λ (entries : List (String Global × String Global)). SortedSoFar (items c.args.env.now) left (lines_of entries)) (sym put)
    (sorted_more (items c.args.env.now) left c.axiom_parts.result.0.now (tree c.axiom_parts.result.1.now) c.loop-item.sorted.entries c.in_ok-id.id c.in_ok-ty.ty
    (first_left _ _ c.items-item-items.result.now c.loop-item.item-index c.item-item.result _ _ c.loop-item-test.true c.item-item.is c.axiom_parts.ensures c.loop-item.invariant)
    c.in_ok-id.ensures.ok printed)

pub axiom_parts-requires : goal.axiom_parts-requires
axiom_parts-requires c = left_axiom _ _ c.items-item-items.result.now c.loop-item.item-index c.item-item.result c.loop-item-test.true c.item-item.is c.loop-item.invariant
