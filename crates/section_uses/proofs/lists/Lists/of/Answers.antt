use Rattle.std.proofs.Common.{ap, sym, ◌∙◌, arith}
use Rattle.section_uses.specs.Kept.{list_of}
use Rattle.section_uses.proofs.Inserted.{not_in_layer, found_in_layer}
use Rattle.section_uses.proofs.lists.Lists.of.Goals as goal

pub returns-in-Some : goal.returns-in-Some
returns-in-Some c =
    let keeps = c.in-Some.ensures.value in
    c.as_slice.ensures.value ∙ ap (λ v. v.items) c.deref.ensures
    ∙ found_in_layer (λ m. m.entries) c.args.self.now.layers.items c.loop-i.i c.index.result.now c.args.id.now c.in-Some.names.now (list_of c.args.self.now c.args.id.now) c.loop-i-test.true (omega arith) c.index.ensures keeps c.loop-i.invariant

pub loop-i-preserved : goal.loop-i-preserved
loop-i-preserved c =
    let keeps = c.in_default.ensures.value in
    not_in_layer (λ m. m.entries) c.args.self.now.layers.items c.loop-i.i c.index.result.now c.args.id.now (list_of c.args.self.now c.args.id.now) c.loop-i-test.true (omega arith) c.index.ensures keeps c.loop-i.invariant
