use Rattle.std.proofs.Common.{◌≡◌, ◌++◌, ◌∷◌, [], ◌+◌, take, length, ap, sym, ◌∙◌, subst, arith}
use Rattle.std.specs.Prelude.{map}
use Rattle.std.specs.List.{AllByRecursion}
use Rattle.cic_names.specs.Orders.{digits}
use Rattle.cic_env.specs.Declarations.{declaration}
use Rattle.cic_terms.proofs.Children.{drop_at}
use Rattle.cic_terms.proofs.Gathered.{take_more}
use Rattle.lib_format.specs.DeclarationBytes.{declaration_bytes, opaque_count, opaques_of}
use Rattle.lib_format.proofs.Behind.{map_last, opaques_last}
use Rattle.lib_codec.specs.calls.Writing.{CanBeWritten}
use Rattle.lib_codec.proofs.WrittenItems.{item_written}
use Rattle.lib_codec.proofs.writing.put_declarations.Goals as goal

pub loop-decl-preserved : goal.loop-decl-preserved
loop-decl-preserved c =
    let all = c.args.all.now in
    let one = c.decl-item.result in
    let now = map declaration (take c.loop-decl.decl-index all) in
    let each = subst (λ xs. AllByRecursion CanBeWritten (map declaration xs)) (drop_at all c.loop-decl.decl-index one c.loop-decl-test.true c.decl-item.is) c.loop-decl.invariant.each in
    let more : map declaration (take (c.loop-decl.decl-index + 1) all) ≡ now ++ declaration one ∷ [] = ap (map declaration) (take_more all c.loop-decl.decl-index one c.loop-decl-test.true c.decl-item.is) ∙ map_last declaration (take c.loop-decl.decl-index all) one in
    let count = c.opaque_count-opaques.ensures.value in
    let few = c.opaque_count-opaques.ensures.one in
    let here = c.loop-decl.invariant.opaques in
    let within = c.loop-decl.invariant.few in
    let next = opaques_last now (declaration one) in
    let sum : c.loop-decl.opaques + c.opaque_count-opaques.result ≡ opaques_of now + opaque_count (declaration one) = ap (λ n. n + c.opaque_count-opaques.result) here ∙ ap (λ n. opaques_of now + n) count in
    let written = c.in_ok-put_declaration.ensures ∙ ap (λ n. c.loop-decl.bytes.items ++ declaration_bytes n (declaration one)) here in
    record {
      each = each.1;
      opaques = sum ∙ (sym next ∙ ap opaques_of (sym more));
      few = omega (arith, few, within);
      written = item_written (λ before d. declaration_bytes (opaques_of before) d) _ _ _ (digits (length all)) now _ (declaration one) c.loop-decl.invariant.written written more;
    }
