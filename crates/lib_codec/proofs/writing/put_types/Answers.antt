use Rattle.std.proofs.Common.{◌≡◌, ◌++◌, ◌∷◌, [], ◌+◌, take, length, ap, ◌∙◌, subst}
use Rattle.std.specs.Prelude.{map}
use Rattle.std.specs.List.{AllByRecursion}
use Rattle.cic_names.specs.Orders.{digits}
use Rattle.cic_env.specs.Declarations.{type_declaration}
use Rattle.cic_terms.proofs.Children.{drop_at}
use Rattle.cic_terms.proofs.Gathered.{take_more}
use Rattle.lib_format.specs.DeclarationBytes.{type_bytes}
use Rattle.lib_format.proofs.Behind.{map_last}
use Rattle.lib_codec.specs.calls.Writing.{TypeCanBeWritten}
use Rattle.lib_codec.proofs.WrittenItems.{item_written}
use Rattle.lib_codec.proofs.writing.put_types.Goals as goal

pub loop-t-preserved : goal.loop-t-preserved
loop-t-preserved c =
    let all = c.args.all.now in
    let one = c.t-item.result in
    let now = map type_declaration (take c.loop-t.t-index all) in
    let each = subst (λ xs. AllByRecursion TypeCanBeWritten (map type_declaration xs)) (drop_at all c.loop-t.t-index one c.loop-t-test.true c.t-item.is) c.loop-t.invariant.each in
    let more : map type_declaration (take (c.loop-t.t-index + 1) all) ≡ now ++ type_declaration one ∷ [] = ap (map type_declaration) (take_more all c.loop-t.t-index one c.loop-t-test.true c.t-item.is) ∙ map_last type_declaration (take c.loop-t.t-index all) one in
    record {
      each = each.1;
      written = item_written (λ before t. type_bytes t) _ _ _ (digits (length all)) now _ (type_declaration one) c.loop-t.invariant.written c.in_ok-put_type.ensures more;
    }
