use Rattle.std.proofs.Common.{◌≡◌, ◌++◌, ◌∷◌, [], ◌+◌, take, length, ap, ◌∙◌, subst}
use Rattle.std.specs.Prelude.{map}
use Rattle.std.specs.List.{AllByRecursion}
use Rattle.cic_names.specs.Orders.{digits}
use Rattle.cic_env.specs.Declarations.{constructor_declaration}
use Rattle.cic_terms.proofs.Children.{drop_at}
use Rattle.cic_terms.proofs.Gathered.{take_more}
use Rattle.lib_format.specs.DeclarationBytes.{constructor_bytes}
use Rattle.lib_format.proofs.Behind.{map_last}
use Rattle.lib_codec.specs.calls.Writing.{ConstructorCanBeWritten}
use Rattle.lib_codec.proofs.WrittenItems.{item_written}
use Rattle.lib_codec.proofs.writing.put_constructors.Goals as goal

pub loop-c-preserved : goal.loop-c-preserved
loop-c-preserved c =
    let all = c.args.all.now in
    let one = c.c-item.result in
    let now = map constructor_declaration (take c.loop-c.c-index all) in
    let each = subst (λ xs. AllByRecursion ConstructorCanBeWritten (map constructor_declaration xs)) (drop_at all c.loop-c.c-index one c.loop-c-test.true c.c-item.is) c.loop-c.invariant.each in
    let more : map constructor_declaration (take (c.loop-c.c-index + 1) all) ≡ now ++ constructor_declaration one ∷ [] = ap (map constructor_declaration) (take_more all c.loop-c.c-index one c.loop-c-test.true c.c-item.is) ∙ map_last constructor_declaration (take c.loop-c.c-index all) one in
    record {
      each = each.1;
      written = item_written (λ before c. constructor_bytes c) _ _ _ (digits (length all)) now _ (constructor_declaration one) c.loop-c.invariant.written c.in_ok-put_constructor.ensures more;
    }
