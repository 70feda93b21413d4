use Rattle.std.proofs.Common.{drop, arith}
use Rattle.term_codec.proofs.Refusing.{trails}
use Rattle.lib_format.specs.Contents.{library_contents}
use Rattle.lib_format.specs.ContentsReading.{read_library}
use Rattle.lib_codec.proofs.Stored.{stored_library}
use Rattle.lib_codec.proofs.decoding.whole_library.Goals as goal

pub returns-then-place-b-clause-stops : goal.returns-then-place-b-clause-stops
returns-then-place-b-clause-stops c =
    (trails c.args.b.now c.read_library.new.place (read_library c.args.b.now) (library_contents c.in_ok-library.library) c.in_ok-library.ensures.ok c.if-place-b.true, c.in_ok-library.ensures.within)

pub returns-clause-storable : goal.returns-clause-storable
returns-clause-storable c = stored_library c.args.b.now (library_contents c.in_ok-library.library) (drop c.read_library.new.place c.args.b.now) (λ i. let h = c.type_inv.b i in omega (arith, h)) c.in_ok-library.ensures.ok
