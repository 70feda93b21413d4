-- One more piece is in front.
use Rattle.std.proofs.Common.{refl}
use Rattle.gal_print.specs.calls.Output.{piece_text}
use Rattle.gal_print.proofs.Fronts.{put_is}
use Rattle.gal_print.proofs.output.put.Goals as goal

pub returns-clause-puts : goal.returns-clause-puts
returns-clause-puts c = put_is (piece_text c.args.piece) c.args.piece c.args.out.now _ refl c.in_ok-push.ensures.items refl
