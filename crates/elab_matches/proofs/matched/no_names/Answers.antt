use Rattle.elab_matches.proofs.Places.{resized_names}
use Rattle.elab_matches.proofs.matched.no_names.Goals as goal

pub returns : goal.returns
returns c = resized_names c.resize.new.self.items c.new-names.result.items c.args.count _ c.in_ok-resize.ensures.items c.new-names.ensures.items c.new-names.ensures.len
