use Rattle.std.specs.Option.{option_copied}
use Rattle.gal_raw.specs.Denotes.{qualified}
use Rattle.gal_requires.specs.Required.{denoted}
use Rattle.gal_requires.specs.Roots.{mention}
use Rattle.gal_requires.proofs.Meanings.{meant}
use Rattle.gal_requires.proofs.naming.library.Goals as goal

pub returns-in-Some : goal.returns-in-Some
returns-in-Some c =
    meant (option_copied c.args.prefix) (mention (denoted c.args.require.now) (qualified c.args.name)) c.in-Some.text.now c.named.result c.if-not-may_stand.ensures c.in-Some.ensures c.named.ensures
