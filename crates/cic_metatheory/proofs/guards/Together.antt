-- A guarded Fix stays guarded where the environment grows and terms are put in for the variables outside of
-- it, both at once. The typing of a Fix under a substitution needs it in this form.
use Rattle.std.proofs.Common.{ℕ, List, length, map}
use Rattle.cic_terms.specs.Tree.{Tree}
use Rattle.cic_rules.specs.Environment.{Environment}
use Rattle.cic_rules.specs.Telescopes.{Function}
use Rattle.cic_rules.specs.Guard.{Guarded}
use Rattle.cic_metatheory.specs.Substitution.{substitute_function}
use Rattle.cic_metatheory.specs.Growth.{Grows}
use Rattle.cic_metatheory.proofs.guards.Growth.{guarded_grows}
use Rattle.cic_metatheory.proofs.guards.Functions.{guarded_substitute}

pub guarded_under : (E E' : Environment) (fs : List Function) (s : ℕ → Tree) → Grows E E' → Guarded E fs → Guarded E' (map (substitute_function (length fs) s) fs)
guarded_under E E' fs s grows g = guarded_substitute E' s fs (guarded_grows E E' grows.blocks grows.seen fs g)
