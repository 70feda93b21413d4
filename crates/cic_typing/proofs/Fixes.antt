-- The typing of a Fix, by whether it names one of its functions.
use Rattle.std.proofs.Common.{◌≡◌, ℕ, Option, Some, None, List, refl}
use Rattle.cic_terms.specs.Tree.{Shape, Children}
use Rattle.cic_rules.specs.Environment.{Environment, Context, element}
use Rattle.cic_rules.specs.Telescopes.{Function}
use Rattle.cic_counted.specs.Inference.{Calls, infer_fix}
use Rattle.cic_counted.specs.Outcome.{Budget, Stopped, refused, unguarded}
use Rattle.cic_counted.specs.Readings.{functions_of}
use Rattle.memory.specs.Telling.{OrNoMemory}
use Rattle.cic_work.specs.calls.Counting.{StopsFor}
use Rattle.cic_typing.specs.calls.Parts.{function_step}

pub fix_there : (calls : Calls) (E : Environment) (G : Context) (which : ℕ) (ss : List Shape) (ks : Children) (fs : List Function) (f : Function) (b : Budget) →
    functions_of ss ks ≡ Some fs → element fs which ≡ Some f → infer_fix calls E G which ss ks b ≡ function_step calls E G fs f b
fix_there calls E G which ss ks fs f b e h = rw (e, h) refl

pub fix_nowhere : (calls : Calls) (E : Environment) (G : Context) (which : ℕ) (ss : List Shape) (ks : Children) (fs : List Function) (b : Budget) (reason : Option Stopped) →
    functions_of ss ks ≡ Some fs → element fs which ≡ None → OrNoMemory reason (λ s. s ≡ refused (unguarded which 0)) →
    StopsFor reason (infer_fix calls E G which ss ks b)
fix_nowhere calls E G which ss ks fs b None e h k = tt
fix_nowhere calls E G which ss ks fs b (Some s) e h k = rw (e, h, k) refl
