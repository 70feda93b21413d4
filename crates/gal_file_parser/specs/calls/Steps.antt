-- What one function of the parser of files answers, beside the machine.
use Rattle.std.specs.Prelude.{List, [], ◌∷◌, ◌++◌, ◌≡◌, ◌≤◌, ◌<◌, length, Result, Ok, Err, Option, Some, None, Bool, true, false}
use Prim.Native.String.{String}
use Rattle.gal_grammar.specs.Tokens.{Token}
use Rattle.gal_grammar.specs.Tests.{qualid, word}
use Rattle.gal_grammar.specs.Values.{Val, flag, quals, commands}
use Rattle.gal_grammar.specs.Actions.{push, add_qual}
use Rattle.gal_grammar.specs.Kinds.{Want, nt, tok, act, k_required, k_quals, k_commands}
use Rattle.gal_grammar.specs.Commands.{plain, Command}
use Rattle.gal_grammar.specs.calls.Machine.{run}
use Rattle.gal_raw.specs.Commands as C
use Rattle.gal_raw.specs.declared.commands.Flag.{Flag}
use Rattle.gal_term_parser.specs.declared.fault.Fault.{Fault}
use Rattle.gal_term_parser.specs.calls.Steps.{begins, Fails}
use Rattle.gal_file_parser.specs.declared.openings.Opening.{Opening}
use Rattle.gal_file_parser.specs.calls.Openings.{behind}

-- a word that may come
abbrev pub TakesWord : String → Bool → List Token → List Token → Type 0
TakesWord u true old new = (begins (word u) old ≡ true) × ((k : List Want) (vs : List Val) → run old (tok (word u) ∷ k) vs ≡ run new k vs) × (length new < length old)
TakesWord u false old new = (begins (word u) old ≡ false) × (new ≡ old)

-- reading leads from some wants to those that its answer says, over the same values
abbrev pub Turns : {X : Type 0} → Result X Fault → List Want → (X → List Want) → List Token → List Token → Type 0
Turns (Ok x) ws ws' old new = (k : List Want) (vs : List Val) → run old (ws ++ k) vs ≡ run new (ws' x ++ k) vs
Turns (Err e) ws ws' old new = Fails (λ vs. vs) e ws old

-- whether what is required is imported or exported
abbrev pub TakesFlag : Flag → List Token → List Token → Type 0
TakesFlag f old new = (k : List Want) (vs : List Val) →
    run old (nt 0 k_required ∷ k) (flag plain ∷ vs) ≡ run new (act (push (quals [])) ∷ tok qualid ∷ act add_qual ∷ nt 0 k_quals ∷ k) (flag (C.flag f) ∷ vs)

-- the first word of a command that may come
abbrev pub TakesOpening : Option Opening → List Token → List Token → Type 0
TakesOpening (Some o) old new = ((k : List Want) (vs : List Val) → run old (nt 0 k_commands ∷ k) vs ≡ run new (behind o ++ (nt 0 k_commands ∷ k)) vs) × (length new < length old)
TakesOpening None old new = ((k : List Want) (vs : List Val) → run old (nt 0 k_commands ∷ k) vs ≡ run new k vs) × (new ≡ old)

-- whether a further command came, so that the wants ws are still wanted; or else the wants ws' are
abbrev pub NextIn : List Want → List Want → List Command → List Command → Result Bool Fault → List Token → List Token → Type 0
NextIn ws ws' cs ds (Ok true) old new = ((k : List Want) (vs : List Val) → run old (ws ++ k) (commands cs ∷ vs) ≡ run new (ws ++ k) (commands ds ∷ vs)) × (length new < length old)
NextIn ws ws' cs ds (Ok false) old new = ((k : List Want) (vs : List Val) → run old (ws ++ k) (commands cs ∷ vs) ≡ run new (ws' ++ k) (commands ds ∷ vs)) × (length new ≤ length old)
NextIn ws ws' cs ds (Err e) old new = Fails (λ vs. commands cs ∷ vs) e ws old

-- reading leads from the wants ws to the wants ws'
abbrev pub Leads : List Want → List Want → List Command → List Command → Result (Unit {0}) Fault → List Token → List Token → Type 0
Leads ws ws' cs ds (Ok x) old new = (k : List Want) (vs : List Val) → run old (ws ++ k) (commands cs ∷ vs) ≡ run new (ws' ++ k) (commands ds ∷ vs)
Leads ws ws' cs ds (Err e) old new = Fails (λ vs. commands cs ∷ vs) e ws old
