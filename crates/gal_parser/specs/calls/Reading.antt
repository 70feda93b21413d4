-- What the calls that read the parts of a source answer.
use Rattle.std.specs.Prelude.{ℕ, Bool, true, false, List, ◌≡◌, codes, Result, Option, Some, None, ⊤}
use Rattle.memory.specs.Telling.{OrNoMemory, Tells}
use Rattle.gal_parser.specs.Tokens.{after_blanks, SpellsIdentifier, SpellsColon, SpellsSymbol}
use Rattle.gal_parser.specs.Grammar.{RawTerm, for_all, SpellsTerm, Sentence, SpellsSentence, SpellsSentences}
use Rattle.gal_parser.specs.declared.lexer.Fault.{Fault}
use Rattle.gal_parser.specs.declared.lexer.Fault.TheVariants.{NoMatch, NoMemory}

-- the one reason why nothing is read: that nothing of the kind stands there
abbrev pub no_match : Fault → Option ⊤
no_match NoMatch = Some tt
no_match NoMemory = None

-- nothing is such, unless memory ran out
abbrev pub Lacks : {Y : Type 0} → Fault → (List ℕ → Y → Type 0) → Type 0
Lacks {Y = Y} fault R = OrNoMemory (no_match fault) (λ _. (r : List ℕ) (y : Y) → R r y → ⊥)

-- an x of the relation was read from old to new, or old begins with none, or memory ran out
abbrev pub ReadsOrLacks : {X Y : Type 0} → (List ℕ → List ℕ → Y → Type 0) → (X → Y) → Result X Fault → List ℕ → List ℕ → Type 0
ReadsOrLacks {Y = Y} R value result old new = Tells no_match result (λ x. R old new (value x)) (λ _. (r : List ℕ) (y : Y) → R old r y → ⊥)

-- the token was read from old to new, or old begins with none and is left
abbrev pub ReadsIf : (List ℕ → List ℕ → Type 0) → Bool → List ℕ → List ℕ → Type 0
ReadsIf R true old new = R old new
ReadsIf R false old new = ((r : List ℕ) → R old r → ⊥) × (new ≡ old)

-- an x of the relation was read from old to new, or old begins with none and is left
abbrev pub ReadsOrLeaves : {X Y : Type 0} → (List ℕ → List ℕ → Y → Type 0) → (X → Y) → Option X → List ℕ → List ℕ → Type 0
ReadsOrLeaves R value (Some x) old new = R old new (value x)
ReadsOrLeaves {Y = Y} R value None old new = ((r : List ℕ) (y : Y) → R old r y → ⊥) × (new ≡ old)

-- the sentences were read from old to new, and no further one begins there
pub record ReadsAll (old new : List ℕ) (cs : List Sentence) : Type 0 where
  pub spelled : SpellsSentences old new cs
  pub last : (r : List ℕ) (c : Sentence) → SpellsSentence new r c → ⊥

-- what follows the word `forall` in a term: the binder, its type and the body, each of which may have the room
pub data SpellsBinding : ℕ → List ℕ → List ℕ → RawTerm → Type 0 where
  spells_binding : {room : ℕ} {s a b c d r x : List ℕ} {type body : RawTerm} →
      SpellsIdentifier (after_blanks s) a x →
      SpellsColon (after_blanks a) b →
      SpellsTerm room b c type →
      SpellsSymbol (codes ",") (after_blanks c) d →
      SpellsTerm room d r body →
      SpellsBinding room s r (for_all x type body)
