-- The grammar of sources. Each relation `R s r x` says that the text s begins with a spelling of x and
-- that r is what is left of s after it. Blanks may stand before each token.
use Rattle.std.specs.Prelude.{ℕ, suc, List, [], ◌∷◌, ◌≡◌, ◌≤◌, ◌<◌, ◌+◌, length, codes}
use Rattle.gal_parser.specs.Tokens.{after_blanks, SpellsWord, SpellsIdentifier, SpellsColon, SpellsStop, SpellsSymbol}

-- a term as it is written
pub data RawTerm : Type 0 where
  prop : RawTerm
  name : List ℕ → RawTerm
  for_all : (binder : List ℕ) → (type body : RawTerm) → RawTerm
  arrow : (from to : RawTerm) → RawTerm

-- a sentence: an axiom of a name and its type
pub data Sentence : Type 0 where
  axiom_sentence : List ℕ → RawTerm → Sentence

-- The room says how many terms may stand within one another: of a term this one among them, of an atom those
-- between its parentheses. So no term has the room 0, and the parts of a term have one less than it.
mutual
  -- term = "forall" identifier ":" term "," term | atom "->" term | atom, where no "->" follows the last
  pub data SpellsTerm : ℕ → List ℕ → List ℕ → RawTerm → Type 0 where
    spells_for_all : {room : ℕ} {s a b c d e r x : List ℕ} {type body : RawTerm} →
        SpellsWord (after_blanks s) a (codes "forall") →
        SpellsIdentifier (after_blanks a) b x →
        SpellsColon (after_blanks b) c →
        SpellsTerm room c d type →
        SpellsSymbol (codes ",") (after_blanks d) e →
        SpellsTerm room e r body →
        SpellsTerm (suc room) s r (for_all x type body)
    spells_arrow : {room : ℕ} {s a b r : List ℕ} {from to : RawTerm} →
        SpellsAtom room s a from →
        SpellsSymbol (codes "->") (after_blanks a) b →
        SpellsTerm room b r to →
        SpellsTerm (suc room) s r (arrow from to)
    spells_atom : {room : ℕ} {s r : List ℕ} {t : RawTerm} →
        SpellsAtom room s r t →
        ((b : List ℕ) → SpellsSymbol (codes "->") (after_blanks r) b → ⊥) →
        SpellsTerm (suc room) s r t

  -- atom = "Prop" | identifier | "(" term ")"
  pub data SpellsAtom : ℕ → List ℕ → List ℕ → RawTerm → Type 0 where
    spells_prop : {room : ℕ} {s r : List ℕ} → SpellsWord (after_blanks s) r (codes "Prop") → SpellsAtom room s r prop
    spells_name : {room : ℕ} {s r x : List ℕ} → SpellsIdentifier (after_blanks s) r x → SpellsAtom room s r (name x)
    spells_group : {room : ℕ} {s a b r : List ℕ} {t : RawTerm} →
        SpellsSymbol (codes "(") (after_blanks s) a →
        SpellsTerm room a b t →
        SpellsSymbol (codes ")") (after_blanks b) r →
        SpellsAtom room s r t

-- how many terms may stand within one another in a sentence
abbrev pub deepest_nesting : ℕ
deepest_nesting = 500

-- sentence = "Axiom" identifier ":" term stop
pub data SpellsSentence : List ℕ → List ℕ → Sentence → Type 0 where
  spells_axiom : {s a b c d r x : List ℕ} {t : RawTerm} →
      SpellsWord (after_blanks s) a (codes "Axiom") →
      SpellsIdentifier (after_blanks a) b x →
      SpellsColon (after_blanks b) c →
      SpellsTerm deepest_nesting c d t →
      SpellsStop (after_blanks d) r →
      SpellsSentence s r (axiom_sentence x t)

-- any number of sentences, one after the other
pub data SpellsSentences : List ℕ → List ℕ → List Sentence → Type 0 where
  no_sentence : {s : List ℕ} → SpellsSentences s s []
  one_more : {s a r : List ℕ} {c : Sentence} {cs : List Sentence} →
      SpellsSentence s a c → SpellsSentences a r cs → SpellsSentences s r (c ∷ cs)

-- the most bytes that a source may have
abbrev pub longest_source : ℕ
longest_source = 65536

-- a source: sentences, and blanks after the last
pub record Reads (s : List ℕ) (cs : List Sentence) : Type 0 where
  pub short : length s ≤ longest_source
  pub rest : List ℕ
  pub sentences : SpellsSentences s rest cs
  pub blanks : after_blanks rest ≡ []

-- s begins with a list of sentences that leaves r, and each such list is at most as long, in bytes
pub record LongestLeaves (s r : List ℕ) : Type 0 where
  pub sentences : List Sentence
  pub spelled : SpellsSentences s r sentences
  pub longest : (q : List ℕ) (cs : List Sentence) → SpellsSentences s q cs → length r ≤ length q

-- the first byte that is no blank after the longest list of sentences with which s begins stands at the place
pub record IsUnreadAt (s : List ℕ) (place : ℕ) : Type 0 where
  pub rest : List ℕ
  pub leaves : LongestLeaves s rest
  pub byte : 0 < length (after_blanks rest)
  pub position : place + length (after_blanks rest) ≡ length s

-- where a text that is no source is not understood: at the bound if it is too long, else at its first unread byte
pub data NotYetAt : List ℕ → ℕ → Type 0 where
  too_long : {s : List ℕ} {place : ℕ} → longest_source < length s → place ≡ longest_source → NotYetAt s place
  unread : {s : List ℕ} {place : ℕ} → length s ≤ longest_source → IsUnreadAt s place → NotYetAt s place
