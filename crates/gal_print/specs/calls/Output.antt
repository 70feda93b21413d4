-- A text as the code makes it: from its end to its begin, piece by piece, with what binders were used so far.
use Rattle.std.specs.Prelude.{ℕ, zero, suc, ◌≡◌, ◌<◌, List, [], ◌∷◌, ◌++◌, length, take, codes, decimal, Bool, false, ◌||◌, slice_index_or}
use Rattle.cic_names.specs.Texts.{id_text}
use Rattle.cic_terms.specs.Denotes.{tree_sort}
use Rattle.cic_names.specs.declared.level.Atom.{Atom}
use Rattle.gal_print.specs.Sorts.{sort_text, atom_text}
use Rattle.gal_print.specs.Printing.{name_text}
use Rattle.gal_print.specs.declared.output.Piece.{Piece}
use Rattle.gal_print.specs.declared.output.Piece.TheVariants.{Word, Name, Unbound, Id, OfSort}
use Rattle.gal_print.specs.declared.output.Output.{Output}

abbrev pub piece_text : Piece → List ℕ
piece_text (Word w) = w.now
piece_text (Name n) = name_text n
piece_text (Unbound k) = codes "?" ++ decimal k
piece_text (Id id) = id_text id.now
piece_text (OfSort s) = sort_text (tree_sort s.now)

-- Pieces, the last first.
abbrev pub backward : List Piece → List ℕ
backward [] = []
backward (p ∷ ps) = backward ps ++ piece_text p

abbrev pub in_front : Output → List ℕ
in_front out = backward out.pieces.items

-- A text was put in front of what was there.
pub record Puts (text : List ℕ) (old new : Output) : Type 0 where
  pub front : in_front new ≡ text ++ in_front old
  pub used : new.used.items ≡ old.used.items

-- The flags of the binders so tested were set.
pub record Marked (used : (number : ℕ) → Bool) (old new : List Bool) : Type 0 where
  pub same : length new ≡ length old
  pub each : (i : ℕ) → i < length old → slice_index_or new i false ≡ (slice_index_or old i false || used i)

-- A text was put in front of what was there, and the binders that it uses were marked.
pub record Prints (text : List ℕ) (used : (number : ℕ) → Bool) (old new : Output) : Type 0 where
  pub front : in_front new ≡ text ++ in_front old
  pub marks : Marked used old.used.items new.used.items

-- The same of the binders below a number alone.
pub record PrintsBelow (first : ℕ) (text : List ℕ) (used : (number : ℕ) → Bool) (old new : Output) : Type 0 where
  pub front : in_front new ≡ text ++ in_front old
  pub marks : Marked used (take first old.used.items) (take first new.used.items)

-- The atom at a place of a universe, with the comma before it.
abbrev pub atom_at_text : (i : ℕ) → Atom → List ℕ
atom_at_text zero a = atom_text a
atom_at_text (suc i) a = codes ", " ++ atom_text a
