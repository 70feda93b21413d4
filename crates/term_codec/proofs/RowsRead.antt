-- The byte of a term's kind, and what follows it.
use Rattle.std.proofs.Common.{◌≡◌, ℕ, zero, suc, ◌-◌, ◌≤◌, List, [], ◌∷◌, length, refl, ap, sym, ◌∙◌, arith}
use Rattle.seg_format.specs.declared.faults.Defect.{Defect}
use Rattle.seg_format.specs.declared.faults.Defect.TheVariants.{Short, Depth}
use Rattle.term_format.specs.Reading.{value, wrong, and_then, read_byte}
use Rattle.term_format.specs.TermReading.{row_of, read_term, too_deep}
use Rattle.term_codec.specs.declared.faults.Stop.{Stop}
use Rattle.term_codec.specs.declared.faults.Stop.TheVariants.{Wrong, NoMemory}
use Rattle.term_codec.specs.calls.Answers.{Stops}

-- A term with a level for it is read by its row.
pub term_there : (room : ℕ) (bytes : List ℕ) (tag : ℕ) (rest : List ℕ) → 1 ≤ room → read_byte bytes ≡ value tag rest → read_term room bytes ≡ row_of (read_term (room - 1)) bytes tag rest
unfolding read_term
term_there zero bytes tag rest l e = absurd (omega arith)
term_there (suc room) bytes tag rest l e =
    let p : suc room - 1 ≡ room = omega arith in
    ap (λ r. and_then r (row_of (read_term room) bytes)) e ∙ ap (λ k. row_of (read_term k) bytes tag rest) (sym p)

some_deep : (bytes : List ℕ) (tag : ℕ) (rest : List ℕ) → read_byte bytes ≡ value tag rest → too_deep bytes ≡ wrong Depth (length bytes)
some_deep [] tag rest e = absurd (cc)
some_deep (b ∷ bytes) tag rest e = refl

-- Without a level for it a byte is too deep.
pub term_too_deep : (room : ℕ) (bytes : List ℕ) (tag : ℕ) (rest : List ℕ) → room ≡ 0 → read_byte bytes ≡ value tag rest → read_term room bytes ≡ wrong Depth (length bytes)
unfolding read_term
term_too_deep zero bytes tag rest l e = some_deep bytes tag rest e
term_too_deep (suc room) bytes tag rest l e = absurd (omega arith)

no_byte : (bytes : List ℕ) (d : Defect) (left : ℕ) → read_byte bytes ≡ wrong d left → too_deep bytes ≡ wrong d left
no_byte [] d left e = let p : Short ≡ d = cc in let q : 0 ≡ left = cc in ap (λ x. wrong x 0) p ∙ ap (λ n. wrong d n) q
no_byte (b ∷ bytes) d left e = absurd (cc)

no_term : (room : ℕ) (bytes : List ℕ) (d : Defect) (left : ℕ) → read_byte bytes ≡ wrong d left → read_term room bytes ≡ wrong d left
unfolding read_term
no_term zero bytes d left e = no_byte bytes d left e
no_term (suc room) bytes d left e = ap (λ r. and_then r (row_of (read_term room) bytes)) e

-- Without a byte there is no term, with a level for it or without.
pub term_stops : (size room : ℕ) (bytes : List ℕ) (s : Stop) → Stops size (read_byte bytes) s → Stops size (read_term room bytes) s
term_stops size room bytes (Wrong d p) h = (no_term room bytes d (size - p) h.0, h.1)
term_stops size room bytes NoMemory h = tt
