-- From command to command.
use Rattle.std.proofs.Common.{ℕ, zero, suc, List, [], ◌∷◌, ◌++◌, ◌≡◌, ◌≤◌, ◌<◌, length, Some, map, drop, get_or, refl, ap, sym, ◌∙◌, append_assoc, arith}
use Rattle.std.specs.Prelude.{slice_get}
use Rattle.std.proofs.lemmas.Option.{same_Some}
use Rattle.gal_raw.specs.Commands as C
use Rattle.gal_raw.specs.declared.commands.Command.{Command}
use Rattle.gal_lines.specs.declared.places.Lines.{Lines}
use Rattle.gal_requires.specs.Required.{Required, required_by, first_of, requires_of}

-- what the commands from a place on require
abbrev pub from_on : ℕ → List Command → List (List Lines) → List Required
from_on i cs lss = requires_of (map C.command (drop i cs)) (drop i lss)

pub from_next : (i : ℕ) (cs : List Command) (lss : List (List Lines)) (c : Command) (ls : List Lines) (d : Lines) → slice_get cs i ≡ Some c → slice_get lss i ≡ Some ls → 0 < length ls →
    from_on i cs lss ≡ required_by (C.command c) (get_or ls 0 d) ++ from_on (suc i) cs lss
from_next i [] lss c ls d e f lt = absurd (cc)
from_next i (x ∷ cs) [] c ls d e f lt = absurd (cc)
from_next zero (x ∷ cs) (y ∷ lss) c ls d e f lt = here
  where
    first : (l : List Lines) → 0 < length l → first_of l ≡ get_or l 0 d
    first [] h = absurd (omega (arith, h))
    first (l ∷ k) h = refl

    here : required_by (C.command x) (first_of y) ++ from_on 1 (x ∷ cs) (y ∷ lss) ≡ required_by (C.command c) (get_or ls 0 d) ++ from_on 1 (x ∷ cs) (y ∷ lss)
    here =
        ap (λ v. required_by (C.command v) (first_of y) ++ from_on 1 (x ∷ cs) (y ∷ lss)) (same_Some x c e)
        ∙ ap (λ v. required_by (C.command c) (first_of v) ++ from_on 1 (x ∷ cs) (y ∷ lss)) (same_Some y ls f)
        ∙ ap (λ v. required_by (C.command c) v ++ from_on 1 (x ∷ cs) (y ∷ lss)) (first ls lt)
from_next (suc i) (x ∷ cs) (y ∷ lss) c ls d e f lt = from_next i cs lss c ls d e f lt

pub from_none : (i : ℕ) (cs : List Command) (lss : List (List Lines)) → length cs ≤ i → from_on i cs lss ≡ []
from_none zero [] lss le = refl
from_none (suc i) [] [] le = refl
from_none (suc i) [] (y ∷ lss) le = refl
from_none zero (x ∷ cs) lss le = absurd (omega (arith, le))
from_none (suc i) (x ∷ cs) [] le = none_left (drop i cs)
  where
    none_left : (xs : List Command) → requires_of (map C.command xs) [] ≡ []
    none_left [] = refl
    none_left (y ∷ ys) = refl
from_none (suc i) (x ∷ cs) (y ∷ lss) le = from_none i cs lss (omega arith)

-- what is left gives what the whole gives
pub one_further : (whole old rest here next new : List Required) → whole ≡ old ++ rest → rest ≡ here ++ next → new ≡ old ++ here → whole ≡ new ++ next
one_further whole old rest here next new e f g = e ∙ ap (λ x. old ++ x) f ∙ sym (append_assoc old here next) ∙ ap (λ x. x ++ next) (sym g)
