-- What is read can be stored.
use Rattle.std.proofs.Common.{◌≡◌, ℕ, suc, ◌<◌, List, [], ◌∷◌, get_or}
use Rattle.cic_names.specs.declared.constraint.Constraint.{Constraint}
use Rattle.cic_terms.specs.Tree.{Tree}
use Rattle.term_format.specs.Storable.{IsStorable, AreStorable, most_levels}
use Rattle.term_format.specs.Reading.{value}
use Rattle.term_format.specs.TermReading.{read_whole_term}
use Rattle.term_format.specs.ConstraintReading.{read_constraints}
use Rattle.term_format.proofs.Bytes.{AreBytes}
use Rattle.term_format.proofs.TermsSpelled.{term_spelled}
use Rattle.term_format.proofs.ConstraintLaws.{constraints_spelled}

bytes_of : (bs : List ℕ) → ((i : ℕ) → get_or bs i 0 < 256) → AreBytes bs
bytes_of [] h = tt
bytes_of (b ∷ bs) h = (h 0, bytes_of bs (λ i. h (suc i)))

pub stored_term : (bs : List ℕ) (t : Tree) (rest : List ℕ) → ((i : ℕ) → get_or bs i 0 < 256) → read_whole_term bs ≡ value t rest → IsStorable t
stored_term bs t rest h e = let p = term_spelled most_levels bs t rest (bytes_of bs h) e in record { depth = p.ok.0; rows = p.ok.1 }

pub stored_constraints : (bs : List ℕ) (cs : List Constraint) (rest : List ℕ) → ((i : ℕ) → get_or bs i 0 < 256) → read_constraints bs ≡ value cs rest → AreStorable cs
stored_constraints bs cs rest h e = let p = constraints_spelled bs cs rest (bytes_of bs h) e in p.ok
