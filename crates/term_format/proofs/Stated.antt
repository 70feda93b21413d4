-- The laws as they are stated.
use Rattle.std.proofs.Common.{◌≡◌, ℕ, ◌<◌, List, [], ◌++◌, ap, sym, ◌∙◌, append-nil}
use Rattle.std.specs.Prelude.{All}
use Rattle.cic_names.specs.declared.level.Level.{Level}
use Rattle.cic_names.specs.declared.constraint.Constraint.{Constraint}
use Rattle.cic_names.specs.Orders.{name_bytes, level_bytes}
use Rattle.cic_terms.specs.Tree.{Tree}
use Rattle.term_format.specs.Spelling.{term_bytes, constraints_bytes}
use Rattle.term_format.specs.Storable.{IsName, IsLevel, AreStorable, IsStorable, most_levels}
use Rattle.term_format.specs.Reading.{value, read_name, read_level}
use Rattle.term_format.specs.ConstraintReading.{read_constraints}
use Rattle.term_format.specs.TermReading.{read_whole_term}
use Rattle.term_format.specs.calls.Laws.{Spells}
use Rattle.term_format.proofs.Bytes.{are_bytes, Same, same_of}
use Rattle.term_format.proofs.NameLaws.{name_spelled, level_spelled}
use Rattle.term_format.proofs.ConstraintLaws.{constraints_read, constraints_spelled}
use Rattle.term_format.proofs.TermsRead.{term_read}
use Rattle.term_format.proofs.TermsSpelled.{Fits, term_spelled}

pub storable_read : (t : Tree) (rest : List ℕ) → IsStorable t → read_whole_term (term_bytes t ++ rest) ≡ value t rest
storable_read t rest h = term_read t most_levels rest h.depth h.rows

pub name_law : (bytes name rest : List ℕ) → All (λ b. b < 256) bytes → read_name bytes ≡ value name rest → Spells (IsName name) (name_bytes name) bytes rest
name_law bytes name rest h e = let p = name_spelled bytes name rest (are_bytes bytes h) e in record { storable = p.ok; spelled = p.is }

pub level_law : (bytes : List ℕ) (l : Level) (rest : List ℕ) → All (λ b. b < 256) bytes → read_level bytes ≡ value l rest → Spells (IsLevel l) (level_bytes l) bytes rest
level_law bytes l rest h e = let p = level_spelled bytes l rest (are_bytes bytes h) e in record { storable = p.ok; spelled = p.is }

pub constraints_law : (bytes : List ℕ) (cs : List Constraint) (rest : List ℕ) → All (λ b. b < 256) bytes → read_constraints bytes ≡ value cs rest → Spells (AreStorable cs) (constraints_bytes cs) bytes rest
constraints_law bytes cs rest h e = let p = constraints_spelled bytes cs rest (are_bytes bytes h) e in record { storable = p.ok; spelled = p.is }

storable_of : (t : Tree) → Fits most_levels t → IsStorable t
storable_of t f = record { depth = f.0; rows = f.1 }

pub term_law : (bytes : List ℕ) (t : Tree) (rest : List ℕ) → All (λ b. b < 256) bytes → read_whole_term bytes ≡ value t rest → Spells (IsStorable t) (term_bytes t) bytes rest
term_law bytes t rest h e = let p = term_spelled most_levels bytes t rest (are_bytes bytes h) e in record { storable = storable_of t p.ok; spelled = p.is }

constraints_end : (cs ds : List Constraint) (more : List ℕ) → AreStorable cs → AreStorable ds → constraints_bytes cs ++ more ≡ constraints_bytes ds → Same cs ds more []
constraints_end cs ds more hc hd e =
    same_of (sym (constraints_read cs more hc) ∙ (ap read_constraints (e ∙ sym (append-nil (constraints_bytes ds))) ∙ constraints_read ds [] hd))

terms_end : (t u : Tree) (more : List ℕ) → IsStorable t → IsStorable u → term_bytes t ++ more ≡ term_bytes u → Same t u more []
terms_end t u more ht hu e =
    same_of (sym (storable_read t more ht) ∙ (ap read_whole_term (e ∙ sym (append-nil (term_bytes u))) ∙ storable_read u [] hu))

pub constraints_differ : (cs ds : List Constraint) → AreStorable cs → AreStorable ds → constraints_bytes cs ≡ constraints_bytes ds → cs ≡ ds
constraints_differ cs ds hc hd e = (constraints_end cs ds [] hc hd (append-nil (constraints_bytes cs) ∙ e)).value_is

pub terms_differ : (t u : Tree) → IsStorable t → IsStorable u → term_bytes t ≡ term_bytes u → t ≡ u
terms_differ t u ht hu e = (terms_end t u [] ht hu (append-nil (term_bytes t) ∙ e)).value_is

pub constraints_stop : (cs ds : List Constraint) (more : List ℕ) → AreStorable cs → AreStorable ds → constraints_bytes cs ++ more ≡ constraints_bytes ds → more ≡ []
constraints_stop cs ds more hc hd e = (constraints_end cs ds more hc hd e).rest_is

pub terms_stop : (t u : Tree) (more : List ℕ) → IsStorable t → IsStorable u → term_bytes t ++ more ≡ term_bytes u → more ≡ []
terms_stop t u more ht hu e = (terms_end t u more ht hu e).rest_is
