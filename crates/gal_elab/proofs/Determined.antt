-- What a written term stands for is determined: at most one term, at most one first unknown name, and
-- one of the two. So the walk's answer is the only one.
use Rattle.std.proofs.Common.{◌≡◌, ℕ, List, [], refl, sym, ap, ◌∙◌, inl, inr, ◌⊎◌}
use Rattle.std.specs.Prelude.{IfOk, OnOk, Result, Ok, Err}
use Rattle.cic_terms.specs.Tree.{Tree, rel, prod}
use Rattle.cic_terms.specs.Denotes.{tree}
use Rattle.cic_terms.specs.declared.term.Term.{Term}
use Rattle.cic_rules.specs.Environment.{Environment}
use Rattle.gal_parser.specs.Grammar as G
use Rattle.gal_elab.specs.Scoping.{Binders, StandsFor, prop_stands, variable_stands, constant_stands, for_all_stands, arrow_stands, FirstUnknown, unknown_name, unknown_in_type, unknown_in_body, unknown_before_arrow, unknown_behind_arrow}
use Rattle.gal_elab.specs.calls.Resolving.{Resolved, found, unknown}
use Rattle.gal_elab.specs.Answers.{OnUnknown}
use Rattle.gal_elab.specs.declared.elaborating.ElabFault.{ElabFault}
use Rattle.gal_elab.specs.declared.elaborating.ElabFault.TheVariants.{Unknown, NoMemory}
use Rattle.gal_elab.proofs.Levelled.{one_variable, variable_or_none}
use Rattle.gal_elab.proofs.Resolutions.{Agrees, resolve-agrees, Settles}

module _ {library : List ℕ} {E : Environment} where
  pub one_term : {binders : Binders} {raw : G.RawTerm} {t u : Tree} → StandsFor library E binders raw t → StandsFor library E binders raw u → t ≡ u
  one_term prop_stands prop_stands = refl
  one_term (variable_stands h) (variable_stands k) = ap rel (one_variable h k)
  one_term (variable_stands h) (constant_stands none has is) = absurd (variable_or_none h none)
  one_term (constant_stands none has is) (variable_stands k) = absurd (variable_or_none k none)
  one_term (constant_stands none has is) (constant_stands none' has' is') = is ∙ sym is'
  one_term (for_all_stands h k) (for_all_stands h' k') = let p = one_term h h' in let q = one_term k k' in λ i. prod (p i) (q i)
  one_term (arrow_stands h k) (arrow_stands h' k') = let p = one_term h h' in let q = one_term k k' in λ i. prod (p i) (q i)

  pub not_both : {binders : Binders} {raw : G.RawTerm} {t : Tree} {name : List ℕ} → StandsFor library E binders raw t → FirstUnknown library E binders raw name → ⊥
  not_both prop_stands u = elim u [ ]
  not_both (variable_stands h) (unknown_name none lacks is) = variable_or_none h none
  not_both (constant_stands none has is) (unknown_name none' lacks is') = lacks has
  not_both (for_all_stands h k) (unknown_in_type u) = not_both h u
  not_both (for_all_stands h k) (unknown_in_body h' u) = not_both k u
  not_both (arrow_stands h k) (unknown_before_arrow u) = not_both h u
  not_both (arrow_stands h k) (unknown_behind_arrow h' u) = not_both k u

  pub one_unknown : {binders : Binders} {raw : G.RawTerm} {name other : List ℕ} → FirstUnknown library E binders raw name → FirstUnknown library E binders raw other → name ≡ other
  one_unknown (unknown_name none lacks is) (unknown_name none' lacks' is') = sym is ∙ is'
  one_unknown (unknown_in_type u) (unknown_in_type v) = one_unknown u v
  one_unknown (unknown_in_type u) (unknown_in_body h v) = absurd (not_both h u)
  one_unknown (unknown_in_body h u) (unknown_in_type v) = absurd (not_both h v)
  one_unknown (unknown_in_body h u) (unknown_in_body h' v) = one_unknown u v
  one_unknown (unknown_before_arrow u) (unknown_before_arrow v) = one_unknown u v
  one_unknown (unknown_before_arrow u) (unknown_behind_arrow h v) = absurd (not_both h u)
  one_unknown (unknown_behind_arrow h u) (unknown_before_arrow v) = absurd (not_both h v)
  one_unknown (unknown_behind_arrow h u) (unknown_behind_arrow h' v) = one_unknown u v

known_by : (library : List ℕ) (E : Environment) (binders : Binders) (raw : G.RawTerm) (resolved : Resolved) → Agrees library E binders raw resolved →
    ((t : Tree) × StandsFor library E binders raw t) ⊎ ((name : List ℕ) × FirstUnknown library E binders raw name)
known_by library E binders raw (found t) agrees = inl (t, agrees)
known_by library E binders raw (unknown name) agrees = inr (name, agrees)

pub known_or_unknown : (library : List ℕ) (E : Environment) (binders : Binders) (raw : G.RawTerm) →
    ((t : Tree) × StandsFor library E binders raw t) ⊎ ((name : List ℕ) × FirstUnknown library E binders raw name)
known_or_unknown library E binders raw = known_by library E binders raw _ (resolve-agrees library E binders raw)

-- What a settled answer says, clause by clause.
module _ (library : List ℕ) (E : Environment) (raw : G.RawTerm) where
  pub settled_found : (result : Result Term ElabFault) → Settles library E raw result → IfOk result (λ t. StandsFor library E [] raw (tree t))
  settled_found (Ok t) h = h
  settled_found (Err fault) h = tt

  pub settled_only : (result : Result Term ElabFault) → Settles library E raw result → IfOk result (λ t. (u : Tree) → StandsFor library E [] raw u → tree t ≡ u)
  settled_only (Ok t) h = λ u k. one_term h k
  settled_only (Err fault) h = tt

  pub settled_known : (result : Result Term ElabFault) → Settles library E raw result → OnOk result ((name : List ℕ) → FirstUnknown library E [] raw name → ⊥)
  settled_known (Ok t) h = λ name u. not_both h u
  settled_known (Err fault) h = tt

  pub settled_fault : (result : Result Term ElabFault) → Settles library E raw result → OnUnknown result (FirstUnknown library E [] raw)
  settled_fault (Ok t) h = tt
  settled_fault (Err (Unknown name)) h = h
  settled_fault (Err NoMemory) h = tt

  pub settled_one_name : (result : Result Term ElabFault) → Settles library E raw result → OnUnknown result (λ name. (other : List ℕ) → FirstUnknown library E [] raw other → other ≡ name)
  settled_one_name (Ok t) h = tt
  settled_one_name (Err (Unknown name)) h = λ other u. one_unknown u h
  settled_one_name (Err NoMemory) h = tt

  pub settled_no_term : (result : Result Term ElabFault) → Settles library E raw result → OnUnknown result (λ _. (t : Tree) → StandsFor library E [] raw t → ⊥)
  settled_no_term (Ok t) h = tt
  settled_no_term (Err (Unknown name)) h = λ t k. not_both k h
  settled_no_term (Err NoMemory) h = tt
