-- What an accepted axiom has: no constraint is found, the sort of its type is a universe, and the environment with it is
-- formed where the one before is, at every numbering.
use Rattle.std.proofs.Common.{◌≡◌, ℕ, [], ◌∷◌, ◌++◌, refl, sym, ap, ◌∙◌, subst, arith}
use Rattle.cic_terms.specs.Tree.{TreeSort, Tree}
use Rattle.cic_names.specs.declared.name.GlobalId.{GlobalId}
use Rattle.cic_rules.specs.Environment.{Environment, Declaration, axiom_of, declared, environment_ids}
use Rattle.cic_rules.specs.Numbering.{Numbering, MeetsAll}
use Rattle.cic_rules.specs.Formed.{Distinct, Formed}
use Rattle.cic_counted.specs.Outcome.{Budget, Outcome, done, stops, follow}
use Rattle.cic_counted.specs.Inference.{calls_from}
use Rattle.cic_counted.specs.Checking.{Found, accepts, all_visible, answer_of, check_declaration}
use Rattle.cic_soundness.proofs.declarations.Judgement.{accepted_is_formed}
use Rattle.cic_top.specs.Language.{IsOfLanguage, TermOfLanguage, EnvironmentOfLanguage, IsUniverse, left}
use Rattle.cic_top.proofs.language.TypesOfTerms.{calls_keep_from}

-- What an accepted axiom has, where the sort of its type has this outcome.
record Accepted (o : Outcome TreeSort) (found : Found) : Type 0 where
  s : TreeSort
  b : Budget
  is : o ≡ done s b
  visible : found.visible ≡ b.found
  proofs : found.proofs ≡ []

accepted_is : {a b : Found} → accepts a ≡ accepts b → a ≡ b
accepted_is e = cc

accepted_has : (o : Outcome TreeSort) (budget : ℕ) (found : Found) → answer_of budget (follow o (λ _. all_visible)) ≡ accepts found → Accepted o found
accepted_has (done s b) budget found e = record {
  s = s;
  b = b;
  is = refl;
  visible = ap (λ (f : Found). f.visible) (sym (accepted_is e));
  proofs = ap (λ (f : Found). f.proofs) (sym (accepted_is e));
}
accepted_has (stops why) budget found e = absurd (grind arith)

axiom_has : (E : Environment) (id : GlobalId) (type : Tree) (budget : ℕ) (found : Found) → check_declaration E (axiom_of id type) budget ≡ accepts found →
    Accepted ((calls_from 1 E).sort_of [] type (left budget)) found
unfolding check_declaration
axiom_has E id type budget found e = accepted_has ((calls_from 1 E).sort_of [] type (left budget)) budget found e

pub accepted_without_constraints : (E : Environment) (d : Declaration) (budget : ℕ) (found : Found) → EnvironmentOfLanguage E → IsOfLanguage d →
    check_declaration E d budget ≡ accepts found → (found.visible ≡ []) × (found.proofs ≡ [])
accepted_without_constraints E (axiom_of id type) budget found g h e =
    let a = axiom_has E id type budget found e in
    let keeps = (calls_keep_from 1 E g).sort_of [] type a.s (left budget) a.b tt h a.is in
    (a.visible ∙ keeps.found, a.proofs)
accepted_without_constraints E d budget found g h e = absurd h

pub accepted_has_universe : (E : Environment) (id : GlobalId) (type : Tree) (budget : ℕ) (found : Found) → EnvironmentOfLanguage E → TermOfLanguage type →
    check_declaration E (axiom_of id type) budget ≡ accepts found → (s : TreeSort) × (b : Budget) × ((calls_from 1 E).sort_of [] type (left budget) ≡ done s b) × IsUniverse s
accepted_has_universe E id type budget found g h e =
    let a = axiom_has E id type budget found e in
    let keeps = (calls_keep_from 1 E g).sort_of [] type a.s (left budget) a.b tt h a.is in
    (a.s, a.b, a.is, keeps.kind)

-- No constraint is found, so each numbering meets those that are.
pub accepted_axioms_are_formed : (E : Environment) (N : Numbering) (d : Declaration) (budget : ℕ) (found : Found) → EnvironmentOfLanguage E → IsOfLanguage d → Formed N E →
    Distinct (environment_ids (E ++ declared d ∷ [])) → check_declaration E d budget ≡ accepts found → Formed N (E ++ declared d ∷ [])
accepted_axioms_are_formed E N d budget found h k formed distinct e =
    let none = accepted_without_constraints E d budget found h k e in
    accepted_is_formed E N d budget found formed distinct e (subst (MeetsAll N) (sym none.0) tt) (subst (MeetsAll N) (sym none.1) tt)
