-- The functions of a Fix stand in a well formed context, each with its type lifted past the ones before it. So
-- the bodies that inference checks under them are checked against types that have sorts.
use Rattle.std.proofs.Common.{◌≡◌, ℕ, suc, ◌+◌, List, ◌∷◌, length, sym, ap, ◌∙◌, arith, subst}
use Rattle.cic_terms.specs.Tree.{Tree}
use Rattle.cic_terms.specs.Lift.{lift_tree}
use Rattle.cic_rules.specs.Numbering.{Numbering}
use Rattle.cic_rules.specs.Environment.{Environment, Context, assumed}
use Rattle.cic_rules.specs.Typing.{AllSorted, none_sorted, more_sorted, function_entries, HasSort, WellFormedContext}
use Rattle.cic_metatheory.proofs.substitutions.LiftAndSubst.{lift_by_one, lift_by_one_more}
use Rattle.cic_metatheory.proofs.substitutions.Commuting.{lift_none}
use Rattle.cic_metatheory.proofs.typings.Weakening.{typed_weakens}
use Rattle.cic_metatheory.proofs.typings.Instances.{sort_at, assumed_well_formed}

-- What has a sort in one context has one in another when it is lifted past so many entries.
abbrev pub Raises : Environment → Numbering → (G : Context) → (by : ℕ) → (D : Context) → Type 0
Raises E N G by D = (t : Tree) → HasSort E N G t → HasSort E N D (lift_tree 0 by t)

lifted_once_more : (by : ℕ) (t : Tree) → lift_tree 0 1 (lift_tree 0 by t) ≡ lift_tree 0 (by + 1) t
lifted_once_more by t =
    let e : suc by ≡ by + 1 = omega arith in
    lift_by_one (lift_tree 0 by t) ∙ sym (lift_by_one_more by t) ∙ ap (λ z. lift_tree 0 z t) e

raises_past_entry : (E : Environment) (N : Numbering) (G D : Context) (by : ℕ) (a : Tree) → Raises E N G by D → Raises E N G (by + 1) (assumed a ∷ D)
raises_past_entry E N G D by a h t k =
    let l = h t k in
    sort_at E N (assumed a ∷ D) _ _ (lifted_once_more by t)
    (record { its_sort = l.its_sort; typed = typed_weakens E N D (assumed a) (lift_tree 0 by t) _ l.typed })

pub under_functions : (E : Environment) (N : Numbering) (G : Context) {ts : List Tree} → AllSorted E N G ts → (before : ℕ) (D : Context) → Raises E N G before D → WellFormedContext E N D →
    WellFormedContext E N (function_entries before D ts) × Raises E N G (before + length ts) (function_entries before D ts)
under_functions E N G none_sorted before D h w = (w, subst (λ z. Raises E N G z D) (omega arith) h)
under_functions E N G (more_sorted {t = t} {ts = ts} {s = s} p q) before D h w =
    let a = lift_tree 0 before t in
    let r = under_functions E N G q (before + 1) (assumed a ∷ D) (raises_past_entry E N G D before a h)
    (assumed_well_formed E N D a (h t (record { its_sort = s; typed = p })) w) in
    (r.0, subst (λ z. Raises E N G z (function_entries (before + 1) (assumed a ∷ D) ts)) (omega arith) r.1)

pub functions_well_formed : (E : Environment) (N : Numbering) (G : Context) {ts : List Tree} → AllSorted E N G ts → WellFormedContext E N G →
    WellFormedContext E N (function_entries 0 G ts) × Raises E N G (length ts) (function_entries 0 G ts)
functions_well_formed E N G {ts} p w =
    let r = under_functions E N G p 0 G (λ t h. sort_at E N G _ _ (sym (lift_none 0 t)) h) w in
    (r.0, subst (λ z. Raises E N G z (function_entries 0 G ts)) (omega arith) r.1)
