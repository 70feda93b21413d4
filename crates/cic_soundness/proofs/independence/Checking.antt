-- The check of one declaration answers the same over two environments that agree on a set of ids, where the
-- declaration names ids of the set alone and so does what these ids stand for. It follows the text of the check. While
-- constructors are checked the types of their block stand bare behind both environments. The law on what the check
-- depends on is this, of the ids that a declaration reaches.
use Rattle.std.proofs.Common.{◌≡◌, ℕ, ◌+◌, Bool, true, false, if◌then◌else◌, Option, Some, None, List, [], ◌∷◌, ◌++◌, take, drop, sym, ap, ◌∙◌, subst}
use Rattle.std.specs.Prelude.{option_and_then}
use Rattle.cic_terms.specs.Tree.{TreeSort, Tree}
use Rattle.cic_names.specs.declared.name.GlobalId.{GlobalId}
use Rattle.cic_rules.specs.Inductive.{Each}
use Rattle.cic_names.specs.Sameness.{same_id}
use Rattle.cic_rules.specs.Environment.{Environment, Context, Declaration, axiom_of, transparent, opaque, inductive, Block, TypeDeclaration, ConstructorDeclaration, Meaning, bare_type, bare, assumed, or_else, bare_meaning, meaning}
use Rattle.cic_rules.specs.Telescopes.{domains_of, conclusion_of, extend}
use Rattle.cic_counted.specs.BlockTests.{shape_fault}
use Rattle.cic_counted.specs.NestedTest.{nested_fault}
use Rattle.cic_counted.specs.Outcome.{bad_constructor, ◌>>=◌, give, or_refuse, refuse_for}
use Rattle.cic_counted.specs.Inference.{Calls, calls_from}
use Rattle.cic_counted.specs.Checking.{take_found, all_visible, shape_cause, positivity_cause, check_arities, argument_at_most, check_arguments, ending_sort, check_constructor, check_constructors, check_types, check_block, judge, answer_of, check_declaration}
use Rattle.cic_soundness.proofs.independence.Terms.{TreeIn, TreesIn, ContextIn, extend_in, naming}
use Rattle.cic_soundness.proofs.independence.Calls.{Any, Alike, alike_itself, alike_to, alike_bind, alike_then, MeaningIn}
use Rattle.cic_soundness.proofs.independence.Typing.{CallsAlike, alike_calls}
use Rattle.cic_metatheory.proofs.environments.Order.{meaning_joined}
use Rattle.cic_soundness.proofs.independence.Nested.{nested_fault_same}
use Rattle.cic_soundness.proofs.independence.Formers.{domains_in, conclusion_in}
use Rattle.cic_metatheory.proofs.basics.Elements.{IfThere, each_taken, each_dropped}

module _ (S : GlobalId → Type 0) where
  abbrev pub TypeTermsIn : TypeDeclaration → Type 0
  TypeTermsIn t = TreeIn S t.arity × Each (λ k. TreeIn S k.type) t.constructors

  abbrev pub DeclarationIn : Declaration → Type 0
  DeclarationIn (axiom_of id type) = TreeIn S type
  DeclarationIn (transparent id type body) = TreeIn S type × TreeIn S body
  DeclarationIn (opaque id type body) = TreeIn S type × IfThere (TreeIn S) body
  DeclarationIn (inductive block) = Each TypeTermsIn block.types

  module _ (calls calls' : Calls) (c : CallsAlike S calls calls') where
    alike_arities : (ts : List TypeDeclaration) → Each TypeTermsIn ts → Alike Any (check_arities calls ts) (check_arities calls' ts)
    alike_arities [] h = alike_itself (give tt)
    alike_arities (t ∷ ts) h = alike_then (c.sort_of [] t.arity tt h.0.0) (alike_arities ts h.1)

    alike_arguments : (G : Context) (s : TreeSort) (as_ : List Tree) (conclusion : Tree) → ContextIn S G → TreesIn S as_ → TreeIn S conclusion → Alike Any (check_arguments calls G s as_ conclusion) (check_arguments calls' G s as_ conclusion)
    alike_arguments G s [] conclusion g h k = alike_then (c.sort_of G conclusion g k) (alike_itself (give tt))
    alike_arguments G s (a ∷ as_) conclusion g h k =
        alike_bind (c.sort_of G a g h.0) (λ s' _. alike_then (alike_itself (argument_at_most G s' s)) (alike_arguments (assumed a ∷ G) s as_ conclusion ((h.0, tt), g) h.1 k))

    alike_constructor : (r : ℕ) (s : Option TreeSort) (k : ConstructorDeclaration) → TreeIn S k.type → Alike Any (check_constructor calls r s k) (check_constructor calls' r s k)
    alike_constructor r s k h =
        let domains : TreesIn S (domains_of k.type) = domains_in (naming S) k.type h in
        alike_bind (alike_itself (or_refuse s (bad_constructor k.id))) (λ s' _.
        alike_arguments (extend [] (take r (domains_of k.type))) s' (drop r (domains_of k.type)) (conclusion_of k.type)
        (extend_in S [] (take r (domains_of k.type)) tt (each_taken (TreeIn S) r (domains_of k.type) domains))
        (each_dropped (TreeIn S) r (domains_of k.type) domains) (conclusion_in (naming S) k.type h))

    alike_constructors : (r : ℕ) (s : Option TreeSort) (ks : List ConstructorDeclaration) → Each (λ k. TreeIn S k.type) ks → Alike Any (check_constructors calls r s ks) (check_constructors calls' r s ks)
    alike_constructors r s [] h = alike_itself (give tt)
    alike_constructors r s (k ∷ ks) h = alike_then (alike_constructor r s k h.0) (alike_constructors r s ks h.1)

    alike_types : (r : ℕ) (ts : List TypeDeclaration) → Each TypeTermsIn ts → Alike Any (check_types calls r ts) (check_types calls' r ts)
    alike_types r [] h = alike_itself (give tt)
    alike_types r (t ∷ ts) h = alike_then (alike_constructors r (ending_sort (conclusion_of t.arity)) t.constructors h.0.1) (alike_types r ts h.1)

  constructors_in : (ts : List TypeDeclaration) → Each TypeTermsIn ts → Each (λ t. Each (λ k. TreeIn S k.type) t.constructors) ts
  constructors_in [] h = tt
  constructors_in (t ∷ ts) h = (h.0.1, constructors_in ts h.1)

  arities_in : (ts : List TypeDeclaration) → Each TypeTermsIn ts → Each (λ t. TreeIn S t.arity) ts
  arities_in [] h = tt
  arities_in (t ∷ ts) h = (h.0.0, arities_in ts h.1)

  earlier_in : (o o' : Option Meaning) → IfThere (MeaningIn S) o → IfThere (MeaningIn S) o' → IfThere (MeaningIn S) (or_else o o')
  earlier_in None o' h k = k
  earlier_in (Some m) o' h k = h

  where_in : (test : Bool) (m : Meaning) → MeaningIn S m → IfThere (MeaningIn S) (if test then Some m else None)
  where_in true m h = h
  where_in false m h = tt

  bare_in : (block : Block) (index : ℕ) (ts : List TypeDeclaration) (id : GlobalId) → Each (λ t. TreeIn S t.arity) block.types → IfThere (MeaningIn S) (bare_meaning block index ts id)
  bare_in block index [] id h = tt
  bare_in block index (t ∷ ts) id h =
      earlier_in (if same_id t.id id then Some (bare_type block index) else None) (bare_meaning block (index + 1) ts id)
      (where_in (same_id t.id id) (bare_type block index) h) (bare_in block (index + 1) ts id h)

module _ (S : GlobalId → Type 0) (E E' : Environment) (e : (id : GlobalId) → S id → meaning E id ≡ meaning E' id) (saturated : (id : GlobalId) → S id → IfThere (MeaningIn S) (meaning E id)) where
  with_bare : (block : Block) (id : GlobalId) → S id → meaning (E ++ bare block ∷ []) id ≡ meaning (E' ++ bare block ∷ []) id
  with_bare block id s =
      meaning_joined E (bare block ∷ []) id
      ∙ ap (λ m. or_else m (meaning (bare block ∷ []) id)) (e id s)
      ∙ sym (meaning_joined E' (bare block ∷ []) id)

  with_bare_saturated : (block : Block) → Each (TypeTermsIn S) block.types → (id : GlobalId) → S id → IfThere (MeaningIn S) (meaning (E ++ bare block ∷ []) id)
  with_bare_saturated block h id s =
      subst (IfThere (MeaningIn S)) (sym (meaning_joined E (bare block ∷ []) id))
      (earlier_in S (meaning E id) (meaning (bare block ∷ []) id) (saturated id s)
      (earlier_in S (bare_meaning block 0 block.types id) None (bare_in S block 0 block.types id (arities_in S block.types h)) tt))

  before : CallsAlike S (calls_from 1 E) (calls_from 1 E')
  before = alike_calls S E E' e saturated 1

  alike_block : (block : Block) → Each (TypeTermsIn S) block.types → Alike Any (check_block E block) (check_block E' block)
  alike_block block h =
      let F = E ++ bare block ∷ [] in
      let F' = E' ++ bare block ∷ [] in
      alike_then (alike_itself (refuse_for (option_and_then (shape_cause block) (shape_fault block))))
      (alike_then (alike_arities S (calls_from 1 E) (calls_from 1 E') before block.types h)
      (alike_then
      (alike_to (ap (λ o. refuse_for (option_and_then (positivity_cause block) o)) (nested_fault_same S E E' e saturated block (constructors_in S block.types h)))
      (alike_itself (refuse_for (option_and_then (positivity_cause block) (nested_fault E block)))))
      (alike_types S (calls_from 1 F) (calls_from 1 F') (alike_calls S F F' (with_bare block) (with_bare_saturated block h) 1) block.parameters block.types h)))

  alike_judge : (d : Declaration) → DeclarationIn S d → Alike Any (judge E d) (judge E' d)
  alike_judge (axiom_of id type) h = alike_then (before.sort_of [] type tt h) (alike_itself all_visible)
  alike_judge (transparent id type body) h =
      alike_then (before.sort_of [] type tt h.0) (alike_then (before.check [] body type tt h.1 h.0) (alike_itself all_visible))
  alike_judge (opaque id type None) h = alike_then (before.sort_of [] type tt h.0) (alike_itself all_visible)
  alike_judge (opaque id type (Some body)) h =
      alike_then (before.sort_of [] type tt h.0)
      (alike_bind (alike_itself take_found) (λ visible _.
      alike_then (before.check [] body type tt h.1 h.0)
      (alike_itself (take_found >>= λ proofs. give (record { visible = visible; proofs = proofs })))))
  alike_judge (inductive block) h = alike_then (alike_block block h) (alike_itself all_visible)

  pub check_over_agreeing : (d : Declaration) (budget : ℕ) → DeclarationIn S d → check_declaration E d budget ≡ check_declaration E' d budget
  unfolding check_declaration
  check_over_agreeing d budget h = ap (answer_of budget) ((alike_judge d h).same (record { rest = budget; found = [] }))
