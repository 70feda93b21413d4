-- The check of one declaration is right: an accepted declaration is right over the earlier ones, at each numbering
-- that meets the constraints found. What its calls are done with is derivable, and its tests of a block are the
-- rules'; a block's constructors are checked over the block taken bare, which shows what is right.
use Rattle.std.proofs.Common.{◌≡◌, ℕ, ◌-◌, Some, None, List, [], ◌∷◌, ◌++◌, refl, sym, ap, subst}
use Rattle.cic_terms.specs.Tree.{TreeSort, Tree, sort}
use Rattle.cic_names.specs.declared.constraint.Constraint.{Constraint}
use Rattle.cic_rules.specs.Numbering.{Numbering, MeetsAll}
use Rattle.cic_rules.specs.Environment.{Environment, Context, Declaration, axiom_of, transparent, opaque, inductive, Block, declared, bare, environment_ids}
use Rattle.cic_rules.specs.Typing.{Typed, HasSort, WellFormedContext}
use Rattle.cic_rules.specs.Formed.{Distinct, Formed, one_more, WellFormedDeclaration, WellFormedBlock}
use Rattle.cic_counted.specs.Outcome.{Budget, Outcome, done, stops, ◌>>=◌, ◌>>◌, give}
use Rattle.cic_counted.specs.Inference.{calls_from}
use Rattle.cic_counted.specs.Checking.{Found, accepts, Split, take_found, all_visible, check_block, judge, answer_of, check_declaration}
use Rattle.cic_counted.specs.calls.Done.{Cost, Took}
use Rattle.cic_counted.proofs.Taken.{follow_done, done_value}
use Rattle.cic_counted.proofs.TakenTyping.{sort_of_done, check_done}
use Rattle.cic_metatheory.specs.WellTypedLookups.{WellTypedLookups}
use Rattle.cic_soundness.proofs.evaluations.Sorts.{inserted_met}
use Rattle.cic_metatheory.proofs.environments.Growing.{more_declarations_grow}
use Rattle.cic_metatheory.proofs.environments.Lookups.{formed_knows, formed_shows_right, bare_shows_right, each_weakened, sort_grows}
use Rattle.cic_soundness.proofs.inferences.Calls.{sort_is_right, check_is_right}
use Rattle.cic_soundness.proofs.blocks.Shapes.{passes_shape}
use Rattle.cic_soundness.proofs.blocks.Positivity.{passes_positivity}
use Rattle.cic_soundness.proofs.declarations.Constructors.{arities_have_sorts, types_met, types_right}
use Rattle.cic_soundness.proofs.declarations.Passed.{CheckedBlock, checked_block}

-- What is met after a call was met before it.
met_before : (N : Numbering) (c : Cost) (b b' : Budget) → Took c b b' → MeetsAll N b'.found → MeetsAll N b.found
met_before N c b b' took m = (inserted_met N b.found c.found (subst (MeetsAll N) took.found m)).1

sort_met : (E : Environment) (N : Numbering) (G : Context) (t : Tree) (s : TreeSort) (b b' : Budget) → (calls_from 1 E).sort_of G t b ≡ done s b' → MeetsAll N b'.found → MeetsAll N b.found
unfolding calls_from
sort_met E N G t s b b' e m = let r = sort_of_done E (2001 - 1) G t s b b' e in met_before N r.0 b b' r.3 m

check_met : (E : Environment) (N : Numbering) (G : Context) (t a : Tree) (u : Unit {0}) (b b' : Budget) → (calls_from 1 E).check G t a b ≡ done u b' → MeetsAll N b'.found → MeetsAll N b.found
unfolding calls_from
check_met E N G t a u b b' e m = let r = check_done E (2001 - 1) G t a u b b' e in met_before N r.0 b b' r.3 m

-- The calls of the check
call_sorts : (E : Environment) (N : Numbering) → WellTypedLookups E N → (G : Context) (t : Tree) (s : TreeSort) (b b' : Budget) → WellFormedContext E N G →
    (calls_from 1 E).sort_of G t b ≡ done s b' → MeetsAll N b'.found → Typed E N G t (sort s)
unfolding calls_from
call_sorts E N right G t s b b' w e m = sort_is_right E N G (2001 - 1) t s b b' right w e m

call_checks : (E : Environment) (N : Numbering) → WellTypedLookups E N → (t a : Tree) (u : Unit {0}) (b b' : Budget) → HasSort E N [] a →
    (calls_from 1 E).check [] t a b ≡ done u b' → MeetsAll N b'.found → Typed E N [] t a
unfolding calls_from
call_checks E N right t a u b b' h e m = check_is_right E N [] (2001 - 1) t a u b b' right tt h e m

visible_are : (b b' : Budget) (split : Split) → all_visible b ≡ done split b' → b.found ≡ split.visible
visible_are b b' split e = ap (λ (z : Split). z.visible) (done_value e)

module _ (E : Environment) (N : Numbering) (formed : Formed N E) where
  type_has_sort : (type : Tree) (s : TreeSort) (b b' : Budget) → (calls_from 1 E).sort_of [] type b ≡ done s b' → MeetsAll N b'.found → HasSort E N [] type
  type_has_sort type s b b' e m = record { its_sort = s; typed = call_sorts E N (formed_shows_right E N formed) [] type s b b' tt e m }

  body_has_type : (type body : Tree) (u : Unit {0}) (b b' : Budget) → HasSort E N [] type → (calls_from 1 E).check [] body type b ≡ done u b' → MeetsAll N b'.found → Typed E N [] body type
  body_has_type type body u b b' h e m = call_checks E N (formed_shows_right E N formed) body type u b b' h e m

  checked_block_is_right : (block : Block) (b b' : Budget) → CheckedBlock E block b b' → MeetsAll N b'.found → WellFormedBlock E N block
  checked_block_is_right block b b' k m =
      let B : Environment = E ++ bare block ∷ [] in
      let r = block.parameters in
      let shaped = passes_shape block k.has_shape in
      let met = types_met N (calls_from 1 B) (sort_met B N) r shaped.domains block.types tt k.between b' shaped.types k.types m in
      let arities = arities_have_sorts E N (calls_from 1 E) (sort_met E N) (call_sorts E N (formed_shows_right E N formed)) block.types tt b k.between k.arities met in
      let over_bare = each_weakened (λ t. HasSort E N [] t.arity) (λ t. HasSort B N [] t.arity) block.types (λ t. sort_grows E B N [] t.arity (more_declarations_grow E (bare block ∷ []) (formed_knows E N formed))) arities in
      record {
        shaped = shaped;
        arities = arities;
        positive = passes_positivity E block shaped k.is_positive;
        types = types_right B N (calls_from 1 B) (sort_met B N) (call_sorts B N (bare_shows_right E N block formed arities))
            r shaped.domains block.types tt k.between b' shaped.as_many shaped.types over_bare k.types m;
      }

  judged_is_right : (d : Declaration) (split : Split) (b b' : Budget) → judge E d b ≡ done split b' → MeetsAll N split.visible → MeetsAll N split.proofs → WellFormedDeclaration E N d
  judged_is_right (axiom_of id type) split b b' e m n =
      let f = follow_done ((calls_from 1 E).sort_of [] type b) (λ _. all_visible) split b' e in
      type_has_sort type f.0 b f.1 f.2 (subst (MeetsAll N) (sym (visible_are f.1 b' split f.3)) m)
  judged_is_right (transparent id type body) split b b' e m n =
      let f = follow_done ((calls_from 1 E).sort_of [] type b) (λ _. (calls_from 1 E).check [] body type >> all_visible) split b' e in
      let g = follow_done ((calls_from 1 E).check [] body type f.1) (λ _. all_visible) split b' f.3 in
      let met = subst (MeetsAll N) (sym (visible_are g.1 b' split g.3)) m in
      let sorted = type_has_sort type f.0 b f.1 f.2 (check_met E N [] body type g.0 f.1 g.1 g.2 met) in
      record { sorted = sorted; typed = body_has_type type body g.0 f.1 g.1 sorted g.2 met }
  judged_is_right (opaque id type None) split b b' e m n =
      let f = follow_done ((calls_from 1 E).sort_of [] type b) (λ _. all_visible) split b' e in
      type_has_sort type f.0 b f.1 f.2 (subst (MeetsAll N) (sym (visible_are f.1 b' split f.3)) m)
  judged_is_right (opaque id type (Some body)) split b b' e m n =
      let rest = λ (visible : List Constraint). (calls_from 1 E).check [] body type >> (take_found >>= λ proofs. give (record { visible = visible; proofs = proofs })) in
      let f = follow_done ((calls_from 1 E).sort_of [] type b) (λ _. take_found >>= rest) split b' e in
      let start : Budget = record { rest = f.1.rest; found = [] } in
      let g = follow_done ((calls_from 1 E).check [] body type start) (λ _. take_found >>= λ proofs. give (record { visible = f.1.found; proofs = proofs })) split b' f.3 in
      let sorted = type_has_sort type f.0 b f.1 f.2 (subst (MeetsAll N) (sym (ap (λ (z : Split). z.visible) (done_value g.3))) m) in
      record { sorted = sorted; typed = body_has_type type body g.0 start g.1 sorted g.2 (subst (MeetsAll N) (sym (ap (λ (z : Split). z.proofs) (done_value g.3))) n) }
  judged_is_right (inductive block) split b b' e m n =
      let f = follow_done (check_block E block b) (λ _. all_visible) split b' e in
      checked_block_is_right block b f.1 (checked_block E block f.0 b f.1 f.2) (subst (MeetsAll N) (sym (visible_are f.1 b' split f.3)) m)

  answered_is_right : (d : Declaration) (budget : ℕ) (found : Found) (o : Outcome Split) → judge E d (record { rest = budget; found = [] }) ≡ o → answer_of budget o ≡ accepts found →
      MeetsAll N found.visible → MeetsAll N found.proofs → WellFormedDeclaration E N d
  answered_is_right d budget found (done split b) q e m n =
      let made : record { visible = split.visible; proofs = split.proofs; steps = budget - b.rest } ≡ found = cc in
      judged_is_right d split (record { rest = budget; found = [] }) b q (subst (MeetsAll N) (sym (ap (λ (z : Found). z.visible) made)) m) (subst (MeetsAll N) (sym (ap (λ (z : Found). z.proofs) made)) n)
  answered_is_right d budget found (stops s) q e m n = absurd cc

pub accepted_is_formed : (E : Environment) (N : Numbering) (d : Declaration) (budget : ℕ) (found : Found) → Formed N E → Distinct (environment_ids (E ++ declared d ∷ [])) →
    check_declaration E d budget ≡ accepts found → MeetsAll N found.visible → MeetsAll N found.proofs → Formed N (E ++ declared d ∷ [])
unfolding check_declaration
accepted_is_formed E N d budget found formed distinct e m n =
    one_more E d formed refl distinct (answered_is_right E N formed d budget found (judge E d (record { rest = budget; found = [] })) refl e m n)
