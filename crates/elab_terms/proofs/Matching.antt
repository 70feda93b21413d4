-- What is read of a match, from what is read of its parts.
use Rattle.std.proofs.Common.{◌≡◌, ℕ, ◌+◌, List, ◌∷◌, refl, sym, ap, ◌∙◌}
use Rattle.std.specs.Prelude.{Option, Some, None, Ok, Err, is_none, is_some, false, Bool}
use Rattle.std.specs.Option.{option_map}
use Rattle.std.specs.Result.{is_err}
use Rattle.std.proofs.Common.{Result, OnOk}
use Rattle.memory.specs.Telling.{OrNoMemory}
use Rattle.cic_terms.specs.Tree.{Tree}
use Rattle.gal_grammar.specs.Terms as S
use Rattle.gal_grammar.specs.Terms.{Binder, Within, Branches, no_branches, branch, Qual}
use Rattle.gal_scoping.specs.Readings.{Fault, Reading, after, with_part}
use Rattle.gal_scoping.specs.Names.{Around, Place}
use Rattle.gal_scoping.specs.Levels.{Owner, types_in}
use Rattle.gal_scoping.specs.Matches.{MatchedType, matched_type, value_name, around_motive, type_and_motive, case_of}
use Rattle.gal_scoping.specs.Terms.{term, branches}
use Rattle.elab_parts.specs.calls.Parts.{cut}
use Rattle.elab_terms.proofs.Steps.{after_fault, after_part}

-- a fact that holds of an answer that is no fault
pub ok_then : {T E : Type 0} (r : Result T E) (b : Bool) (F : Type 0) → b ≡ is_err r → b ≡ false → OnOk r F → F
ok_then (Ok v) b F e h f = f
ok_then (Err x) b F e h f = absurd (let z : ⊥ = cc in z)

pub none_behind : {A B : Type 0} (f : A → B) (o : Option A) (b : Bool) → b ≡ is_some o → b ≡ false → option_map f o ≡ None
none_behind f None b e h = refl
none_behind f (Some a) b e h = absurd (let z : ⊥ = cc in z)

-- of a type with a fault no index has a name
pub motive_outside : (around : Around) (value : Option (List ℕ)) (R : Reading MatchedType) (o : Option Fault) (b : Bool) → b ≡ is_none o → b ≡ false → OrNoMemory o (λ f. R ≡ Err f) →
    around_motive around R value ≡ value ∷ around
motive_outside around value R None b e h told = absurd (let z : ⊥ = cc in z)
motive_outside around value R (Some f) b e h told = ap (λ z. around_motive around z value) told

motive_first : {B : Type 0} (m : Tree → B) (i : Option Within) (R : Reading MatchedType) (motive : Reading Tree) (next : MatchedType → Tree → Reading Tree) (e : Fault) →
    (i ≡ None) → with_part cut motive ≡ Err e → with_part m (type_and_motive i R motive next) ≡ Err e
motive_first m i R motive next e none h = rw none (after_fault cut _ m motive e h)

motive_then : {B : Type 0} (m : Tree → B) (i : Option Within) (t : MatchedType) (R : Reading MatchedType) (motive : Reading Tree) (next : MatchedType → Tree → Reading Tree) (e : Fault) →
    R ≡ Ok t → with_part cut motive ≡ Err e → with_part m (type_and_motive i R motive next) ≡ Err e
motive_then m None t R motive next e is h = after_fault cut _ m motive e h
motive_then m (Some w) t R motive next e is h = rw is (after_fault cut (next t) m motive e h)

both_read : {B : Type 0} (m : Tree → B) (i : Option Within) (t : MatchedType) (R : Reading MatchedType) (motive : Reading Tree) (next : MatchedType → Tree → Reading Tree) (km : Option Tree) (d : Reading B) →
    R ≡ Ok t → with_part cut motive ≡ Ok km → ((a : Tree) → cut a ≡ km → with_part m (next t a) ≡ d) → with_part m (type_and_motive i R motive next) ≡ d
both_read m None t R motive next km d is told h = rw is (after_part cut _ m motive km d told h)
both_read m (Some w) t R motive next km d is told h = rw is (after_part cut (next t) m motive km d told h)

type_last : {B : Type 0} (m : Tree → B) (R : Reading MatchedType) (motive : Reading Tree) (next : MatchedType → Tree → Reading Tree) (km : Option Tree) (e : Fault) →
    R ≡ Err e → with_part cut motive ≡ Ok km → with_part m (type_and_motive None R motive next) ≡ Err e
type_last m R motive next km e is told = rw is (after_part cut _ m motive km (Err e) told (λ a _. refl))

type_first : {B : Type 0} (m : Tree → B) (w : Within) (R : Reading MatchedType) (motive : Reading Tree) (next : MatchedType → Tree → Reading Tree) (e : Fault) →
    R ≡ Err e → with_part m (type_and_motive (Some w) R motive next) ≡ Err e
type_first m w R motive next e is = rw is refl

module _ (place : Place) (owner : Owner) (around : Around) (first : ℕ) (v : S.Raw) (x : Option Binder) (i : Option Within) (m : S.Raw) (bs : Branches) where
  pub match_value_fault : (e : Fault) → with_part cut (term place owner around first v) ≡ Err e → with_part cut (term place owner around first (S.match_of v x i m bs)) ≡ Err e
  match_value_fault e h = after_fault cut _ cut (term place owner around first v) e h

  pub match_type_fault_within : (kv : Option Tree) (w : Within) (e : Fault) → with_part cut (term place owner around first v) ≡ Ok kv → i ≡ Some w → matched_type place around i bs ≡ Err e →
      with_part cut (term place owner around first (S.match_of v x i m bs)) ≡ Err e
  match_type_fault_within kv w e told there is = rw there (
      after_part cut _ cut (term place owner around first v) kv (Err e) told
      (λ value _. type_first cut w (matched_type place around (Some w) bs)
      (term place owner (around_motive around (matched_type place around (Some w) bs) (value_name v x)) (first + types_in v) m)
      (λ type motive. after (branches place owner around (first + types_in v + types_in m) type bs) (case_of type value motive)) e (ap (λ z. matched_type place around z bs) (sym there) ∙ is)))

  pub match_motive_fault_without : (kv : Option Tree) (around' : Around) (first' : ℕ) (e : Fault) → with_part cut (term place owner around first v) ≡ Ok kv → i ≡ None →
      around' ≡ around_motive around (matched_type place around i bs) (value_name v x) → first' ≡ first + types_in v →
      with_part cut (term place owner around' first' m) ≡ Err e → with_part cut (term place owner around first (S.match_of v x i m bs)) ≡ Err e
  match_motive_fault_without kv around' first' e told none at counted h =
      after_part cut _ cut (term place owner around first v) kv (Err e) told
      (λ value _. motive_first cut i (matched_type place around i bs) (term place owner (around_motive around (matched_type place around i bs) (value_name v x)) (first + types_in v) m) _ e none
      (ap (λ z. with_part cut (term place owner z (first + types_in v) m)) (sym at) ∙ ap (λ z. with_part cut (term place owner around' z m)) (sym counted) ∙ h))

  pub match_motive_fault : (kv : Option Tree) (t : MatchedType) (around' : Around) (first' : ℕ) (e : Fault) → with_part cut (term place owner around first v) ≡ Ok kv → matched_type place around i bs ≡ Ok t →
      around' ≡ around_motive around (Ok t) (value_name v x) → first' ≡ first + types_in v →
      with_part cut (term place owner around' first' m) ≡ Err e → with_part cut (term place owner around first (S.match_of v x i m bs)) ≡ Err e
  match_motive_fault kv t around' first' e told is at counted h =
      after_part cut _ cut (term place owner around first v) kv (Err e) told
      (λ value _. motive_then cut i t (matched_type place around i bs) (term place owner (around_motive around (matched_type place around i bs) (value_name v x)) (first + types_in v) m) _ e is
      (ap (λ z. with_part cut (term place owner (around_motive around z (value_name v x)) (first + types_in v) m)) is
      ∙ ap (λ z. with_part cut (term place owner z (first + types_in v) m)) (sym at) ∙ ap (λ z. with_part cut (term place owner around' z m)) (sym counted) ∙ h))

  pub match_type_fault_without : (kv km : Option Tree) (around' : Around) (first' : ℕ) (e : Fault) → with_part cut (term place owner around first v) ≡ Ok kv → i ≡ None →
      matched_type place around i bs ≡ Err e → around' ≡ around_motive around (Err e) (value_name v x) → first' ≡ first + types_in v →
      with_part cut (term place owner around' first' m) ≡ Ok km → with_part cut (term place owner around first (S.match_of v x i m bs)) ≡ Err e
  match_type_fault_without kv km around' first' e told none is at counted h = rw none (
      after_part cut _ cut (term place owner around first v) kv (Err e) told
      (λ value _. type_last cut (matched_type place around None bs) (term place owner (around_motive around (matched_type place around None bs) (value_name v x)) (first + types_in v) m) _ km e
      (ap (λ z. matched_type place around z bs) (sym none) ∙ is)
      (ap (λ z. with_part cut (term place owner (around_motive around z (value_name v x)) (first + types_in v) m)) (ap (λ z. matched_type place around z bs) (sym none) ∙ is)
      ∙ ap (λ z. with_part cut (term place owner z (first + types_in v) m)) (sym at) ∙ ap (λ z. with_part cut (term place owner around' z m)) (sym counted) ∙ h)))

  -- the branches, and what is made of all
  pub match_read : (kv km : Option Tree) (t : MatchedType) (around' around'' : Around) (first' first'' : ℕ) (d : Reading (Option Tree)) → with_part cut (term place owner around first v) ≡ Ok kv →
      matched_type place around i bs ≡ Ok t → around' ≡ around_motive around (Ok t) (value_name v x) → first' ≡ first + types_in v →
      with_part cut (term place owner around' first' m) ≡ Ok km → around'' ≡ around → first'' ≡ first' + types_in m →
      ((value motive : Tree) → cut value ≡ kv → cut motive ≡ km → with_part cut (after (branches place owner around'' first'' t bs) (case_of t value motive)) ≡ d) →
      with_part cut (term place owner around first (S.match_of v x i m bs)) ≡ d
  match_read kv km t around' around'' first' first'' d told is at counted h same counted' k =
      let count : first'' ≡ first + types_in v + types_in m = counted' ∙ ap (λ z. z + types_in m) counted in
      after_part cut _ cut (term place owner around first v) kv d told
      (λ value ev. both_read cut i t (matched_type place around i bs) (term place owner (around_motive around (matched_type place around i bs) (value_name v x)) (first + types_in v) m) _ km d is
      (ap (λ z. with_part cut (term place owner (around_motive around z (value_name v x)) (first + types_in v) m)) is
      ∙ ap (λ z. with_part cut (term place owner z (first + types_in v) m)) (sym at) ∙ ap (λ z. with_part cut (term place owner around' z m)) (sym counted) ∙ h)
      (λ motive em. ap (λ z. with_part cut (after (branches place owner z (first + types_in v + types_in m) t bs) (case_of t value motive))) (sym same)
      ∙ ap (λ z. with_part cut (after (branches place owner around'' z t bs) (case_of t value motive))) (sym count) ∙ k value motive ev em))
