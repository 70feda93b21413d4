-- What is read of the branches of a match.
use Rattle.std.proofs.Common.{◌≡◌, ℕ, ◌+◌, ◌-◌, ◌≤◌, ◌<◌, List, [], ◌∷◌, map, reverse, length, drop, Result, OnOk, sym, ap, ◌∙◌, arith}
use Rattle.std.specs.Prelude.{Option, Ok, Err}
use Rattle.cic_terms.specs.Tree.{Tree}
use Rattle.gal_grammar.specs.Terms as S
use Rattle.gal_grammar.specs.Terms.{Binder, Qual, Branches, no_branches, branch}
use Rattle.gal_raw.specs.Denotes.{tree, qualified, binder}
use Rattle.gal_raw.specs.calls.Lists.{branch_list}
use Rattle.gal_raw.specs.declared.terms.Branch.{Branch}
use Rattle.gal_scoping.specs.Readings.{Fault, Reading, with_part}
use Rattle.gal_scoping.specs.Names.{Around, Place, binder_name}
use Rattle.gal_scoping.specs.Levels.{Owner, types_in, types_in_branches}
use Rattle.gal_scoping.specs.Matches.{MatchedType, ReadBranch, Pattern, pattern_read, around_motive, around_branch, with_branch}
use Rattle.gal_scoping.specs.Terms.{term, branches}
use Rattle.elab_parts.specs.calls.Parts.{cut}
use Rattle.elab_matches.specs.calls.Branches.{KnownBranch, cut_branch, known_pattern, known_with_branch}
use Rattle.elab_matches.proofs.Whole.{pattern_cut, more_cut}
use Rattle.elab_terms.specs.calls.Sizes.{size, size_branches}
use Rattle.elab_terms.proofs.Steps.{after_fault, after_part, part_fault, whole_part}
use Rattle.elab_terms.proofs.Formers.{left_behind}
use Rattle.elab_terms.proofs.Fixpoints.{after_is, fault_is}

pub left_branch : (p : Pattern) (around whole : Around) (n : ℕ) → n ≡ length around → whole ≡ around_branch around p → drop (length whole - n) whole ≡ around
left_branch p around whole n e is = rw is (left_behind (reverse (map binder_name p.names)) around n e)

pub left_motive : (t : MatchedType) (value : Option (List ℕ)) (around whole : Around) (n : ℕ) → n ≡ length around → whole ≡ around_motive around (Ok t) value → drop (length whole - n) whole ≡ around
left_motive t value around whole n e is = rw is (left_behind (value ∷ reverse t.indices) around n e)

-- a fact holds beside an answer
pub beside : {T E : Type 0} (r : Result T E) (F : Type 0) → F → OnOk r F
beside (Ok v) F f = f
beside (Err e) F f = tt

list_size : (g : Branches) (xs : List Branch) → size_branches g ≤ size_branches (branch_list g xs)
list_size g [] = omega arith
list_size g (x ∷ xs) = let e = list_size (branch g (qualified x.constructor) (map binder x.names.items) (tree x.body)) xs in omega arith

module _ (place : Place) (owner : Owner) (around : Around) (first : ℕ) (type : MatchedType) where
  branches_fault : (g : Branches) (xs : List Branch) (e : Fault) → with_part (map cut_branch) (branches place owner around first type g) ≡ Err e →
      with_part (map cut_branch) (branches place owner around first type (branch_list g xs)) ≡ Err e
  branches_fault g [] e h = h
  branches_fault g (x ∷ xs) e h =
      branches_fault (branch g (qualified x.constructor) (map binder x.names.items) (tree x.body)) xs e
      (after_fault (map cut_branch) _ (map cut_branch) (branches place owner around first type g) e h)

  pattern_is : (done : List ReadBranch) (ks : List KnownBranch) (c : Qual) (xs : List Binder) (r : Reading Pattern) → map cut_branch done ≡ ks → known_pattern place around type ks c xs ≡ r →
      pattern_read place around type done c xs ≡ r
  pattern_is done ks c xs r is h = sym (pattern_cut place around type done c xs) ∙ ap (λ z. known_pattern place around type z c xs) is ∙ h

  pattern_fault : (g : Branches) (c : Qual) (xs : List Binder) (t : S.Raw) (ks : List KnownBranch) (e : Fault) → with_part (map cut_branch) (branches place owner around first type g) ≡ Ok ks →
      known_pattern place around type ks c xs ≡ Err e → with_part (map cut_branch) (branches place owner around first type (branch g c xs t)) ≡ Err e
  pattern_fault g c xs t ks e told h =
      after_part (map cut_branch) _ (map cut_branch) (branches place owner around first type g) ks (Err e) told
      (λ done is. fault_is (pattern_read place around type done c xs) e _ (map cut_branch) (pattern_is done ks c xs (Err e) is h))

  inside : {C : Type 0} (m : Tree → C) (around' : Around) (first' : ℕ) (g : Branches) (p : Pattern) (t : S.Raw) (r : Reading C) → around' ≡ around_branch around p → first' ≡ first + types_in_branches g →
      with_part m (term place owner around' first' t) ≡ r → with_part m (term place owner (around_branch around p) (first + types_in_branches g) t) ≡ r
  inside m around' first' g p t r at counted h =
      ap (λ z. with_part m (term place owner z (first + types_in_branches g) t)) (sym at) ∙ ap (λ z. with_part m (term place owner around' z t)) (sym counted) ∙ h

  body_fault : (g : Branches) (c : Qual) (xs : List Binder) (t : S.Raw) (ks : List KnownBranch) (p : Pattern) (around' : Around) (first' : ℕ) (e : Fault) →
      with_part (map cut_branch) (branches place owner around first type g) ≡ Ok ks → known_pattern place around type ks c xs ≡ Ok p →
      around' ≡ around_branch around p → first' ≡ first + types_in_branches g → with_part cut (term place owner around' first' t) ≡ Err e →
      with_part (map cut_branch) (branches place owner around first type (branch g c xs t)) ≡ Err e
  body_fault g c xs t ks p around' first' e told told_p at counted h =
      after_part (map cut_branch) _ (map cut_branch) (branches place owner around first type g) ks (Err e) told
      (λ done is. ap (with_part (map cut_branch)) (after_is (pattern_read place around type done c xs) p _ (pattern_is done ks c xs (Ok p) is told_p))
      ∙ part_fault cut (with_branch done p) (map cut_branch) (term place owner (around_branch around p) (first + types_in_branches g) t) e (inside cut around' first' g p t (Err e) at counted h))

  branch_read : (g : Branches) (c : Qual) (xs : List Binder) (t : S.Raw) (ks : List KnownBranch) (p : Pattern) (around' : Around) (first' : ℕ) (k : Option Tree) →
      with_part (map cut_branch) (branches place owner around first type g) ≡ Ok ks → known_pattern place around type ks c xs ≡ Ok p →
      around' ≡ around_branch around p → first' ≡ first + types_in_branches g → with_part cut (term place owner around' first' t) ≡ Ok k →
      with_part (map cut_branch) (branches place owner around first type (branch g c xs t)) ≡ Ok (known_with_branch ks p k)
  branch_read g c xs t ks p around' first' k told told_p at counted h =
      after_part (map cut_branch) _ (map cut_branch) (branches place owner around first type g) ks (Ok (known_with_branch ks p k)) told
      (λ done is. ap (with_part (map cut_branch)) (after_is (pattern_read place around type done c xs) p _ (pattern_is done ks c xs (Ok p) is told_p))
      ∙ whole_part cut (with_branch done p) (map cut_branch) (term place owner (around_branch around p) (first + types_in_branches g) t) k (known_with_branch ks p k) (inside cut around' first' g p t (Ok k) at counted h)
      (λ body e. sym (more_cut done p body) ∙ ap (λ z. known_with_branch z p (cut body)) is ∙ ap (known_with_branch ks p) e))

  pub record BranchesSoFar (whole : Branches) (rest : List Branch) (made : List KnownBranch) (around' : Around) (first' : ℕ) : Type 0 where
    pub past : Branches
    pub is : branch_list past rest ≡ whole
    pub read : with_part (map cut_branch) (branches place owner around first type past) ≡ Ok made
    pub same : around' ≡ around
    pub counted : first' ≡ first + types_in_branches past

  pub branches_begin : (whole : Branches) (rest : List Branch) (made : List KnownBranch) (around' : Around) (first' : ℕ) →
      branch_list no_branches rest ≡ whole → made ≡ [] → around' ≡ around → first' ≡ first → BranchesSoFar whole rest made around' first'
  branches_begin whole rest made around' first' is none same counted = record {
    past = no_branches;
    is = is;
    read = ap Ok (sym none);
    same = same;
    counted = omega (arith, counted);
  }

  pub branch_smaller_here : (whole : Branches) (rest rest' : List Branch) (x : Branch) (made : List KnownBranch) (around' : Around) (first' : ℕ) →
      BranchesSoFar whole rest made around' first' → rest ≡ x ∷ rest' → size (tree x.body) < size_branches whole
  branch_smaller_here whole rest rest' x made around' first' s at =
      let e = ap (branch_list s.past) (sym at) ∙ s.is in
      omega (arith, list_size (branch s.past (qualified x.constructor) (map binder x.names.items) (tree x.body)) rest', ap size_branches e)

  pub pattern_fault_here : (whole : Branches) (rest rest' : List Branch) (x : Branch) (made : List KnownBranch) (around' : Around) (first' : ℕ) →
      BranchesSoFar whole rest made around' first' → rest ≡ x ∷ rest' → (e : Fault) → known_pattern place around' type made (qualified x.constructor) (map binder x.names.items) ≡ Err e →
      with_part (map cut_branch) (branches place owner around first type whole) ≡ Err e
  pattern_fault_here whole rest rest' x made around' first' s at e h =
      ap (λ z. with_part (map cut_branch) (branches place owner around first type z)) (sym (ap (branch_list s.past) (sym at) ∙ s.is))
      ∙ branches_fault (branch s.past (qualified x.constructor) (map binder x.names.items) (tree x.body)) rest' e
      (pattern_fault s.past (qualified x.constructor) (map binder x.names.items) (tree x.body) made e s.read
      (ap (λ z. known_pattern place z type made (qualified x.constructor) (map binder x.names.items)) (sym s.same) ∙ h))

  pub branch_fault_here : (whole : Branches) (rest rest' : List Branch) (x : Branch) (made : List KnownBranch) (p : Pattern) (around' around'' : Around) (first' : ℕ) →
      BranchesSoFar whole rest made around' first' → rest ≡ x ∷ rest' → (e : Fault) → known_pattern place around' type made (qualified x.constructor) (map binder x.names.items) ≡ Ok p →
      around'' ≡ around_branch around' p → with_part cut (term place owner around'' first' (tree x.body)) ≡ Err e →
      with_part (map cut_branch) (branches place owner around first type whole) ≡ Err e
  branch_fault_here whole rest rest' x made p around' around'' first' s at e told inner h =
      ap (λ z. with_part (map cut_branch) (branches place owner around first type z)) (sym (ap (branch_list s.past) (sym at) ∙ s.is))
      ∙ branches_fault (branch s.past (qualified x.constructor) (map binder x.names.items) (tree x.body)) rest' e
      (body_fault s.past (qualified x.constructor) (map binder x.names.items) (tree x.body) made p around'' first' e s.read
      (ap (λ z. known_pattern place z type made (qualified x.constructor) (map binder x.names.items)) (sym s.same) ∙ told)
      (inner ∙ ap (λ z. around_branch z p) s.same) s.counted h)

  pub branch_more_here : (whole : Branches) (rest rest' : List Branch) (x : Branch) (made made' : List KnownBranch) (p : Pattern) (k : Option Tree) (around' around'' around''' : Around) (first' first'' : ℕ) →
      BranchesSoFar whole rest made around' first' → rest ≡ x ∷ rest' → known_pattern place around' type made (qualified x.constructor) (map binder x.names.items) ≡ Ok p →
      around'' ≡ around_branch around' p → with_part cut (term place owner around'' first' (tree x.body)) ≡ Ok k →
      made' ≡ known_with_branch made p k → around''' ≡ around' → first'' ≡ first' + types_in (tree x.body) →
      BranchesSoFar whole rest' made' around''' first''
  branch_more_here whole rest rest' x made made' p k around' around'' around''' first' first'' s at told inner read is same counted = record {
    past = branch s.past (qualified x.constructor) (map binder x.names.items) (tree x.body);
    is = ap (branch_list s.past) (sym at) ∙ s.is;
    read = branch_read s.past (qualified x.constructor) (map binder x.names.items) (tree x.body) made p around'' first' k s.read
        (ap (λ z. known_pattern place z type made (qualified x.constructor) (map binder x.names.items)) (sym s.same) ∙ told)
        (inner ∙ ap (λ z. around_branch z p) s.same) s.counted read ∙ ap Ok (sym is);
    same = same ∙ s.same;
    counted = omega (arith, counted, s.counted);
  }
