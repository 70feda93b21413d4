-- What stands between two arguments, groups or functions of a list that is read.
use Rattle.std.proofs.Common.{◌≡◌, ℕ, ◌+◌, ◌<◌, ◌≤◌, List, [], ◌∷◌, ◌++◌, map, reverse, sym, ap, ◌∙◌, arith}
use Rattle.std.specs.Prelude.{Option, Ok, Err}
use Rattle.cic_terms.specs.Tree.{Tree}
use Rattle.gal_grammar.specs.Terms as S
use Rattle.gal_grammar.specs.Terms.{Groups, group, no_groups, Functions, no_functions}
use Rattle.gal_raw.specs.Denotes.{tree, binder, applied, function as written}
use Rattle.gal_raw.specs.calls.Lists.{group_list, function_list}
use Rattle.gal_raw.specs.declared.terms.Raw.{Raw}
use Rattle.gal_raw.specs.declared.terms.Group.{Group}
use Rattle.gal_raw.specs.declared.terms.Function.{Function}
use Rattle.gal_scoping.specs.Readings.{Fault, with_part}
use Rattle.gal_scoping.specs.Names.{Around, Place, binder_name}
use Rattle.gal_scoping.specs.Levels.{Owner, types_in, types_in_groups, types_in_functions}
use Rattle.gal_scoping.specs.Terms.{term, bindings, functions}
use Rattle.elab_parts.specs.declared.making.Pair.TheVariants.{Application}
use Rattle.elab_parts.specs.calls.Parts.{cut, of_two, pair_tree}
use Rattle.elab_parts.specs.calls.Bindings.{KnownBinding, cut_binding, bindings_known, known_inside}
use Rattle.elab_parts.specs.calls.Functions.{KnownFunction, cut_function}
use Rattle.elab_terms.specs.calls.Sizes.{size, size_groups, size_functions}
use Rattle.elab_terms.proofs.Formers.{argument_facts, group_facts, applied_fault, argument_fault, argument_more, group_fault, group_more, inside_more}
use Rattle.elab_terms.proofs.Functions.{function_smaller, alone_types, function_fault, function_more}

module _ (place : Place) (owner : Owner) (around : Around) (first : ℕ) where
  -- arguments
  pub record ArgumentsSoFar (whole : S.Raw) (rest : List Raw) (made : Option Tree) (around' : Around) (first' : ℕ) : Type 0 where
    pub past : S.Raw
    pub is : applied past rest ≡ whole
    pub read : with_part cut (term place owner around first past) ≡ Ok made
    pub same : around' ≡ around
    pub counted : first' ≡ first + types_in past

  pub head_fault_here : (whole f : S.Raw) (xs : List Raw) (e : Fault) → whole ≡ applied f xs → with_part cut (term place owner around first f) ≡ Err e →
      with_part cut (term place owner around first whole) ≡ Err e
  head_fault_here whole f xs e is h = ap (λ z. with_part cut (term place owner around first z)) is ∙ applied_fault place owner around first f xs e h

  pub argument_smaller_here : (whole : S.Raw) (rest rest' : List Raw) (x : Raw) (made : Option Tree) (around' : Around) (first' : ℕ) →
      ArgumentsSoFar whole rest made around' first' → rest ≡ x ∷ rest' → size (tree x) < size whole
  argument_smaller_here whole rest rest' x made around' first' s at = (argument_facts s.past x rest rest' whole at s.is).0

  pub argument_fault_here : (whole : S.Raw) (rest rest' : List Raw) (x : Raw) (made : Option Tree) (around' : Around) (first' : ℕ) →
      ArgumentsSoFar whole rest made around' first' → rest ≡ x ∷ rest' → (e : Fault) → with_part cut (term place owner around' first' (tree x)) ≡ Err e →
      with_part cut (term place owner around first whole) ≡ Err e
  argument_fault_here whole rest rest' x made around' first' s at e h =
      argument_fault place owner around first s.past whole x rest rest' around' first' made e s.read s.same s.counted at s.is h

  pub argument_more_here : (whole : S.Raw) (rest rest' : List Raw) (x : Raw) (made made' kx : Option Tree) (around' around'' : Around) (first' first'' : ℕ) →
      ArgumentsSoFar whole rest made around' first' → rest ≡ x ∷ rest' → with_part cut (term place owner around' first' (tree x)) ≡ Ok kx →
      made' ≡ of_two (pair_tree Application) made kx → around'' ≡ around' → first'' ≡ first' + types_in (tree x) →
      ArgumentsSoFar whole rest' made' around'' first''
  argument_more_here whole rest rest' x made made' kx around' around'' first' first'' s at told is same counted = record {
    past = S.app s.past (tree x);
    is = ap (applied s.past) (sym at) ∙ s.is;
    read = argument_more place owner around first s.past (tree x) around' first' made kx made' s.read s.same s.counted told is;
    same = same ∙ s.same;
    counted = omega (arith, counted, s.counted);
  }

  pub arguments_done : (whole : S.Raw) (rest : List Raw) (made : Option Tree) (around' : Around) (first' : ℕ) →
      ArgumentsSoFar whole rest made around' first' → rest ≡ [] →
      (with_part cut (term place owner around first whole) ≡ Ok made) × (around' ≡ around) × (first' ≡ first + types_in whole)
  arguments_done whole rest made around' first' s at =
      let e : s.past ≡ whole = ap (applied s.past) (sym at) ∙ s.is in
      (ap (λ z. with_part cut (term place owner around first z)) (sym e) ∙ s.read, s.same, s.counted ∙ ap (λ z. first + types_in z) e)

  -- groups of binders
  pub record GroupsSoFar (whole : Groups) (rest : List Group) (made : List KnownBinding) (around' : Around) (first' : ℕ) : Type 0 where
    pub past : Groups
    pub is : group_list past rest ≡ whole
    pub read : with_part (map cut_binding) (bindings place owner around first past) ≡ Ok made
    pub inside : around' ≡ known_inside made around
    pub counted : first' ≡ first + types_in_groups past

  pub groups_begin : (whole : Groups) (rest : List Group) (made : List KnownBinding) (around' : Around) (first' : ℕ) →
      group_list no_groups rest ≡ whole → made ≡ [] → around' ≡ around → first' ≡ first → GroupsSoFar whole rest made around' first'
  groups_begin whole rest made around' first' is none same counted = record {
    past = no_groups;
    is = is;
    read = ap Ok (sym none);
    inside = same ∙ ap (λ z. known_inside z around) (sym none);
    counted = omega (arith, counted);
  }

  pub group_smaller_here : (whole : Groups) (rest rest' : List Group) (x : Group) (made : List KnownBinding) (around' : Around) (first' : ℕ) →
      GroupsSoFar whole rest made around' first' → rest ≡ x ∷ rest' → size (tree x.ty) < size_groups whole
  group_smaller_here whole rest rest' x made around' first' s at = (group_facts s.past x rest rest' whole at s.is).0

  pub group_fault_here : (whole : Groups) (rest rest' : List Group) (x : Group) (made : List KnownBinding) (around' : Around) (first' : ℕ) →
      GroupsSoFar whole rest made around' first' → rest ≡ x ∷ rest' → (e : Fault) → with_part cut (term place owner around' first' (tree x.ty)) ≡ Err e →
      with_part (map cut_binding) (bindings place owner around first whole) ≡ Err e
  group_fault_here whole rest rest' x made around' first' s at e h =
      group_fault place owner around first s.past whole x rest rest' around' first' made e s.read s.inside s.counted at s.is h

  pub group_more_here : (whole : Groups) (rest rest' : List Group) (x : Group) (made made' : List KnownBinding) (k : Option Tree) (around' around'' around''' : Around) (first' first'' : ℕ) →
      GroupsSoFar whole rest made around' first' → rest ≡ x ∷ rest' → with_part cut (term place owner around' first' (tree x.ty)) ≡ Ok k →
      made' ≡ made ++ bindings_known 0 (map binder x.binders.items) k →
      around'' ≡ around' → around''' ≡ reverse (map binder_name (map binder x.binders.items)) ++ around'' → first'' ≡ first' + types_in (tree x.ty) →
      GroupsSoFar whole rest' made' around''' first''
  group_more_here whole rest rest' x made made' k around' around'' around''' first' first'' s at told is same inner counted = record {
    past = group s.past (map binder x.binders.items) (tree x.ty);
    is = ap (group_list s.past) (sym at) ∙ s.is;
    read = group_more place owner around first s.past (map binder x.binders.items) (tree x.ty) around' first' made made' k s.read s.inside s.counted told is;
    inside = inner ∙ ap (λ z. reverse (map binder_name (map binder x.binders.items)) ++ z) (same ∙ s.inside)
        ∙ inside_more made (map binder x.binders.items) k around ∙ ap (λ z. known_inside z around) (sym is);
    counted = omega (arith, counted, s.counted);
  }

  pub groups_done : (whole : Groups) (rest : List Group) (made : List KnownBinding) (around' : Around) (first' : ℕ) →
      GroupsSoFar whole rest made around' first' → rest ≡ [] →
      (with_part (map cut_binding) (bindings place owner around first whole) ≡ Ok made) × (around' ≡ known_inside made around) × (first' ≡ first + types_in_groups whole)
  groups_done whole rest made around' first' s at =
      let e : s.past ≡ whole = ap (group_list s.past) (sym at) ∙ s.is in
      (ap (λ z. with_part (map cut_binding) (bindings place owner around first z)) (sym e) ∙ s.read, s.inside, s.counted ∙ ap (λ z. first + types_in_groups z) e)

  -- functions
  pub record FunctionsSoFar (names : List (Option (List ℕ))) (whole : Functions) (rest : List Function) (made : List KnownFunction) (around' : Around) (first' : ℕ) : Type 0 where
    pub past : Functions
    pub is : function_list past rest ≡ whole
    pub read : with_part (map cut_function) (functions place owner names around first past) ≡ Ok made
    pub same : around' ≡ around
    pub counted : first' ≡ first + types_in_functions past

  pub functions_begin : (names : List (Option (List ℕ))) (whole : Functions) (rest : List Function) (made : List KnownFunction) (around' : Around) (first' : ℕ) →
      function_list no_functions rest ≡ whole → made ≡ [] → around' ≡ around → first' ≡ first → FunctionsSoFar names whole rest made around' first'
  functions_begin names whole rest made around' first' is none same counted = record {
    past = no_functions;
    is = is;
    read = ap Ok (sym none);
    same = same;
    counted = omega (arith, counted);
  }

  pub function_smaller_here : (names : List (Option (List ℕ))) (whole : Functions) (rest rest' : List Function) (x : Function) (made : List KnownFunction) (around' : Around) (first' : ℕ) →
      FunctionsSoFar names whole rest made around' first' → rest ≡ x ∷ rest' → size_functions (written no_functions x) ≤ size_functions whole
  function_smaller_here names whole rest rest' x made around' first' s at = function_smaller s.past whole x rest rest' at s.is

  pub function_fault_here : (names : List (Option (List ℕ))) (whole : Functions) (rest rest' : List Function) (x : Function) (made : List KnownFunction) (around' : Around) (first' : ℕ) →
      FunctionsSoFar names whole rest made around' first' → rest ≡ x ∷ rest' → (e : Fault) →
      with_part (map cut_function) (functions place owner names around' first' (written no_functions x)) ≡ Err e →
      with_part (map cut_function) (functions place owner names around first whole) ≡ Err e
  function_fault_here names whole rest rest' x made around' first' s at e h =
      function_fault place owner names around first s.past whole x rest rest' first' made e s.read s.counted at s.is
      (ap (λ z. with_part (map cut_function) (functions place owner names z first' (written no_functions x))) (sym s.same) ∙ h)

  pub function_more_here : (names : List (Option (List ℕ))) (whole : Functions) (rest rest' : List Function) (x : Function) (made made' : List KnownFunction) (k : KnownFunction) (around' around'' : Around) (first' first'' : ℕ) →
      FunctionsSoFar names whole rest made around' first' → rest ≡ x ∷ rest' →
      with_part (map cut_function) (functions place owner names around' first' (written no_functions x)) ≡ Ok (k ∷ []) →
      made' ≡ made ++ k ∷ [] → around'' ≡ around' → first'' ≡ first' + types_in_functions (written no_functions x) →
      FunctionsSoFar names whole rest' made' around'' first''
  function_more_here names whole rest rest' x made made' k around' around'' first' first'' s at told is same counted = record {
    past = written s.past x;
    is = ap (function_list s.past) (sym at) ∙ s.is;
    read = function_more place owner names around first s.past x first' made k s.read s.counted (ap (λ z. with_part (map cut_function) (functions place owner names z first' (written no_functions x))) (sym s.same) ∙ told) ∙ ap Ok (sym is);
    same = same ∙ s.same;
    counted = omega (arith, counted, s.counted, alone_types s.past x);
  }

  pub functions_done : (names : List (Option (List ℕ))) (whole : Functions) (rest : List Function) (made : List KnownFunction) (around' : Around) (first' : ℕ) →
      FunctionsSoFar names whole rest made around' first' → rest ≡ [] →
      (with_part (map cut_function) (functions place owner names around first whole) ≡ Ok made) × (around' ≡ around) × (first' ≡ first + types_in_functions whole)
  functions_done names whole rest made around' first' s at =
      let e : s.past ≡ whole = ap (function_list s.past) (sym at) ∙ s.is in
      (ap (λ z. with_part (map cut_function) (functions place owner names around first z)) (sym e) ∙ s.read, s.same, s.counted ∙ ap (λ z. first + types_in_functions z) e)
