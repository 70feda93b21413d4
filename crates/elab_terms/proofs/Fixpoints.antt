-- What is read of one function of a fix, and of the fix, from what is read of their parts.
use Rattle.std.proofs.Common.{◌≡◌, ℕ, ◌+◌, List, [], ◌∷◌, ◌++◌, map, reverse, refl, sym, ap, ◌∙◌, arith}
use Rattle.std.specs.Prelude.{Option, Some, None, Ok, Err}
use Rattle.std.specs.Option.{option_map}
use Rattle.cic_terms.specs.Tree.{Tree}
use Rattle.gal_grammar.specs.Terms as S
use Rattle.gal_grammar.specs.Terms.{Named, Groups, Functions, no_functions}
use Rattle.gal_raw.specs.Denotes.{tree, identifier, groups, function as written}
use Rattle.gal_raw.specs.declared.terms.Function.{Function, out-Function}
use Rattle.gal_scoping.specs.Readings.{Fault, Reading, after, with_part}
use Rattle.gal_scoping.specs.Names.{Around, Place}
use Rattle.gal_scoping.specs.Levels.{Owner, types_in, types_in_groups}
use Rattle.gal_scoping.specs.Fixpoints.{Binding, names, inside, struct_place, function_names, function_meant, fix_read}
use Rattle.gal_scoping.specs.Terms.{term, bindings, functions}
use Rattle.elab_parts.specs.calls.Parts.{cut}
use Rattle.elab_parts.specs.calls.Bindings.{KnownBinding, cut_binding, known_inside}
use Rattle.elab_parts.specs.calls.Functions.{KnownFunction, cut_function, known_fix}
use Rattle.elab_parts.specs.calls.Places.{struct_at}
use Rattle.elab_parts.proofs.Whole.{fix_cut}
use Rattle.elab_terms.proofs.Steps.{after_fault, after_part, first_fault, second_fault, both_parts, names_cut}
use Rattle.elab_terms.proofs.Formers.{inner}
use Rattle.elab_terms.proofs.Functions.{one_read, function_parts}

struct_named : (s : Option Named) (bs : List Binding) → struct_place s bs ≡ struct_at s (names bs)
struct_named None bs = refl
struct_named (Some x) bs = refl

struct_names : (s : Option Named) (bs : List Binding) (ks : List KnownBinding) (ns : List (Option (List ℕ))) → map cut_binding bs ≡ ks → ns ≡ map (λ (b : KnownBinding). b.name) ks →
    struct_place s bs ≡ struct_at s ns
struct_names s bs ks ns is same =
    let e : names bs ≡ ns = sym (names_cut bs) ∙ ap (map (λ (b : KnownBinding). b.name)) is ∙ sym same in
    struct_named s bs ∙ ap (struct_at s) e

pub after_is : {A B : Type 0} (R : Reading A) (a : A) (next : A → Reading B) → R ≡ Ok a → after R next ≡ next a
after_is R a next h = rw h refl

pub fault_is : {A B D : Type 0} (R : Reading A) (e : Fault) (next : A → Reading B) (m : B → D) → R ≡ Err e → with_part m (after R next) ≡ Err e
fault_is R e next m h = rw h refl

module _ (place : Place) (owner : Owner) (names : List (Option (List ℕ))) (around : Around) (first : ℕ) where
  alone : (x : Function) → functions place owner names around first (written no_functions x)
      ≡ one_read place owner names around [] first (groups (out-Function x).groups) (option_map identifier (out-Function x).structural) (tree (out-Function x).ty) (tree (out-Function x).body)
  alone x =
      let none : first + 0 ≡ first = omega arith in
      ap (functions place owner names around first) (function_parts no_functions x)
      ∙ ap (λ n. one_read place owner names around [] n (groups (out-Function x).groups) (option_map identifier (out-Function x).structural) (tree (out-Function x).ty) (tree (out-Function x).body)) none

  -- one function
  pub single_binders_fault : (x : Function) (e : Fault) →
      with_part (map cut_binding) (bindings place owner around first (groups (out-Function x).groups)) ≡ Err e →
      with_part (map cut_function) (functions place owner names around first (written no_functions x)) ≡ Err e
  single_binders_fault x e h =
      ap (with_part (map cut_function)) (alone x) ∙ after_fault (map cut_binding) _ (map cut_function) (bindings place owner around first (groups (out-Function x).groups)) e h

  pub single_struct_fault : (x : Function) (ks : List KnownBinding) (ns : List (Option (List ℕ))) (e : Fault) →
      with_part (map cut_binding) (bindings place owner around first (groups (out-Function x).groups)) ≡ Ok ks → ns ≡ map (λ (b : KnownBinding). b.name) ks →
      struct_at (option_map identifier (out-Function x).structural) ns ≡ Err e →
      with_part (map cut_function) (functions place owner names around first (written no_functions x)) ≡ Err e
  single_struct_fault x ks ns e told same h =
      ap (with_part (map cut_function)) (alone x)
      ∙ after_part (map cut_binding) _ (map cut_function) (bindings place owner around first (groups (out-Function x).groups)) ks (Err e) told
      (λ bs is. fault_is (struct_place (option_map identifier (out-Function x).structural) bs) e _ (map cut_function) (struct_names _ bs ks ns is same ∙ h))

  pub single_type_fault : (x : Function) (ks : List KnownBinding) (ns : List (Option (List ℕ))) (st : Option ℕ) (around' : Around) (first' : ℕ) (e : Fault) →
      with_part (map cut_binding) (bindings place owner around first (groups (out-Function x).groups)) ≡ Ok ks → ns ≡ map (λ (b : KnownBinding). b.name) ks →
      struct_at (option_map identifier (out-Function x).structural) ns ≡ Ok st →
      around' ≡ known_inside ks around → first' ≡ first + types_in_groups (groups (out-Function x).groups) →
      with_part cut (term place owner around' first' (tree (out-Function x).ty)) ≡ Err e →
      with_part (map cut_function) (functions place owner names around first (written no_functions x)) ≡ Err e
  single_type_fault x ks ns st around' first' e told same told_st at counted h =
      ap (with_part (map cut_function)) (alone x)
      ∙ after_part (map cut_binding) _ (map cut_function) (bindings place owner around first (groups (out-Function x).groups)) ks (Err e) told
      (λ bs is. ap (with_part (map cut_function)) (after_is (struct_place (option_map identifier (out-Function x).structural) bs) st _ (struct_names _ bs ks ns is same ∙ told_st))
      ∙ first_fault cut _ (map cut_function) (term place owner (inside bs around) (first + types_in_groups (groups (out-Function x).groups)) (tree (out-Function x).ty)) _ e
      (inner place owner around first cut ks around' first' _ (tree (out-Function x).ty) (Err e) at counted h bs is))

  pub single_body_fault : (x : Function) (ks : List KnownBinding) (ns : List (Option (List ℕ))) (st : Option ℕ) (around' around'' : Around) (first' first'' : ℕ) (ka : Option Tree) (e : Fault) →
      with_part (map cut_binding) (bindings place owner around first (groups (out-Function x).groups)) ≡ Ok ks → ns ≡ map (λ (b : KnownBinding). b.name) ks →
      struct_at (option_map identifier (out-Function x).structural) ns ≡ Ok st →
      around' ≡ known_inside ks around → first' ≡ first + types_in_groups (groups (out-Function x).groups) →
      with_part cut (term place owner around' first' (tree (out-Function x).ty)) ≡ Ok ka →
      around'' ≡ known_inside ks (reverse names ++ around) → first'' ≡ first' + types_in (tree (out-Function x).ty) →
      with_part cut (term place owner around'' first'' (tree (out-Function x).body)) ≡ Err e →
      with_part (map cut_function) (functions place owner names around first (written no_functions x)) ≡ Err e
  single_body_fault x ks ns st around' around'' first' first'' ka e told same told_st at counted told_a at' counted' h =
      let count = counted' ∙ ap (λ z. z + types_in (tree (out-Function x).ty)) counted in
      ap (with_part (map cut_function)) (alone x)
      ∙ after_part (map cut_binding) _ (map cut_function) (bindings place owner around first (groups (out-Function x).groups)) ks (Err e) told
      (λ bs is. ap (with_part (map cut_function)) (after_is (struct_place (option_map identifier (out-Function x).structural) bs) st _ (struct_names _ bs ks ns is same ∙ told_st))
      ∙ second_fault cut cut _ (map cut_function) (term place owner (inside bs around) (first + types_in_groups (groups (out-Function x).groups)) (tree (out-Function x).ty))
      (term place owner (inside bs (reverse names ++ around)) (first + types_in_groups (groups (out-Function x).groups) + types_in (tree (out-Function x).ty)) (tree (out-Function x).body)) ka e
      (inner place owner around first cut ks around' first' _ (tree (out-Function x).ty) (Ok ka) at counted told_a bs is)
      (inner place owner (reverse names ++ around) first cut ks around'' first'' _ (tree (out-Function x).body) (Err e) at' count h bs is))

  pub single_whole : (x : Function) (ks : List KnownBinding) (ns : List (Option (List ℕ))) (st : Option ℕ) (around' around'' : Around) (first' first'' : ℕ) (ka kt : Option Tree) →
      with_part (map cut_binding) (bindings place owner around first (groups (out-Function x).groups)) ≡ Ok ks → ns ≡ map (λ (b : KnownBinding). b.name) ks →
      struct_at (option_map identifier (out-Function x).structural) ns ≡ Ok st →
      around' ≡ known_inside ks around → first' ≡ first + types_in_groups (groups (out-Function x).groups) →
      with_part cut (term place owner around' first' (tree (out-Function x).ty)) ≡ Ok ka →
      around'' ≡ known_inside ks (reverse names ++ around) → first'' ≡ first' + types_in (tree (out-Function x).ty) →
      with_part cut (term place owner around'' first'' (tree (out-Function x).body)) ≡ Ok kt →
      with_part (map cut_function) (functions place owner names around first (written no_functions x)) ≡ Ok (record { struct = st; bindings = ks; codomain = ka; body = kt } ∷ [])
  single_whole x ks ns st around' around'' first' first'' ka kt told same told_st at counted told_a at' counted' told_t =
      let count = counted' ∙ ap (λ z. z + types_in (tree (out-Function x).ty)) counted in
      ap (with_part (map cut_function)) (alone x)
      ∙ after_part (map cut_binding) _ (map cut_function) (bindings place owner around first (groups (out-Function x).groups)) ks (Ok (record { struct = st; bindings = ks; codomain = ka; body = kt } ∷ [])) told
      (λ bs is. ap (with_part (map cut_function)) (after_is (struct_place (option_map identifier (out-Function x).structural) bs) st _ (struct_names _ bs ks ns is same ∙ told_st))
      ∙ both_parts cut cut _ (map cut_function) (term place owner (inside bs around) (first + types_in_groups (groups (out-Function x).groups)) (tree (out-Function x).ty))
      (term place owner (inside bs (reverse names ++ around)) (first + types_in_groups (groups (out-Function x).groups) + types_in (tree (out-Function x).ty)) (tree (out-Function x).body)) ka kt _
      (inner place owner around first cut ks around' first' _ (tree (out-Function x).ty) (Ok ka) at counted told_a bs is)
      (inner place owner (reverse names ++ around) first cut ks around'' first'' _ (tree (out-Function x).body) (Ok kt) at' count told_t bs is)
      (λ a b ea eb. rw (is, ea, eb) refl))

module _ (place : Place) (owner : Owner) (around : Around) (first : ℕ) (fs : Functions) (x : Option Named) (ns : List (Option (List ℕ))) (same : ns ≡ function_names fs) where
  -- the fix
  pub fix_functions_fault : (e : Fault) → with_part (map cut_function) (functions place owner ns around first fs) ≡ Err e → with_part cut (term place owner around first (S.fix_of fs x)) ≡ Err e
  fix_functions_fault e h =
      after_fault (map cut_function) _ cut (functions place owner (function_names fs) around first fs) e
      (ap (λ z. with_part (map cut_function) (functions place owner z around first fs)) (sym same) ∙ h)

  pub fix_chosen_fault : (ks : List KnownFunction) (e : Fault) → with_part (map cut_function) (functions place owner ns around first fs) ≡ Ok ks → function_meant x ns ≡ Err e →
      with_part cut (term place owner around first (S.fix_of fs x)) ≡ Err e
  fix_chosen_fault ks e told h =
      after_part (map cut_function) _ cut (functions place owner (function_names fs) around first fs) ks (Err e)
      (ap (λ z. with_part (map cut_function) (functions place owner z around first fs)) (sym same) ∙ told)
      (λ read _. let e' : function_meant x (function_names fs) ≡ Err e = ap (function_meant x) (sym same) ∙ h in rw e' refl)

  pub fix_whole : (ks : List KnownFunction) (which : ℕ) (made : Option Tree) → with_part (map cut_function) (functions place owner ns around first fs) ≡ Ok ks → function_meant x ns ≡ Ok which →
      made ≡ known_fix place.environment ks which → with_part cut (term place owner around first (S.fix_of fs x)) ≡ Ok made
  fix_whole ks which made told told_which is_made =
      after_part (map cut_function) _ cut (functions place owner (function_names fs) around first fs) ks (Ok made)
      (ap (λ z. with_part (map cut_function) (functions place owner z around first fs)) (sym same) ∙ told)
      (λ read is.
      let e : function_meant x (function_names fs) ≡ Ok which = ap (function_meant x) (sym same) ∙ told_which in
      let e' : cut (fix_read place.environment read which) ≡ made = sym (fix_cut place.environment read which) ∙ ap (λ z. known_fix place.environment z which) is ∙ sym is_made in
      rw (e, e') refl)
