-- What is read of the functions of a fix, and of the fix.
use Rattle.std.proofs.Common.{◌≡◌, ℕ, ◌+◌, ◌≤◌, List, [], ◌∷◌, ◌++◌, map, reverse, refl, sym, ap, ◌∙◌, arith}
use Rattle.std.specs.Prelude.{Option, Ok, Err}
use Rattle.std.specs.Option.{option_map}
use Rattle.std.proofs.lemmas.List.{map-append}
use Rattle.gal_grammar.specs.Terms as S
use Rattle.gal_grammar.specs.Terms.{Named, Groups, Functions, no_functions}
use Rattle.gal_raw.specs.Denotes.{tree, identifier, groups, function as written}
use Rattle.gal_raw.specs.calls.Lists.{function_list}
use Rattle.gal_raw.specs.declared.terms.Function.{Function, Function', out-Function, outs-Function'}
use Rattle.gal_scoping.specs.Readings.{Fault, Reading, after, with_part, with_parts}
use Rattle.gal_scoping.specs.Names.{Around, Place}
use Rattle.gal_scoping.specs.Levels.{Owner, types_in, types_in_groups, types_in_functions}
use Rattle.gal_scoping.specs.Fixpoints.{inside, struct_place, ReadFunction}
use Rattle.gal_scoping.specs.Terms.{term, bindings, functions}
use Rattle.elab_parts.specs.calls.Functions.{KnownFunction, cut_function}
use Rattle.elab_terms.specs.calls.Sizes.{size_functions}
use Rattle.elab_terms.proofs.Steps.{after_fault, after_part, part_fault, whole_part}

-- the parts of a function as it is written
pub function_parts : (fs : Functions) (x : Function) →
    written fs x ≡ S.function fs (identifier (out-Function x).name) (groups (out-Function x).groups) (option_map identifier (out-Function x).structural) (tree (out-Function x).ty) (tree (out-Function x).body)
function_parts fs (Function' n g o a t) =
    ap (λ r. S.function fs (identifier r.name) (groups r.groups) (option_map identifier r.structural) (tree r.ty) (tree r.body)) (sym (outs-Function' n g o a t))

-- a function alone, and behind others
pub alone_size : (fs : Functions) (x : Function) → size_functions fs + size_functions (written no_functions x) ≡ size_functions (written fs x)
alone_size fs (Function' n g o a t) = omega arith

pub alone_types : (fs : Functions) (x : Function) → types_in_functions fs + types_in_functions (written no_functions x) ≡ types_in_functions (written fs x)
alone_types fs (Function' n g o a t) = omega arith

list_size : (fs : Functions) (xs : List Function) → size_functions fs ≤ size_functions (function_list fs xs)
list_size fs [] = omega arith
list_size fs (x ∷ xs) = let e = list_size (written fs x) xs in omega (arith, e, alone_size fs x)

pub function_smaller : (fs whole : Functions) (x : Function) (xs rest : List Function) → xs ≡ x ∷ rest → function_list fs xs ≡ whole →
    size_functions (written no_functions x) ≤ size_functions whole
function_smaller fs whole x xs rest at is =
    let e = ap (function_list fs) (sym at) ∙ is in
    omega (arith, list_size (written fs x) rest, alone_size fs x, ap size_functions e)

same_after : {A B : Type 0} (R : Reading A) (F G : A → Reading B) → ((a : A) → F a ≡ G a) → after R F ≡ after R G
same_after (Ok a) F G h = h a
same_after (Err e) F G h = refl

put_after : {A B C : Type 0} (h : B → C) (R : Reading A) (F : A → Reading C) (G : A → Reading B) → ((a : A) → F a ≡ with_part h (G a)) → after R F ≡ with_part h (after R G)
put_after h (Ok a) F G e = e a
put_after h (Err f) F G e = refl

put_part : {A B C : Type 0} (h : B → C) (R : Reading A) (f : A → C) (g : A → B) → ((a : A) → f a ≡ h (g a)) → with_part f R ≡ with_part h (with_part g R)
put_part h (Ok a) f g e = ap Ok (e a)
put_part h (Err x) f g e = refl

put_parts : {A B C D : Type 0} (h : C → D) (R : Reading A) (R' : Reading B) (f : A → B → D) (g : A → B → C) → ((a : A) (b : B) → f a b ≡ h (g a b)) →
    with_parts f R R' ≡ with_part h (with_parts g R R')
put_parts h (Ok a) R' f g e = put_part h R' (f a) (g a) (e a)
put_parts h (Err x) R' f g e = refl

module _ (place : Place) (owner : Owner) (names : List (Option (List ℕ))) (around : Around) where
  -- a function behind others, from the level number that its first `Type` takes
  abbrev pub one_read : (done : List ReadFunction) → (first : ℕ) → Groups → Option Named → S.Raw → S.Raw → Reading (List ReadFunction)
  one_read done first gs s a t =
      after (bindings place owner around first gs) (λ bs.
      after (struct_place s bs) (λ struct.
      with_parts (λ codomain body. done ++ (record { struct = struct; bindings = bs; codomain = codomain; body = body } ∷ []))
      (term place owner (inside bs around) (first + types_in_groups gs) a)
      (term place owner (inside bs (reverse names ++ around)) (first + types_in_groups gs + types_in a) t)))

  behind : (done : List ReadFunction) (first : ℕ) (gs : Groups) (s : Option Named) (a t : S.Raw) →
      one_read done first gs s a t ≡ with_part (λ one. done ++ one) (one_read [] first gs s a t)
  behind done first gs s a t =
      put_after (λ one. done ++ one) (bindings place owner around first gs) _ _ (λ bs.
      put_after (λ one. done ++ one) (struct_place s bs) _ _ (λ struct.
      put_parts (λ one. done ++ one) (term place owner (inside bs around) (first + types_in_groups gs) a) (term place owner (inside bs (reverse names ++ around)) (first + types_in_groups gs + types_in a) t) _ _ (λ codomain body. refl)))

  -- the functions are those before the last, and the last
  one_more : (first : ℕ) (fs : Functions) (x : Function) →
      functions place owner names around first (written fs x)
      ≡ after (functions place owner names around first fs) (λ done. with_part (λ one. done ++ one) (functions place owner names around (first + types_in_functions fs) (written no_functions x)))
  one_more first fs (Function' n g o a t) =
      let none : first + types_in_functions fs + 0 ≡ first + types_in_functions fs = omega arith in
      same_after (functions place owner names around first fs) _ _ (λ done.
      behind done (first + types_in_functions fs) (groups g) (option_map identifier o) (tree a) (tree t)
      ∙ ap (λ n. with_part (λ one. done ++ one) (one_read [] n (groups g) (option_map identifier o) (tree a) (tree t))) (sym none))

  pub functions_fault : (first : ℕ) (fs : Functions) (xs : List Function) (e : Fault) → with_part (map cut_function) (functions place owner names around first fs) ≡ Err e →
      with_part (map cut_function) (functions place owner names around first (function_list fs xs)) ≡ Err e
  functions_fault first fs [] e h = h
  functions_fault first fs (x ∷ xs) e h =
      functions_fault first (written fs x) xs e (ap (with_part (map cut_function)) (one_more first fs x) ∙ after_fault (map cut_function) _ (map cut_function) (functions place owner names around first fs) e h)

  pub function_fault : (first : ℕ) (fs whole : Functions) (x : Function) (xs rest : List Function) (first' : ℕ) (ks : List KnownFunction) (e : Fault) →
      with_part (map cut_function) (functions place owner names around first fs) ≡ Ok ks → first' ≡ first + types_in_functions fs → xs ≡ x ∷ rest → function_list fs xs ≡ whole →
      with_part (map cut_function) (functions place owner names around first' (written no_functions x)) ≡ Err e →
      with_part (map cut_function) (functions place owner names around first whole) ≡ Err e
  function_fault first fs whole x xs rest first' ks e told counted at is h =
      rw (← is, at) (functions_fault first (written fs x) rest e
      (ap (with_part (map cut_function)) (one_more first fs x)
      ∙ after_part (map cut_function) _ (map cut_function) (functions place owner names around first fs) ks (Err e) told
      (λ done is. part_fault (map cut_function) (λ one. done ++ one) (map cut_function) (functions place owner names around (first + types_in_functions fs) (written no_functions x)) e
      (ap (λ n. with_part (map cut_function) (functions place owner names around n (written no_functions x))) (sym counted) ∙ h))))

  pub function_more : (first : ℕ) (fs : Functions) (x : Function) (first' : ℕ) (ks : List KnownFunction) (k : KnownFunction) →
      with_part (map cut_function) (functions place owner names around first fs) ≡ Ok ks → first' ≡ first + types_in_functions fs →
      with_part (map cut_function) (functions place owner names around first' (written no_functions x)) ≡ Ok (k ∷ []) →
      with_part (map cut_function) (functions place owner names around first (written fs x)) ≡ Ok (ks ++ k ∷ [])
  function_more first fs x first' ks k told counted h =
      ap (with_part (map cut_function)) (one_more first fs x)
      ∙ after_part (map cut_function) _ (map cut_function) (functions place owner names around first fs) ks (Ok (ks ++ k ∷ [])) told
      (λ done is. whole_part (map cut_function) (λ one. done ++ one) (map cut_function) (functions place owner names around (first + types_in_functions fs) (written no_functions x)) (k ∷ []) (ks ++ k ∷ [])
      (ap (λ n. with_part (map cut_function) (functions place owner names around n (written no_functions x))) (sym counted) ∙ h)
      (λ one e. map-append cut_function done one ∙ rw (is, e) refl))
