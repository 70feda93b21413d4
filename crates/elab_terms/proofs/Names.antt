-- The names of the functions of a list.
use Rattle.std.proofs.Common.{◌≡◌, ℕ, List, [], ◌∷◌, ◌++◌, sym, ap, ◌∙◌}
use Rattle.std.specs.Prelude.{Option, Some}
use Rattle.gal_grammar.specs.Terms.{Functions, no_functions}
use Rattle.gal_raw.specs.Denotes.{function as written}
use Rattle.gal_raw.specs.calls.Lists.{function_list}
use Rattle.gal_raw.specs.declared.terms.Function.{Function, out-Function}
use Rattle.gal_scoping.specs.Fixpoints.{function_names}
use Rattle.elab_terms.proofs.Functions.{function_parts}

pub record NamesSoFar (whole : Functions) (rest : List Function) (names : List (Option (List ℕ))) : Type 0 where
  pub past : Functions
  pub is : function_list past rest ≡ whole
  pub named : names ≡ function_names past

pub names_begin : (whole : Functions) (rest : List Function) (names : List (Option (List ℕ))) → function_list no_functions rest ≡ whole → names ≡ [] → NamesSoFar whole rest names
names_begin whole rest names is none = record { past = no_functions; is = is; named = none }

pub names_more : (whole : Functions) (rest rest' : List Function) (x : Function) (names names' : List (Option (List ℕ))) → NamesSoFar whole rest names → rest ≡ x ∷ rest' →
    names' ≡ names ++ Some ((out-Function x).name.text.now) ∷ [] → NamesSoFar whole rest' names'
names_more whole rest rest' x names names' s at is = record {
  past = written s.past x;
  is = ap (function_list s.past) (sym at) ∙ s.is;
  named = is ∙ ap (λ ys. ys ++ Some ((out-Function x).name.text.now) ∷ []) s.named ∙ ap function_names (sym (function_parts s.past x));
}

pub names_done : (whole : Functions) (rest : List Function) (names : List (Option (List ℕ))) → NamesSoFar whole rest names → rest ≡ [] → names ≡ function_names whole
names_done whole rest names s none = s.named ∙ ap function_names (ap (function_list s.past) (sym none) ∙ s.is)
