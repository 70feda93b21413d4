-- The functions of a guarded Fix stay guarded under every substitution, and so under every renaming: outside of the
-- Fix all variables are plain, so every substitution fits the marks in the bodies. The typing of a Fix under a
-- substitution needs it.
use Rattle.std.proofs.Common.{◌≡◌, ℕ, zero, suc, ◌+◌, List, [], ◌∷◌, ◌++◌, length, length-append, map, Option, Some, refl, sym, ap, ap₂, ◌∙◌, arith}
use Rattle.std.proofs.lemmas.List.{length-map, length-replicate}
use Rattle.cic_terms.specs.Tree.{Tree, rel, ind}
use Rattle.cic_names.specs.declared.name.GlobalId.{GlobalId}
use Rattle.cic_rules.specs.Environment.{Environment, element}
use Rattle.cic_rules.specs.Telescopes.{apply, Function, fixpoint}
use Rattle.cic_rules.specs.Shapes.{GuardShape}
use Rattle.cic_rules.specs.Guard.{Mark, plain, main, all_plain, under_marks, recursive_marks, function_marks, domain_marks, recursive_places, GuardedTerm, GuardedFunction, EachGuarded, Guarded}
use Rattle.cic_metatheory.specs.Substitution.{renaming_under_one, renaming_under, rename, substitution_under_one, substitution_under, substitute, substitute_domains, substitute_function}
use Rattle.cic_metatheory.specs.calls.Guards.{rename_domains, rename_function, rename_functions, substitute_functions}
use Rattle.cic_metatheory.proofs.substitutions.Composition.{substitute_rename, substitute_identity}
use Rattle.cic_metatheory.proofs.substitutions.Telescopes.{substitute_inductive, length_substitute_domains, substitute_fixpoint}
use Rattle.cic_metatheory.proofs.guards.Respecting.{respects_under, all_respect}
use Rattle.cic_metatheory.proofs.guards.Substitution.{substitute_guarded}

-- How many marks there are
length_function_marks : (j n : ℕ) → length (function_marks j n) ≡ n
length_function_marks j zero = refl
length_function_marks j (suc n) = ap suc (length_function_marks (j + 1) n)

pub length_domain_marks : (m : Mark) (k n : ℕ) → length (domain_marks m k n) ≡ n
length_domain_marks m zero zero = refl
length_domain_marks m (suc k) zero = refl
length_domain_marks m zero (suc n) = ap suc (length-replicate n plain)
length_domain_marks m (suc k) (suc n) = ap suc (length_domain_marks m k n)

length_body_marks : (n k m : ℕ) → n + m ≡ length (function_marks 0 n ++ domain_marks main k m)
length_body_marks n k m =
    omega (arith, length-append (function_marks 0 n) (domain_marks main k m), length_function_marks 0 n, length_domain_marks main k m)

-- The domains
substitute_domain_at : (as_ : List Tree) (k : ℕ) (a : Tree) (s : ℕ → Tree) → element as_ k ≡ Some a →
    element (substitute_domains s as_) k ≡ Some (substitute (substitution_under k s) a)
unfolding substitution_under
substitute_domain_at [] k a s e = absurd cc
substitute_domain_at (b ∷ as_) zero a s e = let z : b ≡ a = cc in ap (λ y. Some (substitute s y)) z
substitute_domain_at (b ∷ as_) (suc k) a s e = substitute_domain_at as_ k a (substitution_under_one s) e

-- The bodies
guarded_body_substitute : (recursive : (known : Option GuardShape) → GlobalId → (place : ℕ) → Option (List Mark)) (places places' : List ℕ) (n n' k m m' : ℕ) (s : ℕ → Tree) (t : Tree) →
    places' ≡ places → n' ≡ n → m' ≡ m →
    GuardedTerm recursive places (under_marks (function_marks 0 n ++ domain_marks main k m) all_plain) t →
    GuardedTerm recursive places' (under_marks (function_marks 0 n' ++ domain_marks main k m') all_plain) (substitute (substitution_under (n + m) s) t)
guarded_body_substitute recursive places places' n n' k m m' s t same_places same_n same_m c =
    let ms : List Mark = function_marks 0 n ++ domain_marks main k m in
    rw same_places (rw same_n (rw same_m
    (substitute_guarded recursive places c (substitution_under (n + m) s) (under_marks ms all_plain)
    (respects_under ms (n + m) all_plain s all_plain (length_body_marks n k m) (λ x. all_respect all_plain (s x) (λ y. refl))))))

places_stay : (fs : List Function) (n : ℕ) (s : ℕ → Tree) → recursive_places (map (substitute_function n s) fs) ≡ recursive_places fs
places_stay [] n s = refl
places_stay (f ∷ fs) n s = ap (◌∷◌ f.recursive_place) (places_stay fs n s)

guarded_function_substitute : (E : Environment) (all : List Function) (f : Function) (s : ℕ → Tree) →
    GuardedFunction E all f → GuardedFunction E (substitute_functions s all) (substitute_function (length all) s f)
guarded_function_substitute E all f s g = record {
  head = g.head;
  arguments = map (substitute (substitution_under f.recursive_place s)) g.arguments;
  recursive_domain =
      substitute_domain_at f.domains f.recursive_place (apply (ind g.head) g.arguments) s g.recursive_domain
      ∙ ap Some (substitute_inductive g.head g.arguments (substitution_under f.recursive_place s));
  guarded_body =
      guarded_body_substitute (recursive_marks E g.head) (recursive_places all) (recursive_places (substitute_functions s all))
      (length all) (length (substitute_functions s all)) f.recursive_place (length f.domains) (length (substitute_domains s f.domains)) s f.body
      (places_stay all (length all) s) (length-map all (substitute_function (length all) s)) (length_substitute_domains f.domains s)
      g.guarded_body;
}

each_guarded_substitute : (E : Environment) (all fs : List Function) (s : ℕ → Tree) →
    EachGuarded E all fs → EachGuarded E (substitute_functions s all) (map (substitute_function (length all) s) fs)
each_guarded_substitute E all [] s g = tt
each_guarded_substitute E all (f ∷ fs) s g =
    (guarded_function_substitute E all f s g.0, each_guarded_substitute E all fs s g.1)

pub guarded_substitute : (E : Environment) (s : ℕ → Tree) (fs : List Function) → Guarded E fs → Guarded E (substitute_functions s fs)
guarded_substitute E s fs g = each_guarded_substitute E fs fs s g

-- A renaming is the substitution of variables
variables_under_one : (r : ℕ → ℕ) (s : ℕ → Tree) → ((x : ℕ) → rel (r x) ≡ s x) → (x : ℕ) → rel (renaming_under_one r x) ≡ substitution_under_one s x
unfolding renaming_under_one substitution_under_one rename
variables_under_one r s h zero = refl
variables_under_one r s h (suc x) = ap (rename suc) (h x)

variables_under : (n : ℕ) (r : ℕ → ℕ) (s : ℕ → Tree) → ((x : ℕ) → rel (r x) ≡ s x) → (x : ℕ) → rel (renaming_under n r x) ≡ substitution_under n s x
unfolding renaming_under substitution_under
variables_under zero r s h = h
variables_under (suc n) r s h = variables_under n (renaming_under_one r) (substitution_under_one s) (variables_under_one r s h)

rename_is_substitute : (t : Tree) (r : ℕ → ℕ) (s : ℕ → Tree) → ((x : ℕ) → rel (r x) ≡ s x) → rename r t ≡ substitute s t
rename_is_substitute t r s h = sym (substitute_identity (rename r t) rel (λ x. refl)) ∙ substitute_rename t rel r s h

rename_domains_is_substitute : (as_ : List Tree) (r : ℕ → ℕ) (s : ℕ → Tree) → ((x : ℕ) → rel (r x) ≡ s x) → rename_domains r as_ ≡ substitute_domains s as_
rename_domains_is_substitute [] r s h = refl
rename_domains_is_substitute (a ∷ as_) r s h =
    ap₂ ◌∷◌ (rename_is_substitute a r s h)
    (rename_domains_is_substitute as_ (renaming_under_one r) (substitution_under_one s) (variables_under_one r s h))

rename_function_is_substitute : (all : ℕ) (r : ℕ → ℕ) (s : ℕ → Tree) (f : Function) → ((x : ℕ) → rel (r x) ≡ s x) → rename_function all r f ≡ substitute_function all s f
rename_function_is_substitute all r s f h =
    let n : ℕ = length f.domains in
    let c : rename (renaming_under n r) f.codomain ≡ substitute (substitution_under n s) f.codomain =
    rename_is_substitute f.codomain (renaming_under n r) (substitution_under n s) (variables_under n r s h) in
    let b : rename (renaming_under (all + n) r) f.body ≡ substitute (substitution_under (all + n) s) f.body =
    rename_is_substitute f.body (renaming_under (all + n) r) (substitution_under (all + n) s) (variables_under (all + n) r s h) in
    ap (λ d. record { recursive_place = f.recursive_place; domains = d; codomain = rename (renaming_under n r) f.codomain; body = rename (renaming_under (all + n) r) f.body })
    (rename_domains_is_substitute f.domains r s h)
    ∙ ap₂ (λ d t. record { recursive_place = f.recursive_place; domains = substitute_domains s f.domains; codomain = d; body = t }) c b

rename_each_is_substitute : (fs : List Function) (all : ℕ) (r : ℕ → ℕ) (s : ℕ → Tree) → ((x : ℕ) → rel (r x) ≡ s x) →
    map (rename_function all r) fs ≡ map (substitute_function all s) fs
rename_each_is_substitute [] all r s h = refl
rename_each_is_substitute (f ∷ fs) all r s h =
    ap₂ ◌∷◌ (rename_function_is_substitute all r s f h) (rename_each_is_substitute fs all r s h)

pub rename_functions_is_substitute : (r : ℕ → ℕ) (fs : List Function) → rename_functions r fs ≡ substitute_functions (λ x. rel (r x)) fs
rename_functions_is_substitute r fs = rename_each_is_substitute fs (length fs) r (λ x. rel (r x)) (λ x. refl)

pub guarded_rename : (E : Environment) (r : ℕ → ℕ) (fs : List Function) → Guarded E fs → Guarded E (rename_functions r fs)
guarded_rename E r fs g = rw (rename_functions_is_substitute r fs) (guarded_substitute E (λ x. rel (r x)) fs g)

pub rename_fixpoint : (r : ℕ → ℕ) (which : ℕ) (fs : List Function) → rename r (fixpoint which fs) ≡ fixpoint which (rename_functions r fs)
rename_fixpoint r which fs =
    rename_is_substitute (fixpoint which fs) r (λ x. rel (r x)) (λ x. refl)
    ∙ substitute_fixpoint which fs (λ x. rel (r x))
    ∙ ap (fixpoint which) (sym (rename_functions_is_substitute r fs))
