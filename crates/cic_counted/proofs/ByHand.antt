-- A derivation by hand: the function on nat that is O everywhere, with a match, a fixpoint, conversion by the
-- definition of its codomain, and the type of O got from an equation about it. It shows that the rules derive what
-- they should, so that they are not void.
use Rattle.std.proofs.Common.{◌≢◌, ℕ, [], ◌∷◌, refl, arith, codes, Some}
use Rattle.cic_terms.specs.Tree.{prop, set, own, rel, sort, prod, app, ind}
use Rattle.cic_rules.specs.Environment.{Context, assumed}
use Rattle.cic_rules.specs.Telescopes.{fixpoint, no_argument, one_argument}
use Rattle.cic_rules.specs.Step.{delta_constant}
use Rattle.cic_rules.specs.Conversion.{AtMost, identical, convertible, set_at_most_universe}
use Rattle.cic_rules.specs.Conversion as C
use Rattle.cic_rules.specs.Shapes.{own_block}
use Rattle.cic_rules.specs.Guard.{plain, main, smaller, function, smaller_variable, recursive_value, guarded_variable, guarded_call, guarded_parts, guarded_match, none_guarded, more_guarded, no_guarded_part, guarded_branch, no_guarded_branch, Guarded}
use Rattle.cic_rules.specs.Typing.{Typed, Derivation, of_universe, set_in_set, in_prop, sorts, variable, constant, inductive_type, constructor, product, abstraction, application, matching, conversion, instance, no_branch, branch, of_no_proposition, none_sorted, more_sorted, none_typed, more_typed}
use Rattle.cic_rules.specs.Typing as Ty
use Rattle.cic_counted.specs.calls.Examples.{id_of, nat, O, eq, eq_type, N, match_nat, zero_function, with_N}

nat_is_set : (G : Context) → Typed with_N [] G nat (sort set)
nat_is_set G = inductive_type refl refl

N_is_set : (G : Context) → Typed with_N [] G N (sort set)
N_is_set G = constant refl refl

nat_is_type : (G : Context) → Typed with_N [] G nat eq_type
nat_is_type G = conversion (nat_is_set G) (sorts {s' = own 1} (of_universe refl refl)) (C.sorts (set_at_most_universe refl))

O_is_nat : (G : Context) → Typed with_N [] G O nat
O_is_nat G = constructor refl refl

eq_of_nat : (G : Context) → Typed with_N [] G (app (ind (id_of (codes "eq"))) nat) (prod nat (prod nat (sort prop)))
eq_of_nat G = application (let eq_has_arity : Typed with_N [] G (ind (id_of (codes "eq"))) (prod eq_type (prod (rel 0) (prod (rel 1) (sort prop)))) = inductive_type refl refl in eq_has_arity) (nat_is_type G) refl

O_equals_O : (G : Context) → Typed with_N [] G (eq nat O O) (sort prop)
O_equals_O G =
    let eq_of_O : Typed with_N [] G (app (app (ind (id_of (codes "eq"))) nat) O) (prod nat (sort prop)) = application (eq_of_nat G) (O_is_nat G) refl in
    application eq_of_O (O_is_nat G) refl

-- The rule on the arguments of an inductive type that has a sort.
O_is_nat_by_instance : (G : Context) → Typed with_N [] G O nat
O_is_nat_by_instance G =
    instance (id_of (codes "eq")) (record { arity = prod eq_type (prod (rel 0) (prod (rel 1) (sort prop))); parameters = 2 })
    (nat ∷ []) (O ∷ []) (eq nat O O) (prod nat (sort prop)) (sort prop)
    refl refl (O_equals_O G)
    (one_argument {t = prod nat (prod nat (sort prop))} refl no_argument)
    (one_argument {t = sort prop} refl no_argument)

O_is_N : (G : Context) → Typed with_N [] G O N
O_is_N G = conversion (O_is_nat_by_instance G) (N_is_set G) (C.AtMost.step_right (delta_constant {b = nat} refl refl) (convertible (identical refl)))

nat_to_N : (G : Context) → Typed with_N [] G (prod nat N) (sort set)
nat_to_N G = product (nat_is_set G) (N_is_set _) set_in_set

not_function : (j : ℕ) → plain ≢ function j
not_function j e = grind arith

main_not_function : (j : ℕ) → main ≢ function j
main_not_function j e = grind arith

smaller_not_function : (j : ℕ) → smaller own_block ≢ function j
smaller_not_function j e = grind arith

zero_is_guarded : Guarded with_N (zero_function ∷ [])
zero_is_guarded = (
  record {
    head = id_of (codes "nat");
    arguments = [];
    recursive_domain = refl;
    guarded_body = guarded_match (Some own_block) (recursive_value refl) (guarded_parts no_guarded_part) (guarded_variable main_not_function)
        (guarded_branch [] refl refl (guarded_parts no_guarded_part)
        (guarded_branch (smaller own_block ∷ []) refl refl
        (guarded_call 2 0 0 (rel 0 ∷ []) (rel 0) own_block refl refl refl refl (smaller_variable refl) (more_guarded (guarded_variable smaller_not_function) none_guarded))
        no_guarded_branch));
  },
  tt,
)

-- The body under the function and its domain.
body_context : Context
body_context = assumed nat ∷ assumed (prod nat N) ∷ []

match_typed : Typed with_N [] body_context (match_nat N (rel 0) O (app (rel 2) (rel 0))) N
unfolding body_context
match_typed =
    matching [] [] [] set refl refl refl refl refl (variable refl refl) no_argument refl refl (N_is_set _)
    (of_no_proposition [] set refl (λ e. grind arith))
    (branch [] [] no_argument refl refl refl refl (O_is_N _)
    (branch (nat ∷ []) [] no_argument refl refl refl refl
    (let f_typed : Typed with_N [] (assumed nat ∷ body_context) (rel 2) (prod nat N) = variable refl refl in application f_typed (variable refl refl) refl)
    no_branch))
    refl

pub zero_typed : Derivation with_N [] [] (fixpoint 0 (zero_function ∷ [])) (prod nat N)
unfolding body_context
zero_typed = record {
  well_formed = tt;
  typed = Ty.fixpoint (zero_function ∷ []) refl refl refl
      (more_sorted (nat_to_N []) none_sorted)
      (more_typed (abstraction (nat_to_N _) match_typed) none_typed)
      zero_is_guarded refl;
}
