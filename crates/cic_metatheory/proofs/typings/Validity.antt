-- Each derived type has a sort, in a well formed context over an environment that shows right types only. By
-- induction on the derivation; soundness of inference rests on it, since the rules ask that a type has a sort
-- where the program only finds a type.
use Rattle.std.proofs.Common.{◌≡◌, ℕ, zero, suc, ◌+◌, List, [], ◌∷◌, ◌++◌, length, Option, Some, None, refl, sym, ap, ◌∙◌, arith}
use Rattle.cic_terms.specs.Tree.{TreeSort, prop, set, typ, own, Tree, sort, ind}
use Rattle.cic_terms.specs.Lift.{lift_tree}
use Rattle.cic_names.specs.declared.name.GlobalId.{GlobalId}
use Rattle.cic_rules.specs.Numbering.{Numbering, expression_number}
use Rattle.cic_rules.specs.Environment.{Environment, Context, Meaning, InductiveType, TypeInBlock, TypeDeclaration, constant, whole_type, bare_type, constructor, meaning, inductive_type_in, inductive_type_in_block, inductive_type_of, whole_block, whole_block_in, element, type_at, Entry, assumed, defined}
use Rattle.cic_rules.specs.Telescopes.{apply, products, extend, substitute_all, variables, lift_all, function_type, Instantiated, no_argument, one_argument}
use Rattle.cic_rules.specs.Typing as T
use Rattle.cic_rules.specs.Typing.{TypeOfSort, of_prop, of_set, of_universe, Typed, AllSorted, none_sorted, more_sorted, HasSort, WellFormedContext, Derivation}
use Rattle.cic_metatheory.specs.WellTypedLookups.{WellTypedLookups}
use Rattle.cic_metatheory.specs.TypedContexts.{RenamesTypedContext}
use Rattle.cic_metatheory.proofs.substitutions.LiftAndSubst.{lift_adds}
use Rattle.cic_metatheory.proofs.substitutions.Commuting.{lift_within_lift}
use Rattle.cic_metatheory.proofs.substitutions.Telescopes.{element_map}
use Rattle.cic_metatheory.proofs.conversions.Weakening.{grows_alike}
use Rattle.cic_metatheory.proofs.typings.Weakening.{typed_weakens, typed_renamed, typed_at_defined}
use Rattle.cic_metatheory.proofs.typings.ProductParts.{domain_has_sort}
use Rattle.cic_metatheory.proofs.typings.Instances.{sort_at, inductive_arguments, inductive_arguments_between, codomain_at_argument_has_sort, instantiated_has_sort}
use Rattle.cic_metatheory.proofs.typings.InstancesTogether.{products_instantiated, sort_with_several, motive_at_indices_and_value}
use Rattle.cic_metatheory.proofs.basics.Options.{some_is_not_none}

-- Each sort has a sort.
sort_has_type : (N : Numbering) (s : TreeSort) → (s' : TreeSort) × TypeOfSort N s s'
sort_has_type N prop = (own 0, of_prop refl)
sort_has_type N set = (own 0, of_set refl)
sort_has_type N (typ e) = (own (expression_number N e), of_universe refl refl)
sort_has_type N (own i) = (own (i + 1), of_universe refl refl)

pub sort_has_sort : (E : Environment) (N : Numbering) (G : Context) (s : TreeSort) → HasSort E N G (sort s)
sort_has_sort E N G s = let h = sort_has_type N s in record { its_sort = h.0; typed = T.Typed.sorts h.1 }

-- A type that has a sort has one under one more entry, and a closed one in every context.
pub sort_under_entry : (E : Environment) (N : Numbering) (G : Context) (e : Entry) (t : Tree) → HasSort E N G t → HasSort E N (e ∷ G) (lift_tree 0 1 t)
sort_under_entry E N G e t h = record { its_sort = h.its_sort; typed = typed_weakens E N G e t (sort h.its_sort) h.typed }

renames_from_nothing : (G : Context) → RenamesTypedContext (λ x. x + length G) [] G
renames_from_nothing G = record {
  context = record {
    bodies = λ x t h. some_is_not_none h.stands;
    outside = λ k. omega arith;
  };
  types = λ x t h. some_is_not_none h.stands;
}

pub closed_is_typed : (E : Environment) (N : Numbering) (G : Context) (t a : Tree) → Typed E N [] t a → Typed E N G (lift_tree 0 (length G) t) (lift_tree 0 (length G) a)
closed_is_typed E N G t a h =
    rw (lift_adds (length G) t, lift_adds (length G) a) (typed_renamed E E N (λ x. x + length G) [] G t a (grows_alike E) (renames_from_nothing G) h)

pub closed_has_sort : (E : Environment) (N : Numbering) (G : Context) (t : Tree) → HasSort E N [] t → HasSort E N G (lift_tree 0 (length G) t)
closed_has_sort E N G t h = record { its_sort = h.its_sort; typed = closed_is_typed E N G t (sort h.its_sort) h.typed }

-- The type of a variable of a well formed context
pub variable_has_sort : (E : Environment) (N : Numbering) (G : Context) (x : ℕ) (a : Tree) → WellFormedContext E N G → type_at G x ≡ Some a → HasSort E N G (lift_tree 0 (x + 1) a)
variable_has_sort E N [] x a w e = absurd (grind arith)
variable_has_sort E N (d ∷ G) zero a w e = sort_under_entry E N G d a (w.0 a e)
variable_has_sort E N (d ∷ G) (suc x) a w e =
    sort_at E N (d ∷ G) _ _ (lift_within_lift 0 (x + 1) 0 1 a (omega arith) (omega arith) ∙ ap (λ k. lift_tree 0 k a) (omega arith))
    (sort_under_entry E N G d (lift_tree 0 (x + 1) a) (variable_has_sort E N G x a w.2 e))

pub defined_well_formed : (E : Environment) (N : Numbering) (G : Context) (t a : Tree) → HasSort E N G a → Typed E N G t a → WellFormedContext E N G → WellFormedContext E N (defined t a ∷ G)
defined_well_formed E N G t a h p w = ((λ b e. sort_at E N G a b (grind arith) h), (λ b u e f. at_entry b u (grind arith) (grind arith)), w)
  where
    at_entry : (b u : Tree) → a ≡ b → t ≡ u → Typed E N G u b
    at_entry b u e f = rw (← e, ← f) p

-- One of several types
pub sorted_has_sort : (E : Environment) (N : Numbering) (G : Context) {ts : List Tree} → AllSorted E N G ts → (i : ℕ) (t : Tree) → element ts i ≡ Some t → HasSort E N G t
sorted_has_sort E N G none_sorted i t e = absurd (grind arith)
sorted_has_sort E N G (more_sorted {t = u} {s = s} p q) zero t e = sort_at E N G u t (grind arith) (record { its_sort = s; typed = p })
sorted_has_sort E N G (more_sorted p q) (suc i) t e = sorted_has_sort E N G q i t e

-- A type of a whole block has its arity.
arity_in_whole_block : (m : Option Meaning) (place : TypeInBlock) (I : TypeDeclaration) → whole_block_in m ≡ Some place → element place.block.types place.index ≡ Some I →
    inductive_type_in m ≡ Some (record { arity = I.arity; parameters = place.block.parameters })
arity_in_whole_block (Some (whole_type block index)) place I e f =
    let is_place : ◌≡◌ {A = TypeInBlock} (record { block = block; index = index }) place = cc in
    rw (ap (λ p. p.block) is_place, ap (λ p. p.index) is_place) (ap (inductive_type_in_block place.block) f)
arity_in_whole_block None place I e f = absurd (grind arith)
arity_in_whole_block (Some (constant type body)) place I e f = absurd (grind arith)
arity_in_whole_block (Some (bare_type block index)) place I e f = absurd (grind arith)
arity_in_whole_block (Some (constructor block index k)) place I e f = absurd (grind arith)

pub whole_block_has_arity : (E : Environment) (id : GlobalId) (place : TypeInBlock) (I : TypeDeclaration) → whole_block E id ≡ Some place → element place.block.types place.index ≡ Some I →
    inductive_type_of E id ≡ Some (record { arity = I.arity; parameters = place.block.parameters })
whole_block_has_arity E id place I e f = arity_in_whole_block (meaning E id) place I e f

-- The type of a match
pub match_type_has_sort : (E : Environment) (N : Numbering) (G : Context) (id : GlobalId) (A : InductiveType) (parameters indices domains : List Tree) (s' s : TreeSort) (n : ℕ) (v w z p : Tree) →
    inductive_type_of E id ≡ Some A → length indices ≡ n → w ≡ apply (ind id) (parameters ++ indices) → Typed E N G v w → HasSort E N G w →
    Instantiated (lift_tree 0 (length G) A.arity) parameters z → z ≡ products domains (sort s') → length domains ≡ n →
    Typed E N (assumed (apply (ind id) (lift_all n parameters ++ variables n)) ∷ extend G domains) p (sort s) →
    Typed E N G (substitute_all (indices ++ v ∷ []) p) (sort s)
match_type_has_sort E N G id A parameters indices domains s' s n v w z p d li ew tv hw pe ez ld tp =
    let l : length indices ≡ length domains = li ∙ sym ld in
    let q : Instantiated (products domains (sort s')) indices (sort s') =
    rw (sort_with_several indices s') at (products_instantiated domains indices (sort s') l) in
    let k = (inductive_arguments E N G id A hw.its_sort w (products domains (sort s')) (sort s') parameters indices d hw.typed ew (rw ez at pe) q).1 in
    motive_at_indices_and_value E N G id parameters indices domains (sort s') (sort s') v p s l k (rw ew at tv) (rw li tp)

pub typed_has_sort : (E : Environment) (N : Numbering) → WellTypedLookups E N → {G : Context} {t a : Tree} → WellFormedContext E N G → Typed E N G t a → HasSort E N G a
typed_has_sort E N k {G = G} w (T.Typed.sorts {s' = s'} p) = sort_has_sort E N G s'
typed_has_sort E N k {G = G} w (T.Typed.variable {x = x} {a = a} p e) = sort_at E N G _ _ (sym e) (variable_has_sort E N G x a w p)
typed_has_sort E N k {G = G} w (T.Typed.constant {c = c} {a = a} p e) = sort_at E N G _ _ (sym e) (closed_has_sort E N G a (k.constants c a p))
typed_has_sort E N k {G = G} w (T.Typed.inductive_type {c = c} {a = A} p e) = sort_at E N G _ _ (sym e) (closed_has_sort E N G A.arity (k.arities c A p))
typed_has_sort E N k {G = G} w (T.Typed.constructor {c = c} {K = C} p e) = sort_at E N G _ _ (sym e) (closed_has_sort E N G C.type (k.constructors c C p))
typed_has_sort E N k {G = G} w (T.Typed.product {s'' = s''} p q z) = sort_has_sort E N G s''
typed_has_sort E N k w (T.Typed.abstraction {s = s} p q) = record { its_sort = s; typed = p }
typed_has_sort E N k {G = G} w (T.Typed.application {u = u} {a = a} {b = b} p q e) =
    sort_at E N G _ _ (sym e) (codomain_at_argument_has_sort E N G a b u (typed_has_sort E N k w p) q)
typed_has_sort E N k {G = G} w (T.Typed.local_definition {t = t} {a = a} {u = u} {b = b} {s = s} o p q e) =
    let h = typed_has_sort E N k (defined_well_formed E N G t a (record { its_sort = s; typed = o }) p w) q in
    sort_at E N G _ _ (sym e) (record { its_sort = h.its_sort; typed = typed_at_defined E N G a t b (sort h.its_sort) h.typed p })
typed_has_sort E N k {G = G} w (T.Typed.matching {id = id} {n = n} {p = p} {v = v} {w = y} {z = z} {s = s} {place = place} {T = I} parameters indices domains s' d el lp li ew tv pe ez ld tp elim_ br et) =
    sort_at E N G _ _ (sym et) (record {
      its_sort = s;
      typed = match_type_has_sort E N G id (record { arity = I.arity; parameters = place.block.parameters }) parameters indices domains s' s n v y z p
          (whole_block_has_arity E id place I d el) li ew tv (typed_has_sort E N k w tv) pe ez ld tp;
    })
typed_has_sort E N k {G = G} w (T.Typed.fixpoint {which = which} {f = f} fs es ep ef st bt g et) =
    sort_at E N G _ _ (sym et) (sorted_has_sort E N G st which (function_type f) (element_map function_type fs which f ef))
typed_has_sort E N k w (T.Typed.conversion {s = s} p q l) = record { its_sort = s; typed = q }
typed_has_sort E N k {G = G} w (T.Typed.instance {u = u} {a = a} {s = s} id A before after y b z d e p x q) =
    let h = instantiated_has_sort E N G
    (inductive_arguments_between E N G id A s y z (u ∷ after) d p x [] e no_argument (one_argument refl q))
    (closed_has_sort E N G A.arity (k.arities id A d)) in
    domain_has_sort E N G a b (sort h.its_sort) h.typed

pub derived_type_has_sort : (E : Environment) (N : Numbering) (G : Context) (t a : Tree) → WellTypedLookups E N → Derivation E N G t a → HasSort E N G a
derived_type_has_sort E N G t a k h = typed_has_sort E N k h.well_formed h.typed
