-- What inference, the check against a type and the sort of a type are done with is derivable: by one induction on
-- what they are done with. A type that was evaluated is inferred again before it is used, and each type that
-- inference answers has a sort; so no rule needs that evaluation keeps types.
use Rattle.std.proofs.Common.{◌≡◌, ℕ, ◌-◌, true, nat_eq, Some, List, [], ◌∷◌, length, refl, sym, ap, ◌∙◌, subst}
use Rattle.std.proofs.lemmas.Bool.{eqb-true, and_parts}
use Rattle.std.proofs.lemmas.List.{length-map}
use Rattle.cic_terms.specs.Tree.{TreeSort, over, Tree, Children, sort, case}
use Rattle.cic_terms.specs.Lift.{lift_tree}
use Rattle.cic_names.specs.declared.name.GlobalId.{GlobalId}
use Rattle.cic_rules.specs.Numbering.{Numbering, MeetsAll}
use Rattle.cic_rules.specs.Environment.{Environment, Context, TypeInBlock, TypeDeclaration, ConstructorDeclaration, whole_block, element}
use Rattle.cic_rules.specs.Telescopes.{domains_of, lift_all, Function, function_type, function_types, full_bodies, extend}
use Rattle.cic_rules.specs.Inductive.{Each}
use Rattle.cic_rules.specs.Conversion.{AtMost, convertible, identical}
use Rattle.cic_rules.specs.Typing as T
use Rattle.cic_rules.specs.Typing.{of_prop, of_set, Typed, Branches, no_branch, Eliminated, without_constructor, of_propositions, Propositions, no_proposition, one_proposition, AllSorted, none_sorted, more_sorted, AllTyped, none_typed, more_typed, function_entries, HasSort, WellFormedContext}
use Rattle.cic_counted.specs.Inference.{are_branches}
use Rattle.cic_counted.specs.calls.Done.{Cost, ◌then◌}
use Rattle.cic_counted.specs.calls.DoneTyping.{Infers, infers, Checks, checks, SortOf, sorts_of, Exposes, exposes_itself, exposes_another, HasInferred, infers_variable, infers_prop, infers_set, infers_universe, infers_product, infers_abstraction, infers_let, infers_application, infers_constant, infers_type, infers_constructor, infers_match, infers_fix, Eliminates, eliminates_freely, eliminates_nothing, eliminates_propositions, AllPropositions, no_more, proposition, ChecksBranches, no_branch_left, checks_branch, SortsEach, sorts_none, sorts_one_more, ChecksBodies, no_body_left, checks_body}
use Rattle.cic_counted.proofs.Decided.{same_tree-is}
use Rattle.cic_metatheory.specs.WellTypedLookups.{WellTypedLookups, ConstructorShown}
use Rattle.cic_soundness.proofs.evaluations.Readings.{read_off}
use Rattle.cic_soundness.proofs.evaluations.Steps.{evaluates_steps_to}
use Rattle.cic_soundness.proofs.evaluations.Sorts.{meets_append, met_along}
use Rattle.cic_soundness.proofs.evaluations.Conversion.{at_most_left, cumulated_is_at_most}
use Rattle.cic_metatheory.proofs.typings.Typing.{propositions_at}
use Rattle.cic_metatheory.proofs.typings.ProductParts.{domain_has_sort}
use Rattle.cic_metatheory.proofs.typings.Instances.{typed_at_type, assumed_well_formed}
use Rattle.cic_soundness.proofs.inferences.Sorts.{next_is_above, typed_by_reached_sort, product_of_inferred_sorts}
use Rattle.cic_metatheory.proofs.typings.Functions.{Raises, functions_well_formed}
use Rattle.cic_soundness.proofs.inferences.Elimination.{sort_is_prop, eliminated_freely, opened_constructor}
use Rattle.cic_soundness.proofs.fixpoints.Parts.{passed_fix_is_guarded}
use Rattle.cic_metatheory.proofs.typings.Validity.{typed_has_sort, defined_well_formed}
use Rattle.cic_metatheory.proofs.environments.ClosedLookups.{closed_bodies}
use Rattle.cic_soundness.proofs.matches.Contexts.{closed_type, motive_context_well_formed}
use Rattle.cic_soundness.proofs.matches.BranchGoals.{BranchLaws, branch_laws, match_by_rule, value_type_read, matched_type_read}
use Rattle.cic_metatheory.proofs.typings.ProductSorts.{product_has_sort}

declared_type : (E : Environment) (N : Numbering) (G : Context) (t : Tree) → HasSort E N [] t → t ≡ lift_tree 0 (length G) t
declared_type E N G t h = sym (closed_type E N t (length G) h)

pub only_element : {A : Type 0} (P : A → Type 0) (xs : List A) (x : A) → xs ≡ x ∷ [] → Each P xs → P x
only_element P xs x e h = (subst (Each P) e h).0

module _ (E : Environment) (N : Numbering) (right : WellTypedLookups E N) where
  -- The types of the functions of a Fix, lifted under all of them
  abbrev TypesHaveSorts : Context → (all : ℕ) → List Function → Type 0
  TypesHaveSorts G all [] = Unit {0}
  TypesHaveSorts G all (f ∷ fs) = HasSort E N G (lift_tree 0 all (function_type f)) × TypesHaveSorts G all fs

  lifted_types_have_sorts : (G D : Context) (all : ℕ) (fs : List Function) → Raises E N G all D → AllSorted E N G (function_types fs) → TypesHaveSorts D all fs
  lifted_types_have_sorts G D all [] h p = tt
  lifted_types_have_sorts G D all (f ∷ fs) h (more_sorted {s = s} p q) =
      (h (function_type f) (record { its_sort = s; typed = p }), lifted_types_have_sorts G D all fs h q)

  match_at : (G : Context) (id : GlobalId) (n i : ℕ) (p v a b : Tree) (branches : Children) → n ≡ i → a ≡ b → Typed E N G (case id i p v branches) b → Typed E N G (case id n p v branches) a
  match_at G id n i p v a b branches e f h = rw (e, f) h

  both_met : {k : Cost} (c d : Cost) → k ≡ (c then d) → MeetsAll N k.found → MeetsAll N c.found × MeetsAll N d.found
  both_met c d e m = meets_append N c.found d.found (met_along N e m)

  mutual
    pub infers_typed : {G : Context} {t a : Tree} {c : Cost} → Infers E G t a c → WellFormedContext E N G → MeetsAll N c.found → Typed E N G t a
    infers_typed (infers h kq) w m = inferred_typed h w (met_along N kq m)

    pub sort_of_typed : {G : Context} {t : Tree} {s : TreeSort} {c : Cost} → SortOf E G t s c → WellFormedContext E N G → MeetsAll N c.found → Typed E N G t (sort s)
    sort_of_typed (sorts_of {G = G} {T = t} {S = S} {s = s} {c = c} {d = d} h v kq) w m =
        let n = both_met c d refl (met_along N kq m) in
        typed_by_reached_sort E N G t S s (infers_typed h w n.0) (evaluates_steps_to E (closed_bodies E N right) G v)

    pub checks_typed : {G : Context} {t a : Tree} {c : Cost} → Checks E G t a c → WellFormedContext E N G → MeetsAll N c.found → HasSort E N G a → Typed E N G t a
    checks_typed (checks {c = c} {d = d} h u kq) w m k =
        let n = both_met c d refl (met_along N kq m) in
        T.Typed.conversion (infers_typed h w n.0) k.typed (cumulated_is_at_most E (closed_bodies E N right) N u n.1)

    exposes_type : {G : Context} {a v : Tree} {c : Cost} → Exposes E G a v c → WellFormedContext E N G → MeetsAll N c.found → HasSort E N G a → HasSort E N G v × AtMost E N G a v
    exposes_type (exposes_itself {G = G} {T = a} {V = v} h q) w m k =
        let e = same_tree-is v a q in
        (subst (HasSort E N G) (sym e) k, convertible (identical (sym e)))
    exposes_type (exposes_another {G = G} {V = v} {s = s} {c = c} {d = d} h q h' kq) w m k =
        let n = both_met c d kq m in (
          record { its_sort = s; typed = sort_of_typed h' w n.1 },
          at_most_left E N G (evaluates_steps_to E (closed_bodies E N right) G h) (convertible (identical refl)),
        )

    inferred_typed : {G : Context} {t a : Tree} {c : Cost} → HasInferred E G t a c → WellFormedContext E N G → MeetsAll N c.found → Typed E N G t a
    inferred_typed (infers_variable p e q) w m = T.Typed.variable p e
    inferred_typed (infers_prop {G = G} e) w m = typed_at_type E N G _ _ _ (sym e) (T.Typed.sorts (of_prop refl))
    inferred_typed (infers_set {G = G} e) w m = typed_at_type E N G _ _ _ (sym e) (T.Typed.sorts (of_set refl))
    inferred_typed (infers_universe {G = G} {e = l} {l = u} q e) w m = typed_at_type E N G _ _ _ (sym e) (T.Typed.sorts (next_is_above N l u q))
    inferred_typed (infers_product {G = G} {a = a} {b = b} {s = s} {s' = s'} {r = r} {c = c} {d = d} h h' is e kq) w m =
        let n = both_met c d kq m in
        let p = sort_of_typed h w n.0 in
        let q = sort_of_typed h' (assumed_well_formed E N G a (record { its_sort = s; typed = p }) w) n.1 in
        typed_at_type E N G _ _ _ (sym e) (product_of_inferred_sorts E N G a b s s' r is p q)
    inferred_typed (infers_abstraction {G = G} {a = a} {b = b} {s = s} {c = c} {d = d} h h' e kq) w m =
        let n = both_met c d kq m in
        let p : HasSort E N G a = record { its_sort = s; typed = sort_of_typed h w n.0 } in
        let inner = assumed_well_formed E N G a p w in
        let q = infers_typed h' inner n.1 in
        let k = product_has_sort E N G a b p (typed_has_sort E N right inner q) in
        typed_at_type E N G _ _ _ (sym e) (T.Typed.abstraction k.typed q)
    inferred_typed (infers_let {G = G} {t = t} {a = a} {s = s} {c = c} {d = d} {e = f} h h' h'' e q kq) w m =
        let n = both_met (c then d) f kq m in
        let n' = both_met c d refl n.0 in
        let k : HasSort E N G a = record { its_sort = s; typed = sort_of_typed h w n'.0 } in
        let p = checks_typed h' w n'.1 k in
        T.Typed.local_definition k.typed p (infers_typed h'' (defined_well_formed E N G t a k p w) n.1) e
    inferred_typed (infers_application {G = G} {a = a} {b = b} {c = c} {d = d} {e = f} h x h' e q kq) w m =
        let n = both_met (c then d) f kq m in
        let n' = both_met c d refl n.0 in
        let p = infers_typed h w n'.0 in
        let v = exposes_type x w n'.1 (typed_has_sort E N right w p) in
        let k = domain_has_sort E N G a b (sort v.0.its_sort) v.0.typed in
        T.Typed.application (T.Typed.conversion p v.0.typed v.1) (checks_typed h' w n.1 k) e
    inferred_typed (infers_constant {G = G} {id = id} {T = a} p) w m = T.Typed.constant p (declared_type E N G a (right.constants id a p))
    inferred_typed (infers_type {G = G} {id = id} {a = A} p e) w m = T.Typed.inductive_type p (e ∙ declared_type E N G A.arity (right.arities id A p))
    inferred_typed (infers_constructor {G = G} {id = id} {K = C} p e) w m = T.Typed.constructor p (e ∙ declared_type E N G C.type (right.constructors id C p))
    inferred_typed (infers_match {G = G} {id = id} {n = n} {p = p} {v = v} {V = V} {T = a} {branches = branches} {place = place} {t = t} {s = s} {c = c} {d = d} {e = e} {f = f} {g = g}
        r i parameters found shaped at er ei h x q l ep en eb small small' h' el br ea q' kq) w m =
        let m1 = both_met (c then d then e then f) g kq m in
        let m2 = both_met (c then d then e) f refl m1.0 in
        let m3 = both_met (c then d) e refl m2.0 in
        let m4 = both_met c d refl m3.0 in
        let tv = infers_typed h w m4.0 in
        let y = exposes_type x w m4.1 (typed_has_sort E N right w tv) in
        let matched = matched_type_read E N id place t r i V parameters ep found at er ei q l y.0 in
        let motive = sort_of_typed h' (motive_context_well_formed E N right matched w) m3.1 in
        let eliminated = subst (λ z. Eliminated E N z t s) er (eliminates_right el id place found at er m2.1) in
        let laws = branch_laws E N right r (matched.all_parameters ∙ sym er) matched w p s motive in
        match_at G id n i p v a _ branches en ea
        (match_by_rule E N right matched v V p _ branches s (value_type_read id r V parameters ep q) (T.Typed.conversion tv y.0.typed y.1) motive eliminated
        (branches_typed br id r laws eb m1.1) refl)
    inferred_typed (infers_fix {G = G} {c = c} {d = d} fs q at h small h' guard e kq) w m =
        let n = both_met c d kq m in
        let r = read_off _ _ fs q in
        let sorted = each_sorted h w n.0 in
        let inner = functions_well_formed E N G sorted w in
        let raises : Raises E N G (length fs) (function_entries 0 G (function_types fs)) =
        subst (λ z. Raises E N G z (function_entries 0 G (function_types fs))) (length-map fs function_type) inner.1 in
        let bodies = bodies_typed h' inner.0 n.1 (lifted_types_have_sorts G _ (length fs) fs raises sorted) in
        T.Typed.fixpoint fs r.shapes_are r.parts_are at sorted bodies (passed_fix_is_guarded E N _ fs _ bodies guard) e

    each_sorted : {G : Context} {ts : List Tree} {c : Cost} → SortsEach E G ts c → WellFormedContext E N G → MeetsAll N c.found → AllSorted E N G ts
    each_sorted sorts_none w m = none_sorted
    each_sorted (sorts_one_more {c = c} {d = d} h r kq) w m =
        let n = both_met c d kq m in
        more_sorted (sort_of_typed h w n.0) (each_sorted r w n.1)

    bodies_typed : {G : Context} {all : ℕ} {fs : List Function} {c : Cost} → ChecksBodies E G all fs c → WellFormedContext E N G → MeetsAll N c.found → TypesHaveSorts G all fs →
        AllTyped E N G (full_bodies all fs) (lift_all all (function_types fs))
    bodies_typed no_body_left w m k = none_typed
    bodies_typed (checks_body {c = c} {d = d} small small' h r kq) w m k =
        let n = both_met c d kq m in
        more_typed (checks_typed h w n.0 k.0) (bodies_typed r w n.1 k.1)

    propositions_typed : {G : Context} {as_ : List Tree} {c : Cost} → AllPropositions E G as_ c → WellFormedContext E N G → MeetsAll N c.found → Propositions E N G as_
    propositions_typed no_more w m = no_proposition
    propositions_typed (proposition {G = G} {a = a} {s = s} {c = c} {d = d} h q r kq) w m =
        let n = both_met c d kq m in
        let p = sort_of_typed h w n.0 in
        one_proposition (typed_at_type E N G a _ _ (ap (λ z. sort z) (sort_is_prop s q)) p)
        (propositions_typed r (assumed_well_formed E N G a (record { its_sort = s; typed = p }) w) n.1)

    eliminates_right : {r : ℕ} {t : TypeDeclaration} {s : TreeSort} {c : Cost} → Eliminates E r t s c → (id : GlobalId) (place : TypeInBlock) → whole_block E id ≡ Some place → element place.block.types place.index ≡ Some t →
        r ≡ place.block.parameters → MeetsAll N c.found → Eliminated E N r t s
    eliminates_right (eliminates_freely {r = r} {t = t} {s = s} q) id place found at er m =
        let shown = right.types id place t found at in
        eliminated_freely E N r t s shown.domains shown.arity q
    eliminates_right (eliminates_nothing q e) id place found at er m = without_constructor e
    eliminates_right (eliminates_propositions {r = r} {t = t} {s = s} c q e h) id place found at er m =
        let shown = right.types id place t found at in
        let k = only_element (ConstructorShown E N shown.domains t.id (length shown.arity.indices)) t.constructors c e shown.constructors in
        let opened = opened_constructor E N r (length shown.arity.indices) t.id c shown.domains k.shape (shown.as_many ∙ sym er) k.sorted in
        of_propositions c opened.parts e
        (propositions_at E N _ _ _ _ (ap (extend []) opened.parameters) opened.arguments
        (propositions_typed h (subst (λ ds. WellFormedContext E N (extend [] ds)) (sym opened.parameters) opened.well_formed) m))

    branches_typed : {G : Context} {a : ℕ} {parameters : List Tree} {p : Tree} {cs : List ConstructorDeclaration} {ks : Children} {c : Cost} → ChecksBranches E G a parameters p cs ks c → (id : GlobalId) (r : ℕ) →
        Each (BranchLaws E N G id r a parameters p) cs → are_branches r cs ks ≡ true → MeetsAll N c.found → Branches E N G id parameters a p cs ks
    branches_typed no_branch_left id r laws q m = no_branch
    branches_typed (checks_branch {G = G} {parameters = parameters} {constructor = k} {rest = rest} {b = b} {ks = ks} {c = c} {d = d} small small' h br kq) id r laws q m =
        let n = both_met c d kq m in
        let q' = and_parts (nat_eq (over b 0) (length (domains_of k.type) - r)) (are_branches r rest ks) q in
        laws.0.rule b _ rest ks (eqb-true (over b 0) (length (domains_of k.type) - r) q'.0)
        (checks_typed h laws.0.context n.0 laws.0.goal) (branches_typed br id r laws.1 q'.1 n.1)
