-- The worked environment is derived, declaration by declaration, at every numbering that puts u below v; what it
-- reaches and needs is read off.
use Rattle.std.proofs.Common.{◌≡◌, ◌≢◌, ℕ, ◌+◌, ◌<◌, ◌≤◌, max, true, false, Some, None, List, [], ◌∷◌, codes, refl, sym, arith, lit<, lit≤, inl, inr, true≢false}
use Rattle.cic_terms.specs.Tree.{prop, set, own, Tree, sort, prod, app, const, ctor}
use Rattle.cic_names.specs.declared.name.GlobalId.{GlobalId}
use Rattle.cic_names.specs.declared.level.LevelName.{LevelName}
use Rattle.cic_names.specs.declared.level.Part.TheVariants.{Declared}
use Rattle.cic_names.proofs.Equality.{same_level_name_decides}
use Rattle.cic_rules.specs.Numbering.{Numbering, MeetsAll, level_number, expression_number, Consistent}
use Rattle.cic_rules.specs.Environment.{Environment, Context, Constructor, transparent, opaque, inductive, declared, bare, environment_ids, constant_type, inductive_type_of, constructor_of, meaning}
use Rattle.cic_rules.specs.Environment as Env
use Rattle.cic_rules.specs.Conversion.{SortAtMost, set_at_most_set, set_at_most_universe, universes}
use Rattle.cic_rules.specs.Conversion as C
use Rattle.cic_rules.specs.Inductive.{ConstructorParts, ConstructorShape, ShapedBlock, plain_set}
use Rattle.cic_rules.specs.Nested.{NestedPositiveBlock, Positive, applied}
use Rattle.cic_rules.specs.Typing.{Typed, HasSort, of_prop, of_set, of_universe, in_universe, sorts, constant, product, inductive_type, constructor, application, conversion}
use Rattle.cic_rules.specs.Formed.{WellFormedConstructor, well_formed_conclusion, well_formed_argument, WellFormedBlock, WellFormedBody, Formed, nothing_declared, one_more, Derivable}
use Rattle.cic_rules.specs.Reach.{Reached, Reaches, at_first, onward, beside, mentioned, Needs, needed, not_needed, no_candidate}
use Rattle.cic_counted.specs.calls.Examples.{id_of, environment, nat, O, S, nat_block, universe, level, below}
use Rattle.rules_evidence.specs.Counting.{axiom_n, definition_m, definition_one, theorem_t, axiom_Q, definition_large, counting, axiom_q, definition_z}
use Rattle.rules_evidence.proofs.Membership.{distinct, not_found}
use Rattle.rules_evidence.proofs.Closure.{closed_by_declarations, reaches_within, reached_within}
use Rattle.cic_rules.specs.Telescopes.{is_among}
use Rattle.cic_metatheory.proofs.basics.Elements.{contains_first}

-- nat, O and S where the environment shows them.
nat_is_set : (E : Environment) (N : Numbering) (G : Context) → inductive_type_of E (id_of (codes "nat")) ≡ Some (record { arity = sort set; parameters = 0 }) → Typed E N G nat (sort set)
nat_is_set E N G e = inductive_type e refl

O_is_nat : (E : Environment) (N : Numbering) → constructor_of E (id_of (codes "O")) ≡ Some (record { type = nat; owner = id_of (codes "nat"); place = 0; parameters = 0 }) → Typed E N [] O nat
O_is_nat E N e = constructor e refl

S_is_function : (E : Environment) (N : Numbering) → constructor_of E (id_of (codes "S")) ≡ Some (record { type = prod nat nat; owner = id_of (codes "nat"); place = 1; parameters = 0 }) → Typed E N [] (ctor (id_of (codes "S"))) (prod nat nat)
S_is_function E N e = constructor e refl

constant_is_nat : (E : Environment) (N : Numbering) (id : GlobalId) → constant_type E id ≡ Some nat → Typed E N [] (const id) nat
constant_is_nat E N id e = constant e refl

has_set : {E : Environment} {N : Numbering} {G : Context} {t : Tree} → Typed E N G t (sort set) → HasSort E N G t
has_set h = record { its_sort = set; typed = h }

-- The block of nat.
O_parts : ConstructorParts 0 (id_of (codes "nat")) nat
O_parts = record { parameters = []; arguments = []; applied_to = []; is_type = refl; as_many = refl }

S_parts : ConstructorParts 0 (id_of (codes "nat")) (prod nat nat)
S_parts = record { parameters = []; arguments = nat ∷ []; applied_to = []; is_type = refl; as_many = refl }

O_shape : ConstructorShape [] (id_of (codes "nat")) 0 nat
unfolding O_parts
O_shape = record { parts = O_parts; indices = []; same_parameters = refl; is_applied = refl; as_many = refl }

S_shape : ConstructorShape [] (id_of (codes "nat")) 0 (prod nat nat)
unfolding S_parts
S_shape = record { parts = S_parts; indices = []; same_parameters = refl; is_applied = refl; as_many = refl }

nat_shaped : ShapedBlock nat_block
nat_shaped = record {
  domains = [];
  as_many = refl;
  types = (
    record {
      arity = record { indices = []; sort_of = set; is_arity = refl; is_plain = plain_set };
      constructors = (O_shape, (S_shape, tt));
    },
    tt,
  );
}

nat_in_nat : Positive [] (id_of (codes "nat") ∷ []) [] nat
nat_in_nat = applied (id_of (codes "nat")) [] refl (0, lit< tt, refl) tt

nat_positive : NestedPositiveBlock [] nat_block
unfolding O_parts S_parts
nat_positive = (
  (
    record { parts = O_parts; at_parameters = []; indices = []; is_applied = refl; as_many = refl; arguments_positive = tt; indices_absent = tt },
    (record { parts = S_parts; at_parameters = []; indices = []; is_applied = refl; as_many = refl; arguments_positive = (nat_in_nat, tt); indices_absent = tt }, tt),
  ),
  tt,
)

abbrev with_bare_nat : Environment
with_bare_nat = bare nat_block ∷ []

O_right : (N : Numbering) → WellFormedConstructor with_bare_nat N 0 (id_of (codes "nat")) set nat
unfolding O_parts
O_right N = record { parts = O_parts; right = well_formed_conclusion (has_set (nat_is_set with_bare_nat N [] refl)) }

S_right : (N : Numbering) → WellFormedConstructor with_bare_nat N 0 (id_of (codes "nat")) set (prod nat nat)
unfolding S_parts
S_right N = record {
  parts = S_parts;
  right = well_formed_argument {s' = set} (nat_is_set with_bare_nat N [] refl) (λ _. set_at_most_set) (well_formed_conclusion (has_set (nat_is_set with_bare_nat N _ refl)));
}

set_has_sort : (E : Environment) (N : Numbering) → HasSort E N [] (sort set)
set_has_sort E N = record { its_sort = own 0; typed = sorts (of_set refl) }

nat_right : (N : Numbering) → WellFormedBlock [] N nat_block
nat_right N = record {
  shaped = nat_shaped;
  arities = (set_has_sort [] N, tt);
  positive = nat_positive;
  types = (record { domains = []; ends_in = set; is_arity = refl; constructors = (O_right N, (S_right N, tt)) }, tt);
}

-- Type@{u} : Type@{v} where u is below v.
next_is_at_most : (a b : ℕ) → a < b → max a 0 + 1 ≤ max b 0
next_is_at_most a b h = omega arith

universe_has_sort : (E : Environment) (N : Numbering) (name : List ℕ) → HasSort E N [] (universe name)
universe_has_sort E N name = record { its_sort = own (expression_number N (record { level = level name; plus = false } ∷ [])); typed = sorts (of_universe refl refl) }

universe_in_universe : (E : Environment) (N : Numbering) → level_number N (level (codes "u")) < level_number N (level (codes "v")) → Typed E N [] (universe (codes "u")) (universe (codes "v"))
unfolding universe_has_sort
universe_in_universe E N h =
    let u_typed = universe_has_sort E N (codes "u") in
    let v_typed = universe_has_sort E N (codes "v") in
    conversion u_typed.typed v_typed.typed (C.sorts (universes refl refl (next_is_at_most (level_number N (level (codes "u"))) (level_number N (level (codes "v"))) h)))

-- The environments after each declaration.
abbrev E1 : Environment
E1 = environment (inductive nat_block ∷ [])

abbrev E2 : Environment
E2 = environment (inductive nat_block ∷ axiom_n ∷ [])

abbrev E3 : Environment
E3 = environment (inductive nat_block ∷ axiom_n ∷ definition_m ∷ [])

abbrev E4 : Environment
E4 = environment (inductive nat_block ∷ axiom_n ∷ definition_m ∷ definition_one ∷ [])

abbrev E5 : Environment
E5 = environment (inductive nat_block ∷ axiom_n ∷ definition_m ∷ definition_one ∷ theorem_t ∷ [])

abbrev E6 : Environment
E6 = environment (inductive nat_block ∷ axiom_n ∷ definition_m ∷ definition_one ∷ theorem_t ∷ axiom_Q ∷ [])

formed_1 : (N : Numbering) → Formed N E1
formed_1 N = one_more [] (inductive nat_block) nothing_declared refl (distinct (environment_ids E1) refl) (nat_right N)

formed_2 : (N : Numbering) → Formed N E2
formed_2 N = one_more E1 axiom_n (formed_1 N) refl (distinct (environment_ids E2) refl) (has_set (nat_is_set E1 N [] refl))

m_right : (N : Numbering) → WellFormedBody E2 N nat (S (const (id_of (codes "n"))))
m_right N = record {
  sorted = has_set (nat_is_set E2 N [] refl);
  typed = application (S_is_function E2 N refl) (constant_is_nat E2 N (id_of (codes "n")) refl) refl;
}

formed_3 : (N : Numbering) → Formed N E3
formed_3 N = one_more E2 definition_m (formed_2 N) refl (distinct (environment_ids E3) refl) (m_right N)

one_right : (N : Numbering) → WellFormedBody E3 N nat (S O)
one_right N = record {
  sorted = has_set (nat_is_set E3 N [] refl);
  typed = application (S_is_function E3 N refl) (O_is_nat E3 N refl) refl;
}

formed_4 : (N : Numbering) → Formed N E4
formed_4 N = one_more E3 definition_one (formed_3 N) refl (distinct (environment_ids E4) refl) (one_right N)

t_right : (N : Numbering) → WellFormedBody E4 N nat (const (id_of (codes "m")))
t_right N = record { sorted = has_set (nat_is_set E4 N [] refl); typed = constant_is_nat E4 N (id_of (codes "m")) refl }

formed_5 : (N : Numbering) → Formed N E5
formed_5 N = one_more E4 theorem_t (formed_4 N) refl (distinct (environment_ids E5) refl) (t_right N)

Q_right : (N : Numbering) → HasSort E5 N [] (prod nat (sort prop))
Q_right N =
    let nat_is_large : Typed E5 N [] nat (sort (own 0)) = conversion (nat_is_set E5 N [] refl) (sorts {s' = own 1} (of_universe refl refl)) (C.sorts (set_at_most_universe refl)) in
    record { its_sort = own 0; typed = product {s'' = own 0} nat_is_large (sorts {s' = own 0} (of_prop refl)) (in_universe refl refl refl) }

formed_6 : (N : Numbering) → Formed N E6
formed_6 N = one_more E5 axiom_Q (formed_5 N) refl (distinct (environment_ids E6) refl) (Q_right N)

large_right : (N : Numbering) → MeetsAll N (below (codes "u") (codes "v") ∷ []) → WellFormedBody E6 N (universe (codes "v")) (universe (codes "u"))
large_right N h = record { sorted = universe_has_sort E6 N (codes "v"); typed = universe_in_universe E6 N h.0 }

counting_formed : (N : Numbering) → MeetsAll N (below (codes "u") (codes "v") ∷ []) → Formed N counting
counting_formed N h = one_more E6 definition_large (formed_6 N) refl (distinct (environment_ids counting) refl) (large_right N h)

-- u has number 1 and v has number 2.
abbrev name_of : List ℕ → LevelName
name_of name = record { lib = codes "A"; owner = name; part = Declared }

names_differ : name_of (codes "v") ≢ name_of (codes "u")
names_differ e = true≢false (sym ((same_level_name_decides (name_of (codes "v")) (name_of (codes "u"))).1 e))

u_below_v : Consistent (below (codes "u") (codes "v") ∷ [])
u_below_v = record {
  numbering = record { level = name_of (codes "u"); number = 1 } ∷ record { level = name_of (codes "v"); number = 2 } ∷ [];
  is_numbering = (lit≤ tt, (names_differ, tt), (lit≤ tt, tt, tt));
  meets = (lit< tt, tt);
}

pub counting_is_derivable : Derivable counting (below (codes "u") (codes "v") ∷ [])
counting_is_derivable = record {
  consistent = u_below_v;
  with_bodies = (tt, (tt, (tt, (tt, (tt, (tt, (tt, tt)))))));
  formed = λ N n h. counting_formed N h;
}

-- What is reached.
n_from_m : {first : GlobalId} → Reaches counting first (id_of (codes "m")) → Reaches counting first (id_of (codes "n"))
n_from_m h = onward (id_of (codes "m")) h (record {
  declaration = definition_m;
  is_there = (2, lit< tt, refl);
  declares = (0, lit< tt, refl);
  leads = mentioned (S (const (id_of (codes "n")))) (1, lit< tt, refl) (inr (inr (inl (inl refl))));
})

m_reaches_n : Reaches counting (id_of (codes "m")) (id_of (codes "n"))
m_reaches_n = n_from_m (at_first refl)

pub t_reaches_n : Reaches counting (id_of (codes "t")) (id_of (codes "n"))
t_reaches_n = n_from_m (onward (id_of (codes "t")) (at_first refl) (record {
  declaration = theorem_t;
  is_there = (4, lit< tt, refl);
  declares = (0, lit< tt, refl);
  leads = mentioned (const (id_of (codes "m"))) (1, lit< tt, refl) (inl refl);
}))

one_reaches_nat : Reaches counting (id_of (codes "one")) (id_of (codes "nat"))
one_reaches_nat = onward (id_of (codes "one")) (at_first refl) (record {
  declaration = definition_one;
  is_there = (3, lit< tt, refl);
  declares = (0, lit< tt, refl);
  leads = mentioned nat (0, lit< tt, refl) (inl refl);
})

pub one_reaches_S : Reaches counting (id_of (codes "one")) (id_of (codes "S"))
one_reaches_S = onward (id_of (codes "nat")) one_reaches_nat (record {
  declaration = inductive nat_block;
  is_there = (0, lit< tt, refl);
  declares = (0, lit< tt, refl);
  leads = beside (2, lit< tt, refl);
})

abbrev nat_ids : List GlobalId
nat_ids = id_of (codes "nat") ∷ id_of (codes "O") ∷ id_of (codes "S") ∷ []

-- Nothing is reached outside of a set of ids that is closed, the first of which is `first`.
not_reached : (first id : GlobalId) (others : List GlobalId) → closed_by_declarations (first ∷ others) counting ≡ true → is_among id (first ∷ others) ≡ false → Reaches counting first id → ⊥
not_reached first id others c n h = not_found (first ∷ others) id n (reaches_within h (first ∷ others) (contains_first first first others refl) c)

pub one_does_not_reach_n : Reaches counting (id_of (codes "one")) (id_of (codes "n")) → ⊥
one_does_not_reach_n = not_reached (id_of (codes "one")) (id_of (codes "n")) nat_ids refl refl

one_does_not_reach_Q : Reaches counting (id_of (codes "one")) (id_of (codes "Q")) → ⊥
one_does_not_reach_Q = not_reached (id_of (codes "one")) (id_of (codes "Q")) nat_ids refl refl

pub n_does_not_reach_m : Reaches counting (id_of (codes "n")) (id_of (codes "m")) → ⊥
n_does_not_reach_m = not_reached (id_of (codes "n")) (id_of (codes "m")) nat_ids refl refl

nat_does_not_reach_n : Reaches counting (id_of (codes "nat")) (id_of (codes "n")) → ⊥
nat_does_not_reach_n = not_reached (id_of (codes "nat")) (id_of (codes "n")) (id_of (codes "O") ∷ id_of (codes "S") ∷ []) refl refl

nat_does_not_reach_Q : Reaches counting (id_of (codes "nat")) (id_of (codes "Q")) → ⊥
nat_does_not_reach_Q = not_reached (id_of (codes "nat")) (id_of (codes "Q")) (id_of (codes "O") ∷ id_of (codes "S") ∷ []) refl refl

m_does_not_reach_Q : Reaches counting (id_of (codes "m")) (id_of (codes "Q")) → ⊥
m_does_not_reach_Q = not_reached (id_of (codes "m")) (id_of (codes "Q")) (id_of (codes "n") ∷ nat_ids) refl refl

t_does_not_reach_Q : Reaches counting (id_of (codes "t")) (id_of (codes "Q")) → ⊥
t_does_not_reach_Q = not_reached (id_of (codes "t")) (id_of (codes "Q")) (id_of (codes "m") ∷ id_of (codes "n") ∷ nat_ids) refl refl

pub m_needs_n : Needs counting (id_of (codes "m")) (id_of (codes "n") ∷ [])
m_needs_n = needed m_reaches_n (not_needed m_does_not_reach_Q no_candidate)

pub t_needs_n : Needs counting (id_of (codes "t")) (id_of (codes "n") ∷ [])
t_needs_n = needed t_reaches_n (not_needed t_does_not_reach_Q no_candidate)

pub one_needs_none : Needs counting (id_of (codes "one")) []
one_needs_none = not_needed one_does_not_reach_n (not_needed one_does_not_reach_Q no_candidate)

pub nat_needs_none : Needs counting (id_of (codes "nat")) []
nat_needs_none = not_needed nat_does_not_reach_n (not_needed nat_does_not_reach_Q no_candidate)

-- What a check sees.
pub z_sees_n : Reached counting definition_z (id_of (codes "n"))
z_sees_n = onward (id_of (codes "m")) (at_first (mentioned (const (id_of (codes "m"))) (1, lit< tt, refl) (inl refl))) (record {
  stands_for = Env.constant nat (Some (S (const (id_of (codes "n")))));
  stands = refl;
  leads = mentioned (S (const (id_of (codes "n")))) (1, lit< tt, refl) (inr (inr (inl (inl refl))));
})

pub q_sees_nat : Reached counting axiom_q (id_of (codes "nat"))
q_sees_nat = onward (id_of (codes "t")) (at_first (mentioned (app (const (id_of (codes "Q"))) (const (id_of (codes "t")))) (0, lit< tt, refl) (inr (inr (inl (inl refl)))))) (record {
  stands_for = Env.constant nat None;
  stands = refl;
  leads = mentioned nat (0, lit< tt, refl) (inl refl);
})

pub q_sees_O : Reached counting axiom_q (id_of (codes "O"))
q_sees_O = onward (id_of (codes "nat")) q_sees_nat (record {
  stands_for = Env.whole_type nat_block 0;
  stands = refl;
  leads = beside (1, lit< tt, refl);
})

pub q_does_not_see_m : Reached counting axiom_q (id_of (codes "m")) → ⊥
q_does_not_see_m h = not_found (id_of (codes "Q") ∷ id_of (codes "t") ∷ nat_ids) (id_of (codes "m")) refl (reached_within axiom_q h (id_of (codes "Q") ∷ id_of (codes "t") ∷ nat_ids) refl refl)

pub q_does_not_see_n : Reached counting axiom_q (id_of (codes "n")) → ⊥
q_does_not_see_n h = not_found (id_of (codes "Q") ∷ id_of (codes "t") ∷ nat_ids) (id_of (codes "n")) refl (reached_within axiom_q h (id_of (codes "Q") ∷ id_of (codes "t") ∷ nat_ids) refl refl)
