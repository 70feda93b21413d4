-- The term that a written term stands for, or its first fault in the order of the source (Coq Reference Manual, "Terms").
use Rattle.std.specs.Prelude.{ℕ, ◌+◌, List, [], ◌∷◌, ◌++◌, reverse, Option, Some, None, Ok}
use Rattle.cic_terms.specs.Tree as T
use Rattle.cic_terms.specs.Tree.{Tree}
use Rattle.cic_rules.specs.Telescopes.{products, abstractions}
use Rattle.gal_grammar.specs.Terms.{Raw, prop, set, type_any, type_at, ref, app, arrow, prod, func, let_in, fix_of, match_of, Groups, no_groups, group, Functions, no_functions, function, Branches, no_branches, branch}
use Rattle.gal_scoping.specs.Readings.{Reading, after, with_part, with_parts}
use Rattle.gal_scoping.specs.Names.{Around, Place, meant, meant_tree, text_of}
use Rattle.gal_scoping.specs.Levels.{Owner, anonymous, at_level, level_named, types_in, types_in_groups, types_in_functions, types_in_branches}
use Rattle.gal_scoping.specs.Fixpoints.{Binding, domains, inside, bindings_from, struct_place, function_names, function_meant, ReadFunction, fix_read}
use Rattle.gal_scoping.specs.Matches.{MatchedType, matched_type, value_name, around_motive, type_and_motive, ReadBranch, pattern_read, around_branch, with_branch, case_of}

module _ (place : Place) (owner : Owner) where
  -- `first` is the number that the first `Type` without a level takes; each further one takes the next.
  abbrev mutual
    pub term : (around : Around) → (first : ℕ) → Raw → Reading Tree
    term around first prop = Ok (T.sort T.prop)
    term around first set = Ok (T.sort T.set)
    term around first type_any = Ok (at_level (anonymous place.scope.library owner first))
    term around first (type_at x) = with_part at_level (level_named place.scope x)
    term around first (ref x) = with_part (meant_tree place) (meant place around x)
    term around first (app f u) =
        with_parts (λ f u. T.app f u) (term around first f) (term around (first + types_in f) u)
    term around first (arrow a b) =
        with_parts (λ a b. T.prod a b) (term around first a) (term (None ∷ around) (first + types_in a) b)
    term around first (prod gs b) =
        after (bindings around first gs) (λ bs.
        with_part (products (domains bs)) (term (inside bs around) (first + types_in_groups gs) b))
    term around first (func gs b) =
        after (bindings around first gs) (λ bs.
        with_part (abstractions (domains bs)) (term (inside bs around) (first + types_in_groups gs) b))
    term around first (let_in x gs a t u) =
        after (bindings around first gs) (λ bs.
        after (term (inside bs around) (first + types_in_groups gs) a) (λ a'.
        with_parts (λ t u. T.let_in (abstractions (domains bs) t) (products (domains bs) a') u)
        (term (inside bs around) (first + types_in_groups gs + types_in a) t)
        (term (Some (text_of x) ∷ around) (first + types_in_groups gs + types_in a + types_in t) u)))
    term around first (fix_of fs x) =
        after (functions (function_names fs) around first fs) (λ read.
        with_part (fix_read place.environment read) (function_meant x (function_names fs)))
    term around first (match_of v x i m bs) =
        let type = matched_type place around i bs in
        after (term around first v) (λ value.
        type_and_motive i type
        (term (around_motive around type (value_name v x)) (first + types_in v) m)
        (λ type motive.
        after (branches around (first + types_in v + types_in m) type bs) (case_of type value motive)))

    -- The binders of groups, each of which sees those before it.
    pub bindings : (around : Around) → (first : ℕ) → Groups → Reading (List Binding)
    bindings around first no_groups = Ok []
    bindings around first (group gs xs a) =
        after (bindings around first gs) (λ bs.
        with_part (λ type. bs ++ bindings_from 0 xs type) (term (inside bs around) (first + types_in_groups gs) a))

    -- Functions with these names, which their bodies see.
    pub functions : (names : List (Option (List ℕ))) → (around : Around) → (first : ℕ) → Functions → Reading (List ReadFunction)
    functions names around first no_functions = Ok []
    functions names around first (function fs f gs s a t) =
        after (functions names around first fs) (λ done.
        after (bindings around (first + types_in_functions fs) gs) (λ bs.
        after (struct_place s bs) (λ struct.
        with_parts (λ codomain body. done ++ (record { struct = struct; bindings = bs; codomain = codomain; body = body } ∷ []))
        (term (inside bs around) (first + types_in_functions fs + types_in_groups gs) a)
        (term (inside bs (reverse names ++ around)) (first + types_in_functions fs + types_in_groups gs + types_in a) t))))

    pub branches : (around : Around) → (first : ℕ) → MatchedType → Branches → Reading (List ReadBranch)
    branches around first type no_branches = Ok []
    branches around first type (branch bs c xs t) =
        after (branches around first type bs) (λ done.
        after (pattern_read place around type done c xs) (λ p.
        with_part (with_branch done p) (term (around_branch around p) (first + types_in_branches bs) t)))
