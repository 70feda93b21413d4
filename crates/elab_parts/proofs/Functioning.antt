-- Names in a row, and the fix of functions that are read.
use Rattle.std.proofs.Common.{◌≡◌, ℕ, zero, suc, ◌+◌, ◌<◌, List, [], ◌∷◌, ◌++◌, map, length, take, get_or, max, Bool, true, false, refl, sym, ap, ◌∙◌, append_assoc, arith}
use Rattle.std.specs.Prelude.{Option, Some, None, if◌then◌else◌}
use Rattle.std.specs.Option.{option_map}
use Rattle.std.proofs.lemmas.List.{map-append, length-map}
use Rattle.std.proofs.lemmas.Grind.{common_steps}
use Rattle.std.specs.Option.{option_and_then}
use Rattle.cic_terms.specs.Tree.{Tree, Shape, Children, no_child, child, many, join, fix}
use Rattle.cic_terms.specs.Denotes.{tree, terms, term_list, shapes, shape_list, bodies, body_list, body_parts, domain_count}
use Rattle.cic_terms.specs.declared.term.FixBody.{FixBody}
use Rattle.cic_terms.specs.declared.term.FixBodies.{FixBodies}
use Rattle.cic_terms.proofs.Children.{join_assoc, depth_join, rels_join}
use Rattle.cic_rules.specs.Telescopes.{Function, domain_parts, function_parts, function_shapes, fixpoint}
use Rattle.cic_spines.specs.Fixes.{function_of, functions}
use Rattle.cic_spines.proofs.FixParts.{functions_are, functions_of_fix, same_trees}
use Rattle.elab_parts.specs.calls.Bindings.{KnownBinding}
use Rattle.elab_parts.specs.calls.Functions.{whole_bindings}
use Rattle.cic_terms.specs.Sizes.{depth_tree, depth_children, max_rel, max_rel_children}
use Rattle.cic_terms.specs.declared.term.Term.{Term}
use Rattle.cic_rules.specs.Environment.{or_else}
use Rattle.gal_scoping.specs.Names.{Around, has_name}
use Rattle.gal_scoping.specs.Fixpoints.{Binding, domains, last_place}

last_step : (b : Bool) (n : ℕ) (found : Option ℕ) → or_else (option_map suc (if b then Some n else found)) None ≡ (if b then Some (suc n) else option_map suc found)
last_step true n found = refl
last_step false n None = refl
last_step false n (Some m) = refl

or_else_none : {A : Type 0} (o : Option A) → or_else o None ≡ o
or_else_none None = refl
or_else_none (Some a) = refl

named_first : (b c : Bool) (n : ℕ) (found : Option ℕ) →
    or_else (option_map suc (if b then Some n else found)) (if c then Some zero else None) ≡ (if b then Some (suc n) else or_else (option_map suc found) (if c then Some zero else None))
named_first true c n found = refl
named_first false c n found = refl

pub last_more : (name : List ℕ) (xs : Around) (b : Option (List ℕ)) →
    last_place name (xs ++ b ∷ []) ≡ (if has_name name b then Some (length xs) else last_place name xs)
last_more name [] b = or_else_first (has_name name b)
  where
    or_else_first : (c : Bool) → or_else (option_map suc None) (if c then Some zero else None) ≡ (if c then Some zero else None)
    or_else_first true = refl
    or_else_first false = refl
last_more name (x ∷ xs) b =
    ap (λ o. or_else (option_map suc o) (if has_name name x then Some zero else None)) (last_more name xs b)
    ∙ named_first (has_name name b) (has_name name x) (length xs) (last_place name xs)

take_more : {A : Type 0} (xs : List A) (n : ℕ) (d : A) → n < length xs → take (n + 1) xs ≡ take n xs ++ get_or xs n d ∷ []
take_more xs n d h = grind (arith, common_steps)

taken_more : {A B : Type 0} (f : A → B) (xs : List A) (n : ℕ) (d : A) → n < length xs → map f (take (n + 1) xs) ≡ map f (take n xs) ++ f (get_or xs n d) ∷ []
taken_more f xs n d h = ap (map f) (take_more xs n d h) ∙ map-append f (take n xs) (get_or xs n d ∷ [])

length_taken : {A B : Type 0} (f : A → B) (xs : List A) (n : ℕ) → n < length xs → length (map f (take n xs)) ≡ n
length_taken f xs n h = length-map (take n xs) f ∙ grind (arith, common_steps)

pub last_found : {A : Type 0} (f : A → Option (List ℕ)) (name : List ℕ) (xs : List A) (n : ℕ) (d : A) → n < length xs → has_name name (f (get_or xs n d)) ≡ true →
    last_place name (map f (take (n + 1) xs)) ≡ Some n
last_found f name xs n d h e =
    ap (last_place name) (taken_more f xs n d h) ∙ last_more name (map f (take n xs)) (f (get_or xs n d)) ∙ rw e (ap Some (length_taken f xs n h))

pub last_passed : {A : Type 0} (f : A → Option (List ℕ)) (name : List ℕ) (xs : List A) (n : ℕ) (d : A) → n < length xs → has_name name (f (get_or xs n d)) ≡ false →
    last_place name (map f (take (n + 1) xs)) ≡ last_place name (map f (take n xs))
last_passed f name xs n d h e =
    ap (last_place name) (taken_more f xs n d h) ∙ last_more name (map f (take n xs)) (f (get_or xs n d)) ∙ rw e refl

pub terms_depth : (above : ℕ) (ts : List Term) (t : Term) → depth_children (term_list above (ts ++ t ∷ [])) ≡ max (depth_children (term_list above ts)) (depth_tree (tree t))
terms_depth above [] t = omega arith
terms_depth above (x ∷ ts) t = let e = terms_depth (above + 1) ts t in omega arith

pub terms_rels : (above : ℕ) (ts : List Term) (t : Term) → max_rel_children (term_list above (ts ++ t ∷ [])) ≡ max (max_rel_children (term_list above ts)) (max_rel (tree t))
terms_rels above [] t = omega arith
terms_rels above (x ∷ ts) t = let e = terms_rels (above + 1) ts t in omega arith

pub body_depth : (all : ℕ) (b : FixBody) → depth_children (body_parts all b) ≡ max (max (depth_children (terms b.domains)) (depth_tree (tree b.codomain))) (depth_tree (tree b.body))
body_depth all b = let e = depth_join (terms b.domains) (child (many (domain_count b)) (tree b.codomain) (child (many (all + domain_count b)) (tree b.body) no_child)) in omega (arith, e)

pub body_rels : (all : ℕ) (b : FixBody) → max_rel_children (body_parts all b) ≡ max (max (max_rel_children (terms b.domains)) (max_rel (tree b.codomain))) (max_rel (tree b.body))
body_rels all b = let e = rels_join (terms b.domains) (child (many (domain_count b)) (tree b.codomain) (child (many (all + domain_count b)) (tree b.body) no_child)) in omega (arith, e)

pub bodies_depth : (all : ℕ) (bs : List FixBody) (b : FixBody) → depth_children (body_list all (bs ++ b ∷ [])) ≡ max (depth_children (body_list all bs)) (depth_children (body_parts all b))
bodies_depth all [] b = let e = depth_join (body_parts all b) no_child in omega (arith, e)
bodies_depth all (x ∷ bs) b =
    let e = depth_join (body_parts all x) (body_list all (bs ++ b ∷ [])) in let e' = depth_join (body_parts all x) (body_list all bs) in
    omega (arith, e, e', bodies_depth all bs b)

pub bodies_rels : (all : ℕ) (bs : List FixBody) (b : FixBody) → max_rel_children (body_list all (bs ++ b ∷ [])) ≡ max (max_rel_children (body_list all bs)) (max_rel_children (body_parts all b))
bodies_rels all [] b = let e = rels_join (body_parts all b) no_child in omega (arith, e)
bodies_rels all (x ∷ bs) b =
    let e = rels_join (body_parts all x) (body_list all (bs ++ b ∷ [])) in let e' = rels_join (body_parts all x) (body_list all bs) in
    omega (arith, e, e', bodies_rels all bs b)

any_depth : (n m : ℕ) (bs : List FixBody) → depth_children (body_list n bs) ≡ depth_children (body_list m bs)
any_depth n m [] = refl
any_depth n m (b ∷ bs) =
    omega (arith, depth_join (body_parts n b) (body_list n bs), depth_join (body_parts m b) (body_list m bs), body_depth n b, body_depth m b, any_depth n m bs)

any_rels : (n m : ℕ) (bs : List FixBody) → max_rel_children (body_list n bs) ≡ max_rel_children (body_list m bs)
any_rels n m [] = refl
any_rels n m (b ∷ bs) =
    omega (arith, rels_join (body_parts n b) (body_list n bs), rels_join (body_parts m b) (body_list m bs), body_rels n b, body_rels m b, any_rels n m bs)

pub fix_depth : (which : ℕ) (ss : List Shape) (n : ℕ) (bs : List FixBody) → depth_tree (fix which ss (body_list n bs)) ≡ depth_children (body_list 0 bs) + 1
fix_depth which ss n bs = omega (arith, any_depth n 0 bs)

pub fix_rels : (which : ℕ) (ss : List Shape) (n : ℕ) (bs : List FixBody) → max_rel (fix which ss (body_list n bs)) ≡ max_rel_children (body_list 0 bs)
fix_rels which ss n bs = any_rels n 0 bs

-- the types of binders, taken one after the other
pub domains_more : (made made' : List Tree) (b : KnownBinding) (t : Tree) (ks rest : List KnownBinding) (whole : Option (List Tree)) →
    ks ≡ b ∷ rest → b.type ≡ Some t → made' ≡ made ++ t ∷ [] →
    option_map (λ r. made ++ r) (option_map domains (whole_bindings ks)) ≡ whole →
    option_map (λ r. made' ++ r) (option_map domains (whole_bindings rest)) ≡ whole
domains_more made made' b t ks rest whole at is more h =
    rw more (domains_step made b t (whole_bindings rest) ∙ sym (ap (λ o. option_map (λ r. made ++ r) (option_map domains (option_and_then (λ t. option_map (λ rest. record { name = b.name; type = t } ∷ rest) (whole_bindings rest)) o))) is)
    ∙ ap (λ ys. option_map (λ r. made ++ r) (option_map domains (whole_bindings ys))) (sym at) ∙ h)
  where
    domains_step : (made : List Tree) (b : KnownBinding) (t : Tree) (o : Option (List Binding)) →
        option_map (λ r. (made ++ t ∷ []) ++ r) (option_map domains o) ≡ option_map (λ r. made ++ r) (option_map domains (option_map (λ rest. record { name = b.name; type = t } ∷ rest) o))
    domains_step made b t None = refl
    domains_step made b t (Some bs) = ap Some (append_assoc made (t ∷ []) (domains bs))

pub domains_none : (made : List Tree) (b : KnownBinding) (ks rest : List KnownBinding) (whole : Option (List Tree)) →
    ks ≡ b ∷ rest → b.type ≡ None → option_map (λ r. made ++ r) (option_map domains (whole_bindings ks)) ≡ whole → None ≡ whole
domains_none made b ks rest whole at is h =
    sym (ap (λ o. option_map (λ r. made ++ r) (option_map domains (option_and_then (λ t. option_map (λ rest. record { name = b.name; type = t } ∷ rest) (whole_bindings rest)) o))) is)
    ∙ ap (λ ys. option_map (λ r. made ++ r) (option_map domains (whole_bindings ys))) (sym at) ∙ h

-- what the guard reads of a single function
of_some : (fs gs : List Function) → Some fs ≡ Some gs → fs ≡ gs
of_some fs gs e = cc

pub functions_read : (all : FixBodies) (bs : List FixBody) → shapes all ≡ shape_list bs → bodies all ≡ body_list (length bs) bs → functions all ≡ map function_of bs
functions_read all bs e f = of_some _ _ (sym (functions_of_fix all) ∙ functions_are bs (shapes all) (bodies all) e f)

-- the parts of functions
domain_parts_are : (above : ℕ) (ts : List Term) → domain_parts above (map tree ts) ≡ term_list above ts
domain_parts_are above [] = refl
domain_parts_are above (t ∷ ts) = ap (child (many above) (tree t)) (domain_parts_are (above + 1) ts)

parts_step : (a a' : Children) (n n' all : ℕ) (c b : Tree) (r r' : Children) → a ≡ a' → n ≡ n' → r ≡ r' →
    join a (child (many n) c (child (many (all + n)) b r)) ≡ join (join a' (child (many n') c (child (many (all + n')) b no_child))) r'
parts_step a a' n n' all c b r r' e f g = rw (e, f, g) (sym (join_assoc a' (child (many n') c (child (many (all + n')) b no_child)) r'))

parts_are : (all : ℕ) (bs : List FixBody) → function_parts all (map function_of bs) ≡ body_list all bs
parts_are all [] = refl
parts_are all (b ∷ bs) =
    parts_step _ _ _ _ all (tree b.codomain) (tree b.body) _ _ (domain_parts_are 0 b.domains.items.items) (length-map b.domains.items.items tree) (parts_are all bs)

shapes_are : (bs : List FixBody) → function_shapes (map function_of bs) ≡ shape_list bs
shapes_are [] = refl
shapes_are (b ∷ bs) = let e = length-map b.domains.items.items tree in let e' = shapes_are bs in rw (e, e') refl

pub fixpoint_of : (which : ℕ) (bs : List FixBody) → fix which (shape_list bs) (body_list (length bs) bs) ≡ fixpoint which (map function_of bs)
fixpoint_of which bs =
    let e = sym (shapes_are bs) in let e' = sym (ap (λ n. function_parts n (map function_of bs)) (length-map bs function_of) ∙ parts_are (length bs) bs) in rw (e, e') refl

pub body_made : (b : FixBody) (ts : List Term) (k : ℕ) (c t : Tree) → b.k ≡ k → terms b.domains ≡ term_list 0 ts → tree b.codomain ≡ c → tree b.body ≡ t →
    function_of b ≡ record { recursive_place = k; domains = map tree ts; codomain = c; body = t }
body_made b ts k c t e f g h = let d = same_trees b.domains.items.items ts f in rw (e, d, g, h) refl
