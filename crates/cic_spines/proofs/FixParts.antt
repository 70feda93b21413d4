-- The functions of a Fix of the program are those that its parts are made of, and one walk over a body
-- unfolds it.
use Rattle.std.proofs.Common.{◌≡◌, ℕ, zero, suc, ◌+◌, ◌-◌, ◌<◌, ◌≤◌, ◌⊎◌, inl, inr, Some, None, List, [], ◌∷◌, ◌++◌, length, map, take, get_or, refl, sym, ap, ap₂, ◌∙◌, arith, append_assoc, Err, Bool, true, false, nat_eq, option_and_then, if◌then◌else◌, Option, option_map}
use Rattle.std.proofs.lemmas.Bool.Decides.{nat_tests}
use Rattle.std.proofs.lemmas.Bool.{cases_lt}
use Rattle.std.proofs.lemmas.List.{length-map, map_more, map_push}
use Rattle.cic_terms.specs.declared.term.Term.{Term}
use Rattle.cic_terms.specs.declared.term.FixBody.{FixBody}
use Rattle.cic_terms.specs.Tree.{Shape, Tree, rel, node, Children, no_child, child, many, over, join, lam, fix}
use Rattle.cic_terms.specs.Lift.{lift_tree, lift_children}
use Rattle.cic_terms.specs.calls.Walk.{map_tree, map_children}
use Rattle.cic_terms.specs.Sizes.{Fits}
use Rattle.cic_terms.specs.declared.term.FixBodies.{FixBodies, out-FixBodies}
use Rattle.cic_terms.proofs.Rows.{bodies_are as fix_bodies, shapes_are as fix_shapes}
use Rattle.cic_terms.specs.Denotes.{tree, shapes, bodies, terms, term_list, body_list, shape_list}
use Rattle.cic_terms.proofs.Children.{join_assoc}
use Rattle.cic_terms.proofs.Limits.{depth_pos}
use Rattle.cic_rules.specs.Environment.{element}
use Rattle.cic_rules.specs.Telescopes.{Function, domain_parts, function_parts, function_shapes, each_fixpoint, lift_domains, abstractions, full_body, unfolded}
use Rattle.cic_counted.specs.Readings.{trees_of, functions_of}
use Rattle.cic_counted.specs.Evaluation.{unfolds, unfolded_at}
use Rattle.cic_counted.proofs.Functions.{functions_of-parts}
use Rattle.cic_metatheory.proofs.substitutions.LiftAndSubst.{lift_adds}
use Rattle.cic_metatheory.proofs.substitutions.Composition.{rename_identity}
use Rattle.std.specs.declared.rc.Rc.{Rc}
use Rattle.std.specs.declared.alloc.Global.{Global}
use Rattle.cic_terms.specs.declared.term.TermFault.{TermFault}
use Rattle.cic_terms.specs.declared.term.TermFault.TheVariants.{Deep}
use Rattle.cic_terms.specs.calls.Answer.{MakesShared}
use Rattle.cic_spines.specs.Lists.{shared_tree, shared_trees}
use Rattle.cic_spines.specs.calls.Several.{several}
use Rattle.cic_spines.specs.Fixes.{unfolding_of, function_of, functions}
use Rattle.cic_spines.specs.calls.Unfoldings.{each_fix, body_with, full_body_with}
use Rattle.cic_spines.proofs.Together.{put_in_at_once}

-- The parts of functions
domain_parts_are : (above : ℕ) (ts : List Term) → domain_parts above (map tree ts) ≡ term_list above ts
domain_parts_are above [] = refl
domain_parts_are above (t ∷ ts) = ap (child (many above) (tree t)) (domain_parts_are (above + 1) ts)

parts_step : (a a' : Children) (n n' all : ℕ) (c b : Tree) (r r' : Children) → a ≡ a' → n ≡ n' → r ≡ r' →
    join a (child (many n) c (child (many (all + n)) b r)) ≡ join (join a' (child (many n') c (child (many (all + n')) b no_child))) r'
parts_step a a' n n' all c b r r' e f g = rw (e, f, g) (sym (join_assoc a' (child (many n') c (child (many (all + n')) b no_child)) r'))

parts_are : (all : ℕ) (bs : List FixBody) → function_parts all (map function_of bs) ≡ body_list all bs
parts_are all [] = refl
parts_are all (b ∷ bs) =
    parts_step _ _ _ _ all (tree b.codomain) (tree b.body) _ _ (domain_parts_are 0 b.domains.items.items)
    (length-map b.domains.items.items tree) (parts_are all bs)

abbrev shape_of : ℕ → ℕ → Shape
shape_of k n = record { k = k; domains = n }

shapes_are : (bs : List FixBody) → function_shapes (map function_of bs) ≡ shape_list bs
shapes_are [] = refl
shapes_are (b ∷ bs) = ap₂ ◌∷◌ (ap (shape_of b.k) (length-map b.domains.items.items tree)) (shapes_are bs)

all_parts_are : (bs : List FixBody) → function_parts (length (map function_of bs)) (map function_of bs) ≡ body_list (length bs) bs
all_parts_are bs = ap (λ n. function_parts n (map function_of bs)) (length-map bs function_of) ∙ parts_are (length bs) bs

pub functions_are : (bs : List FixBody) (ss : List Shape) (ks : Children) → ss ≡ shape_list bs → ks ≡ body_list (length bs) bs →
    functions_of ss ks ≡ Some (map function_of bs)
functions_are bs ss ks e f =
    ap₂ functions_of (e ∙ sym (shapes_are bs)) (f ∙ sym (all_parts_are bs)) ∙ functions_of-parts (map function_of bs)

pub functions_of_fix : (all : FixBodies) → functions_of (shapes all) (bodies all) ≡ Some (functions all)
functions_of_fix all =
    let bs : List FixBody = (out-FixBodies all).items.items in
    functions_are bs (shapes all) (bodies all) (sym (fix_shapes all bs refl)) (sym (fix_bodies all bs (length bs) refl refl))

fixes_are : (fs : List Function) (ss : List Shape) (ks : Children) (count which : ℕ) → function_shapes fs ≡ ss → function_parts (length fs) fs ≡ ks →
    each_fixpoint count which fs ≡ each_fix count which ss ks
fixes_are fs ss ks zero which e f = refl
fixes_are fs ss ks (suc count) which e f = ap₂ ◌∷◌ (ap₂ (fix which) e f) (fixes_are fs ss ks count (which + 1) e f)

length_shapes : (bs : List FixBody) → length (shape_list bs) ≡ length bs
length_shapes [] = refl
length_shapes (b ∷ bs) = ap suc (length_shapes bs)

length_fixpoints : (count which : ℕ) (fs : List Function) → length (each_fixpoint count which fs) ≡ count
length_fixpoints zero which fs = refl
length_fixpoints (suc count) which fs = ap suc (length_fixpoints count (which + 1) fs)

-- A term that is lifted past the binders has none of their variables.
unchanged_rel : (us : List Tree) (at n : ℕ) → map_tree (several us) at (lift_tree at (length us) (rel n)) ≡ rel n
unchanged_rel us at n = go (cases_lt n at)
  where
    go : (n < at) ⊎ (at ≤ n) → map_tree (several us) at (lift_tree at (length us) (rel n)) ≡ rel n
    go (inl lt) = grind (arith, nat_tests)
    go (inr le) = grind (arith, nat_tests)

mutual
  unchanged : (us : List Tree) (at : ℕ) (t : Tree) → map_tree (several us) at (lift_tree at (length us) t) ≡ t
  unchanged us at (rel n) = unchanged_rel us at n
  unchanged us at (node f ks) = ap (node f) (unchanged_children us at ks)

  unchanged_children : (us : List Tree) (at : ℕ) (ks : Children) → map_children (several us) at (lift_children at (length us) ks) ≡ ks
  unchanged_children us at no_child = refl
  unchanged_children us at (child b t ks) = ap₂ (child b) (unchanged us (over b at) t) (unchanged_children us at ks)

under_domains : (us as_ : List Tree) (at place : ℕ) (t : Tree) → place ≡ at + length as_ →
    map_tree (several us) at (abstractions (lift_domains at (length us) as_) t) ≡ abstractions as_ (map_tree (several us) place t)
under_domains us [] at place t e = ap (λ k. map_tree (several us) k t) (omega arith)
under_domains us (a ∷ as_) at place t e =
    ap₂ lam (unchanged us at a) (under_domains us as_ (at + 1) place t (omega arith))

unfolded_at_once : (fs : List Function) (f : Function) → unfolded fs f ≡ abstractions f.domains (map_tree (several (each_fixpoint (length fs) 0 fs)) (length f.domains) f.body)
unfolded_at_once fs f =
    let us : List Tree = each_fixpoint (length fs) 0 fs in
    let n : length us ≡ length fs = length_fixpoints (length fs) 0 fs in
    sym (put_in_at_once us (full_body (length fs) f))
    ∙ ap (λ k. map_tree (several us) 0 (full_body k f)) (sym n)
    ∙ under_domains us f.domains 0 (length f.domains) f.body (omega arith)

element_is : (bs : List FixBody) (i : ℕ) (d : FixBody) → i < length bs → element (map function_of bs) i ≡ Some (function_of (get_or bs i d))
element_is [] i d h = absurd (omega arith)
element_is (b ∷ bs) zero d h = refl
element_is (b ∷ bs) (suc i) d h = element_is bs i d (omega arith)

no_element : (bs : List FixBody) (i : ℕ) → length bs ≤ i → element (map function_of bs) i ≡ None
no_element [] i h = grind arith
no_element (b ∷ bs) zero h = absurd (omega arith)
no_element (b ∷ bs) (suc i) h = no_element bs i (omega arith)

one_unfolded : (bs : List FixBody) (b : FixBody) (ss : List Shape) (ks : Children) → ss ≡ shape_list bs → ks ≡ body_list (length bs) bs →
    unfolded (map function_of bs) (function_of b) ≡ full_body_with (each_fix (length ss) 0 ss ks) b
one_unfolded bs b ss ks e f =
    let fs : List Function = map function_of bs in
    let n : length fs ≡ length ss = length-map bs function_of ∙ sym (length_shapes bs) ∙ ap length (sym e) in
    let us : each_fixpoint (length fs) 0 fs ≡ each_fix (length ss) 0 ss ks =
    fixes_are fs ss ks (length fs) 0 (shapes_are bs ∙ sym e) (all_parts_are bs ∙ sym f) ∙ ap (λ k. each_fix k 0 ss ks) n in
    unfolded_at_once fs (function_of b)
    ∙ ap (λ z. abstractions (map tree b.domains.items.items) (map_tree (several z) (length (map tree b.domains.items.items)) (tree b.body))) us
    ∙ ap (λ k. abstractions (map tree b.domains.items.items) (map_tree (several (each_fix (length ss) 0 ss ks)) k (tree b.body))) (length-map b.domains.items.items tree)

pub unfolds_to : (bs : List FixBody) (i : ℕ) (d : FixBody) (ss : List Shape) (ks : Children) → ss ≡ shape_list bs → ks ≡ body_list (length bs) bs → i < length bs →
    unfolding_of i ss ks ≡ Some (full_body_with (each_fix (length ss) 0 ss ks) (get_or bs i d))
unfolds_to bs i d ss ks e f h =
    rw (functions_are bs ss ks e f, element_is bs i d h) (ap Some (one_unfolded bs (get_or bs i d) ss ks e f))

pub no_unfolding : (bs : List FixBody) (i : ℕ) (ss : List Shape) (ks : Children) → ss ≡ shape_list bs → ks ≡ body_list (length bs) bs → length bs ≤ i →
    unfolding_of i ss ks ≡ None
no_unfolding bs i ss ks e f h = rw (functions_are bs ss ks e f, no_element bs i h) refl

-- What a loop over the functions makes.
pub fixes_begin : (found : List (Rc Term Global)) (count : ℕ) (bs : List FixBody) (ss : List Shape) (ks : Children) → found ≡ [] → ss ≡ shape_list bs → count ≡ length bs →
    shared_trees found ++ each_fix (count - 0) 0 ss ks ≡ each_fix (length ss) 0 ss ks
fixes_begin found count bs ss ks e f g =
    let n : count - 0 ≡ length ss = omega (arith, g, length_shapes bs, ap length f) in
    rw e (ap (λ k. each_fix k 0 ss ks) n)

pub fixes_more : (found found' : List (Rc Term Global)) (r : Rc Term Global) (count i : ℕ) (ss : List Shape) (ks : Children) (all : List Tree) →
    found' ≡ found ++ r ∷ [] → shared_tree r ≡ fix i ss ks → i < count → shared_trees found ++ each_fix (count - i) i ss ks ≡ all →
    shared_trees found' ++ each_fix (count - (i + 1)) (i + 1) ss ks ≡ all
fixes_more found found' r count i ss ks all e f h inv =
    let more : count - i ≡ suc (count - (i + 1)) = omega arith in
    let rest : List Tree = each_fix (count - (i + 1)) (i + 1) ss ks in
    ap (λ l. shared_trees l ++ rest) e
    ∙ ap (λ l. l ++ rest) (map_push shared_tree found r)
    ∙ append_assoc (shared_trees found) (shared_tree r ∷ []) rest
    ∙ ap (λ t. shared_trees found ++ t ∷ rest) f
    ∙ ap (λ k. shared_trees found ++ each_fix k i ss ks) (sym more)
    ∙ inv

-- Abstractions, the innermost first
abstractions_last : (as_ : List Tree) (a t : Tree) → abstractions (as_ ++ a ∷ []) t ≡ abstractions as_ (lam a t)
abstractions_last [] a t = refl
abstractions_last (b ∷ as_) a t = ap (lam b) (abstractions_last as_ a t)

one_abstraction_more : (ds : List Term) (i : ℕ) (d : Term) (t : Tree) → i < length ds →
    abstractions (map tree (take i ds)) (lam (tree (get_or ds i d)) t) ≡ abstractions (map tree (take (i + 1) ds)) t
one_abstraction_more ds i d t h =
    sym (ap (λ l. abstractions l t) (map_more tree ds i d h) ∙ abstractions_last (map tree (take i ds)) (tree (get_or ds i d)) t)

pub abstracted_more : (ds : List Term) (i n : ℕ) (d : Term) (t t' whole : Tree) → d ≡ get_or ds n d → n + 1 ≡ i → i ≤ length ds → t' ≡ lam (tree d) t →
    abstractions (map tree (take i ds)) t ≡ whole → abstractions (map tree (take n ds)) t' ≡ whole
abstracted_more ds i n d t t' whole read e h made inv =
    ap (abstractions (map tree (take n ds))) (made ∙ ap (λ x. lam (tree x) t) read)
    ∙ one_abstraction_more ds n d t (omega arith)
    ∙ ap (λ k. abstractions (map tree (take k ds)) t) e
    ∙ inv

-- What fits under abstractions fits by itself, and there are less of them than levels.
under_abstractions : (as_ : List Tree) (t : Tree) (room : ℕ) → Fits room (abstractions as_ t) → (length as_ < room) × Fits room t
under_abstractions [] t room h = let d = depth_pos t in (omega (arith, h.depth, d), h)
under_abstractions (a ∷ as_) t room h =
    let part : Fits (room - 1) (abstractions as_ t) = record { depth = omega (arith, h.depth); rels = omega (arith, h.rels) } in
    let rest = under_abstractions as_ t (room - 1) part in
    (omega (arith, rest.0), record { depth = omega (arith, rest.1.depth); rels = rest.1.rels })

-- The domains of a function, by the parts that they are
trees_of_list : (above : ℕ) (ts : List Term) → trees_of (term_list above ts) ≡ map tree ts
trees_of_list above [] = refl
trees_of_list above (t ∷ ts) = ap (λ z. tree t ∷ z) (trees_of_list (above + 1) ts)

pub same_trees : (ts us : List Term) → term_list 0 ts ≡ term_list 0 us → map tree ts ≡ map tree us
same_trees ts us e = sym (trees_of_list 0 ts) ∙ ap trees_of e ∙ trees_of_list 0 us

pub same_length : (ts us : List Term) → term_list 0 ts ≡ term_list 0 us → length ts ≡ length us
same_length ts us e = sym (length-map ts tree) ∙ ap length (same_trees ts us e) ∙ length-map us tree

lift_by_none : (t : Tree) → lift_tree 0 0 t ≡ t
lift_by_none t = lift_adds 0 t ∙ rename_identity t (λ x. x + 0) (λ x. omega arith)

pub too_many : (fixes : List Tree) (b : FixBody) (xs : List Term) → terms b.domains ≡ term_list 0 xs → 4000 < length xs → ¬ Fits 4000 (full_body_with fixes b)
too_many fixes b xs e h fits =
    let less = (under_abstractions (map tree b.domains.items.items) (body_with fixes b) 4000 fits).0 in
    let n : length b.domains.items.items ≡ length xs = same_length b.domains.items.items xs e in
    let m : length (map tree b.domains.items.items) ≡ length b.domains.items.items = length-map b.domains.items.items tree in
    omega (arith, less, n, m, h)

pub body_is : (fixes : List Tree) (b : FixBody) (xs : List Term) (t : Tree) → terms b.domains ≡ term_list 0 xs → t ≡ tree b.body →
    map_tree (several fixes) (length xs) t ≡ body_with fixes b
body_is fixes b xs t e f = ap₂ (map_tree (several fixes)) (sym (same_length b.domains.items.items xs e)) f

pub body_refused : (fixes : List Tree) (b : FixBody) (fault : TermFault) (want : Tree) → want ≡ body_with fixes b → (fault ≡ Deep → ¬ Fits 4000 want) →
    MakesShared 4000 (full_body_with fixes b) (Err fault)
body_refused fixes b fault want e never =
    let part = under_abstractions (map tree b.domains.items.items) (body_with fixes b) 4000 in
    record { ok = tt; fits = tt; deep = λ d h. (rw e at (never d)) (part h).1 }

pub whole_is : (fixes : List Tree) (b : FixBody) (xs : List Term) (whole body : Tree) → terms b.domains ≡ term_list 0 xs → whole ≡ abstractions (map tree xs) body → body ≡ body_with fixes b →
    lift_tree 0 0 whole ≡ full_body_with fixes b
whole_is fixes b xs whole body e f g =
    lift_by_none whole ∙ f ∙ ap₂ abstractions (same_trees xs b.domains.items.items (sym e)) g

-- What evaluation unfolds a function to
if_some : (b : Bool) (x F : Tree) → (if b then Some x else None) ≡ Some F → Some x ≡ Some F
if_some true x F e = e
if_some false x F e = absurd (grind arith)

function_unfolds : (count : ℕ) (fs : List Function) (f : Option Function) (F : Tree) → unfolded_at count fs f ≡ Some F → option_map (unfolded fs) f ≡ Some F
function_unfolds count fs None F e = absurd (grind arith)
function_unfolds count fs (Some f) F e = if_some (nat_eq count f.recursive_place) (unfolded fs f) F e

functions_unfold : (count which : ℕ) (fs : Option (List Function)) (F : Tree) → option_and_then (λ gs. unfolded_at count gs (element gs which)) fs ≡ Some F →
    option_and_then (λ gs. option_map (unfolded gs) (element gs which)) fs ≡ Some F
functions_unfold count which None F e = absurd (grind arith)
functions_unfold count which (Some fs) F e = function_unfolds count fs (element fs which) F e

pub evaluation_unfolds : (count which : ℕ) (all : List Shape) (parts : Children) (F : Tree) → unfolds count (fix which all parts) ≡ Some F → unfolding_of which all parts ≡ Some F
evaluation_unfolds count which all parts F e = functions_unfold count which (functions_of all parts) F e
