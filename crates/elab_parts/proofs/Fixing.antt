-- The recursive places of functions, and the fix of functions within the limits.
use Rattle.std.proofs.Common.{◌≡◌, ℕ, suc, ◌+◌, ◌-◌, ◌<◌, List, [], ◌∷◌, map, length, Bool, true, false, refl, sym, ap, ◌∙◌, arith}
use Rattle.std.specs.Prelude.{Option, Some, None, is_none, is_some, not, nat_eq, if◌then◌else◌}
use Rattle.std.specs.Option.{option_map, option_and_then}
use Rattle.std.proofs.lemmas.Grind.{common_steps}
use Rattle.std.proofs.lemmas.Bool.Decides.{nat_tests}
use Rattle.cic_terms.specs.Tree.{Tree, Children, no_child, child, join}
use Rattle.cic_terms.specs.Tree as T
use Rattle.cic_terms.specs.Denotes.{shapes, shape_list, bodies, body_list}
use Rattle.cic_terms.specs.Sizes.{Fits, ChildrenFit}
use Rattle.cic_terms.specs.declared.term.FixBody.{FixBody}
use Rattle.cic_terms.specs.declared.term.FixBodies.{FixBodies}
use Rattle.cic_terms.proofs.Children.{join_fits}
use Rattle.cic_rules.specs.Environment.{Environment}
use Rattle.cic_rules.specs.Telescopes.{Function, head_of, domain_parts, function_parts, fixpoint}
use Rattle.cic_counted.specs.GuardTest.{guard_fault}
use Rattle.cic_guard.specs.Faults.{unguarded}
use Rattle.cic_guard.specs.declared.guarding.Unguarded.{Unguarded}
use Rattle.cic_spines.specs.Fixes.{function_of, functions}
use Rattle.gal_scoping.specs.Fixpoints.{Binding, domains, ReadFunction, recursive_at, first_where, is_guarded_at, place_by_guard, place_by_type, is_type, first_of_type, with_places, fix_read}
use Rattle.elab_parts.specs.calls.Parts.{cut}
use Rattle.elab_parts.specs.calls.Bindings.{KnownBinding, cut_binding}
use Rattle.elab_parts.specs.calls.Functions.{KnownFunction, cut_function, whole_bindings, whole_function, whole_functions, known_fix}
use Rattle.elab_parts.specs.calls.Places.{known_is_type, first_known, guarded_if, place_if, known_place, placed}
use Rattle.elab_parts.proofs.Cuts.{cut_fits}
use Rattle.elab_parts.proofs.Functioning.{functions_read, fixpoint_of}

-- the guard of a single function
none_mapped : {A B : Type 0} (f : A → B) (o : Option A) → is_none o ≡ is_none (option_map f o)
none_mapped f None = refl
none_mapped f (Some a) = refl

pub guard_read : (E : Environment) (k : ℕ) (o : Option ReadFunction) (b : FixBody) (all : FixBodies) (fault : Option Unguarded) →
    Some (function_of b) ≡ option_map (λ g. recursive_at g k) o → shapes all ≡ shape_list (b ∷ []) → bodies all ≡ body_list 1 (b ∷ []) →
    option_map unguarded fault ≡ guard_fault E (functions all) → is_none fault ≡ guarded_if E k o
guard_read E k None b all fault e s p h = absurd (let z : ⊥ = cc in z)
guard_read E k (Some g) b all fault e s p h =
    let is : function_of b ≡ recursive_at g k = cc in
    none_mapped unguarded fault ∙ ap is_none h ∙ ap (λ fs. is_none (guard_fault E fs)) (functions_read all (b ∷ []) s p) ∙ ap (λ f. is_none (guard_fault E (f ∷ []))) is

not_at : (test : ℕ → Bool) (k count : ℕ) (b : Bool) → b ≡ false → (if b then k else first_where test (k + 1) count) ≡ first_where test (k + 1) count
not_at test k count b e = rw e refl

pub where_passed : (test : ℕ → Bool) (k count whole : ℕ) → k < count → test k ≡ false → first_where test k (count - k) ≡ whole →
    first_where test (k + 1) (count - (k + 1)) ≡ whole
where_passed test k count whole h no_test e =
    let more : count - k ≡ suc (count - (k + 1)) = omega arith in
    sym (not_at test k (count - (k + 1)) _ no_test) ∙ ap (first_where test k) (sym more) ∙ e

-- whether the answer is none
pub none_from : {A : Type 0} (o : Option A) (b : Bool) → is_some o ≡ not b → b ≡ is_none o
none_from None true h = refl
none_from None false h = absurd (let z : ⊥ = cc in z)
none_from (Some a) true h = absurd (let z : ⊥ = cc in z)
none_from (Some a) false h = refl

-- the recursive place of a function within the limits
length_step : (name : Option (List ℕ)) (ks : List KnownBinding) (bs : List Binding) (o : Option Tree) (r : Option (List Binding)) →
    ((rest : List Binding) → r ≡ Some rest → length rest ≡ length ks) →
    option_and_then (λ t. option_map (λ rest. record { name = name; type = t } ∷ rest) r) o ≡ Some bs → length bs ≡ suc (length ks)
length_step name ks bs None r ih g = absurd (let z : ⊥ = cc in z)
length_step name ks bs (Some t) None ih g = absurd (let z : ⊥ = cc in z)
length_step name ks bs (Some t) (Some rest) ih g =
    let z : bs ≡ record { name = name; type = t } ∷ rest = cc in ap length z ∙ ap suc (ih rest refl)

bindings_length : (ks : List KnownBinding) (bs : List Binding) → whole_bindings ks ≡ Some bs → length bs ≡ length ks
bindings_length [] bs e = let z : bs ≡ [] = cc in ap length z
bindings_length (k ∷ ks) bs e = length_step k.name ks bs k.type (whole_bindings ks) (λ rest f. bindings_length ks rest f) e

typed_step : (place : ℕ) (name : Option (List ℕ)) (ks : List KnownBinding) (bs : List Binding) (o : Option Tree) (r : Option (List Binding)) →
    ((rest : List Binding) → r ≡ Some rest → first_known (place + 1) ks ≡ first_of_type (place + 1) (domains rest)) →
    option_and_then (λ t. option_map (λ rest. record { name = name; type = t } ∷ rest) r) o ≡ Some bs →
    (if known_is_type o then place else first_known (place + 1) ks) ≡ first_of_type place (domains bs)
typed_step place name ks bs None r ih g = absurd (let z : ⊥ = cc in z)
typed_step place name ks bs (Some t) None ih g = absurd (let z : ⊥ = cc in z)
typed_step place name ks bs (Some t) (Some rest) ih g =
    let z : record { name = name; type = t } ∷ rest ≡ bs = cc in
    ap (λ n. if is_type (head_of t) then place else n) (ih rest refl) ∙ ap (λ ys. first_of_type place (domains ys)) z

typed_first : (place : ℕ) (ks : List KnownBinding) (bs : List Binding) → whole_bindings ks ≡ Some bs → first_known place ks ≡ first_of_type place (domains bs)
typed_first place [] bs e = let z : [] ≡ bs = cc in ap (λ ys. first_of_type place (domains ys)) z
typed_first place (k ∷ ks) bs e = typed_step place k.name ks bs k.type (whole_bindings ks) (λ rest f. typed_first (place + 1) ks rest f) e

-- the parts of a function within the limits
record Parts (f : KnownFunction) (g : ReadFunction) : Type 0 where
  struct : g.struct ≡ f.struct
  bindings : whole_bindings f.bindings ≡ Some g.bindings

parts_step : (f : KnownFunction) (g : ReadFunction) (bs : Option (List Binding)) (a t : Option Tree) → whole_bindings f.bindings ≡ bs →
    option_and_then (λ bs. option_and_then (λ a. option_map (λ t. record { struct = f.struct; bindings = bs; codomain = a; body = t }) t) a) bs ≡ Some g → Parts f g
parts_step f g None a t is e = absurd (let z : ⊥ = cc in z)
parts_step f g (Some bs) None t is e = absurd (let z : ⊥ = cc in z)
parts_step f g (Some bs) (Some a) None is e = absurd (let z : ⊥ = cc in z)
parts_step f g (Some bs) (Some a) (Some t) is e =
    let z : record { struct = f.struct; bindings = bs; codomain = a; body = t } ≡ g = cc in
    record { struct = sym (ap (λ (h : ReadFunction). h.struct) z); bindings = is ∙ ap (λ (h : ReadFunction). Some h.bindings) z }

parts_of : (f : KnownFunction) (g : ReadFunction) → whole_function f ≡ Some g → Parts f g
parts_of f g e = parts_step f g (whole_bindings f.bindings) f.codomain f.body refl e

chosen : (E : Environment) (g : ReadFunction) (s : Option ℕ) (n : ℕ) → n ≡ length g.bindings → place_if s (first_where (λ k. guarded_if E k (Some g)) 0 n) ≡ place_by_guard E g s
chosen E g None n e = ap (λ m. first_where (is_guarded_at E g) 0 m) e
chosen E g (Some k) n e = refl

typed : (g : ReadFunction) (s : Option ℕ) (n : ℕ) → n ≡ first_of_type 0 (domains g.bindings) → place_if s n ≡ place_by_type g s
typed g None n e = e
typed g (Some k) n e = refl

single_place : (E : Environment) (f : KnownFunction) (g : ReadFunction) → whole_function f ≡ Some g → known_place E true f ≡ place_by_guard E g g.struct
single_place E f g e =
    let p = parts_of f g e in
    ap (λ o. place_if f.struct (first_where (λ k. guarded_if E k o) 0 (length f.bindings))) e
    ∙ ap (λ s. place_if s (first_where (λ k. guarded_if E k (Some g)) 0 (length f.bindings))) (sym p.struct)
    ∙ chosen E g g.struct (length f.bindings) (sym (bindings_length f.bindings g.bindings p.bindings))

one_place : (E : Environment) (f : KnownFunction) (g : ReadFunction) → whole_function f ≡ Some g → known_place E false f ≡ place_by_type g g.struct
one_place E f g e =
    let p = parts_of f g e in
    ap (λ s. place_if s (first_known 0 f.bindings)) (sym p.struct) ∙ typed g g.struct (first_known 0 f.bindings) (typed_first 0 f.bindings g.bindings p.bindings)

-- the functions with their places
several_step : (E : Environment) (f : KnownFunction) (o : Option ReadFunction) (r : Option (List ReadFunction)) → whole_function f ≡ o →
    option_and_then (λ g. option_map (λ gs. recursive_at g (known_place E false f) ∷ gs) (option_map (map (λ g. recursive_at g (place_by_type g g.struct))) r)) o
    ≡ option_map (map (λ g. recursive_at g (place_by_type g g.struct))) (option_and_then (λ g. option_map (λ gs. g ∷ gs) r) o)
several_step E f None r is = refl
several_step E f (Some g) None is = refl
several_step E f (Some g) (Some gs) is = ap (λ k. Some (recursive_at g k ∷ map (λ g. recursive_at g (place_by_type g g.struct)) gs)) (one_place E f g is)

several : (E : Environment) (fs : List KnownFunction) → placed E false fs ≡ option_map (map (λ g. recursive_at g (place_by_type g g.struct))) (whole_functions fs)
several E [] = refl
several E (f ∷ fs) =
    ap (λ o. option_and_then (λ g. option_map (λ gs. recursive_at g (known_place E false f) ∷ gs) o) (whole_function f)) (several E fs)
    ∙ several_step E f (whole_function f) (whole_functions fs) refl

one_step : (E : Environment) (f : KnownFunction) (o : Option ReadFunction) → whole_function f ≡ o →
    option_and_then (λ g. option_map (λ gs. recursive_at g (known_place E true f) ∷ gs) (Some [])) o ≡ option_map (with_places E) (option_and_then (λ g. option_map (λ gs. g ∷ gs) (Some [])) o)
one_step E f None is = refl
one_step E f (Some g) is = ap (λ k. Some (recursive_at g k ∷ [])) (single_place E f g is)

more_step : (E : Environment) (o o' : Option ReadFunction) (r : Option (List ReadFunction)) →
    option_map (map (λ g. recursive_at g (place_by_type g g.struct))) (option_and_then (λ g. option_map (λ gs. g ∷ gs) (option_and_then (λ g. option_map (λ gs. g ∷ gs) r) o')) o)
    ≡ option_map (with_places E) (option_and_then (λ g. option_map (λ gs. g ∷ gs) (option_and_then (λ g. option_map (λ gs. g ∷ gs) r) o')) o)
more_step E None o' r = refl
more_step E (Some g) None r = refl
more_step E (Some g) (Some g') None = refl
more_step E (Some g) (Some g') (Some gs) = refl

pub placed_whole : (E : Environment) (fs : List KnownFunction) (n : ℕ) → n ≡ length fs → placed E (nat_eq n 1) fs ≡ option_map (with_places E) (whole_functions fs)
placed_whole E [] n e = refl
placed_whole E (f ∷ []) n e = ap (λ m. placed E (nat_eq m 1) (f ∷ [])) e ∙ one_step E f (whole_function f) refl
placed_whole E (f ∷ f' ∷ fs) n e =
    let many_ : nat_eq n 1 ≡ false = grind (arith, common_steps, nat_tests, e) in
    ap (λ b. placed E b (f ∷ f' ∷ fs)) many_ ∙ (several E (f ∷ f' ∷ fs) ∙ more_step E (whole_function f) (whole_function f') (whole_functions fs))

-- what is made of them
none_step : (E : Environment) (which : ℕ) (o : Option (List ReadFunction)) → None ≡ option_map (with_places E) o → None ≡ option_and_then (λ gs. cut (fix_read E gs which)) o
none_step E which None h = refl
none_step E which (Some gs) h = absurd (let z : ⊥ = cc in z)

pub fix_none : (E : Environment) (fs : List KnownFunction) (n which : ℕ) → n ≡ length fs → None ≡ placed E (nat_eq n 1) fs → None ≡ known_fix E fs which
fix_none E fs n which e h = none_step E which (whole_functions fs) (h ∙ placed_whole E fs n e)

some_step : (E : Environment) (which : ℕ) (fs : List Function) (o : Option (List ReadFunction)) → Some fs ≡ option_map (with_places E) o →
    cut (fixpoint which fs) ≡ option_and_then (λ gs. cut (fix_read E gs which)) o
some_step E which fs None h = absurd (let z : ⊥ = cc in z)
some_step E which fs (Some gs) h = let z : fs ≡ with_places E gs = cc in ap (λ ys. cut (fixpoint which ys)) z

pub fix_some : (E : Environment) (fs : List KnownFunction) (bs : List FixBody) (n which : ℕ) → n ≡ length fs → Some (map function_of bs) ≡ placed E (nat_eq n 1) fs →
    cut (T.fix which (shape_list bs) (body_list (length bs) bs)) ≡ known_fix E fs which
fix_some E fs bs n which e h =
    ap cut (fixpoint_of which bs) ∙ some_step E which (map function_of bs) (whole_functions fs) (h ∙ placed_whole E fs n e)

-- the parts of functions, whatever their recursive places
parts_any : (p : ReadFunction → ℕ) (n : ℕ) (fs : List ReadFunction) → function_parts n (map (λ f. recursive_at f (p f)) fs) ≡ function_parts n (map (λ f. recursive_at f 0) fs)
parts_any p n [] = refl
parts_any p n (f ∷ fs) =
    ap (λ r. join (domain_parts 0 (domains f.bindings)) (child (T.many (length (domains f.bindings))) f.codomain (child (T.many (n + length (domains f.bindings))) f.body r))) (parts_any p n fs)

pub with_parts_any : (E : Environment) (n : ℕ) (fs : List ReadFunction) → function_parts n (with_places E fs) ≡ function_parts n (map (λ f. recursive_at f 0) fs)
with_parts_any E n [] = refl
with_parts_any E n (f ∷ []) = refl
with_parts_any E n (f ∷ f' ∷ fs) = parts_any (λ f. place_by_type f f.struct) n (f ∷ f' ∷ fs)

head_fits : (b : T.Binders) (t : Tree) (ks : Children) → ChildrenFit 4000 (child b t ks) → Fits 4000 t
head_fits b t ks f = record { depth = omega (arith, f.depth); rels = omega (arith, f.rels) }

tail_fits : (b : T.Binders) (t : Tree) (ks : Children) → ChildrenFit 4000 (child b t ks) → ChildrenFit 4000 ks
tail_fits b t ks f = record { depth = omega (arith, f.depth); rels = omega (arith, f.rels) }

binders_fit : (above : ℕ) (bs : List Binding) → ChildrenFit 4000 (domain_parts above (domains bs)) → whole_bindings (map cut_binding bs) ≡ Some bs
binders_fit above [] f = refl
binders_fit above (b ∷ bs) f =
    let e = cut_fits b.type (head_fits _ b.type _ f) in let e' = binders_fit (above + 1) bs (tail_fits _ b.type _ f) in rw (e, e') refl

pub functions_fit : (n : ℕ) (fs : List ReadFunction) → ChildrenFit 4000 (function_parts n (map (λ f. recursive_at f 0) fs)) → whole_functions (map cut_function fs) ≡ Some fs
functions_fit n [] h = refl
functions_fit n (f ∷ fs) h =
    let p = join_fits 4000 (domain_parts 0 (domains f.bindings)) _ h in
    let e = binders_fit 0 f.bindings p.0 in
    let e' = cut_fits f.codomain (head_fits _ f.codomain _ p.1) in
    let q = tail_fits _ f.codomain _ p.1 in
    let e'' = cut_fits f.body (head_fits _ f.body _ q) in
    let r = functions_fit n fs (tail_fits _ f.body _ q) in
    rw (e, e', e'', r) refl
