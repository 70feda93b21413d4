-- Lists of parts, one part at a time.
use Rattle.std.proofs.Common.{◌≡◌, ℕ, suc, ◌+◌, List, [], ◌∷◌, ◌++◌, length, refl, ap, sym, ◌∙◌, arith, append_assoc, append-nil}
use Rattle.cic_terms.specs.Tree.{Tree, Children, no_child, child, many, join}
use Rattle.term_format.specs.Storable.{most_number}
use Rattle.term_format.specs.Reading.{Reading, value, wrong, and_then, read_limited}
use Rattle.term_format.specs.TermReading.{Sub, read_branches, read_domains, Functions, read_function, read_functions, with_more}
use Rattle.cic_terms.specs.Denotes.{tree, branch_list, term_list, body_list, body_parts, shape, shape_list, bodies, shapes}
use Rattle.cic_terms.specs.declared.term.Term.{Term}
use Rattle.cic_terms.specs.declared.term.Branch.{Branch}
use Rattle.cic_terms.specs.declared.term.FixBody.{FixBody}
use Rattle.cic_terms.specs.declared.term.FixBodies.{FixBodies}
use Rattle.term_codec.specs.declared.faults.Stop.{Stop}
use Rattle.term_codec.specs.calls.Answers.{Stops}
use Rattle.term_codec.specs.calls.Functions.{read_branch, branch_of, function_of, functions_of, functions_in}
use Rattle.term_codec.proofs.Ends.{stops_on, stops_same}

pub join_nil : (ks : Children) → join ks no_child ≡ ks
join_nil no_child = refl
join_nil (child b t ks) = ap (λ k. child b t k) (join_nil ks)

pub join_join : (a b c : Children) → join (join a b) c ≡ join a (join b c)
join_join no_child b c = refl
join_join (child x t a) b c = ap (λ k. child x t k) (join_join a b c)

-- Readings with some parts before theirs.
abbrev pub with_parts : Children → Reading Children → Reading Children
with_parts made r = and_then r (λ ks rest. value (join made ks) rest)

with_nothing : (r : Reading Children) → r ≡ with_parts no_child r
with_nothing (value ks rest) = refl
with_nothing (wrong d l) = refl

pub begin_parts : (r r' : Reading Children) → r ≡ r' → r ≡ with_parts no_child r'
begin_parts r r' e = e ∙ with_nothing r'

with_both : (made one : Children) (r : Reading Children) → with_parts made (and_then r (λ ks rest. value (join one ks) rest)) ≡ with_parts (join made one) r
with_both made one (value ks rest) = ap (λ k. value k rest) (sym (join_join made one ks))
with_both made one (wrong d l) = refl

branch_by : (sub : Sub) (m : ℕ) (n : ℕ) (r : Reading Tree)
    → and_then r (λ t rest. and_then (read_branches sub m rest) (λ ks rest. value (child (many n) t ks) rest))
    ≡ and_then (and_then r (λ t rest. value (child (many n) t no_child) rest)) (λ one rest. and_then (read_branches sub m rest) (λ ks rest. value (join one ks) rest))
branch_by sub m n (value t rest) = refl
branch_by sub m n (wrong d l) = refl

branch_step_by : (sub : Sub) (m : ℕ) (r : Reading ℕ)
    → and_then r (λ n rest. and_then (sub rest) (λ t rest. and_then (read_branches sub m rest) (λ ks rest. value (child (many n) t ks) rest)))
    ≡ and_then (and_then r (λ n rest. and_then (sub rest) (λ t rest. value (child (many n) t no_child) rest))) (λ one rest. and_then (read_branches sub m rest) (λ ks rest. value (join one ks) rest))
branch_step_by sub m (value n rest) = branch_by sub m n (sub rest)
branch_step_by sub m (wrong d l) = refl

-- One branch more.
pub branch_step : (sub : Sub) (m : ℕ) (bytes : List ℕ)
    → read_branches sub (suc m) bytes ≡ and_then (read_branch sub bytes) (λ one rest. and_then (read_branches sub m rest) (λ ks rest. value (join one ks) rest))
branch_step sub m bytes = branch_step_by sub m (read_limited most_number bytes)

pub branch_more : (sub : Sub) (m n : ℕ) (whole : Reading Children) (made one : Children) (bytes rest : List ℕ)
    → whole ≡ with_parts made (read_branches sub n bytes) → n ≡ suc m → read_branch sub bytes ≡ value one rest
    → whole ≡ with_parts (join made one) (read_branches sub m rest)
branch_more sub m n whole made one bytes rest h e r =
    h ∙ (ap (λ k. with_parts made (read_branches sub k bytes)) e ∙ (ap (with_parts made) (branch_step sub m bytes ∙ ap (λ x. and_then x (λ one rest. and_then (read_branches sub m rest) (λ ks rest. value (join one ks) rest))) r)
    ∙ with_both made one (read_branches sub m rest)))

-- One domain more.
pub domain_more : (sub : Sub) (above m n : ℕ) (whole : Reading Children) (made : Children) (t : Tree) (bytes rest : List ℕ)
    → whole ≡ with_parts made (read_domains sub above n bytes) → n ≡ suc m → sub bytes ≡ value t rest
    → whole ≡ with_parts (join made (child (many above) t no_child)) (read_domains sub (above + 1) m rest)
domain_more sub above m n whole made t bytes rest h e r =
    h ∙ (ap (λ k. with_parts made (read_domains sub above k bytes)) e ∙ (ap (λ x. with_parts made (and_then x (λ t rest. and_then (read_domains sub (above + 1) m rest) (λ ks rest. value (child (many above) t ks) rest)))) r
    ∙ with_both made (child (many above) t no_child) (read_domains sub (above + 1) m rest)))

-- Readings with some functions before theirs.
abbrev pub with_functions : Functions → Reading Functions → Reading Functions
with_functions made r = and_then r (λ fs rest. value (with_more made fs) rest)

abbrev pub no_functions : Functions
no_functions = record { shapes = []; parts = no_child }

begin_by : (r : Reading Functions) → r ≡ with_functions no_functions r
begin_by (value fs rest) = refl
begin_by (wrong d l) = refl

pub begin_functions : (r r' : Reading Functions) → r ≡ r' → r ≡ with_functions no_functions r'
begin_functions r r' e = e ∙ begin_by r'

more_assoc : (a b c : Functions) → with_more (with_more a b) c ≡ with_more a (with_more b c)
more_assoc a b c = rw (append_assoc a.shapes b.shapes c.shapes, join_join a.parts b.parts c.parts) refl

both_functions : (made one : Functions) (r : Reading Functions) → with_functions made (and_then r (λ fs rest. value (with_more one fs) rest)) ≡ with_functions (with_more made one) r
both_functions made one (value fs rest) = ap (λ k. value k rest) (sym (more_assoc made one fs))
both_functions made one (wrong d l) = refl

-- One function more.
pub function_more : (sub : Sub) (all m n : ℕ) (whole : Reading Functions) (made one : Functions) (bytes rest : List ℕ)
    → whole ≡ with_functions made (read_functions sub all n bytes) → n ≡ suc m → read_function sub all bytes ≡ value one rest
    → whole ≡ with_functions (with_more made one) (read_functions sub all m rest)
function_more sub all m n whole made one bytes rest h e r =
    h ∙ (ap (λ k. with_functions made (read_functions sub all k bytes)) e ∙ (ap (λ x. with_functions made (and_then x (λ f rest. and_then (read_functions sub all m rest) (λ fs rest. value (with_more f fs) rest)))) r
    ∙ both_functions made one (read_functions sub all m rest)))

pub no_more : (fs : Functions) → with_more fs no_functions ≡ fs
no_more fs = rw (append-nil fs.shapes, join_nil fs.parts) refl

-- A part that stops stops the list.
pub branch_stops : (size : ℕ) (sub : Sub) (m n : ℕ) (whole : Reading Children) (made : Children) (bytes : List ℕ) (s : Stop)
    → whole ≡ with_parts made (read_branches sub n bytes) → n ≡ suc m → Stops size (read_branch sub bytes) s → Stops size whole s
branch_stops size sub m n whole made bytes s h e st =
    stops_same size whole _ s (h ∙ (ap (λ k. with_parts made (read_branches sub k bytes)) e ∙ ap (with_parts made) (branch_step sub m bytes)))
    (stops_on size _ _ s (stops_on size (read_branch sub bytes) _ s st))

pub domain_stops : (size : ℕ) (sub : Sub) (above m n : ℕ) (whole : Reading Children) (made : Children) (bytes : List ℕ) (s : Stop)
    → whole ≡ with_parts made (read_domains sub above n bytes) → n ≡ suc m → Stops size (sub bytes) s → Stops size whole s
domain_stops size sub above m n whole made bytes s h e st =
    stops_same size whole _ s (h ∙ ap (λ k. with_parts made (read_domains sub above k bytes)) e) (stops_on size _ _ s (stops_on size (sub bytes) _ s st))

pub function_stops : (size : ℕ) (sub : Sub) (all m n : ℕ) (whole : Reading Functions) (made : Functions) (bytes : List ℕ) (s : Stop)
    → whole ≡ with_functions made (read_functions sub all n bytes) → n ≡ suc m → Stops size (read_function sub all bytes) s → Stops size whole s
function_stops size sub all m n whole made bytes s h e st =
    stops_same size whole _ s (h ∙ ap (λ k. with_functions made (read_functions sub all k bytes)) e) (stops_on size _ _ s (stops_on size (read_function sub all bytes) _ s st))

pub branches_append : (bs : List Branch) (b : Branch) → branch_list (bs ++ b ∷ []) ≡ join (branch_list bs) (branch_of b)
branches_append [] b = refl
branches_append (x ∷ bs) b = ap (λ k. child (many x.binders) (tree x.body) k) (branches_append bs b)

terms_append_at : (above n : ℕ) (ts : List Term) (t : Term) → n ≡ above + length ts → term_list above (ts ++ t ∷ []) ≡ join (term_list above ts) (child (many n) (tree t) no_child)
terms_append_at above n [] t e = let z : above ≡ n = omega (arith, e) in ap (λ k. child (many k) (tree t) no_child) z
terms_append_at above n (x ∷ ts) t e = let z : n ≡ above + 1 + length ts = omega (arith, e) in ap (λ k. child (many above) (tree x) k) (terms_append_at (above + 1) n ts t z)

pub terms_append : (n : ℕ) (ts : List Term) (t : Term) (u : Tree) → length ts ≡ n → tree t ≡ u → term_list 0 (ts ++ t ∷ []) ≡ join (term_list 0 ts) (child (many n) u no_child)
terms_append n ts t u l e = terms_append_at 0 n ts t (omega (arith, l)) ∙ ap (λ x. join (term_list 0 ts) (child (many n) x no_child)) e

bodies_append : (all : ℕ) (bs : List FixBody) (b : FixBody) → body_list all (bs ++ b ∷ []) ≡ join (body_list all bs) (body_parts all b)
bodies_append all [] b = join_nil (body_parts all b)
bodies_append all (x ∷ bs) b = ap (λ k. join (body_parts all x) k) (bodies_append all bs b) ∙ sym (join_join (body_parts all x) (body_list all bs) (body_parts all b))

shapes_append : (bs : List FixBody) (b : FixBody) → shape_list (bs ++ b ∷ []) ≡ shape_list bs ++ shape b ∷ []
shapes_append [] b = refl
shapes_append (x ∷ bs) b = ap (λ k. shape x ∷ k) (shapes_append bs b)

pub functions_append : (all : ℕ) (bs : List FixBody) (b : FixBody) → functions_of all (bs ++ b ∷ []) ≡ with_more (functions_of all bs) (function_of all b)
functions_append all bs b = rw (shapes_append bs b, bodies_append all bs b) refl

pub functions_made : (r : FixBodies) (items : List FixBody) (n : ℕ) → bodies r ≡ body_list (length items) items → shapes r ≡ shape_list items → length items ≡ n → functions_of n items ≡ functions_in r
functions_made r items n ep es l =
    let p : body_list n items ≡ bodies r = ap (λ k. body_list k items) (sym l) ∙ sym ep in
    let q : shape_list items ≡ shapes r = sym es in
    rw (p, q) refl
