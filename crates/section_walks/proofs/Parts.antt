-- A replacement of names goes through joined parts, and lists that a walk makes.
use Rattle.std.proofs.Common.{Result, Ok, Err, IfOk, OnErr, ◌≡◌, ℕ, suc, ◌+◌, ◌≤◌, Bool, true, false, ◌||◌, Option, Some, None, is_some, List, [], ◌∷◌, ◌++◌, length, take, refl, sym, ap, ap₂, ◌∙◌, arith}
use Rattle.std.specs.declared.rc.Rc.{Rc}
use Rattle.std.specs.declared.alloc.Global.{Global}
use Rattle.cic_terms.specs.Tree.{Former, Tree, Children, no_child, child, many, over, join}
use Rattle.cic_terms.specs.Denotes.{tree, branches, bodies, shapes, branch_list, term_list, body_list, shape_list, body_parts, shape, domain_count, terms}
use Rattle.cic_terms.specs.calls.Answer.{after, terms_after, branches_after, MakesChildren, MakesBodies}
use Rattle.cic_terms.specs.declared.term.Term.{Term}
use Rattle.cic_terms.specs.declared.term.Terms.{Terms}
use Rattle.cic_terms.specs.declared.term.Branch.{Branch}
use Rattle.cic_terms.specs.declared.term.Branches.{Branches}
use Rattle.cic_terms.specs.declared.term.FixBodies.{FixBodies}
use Rattle.cic_terms.specs.declared.term.FixBody.{FixBody}
use Rattle.std.proofs.lemmas.Grind.{common_steps}
use Rattle.cic_terms.specs.Sizes.{Fits, ChildrenFit}
use Rattle.cic_terms.proofs.Children.{count_children, ChildrenSoFar, children_end}
use Rattle.cic_terms.proofs.Rows.{branch_more, term_more, body_more, shape_more, parts, parts_are, parts_fit, terms_count, count_terms_list, shapes_end, length_shapes}
use Rattle.cic_terms.specs.declared.term.TermFault.{TermFault}
use Rattle.cic_terms.specs.declared.term.TermFault.TheVariants.{NoMemory}
use Rattle.section_terms.specs.Names.{replace_names, replace_in_parts}
use Rattle.section_walks.specs.calls.Functions.{AddsFunction, MakesFunction, AreBranches, AreTerms, AreFunctions}

pub replace_join : (becomes : Former → Tree) (by at : ℕ) (a b : Children) →
    replace_in_parts becomes by at (join a b) ≡ join (replace_in_parts becomes by at a) (replace_in_parts becomes by at b)
replace_join becomes by at no_child b = refl
replace_join becomes by at (child n t ks) b = ap (child n (replace_names becomes by (over n at) t)) (replace_join becomes by at ks b)

pub count_replaced : (becomes : Former → Tree) (by at : ℕ) (ks : Children) → count_children (replace_in_parts becomes by at ks) ≡ count_children ks
unfolding count_children
count_replaced becomes by at no_child = refl
count_replaced becomes by at (child b t ks) = ap suc (count_replaced becomes by at ks)

pub replace_parts : (becomes : Former → Tree) (by at : ℕ) (ds : Children) (m : ℕ) (c : Tree) (n : ℕ) (b : Tree) →
    replace_in_parts becomes by at (parts ds m c n b) ≡ parts (replace_in_parts becomes by at ds) m (replace_names becomes by (at + m) c) n (replace_names becomes by (at + n) b)
replace_parts becomes by at ds m c n b = replace_join becomes by at ds (child (many m) c (child (many n) b no_child))

-- The number of domains is that of the list that is read.
pub domains_counted : (b : FixBody) (xs : List Term) → terms b.domains ≡ term_list 0 xs → length xs ≡ domain_count b
domains_counted b xs e = sym (count_terms_list 0 xs) ∙ ap count_children (sym e) ∙ count_terms_list 0 b.domains.items.items

-- Nothing has changed as long as nothing is new.
pub neither : (a b c : Bool) → c ≡ (a || b) → c ≡ false → (a ≡ false) × (b ≡ false)
neither true b c e f = cc
neither false b c e f = (refl, sym e ∙ f)

pub none_is_old : (t : Tree) (new : Option (Rc Term Global)) → is_some new ≡ false → after t new ≡ t
none_is_old t None e = refl
none_is_old t (Some r) e = cc

-- One more part, of which nothing is new
pub branches_still : (made made' old : List Branch) (i : ℕ) (x : Branch) (new : Option (Rc Term Global)) (changed changed' : Bool) →
    branch_list made' ≡ join (branch_list made) (child (many x.binders) (after (tree x.body) new) no_child) →
    take (i + 1) old ≡ take i old ++ x ∷ [] → changed' ≡ (changed || is_some new) → (changed ≡ false → branch_list made ≡ branch_list (take i old)) →
    changed' ≡ false → branch_list made' ≡ branch_list (take (i + 1) old)
branches_still made made' old i x new changed changed' added more are before e =
    let p = neither changed (is_some new) changed' are e in
    added ∙ ap₂ (λ (a : Children) (t : Tree). join a (child (many x.binders) t no_child)) (before p.0) (none_is_old (tree x.body) new p.1)
    ∙ sym (ap branch_list more ∙ branch_more (take i old) x)

pub terms_still : (made made' old : List Term) (i : ℕ) (x : Term) (new : Option (Rc Term Global)) (changed changed' : Bool) →
    term_list 0 made' ≡ join (term_list 0 made) (child (many (length made)) (after (tree x) new) no_child) → length made ≡ i → length (take i old) ≡ i →
    take (i + 1) old ≡ take i old ++ x ∷ [] → changed' ≡ (changed || is_some new) → (changed ≡ false → term_list 0 made ≡ term_list 0 (take i old)) →
    changed' ≡ false → term_list 0 made' ≡ term_list 0 (take (i + 1) old)
terms_still made made' old i x new changed changed' added count first more are before e =
    let p = neither changed (is_some new) changed' are e in
    added ∙ ap (λ n. join (term_list 0 made) (child (many n) (after (tree x) new) no_child)) count
    ∙ ap₂ (λ (a : Children) (t : Tree). join a (child (many i) t no_child)) (before p.0) (none_is_old (tree x) new p.1)
    ∙ sym (ap (term_list 0) more ∙ term_more 0 i (take i old) x (omega (arith, first)))

pub bodies_still : (all : ℕ) (made made' old : List FixBody) (i : ℕ) (x : FixBody) (want : Children) (changed new changed' : Bool) →
    body_list all made' ≡ join (body_list all made) want → take (i + 1) old ≡ take i old ++ x ∷ [] → changed' ≡ (changed || new) →
    (new ≡ false → want ≡ body_parts all x) → (changed ≡ false → body_list all made ≡ body_list all (take i old)) →
    changed' ≡ false → body_list all made' ≡ body_list all (take (i + 1) old)
bodies_still all made made' old i x want changed new changed' added more are same before e =
    let p = neither changed new changed' are e in
    added ∙ ap₂ join (before p.0) (same p.1) ∙ sym (ap (body_list all) more ∙ body_more all (take i old) x)

pub take_all : {A : Type 0} (xs : List A) (i : ℕ) → length xs ≤ i → take i xs ≡ xs
take_all xs i h = grind (arith, common_steps)

-- Loops that end
pub branches_made : (room i : ℕ) (all : Branches) (old made : List Branch) (changed : Bool) (want : Children) (result : Result (Option (Rc Branches Global)) TermFault) →
    branches all ≡ branch_list old → length old ≤ i → (changed ≡ false → branch_list made ≡ branch_list (take i old)) → ChildrenSoFar room (branch_list made) no_child want →
    IfOk result (λ r. AreBranches changed made r) → OnErr result (result ≡ Err NoMemory) → MakesChildren (branches_after all) room want result
branches_made room i all old made true want (Ok (Some r)) e le still s ok never =
    let p = children_end room (branch_list made) want s in record { ok = ok ∙ p.0; fits = p.1; deep = tt }
branches_made room i all old made true want (Ok None) e le still s ok never = absurd ok
branches_made room i all old made false want (Ok (Some r)) e le still s ok never = absurd ok
branches_made room i all old made false want (Ok None) e le still s ok never =
    let p = children_end room (branch_list made) want s in
    record { ok = e ∙ sym (still refl ∙ ap branch_list (take_all old i le)) ∙ p.0; fits = p.1; deep = tt }
branches_made room i all old made changed want (Err fault) e le still s ok is = record { ok = tt; fits = tt; deep = λ d. absurd (cc) }

pub terms_made : (room i : ℕ) (all : Terms) (old made : List Term) (changed : Bool) (want : Children) (result : Result (Option Terms) TermFault) →
    terms all ≡ term_list 0 old → length old ≤ i → (changed ≡ false → term_list 0 made ≡ term_list 0 (take i old)) → ChildrenSoFar room (term_list 0 made) no_child want →
    IfOk result (λ r. AreTerms changed made r) → OnErr result (result ≡ Err NoMemory) → MakesChildren (terms_after all) room want result
terms_made room i all old made true want (Ok (Some r)) e le still s ok never =
    let p = children_end room (term_list 0 made) want s in record { ok = ok ∙ p.0; fits = p.1; deep = tt }
terms_made room i all old made true want (Ok None) e le still s ok never = absurd ok
terms_made room i all old made false want (Ok (Some r)) e le still s ok never = absurd ok
terms_made room i all old made false want (Ok None) e le still s ok never =
    let p = children_end room (term_list 0 made) want s in
    record { ok = e ∙ sym (still refl ∙ ap (term_list 0) (take_all old i le)) ∙ p.0; fits = p.1; deep = tt }
terms_made room i all old made changed want (Err fault) e le still s ok is = record { ok = tt; fits = tt; deep = λ d. absurd (cc) }

pub bodies_made : (room i : ℕ) (all : FixBodies) (old made : List FixBody) (changed : Bool) (want : Children) (result : Result (Option (Rc FixBodies Global)) TermFault) →
    bodies all ≡ body_list (length old) old → shapes all ≡ shape_list old → length old ≤ i → (changed ≡ false → body_list (length old) made ≡ body_list (length old) (take i old)) →
    shape_list made ++ [] ≡ shapes all → ChildrenSoFar room (body_list (length old) made) no_child want →
    IfOk result (λ r. AreFunctions changed made r) → OnErr result (result ≡ Err NoMemory) → MakesBodies room all want result
bodies_made room i all old made true want (Ok (Some r)) e f le still shaped s ok never =
    let p = children_end room (body_list (length old) made) want s in
    let same = shapes_end made (shapes all) shaped in
    let count : length made ≡ length old = sym (length_shapes made) ∙ ap length (same ∙ f) ∙ length_shapes old in
    record {
      shapes = ok.0 ∙ same;
      children = record { ok = ok.1 ∙ ap (λ n. body_list n made) count ∙ p.0; fits = p.1; deep = tt };
    }
bodies_made room i all old made true want (Ok None) e f le still shaped s ok never = absurd ok
bodies_made room i all old made false want (Ok (Some r)) e f le still shaped s ok never = absurd ok
bodies_made room i all old made false want (Ok None) e f le still shaped s ok never =
    let p = children_end room (body_list (length old) made) want s in
    record {
      shapes = refl;
      children = record { ok = e ∙ sym (still refl ∙ ap (body_list (length old)) (take_all old i le)) ∙ p.0; fits = p.1; deep = tt };
    }
bodies_made room i all old made changed want (Err fault) e f le still shaped s ok is =
    record { shapes = tt; children = record { ok = tt; fits = tt; deep = λ d. absurd (cc) } }

pub domains_still : (old : Terms) (new : Option Terms) → is_some new ≡ false → terms_after old new ≡ terms old
domains_still old None e = refl
domains_still old (Some r) e = cc

-- A function with its new parts
pub function_added : (room all : ℕ) (one : FixBody) (made made' : List FixBody) (ds : Option Terms) (c b : Option (Rc Term Global)) (wd : Children) (wc wb : Tree) (result : Result Bool TermFault) →
    IfOk result (λ changed. AddsFunction one made made' ds c b changed) → OnErr result (result ≡ Err NoMemory) →
    terms_after one.domains ds ≡ wd → after (tree one.codomain) c ≡ wc → after (tree one.body) b ≡ wb →
    ChildrenFit room wd → Fits room wc → Fits room wb → count_children wd ≡ count_children (terms one.domains) →
    MakesFunction room all one (parts wd (domain_count one) wc (all + domain_count one) wb) made made' result
function_added room all one made made' ds c b wd wc wb (Ok changed) h never e f g j k l m =
    let p = h.has_parts in
    let n = terms_count h.added.domains wd (domain_count one) (p.domains ∙ e) (m ∙ count_terms_list 0 one.domains.items.items) in
    let same : shape h.added ≡ shape one = let same_k = p.k in cc in
    record {
      shapes = ap shape_list h.is_last ∙ shape_more made h.added ∙ ap (λ z. shape_list made ++ z ∷ []) same;
      parts = ap (body_list all) h.is_last ∙ body_more all made h.added
          ∙ ap (join (body_list all made)) (parts_are all _ _ _ _ _ _ _ _ (p.domains ∙ e) n (p.codomain ∙ f) (p.body ∙ g));
      same = λ still. parts_are all _ _ _ _ _ _ _ _ (sym e ∙ h.domains still) refl (sym f ∙ h.codomain still) (sym g ∙ h.body still);
      fits = parts_fit _ _ _ _ _ _ j k l;
      deep = tt;
    }
function_added room all one made made' ds c b wd wc wb (Err fault) h is e f g j k l m =
    record { shapes = tt; parts = tt; same = tt; fits = tt; deep = λ d. absurd (cc) }

pub none_of_three : (a b c changed : Bool) → changed ≡ ((a || b) || c) → changed ≡ false → (a ≡ false) × (b ≡ false) × (c ≡ false)
none_of_three true b c changed e f = cc
none_of_three false true c changed e f = cc
none_of_three false false c changed e f = (refl, refl, sym e ∙ f)
