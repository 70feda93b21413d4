-- What a list holds that begins with copies of the old items: the same parts as those items.
-- A change copies the items before its first change with these, and adds each further one.
use Rattle.std.proofs.Common.{◌≡◌, ℕ, ◌+◌, ◌≤◌, ◌<◌, Option, None, Some, Vec, Result, Ok, Err, IfOk, OnOk, OnErr, List, [], ◌∷◌, ◌++◌, length, get_or, take, refl, sym, ap, ◌∙◌, arith, add-one}
use Rattle.std.proofs.Math.Seq.{take-suc}
use Rattle.std.proofs.lemmas.Grind.{common_steps}
use Rattle.cic_terms.specs.Tree.{Tree, Children, no_child, child, many, join}
use Rattle.cic_terms.specs.Denotes.{tree, shapes, branch_list, term_list, body_list, shape, shape_list, domain_count}
use Rattle.cic_terms.specs.calls.Answer.{SameParts, AreSame, MakesBody, AddsBody, AreWhole, MakesBodies, after, terms_after, so_far}
use Rattle.cic_terms.specs.Sizes.{Fits, ChildrenFit}
use Rattle.std.specs.declared.rc.Rc.{Rc}
use Rattle.std.specs.declared.alloc.Global.{Global}
use Rattle.cic_terms.specs.declared.term.Terms.{Terms}
use Rattle.cic_terms.specs.declared.term.TermFault.{TermFault}
use Rattle.cic_terms.specs.declared.term.TermFault.TheVariants.{NoMemory}
use Rattle.cic_terms.specs.declared.term.Term.{Term}
use Rattle.cic_terms.specs.declared.term.Branch.{Branch}
use Rattle.cic_terms.specs.declared.term.FixBody.{FixBody}
use Rattle.cic_terms.specs.declared.term.FixBodies.{FixBodies, out-FixBodies}
use Rattle.cic_terms.proofs.Children.{count_children, ChildrenSoFar, children_end}
use Rattle.cic_terms.proofs.Rows.{branch_more, term_more, body_more, shape_more, bodies_are, shapes_end, shapes_count, terms_count, parts, parts_are, parts_fit}
use Rattle.cic_terms.proofs.Sameness.{shape_same, parts_same}

pub take_more : {A : Type 0} (xs : List A) (i : ℕ) (x : A) → i < length xs → x ≡ get_or xs i x → take (i + 1) xs ≡ take i xs ++ x ∷ []
take_more xs i x h e = rw add-one (take-suc xs i x h ∙ ap (λ y. take i xs ++ (y ∷ [])) (sym e))

pub take_length : {A : Type 0} (xs : List A) (i : ℕ) → i ≤ length xs → length (take i xs) ≡ i
take_length xs i h = grind (arith, common_steps)

-- one more copy
pub branch_kept : (made made' old old' : List Branch) (b x : Branch) → branch_list made ≡ branch_list old → made' ≡ made ++ b ∷ [] → old' ≡ old ++ x ∷ [] →
    b.binders ≡ x.binders → tree b.body ≡ tree x.body → branch_list made' ≡ branch_list old'
branch_kept made made' old old' b x h e f g k = rw (e, f) (rw (branch_more made b, branch_more old x) (rw (h, g, k)))

pub term_kept : (made made' old old' : List Term) (i : ℕ) (t x : Term) → length made ≡ i → length old ≡ i → term_list 0 made ≡ term_list 0 old → made' ≡ made ++ t ∷ [] → old' ≡ old ++ x ∷ [] →
    tree t ≡ tree x → term_list 0 made' ≡ term_list 0 old'
term_kept made made' old old' i t x m n h e f g =
    rw (e, f) (rw (term_more 0 i made t (omega (arith, m)), term_more 0 i old x (omega (arith, n))) (rw (h, g)))

pub body_kept : (made made' old old' : List FixBody) (b x : FixBody) → AreSame made old → made' ≡ made ++ b ∷ [] → old' ≡ old ++ x ∷ [] → SameParts b x → AreSame made' old'
body_kept made made' old old' b x h e f g = rw (e, f) (go made old h)
  where
    go : (xs ys : List FixBody) → AreSame xs ys → AreSame (xs ++ b ∷ []) (ys ++ x ∷ [])
    go [] [] k = (g, tt)
    go [] (y ∷ ys) k = absurd k
    go (x ∷ xs) [] k = absurd k
    go (y ∷ xs) (z ∷ ys) k = (k.0, go xs ys k.1)

pub parts_are_same : (n : ℕ) (xs ys : List FixBody) → AreSame xs ys → body_list n xs ≡ body_list n ys
parts_are_same n [] [] h = refl
parts_are_same n [] (y ∷ ys) h = absurd h
parts_are_same n (x ∷ xs) [] h = absurd h
parts_are_same n (x ∷ xs) (y ∷ ys) h = let p = parts_same n x y h.0 in let q = parts_are_same n xs ys h.1 in cc

pub shapes_are_same : (xs ys : List FixBody) → AreSame xs ys → shape_list xs ≡ shape_list ys
shapes_are_same [] [] h = refl
shapes_are_same [] (y ∷ ys) h = absurd h
shapes_are_same (x ∷ xs) [] h = absurd h
shapes_are_same (x ∷ xs) (y ∷ ys) h = let p = shape_same x y h.0 in let q = shapes_are_same xs ys h.1 in cc

-- nothing has changed yet
pub still_branches : (old : List Branch) (n : ℕ) (b : Branch) → take (n + 1) old ≡ take n old ++ b ∷ [] →
    branch_list (take (n + 1) old) ≡ join (branch_list (take n old)) (child (many b.binders) (tree b.body) no_child)
still_branches old n b e = ap branch_list e ∙ branch_more (take n old) b

pub still_terms : (old : List Term) (n : ℕ) (t : Term) → take (n + 1) old ≡ take n old ++ t ∷ [] → length (take n old) ≡ n →
    term_list 0 (take (n + 1) old) ≡ join (term_list 0 (take n old)) (child (many n) (tree t) no_child)
still_terms old n t e h = ap (term_list 0) e ∙ term_more 0 n (take n old) t (omega (arith, h))

pub self_same : (xs : List FixBody) → AreSame xs xs
self_same [] = tt
self_same (x ∷ xs) = (record { k = refl; domains = refl; codomain = refl; body = refl }, self_same xs)

pub still_bodies : (old : List FixBody) (n : ℕ) (b : FixBody) → take (n + 1) old ≡ take n old ++ b ∷ [] → AreSame (take (n + 1) old) (take n old ++ b ∷ [])
still_bodies old n b e = rw e (self_same _)

take_all : {A : Type 0} (xs : List A) (i : ℕ) → length xs ≤ i → take i xs ≡ xs
take_all xs i h = grind (arith, common_steps)

-- a loop that ends with nothing changed
pub whole_list : {A : Type 0} (old : List A) (i : ℕ) (made : Option (Vec A Global)) → made ≡ None → length old ≤ i → so_far old i made ≡ old
whole_list old i made e h = rw e (take_all old i h)

-- a function with its new parts
pub body_added : (room i : ℕ) (old : List FixBody) (one : FixBody) (made made' : Option (Vec FixBody Global)) (ds : Option Terms) (c b : Option (Rc Term Global)) (wd : Children) (wc wb : Tree) (result : Result (Unit {0}) TermFault) →
    OnOk result (AddsBody i old one made made' ds c b) → OnErr result (result ≡ Err NoMemory) →
    terms_after one.domains ds ≡ wd → after (tree one.codomain) c ≡ wc → after (tree one.body) b ≡ wb →
    ChildrenFit room wd → Fits room wc → Fits room wb → count_children wd ≡ domain_count one →
    MakesBody room i old one (parts wd (domain_count one) wc (length old + domain_count one) wb) made made' result
body_added room i old one made made' ds c b wd wc wb (Ok _) h never e f g j k l m =
    let p = h.has_parts in
    let so = so_far old i made in
    let n = terms_count h.added.domains wd (domain_count one) (p.domains ∙ e) m in
    let same : shape h.added ≡ shape one = let same_k = p.k in cc in
    record {
      shapes = shapes_are_same _ _ h.is_last ∙ shape_more so h.added ∙ ap (λ z. shape_list so ++ z ∷ []) same;
      parts = parts_are_same (length old) _ _ h.is_last ∙ body_more (length old) so h.added
          ∙ ap (join (body_list (length old) so)) (parts_are (length old) _ _ _ _ _ _ _ _ (p.domains ∙ e) n (p.codomain ∙ f) (p.body ∙ g));
      fits = parts_fit _ _ _ _ _ _ j k l;
      deep = tt;
    }
body_added room i old one made made' ds c b wd wc wb (Err fault) h is e f g j k l m =
    record { shapes = tt; parts = tt; fits = tt; deep = λ d. absurd (cc) }

-- the functions of a loop that ends
pub bodies_made : (room i : ℕ) (all : FixBodies) (old : List FixBody) (made : Option (Vec FixBody Global)) (want : Children) (result : Result (Option (Rc FixBodies Global)) TermFault) →
    old ≡ (out-FixBodies all).items.items → length old ≤ i → shape_list (so_far old i made) ++ [] ≡ shapes all → ChildrenSoFar room (body_list (length old) (so_far old i made)) no_child want →
    IfOk result (λ r. AreWhole made r) → OnErr result (result ≡ Err NoMemory) → MakesBodies room all want result
bodies_made room i all old None want (Ok None) e le s k ok never =
    let p = children_end room (body_list (length old) (take i old)) want k in
    record {
      shapes = refl;
      children = record {
        ok = sym (bodies_are all old (length old) e (ap length e)) ∙ ap (body_list (length old)) (sym (take_all old i le)) ∙ p.0;
        fits = p.1;
        deep = tt;
      };
    }
bodies_made room i all old None want (Ok (Some r)) e le s k ok never = absurd ok
bodies_made room i all old (Some made) want (Ok None) e le s k ok never = absurd ok
bodies_made room i all old (Some made) want (Ok (Some r)) e le s k ok never =
    let p = children_end room (body_list (length old) made.items) want k in
    let same = shapes_end made.items (shapes all) s in
    let count : length made.items ≡ length old = shapes_count made.items all same ∙ ap length (sym e) in
    record {
      shapes = ok.0 ∙ same;
      children = record { ok = ok.1 ∙ ap (λ n. body_list n made.items) count ∙ p.0; fits = p.1; deep = tt };
    }
bodies_made room i all old made want (Err fault) e le s k ok is =
    record { shapes = tt; children = record { ok = tt; fits = tt; deep = λ d. absurd (cc) } }
