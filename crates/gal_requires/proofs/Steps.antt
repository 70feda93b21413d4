-- From name to name.
use Rattle.std.proofs.Common.{ℕ, zero, suc, List, [], ◌∷◌, ◌++◌, ◌≡◌, ◌≤◌, ◌<◌, ◌+◌, length, Option, map, take, drop, get_or, refl, ap, sym, subst, ◌∙◌, append_assoc, append-nil, arith, add-one}
use Rattle.gal_raw.specs.Denotes.{qualified}
use Rattle.gal_raw.specs.declared.names.QualifiedName.{QualifiedName}
use Rattle.gal_requires.specs.Required.{denoted}
use Rattle.gal_requires.specs.declared.requiring.Require.{Require}
use Rattle.gal_requires.specs.Roots.{Mention, mention, mentions_of, mentions, Roots, further, IsRootFault}
use Rattle.gal_requires.specs.declared.naming.RootFault.{RootFault}
use Rattle.gal_requires.specs.declared.naming.RootFault.TheVariants as F
use Rattle.gal_requires.specs.calls.Steps.{Adds, Nameless, Goes, Fails}

pub goes_none : (prefix : Option (List ℕ)) (ls : List (List ℕ)) → Goes prefix ls ls []
goes_none prefix ls ms h = subst (λ x. Roots prefix x ls) (sym (append-nil ms)) h

-- the names of a Require up to a place
abbrev pub up_to : Require → ℕ → List QualifiedName → List Mention
up_to r i xs = map (mention (denoted r)) (map qualified (take i xs))

cut : (r : Require) (i : ℕ) (xs : List QualifiedName) (d : QualifiedName) → i < length xs →
    map (mention (denoted r)) (map qualified xs) ≡ up_to r i xs ++ (mention (denoted r) (qualified (get_or xs i d)) ∷ map (mention (denoted r)) (map qualified (drop (suc i) xs)))
cut r i [] d lt = absurd (omega (arith, lt))
cut r zero (x ∷ xs) d lt = refl
cut r (suc i) (x ∷ xs) d lt = ap (λ l. mention (denoted r) (qualified x) ∷ l) (cut r i xs d (omega arith))

one_more : (r : Require) (i : ℕ) (xs : List QualifiedName) (d : QualifiedName) → i < length xs →
    up_to r (suc i) xs ≡ up_to r i xs ++ (mention (denoted r) (qualified (get_or xs i d)) ∷ [])
one_more r i [] d lt = absurd (omega (arith, lt))
one_more r zero (x ∷ xs) d lt = refl
one_more r (suc i) (x ∷ xs) d lt = ap (λ l. mention (denoted r) (qualified x) ∷ l) (one_more r i xs d (omega arith))

up_to_all : (r : Require) (i : ℕ) (xs : List QualifiedName) → length xs ≤ i → up_to r i xs ≡ map (mention (denoted r)) (map qualified xs)
up_to_all r zero [] le = refl
up_to_all r (suc i) [] le = refl
up_to_all r zero (x ∷ xs) le = absurd (omega (arith, le))
up_to_all r (suc i) (x ∷ xs) le = ap (λ l. mention (denoted r) (qualified x) ∷ l) (up_to_all r i xs (omega arith))

pub goes_more : (prefix : Option (List ℕ)) (r : Require) (i : ℕ) (xs : List QualifiedName) (d : QualifiedName) (a b c : List (List ℕ)) → i < length xs →
    Goes prefix a b (up_to r i xs) → Adds prefix (mention (denoted r) (qualified (get_or xs i d))) b c → Goes prefix a c (up_to r (i + 1) xs)
goes_more prefix r i xs d a b c lt go add ms h =
    let m = mention (denoted r) (qualified (get_or xs i d)) in
    let same : ms ++ up_to r (i + 1) xs ≡ (ms ++ up_to r i xs) ++ (m ∷ []) =
    ap (λ n. ms ++ up_to r n xs) (add-one i) ∙ ap (λ l. ms ++ l) (one_more r i xs d lt) ∙ sym (append_assoc ms (up_to r i xs) (m ∷ [])) in
    further (go ms h) add.1 same add.2

pub goes_all : (prefix : Option (List ℕ)) (r : Require) (i : ℕ) (xs : List QualifiedName) (a b : List (List ℕ)) → length xs ≤ i → Goes prefix a b (up_to r i xs) →
    Goes prefix a b (map (mention (denoted r)) (map qualified xs))
goes_all prefix r i xs a b le go ms h = subst (λ x. Roots prefix (ms ++ x) b) (up_to_all r i xs le) (go ms h)

pub fails_at : (prefix : Option (List ℕ)) (r : Require) (i : ℕ) (xs : List QualifiedName) (d : QualifiedName) (a b : List (List ℕ)) (fault : RootFault) → i < length xs →
    Goes prefix a b (up_to r i xs) → Nameless prefix (mention (denoted r) (qualified (get_or xs i d))) fault → Fails prefix a (map (mention (denoted r)) (map qualified xs)) fault
fails_at prefix r i xs d a b F.NoMemory lt go bare ms h = tt
fails_at prefix r i xs d a b (F.Unknown name lines) lt go bare ms h = record {
  before = ms ++ up_to r i xs;
  unknown = mention (denoted r) (qualified (get_or xs i d));
  after = map (mention (denoted r)) (map qualified (drop (suc i) xs));
  libraries = b;
  split = ap (λ l. ms ++ l) (cut r i xs d lt) ∙ sym (append_assoc ms (up_to r i xs) (mention (denoted r) (qualified (get_or xs i d)) ∷ map (mention (denoted r)) (map qualified (drop (suc i) xs))));
  known = go ms h;
  nothing = bare.0;
  name_is = bare.1;
  lines_are = bare.2;
}

-- the names of the Requires up to a place
abbrev pub all_up_to : ℕ → List Require → List Mention
all_up_to i rs = mentions (map denoted (take i rs))

next_all : (i : ℕ) (rs : List Require) (d : Require) → i < length rs → all_up_to (suc i) rs ≡ all_up_to i rs ++ mentions_of (denoted (get_or rs i d))
next_all i [] d lt = absurd (omega (arith, lt))
next_all zero (r ∷ rs) d lt = append-nil (mentions_of (denoted r))
next_all (suc i) (r ∷ rs) d lt = ap (λ l. mentions_of (denoted r) ++ l) (next_all i rs d (omega arith)) ∙ sym (append_assoc (mentions_of (denoted r)) (all_up_to i rs) (mentions_of (denoted (get_or rs i d))))

whole : (i : ℕ) (rs : List Require) → mentions (map denoted rs) ≡ all_up_to i rs ++ mentions (map denoted (drop i rs))
whole zero rs = refl
whole (suc i) [] = refl
whole (suc i) (r ∷ rs) = ap (λ l. mentions_of (denoted r) ++ l) (whole i rs) ∙ sym (append_assoc (mentions_of (denoted r)) (all_up_to i rs) (mentions (map denoted (drop i rs))))

take_all : (i : ℕ) (rs : List Require) → length rs ≤ i → all_up_to i rs ≡ mentions (map denoted rs)
take_all zero [] le = refl
take_all (suc i) [] le = refl
take_all zero (r ∷ rs) le = absurd (omega (arith, le))
take_all (suc i) (r ∷ rs) le = ap (λ l. mentions_of (denoted r) ++ l) (take_all i rs (omega arith))

pub roots_more : (prefix : Option (List ℕ)) (i : ℕ) (rs : List Require) (d : Require) (a b : List (List ℕ)) → i < length rs → Roots prefix (all_up_to i rs) a →
    Goes prefix a b (mentions_of (denoted (get_or rs i d))) → Roots prefix (all_up_to (i + 1) rs) b
roots_more prefix i rs d a b lt h go = subst (λ x. Roots prefix x b) (sym (ap (λ n. all_up_to n rs) (add-one i) ∙ next_all i rs d lt)) (go (all_up_to i rs) h)

pub roots_all : (prefix : Option (List ℕ)) (i : ℕ) (rs : List Require) (a : List (List ℕ)) → length rs ≤ i → Roots prefix (all_up_to i rs) a → Roots prefix (mentions (map denoted rs)) a
roots_all prefix i rs a le h = subst (λ x. Roots prefix x a) (take_all i rs le) h

on : (prefix : Option (List ℕ)) (xs ys : List Mention) (fault : RootFault) → IsRootFault prefix xs fault → IsRootFault prefix (xs ++ ys) fault
on prefix xs ys F.NoMemory h = tt
on prefix xs ys (F.Unknown name lines) h = record {
  before = h.before;
  unknown = h.unknown;
  after = h.after ++ ys;
  libraries = h.libraries;
  split = ap (λ l. l ++ ys) h.split ∙ append_assoc h.before (h.unknown ∷ h.after) ys;
  known = h.known;
  nothing = h.nothing;
  name_is = h.name_is;
  lines_are = h.lines_are;
}

pub roots_fail : (prefix : Option (List ℕ)) (i : ℕ) (rs : List Require) (d : Require) (a : List (List ℕ)) (fault : RootFault) → i < length rs → Roots prefix (all_up_to i rs) a →
    Fails prefix a (mentions_of (denoted (get_or rs i d))) fault → IsRootFault prefix (mentions (map denoted rs)) fault
roots_fail prefix i rs d a fault lt h bad =
    subst (λ x. IsRootFault prefix x fault) (sym (whole (suc i) rs))
    (on prefix (all_up_to (suc i) rs) (mentions (map denoted (drop (suc i) rs))) fault
    (subst (λ x. IsRootFault prefix x fault) (sym (next_all i rs d lt)) (bad (all_up_to i rs) h)))
