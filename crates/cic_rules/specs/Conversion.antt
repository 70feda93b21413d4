-- Conversion and subtyping at a numbering (Coq Reference Manual, "Conversion rules" and "Subtyping rules").
use Rattle.std.specs.Prelude.{ℕ, ◌≤◌, ◌≡◌, ◌≢◌, Some, ◌∷◌}
use Rattle.cic_terms.specs.Tree.{TreeSort, prop, set, Former, LetF, Binders, over, Tree, rel, node, Children, no_child, child, sort, prod, lam, app}
use Rattle.cic_terms.specs.Lift.{lift_tree}
use Rattle.cic_rules.specs.Numbering.{Numbering, sort_number}
use Rattle.cic_rules.specs.Environment.{Environment, Context, unknown, under_unknown}
use Rattle.cic_rules.specs.Step.{Step}

-- Two terms are convertible where a finite derivation of these rules shows it. Nothing says that the
-- relation is transitive.
mutual
  pub data Convertible (E : Environment) (N : Numbering) : Context → Tree → Tree → Type 0 where
    -- They are identical.
    identical : {G : Context} {a b : Tree} →
        a ≡ b →
        Convertible E N G a b
    -- One of them takes a step first.
    step_left : {G : Context} {a a' b : Tree} →
        Step E G a a' →
        Convertible E N G a' b →
        Convertible E N G a b
    step_right : {G : Context} {a b b' : Tree} →
        Step E G b b' →
        Convertible E N G a b' →
        Convertible E N G a b
    -- They have the same former, with equal ids, numbers and counts, which is no let, and convertible
    -- parts. Of terms without parts, as sorts, variables and ids, this says no more than identity.
    -- The parts of a Fix are the domains, codomains and bodies of its functions.
    congruence : {G : Context} {f : Former} {ks ks' : Children} →
        f ≢ LetF →
        ConvertibleParts E N G ks ks' →
        Convertible E N G (node f ks) (node f ks')
    -- They are two universes with equal numbers.
    equal_universes : {G : Context} {s s' : TreeSort} {i : ℕ} →
        sort_number N s ≡ Some i →
        sort_number N s' ≡ Some i →
        Convertible E N G (sort s) (sort s')
    -- Eta for functions: one of them is fun x : A => t, and under x : A the term t is convertible with the
    -- other applied to x.
    eta_left : {G : Context} {a t b c : Tree} →
        c ≡ app (lift_tree 0 1 b) (rel 0) →
        Convertible E N (unknown ∷ G) t c →
        Convertible E N G (lam a t) b
    eta_right : {G : Context} {a t b c : Tree} →
        c ≡ app (lift_tree 0 1 b) (rel 0) →
        Convertible E N (unknown ∷ G) c t →
        Convertible E N G b (lam a t)

  -- Parts are convertible pairwise, under equally many binders of which nothing is known.
  pub data ConvertibleParts (E : Environment) (N : Numbering) : Context → Children → Children → Type 0 where
    no_parts : {G : Context} →
        ConvertibleParts E N G no_child no_child
    both_parts : {G : Context} {b : Binders} {t t' : Tree} {ks ks' : Children} →
        Convertible E N (under_unknown (over b 0) G) t t' →
        ConvertibleParts E N G ks ks' →
        ConvertibleParts E N G (child b t ks) (child b t' ks')

-- A sort is at most another: Prop is at most every sort, Set at most Set and every universe, and
-- universes go by their numbers.
pub data SortAtMost (N : Numbering) : TreeSort → TreeSort → Type 0 where
  proposition : {s : TreeSort} →
      SortAtMost N prop s
  set_at_most_set :
      SortAtMost N set set
  set_at_most_universe : {s : TreeSort} {i : ℕ} →
      sort_number N s ≡ Some i →
      SortAtMost N set s
  universes : {s s' : TreeSort} {i j : ℕ} →
      sort_number N s ≡ Some i →
      sort_number N s' ≡ Some j →
      i ≤ j →
      SortAtMost N s s'

-- A type is at most another. Of products the codomains alone are compared so: domains are convertible.
pub data AtMost (E : Environment) (N : Numbering) : Context → Tree → Tree → Type 0 where
  convertible : {G : Context} {a b : Tree} →
      Convertible E N G a b →
      AtMost E N G a b
  step_left : {G : Context} {a a' b : Tree} →
      Step E G a a' →
      AtMost E N G a' b →
      AtMost E N G a b
  step_right : {G : Context} {a b b' : Tree} →
      Step E G b b' →
      AtMost E N G a b' →
      AtMost E N G a b
  sorts : {G : Context} {s s' : TreeSort} →
      SortAtMost N s s' →
      AtMost E N G (sort s) (sort s')
  products : {G : Context} {a a' b b' : Tree} →
      Convertible E N G a a' →
      AtMost E N (unknown ∷ G) b b' →
      AtMost E N G (prod a b) (prod a' b')
