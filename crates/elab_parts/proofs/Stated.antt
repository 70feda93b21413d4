-- Constraints that are read one after the other.
use Rattle.std.proofs.Common.{◌≡◌, ℕ, ◌+◌, ◌<◌, false, length, get_or, add-one, List, [], ◌∷◌, ◌++◌, drop, refl, sym, ap, ◌∙◌, append_assoc}
use Rattle.std.specs.Prelude.{Ok, Err}
use Rattle.std.proofs.Math.Seq.{drop-cons}
use Rattle.cic_names.specs.declared.level.Level.{Level}
use Rattle.cic_names.specs.declared.constraint.Constraint.{Constraint}
use Rattle.gal_grammar.specs.Commands as C
use Rattle.gal_raw.specs.Commands.{level as written_level, relation as written_relation, constraint as written}
use Rattle.gal_raw.specs.declared.commands.Constraint.{Constraint as Written}
use Rattle.gal_scoping.specs.Scopes.{Scope}
use Rattle.gal_scoping.specs.Readings.{Fault, Reading, with_part}
use Rattle.gal_scoping.specs.Declarations.{level_read, related, constraints_of}

-- What is read so far, and what the rest is.
pub record ReadsOn (scope : Scope) (all : List C.Cons) (rest : List C.Cons) (made : List Constraint) : Type 0 where
  pub so_far : with_part (λ later. made ++ later) (constraints_of scope rest) ≡ constraints_of scope all

none_before : {A : Type 0} (R : Reading (List A)) → with_part (λ later. [] ++ later) R ≡ R
none_before (Ok later) = refl
none_before (Err e) = refl

pub constraints_begin : (scope : Scope) (all rest : List C.Cons) (made : List Constraint) → rest ≡ all → made ≡ [] → ReadsOn scope all rest made
constraints_begin scope all rest made same none = record { so_far = rw (same, none) (none_before (constraints_of scope all)) }

pub left_fault : (scope : Scope) (all rest rest' : List C.Cons) (x : Written) (made : List Constraint) (e : Fault) → ReadsOn scope all rest made → rest ≡ written x ∷ rest' →
    level_read scope (written_level x.left) ≡ Err e → constraints_of scope all ≡ Err e
left_fault scope all rest rest' x made e r at h = sym r.so_far ∙ rw (at, h) refl

pub right_fault : (scope : Scope) (all rest rest' : List C.Cons) (x : Written) (made : List Constraint) (l : Level) (e : Fault) → ReadsOn scope all rest made → rest ≡ written x ∷ rest' →
    level_read scope (written_level x.left) ≡ Ok l → level_read scope (written_level x.right) ≡ Err e → constraints_of scope all ≡ Err e
right_fault scope all rest rest' x made l e r at told h = sym r.so_far ∙ rw (at, told, h) refl

behind : {A : Type 0} (made here : List A) (R : Reading (List A)) → with_part (λ later. made ++ later) (with_part (λ later. here ++ later) R) ≡ with_part (λ later. (made ++ here) ++ later) R
behind made here (Ok later) = ap Ok (sym (append_assoc made here later))
behind made here (Err e) = refl

one_read : (scope : Scope) (rest rest' : List C.Cons) (x : Written) (made : List Constraint) (l r : Level) → rest ≡ written x ∷ rest' →
    level_read scope (written_level x.left) ≡ Ok l → level_read scope (written_level x.right) ≡ Ok r →
    with_part (λ later. made ++ later) (with_part (λ later. related (written_relation x.relation) l r ++ later) (constraints_of scope rest')) ≡ with_part (λ later. made ++ later) (constraints_of scope rest)
one_read scope rest rest' x made l r at told told' = rw (at, told, told') refl

pub constraint_more : (scope : Scope) (all rest rest' : List C.Cons) (x : Written) (made made' : List Constraint) (l r : Level) → ReadsOn scope all rest made → rest ≡ written x ∷ rest' →
    level_read scope (written_level x.left) ≡ Ok l → level_read scope (written_level x.right) ≡ Ok r → made' ≡ made ++ related (written_relation x.relation) l r →
    ReadsOn scope all rest' made'
constraint_more scope all rest rest' x made made' l r so at told told' is =
    record { so_far = rw is (sym (behind made (related (written_relation x.relation) l r) (constraints_of scope rest')) ∙ one_read scope rest rest' x made l r at told told' ∙ so.so_far) }

none_after : {A : Type 0} (made : List A) → made ++ [] ≡ made
none_after [] = refl
none_after (x ∷ xs) = ap (λ ys. x ∷ ys) (none_after xs)

pub constraints_done : (scope : Scope) (all rest : List C.Cons) (made : List Constraint) → ReadsOn scope all rest made → rest ≡ [] → constraints_of scope all ≡ Ok made
constraints_done scope all rest made r none = sym r.so_far ∙ rw none (ap Ok (none_after made))

pub two_more : (made made' made'' : List Constraint) (l r l' r' : Level) → l' ≡ r → r' ≡ l → made' ≡ made ++ record { left = l; strict = false; right = r } ∷ [] →
    made'' ≡ made' ++ record { left = l'; strict = false; right = r' } ∷ [] → made'' ≡ made ++ related C.equal l r
two_more made made' made'' l r l' r' el er is is' =
    rw (is', is, el, er) (append_assoc made (record { left = l; strict = false; right = r } ∷ []) (record { left = r; strict = false; right = l } ∷ []))

pub drop_here : {A : Type 0} (xs : List A) (i : ℕ) (default : A) → i < length xs → drop i xs ≡ get_or xs i default ∷ drop (i + 1) xs
drop_here xs i default h = rw add-one (drop-cons xs i default h)
