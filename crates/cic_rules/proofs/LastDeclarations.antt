-- A formed environment is taken apart at its last declaration.
use Rattle.std.proofs.Common.{◌≡◌, ◌≢◌, Some, List, [], ◌∷◌, ◌++◌, refl, sym, ap, ◌∙◌, arith, subst}
use Rattle.cic_terms.specs.Tree.{TreeSort, prop, Tree, sort}
use Rattle.cic_names.specs.declared.name.GlobalId.{GlobalId}
use Rattle.cic_rules.specs.Numbering.{Numbering}
use Rattle.cic_rules.specs.Environment.{Environment, Context, Declaration, opaque, Item, declared, environment_ids}
use Rattle.cic_rules.specs.Conversion.{SortAtMost}
use Rattle.cic_rules.specs.Typing.{Typed}
use Rattle.cic_rules.specs.Formed.{WellFormedArguments, well_formed_conclusion, well_formed_argument, WellFormedDeclaration, WellFormedBody, Distinct, Formed, nothing_declared, one_more}

ends_in_something : (E : Environment) (item : Item) → [] ≡ E ++ item ∷ [] → ⊥
ends_in_something [] item e = grind arith
ends_in_something (x ∷ E) item e = grind arith

declarations_of : {d d' : Declaration} → declared d ≡ declared d' → d ≡ d'
declarations_of e = cc

pub last_apart : (E F : Environment) (x y : Item) → E ++ x ∷ [] ≡ F ++ y ∷ [] → (E ≡ F) × (x ≡ y)
last_apart [] [] x y e = let same : x ≡ y = cc in (refl, same)
last_apart [] (f ∷ F) x y e = absurd (ends_in_something F y (rest e))
  where
    rest : {a b : Item} {as_ bs : Environment} → a ∷ as_ ≡ b ∷ bs → as_ ≡ bs
    rest e = cc
last_apart (e ∷ E) [] x y p = absurd (ends_in_something E x (sym (rest p)))
  where
    rest : {a b : Item} {as_ bs : Environment} → a ∷ as_ ≡ b ∷ bs → as_ ≡ bs
    rest e = cc
last_apart (e ∷ E) (f ∷ F) x y p =
    let first : e ≡ f = cc in
    let others = last_apart E F x y (rest p) in
    let front : E ≡ F = others.0 in
    (ap (λ z. z ∷ E) first ∙ ap (λ z. f ∷ z) front, others.1)
  where
    rest : {a b : Item} {as_ bs : Environment} → a ∷ as_ ≡ b ∷ bs → as_ ≡ bs
    rest e = cc

taken_apart : {N : Numbering} {F : Environment} → Formed N F → (E : Environment) (d : Declaration) → F ≡ E ++ declared d ∷ [] → Formed N E × WellFormedDeclaration E N d
taken_apart nothing_declared E d q = absurd (ends_in_something E (declared d) q)
taken_apart {N} (one_more E' d' h e distinct w) E d q =
    let parts = last_apart E' E (declared d') (declared d) (sym e ∙ q) in
    let front : E' ≡ E = parts.0 in
    let last : d' ≡ d = declarations_of parts.1 in
    (subst (Formed N) front h, subst (λ z. WellFormedDeclaration z N d) front (subst (λ z. WellFormedDeclaration E' N z) last w))

pub earlier_are_formed : (E : Environment) (N : Numbering) (d : Declaration) → Formed N (E ++ declared d ∷ []) → Formed N E
earlier_are_formed E N d h = (taken_apart h E d refl).0

pub last_is_right : (E : Environment) (N : Numbering) (d : Declaration) → Formed N (E ++ declared d ∷ []) → WellFormedDeclaration E N d
last_is_right E N d h = (taken_apart h E d refl).1

pub opaque_bodies_have_their_types : (E : Environment) (N : Numbering) (id : GlobalId) (type body : Tree) → Formed N (E ++ declared (opaque id type (Some body)) ∷ []) → Typed E N [] body type
opaque_bodies_have_their_types E N id type body h =
    let right : WellFormedBody E N type body = last_is_right E N (opaque id type (Some body)) h in right.typed

distinct_ids : {N : Numbering} {F : Environment} → Formed N F → Distinct (environment_ids F)
distinct_ids nothing_declared = tt
distinct_ids (one_more E d h e distinct w) = distinct

pub formed_ids_are_distinct : (E : Environment) (N : Numbering) → Formed N E → Distinct (environment_ids E)
formed_ids_are_distinct E N h = distinct_ids h

first_argument : {E : Environment} {N : Numbering} {s : TreeSort} {c : Tree} {G : Context} {ts : List Tree} → WellFormedArguments E N s c G ts → (a : Tree) (as_ : List Tree) → ts ≡ a ∷ as_ → s ≢ prop → (s' : TreeSort) × Typed E N G a (sort s') × SortAtMost N s' s
first_argument (well_formed_conclusion h) a as_ q n = absurd (grind arith)
first_argument {E} {N} {s} {G = G} (well_formed_argument {a = a'} {s' = s'} h below k) a as_ q n =
    let same : a' ≡ a = cc in
    (s', subst (λ z. Typed E N G z (sort s')) same h, below n)

pub arguments_are_at_most_their_type : (E : Environment) (N : Numbering) (G : Context) (s : TreeSort) (conclusion a : Tree) (as_ : List Tree) → s ≢ prop → WellFormedArguments E N s conclusion G (a ∷ as_) → (s' : TreeSort) × Typed E N G a (sort s') × SortAtMost N s' s
arguments_are_at_most_their_type E N G s conclusion a as_ n h = first_argument h a as_ refl n
