-- Elimination by the sorts into which the type eliminates.
use Rattle.std.proofs.Common.{◌≡◌, ℕ, Bool, true, false, not, ◌||◌, if◌then◌else◌, List, [], ◌∷◌, length, refl, sym, ◌∙◌, arith}
use Rattle.cic_terms.specs.Tree.{TreeSort}
use Rattle.cic_names.specs.declared.name.GlobalId.{GlobalId}
use Rattle.cic_rules.specs.Environment.{ConstructorDeclaration, TypeDeclaration}
use Rattle.cic_rules.specs.Telescopes.{conclusion_of}
use Rattle.cic_counted.specs.Inference.{Calls, eliminates, eliminates_constructors, ends_in_prop, is_prop}
use Rattle.cic_counted.specs.Outcome.{Budget, Counted, done, stops, refused, bad_elimination, give}
use Rattle.cic_ind.specs.Eliminations.{targets, targets_of_proposition}
use Rattle.cic_ind.specs.declared.eliminations.Targets.{Targets}
use Rattle.cic_ind.specs.declared.eliminations.Targets.TheVariants.{All, PropOnly, IfArgumentsProp}

prop_at : (e p : Bool) (m : Counted (Unit {0})) (b : Budget) → p ≡ true → (if not e || p then give tt else m) b ≡ done tt b
prop_at true p m b h = rw h refl
prop_at false p m b h = refl

pub into_prop : (calls : Calls) (id : GlobalId) (r : ℕ) (t : TypeDeclaration) (s : TreeSort) (b : Budget) → is_prop s ≡ true → eliminates calls id r t s b ≡ done tt b
into_prop calls id r t s b h = prop_at (ends_in_prop (conclusion_of t.arity)) (is_prop s) (eliminates_constructors calls id r t.constructors) b h

all_of : (calls : Calls) (id : GlobalId) (r : ℕ) (cs : List ConstructorDeclaration) (b : Budget) → targets_of_proposition cs ≡ All → eliminates_constructors calls id r cs b ≡ done tt b
all_of calls id r [] b h = refl
all_of calls id r (c ∷ []) b h = absurd (grind arith)
all_of calls id r (c ∷ d ∷ cs) b h = absurd (grind arith)

all_at : (e p : Bool) (calls : Calls) (id : GlobalId) (r : ℕ) (cs : List ConstructorDeclaration) (b : Budget) → (if e then targets_of_proposition cs else All) ≡ All →
    (if not e || p then give tt else eliminates_constructors calls id r cs) b ≡ done tt b
all_at true true calls id r cs b h = refl
all_at true false calls id r cs b h = all_of calls id r cs b h
all_at false p calls id r cs b h = refl

pub into_all : (calls : Calls) (id : GlobalId) (r : ℕ) (t : TypeDeclaration) (s : TreeSort) (b : Budget) → targets t ≡ All → eliminates calls id r t s b ≡ done tt b
into_all calls id r t s b h = all_at (ends_in_prop (conclusion_of t.arity)) (is_prop s) calls id r t.constructors b h

-- A type of another kind is a proposition, so its constructors decide.
constructors_at : (e p : Bool) (m : Counted (Unit {0})) (cs : List ConstructorDeclaration) (b : Budget) → p ≡ false → ¬ ((if e then targets_of_proposition cs else All) ≡ All) →
    (if not e || p then give tt else m) b ≡ m b
constructors_at true p m cs b h k = rw h refl
constructors_at false p m cs b h k = absurd (k refl)

constructors_decide : (calls : Calls) (id : GlobalId) (r : ℕ) (t : TypeDeclaration) (s : TreeSort) (b : Budget) → is_prop s ≡ false → ¬ (targets t ≡ All) →
    eliminates calls id r t s b ≡ eliminates_constructors calls id r t.constructors b
constructors_decide calls id r t s b h k =
    constructors_at (ends_in_prop (conclusion_of t.arity)) (is_prop s) (eliminates_constructors calls id r t.constructors) t.constructors b h k

several : (calls : Calls) (id : GlobalId) (r : ℕ) (cs : List ConstructorDeclaration) (b : Budget) → targets_of_proposition cs ≡ PropOnly →
    eliminates_constructors calls id r cs b ≡ stops (refused (bad_elimination id))
several calls id r [] b h = absurd (grind arith)
several calls id r (c ∷ []) b h = absurd (grind arith)
several calls id r (c ∷ d ∷ cs) b h = refl

of_proposition : (e : Bool) (cs : List ConstructorDeclaration) (to : Targets) → ¬ (to ≡ All) → (if e then targets_of_proposition cs else All) ≡ to → targets_of_proposition cs ≡ to
of_proposition true cs to k h = h
of_proposition false cs to k h = absurd (k (sym h))

prop_is_not_all : ¬ (PropOnly ≡ All)
prop_is_not_all e = grind arith

arguments_are_not_all : ¬ (IfArgumentsProp ≡ All)
arguments_are_not_all e = grind arith

pub into_prop_only : (calls : Calls) (id : GlobalId) (r : ℕ) (t : TypeDeclaration) (s : TreeSort) (b : Budget) → is_prop s ≡ false → targets t ≡ PropOnly →
    eliminates calls id r t s b ≡ stops (refused (bad_elimination id))
into_prop_only calls id r t s b h e =
    constructors_decide calls id r t s b h (λ k. prop_is_not_all (sym e ∙ k))
    ∙ several calls id r t.constructors b (of_proposition (ends_in_prop (conclusion_of t.arity)) t.constructors PropOnly prop_is_not_all e)

pub by_arguments : (calls : Calls) (id : GlobalId) (r : ℕ) (t : TypeDeclaration) (s : TreeSort) (b : Budget) → is_prop s ≡ false → targets t ≡ IfArgumentsProp →
    eliminates calls id r t s b ≡ eliminates_constructors calls id r t.constructors b
by_arguments calls id r t s b h e = constructors_decide calls id r t s b h (λ k. arguments_are_not_all (sym e ∙ k))

-- A type whose arguments decide has one constructor.
one_of : (cs : List ConstructorDeclaration) → targets_of_proposition cs ≡ IfArgumentsProp → length cs ≡ 1
one_of [] h = absurd (grind arith)
one_of (c ∷ []) h = refl
one_of (c ∷ d ∷ cs) h = absurd (grind arith)

pub has_one : (t : TypeDeclaration) → targets t ≡ IfArgumentsProp → length t.constructors ≡ 1
has_one t e = one_of t.constructors (of_proposition (ends_in_prop (conclusion_of t.arity)) t.constructors IfArgumentsProp arguments_are_not_all e)
