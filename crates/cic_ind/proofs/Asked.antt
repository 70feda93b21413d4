-- What the check of a match asks of a sort, by the sorts that the type eliminates into.
use Rattle.std.proofs.Common.{◌≡◌, ℕ, Bool, true, false, not, ◌||◌, if◌then◌else◌, List, [], ◌∷◌, drop, take, refl, ap}
use Rattle.cic_names.specs.declared.name.GlobalId.{GlobalId}
use Rattle.cic_terms.specs.Tree.{TreeSort}
use Rattle.cic_rules.specs.Environment.{ConstructorDeclaration, TypeDeclaration}
use Rattle.cic_rules.specs.Telescopes.{conclusion_of, domains_of, extend}
use Rattle.cic_counted.specs.Inference.{Calls, all_propositions, eliminates, eliminates_constructors, ends_in_prop, is_prop}
use Rattle.cic_counted.specs.Outcome.{Counted, bad_elimination, give, refuse}
use Rattle.cic_ind.specs.Eliminations.{targets, targets_of_proposition}
use Rattle.cic_ind.specs.declared.eliminations.Targets.{Targets}
use Rattle.cic_ind.specs.declared.eliminations.Targets.TheVariants.{All, PropOnly, IfArgumentsProp}

-- A type by whether it is a proposition, a sort by whether it is Prop, and the constructors
asked : Calls → GlobalId → (r : ℕ) → (proposition prop : Bool) → List ConstructorDeclaration → Counted (Unit {0})
asked calls id r proposition prop cs = if not proposition || prop then give tt else eliminates_constructors calls id r cs

into : (proposition : Bool) → List ConstructorDeclaration → Targets
into proposition cs = if proposition then targets_of_proposition cs else All

either : (b : Bool) (x : Counted (Unit {0})) → (if b then x else x) ≡ x
either true x = refl
either false x = refl

all_of : (calls : Calls) (id : GlobalId) (r : ℕ) (p s : Bool) (cs : List ConstructorDeclaration) → into p cs ≡ All → asked calls id r p s cs ≡ give tt
unfolding into asked
all_of calls id r false s cs e = refl
all_of calls id r true s [] e = either s (give tt)
all_of calls id r true s (c ∷ []) e = cc
all_of calls id r true s (c ∷ d ∷ cs) e = cc

prop_of : (calls : Calls) (id : GlobalId) (r : ℕ) (p s : Bool) (cs : List ConstructorDeclaration) → into p cs ≡ PropOnly → asked calls id r p s cs ≡ (if s then give tt else refuse (bad_elimination id))
unfolding into asked
prop_of calls id r false s cs e = cc
prop_of calls id r true s [] e = cc
prop_of calls id r true s (c ∷ []) e = cc
prop_of calls id r true s (c ∷ d ∷ cs) e = refl

arguments_of_one : (calls : Calls) (id : GlobalId) (r : ℕ) (p s : Bool) (cs : List ConstructorDeclaration) (c : ConstructorDeclaration) → into p cs ≡ IfArgumentsProp → cs ≡ c ∷ [] →
    asked calls id r p s cs ≡ (if s then give tt else all_propositions calls id (extend [] (take r (domains_of c.type))) (drop r (domains_of c.type)))
unfolding into asked
arguments_of_one calls id r false s cs c e f = cc
arguments_of_one calls id r true s cs c e f = ap (λ l. if s then give tt else eliminates_constructors calls id r l) f

one_of : (p : Bool) (cs : List ConstructorDeclaration) → into p cs ≡ IfArgumentsProp → (c : ConstructorDeclaration) × (cs ≡ c ∷ [])
unfolding into
one_of false cs e = absurd cc
one_of true [] e = absurd cc
one_of true (c ∷ []) e = (c, refl)
one_of true (c ∷ d ∷ cs) e = absurd cc

pub asks_nothing : (calls : Calls) (id : GlobalId) (r : ℕ) (t : TypeDeclaration) (s : TreeSort) → targets t ≡ All → eliminates calls id r t s ≡ give tt
unfolding into asked
asks_nothing calls id r t s e = all_of calls id r (ends_in_prop (conclusion_of t.arity)) (is_prop s) t.constructors e

pub asks_prop : (calls : Calls) (id : GlobalId) (r : ℕ) (t : TypeDeclaration) (s : TreeSort) → targets t ≡ PropOnly → eliminates calls id r t s ≡ (if is_prop s then give tt else refuse (bad_elimination id))
unfolding into asked
asks_prop calls id r t s e = prop_of calls id r (ends_in_prop (conclusion_of t.arity)) (is_prop s) t.constructors e

pub asks_arguments : (calls : Calls) (id : GlobalId) (r : ℕ) (t : TypeDeclaration) (s : TreeSort) (c : ConstructorDeclaration) → targets t ≡ IfArgumentsProp → t.constructors ≡ c ∷ [] →
    eliminates calls id r t s ≡ (if is_prop s then give tt else all_propositions calls id (extend [] (take r (domains_of c.type))) (drop r (domains_of c.type)))
unfolding into asked
asks_arguments calls id r t s c e f = arguments_of_one calls id r (ends_in_prop (conclusion_of t.arity)) (is_prop s) t.constructors c e f

pub has_one : (t : TypeDeclaration) → targets t ≡ IfArgumentsProp → (c : ConstructorDeclaration) × (t.constructors ≡ c ∷ [])
unfolding into
has_one t e = one_of (ends_in_prop (conclusion_of t.arity)) t.constructors e
