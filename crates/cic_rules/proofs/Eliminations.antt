-- A proposition with two constructors or more is eliminated into Prop alone.
use Rattle.std.proofs.Common.{◌≡◌, ℕ, List, [], ◌∷◌, refl, sym, ap, ◌∙◌, arith}
use Rattle.cic_terms.specs.Tree.{TreeSort, prop, set, Tree, sort}
use Rattle.cic_rules.specs.Numbering.{Numbering}
use Rattle.cic_rules.specs.Environment.{Environment, TypeDeclaration, ConstructorDeclaration}
use Rattle.cic_rules.specs.Telescopes.{products, conclusion_of}
use Rattle.cic_rules.specs.Typing.{Eliminated, into_prop, of_no_proposition, without_constructor, of_propositions}

-- What ends products is their conclusion.
ends : (domains : List Tree) (s : TreeSort) → conclusion_of (products domains (sort s)) ≡ sort s
ends [] s = refl
ends (a ∷ as_) s = ends as_ s

sort_inj : {s s' : TreeSort} → sort s ≡ sort s' → s ≡ s'
sort_inj e = cc

only_into_prop : {E : Environment} {N : Numbering} {r : ℕ} {T : TypeDeclaration} {s : TreeSort} → Eliminated E N r T s → (domains : List Tree) (c d : ConstructorDeclaration) (cs : List ConstructorDeclaration) → T.arity ≡ products domains (sort prop) → T.constructors ≡ c ∷ d ∷ cs → s ≡ prop
only_into_prop into_prop domains c d cs a k = refl
only_into_prop (of_no_proposition ds s' e n) domains c d cs a k =
    absurd (n (sort_inj (sym (ends ds s') ∙ ap conclusion_of (sym e ∙ a) ∙ ends domains prop)))
only_into_prop (without_constructor e) domains c d cs a k = let f : ◌≡◌ {A = List ConstructorDeclaration} [] (c ∷ d ∷ cs) = sym e ∙ k in absurd (grind arith)
only_into_prop (of_propositions c' parts e h) domains c d cs a k = let f : c' ∷ [] ≡ c ∷ d ∷ cs = sym e ∙ k in absurd (grind arith)

pub two_constructors_go_into_prop : (E : Environment) (N : Numbering) (r : ℕ) (T : TypeDeclaration) (s : TreeSort) (domains : List Tree) (c d : ConstructorDeclaration) (cs : List ConstructorDeclaration) → T.arity ≡ products domains (sort prop) → T.constructors ≡ c ∷ d ∷ cs → Eliminated E N r T s → s ≡ prop
two_constructors_go_into_prop E N r T s domains c d cs a k h = only_into_prop h domains c d cs a k

pub others_go_everywhere : (E : Environment) (N : Numbering) (r : ℕ) (T : TypeDeclaration) (s : TreeSort) (domains : List Tree) → T.arity ≡ products domains (sort set) → Eliminated E N r T s
others_go_everywhere E N r T s domains a = of_no_proposition domains set a differ
  where
    differ : ◌≡◌ {A = TreeSort} set prop → ⊥
    differ e = grind arith
