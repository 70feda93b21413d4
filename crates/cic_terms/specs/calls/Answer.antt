-- What a call that makes a term answers.
use Rattle.std.specs.Prelude.{ℕ, ◌+◌, List, [], ◌∷◌, ◌++◌, length, take, Vec, Option, None, Some, Result, IfOk, IfErr, OnOk, ◌≡◌, ◌⊎◌}
use Rattle.cic_terms.specs.Tree.{Tree, Children, prod, lam, app, let_in, case, join}
use Rattle.cic_terms.specs.Sizes.{Fits, ChildrenFit}
use Rattle.cic_terms.specs.Mentions.{Mentions, ChildrenMention}
use Rattle.cic_names.specs.declared.name.GlobalId.{GlobalId}
use Rattle.cic_terms.specs.Denotes.{tree, branches, bodies, terms, shapes, shape, shape_list, body_list}
use Rattle.std.specs.declared.rc.Rc.{Rc}
use Rattle.std.specs.declared.alloc.Global.{Global}
use Rattle.cic_terms.specs.declared.term.Term.{Term, Prod', Lam', App', Let', Case'}
use Rattle.cic_terms.specs.declared.term.Terms.{Terms}
use Rattle.cic_terms.specs.declared.term.Branches.{Branches}
use Rattle.cic_terms.specs.declared.term.FixBodies.{FixBodies}
use Rattle.cic_terms.specs.declared.term.FixBody.{FixBody}
use Rattle.cic_terms.specs.declared.term.TermFault.{TermFault}
use Rattle.cic_terms.specs.declared.term.TermFault.TheVariants.{Deep}

-- Ok gives exactly the tree, and Deep comes exactly where it passes the limits.
pub record Makes (room : ℕ) (want : Tree) (result : Result Term TermFault) : Type 0 where
  pub ok : IfOk result (λ t. tree t ≡ want)
  pub fits : OnOk result (Fits room want)
  pub deep : IfErr result (λ fault. fault ≡ Deep → ¬ Fits room want)

-- the tree after a change, which gives nothing where it changes nothing
abbrev pub after : Tree → Option (Rc Term Global) → Tree
after old None = old
after old (Some r) = tree r.value

-- the same of a change
pub record Changes (room : ℕ) (old want : Tree) (result : Result (Option (Rc Term Global)) TermFault) : Type 0 where
  pub ok : IfOk result (λ r. after old r ≡ want)
  pub fits : OnOk result (Fits room want)
  pub deep : IfErr result (λ fault. fault ≡ Deep → ¬ Fits room want)

-- the same behind an `Rc`
pub record MakesShared (room : ℕ) (want : Tree) (result : Result (Rc Term Global) TermFault) : Type 0 where
  pub ok : IfOk result (λ r. tree r.value ≡ want)
  pub fits : OnOk result (Fits room want)
  pub deep : IfErr result (λ fault. fault ≡ Deep → ¬ Fits room want)

-- the same of parts, which `children` reads off
pub record MakesChildren {A : Type 0} (children : A → Children) (room : ℕ) (want : Children) (result : Result A TermFault) : Type 0 where
  pub ok : IfOk result (λ r. children r ≡ want)
  pub fits : OnOk result (ChildrenFit room want)
  pub deep : IfErr result (λ fault. fault ≡ Deep → ¬ ChildrenFit room want)

-- the items of a list that a change has made of the first `count`: the old ones where it changed nothing
abbrev pub so_far : {A : Type 0} → List A → ℕ → Option (Vec A Global) → List A
so_far old count None = take count old
so_far old count (Some made) = made.items

-- the list after a change
abbrev pub terms_after : Terms → Option Terms → Children
terms_after old None = terms old
terms_after old (Some new) = terms new

abbrev pub branches_after : Branches → Option (Rc Branches Global) → Children
branches_after old None = branches old
branches_after old (Some new) = branches new.value

-- the tree of a product, an abstraction or an application after a change of its parts
abbrev pub pair_after : Term → (new_first new_second : Option (Rc Term Global)) → Tree
pair_after (Prod' _ a _ b) new_first new_second = prod (after (tree a) new_first) (after (tree b) new_second)
pair_after (Lam' _ a _ b) new_first new_second = lam (after (tree a) new_first) (after (tree b) new_second)
pair_after (App' _ f _ x) new_first new_second = app (after (tree f) new_first) (after (tree x) new_second)
pair_after t new_first new_second = tree t

-- the tree of a let after a change of its parts, and that of a match
abbrev pub let_after : Term → (new_body new_ty new_rest : Option (Rc Term Global)) → Tree
let_after (Let' _ t _ a _ u) new_body new_ty new_rest = let_in (after (tree t) new_body) (after (tree a) new_ty) (after (tree u) new_rest)
let_after t new_body new_ty new_rest = tree t

abbrev pub case_after : Term → (new_motive new_value : Option (Rc Term Global)) → Option (Rc Branches Global) → Tree
case_after (Case' n id _ p _ c _ bs) new_motive new_value new_branches =
    case id n (after (tree p) new_motive) (after (tree c) new_value) (branches_after bs new_branches)
case_after t new_motive new_value new_branches = tree t

abbrev pub bodies_after : FixBodies → Option (Rc FixBodies Global) → FixBodies
bodies_after old None = old
bodies_after old (Some new) = new.value

abbrev pub body_after : FixBody → Option FixBody → FixBody
body_after old None = old
body_after old (Some new) = new

-- a function after a change of its parts
pub record HasParts (old : FixBody) (new_domains : Option Terms) (new_codomain new_body : Option (Rc Term Global)) (new : FixBody) : Type 0 where
  pub k : new.k ≡ old.k
  pub domains : terms new.domains ≡ terms_after old.domains new_domains
  pub codomain : tree new.codomain ≡ after (tree old.codomain) new_codomain
  pub body : tree new.body ≡ after (tree old.body) new_body

-- the parts of the functions of a Fix after a change, whose shapes stay
pub record MakesBodies (room : ℕ) (old : FixBodies) (want : Children) (result : Result (Option (Rc FixBodies Global)) TermFault) : Type 0 where
  pub shapes : IfOk result (λ r. shapes (bodies_after old r) ≡ shapes old)
  pub children : MakesChildren (λ r. bodies (bodies_after old r)) room want result

-- one function more, with its parts after a change, behind those that the change has made of the first `i`
pub record MakesBody (room i : ℕ) (old : List FixBody) (one : FixBody) (want : Children) (made made' : Option (Vec FixBody Global)) (result : Result (Unit {0}) TermFault) : Type 0 where
  pub shapes : OnOk result (shape_list (so_far old (i + 1) made') ≡ shape_list (so_far old i made) ++ shape one ∷ [])
  pub parts : OnOk result (body_list (length old) (so_far old (i + 1) made') ≡ join (body_list (length old) (so_far old i made)) want)
  pub fits : OnOk result (ChildrenFit room want)
  pub deep : IfErr result (λ fault. fault ≡ Deep → ¬ ChildrenFit room want)

-- the same function, as far as its tree goes, and the same functions
pub record SameParts (a b : FixBody) : Type 0 where
  pub k : a.k ≡ b.k
  pub domains : terms a.domains ≡ terms b.domains
  pub codomain : tree a.codomain ≡ tree b.codomain
  pub body : tree a.body ≡ tree b.body

-- the same, one by one
abbrev pub AreSame : List FixBody → List FixBody → Type 0
AreSame [] [] = Unit {0}
AreSame [] (b ∷ bs) = ⊥
AreSame (a ∷ xs) [] = ⊥
AreSame (a ∷ xs) (b ∷ ys) = SameParts a b × AreSame xs ys

-- the same, where the parts of the function are given
pub record AddsBody (i : ℕ) (old : List FixBody) (one : FixBody) (made made' : Option (Vec FixBody Global)) (new_domains : Option Terms) (new_codomain new_body : Option (Rc Term Global)) : Type 0 where
  pub added : FixBody
  pub has_parts : HasParts one new_domains new_codomain new_body added
  pub is_last : AreSame (so_far old (i + 1) made') (so_far old i made ++ added ∷ [])

-- the functions of a Fix are those that were made
abbrev pub AreWhole : Option (Vec FixBody Global) → Option (Rc FixBodies Global) → Type 0
AreWhole None None = Unit {0}
AreWhole (Some made) (Some r) = (shapes r.value ≡ shape_list made.items) × (bodies r.value ≡ body_list (length made.items) made.items)
AreWhole made r = ⊥

pub record SameBodies (a b : FixBodies) : Type 0 where
  pub shapes : shapes a ≡ shapes b
  pub parts : bodies a ≡ bodies b

abbrev pub PartsMention : GlobalId → FixBody → Type 0
PartsMention id b = ChildrenMention id (terms b.domains) ⊎ Mentions id (tree b.codomain) ⊎ Mentions id (tree b.body)
