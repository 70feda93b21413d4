-- Renaming and substitution of all free variables of a term at once. A renaming is a function from
-- variables to variables, a substitution a function from variables to terms.
use Rattle.std.specs.Prelude.{ℕ, zero, suc, ◌+◌, if◌then◌else◌, ltb, List, [], ◌∷◌, length}
use Rattle.cic_terms.specs.Tree.{Tree, rel, node, Children, no_child, child, over}
use Rattle.cic_rules.specs.Telescopes.{Function}

-- A renaming under one more binder: the variable of the binder stays, and the others go where they went.
unfoldable pub renaming_under_one : (ℕ → ℕ) → ℕ → ℕ
renaming_under_one r zero = zero
renaming_under_one r (suc x) = suc (r x)

-- A renaming under n more binders.
unfoldable pub renaming_under : (n : ℕ) → (ℕ → ℕ) → ℕ → ℕ
renaming_under zero r = r
renaming_under (suc n) r = renaming_under n (renaming_under_one r)

-- The term in which each free variable x is r x.
unfoldable mutual
  pub rename : (ℕ → ℕ) → Tree → Tree
  rename r (rel x) = rel (r x)
  rename r (node f ks) = node f (rename_children r ks)

  pub rename_children : (ℕ → ℕ) → Children → Children
  rename_children r no_child = no_child
  rename_children r (child b t ks) = child b (rename (renaming_under (over b 0) r) t) (rename_children r ks)

-- A substitution under one more binder: the variable of the binder stays, and what is put in for the
-- others is renamed past the binder.
unfoldable pub substitution_under_one : (ℕ → Tree) → ℕ → Tree
substitution_under_one s zero = rel zero
substitution_under_one s (suc x) = rename suc (s x)

-- A substitution under n more binders.
unfoldable pub substitution_under : (n : ℕ) → (ℕ → Tree) → ℕ → Tree
substitution_under zero s = s
substitution_under (suc n) s = substitution_under n (substitution_under_one s)

-- The term with s x put in for each free variable x.
unfoldable mutual
  pub substitute : (ℕ → Tree) → Tree → Tree
  substitute s (rel x) = s x
  substitute s (node f ks) = node f (substitute_children s ks)

  pub substitute_children : (ℕ → Tree) → Children → Children
  substitute_children s no_child = no_child
  substitute_children s (child b t ks) = child b (substitute (substitution_under (over b 0) s) t) (substitute_children s ks)

-- The substitution that puts u in for the innermost variable and takes its binder away.
unfoldable pub for_innermost : Tree → ℕ → Tree
for_innermost u zero = u
for_innermost u (suc x) = rel x

-- The renaming that adds `by` to each variable at or above `from`.
abbrev pub lifted_variable : (from by : ℕ) → ℕ → ℕ
lifted_variable from by x = if ltb x from then x else x + by

-- A substitution in domains, each of which stands under the earlier ones.
abbrev pub substitute_domains : (ℕ → Tree) → List Tree → List Tree
substitute_domains s [] = []
substitute_domains s (a ∷ as_) = substitute s a ∷ substitute_domains (substitution_under_one s) as_

-- A substitution in a function of a Fix, of which there are `all`.
abbrev pub substitute_function : (all : ℕ) → (ℕ → Tree) → Function → Function
substitute_function all s f = record {
  recursive_place = f.recursive_place;
  domains = substitute_domains s f.domains;
  codomain = substitute (substitution_under (length f.domains) s) f.codomain;
  body = substitute (substitution_under (all + length f.domains) s) f.body;
}
