-- What the laws of the guard of a Fix speak of: environments that show the same blocks, what may be put in
-- for a marked variable, and the functions of a Fix under a renaming or a substitution.
use Rattle.std.specs.Prelude.{ℕ, ◌+◌, ◌≡◌, ◌≢◌, Some, List, [], ◌∷◌, length, map}
use Rattle.cic_terms.specs.Tree.{Former, Binders, over, Tree, rel, node, Children, no_child, child}
use Rattle.cic_names.specs.declared.name.GlobalId.{GlobalId}
use Rattle.cic_rules.specs.Environment.{Environment, TypeInBlock, whole_block}
use Rattle.cic_rules.specs.Telescopes.{Function}
use Rattle.cic_rules.specs.Guard.{Mark, plain, function, Marks, under_plain}
use Rattle.cic_metatheory.specs.Substitution.{renaming_under_one, renaming_under, rename, substitute_function}

-- Each whole block that E shows, E' shows alike. The guard looks at an environment by this lookup alone.
abbrev pub ShowsBlocks : Environment → Environment → Type 0
ShowsBlocks E E' = (c : GlobalId) (t : TypeInBlock) → whole_block E c ≡ Some t → whole_block E' c ≡ Some t

-- No free variable of a term is a function of the Fix.
mutual
  pub data WithoutFunctions : Marks → Tree → Type 0 where
    no_function : {marks : Marks} {x : ℕ} →
        ((j : ℕ) → marks x ≢ function j) →
        WithoutFunctions marks (rel x)
    in_no_part : {marks : Marks} {f : Former} {ks : Children} →
        PartsWithoutFunctions marks ks →
        WithoutFunctions marks (node f ks)

  pub data PartsWithoutFunctions : Marks → Children → Type 0 where
    no_part : {marks : Marks} →
        PartsWithoutFunctions marks no_child
    part_without : {marks : Marks} {b : Binders} {t : Tree} {ks : Children} →
        WithoutFunctions (under_plain (over b 0) marks) t →
        PartsWithoutFunctions marks ks →
        PartsWithoutFunctions marks (child b t ks)

-- What may be put in for a variable with a mark: for one that is plain, a term without functions; for
-- each, a variable with the same mark.
pub data RespectsMark (marks : Marks) : Mark → Tree → Type 0 where
  for_plain : {t : Tree} →
      WithoutFunctions marks t →
      RespectsMark marks plain t
  same_mark : {m : Mark} {y : ℕ} →
      marks y ≡ m →
      RespectsMark marks m (rel y)

-- A renaming, and a substitution, leads from some marks to others.
abbrev pub KeepsMarks : (ℕ → ℕ) → Marks → Marks → Type 0
KeepsMarks r marks marks' = (x : ℕ) → marks' (r x) ≡ marks x

abbrev pub RespectsMarks : (ℕ → Tree) → Marks → Marks → Type 0
RespectsMarks s marks marks' = (x : ℕ) → RespectsMark marks' (marks x) (s x)

-- A renaming in domains, each of which stands under the earlier ones.
abbrev pub rename_domains : (ℕ → ℕ) → List Tree → List Tree
rename_domains r [] = []
rename_domains r (a ∷ as_) = rename r a ∷ rename_domains (renaming_under_one r) as_

-- The same in a function of a Fix with `all` functions: the codomain stands under the domains, the body
-- under all functions and then the domains.
abbrev pub rename_function : (all : ℕ) → (ℕ → ℕ) → Function → Function
rename_function all r f = record {
  recursive_place = f.recursive_place;
  domains = rename_domains r f.domains;
  codomain = rename (renaming_under (length f.domains) r) f.codomain;
  body = rename (renaming_under (all + length f.domains) r) f.body;
}

-- A renaming, and a substitution, in all functions of a Fix.
abbrev pub rename_functions : (ℕ → ℕ) → List Function → List Function
rename_functions r fs = map (rename_function (length fs) r) fs

abbrev pub substitute_functions : (ℕ → Tree) → List Function → List Function
substitute_functions s fs = map (substitute_function (length fs) s) fs
