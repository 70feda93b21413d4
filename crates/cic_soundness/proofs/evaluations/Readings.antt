-- What the tests of evaluation have found: the functions of a fixpoint and the branch of a match, in the
-- words of the rules. The steps of evaluation are steps of the rules by these.
use Rattle.std.proofs.Common.{◌≡◌, ℕ, ◌+◌, Bool, true, false, nat_eq, if◌then◌else◌, Option, Some, None, option_and_then, List, [], ◌∷◌, ◌++◌, length, take, drop, refl, sym, ap, ap₂, ◌∙◌, arith, subst}
use Rattle.std.proofs.lemmas.Bool.{eqb-true}
use Rattle.std.proofs.lemmas.List.{length-take, length-drop, length-append}
use Rattle.std.proofs.Math.Seq.{drop-append-add}
use Rattle.cic_terms.specs.Tree.{Shape, FixF, Tree, node, Children, app, ctor, fix}
use Rattle.cic_names.specs.declared.name.GlobalId.{GlobalId}
use Rattle.cic_names.specs.Sameness.{same_id}
use Rattle.cic_counted.specs.Sameness.{same_children}
use Rattle.cic_rules.specs.Environment.{Environment, Constructor, constructor_of, element}
use Rattle.cic_rules.specs.Telescopes.{apply, head_of, substitute_all, BranchParts, branch_at, Function, domain_parts, function_parts, function_shapes, fixpoint, unfolded}
use Rattle.cic_counted.specs.Readings.{arguments_of, trees_of, split_functions, functions_of, tree_at}
use Rattle.cic_counted.specs.Evaluation.{is_constructor, unfolded_at, unfolds, branch_result, selected, matched}
use Rattle.cic_counted.proofs.Decided.{same_children-is}
use Rattle.cic_names.proofs.Equality.{same_id_decides}
use Rattle.cic_counted.proofs.Functions.{trees_of-join, trees_of-domains}
use Rattle.cic_metatheory.proofs.basics.Options.{some_inj}
use Rattle.cic_metatheory.proofs.basics.Applications.{apply_append}

-- Applications
pub apply_head : (t : Tree) → apply (head_of t) (arguments_of t) ≡ t
apply_head (app f u) = apply_append (head_of f) (arguments_of f) u ∙ ap (λ z. app z u) (apply_head f)
apply_head t = refl

pub constructor_is : (t : Tree) → is_constructor t ≡ true → (c : GlobalId) × (t ≡ ctor c)
constructor_is (ctor c) e = (c, refl)
constructor_is t e = absurd (grind arith)

-- The functions of a fixpoint
taken_whole : (n : ℕ) (ts ds : List Tree) (a b : Tree) (R : List Tree) → ds ≡ take n ts → ts ≡ ds ++ (a ∷ b ∷ R) → length ds ≡ n
taken_whole n ts ds a b R d e =
    let p = ap length d ∙ length-take n ts in
    let q = ap length e ∙ length-append ds (a ∷ b ∷ R) in
    omega (arith, p, q)

make_shape : ℕ → ℕ → Shape
make_shape k domains = record { k = k; domains = domains }

split_shapes : (all : ℕ) (ss : List Shape) (ts : List Tree) → ts ≡ trees_of (function_parts all (split_functions ss ts)) → ss ≡ function_shapes (split_functions ss ts)
unfolding make_shape
split_shapes all [] ts e = refl
split_shapes all (s ∷ ss) ts e =
    let ds = take s.domains ts in
    let a = tree_at ts s.domains in
    let b = tree_at ts (s.domains + 1) in
    let R = trees_of (function_parts all (split_functions ss (drop (s.domains + 2) ts))) in
    let parts : ts ≡ ds ++ (a ∷ b ∷ R) = e ∙ trees_of-join (domain_parts 0 ds) _ ∙ ap (λ z. z ++ (a ∷ b ∷ R)) (trees_of-domains 0 ds) in
    let as_long : length ds ≡ s.domains = taken_whole s.domains ts ds a b R refl parts in
    let rest : drop (s.domains + 2) ts ≡ R = ap₂ drop (ap (λ z. z + 2) (sym as_long)) parts ∙ drop-append-add ds (a ∷ b ∷ R) 2 in
    ap₂ ◌∷◌ (ap (make_shape s.k) (sym as_long)) (split_shapes all ss (drop (s.domains + 2) ts) rest)

-- The parts and the shapes that functions were read off are those that they make.
pub record ReadOff (shapes : List Shape) (parts : Children) (fs : List Function) : Type 0 where
  pub shapes_are : shapes ≡ function_shapes fs
  pub parts_are : parts ≡ function_parts (length fs) fs

pub read_off : (shapes : List Shape) (parts : Children) (fs : List Function) → functions_of shapes parts ≡ Some fs → ReadOff shapes parts fs
read_off shapes parts fs e = cases _ refl e
  where
    cases : (test : Bool) → same_children parts (function_parts (length (split_functions shapes (trees_of parts))) (split_functions shapes (trees_of parts))) ≡ test → ◌≡◌ {A = Option (List Function)} (if test then Some (split_functions shapes (trees_of parts)) else None) (Some fs) → ReadOff shapes parts fs
    cases false q e = absurd (grind arith)
    cases true q e =
        let fs_are = some_inj e in
        let parts_are = same_children-is parts _ q in
        let shapes_are = split_shapes _ shapes (trees_of parts) (ap trees_of parts_are) in
        subst (ReadOff shapes parts) fs_are (record { shapes_are = shapes_are; parts_are = parts_are })

-- A term that unfolds under so many arguments is a fixpoint with a function that has its recursive
-- argument at that place.
pub record UnfoldsTo (count : ℕ) (h F : Tree) : Type 0 where
  pub which : ℕ
  pub fs : List Function
  pub f : Function
  pub is : h ≡ fixpoint which fs
  pub at : element fs which ≡ Some f
  pub place : count ≡ f.recursive_place
  pub to : F ≡ unfolded fs f

unfolds_function : (count which : ℕ) (h F : Tree) (fs : List Function) → h ≡ fixpoint which fs → (o : Option Function) → element fs which ≡ o → unfolded_at count fs o ≡ Some F → UnfoldsTo count h F
unfolds_function count which h F fs is None at e = absurd (grind arith)
unfolds_function count which h F fs is (Some f) at e = cases (nat_eq count f.recursive_place) refl e
  where
    cases : (test : Bool) → nat_eq count f.recursive_place ≡ test → ◌≡◌ {A = Option Tree} (if test then Some (unfolded fs f) else None) (Some F) → UnfoldsTo count h F
    cases true q e = record { which = which; fs = fs; f = f; is = is; at = at; place = eqb-true count f.recursive_place q; to = sym (some_inj e) }
    cases false q e = absurd (grind arith)

unfolds_fix : (count which : ℕ) (shapes : List Shape) (parts : Children) (F : Tree) (o : Option (List Function)) → functions_of shapes parts ≡ o → option_and_then (λ fs. unfolded_at count fs (element fs which)) o ≡ Some F → UnfoldsTo count (fix which shapes parts) F
unfolds_fix count which shapes parts F None q e = absurd (grind arith)
unfolds_fix count which shapes parts F (Some fs) q e =
    let r = read_off shapes parts fs q in
    unfolds_function count which (fix which shapes parts) F fs (ap₂ (λ s p. node (FixF which s) p) r.shapes_are r.parts_are) _ refl e

pub unfolds_is : (count : ℕ) (h F : Tree) → unfolds count h ≡ Some F → UnfoldsTo count h F
unfolds_is count (fix which shapes parts) F e = unfolds_fix count which shapes parts F _ refl e
unfolds_is count h F e = absurd (grind arith)

-- A match that selects a branch has a constructor of its type under its parameters and arguments.
pub record Selects (E : Environment) (id : GlobalId) (branches : Children) (us : List Tree) (h b : Tree) : Type 0 where
  pub c : GlobalId
  pub K : Constructor
  pub body : Tree
  pub is : h ≡ ctor c
  pub meant : constructor_of E c ≡ Some K
  pub owner : K.owner ≡ id
  pub count : length (take K.parameters us) ≡ K.parameters
  pub branch : branch_at branches K.place ≡ Some (record { binders = length (drop K.parameters us); body = body })
  pub to : b ≡ substitute_all (drop K.parameters us) body

make_branch : ℕ → Tree → BranchParts
make_branch binders body = record { binders = binders; body = body }

selects_branch : (E : Environment) (id c : GlobalId) (branches : Children) (us : List Tree) (b : Tree) (K : Constructor) → constructor_of E c ≡ Some K → K.owner ≡ id → (o : Option BranchParts) → branch_at branches K.place ≡ o → branch_result K.parameters us o ≡ Some b → Selects E id branches us (ctor c) b
unfolding make_branch
selects_branch E id c branches us b K meant owner None q e = absurd (grind arith)
selects_branch E id c branches us b K meant owner (Some B) q e = cases (nat_eq (length us) (K.parameters + B.binders)) refl e
  where
    cases : (test : Bool) → nat_eq (length us) (K.parameters + B.binders) ≡ test → ◌≡◌ {A = Option Tree} (if test then Some (substitute_all (drop K.parameters us) B.body) else None) (Some b) → Selects E id branches us (ctor c) b
    cases true p e =
        let l = eqb-true (length us) (K.parameters + B.binders) p in
        let binders : B.binders ≡ length (drop K.parameters us) = (let d = length-drop K.parameters us in omega (arith, l, d)) in
        let parameters : length (take K.parameters us) ≡ K.parameters = (let t = length-take K.parameters us in omega (arith, l, t)) in
        record {
          c = c;
          K = K;
          body = B.body;
          is = refl;
          meant = meant;
          owner = owner;
          count = parameters;
          branch = q ∙ ap (λ n. Some (make_branch n B.body)) binders;
          to = sym (some_inj e);
        }
    cases false p e = absurd (grind arith)

selects_constructor : (E : Environment) (id c : GlobalId) (branches : Children) (us : List Tree) (b : Tree) (o : Option Constructor) → constructor_of E c ≡ o → selected id branches us o ≡ Some b → Selects E id branches us (ctor c) b
selects_constructor E id c branches us b None q e = absurd (grind arith)
selects_constructor E id c branches us b (Some K) q e = cases (same_id K.owner id) refl e
  where
    cases : (test : Bool) → same_id K.owner id ≡ test → (if test then branch_result K.parameters us (branch_at branches K.place) else None) ≡ Some b → Selects E id branches us (ctor c) b
    cases true p e = selects_branch E id c branches us b K q ((same_id_decides K.owner id).0 p) _ refl e
    cases false p e = absurd (grind arith)

pub matched_is : (E : Environment) (id : GlobalId) (branches : Children) (us : List Tree) (h b : Tree) → matched E id branches us h ≡ Some b → Selects E id branches us h b
matched_is E id branches us (ctor c) b e = selects_constructor E id c branches us b _ refl e
matched_is E id branches us h b e = absurd (grind arith)
