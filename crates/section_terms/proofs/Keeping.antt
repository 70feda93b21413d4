-- A declaration that names nothing of the section is kept.
use Rattle.std.proofs.Common.{◌≡◌, ℕ, Option, Some, None, option_map, List, [], ◌∷◌, ◌++◌, map, refl, ap, ap₂, ◌∙◌, arith}
use Rattle.std.proofs.lemmas.Bool.Decides.{nat_tests}
use Rattle.cic_names.specs.declared.name.GlobalId.{GlobalId}
use Rattle.cic_terms.specs.Tree.{Former, ConstF, IndF, CtorF, Tree, rel, node, Children, no_child, child, over, const, ind, ctor}
use Rattle.cic_terms.specs.Lift.{lift_tree}
use Rattle.cic_rules.specs.Telescopes.{apply}
use Rattle.cic_rules.specs.Environment.{ConstructorDeclaration, TypeDeclaration, Declaration, axiom_of, transparent, opaque, inductive}
use Rattle.section_terms.specs.Names.{name_of, names_in, names_in_parts, renamed, replace_names, replace_in_parts}
use Rattle.section_terms.specs.Used.{names_in_body, names_in_constructors, names_in_types, statement_names, body_names}
use Rattle.section_terms.specs.Discharge.{with_arguments, applied, generalised_constructor, generalised_type_declaration, generalised}
use Rattle.section_terms.specs.Laws.{HaveNoArguments}

abbrev Arguments : Type 0
Arguments = GlobalId → List GlobalId

pub first_names : (arguments : Arguments) (xs ys : List GlobalId) → HaveNoArguments arguments (xs ++ ys) → HaveNoArguments arguments xs
first_names arguments [] ys h = tt
first_names arguments (x ∷ xs) ys h = (h.0, first_names arguments xs ys h.1)

pub last_names : (arguments : Arguments) (xs ys : List GlobalId) → HaveNoArguments arguments (xs ++ ys) → HaveNoArguments arguments ys
last_names arguments [] ys h = h
last_names arguments (x ∷ xs) ys h = last_names arguments xs ys h.1

applied_to_none : (arguments : Arguments) (id : GlobalId) (t : Tree) → arguments id ≡ [] → apply t (map (λ x. const x) (arguments id)) ≡ t
applied_to_none arguments id t e = ap (λ (xs : List GlobalId). apply t (map (λ x. const x) xs)) e

renamed_kept : (arguments : Arguments) (at : ℕ) (f : Former) (ks : Children) → HaveNoArguments arguments (name_of f) → renamed (with_arguments arguments) at f ks ≡ node f ks
renamed_kept arguments at (ConstF id) no_child h = ap (lift_tree 0 at) (applied_to_none arguments id (const id) h.0)
renamed_kept arguments at (IndF id) no_child h = ap (lift_tree 0 at) (applied_to_none arguments id (ind id) h.0)
renamed_kept arguments at (CtorF id) no_child h = ap (lift_tree 0 at) (applied_to_none arguments id (ctor id) h.0)
renamed_kept arguments at f ks h = refl

kept_rel : (arguments : Arguments) (at n : ℕ) → replace_names (with_arguments arguments) 0 at (rel n) ≡ rel n
kept_rel arguments at n = grind (arith, nat_tests)

mutual
  pub kept : (arguments : Arguments) (at : ℕ) (t : Tree) → HaveNoArguments arguments (names_in t) → replace_names (with_arguments arguments) 0 at t ≡ t
  kept arguments at (rel n) h = kept_rel arguments at n
  kept arguments at (node f ks) h =
      renamed_kept arguments at f (replace_in_parts (with_arguments arguments) 0 at ks) (first_names arguments (name_of f) (names_in_parts ks) h)
      ∙ ap (node f) (kept_parts arguments at ks (last_names arguments (name_of f) (names_in_parts ks) h))

  kept_parts : (arguments : Arguments) (at : ℕ) (ks : Children) → HaveNoArguments arguments (names_in_parts ks) → replace_in_parts (with_arguments arguments) 0 at ks ≡ ks
  kept_parts arguments at no_child h = refl
  kept_parts arguments at (child b t ks) h =
      ap₂ (child b) (kept arguments (over b at) t (first_names arguments (names_in t) (names_in_parts ks) h))
      (kept_parts arguments at ks (last_names arguments (names_in t) (names_in_parts ks) h))

kept_body : (arguments : Arguments) (body : Option Tree) → HaveNoArguments arguments (names_in_body body) → option_map (applied arguments) body ≡ body
kept_body arguments None h = refl
kept_body arguments (Some t) h = ap Some (kept arguments 0 t h)

abbrev constructor_with : GlobalId → Tree → ConstructorDeclaration
constructor_with id t = record { id = id; type = t }

kept_constructors : (arguments : Arguments) (cs : List ConstructorDeclaration) → HaveNoArguments arguments (names_in_constructors cs) → map (generalised_constructor arguments []) cs ≡ cs
kept_constructors arguments [] h = refl
kept_constructors arguments (c ∷ cs) h =
    ap₂ ◌∷◌ (ap (constructor_with c.id) (kept arguments 0 c.type (first_names arguments (names_in c.type) (names_in_constructors cs) h)))
    (kept_constructors arguments cs (last_names arguments (names_in c.type) (names_in_constructors cs) h))

abbrev type_with : GlobalId → Tree → List ConstructorDeclaration → TypeDeclaration
type_with id arity cs = record { id = id; arity = arity; constructors = cs }

kept_types : (arguments : Arguments) (ts : List TypeDeclaration) → HaveNoArguments arguments (names_in_types ts) → map (generalised_type_declaration arguments []) ts ≡ ts
kept_types arguments [] h = refl
kept_types arguments (t ∷ ts) h =
    let own : List GlobalId = names_in t.arity ++ names_in_constructors t.constructors in
    let first = first_names arguments own (names_in_types ts) h in
    ap₂ ◌∷◌
    (ap₂ (type_with t.id) (kept arguments 0 t.arity (first_names arguments (names_in t.arity) (names_in_constructors t.constructors) first))
    (kept_constructors arguments t.constructors (last_names arguments (names_in t.arity) (names_in_constructors t.constructors) first)))
    (kept_types arguments ts (last_names arguments own (names_in_types ts) h))

abbrev block_with : ℕ → List TypeDeclaration → Declaration
block_with n ts = inductive (record { parameters = n; types = ts })

pub kept_as_it_is : (arguments : Arguments) (d : Declaration) → HaveNoArguments arguments (statement_names d ++ body_names d) → generalised arguments [] d ≡ d
kept_as_it_is arguments (axiom_of id type) h = ap (axiom_of id) (kept arguments 0 type (first_names arguments (names_in type) [] h))
kept_as_it_is arguments (transparent id type body) h =
    ap₂ (transparent id) (kept arguments 0 type (first_names arguments (names_in type) (names_in body) h)) (kept arguments 0 body (last_names arguments (names_in type) (names_in body) h))
kept_as_it_is arguments (opaque id type body) h =
    ap₂ (opaque id) (kept arguments 0 type (first_names arguments (names_in type) (names_in_body body) h)) (kept_body arguments body (last_names arguments (names_in type) (names_in_body body) h))
kept_as_it_is arguments (inductive block) h =
    ap₂ block_with (omega arith) (kept_types arguments block.types (first_names arguments (names_in_types block.types) [] h))
