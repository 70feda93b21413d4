-- What is done with the values so far, the last on top.
use Rattle.std.specs.Prelude.{ℕ, List, [], ◌∷◌, ◌++◌, Option, Some, None}
use Rattle.gal_grammar.specs.Values.{Val, a_binder, a_level, a_name, a_proof, a_qual, a_relation, binders, branches, commands, conses, ctors, flag, functions, groups, inds, maybe_binder, maybe_name, maybe_term, maybe_within, names, quals, term, using}
use Rattle.gal_grammar.specs.Commands.{Command, Flag, How, Using, axiom_of, cons, constraint, ctor, definition, definition_by, finish, fixpoint, ind, inductive, level_of, local_of, no_proof, proof, require, section, theorem, universe, using_names, variable_of}
use Rattle.gal_grammar.specs.Terms.{app, arrow, bound, branch, fix_of, func, function, group, let_in, match_of, prod, ref, type_at, within}

-- what is done with the values: one is put on top, or the topmost ones become one
pub data Act : Type 0 where
  push : Val → Act
  push_below : Val → Act
  bind : Act
  add_binder : Act
  add_name : Act
  add_qual : Act
  add_group : Act
  add_function : Act
  add_branch : Act
  add_ctor : Act
  add_ind : Act
  add_cons : Act
  -- what is at hand takes the place of what was put there for its absence
  set_name : Act
  set_for : Act
  set_as : Act
  set_within : Act
  set_type : Act
  set_using : Using → Act
  set_using_names : Act
  set_flag : Flag → Act
  mk_ref : Act
  mk_type_at : Act
  mk_app : Act
  mk_arrow : Act
  mk_prod : Act
  mk_func : Act
  mk_let : Act
  mk_fix : Act
  mk_match : Act
  mk_level : Act
  mk_proof : How → Act
  mk_no_proof : Act
  -- a command joins those before it
  say_require : Act
  say_universe : Act
  say_constraint : Act
  say_axiom : Act
  say_variable : Act
  say_definition : Act
  say_definition_by : Act
  say_local : Act
  say_fixpoint : Act
  say_inductive : Act
  say_theorem : Act
  say_section : Act
  say_finish : Act

abbrev pub said : Command → List Val → List Val
said c (commands cs ∷ vs) = commands (cs ++ (c ∷ [])) ∷ vs
said c vs = vs

abbrev pub makes : Act → List Val → List Val
makes (push v) vs = v ∷ vs
makes (push_below v) (u ∷ vs) = u ∷ v ∷ vs
makes bind (a_name x ∷ vs) = a_binder (bound x) ∷ vs
makes add_binder (a_binder x ∷ binders xs ∷ vs) = binders (xs ++ (x ∷ [])) ∷ vs
makes add_name (a_name x ∷ names xs ∷ vs) = names (xs ++ (x ∷ [])) ∷ vs
makes add_qual (a_qual x ∷ quals xs ∷ vs) = quals (xs ++ (x ∷ [])) ∷ vs
makes add_group (term A ∷ binders xs ∷ groups g ∷ vs) = groups (group g xs A) ∷ vs
makes add_function (term t ∷ term A ∷ maybe_name s ∷ groups g ∷ a_name f ∷ functions fs ∷ vs) = functions (function fs f g s A t) ∷ vs
makes add_branch (term t ∷ binders xs ∷ a_qual c ∷ branches bs ∷ vs) = branches (branch bs c xs t) ∷ vs
makes add_ctor (maybe_term A ∷ groups g ∷ a_name c ∷ ctors cs ∷ vs) = ctors (cs ++ (ctor c g A ∷ [])) ∷ vs
makes add_ind (ctors cs ∷ term A ∷ groups g ∷ a_name x ∷ inds is ∷ vs) = inds (is ++ (ind x g A cs ∷ [])) ∷ vs
makes add_cons (a_level m ∷ a_relation r ∷ a_level l ∷ conses cs ∷ vs) = conses (cs ++ (cons l r m ∷ [])) ∷ vs
makes set_name (a_name x ∷ maybe_name o ∷ vs) = maybe_name (Some x) ∷ vs
makes set_for (a_name x ∷ functions fs ∷ maybe_name o ∷ vs) = functions fs ∷ maybe_name (Some x) ∷ vs
makes set_as (a_binder x ∷ maybe_binder o ∷ vs) = maybe_binder (Some x) ∷ vs
makes set_within (binders xs ∷ a_qual c ∷ maybe_within o ∷ vs) = maybe_within (Some (within c xs)) ∷ vs
makes set_type (term A ∷ maybe_term o ∷ vs) = maybe_term (Some A) ∷ vs
makes (set_using u) (using o ∷ vs) = using u ∷ vs
makes set_using_names (names xs ∷ using o ∷ vs) = using (using_names xs) ∷ vs
makes (set_flag f) (flag o ∷ vs) = flag f ∷ vs
makes mk_ref (a_qual x ∷ vs) = term (ref x) ∷ vs
makes mk_type_at (a_qual x ∷ term t ∷ vs) = term (type_at x) ∷ vs
makes mk_app (term t ∷ term f ∷ vs) = term (app f t) ∷ vs
makes mk_arrow (term B ∷ term A ∷ vs) = term (arrow A B) ∷ vs
makes mk_prod (term B ∷ groups g ∷ vs) = term (prod g B) ∷ vs
makes mk_func (term t ∷ groups g ∷ vs) = term (func g t) ∷ vs
makes mk_let (term u ∷ term t ∷ term A ∷ groups g ∷ a_name x ∷ vs) = term (let_in x g A t u) ∷ vs
makes mk_fix (functions fs ∷ maybe_name x ∷ vs) = term (fix_of fs x) ∷ vs
makes mk_match (branches bs ∷ term P ∷ maybe_within i ∷ maybe_binder x ∷ term t ∷ vs) = term (match_of t x i P bs) ∷ vs
makes mk_level (a_qual x ∷ vs) = a_level (level_of x) ∷ vs
makes (mk_proof h) (term t ∷ using u ∷ vs) = a_proof (proof u t h) ∷ vs
makes mk_no_proof (using u ∷ vs) = a_proof (no_proof u) ∷ vs
makes say_require (quals xs ∷ flag f ∷ maybe_name p ∷ vs) = said (require p f xs) vs
makes say_universe (names xs ∷ vs) = said (universe xs) vs
makes say_constraint (conses cs ∷ vs) = said (constraint cs) vs
makes say_axiom (groups g ∷ vs) = said (axiom_of g) vs
makes say_variable (groups g ∷ vs) = said (variable_of g) vs
makes say_definition (term t ∷ term A ∷ groups g ∷ a_name x ∷ vs) = said (definition x g A t) vs
makes say_definition_by (a_proof p ∷ term A ∷ groups g ∷ a_name x ∷ vs) = said (definition_by x g A p) vs
makes say_local (term t ∷ term A ∷ groups g ∷ a_name x ∷ vs) = said (local_of x g A t) vs
makes say_fixpoint (functions fs ∷ vs) = said (fixpoint fs) vs
makes say_inductive (inds is ∷ vs) = said (inductive is) vs
makes say_theorem (a_proof p ∷ term A ∷ groups g ∷ a_name x ∷ vs) = said (theorem x g A p) vs
makes say_section (a_name x ∷ vs) = said (section x) vs
makes say_finish (a_name x ∷ vs) = said (finish x) vs
makes _ vs = vs
