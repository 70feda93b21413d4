-- The values of a reading by their kinds, and what the actions do to them.
use Rattle.std.proofs.Common.{ℕ, suc, List, [], ◌∷◌, ◌++◌, ◌≡◌, length, Option, Some, None, map, refl, ap, ◌∙◌}
use Rattle.std.proofs.lemmas.Option.{same_Some}
use Rattle.gal_grammar.specs.Commands.{Command, require, universe, constraint, axiom_of, variable_of, definition, definition_by, local_of, fixpoint, inductive, theorem, section, finish}
use Rattle.gal_grammar.specs.Values.{Val, a_name, a_qual, a_binder, names, quals, binders, maybe_name, maybe_binder, maybe_within, term, maybe_term, groups, functions, branches, ctors, inds, a_level, a_relation, conses, flag, using, a_proof, commands}
use Rattle.gal_grammar.specs.Actions.{Act, makes, push, push_below, bind, add_binder, add_name, add_qual, add_group, add_function, add_branch, add_ctor, add_ind, add_cons, set_name, set_for, set_as, set_within, set_type, set_using, set_using_names, set_flag, mk_ref, mk_type_at, mk_app, mk_arrow, mk_prod, mk_func, mk_let, mk_fix, mk_match, mk_level, mk_proof, mk_no_proof, say_require, say_universe, say_constraint, say_axiom, say_variable, say_definition, say_definition_by, say_local, say_fixpoint, say_inductive, say_theorem, say_section, say_finish}

-- the kind of a value; of commands, how many
pub data Tag : Type 0 where
  t_name : Tag
  t_qual : Tag
  t_binder : Tag
  t_names : Tag
  t_quals : Tag
  t_binders : Tag
  t_maybe_name : Tag
  t_maybe_binder : Tag
  t_maybe_within : Tag
  t_term : Tag
  t_maybe_term : Tag
  t_groups : Tag
  t_functions : Tag
  t_branches : Tag
  t_ctors : Tag
  t_inds : Tag
  t_level : Tag
  t_relation : Tag
  t_conses : Tag
  t_flag : Tag
  t_using : Tag
  t_proof : Tag
  t_commands : ℕ → Tag

abbrev pub tag : Val → Tag
tag (a_name x) = t_name
tag (a_qual x) = t_qual
tag (a_binder x) = t_binder
tag (names x) = t_names
tag (quals x) = t_quals
tag (binders x) = t_binders
tag (maybe_name x) = t_maybe_name
tag (maybe_binder x) = t_maybe_binder
tag (maybe_within x) = t_maybe_within
tag (term x) = t_term
tag (maybe_term x) = t_maybe_term
tag (groups x) = t_groups
tag (functions x) = t_functions
tag (branches x) = t_branches
tag (ctors x) = t_ctors
tag (inds x) = t_inds
tag (a_level x) = t_level
tag (a_relation x) = t_relation
tag (conses x) = t_conses
tag (flag x) = t_flag
tag (using x) = t_using
tag (a_proof x) = t_proof
tag (commands cs) = t_commands (length cs)

abbrev pub act_tags : Act → List Tag → Option (List Tag)
act_tags (push v) σ = Some (tag v ∷ σ)
act_tags (push_below v) (u ∷ σ) = Some (u ∷ tag v ∷ σ)
act_tags bind (t_name ∷ σ) = Some (t_binder ∷ σ)
act_tags add_binder (t_binder ∷ t_binders ∷ σ) = Some (t_binders ∷ σ)
act_tags add_name (t_name ∷ t_names ∷ σ) = Some (t_names ∷ σ)
act_tags add_qual (t_qual ∷ t_quals ∷ σ) = Some (t_quals ∷ σ)
act_tags add_group (t_term ∷ t_binders ∷ t_groups ∷ σ) = Some (t_groups ∷ σ)
act_tags add_function (t_term ∷ t_term ∷ t_maybe_name ∷ t_groups ∷ t_name ∷ t_functions ∷ σ) = Some (t_functions ∷ σ)
act_tags add_branch (t_term ∷ t_binders ∷ t_qual ∷ t_branches ∷ σ) = Some (t_branches ∷ σ)
act_tags add_ctor (t_maybe_term ∷ t_groups ∷ t_name ∷ t_ctors ∷ σ) = Some (t_ctors ∷ σ)
act_tags add_ind (t_ctors ∷ t_term ∷ t_groups ∷ t_name ∷ t_inds ∷ σ) = Some (t_inds ∷ σ)
act_tags add_cons (t_level ∷ t_relation ∷ t_level ∷ t_conses ∷ σ) = Some (t_conses ∷ σ)
act_tags set_name (t_name ∷ t_maybe_name ∷ σ) = Some (t_maybe_name ∷ σ)
act_tags set_for (t_name ∷ t_functions ∷ t_maybe_name ∷ σ) = Some (t_functions ∷ t_maybe_name ∷ σ)
act_tags set_as (t_binder ∷ t_maybe_binder ∷ σ) = Some (t_maybe_binder ∷ σ)
act_tags set_within (t_binders ∷ t_qual ∷ t_maybe_within ∷ σ) = Some (t_maybe_within ∷ σ)
act_tags set_type (t_term ∷ t_maybe_term ∷ σ) = Some (t_maybe_term ∷ σ)
act_tags (set_using u) (t_using ∷ σ) = Some (t_using ∷ σ)
act_tags set_using_names (t_names ∷ t_using ∷ σ) = Some (t_using ∷ σ)
act_tags (set_flag u) (t_flag ∷ σ) = Some (t_flag ∷ σ)
act_tags mk_ref (t_qual ∷ σ) = Some (t_term ∷ σ)
act_tags mk_type_at (t_qual ∷ t_term ∷ σ) = Some (t_term ∷ σ)
act_tags mk_app (t_term ∷ t_term ∷ σ) = Some (t_term ∷ σ)
act_tags mk_arrow (t_term ∷ t_term ∷ σ) = Some (t_term ∷ σ)
act_tags mk_prod (t_term ∷ t_groups ∷ σ) = Some (t_term ∷ σ)
act_tags mk_func (t_term ∷ t_groups ∷ σ) = Some (t_term ∷ σ)
act_tags mk_let (t_term ∷ t_term ∷ t_term ∷ t_groups ∷ t_name ∷ σ) = Some (t_term ∷ σ)
act_tags mk_fix (t_functions ∷ t_maybe_name ∷ σ) = Some (t_term ∷ σ)
act_tags mk_match (t_branches ∷ t_term ∷ t_maybe_within ∷ t_maybe_binder ∷ t_term ∷ σ) = Some (t_term ∷ σ)
act_tags mk_level (t_qual ∷ σ) = Some (t_level ∷ σ)
act_tags (mk_proof u) (t_term ∷ t_using ∷ σ) = Some (t_proof ∷ σ)
act_tags mk_no_proof (t_using ∷ σ) = Some (t_proof ∷ σ)
act_tags say_require (t_quals ∷ t_flag ∷ t_maybe_name ∷ t_commands n ∷ σ) = Some (t_commands (suc n) ∷ σ)
act_tags say_universe (t_names ∷ t_commands n ∷ σ) = Some (t_commands (suc n) ∷ σ)
act_tags say_constraint (t_conses ∷ t_commands n ∷ σ) = Some (t_commands (suc n) ∷ σ)
act_tags say_axiom (t_groups ∷ t_commands n ∷ σ) = Some (t_commands (suc n) ∷ σ)
act_tags say_variable (t_groups ∷ t_commands n ∷ σ) = Some (t_commands (suc n) ∷ σ)
act_tags say_definition (t_term ∷ t_term ∷ t_groups ∷ t_name ∷ t_commands n ∷ σ) = Some (t_commands (suc n) ∷ σ)
act_tags say_definition_by (t_proof ∷ t_term ∷ t_groups ∷ t_name ∷ t_commands n ∷ σ) = Some (t_commands (suc n) ∷ σ)
act_tags say_local (t_term ∷ t_term ∷ t_groups ∷ t_name ∷ t_commands n ∷ σ) = Some (t_commands (suc n) ∷ σ)
act_tags say_fixpoint (t_functions ∷ t_commands n ∷ σ) = Some (t_commands (suc n) ∷ σ)
act_tags say_inductive (t_inds ∷ t_commands n ∷ σ) = Some (t_commands (suc n) ∷ σ)
act_tags say_theorem (t_proof ∷ t_term ∷ t_groups ∷ t_name ∷ t_commands n ∷ σ) = Some (t_commands (suc n) ∷ σ)
act_tags say_section (t_name ∷ t_commands n ∷ σ) = Some (t_commands (suc n) ∷ σ)
act_tags say_finish (t_name ∷ t_commands n ∷ σ) = Some (t_commands (suc n) ∷ σ)
act_tags _ _ = None

pub no_tags : (τ : List Tag) → None ≡ Some τ → ⊥
no_tags τ e = absurd (cc)

pub no_count : (N : ℕ) → None ≡ Some N → ⊥
no_count N e = absurd (cc)

pub one_more_command : (cs : List Command) (c : Command) → length (cs ++ (c ∷ [])) ≡ suc (length cs)
one_more_command [] c = refl
one_more_command (d ∷ cs) c = ap suc (one_more_command cs c)

pub said_one : (cs : List Command) (c : Command) (σ τ : List Tag) → Some (t_commands (suc (length cs)) ∷ σ) ≡ Some τ → t_commands (length (cs ++ (c ∷ []))) ∷ σ ≡ τ
said_one cs c σ τ e = ap (λ n. t_commands n ∷ σ) (one_more_command cs c) ∙ same_Some _ _ e

pub act_fits : (a : Act) (vs : List Val) (τ : List Tag) → act_tags a (map tag vs) ≡ Some τ → map tag (makes a vs) ≡ τ
act_fits (push v) vs τ e = same_Some _ _ e
act_fits (push_below v) (u ∷ vs) τ e = same_Some _ _ e
act_fits bind (a_name x0 ∷ vs) τ e = same_Some _ _ e
act_fits add_binder (a_binder x0 ∷ binders x1 ∷ vs) τ e = same_Some _ _ e
act_fits add_name (a_name x0 ∷ names x1 ∷ vs) τ e = same_Some _ _ e
act_fits add_qual (a_qual x0 ∷ quals x1 ∷ vs) τ e = same_Some _ _ e
act_fits add_group (term x0 ∷ binders x1 ∷ groups x2 ∷ vs) τ e = same_Some _ _ e
act_fits add_function (term x0 ∷ term x1 ∷ maybe_name x2 ∷ groups x3 ∷ a_name x4 ∷ functions x5 ∷ vs) τ e = same_Some _ _ e
act_fits add_branch (term x0 ∷ binders x1 ∷ a_qual x2 ∷ branches x3 ∷ vs) τ e = same_Some _ _ e
act_fits add_ctor (maybe_term x0 ∷ groups x1 ∷ a_name x2 ∷ ctors x3 ∷ vs) τ e = same_Some _ _ e
act_fits add_ind (ctors x0 ∷ term x1 ∷ groups x2 ∷ a_name x3 ∷ inds x4 ∷ vs) τ e = same_Some _ _ e
act_fits add_cons (a_level x0 ∷ a_relation x1 ∷ a_level x2 ∷ conses x3 ∷ vs) τ e = same_Some _ _ e
act_fits set_name (a_name x0 ∷ maybe_name x1 ∷ vs) τ e = same_Some _ _ e
act_fits set_for (a_name x0 ∷ functions x1 ∷ maybe_name x2 ∷ vs) τ e = same_Some _ _ e
act_fits set_as (a_binder x0 ∷ maybe_binder x1 ∷ vs) τ e = same_Some _ _ e
act_fits set_within (binders x0 ∷ a_qual x1 ∷ maybe_within x2 ∷ vs) τ e = same_Some _ _ e
act_fits set_type (term x0 ∷ maybe_term x1 ∷ vs) τ e = same_Some _ _ e
act_fits (set_using u) (using x0 ∷ vs) τ e = same_Some _ _ e
act_fits set_using_names (names x0 ∷ using x1 ∷ vs) τ e = same_Some _ _ e
act_fits (set_flag u) (flag x0 ∷ vs) τ e = same_Some _ _ e
act_fits mk_ref (a_qual x0 ∷ vs) τ e = same_Some _ _ e
act_fits mk_type_at (a_qual x0 ∷ term x1 ∷ vs) τ e = same_Some _ _ e
act_fits mk_app (term x0 ∷ term x1 ∷ vs) τ e = same_Some _ _ e
act_fits mk_arrow (term x0 ∷ term x1 ∷ vs) τ e = same_Some _ _ e
act_fits mk_prod (term x0 ∷ groups x1 ∷ vs) τ e = same_Some _ _ e
act_fits mk_func (term x0 ∷ groups x1 ∷ vs) τ e = same_Some _ _ e
act_fits mk_let (term x0 ∷ term x1 ∷ term x2 ∷ groups x3 ∷ a_name x4 ∷ vs) τ e = same_Some _ _ e
act_fits mk_fix (functions x0 ∷ maybe_name x1 ∷ vs) τ e = same_Some _ _ e
act_fits mk_match (branches x0 ∷ term x1 ∷ maybe_within x2 ∷ maybe_binder x3 ∷ term x4 ∷ vs) τ e = same_Some _ _ e
act_fits mk_level (a_qual x0 ∷ vs) τ e = same_Some _ _ e
act_fits (mk_proof u) (term x0 ∷ using x1 ∷ vs) τ e = same_Some _ _ e
act_fits mk_no_proof (using x0 ∷ vs) τ e = same_Some _ _ e
act_fits say_require (quals x0 ∷ flag x1 ∷ maybe_name x2 ∷ commands cs ∷ vs) τ e = said_one cs (require x2 x1 x0) _ τ e
act_fits say_universe (names x0 ∷ commands cs ∷ vs) τ e = said_one cs (universe x0) _ τ e
act_fits say_constraint (conses x0 ∷ commands cs ∷ vs) τ e = said_one cs (constraint x0) _ τ e
act_fits say_axiom (groups x0 ∷ commands cs ∷ vs) τ e = said_one cs (axiom_of x0) _ τ e
act_fits say_variable (groups x0 ∷ commands cs ∷ vs) τ e = said_one cs (variable_of x0) _ τ e
act_fits say_definition (term x0 ∷ term x1 ∷ groups x2 ∷ a_name x3 ∷ commands cs ∷ vs) τ e = said_one cs (definition x3 x2 x1 x0) _ τ e
act_fits say_definition_by (a_proof x0 ∷ term x1 ∷ groups x2 ∷ a_name x3 ∷ commands cs ∷ vs) τ e = said_one cs (definition_by x3 x2 x1 x0) _ τ e
act_fits say_local (term x0 ∷ term x1 ∷ groups x2 ∷ a_name x3 ∷ commands cs ∷ vs) τ e = said_one cs (local_of x3 x2 x1 x0) _ τ e
act_fits say_fixpoint (functions x0 ∷ commands cs ∷ vs) τ e = said_one cs (fixpoint x0) _ τ e
act_fits say_inductive (inds x0 ∷ commands cs ∷ vs) τ e = said_one cs (inductive x0) _ τ e
act_fits say_theorem (a_proof x0 ∷ term x1 ∷ groups x2 ∷ a_name x3 ∷ commands cs ∷ vs) τ e = said_one cs (theorem x3 x2 x1 x0) _ τ e
act_fits say_section (a_name x0 ∷ commands cs ∷ vs) τ e = said_one cs (section x0) _ τ e
act_fits say_finish (a_name x0 ∷ commands cs ∷ vs) τ e = said_one cs (finish x0) _ τ e
act_fits a vs τ e = absurd (no_tags τ e)
