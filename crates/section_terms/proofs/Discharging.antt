-- What stands for names while hypotheses are passed gives what the definitions give one hypothesis after the other.
use Rattle.std.proofs.Common.{◌≡◌, ℕ, ◌+◌, Bool, true, false, if◌then◌else◌, Option, Some, None, option_map, List, [], ◌∷◌, map, refl, sym, ap, ap₂, ◌∙◌, arith}
use Rattle.cic_names.specs.declared.name.GlobalId.{GlobalId}
use Rattle.cic_names.specs.Sameness.{same_id}
use Rattle.cic_terms.specs.Tree.{Former, ConstF, Tree, rel, node, no_child, prod, lam, const, ind, ctor}
use Rattle.cic_rules.specs.Telescopes.{apply}
use Rattle.section_terms.specs.Names.{replace_names}
use Rattle.section_terms.specs.Hypotheses.{Hypothesis}
use Rattle.section_terms.specs.Discharge.{in_place_of, abstracted, unfolded, with_arguments, applied, hypotheses_applied, binding, over_part, parameter, over_block_part, generalised_type, generalised_body, generalised_part}
use Rattle.section_terms.specs.calls.Standing.{Passed, nothing_passed, standing_for, put, pass_bound, pass_body, passed_body, pass, pass_all, Bound, bound_of, one_or_none, bounds, under_binders}
use Rattle.section_terms.proofs.Replacing.{lift_none, replaced_twice, replaced_stays, replaced_apply}

abbrev Arguments : Type 0
Arguments = GlobalId → List GlobalId

-- What constants alone stand for.
abbrev pub alone : (GlobalId → Tree) → Former → Tree
alone stands (ConstF c) = stands c
alone stands f = node f no_child

abbrev pub put_alone : Passed → (at : ℕ) → Tree → Tree
put_alone e at t = replace_names (alone e.stands) e.binders at t

each_stands : (stands : GlobalId → Tree) (m : ℕ) (xs : List GlobalId) →
    map (replace_names (alone stands) m 0) (map (λ x. const x) xs) ≡ map stands xs
each_stands stands m [] = refl
each_stands stands m (x ∷ xs) = ap₂ ◌∷◌ (lift_none 0 (stands x)) (each_stands stands m xs)

-- Arguments are put first.
pub put_applied : (arguments : Arguments) (e : Passed) (t : Tree) → put_alone e 0 (applied arguments t) ≡ put arguments e 0 t
put_applied arguments e t =
    replaced_twice (with_arguments arguments) (alone e.stands) (standing_for arguments e.stands) 0 e.binders e.binders 0 0 t (omega arith) (omega arith)
    (record {
      constants = λ id. replaced_apply (alone e.stands) e.binders 0 (const id) (map (λ x. const x) (arguments id)) ∙ ap₂ apply (lift_none 0 (e.stands id)) (each_stands e.stands e.binders (arguments id));
      types = λ id. replaced_apply (alone e.stands) e.binders 0 (ind id) (map (λ x. const x) (arguments id)) ∙ ap (apply (ind id)) (each_stands e.stands e.binders (arguments id));
      constructors = λ id. replaced_apply (alone e.stands) e.binders 0 (ctor id) (map (λ x. const x) (arguments id)) ∙ ap (apply (ctor id)) (each_stands e.stands e.binders (arguments id));
    })

choose : (e : Passed) (by : ℕ) (b : Bool) (w c : Tree) →
    replace_names (alone e.stands) e.binders by (if b then w else c) ≡ (if b then replace_names (alone e.stands) e.binders by w else replace_names (alone e.stands) e.binders by c)
choose e by true w c = refl
choose e by false w c = refl

-- A new binder for a hypothesis
pub put_abstracted : (e : Passed) (id : GlobalId) (t : Tree) → put_alone e 1 (abstracted id t) ≡ put_alone (pass_bound id e) 0 t
put_abstracted e id t =
    replaced_twice (in_place_of id (rel 0)) (alone e.stands) (alone (pass_bound id e).stands) 1 e.binders (e.binders + 1) 0 1 t (omega arith) (omega arith)
    (record {
      constants = λ c. choose e 1 (same_id id c) (rel 0) (const c);
      types = λ c. refl;
      constructors = λ c. refl;
    })

choose_body : (e : Passed) (b : Bool) (w v c : Tree) → replace_names (alone e.stands) e.binders 0 w ≡ v → (z : Tree) → replace_names (alone e.stands) e.binders 0 c ≡ z →
    replace_names (alone e.stands) e.binders 0 (if b then w else c) ≡ (if b then v else z)
choose_body e true w v c h z k = h
choose_body e false w v c h z k = k

-- The body of a let in its place
pub put_unfolded : (arguments : Arguments) (e : Passed) (id : GlobalId) (body t : Tree) →
    put_alone e 0 (unfolded id (applied arguments body) t) ≡ put_alone (pass_body arguments id body e) 0 t
put_unfolded arguments e id body t =
    replaced_twice (in_place_of id (applied arguments body)) (alone e.stands) (alone (pass_body arguments id body e).stands) 0 e.binders e.binders 0 0 t (omega arith) (omega arith)
    (record {
      constants = λ c. choose_body e (same_id id c) (applied arguments body) (put arguments e 0 body) (const c) (put_applied arguments e body) (e.stands c) (lift_none 0 (e.stands c));
      types = λ c. refl;
      constructors = λ c. refl;
    })

-- A way to bind whose binder stands over the second part alone.
abbrev Binds : (Tree → Tree → Tree) → Type 0
Binds bind = (e : Passed) (a b : Tree) → put_alone e 0 (bind a b) ≡ bind (put_alone e 0 a) (put_alone e 1 b)

-- A type or a body
binding_put : (bind : Tree → Tree → Tree) → Binds bind → (arguments : Arguments) (e : Passed) (id : GlobalId) (body : Option Tree) (type rest : Tree) →
    put_alone e 0 (binding bind (option_map (applied arguments) body) (applied arguments type) (abstracted id rest))
    ≡ binding bind (option_map (put arguments e 0) body) (put arguments e 0 type) (put_alone (pass_bound id e) 0 rest)
binding_put bind binds arguments e id None type rest =
    binds e (applied arguments type) (abstracted id rest) ∙ ap₂ bind (put_applied arguments e type) (put_abstracted e id rest)
binding_put bind binds arguments e id (Some body) type rest =
    let p = put_applied arguments e body in let q = put_applied arguments e type in let r = put_abstracted e id rest in cc (p, q, r)

kept_bound : (arguments : Arguments) (h : Hypothesis) (e : Passed) (bs : List Bound) → one_or_none true h.body (bound_of arguments e h) bs ≡ bound_of arguments e h ∷ bs
kept_bound arguments h e bs = go h.body
  where
    go : (body : Option Tree) → one_or_none true body (bound_of arguments e h) bs ≡ bound_of arguments e h ∷ bs
    go None = refl
    go (Some t) = refl

kept_pass : (arguments : Arguments) (id : GlobalId) (body : Option Tree) (e : Passed) → passed_body arguments true id body e ≡ pass_bound id e
kept_pass arguments id None e = refl
kept_pass arguments id (Some t) e = refl

put_over_part : (bind : Tree → Tree → Tree) → Binds bind → (arguments : Arguments) (hs : List Hypothesis) (e : Passed) (t : Tree) →
    put_alone e 0 (over_part bind (hypotheses_applied arguments hs) (applied arguments t))
    ≡ under_binders bind (bounds arguments true hs e) (put arguments (pass_all arguments true hs e) 0 t)
put_over_part bind binds arguments [] e t = put_applied arguments e t
put_over_part bind binds arguments (h ∷ hs) e t =
    let after = pass arguments true h e in
    let rest = bounds arguments true hs after in
    binding_put bind binds arguments e h.id h.body h.type (over_part bind (hypotheses_applied arguments hs) (applied arguments t))
    ∙ ap (λ (p : Passed). binding bind (option_map (put arguments e 0) h.body) (put arguments e 0 h.type) (put_alone p 0 (over_part bind (hypotheses_applied arguments hs) (applied arguments t)))) (sym (kept_pass arguments h.id h.body e))
    ∙ ap (binding bind (option_map (put arguments e 0) h.body) (put arguments e 0 h.type)) (put_over_part bind binds arguments hs after t)
    ∙ ap (λ (bs : List Bound). under_binders bind bs (put arguments (pass_all arguments true hs after) 0 t)) (sym (kept_bound arguments h e rest))

nothing_stays : (t : Tree) → put_alone nothing_passed 0 t ≡ t
nothing_stays t = replaced_stays (alone nothing_passed.stands) 0 t (record { constants = λ id. refl; types = λ id. refl; constructors = λ id. refl })

pub type_at_once : (arguments : Arguments) (hs : List Hypothesis) (t : Tree) →
    generalised_type arguments hs t ≡ under_binders (λ a b. prod a b) (bounds arguments true hs nothing_passed) (put arguments (pass_all arguments true hs nothing_passed) 0 t)
type_at_once arguments hs t =
    sym (nothing_stays (generalised_type arguments hs t)) ∙ put_over_part (λ a b. prod a b) (λ e a b. refl) arguments hs nothing_passed t

pub body_at_once : (arguments : Arguments) (hs : List Hypothesis) (t : Tree) →
    generalised_body arguments hs t ≡ under_binders (λ a b. lam a b) (bounds arguments true hs nothing_passed) (put arguments (pass_all arguments true hs nothing_passed) 0 t)
body_at_once arguments hs t =
    sym (nothing_stays (generalised_body arguments hs t)) ∙ put_over_part (λ a b. lam a b) (λ e a b. refl) arguments hs nothing_passed t

-- A part of a block
parameter_put : (arguments : Arguments) (e : Passed) (id : GlobalId) (body : Option Tree) (type rest : Tree) (h : Hypothesis) (bs : List Bound) (t : Tree) →
    h.body ≡ body → h.type ≡ type →
    put_alone (passed_body arguments false id body e) 0 rest ≡ under_binders (λ a b. prod a b) bs t →
    put_alone e 0 (parameter id (option_map (applied arguments) body) (applied arguments type) rest)
    ≡ under_binders (λ a b. prod a b) (one_or_none false body (bound_of arguments e h) bs) t
parameter_put arguments e id None type rest h bs t is same k =
    let p = put_applied arguments e type in let q = put_abstracted e id rest in rw (is, same) (cc (p, q, k))
parameter_put arguments e id (Some body) type rest h bs t is same k = put_unfolded arguments e id body rest ∙ k

put_over_block_part : (arguments : Arguments) (hs : List Hypothesis) (e : Passed) (t : Tree) →
    put_alone e 0 (over_block_part (hypotheses_applied arguments hs) (applied arguments t))
    ≡ under_binders (λ a b. prod a b) (bounds arguments false hs e) (put arguments (pass_all arguments false hs e) 0 t)
put_over_block_part arguments [] e t = put_applied arguments e t
put_over_block_part arguments (h ∷ hs) e t =
    let after = pass arguments false h e in
    parameter_put arguments e h.id h.body h.type (over_block_part (hypotheses_applied arguments hs) (applied arguments t)) h
    (bounds arguments false hs after) (put arguments (pass_all arguments false hs after) 0 t) refl refl
    (put_over_block_part arguments hs after t)

pub part_at_once : (arguments : Arguments) (hs : List Hypothesis) (t : Tree) →
    generalised_part arguments hs t ≡ under_binders (λ a b. prod a b) (bounds arguments false hs nothing_passed) (put arguments (pass_all arguments false hs nothing_passed) 0 t)
part_at_once arguments hs t =
    sym (nothing_stays (generalised_part arguments hs t)) ∙ put_over_block_part arguments hs nothing_passed t
