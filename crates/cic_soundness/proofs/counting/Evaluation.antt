-- A closed relation of counted calls holds between two turns of evaluation where it holds between the calls one deeper,
-- and between two conversions and subtypings likewise. It follows the text of each definition. The laws of budgets and
-- the law on eta rest on it.
use Rattle.std.proofs.Common.{ℕ, zero, suc, ◌+◌, false, ◌&&◌, nat_eq, Option, Some, None, List, [], ◌∷◌, length}
use Rattle.cic_terms.specs.Tree.{TreeSort, prop, set, typ, Former, LetF, CaseF, FixF, over, Tree, rel, node, Children, child, sort, prod, lam, let_in, app, const, case}
use Rattle.cic_terms.specs.Lift.{lift_tree, subst_tree}
use Rattle.cic_names.specs.declared.name.GlobalId.{GlobalId}
use Rattle.cic_names.specs.declared.level.Level.{Level}
use Rattle.cic_names.specs.declared.level.Atom.{Atom}
use Rattle.cic_names.specs.Sameness.{same_id, same_atoms}
use Rattle.cic_counted.specs.Sameness.{same_sort, same_shapes, same_former, same_tree}
use Rattle.cic_rules.specs.Environment.{Environment, Context, transparent_body, body_at, unknown, under_unknown}
use Rattle.cic_rules.specs.Numbering.{plain_level}
use Rattle.cic_rules.specs.Telescopes.{apply, head_of, abstractions, lift_domains, Function, function_types}
use Rattle.cic_counted.specs.Readings.{arguments_of, functions_of}
use Rattle.cic_counted.specs.Outcome.{Counted, mismatch, universe_form, deep}
use Rattle.cic_counted.specs.Evaluation.{Turn, answer, again, reduce, variable_turn, constant_turn, is_constructor, unfolds, recursive_turn, fix_turn, application_turn, matched, match_turn, turn_of, whnf_at, differ, equal_levels, equal_sorts, atoms_below, levels_at_most, sorts_at_most, same_places, convert_children, convert_each, fitting_body, convert_bodies, convert_functions, value_first, compare_nodes, compare, body_of, by_bodies, compare_heads, conv_at, below_or_equal, cumul_at}
use Rattle.cic_soundness.proofs.counting.Compositional.{Compositional, holds_then, holds_if, holds_refuse, holds_fitting, holds_fitting_all}

module _ {R : (A : Type 0) → Counted A → Counted A → Type 0} (h : Compositional R) where
  holds_reduce : (t : Tree) → R Turn (reduce t) (reduce t)
  holds_reduce t = holds_then h h.tick (h.bind (holds_fitting h t) (λ u. h.give (again u)))

  holds_variable : (o : Option Tree) (x : ℕ) → R Turn (variable_turn o x) (variable_turn o x)
  holds_variable None x = h.give (answer (rel x))
  holds_variable (Some b) x = holds_reduce (lift_tree 0 (x + 1) b)

  holds_constant : (o : Option Tree) (c : GlobalId) → R Turn (constant_turn o c) (constant_turn o c)
  holds_constant None c = h.give (answer (const c))
  holds_constant (Some b) c = holds_then h h.tick (h.give (again b))

  holds_recursive : (f u v F : Tree) → R Turn (recursive_turn f u v F) (recursive_turn f u v F)
  holds_recursive f u v F =
      holds_if h (is_constructor (head_of v))
      (holds_then h h.tick (h.bind (holds_fitting h F) (λ F'. h.give (again (app (apply F' (arguments_of f)) v)))))
      (h.give (answer (app f u)))

  holds_match : (stuck : Tree) (o : Option Tree) → R Turn (match_turn stuck o) (match_turn stuck o)
  holds_match stuck None = h.give (answer stuck)
  holds_match stuck (Some t) = holds_reduce t

  module _ (whnf whnf' : Tree → Counted Tree) (w : (t : Tree) → R Tree (whnf t) (whnf' t)) where
    holds_fix : (f u : Tree) (o : Option Tree) → R Turn (fix_turn whnf f u o) (fix_turn whnf' f u o)
    holds_fix f u None = h.give (answer (app f u))
    holds_fix f u (Some F) = h.bind (w u) (λ v. holds_recursive f u v F)

    holds_application : (f u : Tree) → R Turn (application_turn whnf f u) (application_turn whnf' f u)
    holds_application (lam a b) u = holds_reduce (subst_tree 0 u b)
    holds_application f u = holds_fix f u (unfolds (length (arguments_of f)) (head_of f))

    pub holds_turn : (E : Environment) (G : Context) (t : Tree) → R Turn (turn_of whnf E G t) (turn_of whnf' E G t)
    holds_turn E G (rel x) = holds_variable (body_at G x) x
    holds_turn E G (const c) = holds_constant (transparent_body E c) c
    holds_turn E G (let_in t a u) = holds_reduce (subst_tree 0 t u)
    holds_turn E G (app f u) = h.bind (w f) (λ g. holds_application g u)
    holds_turn E G (case id n p c branches) =
        h.bind (w c) (λ v. holds_match (case id n p v branches) (matched E id branches (arguments_of v) (head_of v)))
    holds_turn E G t = h.give (answer t)

  holds_differ : (G : Context) (a b : Tree) → R (Unit {0}) (differ G a b) (differ G a b)
  holds_differ G a b = holds_refuse h (mismatch (length G) a b)

  holds_equal_levels : (e e' : List Atom) (o o' : Option Level) → R (Unit {0}) (equal_levels e e' o o') (equal_levels e e' o o')
  holds_equal_levels e e' (Some l) (Some m) =
      holds_then h (h.note (record { left = l; strict = false; right = m })) (h.note (record { left = m; strict = false; right = l }))
  holds_equal_levels e e' _ _ = holds_refuse h (universe_form (typ e) (typ e'))

  holds_equal_sorts : (G : Context) (s s' : TreeSort) → R (Unit {0}) (equal_sorts G s s') (equal_sorts G s s')
  holds_equal_sorts G (typ e) (typ e') =
      holds_if h (same_atoms e e') (h.give tt) (holds_equal_levels e e' (plain_level e) (plain_level e'))
  holds_equal_sorts G s s' = holds_if h (same_sort s s') (h.give tt) (holds_differ G (sort s) (sort s'))

  holds_atoms_below : (e : List Atom) (m : Level) → R (Unit {0}) (atoms_below e m) (atoms_below e m)
  holds_atoms_below [] m = h.give tt
  holds_atoms_below (a ∷ as_) m =
      holds_then h (h.note (record { left = a.level; strict = a.plus; right = m })) (holds_atoms_below as_ m)

  holds_levels_at_most : (e e' : List Atom) (o : Option Level) → R (Unit {0}) (levels_at_most e e' o) (levels_at_most e e' o)
  holds_levels_at_most e e' (Some m) = holds_atoms_below e m
  holds_levels_at_most e e' None = holds_refuse h (universe_form (typ e) (typ e'))

  pub holds_sorts_at_most : (G : Context) (s s' : TreeSort) → R (Unit {0}) (sorts_at_most G s s') (sorts_at_most G s s')
  holds_sorts_at_most G prop s' = h.give tt
  holds_sorts_at_most G set set = h.give tt
  holds_sorts_at_most G set (typ e') = h.give tt
  holds_sorts_at_most G (typ e) (typ e') =
      holds_if h (same_atoms e e') (h.give tt) (holds_levels_at_most e e' (plain_level e'))
  holds_sorts_at_most G s s' = holds_differ G (sort s) (sort s')

  pub holds_fitting_body : (all : ℕ) (f : Function) → R Tree (fitting_body all f) (fitting_body all f)
  holds_fitting_body all f = h.bind (holds_fitting_all h (lift_domains 0 all f.domains)) (λ as_. h.give (abstractions as_ f.body))

  module _ (conv conv' : Context → Tree → Tree → Counted (Unit {0})) (p : (G : Context) (t u : Tree) → R (Unit {0}) (conv G t u) (conv' G t u)) where
    holds_children : (G : Context) (ks ls : Children) → R (Unit {0}) (convert_children conv G ks ls) (convert_children conv' G ks ls)
    holds_children G (child b t ks) (child c u ls) = holds_then h (p (under_unknown (over b 0) G) t u) (holds_children G ks ls)
    holds_children G _ _ = h.give tt

    holds_each : (G : Context) (ts us : List Tree) → R (Unit {0}) (convert_each conv G ts us) (convert_each conv' G ts us)
    holds_each G (t ∷ ts) (u ∷ us) = holds_then h (p G t u) (holds_each G ts us)
    holds_each G _ _ = h.give tt

    holds_bodies : (G : Context) (all : ℕ) (fs gs : List Function) → R (Unit {0}) (convert_bodies conv G all fs gs) (convert_bodies conv' G all fs gs)
    holds_bodies G all (f ∷ fs) (g ∷ gs) =
        h.bind (holds_fitting_body all f) (λ t. h.bind (holds_fitting_body all g) (λ u.
        holds_then h (p G t u) (holds_bodies G all fs gs)))
    holds_bodies G all _ _ = h.give tt

    holds_functions : (G : Context) (a b : Tree) (o o' : Option (List Function)) → R (Unit {0}) (convert_functions conv G a b o o') (convert_functions conv' G a b o o')
    holds_functions G a b (Some fs) (Some gs) =
        holds_then h (holds_each G (function_types fs) (function_types gs)) (holds_bodies (under_unknown (length fs) G) (length fs) fs gs)
    holds_functions G a b _ _ = holds_differ G a b

    holds_nodes : (G : Context) (f g : Former) (ks ls : Children) → R (Unit {0}) (compare_nodes conv G f g ks ls) (compare_nodes conv' G f g ks ls)
    holds_nodes G (CaseF c) (CaseF d) ks ls =
        holds_if h (same_id c d && same_places ks ls) (holds_children G (value_first ks) (value_first ls)) (holds_differ G (node (CaseF c) ks) (node (CaseF d) ls))
    holds_nodes G (FixF i s) (FixF j s') ks ls =
        holds_if h (nat_eq i j && same_shapes s s') (holds_functions G (node (FixF i s) ks) (node (FixF j s') ls) (functions_of s ks) (functions_of s' ls)) (holds_differ G (node (FixF i s) ks) (node (FixF j s') ls))
    holds_nodes G LetF g ks ls = holds_differ G (node LetF ks) (node g ls)
    holds_nodes G f g ks ls =
        holds_if h (same_former f g && same_places ks ls) (holds_children G ks ls) (holds_differ G (node f ks) (node g ls))

    pub holds_compare : (G : Context) (a b : Tree) → R (Unit {0}) (compare conv G a b) (compare conv' G a b)
    holds_compare G (sort s) (sort s') = holds_equal_sorts G s s'
    holds_compare G (rel x) (rel y) = holds_if h (nat_eq x y) (h.give tt) (holds_differ G (rel x) (rel y))
    holds_compare G (node f ks) (node g ls) = holds_nodes G f g ks ls
    holds_compare G a b = holds_differ G a b

    holds_by_bodies : (G : Context) (v w : Tree) (o o' : Option Tree) → R (Unit {0}) (by_bodies conv G v w o o') (by_bodies conv' G v w o o')
    holds_by_bodies G v w (Some t) None = h.bind (holds_fitting h (lift_tree 0 1 w)) (λ w'. p (unknown ∷ G) t (app w' (rel 0)))
    holds_by_bodies G v w None (Some t) = h.bind (holds_fitting h (lift_tree 0 1 v)) (λ v'. p (unknown ∷ G) (app v' (rel 0)) t)
    holds_by_bodies G v w _ _ = holds_compare G v w

    holds_compare_heads : (G : Context) (v w : Tree) → R (Unit {0}) (compare_heads conv G v w) (compare_heads conv' G v w)
    holds_compare_heads G v w = holds_by_bodies G v w (body_of v) (body_of w)

  pub holds_conv : ((k : ℕ) (E : Environment) (G : Context) (t : Tree) → R Tree (whnf_at k E G t) (whnf_at k E G t)) → (k : ℕ) (E : Environment) (G : Context) (a b : Tree) → R (Unit {0}) (conv_at k E G a b) (conv_at k E G a b)
  unfolding conv_at
  holds_conv of_whnf zero E G a b = h.stop deep
  holds_conv of_whnf (suc k) E G a b =
      holds_then h h.tick (holds_if h (same_tree a b) (h.give tt)
      (h.bind (of_whnf k E G a) (λ v. h.bind (of_whnf k E G b) (λ w.
      holds_compare_heads (conv_at k E) (conv_at k E) (holds_conv of_whnf k E) G v w))))

  module _ (conv conv' cumul cumul' : Context → Tree → Tree → Counted (Unit {0})) (p : (G : Context) (t u : Tree) → R (Unit {0}) (conv G t u) (conv' G t u)) (q : (G : Context) (t u : Tree) → R (Unit {0}) (cumul G t u) (cumul' G t u)) where
    holds_below : (G : Context) (a b : Tree) → R (Unit {0}) (below_or_equal conv cumul G a b) (below_or_equal conv' cumul' G a b)
    holds_below G (prod a b) (prod c d) = holds_then h (p G a c) (q (unknown ∷ G) b d)
    holds_below G (sort s) (sort s') = holds_sorts_at_most G s s'
    holds_below G a b = holds_compare_heads conv conv' p G a b

  pub holds_cumul : ((k : ℕ) (E : Environment) (G : Context) (t : Tree) → R Tree (whnf_at k E G t) (whnf_at k E G t)) → (k : ℕ) (E : Environment) (G : Context) (a b : Tree) → R (Unit {0}) (cumul_at k E G a b) (cumul_at k E G a b)
  unfolding cumul_at
  holds_cumul of_whnf zero E G a b = h.stop deep
  holds_cumul of_whnf (suc k) E G a b =
      holds_then h h.tick (holds_if h (same_tree a b) (h.give tt)
      (h.bind (of_whnf k E G a) (λ v. h.bind (of_whnf k E G b) (λ w.
      holds_below (conv_at k E) (conv_at k E) (cumul_at k E) (cumul_at k E) (holds_conv of_whnf k E) (holds_cumul of_whnf k E) G v w))))
