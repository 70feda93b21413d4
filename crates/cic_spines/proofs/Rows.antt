-- The arguments of an application, as a loop takes them off.
use Rattle.std.proofs.Common.{◌≡◌, List, [], ◌∷◌, ◌++◌, reverse, refl, sym, ap, ◌∙◌, append_assoc}
use Rattle.std.proofs.lemmas.List.{map_push, reverse-append}
use Rattle.std.specs.declared.rc.Rc.{Rc}
use Rattle.std.specs.declared.alloc.Global.{Global}
use Rattle.cic_terms.specs.declared.term.Term.{Term, Rel, Sort as SortTerm, Prod', Lam', Let', App', App, Const, Ind, Ctor, Case', Fix'}
use Rattle.cic_terms.specs.Denotes.{tree}
use Rattle.cic_terms.specs.Tree.{Tree, app}
use Rattle.cic_counted.specs.Readings.{arguments_of}
use Rattle.cic_spines.specs.Lists.{shared_tree, shared_trees}

-- The last argument moves to those that were taken off, which are the later ones, the last first.
pub taken_off : (f : Tree) (found : List (Rc Term Global)) (x : Rc Term Global) →
    arguments_of f ++ reverse (shared_trees (found ++ x ∷ [])) ≡ arguments_of (app f (shared_tree x)) ++ reverse (shared_trees found)
taken_off f found x =
    ap (λ l. arguments_of f ++ reverse l) (map_push shared_tree found x)
    ∙ ap (λ l. arguments_of f ++ l) (reverse-append (shared_trees found) (shared_tree x ∷ []))
    ∙ sym (append_assoc (arguments_of f) (shared_tree x ∷ []) (reverse (shared_trees found)))

pub reversed : (items : List (Rc Term Global)) → shared_trees (reverse items) ≡ reverse (shared_trees items)
reversed [] = refl
reversed (x ∷ items) =
    ap shared_trees (reverse-append (x ∷ []) items)
    ∙ map_push shared_tree (reverse items) x
    ∙ ap (λ l. l ++ shared_tree x ∷ []) (reversed items)
    ∙ sym (reverse-append (shared_tree x ∷ []) (shared_trees items))

-- What is no application has no arguments.
pub no_arguments : (t : Term) → ((f x : Rc Term Global) → t ≡ App f x → ⊥) → arguments_of (tree t) ≡ []
no_arguments (App' p f q x) h = absurd (h (record { ptr = p.ptr; value = f }) (record { ptr = q.ptr; value = x }) refl)
no_arguments (Rel n) h = refl
no_arguments (SortTerm s) h = refl
no_arguments (Prod' _ a _ b) h = refl
no_arguments (Lam' _ a _ b) h = refl
no_arguments (Let' _ t _ a _ b) h = refl
no_arguments (Const id) h = refl
no_arguments (Ind id) h = refl
no_arguments (Ctor id) h = refl
no_arguments (Case' n id _ p _ c _ bs) h = refl
no_arguments (Fix' w _ bs) h = refl
