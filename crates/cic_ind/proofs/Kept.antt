-- What a change leaves of the form of a term.
use Rattle.std.proofs.Common.{◌≡◌, ℕ, ◌+◌, Bool, true, false, ltb, if◌then◌else◌, List, [], ◌∷◌, ◌++◌, reverse, refl, sym, ap, ◌∙◌}
use Rattle.std.proofs.lemmas.List.{map_push, reverse-append}
use Rattle.cic_terms.specs.declared.term.Term.{Term, Rel, Sort as SortTerm, Prod', Lam', Let', App', Const, Ind, Ctor, Case', Fix'}
use Rattle.cic_terms.specs.Denotes.{tree}
use Rattle.cic_terms.specs.Tree.{Tree, rel, node}
use Rattle.cic_rules.specs.Telescopes.{domains_of, conclusion_of, head_of}
use Rattle.cic_counted.specs.Readings.{arguments_of}
use Rattle.cic_ind.specs.declared.pending.Change.{Change}
use Rattle.cic_ind.specs.declared.pending.Change.TheVariants.{PutIn, Lifted}
use Rattle.cic_ind.specs.declared.pending.Pending.{Pending}
use Rattle.cic_ind.specs.declared.pending.Part.{Part}
use Rattle.cic_ind.specs.calls.Pending.{changed, part_tree, part_trees, pending_tree, IsLifted, IsVariable, NoProduct, NoApplication, VariablesStay}

-- What a walk leaves of a term that is no product has no domain, and is its own conclusion, if its variables stay.
pub record IsLast (t : Tree) : Type 0 where
  pub domains : domains_of t ≡ []
  pub conclusion : conclusion_of t ≡ t

variable_is_last : (u : Tree) → IsVariable u → IsLast u
variable_is_last (rel n) h = record { domains = refl; conclusion = refl }
variable_is_last (node f ks) h = absurd h

pub no_product_left : (c : Change) (k : ℕ) (t : Term) → NoProduct t → VariablesStay t (changed c k (tree t)) → IsLast (changed c k (tree t))
no_product_left c k (Prod' p a q b) h v = absurd h
no_product_left c k (Rel n) h v = variable_is_last (changed c k (rel n)) v
no_product_left c k (SortTerm s) h v = record { domains = refl; conclusion = refl }
no_product_left c k (Lam' _ a _ b) h v = record { domains = refl; conclusion = refl }
no_product_left c k (Let' _ t _ a _ b) h v = record { domains = refl; conclusion = refl }
no_product_left c k (App' _ f _ x) h v = record { domains = refl; conclusion = refl }
no_product_left c k (Const id) h v = record { domains = refl; conclusion = refl }
no_product_left c k (Ind id) h v = record { domains = refl; conclusion = refl }
no_product_left c k (Ctor id) h v = record { domains = refl; conclusion = refl }
no_product_left c k (Case' n id _ p _ x _ bs) h v = record { domains = refl; conclusion = refl }
no_product_left c k (Fix' w _ bs) h v = record { domains = refl; conclusion = refl }

-- And of one that is no application that it has no argument, and is its own head.
pub record IsHead (t : Tree) : Type 0 where
  pub arguments : arguments_of t ≡ []
  pub head : head_of t ≡ t

variable_is_head : (u : Tree) → IsVariable u → IsHead u
variable_is_head (rel n) h = record { arguments = refl; head = refl }
variable_is_head (node f ks) h = absurd h

pub no_application_left : (c : Change) (k : ℕ) (t : Term) → NoApplication t → VariablesStay t (changed c k (tree t)) → IsHead (changed c k (tree t))
no_application_left c k (App' p f q x) h v = absurd h
no_application_left c k (Rel n) h v = variable_is_head (changed c k (rel n)) v
no_application_left c k (SortTerm s) h v = record { arguments = refl; head = refl }
no_application_left c k (Lam' _ a _ b) h v = record { arguments = refl; head = refl }
no_application_left c k (Let' _ t _ a _ b) h v = record { arguments = refl; head = refl }
no_application_left c k (Prod' _ f _ x) h v = record { arguments = refl; head = refl }
no_application_left c k (Const id) h v = record { arguments = refl; head = refl }
no_application_left c k (Ind id) h v = record { arguments = refl; head = refl }
no_application_left c k (Ctor id) h v = record { arguments = refl; head = refl }
no_application_left c k (Case' n id _ p _ x _ bs) h v = record { arguments = refl; head = refl }
no_application_left c k (Fix' w _ bs) h v = record { arguments = refl; head = refl }

-- A lift leaves variables.
lifted_variable : (below : Bool) (n m : ℕ) → IsVariable (if below then rel n else rel m)
lifted_variable true n m = tt
lifted_variable false n m = tt

pub lifted_variables : (c : Change) (k : ℕ) (t : Term) → IsLifted c → VariablesStay t (changed c k (tree t))
lifted_variables (PutIn terms) k t h = absurd h
lifted_variables (Lifted by) k (Rel n) h = lifted_variable (ltb n k) n (n + by)
lifted_variables (Lifted by) k t h = tt

-- The arguments that were taken off, the last first
pub reversed_parts : (parts : List Part) → part_trees (reverse parts) ≡ reverse (part_trees parts)
reversed_parts [] = refl
reversed_parts (p ∷ parts) =
    ap part_trees (reverse-append (p ∷ []) parts)
    ∙ map_push part_tree (reverse parts) p
    ∙ ap (λ l. l ++ part_tree p ∷ []) (reversed_parts parts)
    ∙ sym (reverse-append (part_tree p ∷ []) (part_trees parts))

-- All are taken off where the head has none.
pub all_taken : (head : Pending) (found all : List Tree) → IsHead (pending_tree head) → arguments_of (pending_tree head) ++ found ≡ all → found ≡ all
all_taken head found all h e = ap (λ l. l ++ found) (sym h.arguments) ∙ e
