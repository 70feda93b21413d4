-- Where a walk along products, or along applications, ends.
use Rattle.std.proofs.Common.{◌≡◌, [], refl}
use Rattle.std.specs.declared.rc.Rc.{Rc}
use Rattle.std.specs.declared.alloc.Global.{Global}
use Rattle.cic_terms.specs.declared.term.Term.{Term, Rel, Sort as SortTerm, Prod', Lam', Let', App', App, Const, Ind, Ctor, Case', Fix'}
use Rattle.cic_terms.specs.Denotes.{tree}
use Rattle.cic_counted.specs.Readings.{arguments_of}

-- What is no application has no arguments.
pub no_arguments : (t : Term) → ((f x : Rc Term Global) → t ≡ App f x → ⊥) → arguments_of (tree t) ≡ []
no_arguments (App' p f q x) h = absurd (h (record { ptr = p.ptr; value = f }) (record { ptr = q.ptr; value = x }) refl)
no_arguments (Rel n) h = refl
no_arguments (SortTerm s) h = refl
no_arguments (Prod' _ a _ b) h = refl
no_arguments (Lam' _ a _ b) h = refl
no_arguments (Let' _ t _ a _ b) h = refl
no_arguments (Const id) h = refl
no_arguments (Ind id) h = refl
no_arguments (Ctor id) h = refl
no_arguments (Case' n id _ p _ c _ bs) h = refl
no_arguments (Fix' w _ bs) h = refl
