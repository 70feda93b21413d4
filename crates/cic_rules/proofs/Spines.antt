-- What an application in a row can be equal to.
use Rattle.std.proofs.Common.{◌≡◌, ◌≢◌, ℕ, List, [], ◌∷◌, ◌++◌, refl, sym, ap, arith, subst}
use Rattle.cic_terms.specs.Tree.{Tree, rel, prod, app, ind}
use Rattle.cic_names.specs.declared.name.GlobalId.{GlobalId}
use Rattle.cic_rules.specs.Telescopes.{apply, head_of}

-- A term under arguments that are not none is an application.
abbrev pub IsApp : Tree → Type 0
IsApp (app f u) = Unit {0}
IsApp t = ⊥

pub apply_is_app : (us : List Tree) (f u : Tree) → IsApp (apply (app f u) us)
apply_is_app [] f u = tt
apply_is_app (v ∷ us) f u = apply_is_app us (app f u) v

pub apply_more_is_app : (before : List Tree) (f u : Tree) → IsApp (apply f (before ++ u ∷ []))
apply_more_is_app [] f u = tt
apply_more_is_app (v ∷ before) f u = apply_is_app (before ++ u ∷ []) f v

pub head_of_apply : (us : List Tree) (f : Tree) → head_of (apply f us) ≡ head_of f
head_of_apply [] f = refl
head_of_apply (u ∷ us) f = head_of_apply us (app f u)

-- An inductive type under arguments is no product.
pub applied_is_no_product : (us : List Tree) (id : GlobalId) (a b : Tree) → prod a b ≡ apply (ind id) us → ⊥
applied_is_no_product [] id a b e = grind arith
applied_is_no_product (u ∷ us) id a b e = subst IsApp (sym e) (apply_is_app us (ind id) u)

-- Under two arguments or more a term is not one that is no application under one.
pub more_than_one : (us : List Tree) (f u v h w : Tree) → ((g x : Tree) → h ≢ app g x) → apply (app (app f u) v) us ≡ app h w → ⊥
more_than_one [] f u v h w n e = let same : h ≡ app f u = cc in n f u same
more_than_one (x ∷ us) f u v h w n e = more_than_one us (app f u) v x h w n e

-- So where a term under arguments is one that is no application under one argument, that is the only one.
pub one_argument_left : (us : List Tree) (f h w : Tree) → ((g x : Tree) → f ≢ app g x) → ((g x : Tree) → h ≢ app g x) → apply f us ≡ app h w → (f ≡ h) × (us ≡ w ∷ [])
one_argument_left [] f h w m n e = absurd (m h w e)
one_argument_left (u ∷ []) f h w m n e = let same : f ≡ h = cc in let argument : u ≡ w = cc in (same, ap (λ z. z ∷ []) argument)
one_argument_left (u ∷ v ∷ us) f h w m n e = absurd (more_than_one us f u v h w n e)

pub no_argument_left : (us : List Tree) (f : Tree) (x : ℕ) → apply f us ≡ rel x → us ≡ []
no_argument_left [] f x e = refl
no_argument_left (u ∷ us) f x e = absurd (subst IsApp e (apply_is_app us f u))

pub rel_is_no_app : (x : ℕ) (f u : Tree) → rel x ≢ app f u
rel_is_no_app x f u e = grind arith

pub ind_is_no_app : (id : GlobalId) (f u : Tree) → ind id ≢ app f u
ind_is_no_app id f u e = grind arith
