-- The parts of what is written are smaller, and take fewer levels.
use Rattle.std.proofs.Common.{◌≡◌, ℕ, ◌≤◌, ◌<◌, List, [], ◌∷◌, length, map, sym, ap, subst, ◌∙◌, arith}
use Rattle.std.specs.Prelude.{true, false, nat_eq}
use Rattle.std.proofs.lemmas.Grind.{common_steps}
use Rattle.std.proofs.lemmas.Bool.Decides.{nat_tests}
use Rattle.gal_grammar.specs.Terms as S
use Rattle.gal_grammar.specs.Terms.{app, Groups, group}
use Rattle.gal_raw.specs.Denotes.{tree, identifier, groups, let_in, application, applied, binder, within, match_of, branches}
use Rattle.gal_raw.specs.calls.Lists.{group_list}
use Rattle.gal_raw.specs.declared.terms.Raw.{Raw, Application as Applied}
use Rattle.gal_raw.specs.declared.terms.Application.{Application}
use Rattle.gal_raw.specs.declared.terms.Group.{Group}
use Rattle.gal_raw.specs.declared.terms.LetIn.{LetIn, LetIn', out-LetIn, outs-LetIn'}
use Rattle.gal_raw.specs.declared.terms.MatchOf.{MatchOf, MatchOf', out-MatchOf, outs-MatchOf'}
use Rattle.std.specs.Option.{option_map}
use Rattle.gal_raw.proofs.Rows.{application_roll}
use Rattle.gal_scoping.specs.Levels.{types_in, types_in_groups}
use Rattle.elab_terms.specs.calls.Sizes.{size, size_groups, IsBare}

applied_size : (f : S.Raw) (xs : List Raw) → size f ≤ size (applied f xs)
applied_size f [] = omega arith
applied_size f (x ∷ xs) = let e = applied_size (app f (tree x)) xs in omega arith

applied_larger : (f : S.Raw) (xs : List Raw) → 0 < length xs → size f < size (applied f xs)
applied_larger f [] h = absurd (omega (arith, h))
applied_larger f (x ∷ xs) h = let e = applied_size (app f (tree x)) xs in omega arith

pub argument_smaller : (f : S.Raw) (x : Raw) (xs : List Raw) → size (tree x) < size (applied f (x ∷ xs))
argument_smaller f x xs = let e = applied_size (app f (tree x)) xs in omega arith

pub applied_types : (f : S.Raw) (xs : List Raw) → types_in f ≤ types_in (applied f xs)
applied_types f [] = omega arith
applied_types f (x ∷ xs) = let e = applied_types (app f (tree x)) xs in omega arith

pub bare_application : (x : Application) (xs : List Raw) → application x ≡ applied (tree x.head.value) xs → 0 < length xs → IsBare (Applied x)
bare_application x xs is h =
    subst (λ t. size (tree x.head.value) < size t) (sym is ∙ sym (application_roll x)) (applied_larger (tree x.head.value) xs h)

pub bare_head : (x : Application) → IsBare (Applied x) → size (tree x.head.value) < size (application x)
bare_head x h = subst (λ t. size (tree x.head.value) < size t) (application_roll x) h

pub empty_application : (x : Application) (xs : List Raw) → application x ≡ applied (tree x.head.value) xs → length xs ≡ 0 → tree x.head.value ≡ tree (Applied x)
empty_application x [] is h = sym is ∙ sym (application_roll x)
empty_application x (y ∷ xs) is h = absurd (omega (arith, h))

pub groups_size : (g : Groups) (xs : List Group) → size_groups g ≤ size_groups (group_list g xs)
groups_size g [] = omega arith
groups_size g (x ∷ xs) = let e = groups_size (group g (map binder x.binders.items) (tree x.ty)) xs in omega arith

pub groups_types : (g : Groups) (xs : List Group) → types_in_groups g ≤ types_in_groups (group_list g xs)
groups_types g [] = omega arith
groups_types g (x ∷ xs) = let e = groups_types (group g (map binder x.binders.items) (tree x.ty)) xs in omega arith

pub zero_of : (n : ℕ) → nat_eq n 0 ≡ true → n ≡ 0
zero_of n h = grind (arith, common_steps, nat_tests)

pub more_of : (n : ℕ) → nat_eq n 0 ≡ false → 0 < n
more_of n h = grind (arith, common_steps, nat_tests)

pub let_parts : (x : LetIn) →
    let_in x ≡ S.let_in (identifier (out-LetIn x).name) (groups (out-LetIn x).groups) (tree (out-LetIn x).ty) (tree (out-LetIn x).body) (tree (out-LetIn x).rest)
let_parts (LetIn' n g a t u) =
    ap (λ r. S.let_in (identifier r.name) (groups r.groups) (tree r.ty) (tree r.body) (tree r.rest)) (sym (outs-LetIn' n g a t u))

pub match_parts : (x : MatchOf) →
    match_of x ≡ S.match_of (tree (out-MatchOf x).value) (option_map binder (out-MatchOf x).name) (option_map within (out-MatchOf x).within) (tree (out-MatchOf x).motive) (branches (out-MatchOf x).branches)
match_parts (MatchOf' t x i m bs) =
    ap (λ r. S.match_of (tree r.value) (option_map binder r.name) (option_map within r.within) (tree r.motive) (branches r.branches)) (sym (outs-MatchOf' t x i m bs))
