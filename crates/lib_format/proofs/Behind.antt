-- What lists of declarations declare, with one more behind them.
use Rattle.std.proofs.Common.{◌≡◌, ◌+◌, List, [], ◌∷◌, ◌++◌, refl, ap, sym, ◌∙◌, arith, append_assoc, append-nil}
use Rattle.std.specs.Prelude.{map}
use Rattle.cic_rules.specs.Environment.{ConstructorDeclaration, TypeDeclaration, Declaration}
use Rattle.lib_format.specs.DeclarationBytes.{constructor_names, type_names, block_names, declared_names, all_names, opaque_count, opaques_of}

pub map_last : {A B : Type 0} (f : A → B) (xs : List A) (x : A) → map f (xs ++ x ∷ []) ≡ map f xs ++ f x ∷ []
map_last f [] x = refl
map_last f (y ∷ ys) x = ap (λ zs. f y ∷ zs) (map_last f ys x)

pub constructor_names_last : (cs : List ConstructorDeclaration) (c : ConstructorDeclaration) → constructor_names (cs ++ c ∷ []) ≡ constructor_names cs ++ c.id.name ∷ []
constructor_names_last cs c = map_last (λ c. c.id.name) cs c

pub block_names_last : (ts : List TypeDeclaration) (t : TypeDeclaration) → block_names (ts ++ t ∷ []) ≡ block_names ts ++ type_names t
block_names_last [] t = append-nil (type_names t)
block_names_last (u ∷ us) t = ap (λ zs. type_names u ++ zs) (block_names_last us t) ∙ sym (append_assoc (type_names u) (block_names us) (type_names t))

pub all_names_last : (ds : List Declaration) (d : Declaration) → all_names (ds ++ d ∷ []) ≡ all_names ds ++ declared_names d
all_names_last [] d = append-nil (declared_names d)
all_names_last (e ∷ es) d = ap (λ zs. declared_names e ++ zs) (all_names_last es d) ∙ sym (append_assoc (declared_names e) (all_names es) (declared_names d))

pub opaques_last : (ds : List Declaration) (d : Declaration) → opaques_of (ds ++ d ∷ []) ≡ opaques_of ds + opaque_count d
opaques_last [] d = omega arith
opaques_last (e ∷ es) d = let h = opaques_last es d in omega (arith, h)

-- Names behind names behind names.
pub seen_more : {N : Type 0} (old seen new xs ys zs : List N) → seen ≡ old ++ xs → new ≡ seen ++ ys → zs ≡ xs ++ ys → new ≡ old ++ zs
seen_more old seen new xs ys zs e f g = f ∙ (ap (λ s. s ++ ys) e ∙ (append_assoc old xs ys ∙ ap (λ z. old ++ z) (sym g)))
