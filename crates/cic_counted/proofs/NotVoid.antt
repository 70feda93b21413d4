-- A type that stands left of an arrow in an argument of its constructor is not strictly positive without nesting.
use Rattle.std.proofs.Common.{◌≡◌, List, [], ◌∷◌, length, refl, sym, ◌∙◌, arith, subst, inl, inr, lit<, codes}
use Rattle.cic_terms.specs.Tree.{Tree, prod, ind}
use Rattle.cic_names.specs.declared.name.GlobalId.{GlobalId}
use Rattle.cic_rules.specs.Telescopes.{apply, products}
use Rattle.cic_rules.specs.Inductive.{Each, Absent}
use Rattle.cic_rules.proofs.Spines.{applied_is_no_product}
use Rattle.cic_counted.specs.PlainPositivity.{StrictlyPositive, absent, applied, in_codomain, PositiveBlock}
use Rattle.cic_counted.specs.calls.Examples.{id_of, bad_block}

domain_of : {a a' b b' : Tree} → prod a b ≡ prod a' b' → a ≡ a'
domain_of e = cc

abbrev bad_id : GlobalId
bad_id = id_of (codes "bad")

bad_occurs : Absent (bad_id ∷ []) (ind bad_id) → ⊥
bad_occurs h = h bad_id (0, lit< tt, refl) (inl refl)

bad_not_positive : {t : Tree} → StrictlyPositive (bad_id ∷ []) t → t ≡ prod (ind bad_id) (ind bad_id) → ⊥
bad_not_positive (absent h) e = subst (Absent (bad_id ∷ [])) e h bad_id (0, lit< tt, refl) (inr (inl (inl refl)))
bad_not_positive (applied id us a c h) e = applied_is_no_product us id (ind bad_id) (ind bad_id) (sym e ∙ a)
bad_not_positive (in_codomain {a = a} h k) e = let is_bad : a ≡ ind bad_id = cc in bad_occurs (subst (Absent (bad_id ∷ [])) is_bad h)

argument_not_positive : (arguments us : List Tree) (id : GlobalId) → prod (prod (ind bad_id) (ind bad_id)) (ind bad_id) ≡ products arguments (apply (ind id) us) → Each (StrictlyPositive (bad_id ∷ [])) arguments → ⊥
argument_not_positive [] us id e h = applied_is_no_product us id (prod (ind bad_id) (ind bad_id)) (ind bad_id) e
argument_not_positive (a ∷ as_) us id e h = bad_not_positive h.0 (sym (domain_of e))

constructor_not_positive : (id : GlobalId) (domains arguments us : List Tree) → prod (prod (ind bad_id) (ind bad_id)) (ind bad_id) ≡ products domains (products arguments (apply (ind id) us)) → length domains ≡ 0 → Each (StrictlyPositive (bad_id ∷ [])) arguments → ⊥
constructor_not_positive id [] arguments us e l h = argument_not_positive arguments us id e h
constructor_not_positive id (d ∷ ds) arguments us e l h = omega arith

pub bad_block_not_positive : PositiveBlock bad_block → ⊥
bad_block_not_positive h = let k = h.0.0 in constructor_not_positive bad_id k.parts.parameters k.parts.arguments k.parts.applied_to k.parts.is_type k.parts.as_many k.arguments_positive
