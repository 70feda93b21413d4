-- Where no id is declared twice, all types of a block that an environment shows stand for that block.
use Rattle.std.proofs.Common.{◌≡◌, ℕ, suc, ◌+◌, Option, Some, None, List, [], ◌∷◌, refl, sym, ap, ◌∙◌, arith, subst, Contains, inl, inr}
use Rattle.cic_names.specs.declared.name.GlobalId.{GlobalId}
use Rattle.cic_rules.specs.Environment.{Environment, axiom_of, transparent, opaque, inductive, Block, TypeDeclaration, Item, declared, bare, TypeInBlock, bare_ids, item_ids, environment_ids, Meaning, constant, whole_type, item_meaning, meaning, whole_block, whole_block_in, element}
use Rattle.cic_rules.specs.Formed.{Distinct}
use Rattle.cic_metatheory.proofs.environments.Order.{where_same_says, distinct_parts, found_in, stands_for}
use Rattle.cic_metatheory.proofs.environments.Declared.{TypeSays, of_type, of_constructor, type_says, bare_says, type_stands}
use Rattle.cic_metatheory.proofs.basics.Options.{some_inj, some_is_not_none}
use Rattle.cic_metatheory.proofs.basics.Elements.{contains_cases, contains_none}

whole_meaning : (o : Option Meaning) (I : TypeInBlock) → whole_block_in o ≡ Some I → o ≡ Some (whole_type I.block I.index)
whole_meaning (Some (whole_type block index)) I e =
    ap (λ (z : TypeInBlock). Some (whole_type z.block z.index)) (some_inj e)
whole_meaning _ I e = some_is_not_none e

item_distinct : (E : Environment) (item : Item) → Contains E item → Distinct (environment_ids E) → Distinct (item_ids item)
item_distinct [] item h d = absurd (contains_none item h)
item_distinct (first ∷ E) item h d = elim (contains_cases first item E h) [
  | inl q ↦ subst (λ z. Distinct (item_ids z)) q (distinct_parts (item_ids first) (environment_ids E) d).front
  | inr r ↦ item_distinct E item r (distinct_parts (item_ids first) (environment_ids E) d).rest
]

-- The item of a block shows its types.
block_of_item : (item : Item) (id : GlobalId) (block : Block) (index : ℕ) → item_meaning item id ≡ Some (whole_type block index) → item ≡ declared (inductive block)
block_of_item (declared (axiom_of other type)) id block index e =
    let p = (where_same_says other id (constant type None) (whole_type block index) e).1 in absurd (grind (arith, p))
block_of_item (declared (transparent other type body)) id block index e =
    let p = (where_same_says other id (constant type (Some body)) (whole_type block index) e).1 in absurd (grind (arith, p))
block_of_item (declared (opaque other type body)) id block index e =
    let p = (where_same_says other id (constant type None) (whole_type block index) e).1 in absurd (grind (arith, p))
block_of_item (bare other) id block index e =
    let r = bare_says other 0 other.types id (whole_type block index) e in
    let p = r.2 in absurd (grind (arith, p))
block_of_item (declared (inductive other)) id block index e = says (type_says other 0 other.types id (whole_type block index) e)
  where
    block_named : (m : Meaning) (i : ℕ) → m ≡ whole_type other i → m ≡ whole_type block index → other ≡ block
    block_named m i p q = let z : whole_type other i ≡ whole_type block index = sym p ∙ q in cc

    says : TypeSays other 0 other.types id (whole_type block index) → declared (inductive other) ≡ declared (inductive block)
    says (of_type i a q) = ap (λ z. declared (inductive z)) (block_named (whole_type block index) (0 + i) q refl)
    says (of_constructor i place a q) = absurd (grind (arith, q))

type_at : (ts : List TypeDeclaration) (id : GlobalId) → Contains (bare_ids ts) id → (i : ℕ) × (T : TypeDeclaration) × (element ts i ≡ Some T) × (T.id ≡ id)
type_at [] id h = absurd (contains_none id h)
type_at (T ∷ ts) id h = elim (contains_cases T.id id (bare_ids ts) h) [
  | inl q ↦ (0, T, refl, q)
  | inr r ↦ let s = type_at ts id r in (suc s.0, s.1, s.2, s.3)
]

pub one_block : (E : Environment) (c d : GlobalId) (I J : TypeInBlock) → Distinct (environment_ids E) → whole_block E c ≡ Some I → whole_block E d ≡ Some J → Contains (bare_ids I.block.types) d → J.block ≡ I.block
one_block E c d I J distinct shown shown' h =
    let f = found_in E c (whole_type I.block I.index) (whole_meaning (meaning E c) I shown) in
    let is_block = block_of_item f.0 c I.block I.index f.2 in
    let stands : Contains E (declared (inductive I.block)) = subst (Contains E) is_block f.1 in
    let t = type_at I.block.types d h in
    let of_item = type_stands I.block 0 I.block.types t.0 t.1 (item_distinct E (declared (inductive I.block)) stands distinct) t.2 in
    let means : meaning E d ≡ Some (whole_type I.block (0 + t.0)) =
    stands_for E (declared (inductive I.block)) d (whole_type I.block (0 + t.0)) distinct stands (ap (item_meaning (declared (inductive I.block))) (sym t.3) ∙ of_item) in
    ap (λ (z : TypeInBlock). z.block) (some_inj (sym shown' ∙ ap whole_block_in means))
