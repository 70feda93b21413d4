-- What the words about ids, contexts and items take, and what they refuse.
use Rattle.std.proofs.Common.{◌≡◌, ◌≢◌, inl, inr, ◌⊎◌, true, false, List, [], ◌∷◌, map, reverse, refl, sym, ap, subst, ◌∙◌, arith, Contains}
use Rattle.std.specs.Prelude.{Some, None, Ok, Err}
use Rattle.std.specs.List.{list_any}
use Rattle.cic_names.specs.declared.name.GlobalId.{GlobalId}
use Rattle.cic_names.specs.Sameness.{same_id}
use Rattle.cic_terms.specs.Tree.{Tree}
use Rattle.cic_rules.specs.Environment.{Environment, Entry, axiom_of, transparent, opaque, inductive, Item, declared, bare}
use Rattle.cic_env.specs.Contexts.{local, context}
use Rattle.cic_env.specs.Environments.{OnlyDuplicate}
use Rattle.cic_env.specs.Items.{stripped}
use Rattle.cic_env.specs.NewIds.{AreNew, HasTwice, HasTaken}
use Rattle.cic_env.specs.declared.context.Context.{Context}
use Rattle.cic_env.specs.declared.context.Local.{Local}
use Rattle.cic_env.specs.declared.declaration.Decl.{Decl}
use Rattle.cic_env.specs.declared.environment.PushFault.TheVariants.{Duplicate}
use Rattle.cic_env.proofs.Lookups.{Contains-one, there-contains, absent-lacks}
use Rattle.cic_env.proofs.Newness.{contains_cases, contains_here, contains_later, new-none, new-one, new-alone, new-taken}

-- Ids that are new: one that differs from the id before, and two that differ where there are none before.
pub another_id_is_new : (a b : GlobalId) → a ≢ b → AreNew (a ∷ []) (b ∷ [])
another_id_is_new a b differ = new-one (a ∷ []) b (λ has. differ (Contains-one a b has))

pub two_ids_are_new : (a b : GlobalId) → a ≢ b → AreNew [] (a ∷ b ∷ [])
two_ids_are_new a b differ =
    new-alone [] (a ∷ b ∷ []) refl ((λ has. differ (sym (Contains-one b a has))), ((λ has. omega (arith, has.1)), tt))

-- Not the id that is there, and no id twice.
pub id_there_is_not_new : (id : GlobalId) → ¬ AreNew (id ∷ []) (id ∷ [])
id_there_is_not_new id new = new.1 id (contains_here id []) (contains_here id [])

pub id_twice_is_not_new : (before : List GlobalId) (id : GlobalId) → ¬ AreNew before (id ∷ id ∷ [])
id_twice_is_not_new before id new = new.0.0 (contains_here id [])

-- These two have an id that is taken.
pub id_there_is_taken : (id : GlobalId) → HasTaken (id ∷ []) (id ∷ [])
id_there_is_taken id = inl (id, contains_here id [], contains_here id [])

pub id_twice_is_taken : (before : List GlobalId) (id : GlobalId) → HasTaken before (id ∷ id ∷ [])
id_twice_is_taken before id = inr (inl (contains_here id []))

-- An id alone does not stand twice, and is not taken where another id is there.
pub id_alone_is_not_twice : (id : GlobalId) → ¬ HasTwice (id ∷ [])
id_alone_is_not_twice id twice = elim twice [
  | inl has ↦ omega (arith, has.1)
  | inr none ↦ none
]

pub another_id_is_not_taken : (a b : GlobalId) → a ≢ b → ¬ HasTaken (a ∷ []) (b ∷ [])
another_id_is_not_taken a b differ taken = new-taken (a ∷ []) (b ∷ []) (another_id_is_new a b differ) taken

-- Ids are new or have one that is taken, and never both.
contains_or_lacks : (ids : List GlobalId) (id : GlobalId) → Contains ids id ⊎ (Contains ids id → ⊥)
contains_or_lacks ids id =
    elim (list_any (same_id id) ids) as (λ b. list_any (same_id id) ids ≡ b → Contains ids id ⊎ (Contains ids id → ⊥)) [
      | true ↦ λ e. inl (there-contains id ids e)
      | false ↦ λ e. inr (absent-lacks id ids e)
    ] refl

new-first : (before ids : List GlobalId) (id : GlobalId) → (Contains before id → ⊥) → (Contains ids id → ⊥) → AreNew before ids → AreNew before (id ∷ ids)
new-first before ids id absent once new = (
  (once, new.0),
  λ other has there.
      elim (contains_cases id other ids has) [
        | inl same ↦ absent (subst (λ z. Contains before z) (sym same) there)
        | inr later ↦ new.1 other later there
      ],
)

taken-first : (before ids : List GlobalId) (id : GlobalId) → HasTaken before ids → HasTaken before (id ∷ ids)
taken-first before ids id taken = elim taken [
  | inl one ↦ inl (one.0, contains_later id one.0 ids one.1, one.2)
  | inr twice ↦ inr (inr twice)
]

pub new_or_taken : (before ids : List GlobalId) → AreNew before ids ⊎ HasTaken before ids
new_or_taken before [] = inl (new-none before)
new_or_taken before (id ∷ ids) = elim (contains_or_lacks before id) [
  | inl there ↦ inr (inl (id, contains_here id ids, there))
  | inr absent ↦ elim (contains_or_lacks ids id) [
    | inl later ↦ inr (inr (inl later))
    | inr once ↦ elim (new_or_taken before ids) [
      | inl new ↦ inl (new-first before ids id absent once new)
      | inr taken ↦ inr (taken-first before ids id taken)
    ]
  ]
]

pub new_ids_are_not_taken : (before ids : List GlobalId) → AreNew before ids → ¬ HasTaken before ids
new_ids_are_not_taken before ids new taken = new-taken before ids new taken

-- So a declaration that can be added is no duplicate.
pub added_is_no_duplicate : (E : Environment) (decl back : Decl) → OnlyDuplicate (Ok tt) E decl → ¬ OnlyDuplicate (Err (Duplicate back)) E decl
added_is_no_duplicate E decl back added duplicate = new-taken _ _ added duplicate

-- The entry that the program keeps last is the innermost one, and the one that it keeps first is not.
firsts : {x y : Entry} {xs ys : List Entry} → x ∷ xs ≡ y ∷ ys → x ≡ y
firsts e = cc

pub last_entry_is_innermost : (ctx : Context) (outer inner : Local) → ctx.locals.items ≡ outer ∷ inner ∷ [] → context ctx ≡ local inner ∷ local outer ∷ []
last_entry_is_innermost ctx outer inner kept = ap (λ (l : List Local). map local (reverse l)) kept

pub first_entry_is_not_innermost : (ctx : Context) (outer inner : Local) → local inner ≢ local outer → ctx.locals.items ≡ outer ∷ inner ∷ [] →
    context ctx ≢ local outer ∷ local inner ∷ []
first_entry_is_not_innermost ctx outer inner differ kept e = differ (firsts (sym (last_entry_is_innermost ctx outer inner kept) ∙ e))

-- The body of an opaque constant goes, and that of a transparent one stays; no opaque body is left.
pub opaque_body_goes : (id : GlobalId) (type body : Tree) → stripped (declared (opaque id type (Some body))) ≡ declared (opaque id type None)
opaque_body_goes id type body = refl

pub transparent_body_stays : (id : GlobalId) (type body : Tree) → stripped (declared (transparent id type body)) ≡ declared (transparent id type body)
transparent_body_stays id type body = refl

pub no_opaque_body_is_left : (item : Item) (id : GlobalId) (type body : Tree) → stripped item ≢ declared (opaque id type (Some body))
no_opaque_body_is_left (declared (axiom_of other t)) id type body e = grind arith
no_opaque_body_is_left (declared (transparent other t b)) id type body e = grind arith
no_opaque_body_is_left (declared (opaque other t b)) id type body e = grind arith
no_opaque_body_is_left (declared (inductive block)) id type body e = grind arith
no_opaque_body_is_left (bare block) id type body e = grind arith
