-- What a formed environment shows is right: by induction on its declarations, each of which is right over the earlier
-- ones, and stays so where more declarations follow. The types of the constructors of a block get their sorts over the
-- block taken bare, which shows of its types what the whole block shows. The laws of typing ask for what is shown
-- right, and so hold over each formed environment.
use Rattle.std.proofs.Common.{◌≡◌, inl, inr, ℕ, suc, ◌+◌, Option, Some, None, List, [], ◌∷◌, ◌++◌, length, take, refl, sym, ap, ◌∙◌, subst, arith}
use Rattle.cic_terms.specs.Tree.{TreeSort, Tree, sort}
use Rattle.cic_names.specs.declared.name.GlobalId.{GlobalId}
use Rattle.cic_rules.specs.Numbering.{Numbering}
use Rattle.cic_rules.specs.Environment.{Environment, Context, Declaration, axiom_of, transparent, opaque, inductive, Block, TypeDeclaration, ConstructorDeclaration, Constructor, Item, declared, bare, InductiveType, TypeInBlock, type_ids, environment_ids, Meaning, constant, whole_type, bare_type, constructor, or_else, where_same, item_meaning, type_meaning, meaning, constant_type_in, transparent_body_in, inductive_type_in, inductive_type_in_block, whole_block_in, constructor_in, constructor_in_type, constructor_in_block, element}
use Rattle.cic_rules.specs.Telescopes.{products, domains_of}
use Rattle.cic_rules.specs.Inductive.{Each, TypeShape, ConstructorShape}
use Rattle.cic_rules.specs.Typing.{Typed, HasSort}
use Rattle.cic_rules.specs.Formed.{Distinct, Formed, nothing_declared, one_more, WellFormedDeclaration, WellFormedBlock, WellFormedType, WellFormedConstructor}
use Rattle.cic_metatheory.specs.Growth.{KnowsItsTypes, Grows}
use Rattle.cic_metatheory.specs.WellTypedLookups.{ConstructorShown, TypeShown, WellTypedLookups}
use Rattle.cic_metatheory.proofs.basics.ConstructorTypes.{shape_is_type}
use Rattle.cic_metatheory.proofs.environments.Order.{meaning_joined, or_else_cases, where_same_says}
use Rattle.cic_metatheory.proofs.environments.Mentions.{typed_means}
use Rattle.cic_metatheory.proofs.guards.Environments.{whole_sees_bare}
use Rattle.cic_metatheory.proofs.environments.Growing.{more_declarations_grow}
use Rattle.cic_metatheory.proofs.typings.Weakening.{typed_grows}
use Rattle.cic_metatheory.proofs.typings.Instances.{sort_at}
use Rattle.cic_metatheory.proofs.environments.Declared.{IsTypeAt, IsConstructorAt, TypeSays, of_type, of_constructor, type_says, bare_says, type_stands, constructor_of_type_stands, last_ids_distinct, last_stands}
use Rattle.cic_metatheory.proofs.typings.ProductSorts.{products_have_sort, arguments_have_sort}
use Rattle.cic_metatheory.proofs.basics.Options.{some_inj, some_is_not_none}
use Rattle.cic_metatheory.proofs.basics.Elements.{each_at}

-- What an id stands for is right: a constant's type has a sort and its body that type, a type's arity and a
-- constructor's type have sorts.
abbrev pub RightMeaning : Environment → Numbering → GlobalId → Meaning → Type 0
RightMeaning E N id (constant type body) = HasSort E N [] type × ((b : Tree) → body ≡ Some b → Typed E N [] b type)
RightMeaning E N id (whole_type block i) = (T : TypeDeclaration) → element block.types i ≡ Some T → TypeShown E N id block T
RightMeaning E N id (bare_type block i) = (T : TypeDeclaration) → element block.types i ≡ Some T → HasSort E N [] T.arity
RightMeaning E N id (constructor block i place) = (K : Constructor) → constructor_in_block block place (element block.types i) ≡ Some K → HasSort E N [] K.type

abbrev pub RightMeanings : Environment → Numbering → Type 0
RightMeanings E N = (id : GlobalId) (m : Meaning) → meaning E id ≡ Some m → RightMeaning E N id m

-- Lookups by meanings
module _ (E : Environment) (N : Numbering) (id : GlobalId) where
  abbrev Is : Option Meaning → Type 0
  Is o = (m : Meaning) → o ≡ Some m → RightMeaning E N id m

  constant_right : (o : Option Meaning) → Is o → (t : Tree) → constant_type_in o ≡ Some t → HasSort E N [] t
  constant_right (Some (constant type body)) h t e = subst (HasSort E N []) (some_inj e) (h (constant type body) refl).0
  constant_right _ h t e = some_is_not_none e

  body_right : (o : Option Meaning) → Is o → (t b : Tree) → constant_type_in o ≡ Some t → transparent_body_in o ≡ Some b → Typed E N [] b t
  body_right (Some (constant type body)) h t b e k = subst (Typed E N [] b) (some_inj e) ((h (constant type body) refl).1 b k)
  body_right _ h t b e k = some_is_not_none e

  arity_sorted : (block : Block) (i : ℕ) (A : InductiveType) → ((T : TypeDeclaration) → element block.types i ≡ Some T → HasSort E N [] T.arity) →
      (o : Option TypeDeclaration) → element block.types i ≡ o → inductive_type_in_block block o ≡ Some A → HasSort E N [] A.arity
  arity_sorted block i A h (Some T) q e = subst (λ (z : InductiveType). HasSort E N [] z.arity) (some_inj e) (h T q)
  arity_sorted block i A h None q e = some_is_not_none e

  arity_right : (o : Option Meaning) → Is o → (A : InductiveType) → inductive_type_in o ≡ Some A → HasSort E N [] A.arity
  arity_right (Some (whole_type block i)) h A e = arity_sorted block i A (λ T q. (h (whole_type block i) refl T q).sorted) (element block.types i) refl e
  arity_right (Some (bare_type block i)) h A e = arity_sorted block i A (h (bare_type block i) refl) (element block.types i) refl e
  arity_right _ h A e = some_is_not_none e

  constructor_right : (o : Option Meaning) → Is o → (K : Constructor) → constructor_in o ≡ Some K → HasSort E N [] K.type
  constructor_right (Some (constructor block i place)) h K e = h (constructor block i place) refl K e
  constructor_right _ h K e = some_is_not_none e

  type_right : (o : Option Meaning) → Is o → (place : TypeInBlock) (T : TypeDeclaration) → whole_block_in o ≡ Some place → element place.block.types place.index ≡ Some T →
      TypeShown E N id place.block T
  type_right (Some (whole_type block i)) h place T e q =
      let p = some_inj e in
      subst (λ (z : TypeInBlock). element z.block.types z.index ≡ Some T → TypeShown E N id z.block T) p (h (whole_type block i) refl T) q
  type_right _ h place T e q = some_is_not_none e

pub right_lookups : (E : Environment) (N : Numbering) → RightMeanings E N → WellTypedLookups E N
right_lookups E N h = record {
  constants = λ c. constant_right E N c (meaning E c) (h c);
  bodies = λ c. body_right E N c (meaning E c) (h c);
  arities = λ c. arity_right E N c (meaning E c) (h c);
  constructors = λ c. constructor_right E N c (meaning E c) (h c);
  types = λ c. type_right E N c (meaning E c) (h c);
}

-- Lists
pub each_weakened : {A : Type 0} (P Q : A → Type 0) (xs : List A) → ((x : A) → P x → Q x) → Each P xs → Each Q xs
each_weakened P Q [] f h = tt
each_weakened P Q (x ∷ xs) f h = (f x h.0, each_weakened P Q xs f h.1)

each_from_elements : {A : Type 0} (P : A → Type 0) (xs : List A) → ((i : ℕ) (x : A) → element xs i ≡ Some x → P x) → Each P xs
each_from_elements P [] h = tt
each_from_elements P (x ∷ xs) h = (h 0 x refl, each_from_elements P xs (λ i. h (suc i)))

-- Growth
pub sort_grows : (E E' : Environment) (N : Numbering) (G : Context) (t : Tree) → Grows E E' → HasSort E N G t → HasSort E' N G t
sort_grows E E' N G t g h = record { its_sort = h.its_sort; typed = typed_grows E E' N G t (sort h.its_sort) g h.typed }

type_shown_grows : (E E' : Environment) (N : Numbering) (id : GlobalId) (block : Block) (T : TypeDeclaration) → Grows E E' → TypeShown E N id block T → TypeShown E' N id block T
type_shown_grows E E' N id block T g h = record {
  is_named = h.is_named;
  domains = h.domains;
  as_many = h.as_many;
  arity = h.arity;
  sorted = sort_grows E E' N [] T.arity g h.sorted;
  constructors = each_weakened (ConstructorShown E N h.domains T.id (length h.arity.indices)) (ConstructorShown E' N h.domains T.id (length h.arity.indices)) T.constructors
      (λ c k. record {
        shown = k.shown;
        stands = g.constructors c.id k.shown k.stands;
        is_type = k.is_type;
        shape = k.shape;
        sorted = sort_grows E E' N [] c.type g k.sorted;
      }) h.constructors;
}

meaning_grows : (E E' : Environment) (N : Numbering) (id : GlobalId) (m : Meaning) → Grows E E' → RightMeaning E N id m → RightMeaning E' N id m
meaning_grows E E' N id (constant type body) g h = (sort_grows E E' N [] type g h.0, λ b e. typed_grows E E' N [] b type g (h.1 b e))
meaning_grows E E' N id (whole_type block i) g h = λ T e. type_shown_grows E E' N id block T g (h T e)
meaning_grows E E' N id (bare_type block i) g h = λ T e. sort_grows E E' N [] T.arity g (h T e)
meaning_grows E E' N id (constructor block i place) g h = λ K e. sort_grows E E' N [] K.type g (h K e)

pub no_more : {A : Type 0} (a : Option A) → or_else a None ≡ a
no_more None = refl
no_more (Some x) = refl

-- What stands in the type of a constructor that is right stands for something.
pub meanings_know : (E : Environment) (N : Numbering) → RightMeanings E N → KnowsItsTypes E
meanings_know E N h c J m =
    let shown = (right_lookups E N h).types c m.place m.type m.shown m.is_type in
    let k = each_at (ConstructorShown E N shown.domains m.type.id (length shown.arity.indices)) m.type.constructors m.number m.constructor shown.constructors m.is_constructor in
    typed_means E N k.sorted.typed J m.mentions

-- One more item
pub meanings_with_item : (E : Environment) (item : Item) (N : Numbering) → RightMeanings E N → ((id : GlobalId) (m : Meaning) → item_meaning item id ≡ Some m → RightMeaning (E ++ item ∷ []) N id m) →
    RightMeanings (E ++ item ∷ []) N
meanings_with_item E item N h k id m e =
    elim (or_else_cases (meaning E id) (or_else (item_meaning item id) None) m (sym (meaning_joined E (item ∷ []) id) ∙ e)) [
      | inl q ↦ meaning_grows E (E ++ item ∷ []) N id m (more_declarations_grow E (item ∷ []) (meanings_know E N h)) (h id m q)
      | inr q ↦ k id m (sym (no_more (item_meaning item id)) ∙ q)
    ]

-- A block taken bare shows no more than the whole block.
bare_becomes_whole : (block : Block) (id : GlobalId) (m : Meaning) → Distinct (type_ids block.types) → item_meaning (bare block) id ≡ Some m →
    (i : ℕ) × (m ≡ bare_type block i) × (item_meaning (declared (inductive block)) id ≡ Some (whole_type block i))
bare_becomes_whole block id m h e =
    let r = bare_says block 0 block.types id m e in
    let z : 0 + r.0 ≡ r.0 = omega arith in (
      r.0,
      r.2 ∙ ap (bare_type block) z,
      ap (type_meaning block 0 block.types) (sym r.1.named)
          ∙ type_stands block 0 block.types r.0 r.1.type h r.1.stands
          ∙ ap (λ i. Some (whole_type block i)) z,
    )

lookup_becomes_whole : {A : Type 0} (block : Block) (look : Option Meaning → Option A) → look None ≡ None →
    ((i : ℕ) (a : A) → look (Some (bare_type block i)) ≡ Some a → look (Some (whole_type block i)) ≡ Some a) →
    (first x y : Option Meaning) → ((m : Meaning) → x ≡ Some m → (i : ℕ) × (m ≡ bare_type block i) × (y ≡ Some (whole_type block i))) →
    (a : A) → look (or_else first (or_else x None)) ≡ Some a → look (or_else first (or_else y None)) ≡ Some a
lookup_becomes_whole block look n w (Some m) x y h a e = e
lookup_becomes_whole block look n w None None y h a e = some_is_not_none (sym n ∙ e)
lookup_becomes_whole block look n w None (Some m) y h a e =
    let r = h m refl in
    ap (λ o. look (or_else o None)) r.2 ∙ w r.0 a (ap (λ z. look (Some z)) (sym r.1) ∙ e)

pub bare_grows_whole : (E : Environment) (block : Block) → KnowsItsTypes E → Distinct (environment_ids (E ++ declared (inductive block) ∷ [])) → Grows (E ++ bare block ∷ []) (E ++ declared (inductive block) ∷ [])
bare_grows_whole E block knows h = record {
  types = becomes constant_type_in refl (λ i a e. some_is_not_none e);
  bodies = becomes transparent_body_in refl (λ i a e. some_is_not_none e);
  arities = becomes inductive_type_in refl (λ i a e. e);
  blocks = becomes whole_block_in refl (λ i a e. some_is_not_none e);
  constructors = becomes constructor_in refl (λ i a e. some_is_not_none e);
  seen = whole_sees_bare E block knows;
}
  where
    becomes : {A : Type 0} (look : Option Meaning → Option A) → look None ≡ None →
        ((i : ℕ) (a : A) → look (Some (bare_type block i)) ≡ Some a → look (Some (whole_type block i)) ≡ Some a) →
        (id : GlobalId) (a : A) → look (meaning (E ++ bare block ∷ []) id) ≡ Some a → look (meaning (E ++ declared (inductive block) ∷ []) id) ≡ Some a
    becomes look n w id a e =
        ap look (meaning_joined E (declared (inductive block) ∷ []) id)
        ∙ lookup_becomes_whole block look n w (meaning E id) (item_meaning (bare block) id) (item_meaning (declared (inductive block)) id)
        (λ m q. bare_becomes_whole block id m (last_ids_distinct E (declared (inductive block)) h) q) a
        (ap look (sym (meaning_joined E (bare block ∷ []) id)) ∙ e)

-- The type of a constructor
taken_domains : (as_ : List Tree) (x : Tree) → take (length as_) (domains_of (products as_ x)) ≡ as_
taken_domains [] x = refl
taken_domains (a ∷ as_) x = ap (◌∷◌ a) (taken_domains as_ x)

same_domains : (as_ bs : List Tree) (x y : Tree) → length as_ ≡ length bs → products as_ x ≡ products bs y → as_ ≡ bs
same_domains as_ bs x y l e =
    sym (taken_domains as_ x) ∙ ap (λ n. take n (domains_of (products as_ x))) l ∙ ap (λ z. take (length bs) (domains_of z)) e ∙ taken_domains bs y

-- Over an environment that has the block bare, where its parameters' products have sorts in the arity.
constructor_has_sort : (E : Environment) (N : Numbering) (r : ℕ) (id : GlobalId) (s : TreeSort) (type arity x y : Tree) (domains : List Tree) →
    length domains ≡ r → type ≡ products domains y → arity ≡ products domains x → HasSort E N [] arity → WellFormedConstructor E N r id s type → HasSort E N [] type
constructor_has_sort E N r id s type arity x y domains l et ea h c =
    let p = c.parts in
    let same : p.parameters ≡ domains = same_domains p.parameters domains _ y (p.as_many ∙ sym l) (sym p.is_type ∙ et) in
    sort_at E N [] (products p.parameters _) type (sym p.is_type)
    (products_have_sort E N [] p.parameters _ x (sort_at E N [] arity (products p.parameters x) (ea ∙ ap (λ z. products z x) (sym same)) h)
    (arguments_have_sort E N s _ c.right))

constructor_found : (block : Block) (i place : ℕ) (T : TypeDeclaration) (c : ConstructorDeclaration) → element block.types i ≡ Some T → element T.constructors place ≡ Some c →
    constructor_in_block block place (element block.types i) ≡ Some (record { type = c.type; owner = T.id; place = place; parameters = block.parameters })
constructor_found block i place T c e d = ap (constructor_in_block block place) e ∙ ap (constructor_in_type block place T) d

-- A type of a whole block after an environment over which the block is right
module _ (E : Environment) (N : Numbering) (block : Block) (knows : KnowsItsTypes E) (distinct : Distinct (environment_ids (E ++ declared (inductive block) ∷ []))) (right : WellFormedBlock E N block) where
  type_shown : (i : ℕ) (T : TypeDeclaration) → element block.types i ≡ Some T → TypeShown (E ++ declared (inductive block) ∷ []) N T.id block T
  type_shown i T e =
      let B : Environment = E ++ bare block ∷ [] in
      let W : Environment = E ++ declared (inductive block) ∷ [] in
      let shape = each_at (TypeShape right.shaped.domains) block.types i T right.shaped.types e in
      let sorted = each_at (λ t. HasSort E N [] t.arity) block.types i T right.arities e in
      let checked = each_at (WellFormedType B N block.parameters) block.types i T right.types e in
      record {
        is_named = refl;
        domains = right.shaped.domains;
        as_many = right.shaped.as_many;
        arity = shape.arity;
        sorted = sort_grows E W N [] T.arity (more_declarations_grow E (declared (inductive block) ∷ []) knows) sorted;
        constructors = each_from_elements (ConstructorShown W N right.shaped.domains T.id (length shape.arity.indices)) T.constructors (λ place c d.
            let its_shape = each_at (λ k. ConstructorShape right.shaped.domains T.id (length shape.arity.indices) k.type) T.constructors place c shape.constructors d in
            let its_right = each_at (λ k. WellFormedConstructor B N block.parameters T.id checked.ends_in k.type) T.constructors place c checked.constructors d in
            let z : 0 + i ≡ i = omega arith in
            record {
              shown = record { type = c.type; owner = T.id; place = place; parameters = block.parameters };
              stands =
                  ap constructor_in
                  (last_stands E (declared (inductive block)) c.id (constructor block (0 + i) place) distinct
                  (constructor_of_type_stands block 0 block.types i place T c (last_ids_distinct E (declared (inductive block)) distinct) e d))
                  ∙ ap (λ j. constructor_in_block block place (element block.types j)) z
                  ∙ constructor_found block i place T c e d;
              is_type = refl;
              shape = its_shape;
              sorted = sort_grows B W N [] c.type (bare_grows_whole E block knows distinct)
                  (constructor_has_sort B N block.parameters T.id checked.ends_in c.type T.arity _ _ right.shaped.domains right.shaped.as_many (shape_is_type its_shape) shape.arity.is_arity
                  (sort_grows E B N [] T.arity (more_declarations_grow E (bare block ∷ []) knows) sorted) its_right);
            });
      }

  type_at_place : (id : GlobalId) (i : ℕ) → IsTypeAt block.types id i → (T : TypeDeclaration) → element block.types i ≡ Some T → TypeShown (E ++ declared (inductive block) ∷ []) N id block T
  type_at_place id i a T d =
      subst (λ other. TypeShown (E ++ declared (inductive block) ∷ []) N other block T) (ap (λ (t : TypeDeclaration). t.id) (some_inj (sym d ∙ a.stands)) ∙ a.named) (type_shown i T d)

  constructor_at_place : (id : GlobalId) (i place : ℕ) → IsConstructorAt block.types id i place → (K : Constructor) → constructor_in_block block place (element block.types i) ≡ Some K →
      HasSort (E ++ declared (inductive block) ∷ []) N [] K.type
  constructor_at_place id i place a K d =
      let shown = type_shown i a.type a.stands in
      let its = each_at (ConstructorShown (E ++ declared (inductive block) ∷ []) N shown.domains a.type.id (length shown.arity.indices)) a.type.constructors place a.its shown.constructors a.at_place in
      sort_at (E ++ declared (inductive block) ∷ []) N [] a.its.type K.type
      (ap (λ (k : Constructor). k.type) (some_inj (sym (constructor_found block i place a.type a.its a.stands a.at_place) ∙ d))) its.sorted

  block_place_right : (id : GlobalId) (m : Meaning) → TypeSays block 0 block.types id m → RightMeaning (E ++ declared (inductive block) ∷ []) N id m
  block_place_right id m (of_type i a q) =
      let z : 0 + i ≡ i = omega arith in
      subst (RightMeaning (E ++ declared (inductive block) ∷ []) N id) (ap (whole_type block) (sym z) ∙ sym q) (type_at_place id i a)
  block_place_right id m (of_constructor i place a q) =
      let z : 0 + i ≡ i = omega arith in
      subst (RightMeaning (E ++ declared (inductive block) ∷ []) N id) (ap (λ j. constructor block j place) (sym z) ∙ sym q) (constructor_at_place id i place a)

-- A declaration that is right
constant_shown : (E : Environment) (N : Numbering) (other id : GlobalId) (type : Tree) (body : Option Tree) (m : Meaning) → where_same other id (constant type body) ≡ Some m →
    HasSort E N [] type → ((b : Tree) → body ≡ Some b → Typed E N [] b type) → RightMeaning E N id m
constant_shown E N other id type body m e h k = subst (RightMeaning E N id) (where_same_says other id (constant type body) m e).1 (h, k)

declaration_right : (E : Environment) (N : Numbering) (d : Declaration) → KnowsItsTypes E → Distinct (environment_ids (E ++ declared d ∷ [])) → WellFormedDeclaration E N d →
    (id : GlobalId) (m : Meaning) → item_meaning (declared d) id ≡ Some m → RightMeaning (E ++ declared d ∷ []) N id m
declaration_right E N (inductive block) knows h r id m e = block_place_right E N block knows h r id m (type_says block 0 block.types id m e)
declaration_right E N (axiom_of other type) knows h r id m e =
    constant_shown (E ++ declared (axiom_of other type) ∷ []) N other id type None m e
    (sort_grows E (E ++ declared (axiom_of other type) ∷ []) N [] type (more_declarations_grow E (declared (axiom_of other type) ∷ []) knows) r) (λ b k. some_is_not_none k)
declaration_right E N (transparent other type body) knows h r id m e =
    let W : Environment = E ++ declared (transparent other type body) ∷ [] in
    let g = more_declarations_grow E (declared (transparent other type body) ∷ []) knows in
    constant_shown W N other id type (Some body) m e (sort_grows E W N [] type g r.sorted)
    (λ b k. subst (λ z. Typed W N [] z type) (some_inj k) (typed_grows E W N [] body type g r.typed))
declaration_right E N (opaque other type (Some body)) knows h r id m e =
    let d : Declaration = opaque other type (Some body) in
    constant_shown (E ++ declared d ∷ []) N other id type None m e
    (sort_grows E (E ++ declared d ∷ []) N [] type (more_declarations_grow E (declared d ∷ []) knows) r.sorted) (λ b k. some_is_not_none k)
declaration_right E N (opaque other type None) knows h r id m e =
    let d : Declaration = opaque other type None in
    constant_shown (E ++ declared d ∷ []) N other id type None m e
    (sort_grows E (E ++ declared d ∷ []) N [] type (more_declarations_grow E (declared d ∷ []) knows) r) (λ b k. some_is_not_none k)

pub formed_meanings : (N : Numbering) {F : Environment} → Formed N F → RightMeanings F N
formed_meanings N nothing_declared = λ id m e. some_is_not_none e
formed_meanings N (one_more E d f q h r) =
    subst (λ F. RightMeanings F N) (sym q)
    (meanings_with_item E (declared d) N (formed_meanings N f) (declaration_right E N d (meanings_know E N (formed_meanings N f)) (subst (λ F. Distinct (environment_ids F)) q h) r))

pub formed_knows : (E : Environment) (N : Numbering) → Formed N E → KnowsItsTypes E
formed_knows E N f = meanings_know E N (formed_meanings N f)

pub formed_shows_right : (E : Environment) (N : Numbering) → Formed N E → WellTypedLookups E N
formed_shows_right E N f = right_lookups E N (formed_meanings N f)

-- One with a block of right arities taken bare after it
bare_item_right : (E : Environment) (N : Numbering) (block : Block) → KnowsItsTypes E → Each (λ t. HasSort E N [] t.arity) block.types →
    (id : GlobalId) (m : Meaning) → item_meaning (bare block) id ≡ Some m → RightMeaning (E ++ bare block ∷ []) N id m
bare_item_right E N block knows h id m e =
    let r = bare_says block 0 block.types id m e in
    let z : 0 + r.0 ≡ r.0 = omega arith in
    subst (RightMeaning (E ++ bare block ∷ []) N id) (ap (bare_type block) (sym z) ∙ sym r.2)
    (λ T d. sort_grows E (E ++ bare block ∷ []) N [] T.arity (more_declarations_grow E (bare block ∷ []) knows) (each_at (λ t. HasSort E N [] t.arity) block.types r.0 T h d))

pub bare_shows_right : (E : Environment) (N : Numbering) (block : Block) → Formed N E → Each (λ t. HasSort E N [] t.arity) block.types → WellTypedLookups (E ++ bare block ∷ []) N
bare_shows_right E N block f h = right_lookups (E ++ bare block ∷ []) N (meanings_with_item E (bare block) N (formed_meanings N f) (bare_item_right E N block (formed_knows E N f) h))
