-- Types that are strictly positive in a term stay so where the environment grows, since the rules ask for what it shows
-- alone.
use Rattle.std.proofs.Common.{ℕ, List, [], ◌∷◌}
use Rattle.cic_terms.specs.Tree.{Tree}
use Rattle.cic_names.specs.declared.name.GlobalId.{GlobalId}
use Rattle.cic_rules.specs.Environment.{Environment, Block, TypeDeclaration, ConstructorDeclaration, bare_ids}
use Rattle.cic_rules.specs.Inductive.{Each, PositiveConstructor}
use Rattle.cic_rules.specs.Nested.{Instance, OfOtherBlock, Positive, absent, applied, in_codomain, known_instance, new_instance, PositiveTypes, no_type, more_types, PositiveConstructors, no_constructor, more_constructors, PositiveArguments, conclusion, argument, NestedPositiveBlock}
use Rattle.cic_metatheory.specs.calls.Guards.{ShowsBlocks}

-- Growth
module _ (E E' : Environment) (ids : List GlobalId) (shows : ShowsBlocks E E') where
  abbrev other_grows : {t : Tree} → OfOtherBlock E ids t → OfOtherBlock E' ids t
  other_grows K = record {
    id = K.id;
    parameters = K.parameters;
    indices = K.indices;
    place = K.place;
    type = K.type;
    is_applied = K.is_applied;
    is_other = K.is_other;
    stands = shows K.id K.place K.stands;
    shaped = K.shaped;
    is_type = K.is_type;
    as_many_parameters = K.as_many_parameters;
    as_many = K.as_many;
    indices_absent = K.indices_absent;
  }

  mutual
    pub positive_grows : {L : List Instance} {t : Tree} → Positive E ids L t → Positive E' ids L t
    positive_grows (absent a) = absent a
    positive_grows (applied id us e c a) = applied id us e c a
    positive_grows (in_codomain a l p) = in_codomain a l (positive_grows p)
    positive_grows (known_instance K c) = known_instance (other_grows K) c
    positive_grows (new_instance K l p) = new_instance (other_grows K) l (types_grow p)

    types_grow : {L : List Instance} {ps : List Tree} {ts : List TypeDeclaration} → PositiveTypes E ids L ps ts → PositiveTypes E' ids L ps ts
    types_grow no_type = no_type
    types_grow (more_types c cs) = more_types (constructors_grow c) (types_grow cs)

    constructors_grow : {L : List Instance} {ps : List Tree} {cs : List ConstructorDeclaration} → PositiveConstructors E ids L ps cs → PositiveConstructors E' ids L ps cs
    constructors_grow no_constructor = no_constructor
    constructors_grow (more_constructors e c cs) = more_constructors e (arguments_grow c) (constructors_grow cs)

    arguments_grow : {L : List Instance} {r : ℕ} {t : Tree} → PositiveArguments E ids L r t → PositiveArguments E' ids L r t
    arguments_grow (conclusion id us e w a) = conclusion id us e w a
    arguments_grow (argument w p l c) = argument w (positive_grows p) l (arguments_grow c)

-- Each constructor of a block, with another sense of positive
module _ (PositiveIn PositiveIn' : Tree → Type 0) (so : (t : Tree) → PositiveIn t → PositiveIn' t) (ids : List GlobalId) (r : ℕ) where
  each_so : (as_ : List Tree) → Each PositiveIn as_ → Each PositiveIn' as_
  each_so [] h = tt
  each_so (a ∷ as_) h = (so a h.0, each_so as_ h.1)

  constructors_so : (id : GlobalId) (cs : List ConstructorDeclaration) → Each (λ c. PositiveConstructor PositiveIn ids id r c.type) cs → Each (λ c. PositiveConstructor PositiveIn' ids id r c.type) cs
  constructors_so id [] h = tt
  constructors_so id (c ∷ cs) h =
      let k = h.0 in (
        record {
          parts = k.parts;
          at_parameters = k.at_parameters;
          indices = k.indices;
          is_applied = k.is_applied;
          as_many = k.as_many;
          arguments_positive = each_so k.parts.arguments k.arguments_positive;
          indices_absent = k.indices_absent;
        },
        constructors_so id cs h.1,
      )

  pub types_so : (ts : List TypeDeclaration) → Each (λ t. Each (λ c. PositiveConstructor PositiveIn ids t.id r c.type) t.constructors) ts → Each (λ t. Each (λ c. PositiveConstructor PositiveIn' ids t.id r c.type) t.constructors) ts
  types_so [] h = tt
  types_so (t ∷ ts) h = (constructors_so t.id t.constructors h.0, types_so ts h.1)

pub positive_block_grows : (E E' : Environment) (block : Block) → ShowsBlocks E E' → NestedPositiveBlock E block → NestedPositiveBlock E' block
positive_block_grows E E' block shows h =
    types_so (Positive E (bare_ids block.types) []) (Positive E' (bare_ids block.types) []) (λ t p. positive_grows E E' (bare_ids block.types) shows p) (bare_ids block.types) block.parameters block.types h
