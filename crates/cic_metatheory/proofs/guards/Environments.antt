-- An environment shows all blocks that a front of it shows, and one that ends in a whole block all that it
-- shows where this block is taken bare. So a guarded Fix stays guarded there.
use Rattle.std.proofs.Common.{◌∙◌, ap, sym, ◌≡◌, ℕ, ◌+◌, Bool, true, false, if◌then◌else◌, List, [], ◌∷◌, ◌++◌, Option, Some, None, refl}
use Rattle.cic_names.specs.declared.name.GlobalId.{GlobalId}
use Rattle.cic_names.specs.Sameness.{same_id}
use Rattle.cic_rules.specs.Environment.{Environment, declared, bare, inductive, Block, TypeDeclaration, Meaning, bare_type, or_else, bare_meaning, item_meaning, meaning, TypeInBlock, whole_block, whole_block_in}
use Rattle.cic_rules.specs.Telescopes.{Function}
use Rattle.cic_rules.specs.Guard.{Guarded}
use Rattle.cic_metatheory.specs.calls.Guards.{ShowsBlocks}
use Rattle.cic_metatheory.specs.Growth.{ConstructorMentions, StandsForSomething, KnowsItsTypes, SeesTypes}
use Rattle.cic_metatheory.proofs.environments.Order.{meaning_joined}
use Rattle.cic_metatheory.proofs.guards.Growth.{guarded_grows}

-- What an answer shows where another stands behind it
or_else_shows : (first a b : Option Meaning) (t : TypeInBlock) → (whole_block_in a ≡ Some t → whole_block_in b ≡ Some t) →
    whole_block_in (or_else first a) ≡ Some t → whole_block_in (or_else first b) ≡ Some t
or_else_shows None a b t h e = h e
or_else_shows (Some m) a b t h e = e

pub appended_shows : (E more : Environment) → ShowsBlocks E (E ++ more)
appended_shows [] more id t e = absurd cc
appended_shows (item ∷ E) more id t e =
    or_else_shows (item_meaning item id) (meaning E id) (meaning (E ++ more) id) t (appended_shows E more id t) e

-- A bare block shows no whole one
bare_where_same : (same : Bool) (block : Block) (index : ℕ) (other : Option Meaning) → whole_block_in other ≡ None →
    whole_block_in (or_else (if same then Some (bare_type block index) else None) other) ≡ None
bare_where_same true block index other e = refl
bare_where_same false block index other e = e

bare_shows_none : (block : Block) (index : ℕ) (ts : List TypeDeclaration) (id : GlobalId) → whole_block_in (bare_meaning block index ts id) ≡ None
bare_shows_none block index [] id = refl
bare_shows_none block index (t ∷ ts) id =
    bare_where_same (same_id t.id id) block index (bare_meaning block (index + 1) ts id) (bare_shows_none block (index + 1) ts id)

or_else_none : (first : Option Meaning) → whole_block_in first ≡ None → whole_block_in (or_else first None) ≡ None
or_else_none None e = refl
or_else_none (Some m) e = e

pub whole_shows_bare : (E : Environment) (block : Block) → ShowsBlocks (E ++ bare block ∷ []) (E ++ declared (inductive block) ∷ [])
whole_shows_bare [] block id t e =
    let none : whole_block_in (or_else (bare_meaning block 0 block.types id) None) ≡ None =
    or_else_none (bare_meaning block 0 block.types id) (bare_shows_none block 0 block.types id) in
    absurd cc
whole_shows_bare (item ∷ E) block id t e =
    or_else_shows (item_meaning item id) (meaning (E ++ bare block ∷ []) id) (meaning (E ++ declared (inductive block) ∷ []) id) t
    (whole_shows_bare E block id t) e

-- What stands for something in E stands for the same over a longer one
pub declared_same : (E more : Environment) (J : GlobalId) → StandsForSomething E J → whole_block (E ++ more) J ≡ whole_block E J
declared_same E more J h =
    ap whole_block_in (meaning_joined E more J ∙ ap (λ o. or_else o (meaning more J)) h.1 ∙ sym h.1)

pub appended_sees : (E more : Environment) → KnowsItsTypes E → SeesTypes E (E ++ more)
appended_sees E more knows c J m = declared_same E more J (knows c J m)

-- A block that E shows with a bare one after it, E shows itself
shown_before : (first : Option Meaning) (block : Block) (id : GlobalId) (t : TypeInBlock) →
    whole_block_in (or_else first (or_else (bare_meaning block 0 block.types id) None)) ≡ Some t → whole_block_in first ≡ Some t
shown_before None block id t e =
    let none : whole_block_in (or_else (bare_meaning block 0 block.types id) None) ≡ None =
    or_else_none (bare_meaning block 0 block.types id) (bare_shows_none block 0 block.types id) in
    absurd cc
shown_before (Some m) block id t e = e

pub whole_sees_bare : (E : Environment) (block : Block) → KnowsItsTypes E → SeesTypes (E ++ bare block ∷ []) (E ++ declared (inductive block) ∷ [])
whole_sees_bare E block knows c J m =
    let before : ConstructorMentions E c J = record {
      place = m.place;
      type = m.type;
      number = m.number;
      constructor = m.constructor;
      shown = shown_before (meaning E c) block c m.place (ap whole_block_in (sym (meaning_joined E (bare block ∷ []) c)) ∙ m.shown);
      is_type = m.is_type;
      is_constructor = m.is_constructor;
      mentions = m.mentions;
    } in
    let declared_before = knows c J before in
    declared_same E (declared (inductive block) ∷ []) J declared_before ∙ sym (declared_same E (bare block ∷ []) J declared_before)

-- The guard over such environments
pub guarded_appended : (E others : Environment) (fs : List Function) → KnowsItsTypes E → Guarded E fs → Guarded (E ++ others) fs
guarded_appended E others fs knows g = guarded_grows E (E ++ others) (appended_shows E others) (appended_sees E others knows) fs g

pub guarded_whole : (E : Environment) (block : Block) (fs : List Function) → KnowsItsTypes E → Guarded (E ++ bare block ∷ []) fs → Guarded (E ++ declared (inductive block) ∷ []) fs
guarded_whole E block fs knows g =
    guarded_grows (E ++ bare block ∷ []) (E ++ declared (inductive block) ∷ []) (whole_shows_bare E block) (whole_sees_bare E block knows) fs g
