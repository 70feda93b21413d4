-- Each lookup in an environment looks at what an id stands for, and the first item that declares an id says
-- so. So declarations that come after the others change nothing that the rules could see before, where what stands in
-- the types of constructors stands for something.
use Rattle.std.proofs.Common.{◌≡◌, [], ◌∷◌, ◌++◌, Option, Some, None, refl, sym, ap, ◌∙◌, arith}
use Rattle.cic_names.specs.declared.name.GlobalId.{GlobalId}
use Rattle.cic_rules.specs.Environment.{Environment, Meaning, or_else, item_meaning, meaning, constant_type_in, transparent_body_in, inductive_type_in, whole_block_in, constructor_in}
use Rattle.cic_metatheory.specs.Growth.{KnowsItsTypes, Grows}
use Rattle.cic_metatheory.proofs.guards.Environments.{appended_sees}
use Rattle.cic_metatheory.proofs.basics.Options.{some_is_not_none}

second_stays : (x y y' : Option Meaning) (m : Meaning) → (y ≡ Some m → y' ≡ Some m) → or_else x y ≡ Some m → or_else x y' ≡ Some m
second_stays None y y' m h e = h e
second_stays (Some n) y y' m h e = e

meaning_stays : (E F : Environment) (id : GlobalId) (m : Meaning) → meaning E id ≡ Some m → meaning (E ++ F) id ≡ Some m
meaning_stays [] F id m e = absurd (grind arith)
meaning_stays (item ∷ E) F id m e = second_stays (item_meaning item id) (meaning E id) (meaning (E ++ F) id) m (meaning_stays E F id m) e

lookup_stays : {A : Type 0} (look : Option Meaning → Option A) → look None ≡ None → (x x' : Option Meaning) → ((m : Meaning) → x ≡ Some m → x' ≡ Some m) →
    (a : A) → look x ≡ Some a → look x' ≡ Some a
lookup_stays look p None x' h a e = some_is_not_none (sym p ∙ e)
lookup_stays look p (Some m) x' h a e = ap look (h m refl) ∙ e

pub more_declarations_grow : (E F : Environment) → KnowsItsTypes E → Grows E (E ++ F)
more_declarations_grow E F knows = record {
  types = λ c. lookup_stays constant_type_in refl (meaning E c) (meaning (E ++ F) c) (meaning_stays E F c);
  bodies = λ c. lookup_stays transparent_body_in refl (meaning E c) (meaning (E ++ F) c) (meaning_stays E F c);
  arities = λ c. lookup_stays inductive_type_in refl (meaning E c) (meaning (E ++ F) c) (meaning_stays E F c);
  blocks = λ c. lookup_stays whole_block_in refl (meaning E c) (meaning (E ++ F) c) (meaning_stays E F c);
  constructors = λ c. lookup_stays constructor_in refl (meaning E c) (meaning (E ++ F) c) (meaning_stays E F c);
  seen = appended_sees E F knows;
}
