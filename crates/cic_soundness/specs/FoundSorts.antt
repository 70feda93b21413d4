-- The sorts that counted calls find of types, each of which stands under the earlier ones.
use Rattle.std.specs.Prelude.{◌≡◌, List, [], ◌∷◌}
use Rattle.cic_terms.specs.Tree.{Tree, prop}
use Rattle.cic_rules.specs.Environment.{Context, assumed}
use Rattle.cic_counted.specs.Outcome.{Budget, done}
use Rattle.cic_counted.specs.Inference.{Calls}

-- They are all Prop: from one budget to another, in order.
pub data FoundPropositions (calls : Calls) : Context → List Tree → Budget → Budget → Type 0 where
  none_to_find : {G : Context} {b : Budget} →
      FoundPropositions calls G [] b b
  one_found : {G : Context} {a : Tree} {as_ : List Tree} {b b' b'' : Budget} →
      calls.sort_of G a b ≡ done prop b' →
      FoundPropositions calls (assumed a ∷ G) as_ b' b'' →
      FoundPropositions calls G (a ∷ as_) b b''
