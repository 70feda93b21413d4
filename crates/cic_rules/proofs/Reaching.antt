-- What an opaque constant reaches: the ids in its body where axioms are listed, and none of them where a check looks.
use Rattle.std.proofs.Common.{Some, Contains, refl, lit<}
use Rattle.cic_terms.specs.Tree.{Tree}
use Rattle.cic_terms.specs.Mentions.{Mentions}
use Rattle.cic_names.specs.declared.name.GlobalId.{GlobalId}
use Rattle.cic_rules.specs.Environment.{Environment, opaque, declared}
use Rattle.cic_rules.specs.Reach.{mentioned, at_first, onward, Reaches}

pub theorems_reach_what_their_proofs_mention : (E : Environment) (id other : GlobalId) (type body : Tree) → Contains E (declared (opaque id type (Some body))) → Mentions other body → Reaches E id other
theorems_reach_what_their_proofs_mention E id other type body c m =
    onward id (at_first refl) (record {
      declaration = opaque id type (Some body);
      is_there = c;
      declares = (0, lit< tt, refl);
      leads = mentioned body (1, lit< tt, refl) m;
    })
