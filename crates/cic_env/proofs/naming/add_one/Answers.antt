use Rattle.std.proofs.Common.{◌≡◌, ◌∙◌, sym, ap}
use Rattle.std.specs.Prelude.{None}
use Rattle.indexmap.specs.IndexMap.{insert_entry}
use Rattle.indexmap.proofs.CallerLemmas.{insert_entry-new}
use Rattle.cic_names.specs.declared.name.GlobalId.{GlobalId}
use Rattle.cic_names.specs.Sameness.{same_id}
use Rattle.cic_env.proofs.Lookups.{place_of, place-there, place-lacks, none-of_false}
use Rattle.cic_env.proofs.naming.add_one.Goals as goal
use Rattle.cic_env.proofs.naming.add_one.Goals.{in-Ok-insert, in-Err}

pub returns-then-contains_key-clause-taken : goal.returns-then-contains_key-clause-taken
returns-then-contains_key-clause-taken c =
    place-there c.args.id.now c.args.places.now.entries (sym c.contains_key.ensures ∙ c.if-contains_key.true)

pub returns-clause-added : goal.returns-clause-added
returns-clause-added c =
    let es = c.args.places.now.entries in
    let none : place_of c.args.id.now es ≡ None = none-of_false (place_of c.args.id.now es) (sym c.contains_key.ensures ∙ c.if-contains_key.false) in
    elim c.match-insert.branch [
      | in-Ok-insert w ↦ rw w.result-is (w.in-Ok-insert.ensures.entries ∙ ap (λ (k : GlobalId). insert_entry same_id es k c.args.place) c.in-Ok.ensures
          ∙ insert_entry-new same_id c.args.places.now c.args.id.now c.args.place none)
      | in-Err w ↦ rw w.result-is tt
    ]

pub returns-clause-taken : goal.returns-clause-taken
returns-clause-taken c =
    elim c.match-insert.branch [
      | in-Ok-insert w ↦ rw w.result-is (place-lacks c.args.id.now c.args.places.now.entries (sym c.contains_key.ensures ∙ c.if-contains_key.false))
      | in-Err w ↦ rw w.result-is tt
    ]
