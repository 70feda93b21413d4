use Rattle.std.proofs.Common.{sym, ap, ◌∙◌, ℕ, List}
use Rattle.std.specs.Prelude.{Option, slice_get}
use Rattle.std.specs.Option.{option_map, option_and_then}
use Rattle.elab_matches.specs.declared.branches.ReadBranch.{ReadBranch}
use Rattle.elab_matches.specs.calls.Branches.{known_branch}
use Rattle.elab_matches.proofs.Tables.{found_by}
use Rattle.elab_matches.proofs.Writing.{got}
use Rattle.elab_matches.proofs.branches.Done.branch.Goals as goal

pub returns-in-Some : goal.returns-in-Some
returns-in-Some c =
    let bs = c.args.self.now.branches.items in let i = c.in-Some.index in
    got known_branch c.deref.result.now i c.get.result c.get.ensures.lookup
    ∙ ap (λ (xs : List ReadBranch). option_map known_branch (slice_get xs i)) c.deref.ensures.value
    ∙ ap (λ (o : Option ℕ). option_and_then (λ n. option_map known_branch (slice_get bs n)) o) c.in-Some.ensures
    ∙ sym (found_by bs c.args.place)

pub returns-in-None : goal.returns-in-None
returns-in-None c =
    let bs = c.args.self.now.branches.items in
    ap (λ (o : Option ℕ). option_and_then (λ n. option_map known_branch (slice_get bs n)) o) c.in-None.ensures
    ∙ sym (found_by bs c.args.place)
