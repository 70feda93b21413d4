-- What each call reads, from what the calls on its parts read.
use Rattle.std.proofs.Common.{◌≡◌, ◌+◌, [], ◌∷◌, ◌++◌, map, reverse, sym, ap, subst, ◌∙◌, arith, OnOk}
use Rattle.std.specs.Prelude.{Some, None, Ok, Err}
use Rattle.memory.specs.Telling.{OrNoMemory}
use Rattle.elab_parts.specs.Faults.{fault}
use Rattle.std.specs.Option.{option_map, option_copied}
use Rattle.std.proofs.lemmas.Option.{IfSome_then}
use Rattle.std.proofs.lemmas.List.{map-append}
use Rattle.std.proofs.lemmas.Result.{err_from_is_err_and}
use Rattle.cic_terms.proofs.Children.{drop_at}
use Rattle.gal_raw.specs.Denotes.{tree, identifier, binder, groups, functions, application, match_of, branches, within, qualified}
use Rattle.gal_raw.specs.declared.terms.LetIn.{out-LetIn}
use Rattle.gal_raw.specs.declared.terms.FixOf.{out-FixOf}
use Rattle.gal_raw.proofs.Rows.{application_roll}
use Rattle.gal_scoping.specs.Readings.{with_part}
use Rattle.gal_scoping.specs.Names.{text_of, binder_name}
use Rattle.gal_scoping.specs.Levels.{types_in}
use Rattle.gal_scoping.specs.Fixpoints.{function_meant}
use Rattle.gal_scoping.specs.Terms.{term, functions as functions_read, branches as branches_read}
use Rattle.elab_parts.specs.declared.making.Pair.TheVariants.{Product, Abstraction}
use Rattle.elab_parts.specs.Binders.{around_of}
use Rattle.elab_parts.specs.Places.{place_of, owner_of}
use Rattle.elab_parts.specs.calls.Parts.{known, cut, pair_tree}
use Rattle.elab_parts.specs.calls.Bindings.{KnownBinding, known_binding, bindings_known, over_all}
use Rattle.elab_parts.specs.calls.Functions.{known_function, cut_function, known_fix}
use Rattle.elab_terms.specs.calls.Sizes.{size, IsBare}
use Rattle.elab_terms.specs.calls.Walks.{ReadsTerm}
use Rattle.elab_terms.proofs.Measures.{bare_head, let_parts, match_parts}
use Rattle.elab_terms.proofs.Formers.{codomain_fault, binders_fault, body_fault, over_whole, let_binders_fault, let_type_fault, let_body_fault, let_rest_fault, let_whole, left_inside, left_one, left_twice}
use Rattle.elab_terms.proofs.Fixpoints.{single_binders_fault, single_struct_fault, single_type_fault, single_body_fault, single_whole, fix_functions_fault, fix_chosen_fault, fix_whole}
use Rattle.elab_terms.proofs.Loops.{head_fault_here, argument_smaller_here, argument_fault_here, argument_more_here, group_smaller_here, group_fault_here, group_more_here, function_smaller_here, function_fault_here, function_more_here}
use Rattle.elab_terms.proofs.Held.{fix_parts}
use Rattle.elab_terms.proofs.Steps.{after_fault, after_part}
use Rattle.elab_terms.proofs.Matching.{match_value_fault, match_motive_fault_without, match_motive_fault, match_type_fault_without, match_read, ok_then, none_behind, motive_outside}
use Rattle.elab_terms.proofs.Branches.{left_branch, left_motive, beside, branch_smaller_here, pattern_fault_here, branch_fault_here, branch_more_here}
use Rattle.elab_matches.specs.Matches.{type_of, pattern_of}
use Rattle.elab_matches.specs.calls.Branches.{done_of, cut_branch, known_pattern}
use Rattle.elab_matches.specs.calls.Cases.{known_case}
use Rattle.elab_matches.proofs.Whole.{whole_case}
use Rattle.elab_parts.specs.calls.Readings.{Reads}
use Rattle.gal_raw.specs.declared.terms.MatchOf.{out-MatchOf}
use Rattle.gal_scoping.specs.Matches.{matched_type, value_name, around_motive, case_of}
use Rattle.elab_terms.proofs.elaborating.+read.Goals as goal

pub applied-returns-in_err-made-clause-read : goal.applied-returns-in_err-made-clause-read
applied-returns-in_err-made-clause-read t c =
    let p = err_from_is_err_and c.from_residual.result c.from_residual.ensures.1 in
    let told : OrNoMemory (fault c.in_err-made.field-0.0) (λ f. with_part cut (term (place_of c.args.place.now) (owner_of c.args.place.now) (around_of c.args.around.now) c.args.next.now (tree c.deref.result.now)) ≡ Err f) = c.in_err-made.ensures.read in
    rw (p.1, p.2) (IfSome_then (fault c.in_err-made.field-0.0) told (λ f (h : with_part cut (term (place_of c.args.place.now) (owner_of c.args.place.now) (around_of c.args.around.now) c.args.next.now (tree c.deref.result.now)) ≡ Err f).
    head_fault_here (place_of c.args.place.now) (owner_of c.args.place.now) (around_of c.args.around.now) c.args.next.now (application c.args.x.now) (tree c.args.x.now.head.value) c.arguments-arguments.result.now f c.arguments-arguments.ensures (ap (λ z. with_part cut (term (place_of c.args.place.now) (owner_of c.args.place.now) (around_of c.args.around.now) c.args.next.now (tree z))) (sym c.deref.ensures) ∙ h)))

pub applied-term-requires-in-loop-argument : goal.applied-term-requires-in-loop-argument
applied-term-requires-in-loop-argument t c =
    let x = c.argument-item.result in
    let at = drop_at c.arguments-arguments.result.now c.loop-argument.argument-index x c.loop-argument-test.true c.argument-item.is in
    (omega (arith, argument_smaller_here (place_of c.args.place.now) (owner_of c.args.place.now) (around_of c.args.around.now) c.args.next.now (application c.args.x.now) _ _ x _ _ _ c.loop-argument.invariant at, c.decreases), tt)

pub applied-returns-in_err-read-clause-read : goal.applied-returns-in_err-read-clause-read
applied-returns-in_err-read-clause-read t c =
    let p = err_from_is_err_and c.from_residual-in_err-read.result c.from_residual-in_err-read.ensures.1 in
    let x = c.argument-item.result in
    let at = drop_at c.arguments-arguments.result.now c.loop-argument.argument-index x c.loop-argument-test.true c.argument-item.is in
    rw (p.1, p.2) (IfSome_then _ c.in_err-read.ensures.read (λ f h. argument_fault_here (place_of c.args.place.now) (owner_of c.args.place.now) (around_of c.args.around.now) c.args.next.now (application c.args.x.now) _ _ x _ _ _ c.loop-argument.invariant at f h))

pub applied-loop-argument-preserved : goal.applied-loop-argument-preserved
applied-loop-argument-preserved t c =
    let x = c.argument-item.result in
    let at = drop_at c.arguments-arguments.result.now c.loop-argument.argument-index x c.loop-argument-test.true c.argument-item.is in
    argument_more_here (place_of c.args.place.now) (owner_of c.args.place.now) (around_of c.args.around.now) c.args.next.now (application c.args.x.now) _ _ x _ _ (known c.in_ok-read.read) _ _ _ _ c.loop-argument.invariant at c.in_ok-read.ensures.read c.in_ok-made-2.ensures c.in_ok-read.ensures.around c.in_ok-read.ensures.next

pub arrow-returns-in_err-to-clause-read : goal.arrow-returns-in_err-to-clause-read
arrow-returns-in_err-to-clause-read t c =
    let p = err_from_is_err_and c.from_residual-in_err-to.result c.from_residual-in_err-to.ensures.1 in
    rw (p.1, p.2) (IfSome_then _ c.in_err-to.ensures.read (λ f h. codomain_fault (place_of c.args.place.now) (owner_of c.args.place.now) (around_of c.args.around.now) c.args.next.now (tree c.args.x.now.from) (tree c.args.x.now.to) (around_of c.enter.new.self) c.term.new.next (known c.in_ok-from.from) f c.in_ok-from.ensures.read (c.in_ok-enter.ensures ∙ ap (λ z. None ∷ z) c.in_ok-from.ensures.around) c.in_ok-from.ensures.next h))

pub bound-returns-in_err-binders-clause-read : goal.bound-returns-in_err-binders-clause-read
bound-returns-in_err-binders-clause-read t c =
    let p = err_from_is_err_and c.from_residual.result c.from_residual.ensures.1 in
    rw (p.1, p.2) (IfSome_then _ c.in_err-binders.ensures.read (λ f h. binders_fault (place_of c.args.place.now) (owner_of c.args.place.now) (around_of c.args.around.now) c.args.next.now c.args.kind (groups c.args.among.now) (tree c.args.body.now) f c.requires.kind h))

pub bound-returns-in_err-inner-clause-read : goal.bound-returns-in_err-inner-clause-read
bound-returns-in_err-inner-clause-read t c =
    let p = err_from_is_err_and c.from_residual-in_err-inner.result c.from_residual-in_err-inner.ensures.1 in
    rw (p.1, p.2) (IfSome_then _ c.in_err-inner.ensures.read (λ f h. body_fault (place_of c.args.place.now) (owner_of c.args.place.now) (around_of c.args.around.now) c.args.next.now c.args.kind (groups c.args.among.now) (tree c.args.body.now) (map known_binding c.in_ok-binders.binders.items) (around_of c.telescope.new.around) c.telescope.new.next f c.requires.kind c.in_ok-binders.ensures.read c.in_ok-binders.ensures.around c.in_ok-binders.ensures.next h))

pub bound-returns-clause-read : goal.bound-returns-clause-read
bound-returns-clause-read t c =
    over_whole (place_of c.args.place.now) (owner_of c.args.place.now) (around_of c.args.around.now) c.args.next.now c.args.kind (groups c.args.among.now) (tree c.args.body.now) (map known_binding c.in_ok-binders.binders.items) (around_of c.telescope.new.around) c.telescope.new.next (known c.in_ok-inner.inner) (known c.in_ok-over.field-0) c.requires.kind
    c.in_ok-binders.ensures.read c.in_ok-binders.ensures.around c.in_ok-binders.ensures.next c.in_ok-inner.ensures.read
    (c.in_ok-over.ensures ∙ ap (λ ys. over_all (pair_tree c.args.kind) (map known_binding ys) (known c.in_ok-inner.inner)) c.deref.ensures.value)

pub definition-returns-in_err-binders-clause-read : goal.definition-returns-in_err-binders-clause-read
definition-returns-in_err-binders-clause-read t c =
    let p = err_from_is_err_and c.from_residual.result c.from_residual.ensures.1 in
    let r = out-LetIn c.args.x.now in
    rw (p.1, p.2) (IfSome_then _ c.in_err-binders.ensures.read (λ f h. ap (λ z. with_part cut (term (place_of c.args.place.now) (owner_of c.args.place.now) (around_of c.args.around.now) c.args.next.now z)) (let_parts c.args.x.now) ∙ let_binders_fault (place_of c.args.place.now) (owner_of c.args.place.now) (around_of c.args.around.now) c.args.next.now (identifier r.name) (groups r.groups) (tree r.ty) (tree r.body) (tree r.rest) f h))

pub definition-returns-in_err-ty-clause-read : goal.definition-returns-in_err-ty-clause-read
definition-returns-in_err-ty-clause-read t c =
    let p = err_from_is_err_and c.from_residual-in_err-ty.result c.from_residual-in_err-ty.ensures.1 in
    let r = out-LetIn c.args.x.now in
    rw (p.1, p.2) (IfSome_then _ c.in_err-ty.ensures.read (λ f h. ap (λ z. with_part cut (term (place_of c.args.place.now) (owner_of c.args.place.now) (around_of c.args.around.now) c.args.next.now z)) (let_parts c.args.x.now) ∙ let_type_fault (place_of c.args.place.now) (owner_of c.args.place.now) (around_of c.args.around.now) c.args.next.now (identifier r.name) (groups r.groups) (tree r.ty) (tree r.body) (tree r.rest) (map known_binding c.in_ok-binders.binders.items) (around_of c.telescope.new.around) c.telescope.new.next f c.in_ok-binders.ensures.read c.in_ok-binders.ensures.around c.in_ok-binders.ensures.next h))

pub definition-returns-in_err-body-clause-read : goal.definition-returns-in_err-body-clause-read
definition-returns-in_err-body-clause-read t c =
    let p = err_from_is_err_and c.from_residual-in_err-body.result c.from_residual-in_err-body.ensures.1 in
    let r = out-LetIn c.args.x.now in
    rw (p.1, p.2) (IfSome_then _ c.in_err-body.ensures.read (λ f h. ap (λ z. with_part cut (term (place_of c.args.place.now) (owner_of c.args.place.now) (around_of c.args.around.now) c.args.next.now z)) (let_parts c.args.x.now) ∙ let_body_fault (place_of c.args.place.now) (owner_of c.args.place.now) (around_of c.args.around.now) c.args.next.now (identifier r.name) (groups r.groups) (tree r.ty) (tree r.body) (tree r.rest) (map known_binding c.in_ok-binders.binders.items) (around_of c.telescope.new.around) (around_of c.term.new.around) c.telescope.new.next c.term.new.next (known c.in_ok-ty.ty) f c.in_ok-binders.ensures.read c.in_ok-binders.ensures.around c.in_ok-binders.ensures.next c.in_ok-ty.ensures.read c.in_ok-ty.ensures.around c.in_ok-ty.ensures.next h))

pub definition-returns-in_err-rest-clause-read : goal.definition-returns-in_err-rest-clause-read
definition-returns-in_err-rest-clause-read t c =
    let p = err_from_is_err_and c.from_residual-in_err-rest.result c.from_residual-in_err-rest.ensures.1 in
    let r = out-LetIn c.args.x.now in
    let left = c.leave.ensures ∙ left_inside (map known_binding c.in_ok-binders.binders.items) (around_of c.args.around.now) (around_of c.term-2.new.around) c.len-outside.result c.len-outside.ensures (c.in_ok-body.ensures.around ∙ c.in_ok-ty.ensures.around ∙ c.in_ok-binders.ensures.around) in
    let entered = c.in_ok-enter.ensures ∙ ap (λ z. Some (text_of (identifier r.name)) ∷ z) left in
    rw (p.1, p.2) (IfSome_then _ c.in_err-rest.ensures.read (λ f h. ap (λ z. with_part cut (term (place_of c.args.place.now) (owner_of c.args.place.now) (around_of c.args.around.now) c.args.next.now z)) (let_parts c.args.x.now) ∙ let_rest_fault (place_of c.args.place.now) (owner_of c.args.place.now) (around_of c.args.around.now) c.args.next.now (identifier r.name) (groups r.groups) (tree r.ty) (tree r.body) (tree r.rest) (map known_binding c.in_ok-binders.binders.items) (around_of c.telescope.new.around) (around_of c.term.new.around) (around_of c.enter.new.self) c.telescope.new.next c.term.new.next c.term-2.new.next (known c.in_ok-ty.ty) (known c.in_ok-body.body) f c.in_ok-binders.ensures.read c.in_ok-binders.ensures.around c.in_ok-binders.ensures.next c.in_ok-ty.ensures.read c.in_ok-ty.ensures.around c.in_ok-ty.ensures.next c.in_ok-body.ensures.read entered c.in_ok-body.ensures.next h))

pub definition-returns-clause-read : goal.definition-returns-clause-read
definition-returns-clause-read t c =
    let r = out-LetIn c.args.x.now in
    let left = c.leave.ensures ∙ left_inside (map known_binding c.in_ok-binders.binders.items) (around_of c.args.around.now) (around_of c.term-2.new.around) c.len-outside.result c.len-outside.ensures (c.in_ok-body.ensures.around ∙ c.in_ok-ty.ensures.around ∙ c.in_ok-binders.ensures.around) in
    let entered = c.in_ok-enter.ensures ∙ ap (λ z. Some (text_of (identifier r.name)) ∷ z) left in
    ap (λ z. with_part cut (term (place_of c.args.place.now) (owner_of c.args.place.now) (around_of c.args.around.now) c.args.next.now z)) (let_parts c.args.x.now) ∙ let_whole (place_of c.args.place.now) (owner_of c.args.place.now) (around_of c.args.around.now) c.args.next.now (identifier r.name) (groups r.groups) (tree r.ty) (tree r.body) (tree r.rest) (map known_binding c.in_ok-binders.binders.items) (around_of c.telescope.new.around) (around_of c.term.new.around) (around_of c.enter.new.self) c.telescope.new.next c.term.new.next c.term-2.new.next
    (known c.in_ok-ty.ty) (known c.in_ok-body.body) (known c.in_ok-rest.rest) (known c.in_ok-ty-2.ty) (known c.in_ok-body-2.body) (known c.in_ok-make_let.field-0)
    c.in_ok-binders.ensures.read c.in_ok-binders.ensures.around c.in_ok-binders.ensures.next c.in_ok-ty.ensures.read c.in_ok-ty.ensures.around c.in_ok-ty.ensures.next c.in_ok-body.ensures.read entered c.in_ok-body.ensures.next c.in_ok-rest.ensures.read
    (c.in_ok-ty-2.ensures ∙ ap (λ ys. over_all (pair_tree Product) (map known_binding ys) (known c.in_ok-ty.ty)) c.deref.ensures.value)
    (c.in_ok-body-2.ensures ∙ ap (λ ys. over_all (pair_tree Abstraction) (map known_binding ys) (known c.in_ok-body.body)) c.deref-2.ensures.value)
    c.in_ok-make_let.ensures

pub definition-returns-clause-around : goal.definition-returns-clause-around
definition-returns-clause-around t c =
    let r = out-LetIn c.args.x.now in
    let left = c.leave.ensures ∙ left_inside (map known_binding c.in_ok-binders.binders.items) (around_of c.args.around.now) (around_of c.term-2.new.around) c.len-outside.result c.len-outside.ensures (c.in_ok-body.ensures.around ∙ c.in_ok-ty.ensures.around ∙ c.in_ok-binders.ensures.around) in
    let entered = c.in_ok-enter.ensures ∙ ap (λ z. Some (text_of (identifier r.name)) ∷ z) left in
    c.leave-2.ensures ∙ left_one (Some (text_of (identifier r.name))) (around_of c.args.around.now) (around_of c.term-3.new.around) c.len-outside.result c.len-outside.ensures (c.in_ok-rest.ensures.around ∙ entered)

pub fixpoint-returns-in_err-read-clause-read : goal.fixpoint-returns-in_err-read-clause-read
fixpoint-returns-in_err-read-clause-read t c =
    let p = err_from_is_err_and c.from_residual-in_err-read.result c.from_residual-in_err-read.ensures.1 in
    let r = out-FixOf c.args.x.now in
    let ns = map option_copied c.in_ok-names.names.items in
    let told : OrNoMemory (fault c.in_err-read.field-0.0) (λ f. with_part (map cut_function) (functions_read (place_of c.args.place.now) (owner_of c.args.place.now) (map option_copied c.deref.result.now) (around_of c.args.around.now) c.args.next.now (functions r.functions)) ≡ Err f) = c.in_err-read.ensures.read in
    rw (p.1, p.2) (IfSome_then (fault c.in_err-read.field-0.0) told (λ f (h : with_part (map cut_function) (functions_read (place_of c.args.place.now) (owner_of c.args.place.now) (map option_copied c.deref.result.now) (around_of c.args.around.now) c.args.next.now (functions r.functions)) ≡ Err f).
    ap (λ z. with_part cut (term (place_of c.args.place.now) (owner_of c.args.place.now) (around_of c.args.around.now) c.args.next.now z)) (fix_parts c.args.x.now) ∙ fix_functions_fault (place_of c.args.place.now) (owner_of c.args.place.now) (around_of c.args.around.now) c.args.next.now (functions r.functions) (option_map identifier r.chosen) ns c.in_ok-names.ensures f (ap (λ z. with_part (map cut_function) (functions_read (place_of c.args.place.now) (owner_of c.args.place.now) (map option_copied z) (around_of c.args.around.now) c.args.next.now (functions r.functions))) (sym c.deref.ensures.value) ∙ h)))

pub fixpoint-returns-in_err-which-clause-read : goal.fixpoint-returns-in_err-which-clause-read
fixpoint-returns-in_err-which-clause-read t c =
    let p = err_from_is_err_and c.from_residual-in_err-which.result c.from_residual-in_err-which.ensures.1 in
    let r = out-FixOf c.args.x.now in
    let ns = map option_copied c.in_ok-names.names.items in
    rw (p.1, p.2) (IfSome_then _ c.in_err-which.ensures (λ f h. ap (λ z. with_part cut (term (place_of c.args.place.now) (owner_of c.args.place.now) (around_of c.args.around.now) c.args.next.now z)) (fix_parts c.args.x.now) ∙ fix_chosen_fault (place_of c.args.place.now) (owner_of c.args.place.now) (around_of c.args.around.now) c.args.next.now (functions r.functions) (option_map identifier r.chosen) ns c.in_ok-names.ensures (map known_function c.in_ok-read.read.items) f (ap (λ z. with_part (map cut_function) (functions_read (place_of c.args.place.now) (owner_of c.args.place.now) (map option_copied z) (around_of c.args.around.now) c.args.next.now (functions r.functions))) (sym c.deref.ensures.value) ∙ c.in_ok-read.ensures.read) (ap (λ z. function_meant (option_map identifier r.chosen) (map option_copied z)) (sym c.deref-2.ensures.value) ∙ h)))

pub fixpoint-returns-clause-read : goal.fixpoint-returns-clause-read
fixpoint-returns-clause-read t c =
    let r = out-FixOf c.args.x.now in
    let ns = map option_copied c.in_ok-names.names.items in
    ap (λ z. with_part cut (term (place_of c.args.place.now) (owner_of c.args.place.now) (around_of c.args.around.now) c.args.next.now z)) (fix_parts c.args.x.now) ∙ fix_whole (place_of c.args.place.now) (owner_of c.args.place.now) (around_of c.args.around.now) c.args.next.now (functions r.functions) (option_map identifier r.chosen) ns c.in_ok-names.ensures (map known_function c.in_ok-read.read.items) c.in_ok-which.which (known c.in_ok-fix_term.field-0)
    (ap (λ z. with_part (map cut_function) (functions_read (place_of c.args.place.now) (owner_of c.args.place.now) (map option_copied z) (around_of c.args.around.now) c.args.next.now (functions r.functions))) (sym c.deref.ensures.value) ∙ c.in_ok-read.ensures.read)
    (ap (λ z. function_meant (option_map identifier r.chosen) (map option_copied z)) (sym c.deref-2.ensures.value) ∙ c.in_ok-which.ensures)
    (c.in_ok-fix_term.ensures ∙ ap (λ ys. known_fix (place_of c.args.place.now).environment (map known_function ys) c.in_ok-which.which) c.deref-3.ensures.value)

pub several-single-requires : goal.several-single-requires
several-single-requires t c =
    let x = c.one-item.result in
    let at = drop_at c.as_slice-written.result.now c.loop-one.one-index x c.loop-one-test.true c.one-item.is in
    (omega (arith, function_smaller_here (place_of c.args.place.now) (owner_of c.args.place.now) (around_of c.args.around.now) c.args.next.now (map option_copied c.args.names.now) (functions c.args.all.now) _ _ x _ _ _ c.loop-one.invariant at, c.decreases), tt)

pub several-returns-in_err-read-clause-read : goal.several-returns-in_err-read-clause-read
several-returns-in_err-read-clause-read t c =
    let p = err_from_is_err_and c.from_residual.result c.from_residual.ensures.1 in
    let x = c.one-item.result in
    let at = drop_at c.as_slice-written.result.now c.loop-one.one-index x c.loop-one-test.true c.one-item.is in
    rw (p.1, p.2) (IfSome_then _ c.in_err-read.ensures.read (λ f h. function_fault_here (place_of c.args.place.now) (owner_of c.args.place.now) (around_of c.args.around.now) c.args.next.now (map option_copied c.args.names.now) (functions c.args.all.now) _ _ x _ _ _ c.loop-one.invariant at f h))

pub several-loop-one-preserved : goal.several-loop-one-preserved
several-loop-one-preserved t c =
    let x = c.one-item.result in
    let at = drop_at c.as_slice-written.result.now c.loop-one.one-index x c.loop-one-test.true c.one-item.is in
    function_more_here (place_of c.args.place.now) (owner_of c.args.place.now) (around_of c.args.around.now) c.args.next.now (map option_copied c.args.names.now) (functions c.args.all.now) _ _ x _ _ (known_function c.in_ok-read.read) _ _ _ _ c.loop-one.invariant at c.in_ok-read.ensures.read
    (ap (map known_function) c.in_ok-push.ensures.items ∙ map-append known_function c.loop-one.done.items (c.in_ok-read.read ∷ [])) c.in_ok-read.ensures.around c.in_ok-read.ensures.next

pub single-returns-in_err-binders-clause-read : goal.single-returns-in_err-binders-clause-read
single-returns-in_err-binders-clause-read t c =
    let p = err_from_is_err_and c.from_residual.result c.from_residual.ensures.1 in
    rw (p.1, p.2) (IfSome_then _ c.in_err-binders.ensures.read (λ f h. single_binders_fault (place_of c.args.place.now) (owner_of c.args.place.now) (map option_copied c.args.names.now) (around_of c.args.around.now) c.args.next.now c.args.one.now f h))

pub single-returns-in_err-structural-clause-read : goal.single-returns-in_err-structural-clause-read
single-returns-in_err-structural-clause-read t c =
    let p = err_from_is_err_and c.from_residual-in_err-structural.result c.from_residual-in_err-structural.ensures.1 in
    let ns = map option_copied c.deref-2.result.now in
    let named = c.in_ok-own.ensures ∙ ap (λ ys. map (λ (b : KnownBinding). b.name) (map known_binding ys)) c.deref.ensures.value in
    let same = ap (map option_copied) c.deref-2.ensures.value ∙ named in
    rw (p.1, p.2) (IfSome_then _ c.in_err-structural.ensures (λ f h. single_struct_fault (place_of c.args.place.now) (owner_of c.args.place.now) (map option_copied c.args.names.now) (around_of c.args.around.now) c.args.next.now c.args.one.now (map known_binding c.in_ok-binders.binders.items) ns f c.in_ok-binders.ensures.read same h))

pub single-returns-in_err-codomain-clause-read : goal.single-returns-in_err-codomain-clause-read
single-returns-in_err-codomain-clause-read t c =
    let p = err_from_is_err_and c.from_residual-in_err-codomain.result c.from_residual-in_err-codomain.ensures.1 in
    let ns = map option_copied c.deref-2.result.now in
    let named = c.in_ok-own.ensures ∙ ap (λ ys. map (λ (b : KnownBinding). b.name) (map known_binding ys)) c.deref.ensures.value in
    let same = ap (map option_copied) c.deref-2.ensures.value ∙ named in
    rw (p.1, p.2) (IfSome_then _ c.in_err-codomain.ensures.read (λ f h. single_type_fault (place_of c.args.place.now) (owner_of c.args.place.now) (map option_copied c.args.names.now) (around_of c.args.around.now) c.args.next.now c.args.one.now (map known_binding c.in_ok-binders.binders.items) ns c.in_ok-structural.structural (around_of c.telescope.new.around) c.telescope.new.next f c.in_ok-binders.ensures.read same c.in_ok-structural.ensures c.in_ok-binders.ensures.around c.in_ok-binders.ensures.next h))

pub single-returns-in_err-body-clause-read : goal.single-returns-in_err-body-clause-read
single-returns-in_err-body-clause-read t c =
    let p = err_from_is_err_and c.from_residual-in_err-body.result c.from_residual-in_err-body.ensures.1 in
    let ns = map option_copied c.deref-2.result.now in
    let named = c.in_ok-own.ensures ∙ ap (λ ys. map (λ (b : KnownBinding). b.name) (map known_binding ys)) c.deref.ensures.value in
    let same = ap (map option_copied) c.deref-2.ensures.value ∙ named in
    let left = c.leave.ensures ∙ left_inside (map known_binding c.in_ok-binders.binders.items) (around_of c.args.around.now) (around_of c.term.new.around) c.len-outside.result c.len-outside.ensures (c.in_ok-codomain.ensures.around ∙ c.in_ok-binders.ensures.around) in
    let outer = c.in_ok-enter_all.ensures ∙ ap (λ z. reverse (map option_copied c.args.names.now) ++ z) left in
    let own = ap (map option_copied) c.deref-3.ensures.value ∙ named in
    let inner = c.in_ok-enter_all-2.ensures ∙ ap (λ z. reverse z ++ around_of c.enter_all.new.around) own ∙ ap (λ z. reverse (map (λ (b : KnownBinding). b.name) (map known_binding c.in_ok-binders.binders.items)) ++ z) outer in
    rw (p.1, p.2) (IfSome_then _ c.in_err-body.ensures.read (λ f h. single_body_fault (place_of c.args.place.now) (owner_of c.args.place.now) (map option_copied c.args.names.now) (around_of c.args.around.now) c.args.next.now c.args.one.now (map known_binding c.in_ok-binders.binders.items) ns c.in_ok-structural.structural (around_of c.telescope.new.around) (around_of c.enter_all-2.new.around) c.telescope.new.next c.term.new.next (known c.in_ok-codomain.codomain) f c.in_ok-binders.ensures.read same c.in_ok-structural.ensures c.in_ok-binders.ensures.around c.in_ok-binders.ensures.next c.in_ok-codomain.ensures.read inner c.in_ok-codomain.ensures.next h))

pub single-returns-clause-read : goal.single-returns-clause-read
single-returns-clause-read t c =
    let ns = map option_copied c.deref-2.result.now in
    let named = c.in_ok-own.ensures ∙ ap (λ ys. map (λ (b : KnownBinding). b.name) (map known_binding ys)) c.deref.ensures.value in
    let same = ap (map option_copied) c.deref-2.ensures.value ∙ named in
    let left = c.leave.ensures ∙ left_inside (map known_binding c.in_ok-binders.binders.items) (around_of c.args.around.now) (around_of c.term.new.around) c.len-outside.result c.len-outside.ensures (c.in_ok-codomain.ensures.around ∙ c.in_ok-binders.ensures.around) in
    let outer = c.in_ok-enter_all.ensures ∙ ap (λ z. reverse (map option_copied c.args.names.now) ++ z) left in
    let own = ap (map option_copied) c.deref-3.ensures.value ∙ named in
    let inner = c.in_ok-enter_all-2.ensures ∙ ap (λ z. reverse z ++ around_of c.enter_all.new.around) own ∙ ap (λ z. reverse (map (λ (b : KnownBinding). b.name) (map known_binding c.in_ok-binders.binders.items)) ++ z) outer in
    single_whole (place_of c.args.place.now) (owner_of c.args.place.now) (map option_copied c.args.names.now) (around_of c.args.around.now) c.args.next.now c.args.one.now (map known_binding c.in_ok-binders.binders.items) ns c.in_ok-structural.structural (around_of c.telescope.new.around) (around_of c.enter_all-2.new.around) c.telescope.new.next c.term.new.next (known c.in_ok-codomain.codomain) (known c.in_ok-body.body) c.in_ok-binders.ensures.read same c.in_ok-structural.ensures c.in_ok-binders.ensures.around c.in_ok-binders.ensures.next c.in_ok-codomain.ensures.read inner c.in_ok-codomain.ensures.next c.in_ok-body.ensures.read

pub single-returns-clause-around : goal.single-returns-clause-around
single-returns-clause-around t c =
    let ns = map option_copied c.deref-2.result.now in
    let named = c.in_ok-own.ensures ∙ ap (λ ys. map (λ (b : KnownBinding). b.name) (map known_binding ys)) c.deref.ensures.value in
    let same = ap (map option_copied) c.deref-2.ensures.value ∙ named in
    let left = c.leave.ensures ∙ left_inside (map known_binding c.in_ok-binders.binders.items) (around_of c.args.around.now) (around_of c.term.new.around) c.len-outside.result c.len-outside.ensures (c.in_ok-codomain.ensures.around ∙ c.in_ok-binders.ensures.around) in
    let outer = c.in_ok-enter_all.ensures ∙ ap (λ z. reverse (map option_copied c.args.names.now) ++ z) left in
    let own = ap (map option_copied) c.deref-3.ensures.value ∙ named in
    let inner = c.in_ok-enter_all-2.ensures ∙ ap (λ z. reverse z ++ around_of c.enter_all.new.around) own ∙ ap (λ z. reverse (map (λ (b : KnownBinding). b.name) (map known_binding c.in_ok-binders.binders.items)) ++ z) outer in
    c.leave-2.ensures ∙ left_twice (reverse (map (λ (b : KnownBinding). b.name) (map known_binding c.in_ok-binders.binders.items))) (reverse (map option_copied c.args.names.now)) (around_of c.args.around.now) (around_of c.term-2.new.around) c.len-outside.result c.len-outside.ensures (c.in_ok-body.ensures.around ∙ inner)

pub telescope-term-requires : goal.telescope-term-requires
telescope-term-requires t c =
    let x = c.group-item.result in
    let at = drop_at c.as_slice-all.result.now c.loop-group.group-index x c.loop-group-test.true c.group-item.is in
    (omega (arith, group_smaller_here (place_of c.args.place.now) (owner_of c.args.place.now) (around_of c.args.around.now) c.args.next.now (groups c.args.among.now) _ _ x _ _ _ c.loop-group.invariant at, c.decreases), tt)

pub telescope-returns-in_err-ty-clause-read : goal.telescope-returns-in_err-ty-clause-read
telescope-returns-in_err-ty-clause-read t c =
    let p = err_from_is_err_and c.from_residual.result c.from_residual.ensures.1 in
    let x = c.group-item.result in
    let at = drop_at c.as_slice-all.result.now c.loop-group.group-index x c.loop-group-test.true c.group-item.is in
    rw (p.1, p.2) (IfSome_then _ c.in_err-ty.ensures.read (λ f h. group_fault_here (place_of c.args.place.now) (owner_of c.args.place.now) (around_of c.args.around.now) c.args.next.now (groups c.args.among.now) _ _ x _ _ _ c.loop-group.invariant at f h))

pub telescope-loop-group-preserved : goal.telescope-loop-group-preserved
telescope-loop-group-preserved t c =
    let x = c.group-item.result in
    let at = drop_at c.as_slice-all.result.now c.loop-group.group-index x c.loop-group-test.true c.group-item.is in
    group_more_here (place_of c.args.place.now) (owner_of c.args.place.now) (around_of c.args.around.now) c.args.next.now (groups c.args.among.now) _ _ x _ _ (known c.in_ok-ty.ty) _ (around_of c.term.new.around) _ _ _ c.loop-group.invariant at c.in_ok-ty.ensures.read
    (c.in_ok-add_group.ensures.telescope ∙ ap (λ ys. map known_binding c.loop-group.binders.items ++ bindings_known 0 (map binder ys) (known c.in_ok-ty.ty)) c.deref.ensures.value)
    c.in_ok-ty.ensures.around
    (c.in_ok-add_group.ensures.around ∙ ap (λ ys. reverse (map binder_name (map binder ys)) ++ around_of c.term.new.around) c.deref.ensures.value)
    c.in_ok-ty.ensures.next

pub term-applied-requires : goal.term-applied-requires
term-applied-requires t c =
    let e = sym (application_roll c.in-Application.x) ∙ ap tree (sym c.in-Application.is) ∙ c.bare.ensures.same in
    let head = bare_head c.in-Application.x (subst IsBare c.in-Application.is c.bare.ensures.bare) in
    (omega (arith, ap size e, c.decreases), head)

pub term-returns-in-Application-clause-read : goal.term-returns-in-Application-clause-read
term-returns-in-Application-clause-read t c =
    let e = sym (application_roll c.in-Application.x) ∙ ap tree (sym c.in-Application.is) ∙ c.bare.ensures.same in
    subst (λ r. ReadsTerm c.args.place.now (around_of c.args.around.now) c.args.next.now r c.applied.result) e c.applied.ensures.read

pub term-returns-in-Application-clause-next : goal.term-returns-in-Application-clause-next
term-returns-in-Application-clause-next t c =
    let e = sym (application_roll c.in-Application.x) ∙ ap tree (sym c.in-Application.is) ∙ c.bare.ensures.same in
    subst (λ r. OnOk c.applied.result (c.applied.new.next ≡ c.args.next.now + types_in r)) e c.applied.ensures.next

pub arms-returns-in_err-pattern-clause-read : goal.arms-returns-in_err-pattern-clause-read
arms-returns-in_err-pattern-clause-read t c =
    let p = err_from_is_err_and c.from_residual.result c.from_residual.ensures.1 in
    let x = c.branch-item.result in
    let at = drop_at c.as_slice-written.result.now c.loop-branch.branch-index x c.loop-branch-test.true c.branch-item.is in
    let told : OrNoMemory (fault c.in_err-pattern.field-0.0) (λ f. known_pattern (place_of c.args.place.now) (around_of c.loop-branch.around) (type_of c.args.ty.now) (done_of c.loop-branch.done) (qualified c.branch-item.result.constructor) (map binder c.deref.result.now) ≡ Err f) = c.in_err-pattern.ensures in
    rw (p.1, p.2) (IfSome_then (fault c.in_err-pattern.field-0.0) told (λ f (h : known_pattern (place_of c.args.place.now) (around_of c.loop-branch.around) (type_of c.args.ty.now) (done_of c.loop-branch.done) (qualified c.branch-item.result.constructor) (map binder c.deref.result.now) ≡ Err f).
    pattern_fault_here (place_of c.args.place.now) (owner_of c.args.place.now) (around_of c.args.around.now) c.args.next.now (type_of c.args.ty.now) (branches c.args.all.now) _ _ x _ _ _ c.loop-branch.invariant at f (ap (λ ys. known_pattern (place_of c.args.place.now) (around_of c.loop-branch.around) (type_of c.args.ty.now) (done_of c.loop-branch.done) (qualified c.branch-item.result.constructor) (map binder ys)) (sym c.deref.ensures.value) ∙ h)))

pub arms-term-requires : goal.arms-term-requires
arms-term-requires t c =
    let x = c.branch-item.result in
    let at = drop_at c.as_slice-written.result.now c.loop-branch.branch-index x c.loop-branch-test.true c.branch-item.is in
    (omega (arith, branch_smaller_here (place_of c.args.place.now) (owner_of c.args.place.now) (around_of c.args.around.now) c.args.next.now (type_of c.args.ty.now) (branches c.args.all.now) _ _ x _ _ _ c.loop-branch.invariant at, c.decreases), tt)

pub arms-returns-in_err-body-clause-read : goal.arms-returns-in_err-body-clause-read
arms-returns-in_err-body-clause-read t c =
    let p = err_from_is_err_and c.from_residual-in_err-body.result c.from_residual-in_err-body.ensures.1 in
    let x = c.branch-item.result in
    let at = drop_at c.as_slice-written.result.now c.loop-branch.branch-index x c.loop-branch-test.true c.branch-item.is in
    let told : OrNoMemory (fault c.in_err-body.field-0.0) (λ f. with_part cut (term (place_of c.args.place.now) (owner_of c.args.place.now) (around_of c.enter.new.around) c.loop-branch.next (tree c.branch-item.result.body)) ≡ Err f) = c.in_err-body.ensures.read in
    rw (p.1, p.2) (IfSome_then (fault c.in_err-body.field-0.0) told (λ f (h : with_part cut (term (place_of c.args.place.now) (owner_of c.args.place.now) (around_of c.enter.new.around) c.loop-branch.next (tree c.branch-item.result.body)) ≡ Err f).
    branch_fault_here (place_of c.args.place.now) (owner_of c.args.place.now) (around_of c.args.around.now) c.args.next.now (type_of c.args.ty.now) (branches c.args.all.now) _ _ x _ (pattern_of c.in_ok-pattern.pattern) _ (around_of c.enter.new.around) _ c.loop-branch.invariant at f (ap (λ ys. known_pattern (place_of c.args.place.now) (around_of c.loop-branch.around) (type_of c.args.ty.now) (done_of c.loop-branch.done) (qualified c.branch-item.result.constructor) (map binder ys)) (sym c.deref.ensures.value) ∙ c.in_ok-pattern.ensures) c.in_ok-enter.ensures h))

pub arms-loop-branch-preserved : goal.arms-loop-branch-preserved
arms-loop-branch-preserved t c =
    let x = c.branch-item.result in
    let at = drop_at c.as_slice-written.result.now c.loop-branch.branch-index x c.loop-branch-test.true c.branch-item.is in
    let left = c.leave.ensures ∙ left_branch (pattern_of c.in_ok-pattern.pattern) (around_of c.loop-branch.around) (around_of c.term.new.around) c.len-outside.result c.len-outside.ensures (c.in_ok-body.ensures.around ∙ c.in_ok-enter.ensures) in
    branch_more_here (place_of c.args.place.now) (owner_of c.args.place.now) (around_of c.args.around.now) c.args.next.now (type_of c.args.ty.now) (branches c.args.all.now) _ _ x _ _ (pattern_of c.in_ok-pattern.pattern) (known c.in_ok-body.body) _ (around_of c.enter.new.around) _ _ _ c.loop-branch.invariant at (ap (λ ys. known_pattern (place_of c.args.place.now) (around_of c.loop-branch.around) (type_of c.args.ty.now) (done_of c.loop-branch.done) (qualified c.branch-item.result.constructor) (map binder ys)) (sym c.deref.ensures.value) ∙ c.in_ok-pattern.ensures)
    c.in_ok-enter.ensures c.in_ok-body.ensures.read c.in_ok-add_branch.ensures left c.in_ok-body.ensures.next

pub case-returns-in_err-value-clause-read : goal.case-returns-in_err-value-clause-read
case-returns-in_err-value-clause-read t c =
    let p = err_from_is_err_and c.from_residual.result c.from_residual.ensures.1 in
    let r = out-MatchOf c.args.x.now in
    let told : OrNoMemory (fault c.in_err-value.field-0.0) (λ f. with_part cut (term (place_of c.args.place.now) (owner_of c.args.place.now) (around_of c.args.around.now) c.args.next.now (tree r.value)) ≡ Err f) = c.in_err-value.ensures.read in
    rw (p.1, p.2) (IfSome_then (fault c.in_err-value.field-0.0) told (λ f (h : with_part cut (term (place_of c.args.place.now) (owner_of c.args.place.now) (around_of c.args.around.now) c.args.next.now (tree r.value)) ≡ Err f).
    ap (λ z. with_part cut (term (place_of c.args.place.now) (owner_of c.args.place.now) (around_of c.args.around.now) c.args.next.now z)) (match_parts c.args.x.now) ∙ match_value_fault (place_of c.args.place.now) (owner_of c.args.place.now) (around_of c.args.around.now) c.args.next.now (tree r.value) (option_map binder r.name) (option_map within r.within) (tree r.motive) (branches r.branches) f h))

pub case-first_fault-requires : goal.case-first_fault-requires
case-first_fault-requires t c =
    (omega (arith, ap size (match_parts c.args.x.now), c.decreases), c.in-Err.ensures)

pub case-returns-in-Err-clause-read : goal.case-returns-in-Err-clause-read
case-returns-in-Err-clause-read t c =
    let r = out-MatchOf c.args.x.now in
    let back = c.in_ok-value.ensures.around in
    subst (λ z. OrNoMemory (fault c.first_fault.result) (λ f. with_part cut (term (place_of c.args.place.now) (owner_of c.args.place.now) z c.args.next.now (match_of c.args.x.now)) ≡ Err f)) back
    (c.first_fault.ensures c.args.next.now (known c.in_ok-value.value) (ap (λ z. with_part cut (term (place_of c.args.place.now) (owner_of c.args.place.now) z c.args.next.now (tree r.value))) back ∙ c.in_ok-value.ensures.read) c.in_ok-value.ensures.next)

pub case-returns-in_err-motive-clause-read : goal.case-returns-in_err-motive-clause-read
case-returns-in_err-motive-clause-read t c =
    let p = err_from_is_err_and c.from_residual-in_err-motive.result c.from_residual-in_err-motive.ensures.1 in
    let r = out-MatchOf c.args.x.now in
    let back = c.in_ok-value.ensures.around in
    let is = ap (λ z. matched_type (place_of c.args.place.now) z (option_map within r.within) (branches r.branches)) (sym back) ∙ c.in-Ok.ensures in
    let at = c.in_ok-enter.ensures ∙ ap (λ z. around_motive z (Ok (type_of c.in-Ok.ty)) (option_copied c.value_name.result)) back ∙ ap (around_motive (around_of c.args.around.now) (Ok (type_of c.in-Ok.ty))) c.value_name.ensures in
    let told : OrNoMemory (fault c.in_err-motive.field-0.0) (λ f. with_part cut (term (place_of c.args.place.now) (owner_of c.args.place.now) (around_of c.enter.new.around) c.term.new.next (tree (out-MatchOf c.args.x.now).motive)) ≡ Err f) = c.in_err-motive.ensures.read in
    rw (p.1, p.2) (IfSome_then (fault c.in_err-motive.field-0.0) told (λ f (h : with_part cut (term (place_of c.args.place.now) (owner_of c.args.place.now) (around_of c.enter.new.around) c.term.new.next (tree (out-MatchOf c.args.x.now).motive)) ≡ Err f).
    ap (λ z. with_part cut (term (place_of c.args.place.now) (owner_of c.args.place.now) (around_of c.args.around.now) c.args.next.now z)) (match_parts c.args.x.now) ∙ match_motive_fault (place_of c.args.place.now) (owner_of c.args.place.now) (around_of c.args.around.now) c.args.next.now (tree r.value) (option_map binder r.name) (option_map within r.within) (tree r.motive) (branches r.branches) (known c.in_ok-value.value) (type_of c.in-Ok.ty) (around_of c.enter.new.around) c.term.new.next f c.in_ok-value.ensures.read is at c.in_ok-value.ensures.next h))

pub case-returns-in_err-done-clause-read : goal.case-returns-in_err-done-clause-read
case-returns-in_err-done-clause-read t c =
    let p = err_from_is_err_and c.from_residual-in_err-done.result c.from_residual-in_err-done.ensures.1 in
    let r = out-MatchOf c.args.x.now in
    let back = c.in_ok-value.ensures.around in
    let is = ap (λ z. matched_type (place_of c.args.place.now) z (option_map within r.within) (branches r.branches)) (sym back) ∙ c.in-Ok.ensures in
    let at = c.in_ok-enter.ensures ∙ ap (λ z. around_motive z (Ok (type_of c.in-Ok.ty)) (option_copied c.value_name.result)) back ∙ ap (around_motive (around_of c.args.around.now) (Ok (type_of c.in-Ok.ty))) c.value_name.ensures in
    let left = c.leave.ensures ∙ left_motive (type_of c.in-Ok.ty) (value_name (tree r.value) (option_map binder r.name)) (around_of c.args.around.now) (around_of c.term-2.new.around) c.len-outside.result c.len-outside.ensures (c.in_ok-motive.ensures.around ∙ at) in
    let told : OrNoMemory (fault c.in_err-done.field-0.0) (λ f. with_part (map cut_branch) (branches_read (place_of c.args.place.now) (owner_of c.args.place.now) (around_of c.leave.new.self) c.term-2.new.next (type_of c.in-Ok.ty) (branches (out-MatchOf c.args.x.now).branches)) ≡ Err f) = c.in_err-done.ensures.read in
    rw (p.1, p.2) (IfSome_then (fault c.in_err-done.field-0.0) told (λ f (h : with_part (map cut_branch) (branches_read (place_of c.args.place.now) (owner_of c.args.place.now) (around_of c.leave.new.self) c.term-2.new.next (type_of c.in-Ok.ty) (branches (out-MatchOf c.args.x.now).branches)) ≡ Err f).
    ap (λ z. with_part cut (term (place_of c.args.place.now) (owner_of c.args.place.now) (around_of c.args.around.now) c.args.next.now z)) (match_parts c.args.x.now) ∙ match_read (place_of c.args.place.now) (owner_of c.args.place.now) (around_of c.args.around.now) c.args.next.now (tree r.value) (option_map binder r.name) (option_map within r.within) (tree r.motive) (branches r.branches) (known c.in_ok-value.value) (known c.in_ok-motive.motive) (type_of c.in-Ok.ty) (around_of c.enter.new.around) (around_of c.leave.new.self) c.term.new.next c.term-2.new.next (Err f) c.in_ok-value.ensures.read is at c.in_ok-value.ensures.next c.in_ok-motive.ensures.read left c.in_ok-motive.ensures.next
    (λ value motive _ _. after_fault (map cut_branch) (case_of (type_of c.in-Ok.ty) value motive) cut (branches_read (place_of c.args.place.now) (owner_of c.args.place.now) (around_of c.leave.new.self) c.term-2.new.next (type_of c.in-Ok.ty) (branches (out-MatchOf c.args.x.now).branches)) f h)))

pub case-returns-clause-read : goal.case-returns-clause-read
case-returns-clause-read t c =
    let r = out-MatchOf c.args.x.now in
    let back = c.in_ok-value.ensures.around in
    let is = ap (λ z. matched_type (place_of c.args.place.now) z (option_map within r.within) (branches r.branches)) (sym back) ∙ c.in-Ok.ensures in
    let at = c.in_ok-enter.ensures ∙ ap (λ z. around_motive z (Ok (type_of c.in-Ok.ty)) (option_copied c.value_name.result)) back ∙ ap (around_motive (around_of c.args.around.now) (Ok (type_of c.in-Ok.ty))) c.value_name.ensures in
    let left = c.leave.ensures ∙ left_motive (type_of c.in-Ok.ty) (value_name (tree r.value) (option_map binder r.name)) (around_of c.args.around.now) (around_of c.term-2.new.around) c.len-outside.result c.len-outside.ensures (c.in_ok-motive.ensures.around ∙ at) in
    let is_case : with_part cut (term (place_of c.args.place.now) (owner_of c.args.place.now) (around_of c.args.around.now) c.args.next.now (match_of c.args.x.now)) ≡ (known_case (type_of c.in-Ok.ty) (known c.in_ok-value.value) (known c.in_ok-motive.motive) (done_of c.in_ok-done.done)) =
    ap (λ z. with_part cut (term (place_of c.args.place.now) (owner_of c.args.place.now) (around_of c.args.around.now) c.args.next.now z)) (match_parts c.args.x.now) ∙ match_read (place_of c.args.place.now) (owner_of c.args.place.now) (around_of c.args.around.now) c.args.next.now (tree r.value) (option_map binder r.name) (option_map within r.within) (tree r.motive) (branches r.branches) (known c.in_ok-value.value) (known c.in_ok-motive.motive) (type_of c.in-Ok.ty) (around_of c.enter.new.around) (around_of c.leave.new.self) c.term.new.next c.term-2.new.next (known_case (type_of c.in-Ok.ty) (known c.in_ok-value.value) (known c.in_ok-motive.motive) (done_of c.in_ok-done.done)) c.in_ok-value.ensures.read is at c.in_ok-value.ensures.next c.in_ok-motive.ensures.read left c.in_ok-motive.ensures.next
    (λ value motive ev em. after_part (map cut_branch) (case_of (type_of c.in-Ok.ty) value motive) cut (branches_read (place_of c.args.place.now) (owner_of c.args.place.now) (around_of c.leave.new.self) c.term-2.new.next (type_of c.in-Ok.ty) (branches (out-MatchOf c.args.x.now).branches)) (done_of c.in_ok-done.done) (known_case (type_of c.in-Ok.ty) (known c.in_ok-value.value) (known c.in_ok-motive.motive) (done_of c.in_ok-done.done)) c.in_ok-done.ensures.read
    (λ done ed. sym (whole_case (type_of c.in-Ok.ty) value motive done) ∙ ap (λ z. known_case (type_of c.in-Ok.ty) z (cut motive) (map cut_branch done)) ev ∙ ap (λ z. known_case (type_of c.in-Ok.ty) (known c.in_ok-value.value) z (map cut_branch done)) em ∙ ap (known_case (type_of c.in-Ok.ty) (known c.in_ok-value.value) (known c.in_ok-motive.motive)) ed)) in
    subst (λ z. Reads known z c.case_of.result) (sym is_case) c.case_of.ensures

pub case-returns-clause-around : goal.case-returns-clause-around
case-returns-clause-around t c =
    let r = out-MatchOf c.args.x.now in
    let back = c.in_ok-value.ensures.around in
    let is = ap (λ z. matched_type (place_of c.args.place.now) z (option_map within r.within) (branches r.branches)) (sym back) ∙ c.in-Ok.ensures in
    let at = c.in_ok-enter.ensures ∙ ap (λ z. around_motive z (Ok (type_of c.in-Ok.ty)) (option_copied c.value_name.result)) back ∙ ap (around_motive (around_of c.args.around.now) (Ok (type_of c.in-Ok.ty))) c.value_name.ensures in
    let left = c.leave.ensures ∙ left_motive (type_of c.in-Ok.ty) (value_name (tree r.value) (option_map binder r.name)) (around_of c.args.around.now) (around_of c.term-2.new.around) c.len-outside.result c.len-outside.ensures (c.in_ok-motive.ensures.around ∙ at) in
    beside c.case_of.result _ (c.in_ok-done.ensures.around ∙ left)

pub first_fault-returns-in-Ok : goal.first_fault-returns-in-Ok
first_fault-returns-in-Ok t c =
    let r = out-MatchOf c.args.x.now in
    let none = none_behind within r.within c.is_some.result c.is_some.ensures c.if-is_some.false in
    let entered = ok_then c.enter.result c.is_err.result (around_of c.enter.new.self ≡ option_copied c.value_name.result ∷ (around_of c.args.around.now)) c.is_err.ensures.value c.if-is_err.false c.enter.ensures in
    let at = entered ∙ ap (λ z. z ∷ (around_of c.args.around.now)) c.value_name.ensures in
    λ first value told counted. IfSome_then (fault c.args.reason) c.requires.reason (λ f (h : matched_type (place_of c.args.place.now) (around_of c.args.around.now) (option_map within (out-MatchOf c.args.x.now).within) (branches (out-MatchOf c.args.x.now).branches) ≡ Err f).
    ap (λ z. with_part cut (term (place_of c.args.place.now) (owner_of c.args.place.now) (around_of c.args.around.now) first z)) (match_parts c.args.x.now) ∙ match_type_fault_without (place_of c.args.place.now) (owner_of c.args.place.now) (around_of c.args.around.now) first (tree r.value) (option_map binder r.name) (option_map within r.within) (tree r.motive) (branches r.branches) value (known c.in-Ok.field-0) (around_of c.enter.new.self) c.args.next.now f told none h at counted c.in-Ok.ensures.read)

pub first_fault-returns : goal.first_fault-returns
first_fault-returns t c =
    let r = out-MatchOf c.args.x.now in
    let none = none_behind within r.within c.is_some.result c.is_some.ensures c.if-is_some.false in
    let entered = ok_then c.enter.result c.is_err.result (around_of c.enter.new.self ≡ option_copied c.value_name.result ∷ (around_of c.args.around.now)) c.is_err.ensures.value c.if-is_err.false c.enter.ensures in
    let at = entered ∙ ap (λ z. z ∷ (around_of c.args.around.now)) c.value_name.ensures in
    let outside = motive_outside (around_of c.args.around.now) (value_name (tree r.value) (option_map binder r.name)) (matched_type (place_of c.args.place.now) (around_of c.args.around.now) (option_map within (out-MatchOf c.args.x.now).within) (branches (out-MatchOf c.args.x.now).branches)) (fault c.args.reason) c.is_no_memory.result c.is_no_memory.ensures c.if-is_no_memory.false c.requires.reason in
    let earlier : OrNoMemory (fault c.in-Err.earlier) (λ f. with_part cut (term (place_of c.args.place.now) (owner_of c.args.place.now) (around_of c.enter.new.self) c.args.next.now (tree (out-MatchOf c.args.x.now).motive)) ≡ Err f) = c.in-Err.ensures.read in
    λ first value told counted. IfSome_then (fault c.in-Err.earlier) earlier (λ f (h : with_part cut (term (place_of c.args.place.now) (owner_of c.args.place.now) (around_of c.enter.new.self) c.args.next.now (tree (out-MatchOf c.args.x.now).motive)) ≡ Err f).
    ap (λ z. with_part cut (term (place_of c.args.place.now) (owner_of c.args.place.now) (around_of c.args.around.now) first z)) (match_parts c.args.x.now) ∙ match_motive_fault_without (place_of c.args.place.now) (owner_of c.args.place.now) (around_of c.args.around.now) first (tree r.value) (option_map binder r.name) (option_map within r.within) (tree r.motive) (branches r.branches) value (around_of c.enter.new.self) c.args.next.now f told none (at ∙ sym outside) counted h)
