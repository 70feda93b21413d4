-- What each call prints is put in front of what the calls before it printed.
use Rattle.std.proofs.Common.{◌≡◌, ◌+◌, ◌-◌, ◌<◌, ℕ, length, take, drop, arith, refl, sym, ap, ap₂, subst, ◌∙◌}
use Rattle.cic_terms.specs.Tree.{prod, lam, let_in, app, case, fix, Children}
use Rattle.cic_terms.specs.Denotes.{tree, tree_sort, branches, bodies, terms, shapes}
use Rattle.cic_terms.specs.declared.term.Term.{Term}
use Rattle.cic_terms.specs.declared.term.Branches.{Branches}
use Rattle.cic_terms.specs.declared.term.FixBodies.{FixBodies}
use Rattle.cic_terms.specs.Sizes.{depth_tree, depth_children}
use Rattle.cic_terms.proofs.Children.{drop_whole}
use Rattle.cic_env.specs.Environments.{items}
use Rattle.gal_print.specs.Printing.{text, parts, under}
use Rattle.gal_print.specs.calls.Names.{numbers, next_number, uses_under}
use Rattle.gal_print.specs.calls.Output.{Prints}
use Rattle.gal_print.specs.calls.Places.{heads_of, place_of}
use Rattle.gal_print.proofs.Parts.{count_branches, count_terms, count_shapes}
use Rattle.gal_print.proofs.Fronts.{on_ok_more}
use Rattle.gal_print.proofs.Arms.{product_arm, arrow_arm, abstraction_arm, let_arm, application_arm, match_arm}
use Rattle.gal_print.proofs.Fixes.{domain_arm, fix_arm}
use Rattle.gal_print.proofs.Loops.{no_branch, branch_step, no_domain, domain_step, no_function, last_step, function_step}
use Rattle.gal_print.proofs.Calls.{under_done, flag_told, flag_read, sort_arm, id_arm, pattern_as, all_branches, all_domains, all_functions, count_domains, function_done}
use Rattle.gal_print.proofs.printing.+print.Goals.{print_under-then-count-gt0, print_under-else-count-gt0}
use Rattle.gal_print.proofs.Depths.{branch_depth, domain_depth, function_depth, depths_in_function}
use Rattle.gal_print.proofs.printing.+print.Goals as goal

-- Branches, from the last on.
pub print_branches-loop-i-init : goal.print_branches-loop-i-init
print_branches-loop-i-init t c =
    let bs = c.as_slice-branches.result.now in
    let h = heads_of c.heads_of-heads.result in
    record {
      printed = no_branch (items c.args.env.now) h.parameters (drop (length bs) h.constructors) (drop (length bs) bs) (numbers c.args.names.now) (next_number c.args.names.now) c.args.out.now c.args.out.now
          (drop_whole bs (length bs) (omega arith)) refl;
      flags = refl;
    }

pub print_branches-print_under-requires : goal.print_branches-print_under-requires
print_branches-print_under-requires t c =
    let bs = c.as_slice-branches.result.now in
    let deep = branch_depth bs (c.loop-i.i - 1) c.index-branches-i.result (omega (arith, c.loop-i-test.true, c.loop-i.auto.i)) c.index-branches-i.is in
    (omega (arith, deep, ap depth_children c.as_slice-branches.ensures, c.decreases), (c.requires.ordered, c.loop-i.invariant.flags ∙ c.requires.next))

pub print_branches-loop-i-preserved : goal.print_branches-loop-i-preserved
print_branches-loop-i-preserved t c =
    let E = items c.args.env.now in
    let ns = numbers c.args.names.now in
    let next = next_number c.args.names.now in
    let b = c.index-branches-i.result in
    let body : Prints (text E (tree b.body) (under next b.binders ns) (next + b.binders)) (uses_under b.binders ns (tree b.body)) c.loop-i.out c.print_under.new.out =
    subst (λ (n : ℕ). Prints (text E (tree b.body) (under next n ns) (next + n)) (uses_under n ns (tree b.body)) c.loop-i.out c.print_under.new.out) c.from.ensures
    c.in_ok-print_under.ensures.printed in
    record {
      printed = branch_step E (heads_of c.heads_of-heads.result) c.as_slice-branches.result.now b c.loop-i.i (c.loop-i.i - 1) next (length c.print_under.new.out.used.items) ns
          c.args.out.now c.loop-i.out c.print_under.new.out c.put_head.new.out
          c.index-branches-i.is (omega (arith, c.loop-i-test.true)) c.loop-i.auto.i
          (c.in_ok-print_under.ensures.length ∙ c.loop-i.invariant.flags ∙ c.requires.next)
          c.loop-i.invariant.printed body c.in_ok-put_head.ensures.puts;
      flags = c.in_ok-put_head.ensures.length ∙ c.in_ok-print_under.ensures.length ∙ c.loop-i.invariant.flags;
    }

pub print_branches-returns-clause-printed : goal.print_branches-returns-clause-printed
print_branches-returns-clause-printed t c =
    all_branches (items c.args.env.now) c.args.ind.now (heads_of c.heads_of-heads.result) c.as_slice-branches.result.now (branches c.args.all.now) c.loop-i.i (numbers c.args.names.now) (next_number c.args.names.now) c.args.out.now c.loop-i.out
    (omega (arith, c.loop-i-test.false)) c.as_slice-branches.ensures c.heads_of-heads.ensures c.loop-i.invariant.printed

pub print_branches-returns-clause-length : goal.print_branches-returns-clause-length
print_branches-returns-clause-length t c = c.loop-i.invariant.flags

-- Domains, from the last on.
pub print_domains-overflow_sub-first : goal.print_domains-overflow_sub-first
print_domains-overflow_sub-first t c =
    let counted = ap (λ (ks : Children). length (parts (items c.args.env.now) ks)) c.as_slice-domains.ensures ∙ count_terms (items c.args.env.now) 0 c.as_slice-domains.result.now in
    omega (arith, counted, c.requires.next, c.len.ensures, c.args.out.now.used.ok.0)

pub print_domains-loop-j-init : goal.print_domains-loop-j-init
print_domains-loop-j-init t c =
    let ds = c.as_slice-domains.result.now in
    let counted = ap (λ (ks : Children). length (parts (items c.args.env.now) ks)) c.as_slice-domains.ensures ∙ count_terms (items c.args.env.now) 0 ds in
    record {
      printed = no_domain (items c.args.env.now) ds (length ds) (numbers c.args.names.now) (next_number c.args.names.now) c.args.out.now c.args.out.now (omega arith) refl;
      flags = omega (arith, counted, c.requires.next);
    }

pub print_domains-print_typed-requires : goal.print_domains-print_typed-requires
print_domains-print_typed-requires t c =
    let ds = c.as_slice-domains.result.now in
    let counted = ap (λ (ks : Children). length (parts (items c.args.env.now) ks)) c.as_slice-domains.ensures ∙ count_terms (items c.args.env.now) 0 ds in
    let first : c.len.result - length ds ≡ next_number c.args.names.now = omega (arith, counted, c.requires.next, c.len.ensures, c.args.out.now.used.ok.0) in
    let cut = c.close.ensures.length (omega (arith, first, c.loop-j.invariant.flags, c.loop-j-test.true)) in
    let deep = domain_depth 0 ds (c.loop-j.j - 1) c.index-domains-j.result (omega (arith, c.loop-j-test.true, c.loop-j.auto.j)) c.index-domains-j.is in (
      omega (arith, deep, ap depth_children c.as_slice-domains.ensures, c.decreases),
      (c.in_ok-more.ensures.ordered, omega (arith, c.in_ok-word.ensures.length, cut, first, c.in_ok-more.ensures.next)),
    )

pub print_domains-loop-j-preserved : goal.print_domains-loop-j-preserved
print_domains-loop-j-preserved t c =
    let E = items c.args.env.now in
    let ns = numbers c.args.names.now in
    let next = next_number c.args.names.now in
    let ds = c.as_slice-domains.result.now in
    let n : ℕ = c.loop-j.j - 1 in
    let counted = ap (λ (ks : Children). length (parts E ks)) c.as_slice-domains.ensures ∙ count_terms E 0 ds in
    let first : c.len.result - length ds ≡ next = omega (arith, counted, c.requires.next, c.len.ensures, c.args.out.now.used.ok.0) in
    let cut : length c.close.new.out.used.items ≡ next + n =
    c.close.ensures.length (omega (arith, first, c.loop-j.invariant.flags, c.loop-j-test.true)) ∙ ap (λ (m : ℕ). m + n) first in
    record {
      printed = domain_step E ds c.index-domains-j.result c.loop-j.j n ns next c.args.out.now c.loop-j.out c.word-in-loop-j.new.out
          c.index-domains-j.is (omega (arith, c.loop-j-test.true)) c.loop-j.auto.j c.loop-j.invariant.printed
          (domain_arm E (tree c.index-domains-j.result) ns (numbers c.in_ok-more.field-0) next (next_number c.in_ok-more.field-0) n
          c.loop-j.out c.close.new.out c.word.new.out c.print_typed.new.out c.word-in-loop-j.new.out
          c.in_ok-more.ensures.numbers c.in_ok-more.ensures.next (omega (arith, c.loop-j.invariant.flags, c.loop-j-test.true))
          c.close.ensures.front (c.close.ensures.used ∙ ap (λ (m : ℕ). take (m + n) c.loop-j.out.used.items) first) cut
          c.in_ok-word.ensures.puts c.in_ok-print_typed.ensures.printed c.in_ok-word-2.ensures.puts);
      flags = c.in_ok-word-2.ensures.length ∙ c.in_ok-print_typed.ensures.length ∙ c.in_ok-word.ensures.length ∙ cut;
    }

pub print_domains-returns-clause-printed : goal.print_domains-returns-clause-printed
print_domains-returns-clause-printed t c =
    all_domains (items c.args.env.now) c.as_slice-domains.result.now (terms c.args.all.now) c.loop-j.j (numbers c.args.names.now) (next_number c.args.names.now) c.args.out.now c.loop-j.out
    (omega (arith, c.loop-j-test.false)) c.as_slice-domains.ensures c.loop-j.invariant.printed

pub print_domains-returns-clause-length : goal.print_domains-returns-clause-length
print_domains-returns-clause-length t c = omega (arith, c.loop-j.invariant.flags, c.loop-j-test.false)

pub print_fix-print_functions-requires : goal.print_fix-print_functions-requires
print_fix-print_functions-requires t c = (
  omega (arith, ap (λ (x : Term). depth_tree (tree x)) c.in-Fix.is, ap (λ (b : FixBodies). depth_children (bodies b)) c.deref-2.ensures, c.decreases),
  (
    c.requires.ordered,
    c.in_ok-open.ensures.length
        ∙ ap₂ (λ (n m : ℕ). n + m) (c.in_ok-put_which.ensures.length ∙ c.requires.next)
        (sym (count_shapes c.as_slice-all.result.now) ∙ ap length (sym c.as_slice-all.ensures.shapes ∙ ap shapes (c.deref.ensures ∙ sym c.deref-2.ensures))),
  ),
)

pub print_fix-returns-clause-printed : goal.print_fix-returns-clause-printed
print_fix-returns-clause-printed t c =
    on_ok_more c.word.result c.word.ensures.puts
    (fix_arm (items c.args.env.now) (tree c.args.t.now) c.in-Fix.which (length c.as_slice-all.result.now) (shapes c.deref-2.result.now) (bodies c.deref-2.result.now) (numbers c.args.names.now) (next_number c.args.names.now)
    c.args.out.now c.put_which.new.out c.open.new.out c.print_functions.new.out c.close.new.out c.word.new.out
    (ap tree c.in-Fix.is ∙ ap (λ (b : FixBodies). fix c.in-Fix.which (shapes b) (bodies b)) (sym c.deref-2.ensures))
    (sym (count_shapes c.as_slice-all.result.now) ∙ ap length (sym c.as_slice-all.ensures.shapes ∙ ap shapes (c.deref.ensures ∙ sym c.deref-2.ensures)))
    c.requires.next
    (c.in_ok-put_which.ensures.length ∙ c.requires.next)
    c.in_ok-put_which.ensures.puts c.in_ok-open.ensures.front c.in_ok-open.ensures.used c.in_ok-print_functions.ensures.printed c.close.ensures.front
    (c.close.ensures.used ∙ ap (λ (n : ℕ). take n c.print_functions.new.out.used.items) (omega (arith, c.len-first.ensures, c.args.out.now.used.ok.0, c.requires.next))))

pub print_function-print_placed-requires : goal.print_function-print_placed-requires
print_function-print_placed-requires t c = (
  omega (arith, (depths_in_function c.args.one.now).2, c.decreases),
  (c.in_ok-more.ensures.ordered, omega (arith, c.in_ok-open.ensures.length, c.in_ok-more.ensures.next, c.in_ok-functions.ensures.next, c.requires.next)),
)

pub print_function-print_whole-requires : goal.print_function-print_whole-requires
print_function-print_whole-requires t c =
    let kept = c.in_ok-word.ensures.length ∙ c.in_ok-print_placed.ensures.length ∙ c.in_ok-open.ensures.length in (
      omega (arith, (depths_in_function c.args.one.now).1, c.decreases),
      (c.in_ok-more-2.ensures.ordered, omega (arith, kept, c.in_ok-more-2.ensures.next, c.len-first.ensures, c.args.out.now.used.ok.0)),
    )

pub print_function-print_domains-requires : goal.print_function-print_domains-requires
print_function-print_domains-requires t c =
    let counted = ap (λ (ks : Children). length (parts (items c.args.env.now) ks)) c.as_slice.ensures ∙ count_terms (items c.args.env.now) 0 c.as_slice.result.now in
    let kept = c.in_ok-put_struct.ensures.length ∙ c.in_ok-print_whole.ensures.length ∙ c.in_ok-word.ensures.length ∙ c.in_ok-print_placed.ensures.length ∙ c.in_ok-open.ensures.length in (
      omega (arith, (depths_in_function c.args.one.now).0, c.decreases),
      (
        (omega (arith, c.len-first.ensures, c.args.out.now.used.ok.0, c.requires.next), c.requires.ordered),
        omega (arith, counted, kept, c.len-first.ensures, c.args.out.now.used.ok.0),
      ),
    )

pub print_function-returns-clause-printed : goal.print_function-returns-clause-printed
print_function-returns-clause-printed t c =
    let E = items c.args.env.now in
    let ns = numbers c.args.names.now in
    let next = next_number c.args.names.now in
    on_ok_more c.put.result c.put.ensures.puts
    (function_done E c.args.all c.args.i c.len-first.result (length c.as_slice.result.now) (place_of c.args.place) c.args.one.now
    ns (numbers c.in_ok-functions.functions) (numbers c.in_ok-more.field-0) (numbers c.in_ok-more-2.field-0) next (next_number c.in_ok-functions.functions) (next_number c.in_ok-more.field-0) (next_number c.in_ok-more-2.field-0)
    c.args.out.now c.open.new.out c.print_placed.new.out c.word.new.out c.print_whole.new.out c.put_struct.new.out c.print_domains.new.out c.put.new.out
    (omega (arith, c.len-first.ensures, c.args.out.now.used.ok.0, c.requires.next)) c.requires.next
    (count_domains E c.args.one.now.domains c.as_slice.result.now c.as_slice.ensures)
    c.in_ok-functions.ensures.numbers c.in_ok-functions.ensures.next c.in_ok-more.ensures.numbers c.in_ok-more.ensures.next c.in_ok-more-2.ensures.numbers c.in_ok-more-2.ensures.next
    c.in_ok-open.ensures.front c.in_ok-open.ensures.used c.in_ok-open.ensures.length
    c.in_ok-print_placed.ensures.printed c.in_ok-print_placed.ensures.length
    c.in_ok-word.ensures.puts c.in_ok-word.ensures.length
    c.in_ok-print_whole.ensures.printed c.in_ok-print_whole.ensures.length
    c.in_ok-put_struct.ensures.puts c.in_ok-put_struct.ensures.length
    c.in_ok-print_domains.ensures.printed)

-- Functions, from the last on.
pub print_functions-returns-in_default-clause-printed : goal.print_functions-returns-in_default-clause-printed
print_functions-returns-in_default-clause-printed t c =
    let bs = c.as_slice-functions.result.now in
    all_functions (items c.args.env.now) bs (bodies c.args.all.now) (shapes c.args.all.now) 0 (numbers c.args.names.now) (next_number c.args.names.now) c.args.out.now c.args.out.now
    refl c.as_slice-functions.ensures.parts c.as_slice-functions.ensures.shapes
    (no_function (items c.args.env.now) (length bs) bs 0 (numbers c.args.names.now) (next_number c.args.names.now) c.args.out.now c.args.out.now (omega (arith, c.in_default.ensures)) refl)

pub print_functions-print_function-requires : goal.print_functions-print_function-requires
print_functions-print_function-requires t c =
    let bs = c.as_slice-functions.result.now in
    let within : c.in-Some.last < length bs = omega (arith, c.in-Some.ensures) in
    let deep = function_depth (length bs) bs c.in-Some.last c.index-functions-last.result within c.index-functions-last.is in (
      omega (arith, deep, ap depth_children c.as_slice-functions.ensures.parts, c.decreases),
      (
        c.requires.ordered,
        (c.requires.next ∙ ap (λ (n : ℕ). next_number c.args.names.now + n) (ap length c.as_slice-functions.ensures.shapes ∙ count_shapes bs), within),
      ),
    )

pub print_functions-loop-i-init : goal.print_functions-loop-i-init
print_functions-loop-i-init t c =
    let bs = c.as_slice-functions.result.now in
    let last : c.in-Some.last + 1 ≡ length bs = omega (arith, c.in-Some.ensures) in
    record {
      printed = last_step (items c.args.env.now) (length bs) bs c.index-functions-last.result c.in-Some.last (numbers c.args.names.now) (next_number c.args.names.now) c.args.out.now c.print_function.new.out
          c.index-functions-last.is last c.in_ok-print_function.ensures.printed;
      flags = c.in_ok-print_function.ensures.length;
      within = omega (arith, last);
    }

pub print_functions-print_function-requires-in-loop-i : goal.print_functions-print_function-requires-in-loop-i
print_functions-print_function-requires-in-loop-i t c =
    let bs = c.as_slice-functions.result.now in
    let within : c.loop-i.i - 1 < length bs = omega (arith, c.loop-i.invariant.within) in
    let deep = function_depth (length bs) bs (c.loop-i.i - 1) c.index-functions-i.result within c.index-functions-i.is in (
      omega (arith, deep, ap depth_children c.as_slice-functions.ensures.parts, c.decreases),
      (
        c.requires.ordered,
        (
          c.in_ok-word.ensures.length ∙ c.loop-i.invariant.flags
              ∙ c.requires.next ∙ ap (λ (n : ℕ). next_number c.args.names.now + n) (ap length c.as_slice-functions.ensures.shapes ∙ count_shapes bs),
          within,
        ),
      ),
    )

pub print_functions-loop-i-preserved : goal.print_functions-loop-i-preserved
print_functions-loop-i-preserved t c =
    let bs = c.as_slice-functions.result.now in
    record {
      printed = function_step (items c.args.env.now) (length bs) bs c.index-functions-i.result c.loop-i.i (c.loop-i.i - 1) (numbers c.args.names.now) (next_number c.args.names.now)
          c.args.out.now c.loop-i.out c.word.new.out c.print_function-in-loop-i.new.out
          c.index-functions-i.is (omega (arith, c.loop-i-test.true)) c.loop-i.invariant.within
          c.loop-i.invariant.printed c.in_ok-word.ensures.puts c.in_ok-print_function-2.ensures.printed;
      flags = c.in_ok-print_function-2.ensures.length ∙ c.in_ok-word.ensures.length ∙ c.loop-i.invariant.flags;
      within = omega (arith, c.loop-i.invariant.within);
    }

pub print_functions-returns-clause-printed : goal.print_functions-returns-clause-printed
print_functions-returns-clause-printed t c =
    all_functions (items c.args.env.now) c.as_slice-functions.result.now (bodies c.args.all.now) (shapes c.args.all.now) c.loop-i.i (numbers c.args.names.now) (next_number c.args.names.now) c.args.out.now c.loop-i.out
    (omega (arith, c.loop-i-test.false)) c.as_slice-functions.ensures.parts c.as_slice-functions.ensures.shapes c.loop-i.invariant.printed

pub print_functions-returns-clause-length : goal.print_functions-returns-clause-length
print_functions-returns-clause-length t c = c.loop-i.invariant.flags

-- A match.
pub print_match-returns-clause-printed : goal.print_match-returns-clause-printed
print_match-returns-clause-printed t c =
    let E = items c.args.env.now in
    let ns = numbers c.args.names.now in
    let next = next_number c.args.names.now in
    let M = tree c.deref-2.result.now in
    let V = tree c.deref-4.result.now in
    let bs = branches c.deref.result.now in
    let id = c.in-Case.ind in
    let arity = c.in-Case.arity in
    let motive : Prints (text E M (under next (arity + 1) ns) (next + (arity + 1))) (uses_under (arity + 1) ns M) c.word-2.new.out c.print_under.new.out =
    subst (λ (n : ℕ). Prints (text E M (under next (n + 1) ns) (next + (n + 1))) (uses_under (n + 1) ns M) c.word-2.new.out c.print_under.new.out) c.from.ensures
    c.in_ok-print_under.ensures.printed in
    on_ok_more c.word-5.result c.word-5.ensures.puts
    (match_arm E (tree c.args.t.now) id arity M V bs ns next
    c.args.out.now c.word.new.out c.print_branches.new.out c.word-2.new.out c.print_under.new.out c.word-3.new.out c.put_pattern.new.out c.word-4.new.out c.print_whole.new.out c.word-5.new.out
    (ap tree c.in-Case.is
    ∙ ap₂ (λ (m s : Term). case id arity (tree m) (tree s) (branches c.in-Case.branches.value)) (sym c.deref-2.ensures) (sym c.deref-4.ensures)
    ∙ ap (λ (b : Branches). case id arity M V (branches b)) (sym c.deref.ensures))
    c.in_ok-word.ensures.puts c.in_ok-print_branches.ensures.printed c.in_ok-word-2.ensures.puts motive c.in_ok-word-3.ensures.puts
    (pattern_as E id bs arity next (length c.word-3.new.out.used.items) (length c.as_slice.result.now) c.word-3.new.out c.put_pattern.new.out
    (c.in_ok-word-3.ensures.length ∙ c.in_ok-print_under.ensures.length ∙ c.in_ok-word-2.ensures.length ∙ c.in_ok-print_branches.ensures.length ∙ c.in_ok-word.ensures.length ∙ c.requires.next)
    (sym (count_branches E c.as_slice.result.now) ∙ ap (λ (ks : Children). length (parts E ks)) (sym c.as_slice.ensures ∙ ap branches (c.deref-3.ensures ∙ sym c.deref.ensures)))
    c.in_ok-put_pattern.ensures.puts)
    c.in_ok-word-4.ensures.puts c.in_ok-print_whole.ensures.printed)

-- A term under binders.
pub print_under-returns-clause-printed : goal.print_under-returns-clause-printed
print_under-returns-clause-printed t c =
    under_done (items c.args.env.now) (tree c.args.t.now) (numbers c.args.names.now) (numbers c.in_ok-inner.inner) (next_number c.args.names.now) (next_number c.in_ok-inner.inner) c.args.count c.len-first.result
    c.args.out.now c.open.new.out c.print_whole.new.out c.close.new.out
    c.requires.next (omega (arith, c.len-first.ensures, c.args.out.now.used.ok.0, c.requires.next))
    c.in_ok-inner.ensures.numbers c.in_ok-inner.ensures.next c.in_ok-open.ensures.front c.in_ok-open.ensures.used
    c.in_ok-print_whole.ensures.printed c.close.ensures.front c.close.ensures.used

pub print_under-returns-clause-used : goal.print_under-returns-clause-used
print_under-returns-clause-used t c = λ l.
    flag_told (items c.args.env.now) (tree c.args.t.now) (numbers c.args.names.now) (numbers c.in_ok-inner.inner) (next_number c.args.names.now) (next_number c.in_ok-inner.inner) c.args.count
    c.args.out.now c.open.new.out c.print_whole.new.out c.if-count-gt0.used
    c.requires.next c.in_ok-inner.ensures.numbers c.in_ok-open.ensures.used c.in_ok-print_whole.ensures.printed l
    (elim c.if-count-gt0.branch [
      | print_under-then-count-gt0 w ↦ w.used-is ∙ flag_read c.print_whole.new.out.used.items c.len-first.result (next_number c.args.names.now) w.index.result.now w.index.ensures
          (omega (arith, c.len-first.ensures, c.args.out.now.used.ok.0, c.requires.next))
          (omega (arith, c.in_ok-print_whole.ensures.length, c.in_ok-open.ensures.length, c.requires.next, l))
      | print_under-else-count-gt0 w ↦ absurd (omega (arith, l, w.if-count-gt0.false))
    ])

-- Terms of each kind.
pub print_whole-returns-in-Sort-clause-printed : goal.print_whole-returns-in-Sort-clause-printed
print_whole-returns-in-Sort-clause-printed t c =
    on_ok_more c.put.result c.put.ensures.puts
    (sort_arm (items c.args.env.now) (tree c.args.t.now) (tree_sort c.in-Sort.sort) (numbers c.args.names.now) (next_number c.args.names.now) _ _ (ap tree c.in-Sort.is))

pub print_whole-returns-in_ok-print_typed-in-Prod-clause-printed : goal.print_whole-returns-in_ok-print_typed-in-Prod-clause-printed
print_whole-returns-in_ok-print_typed-in-Prod-clause-printed t c =
    on_ok_more c.word-then-branch.result c.word-then-branch.ensures.puts
    (product_arm (items c.args.env.now) (tree c.args.t.now) (tree c.deref-then-branch.result.now) (tree c.deref.result.now) (numbers c.args.names.now) (next_number c.args.names.now) _ _ _ _ _
    (ap tree c.in-Prod.is ∙ ap₂ (λ (a b : Term). prod (tree a) (tree b)) (sym c.deref-then-branch.ensures) (sym c.deref.ensures))
    (sym (c.in_ok-print_under-in-Prod.ensures.used (omega arith)) ∙ c.if-branch.true)
    c.in_ok-print_under-in-Prod.ensures.printed c.in_ok-word-in-Prod.ensures.puts c.in_ok-print_typed-in-Prod.ensures.printed)

pub print_whole-returns-in_ok-word-in-Prod-2-clause-printed : goal.print_whole-returns-in_ok-word-in-Prod-2-clause-printed
print_whole-returns-in_ok-word-in-Prod-2-clause-printed t c =
    on_ok_more c.print_placed.result c.print_placed.ensures.printed
    (arrow_arm (items c.args.env.now) (tree c.args.t.now) (tree c.deref-else-branch.result.now) (tree c.deref.result.now) (numbers c.args.names.now) (next_number c.args.names.now) _ _ _ _
    (ap tree c.in-Prod.is ∙ ap₂ (λ (a b : Term). prod (tree a) (tree b)) (sym c.deref-else-branch.ensures) (sym c.deref.ensures))
    (sym (c.in_ok-print_under-in-Prod.ensures.used (omega arith)) ∙ c.if-branch.false)
    c.in_ok-print_under-in-Prod.ensures.printed c.in_ok-word-in-Prod-2.ensures.puts)

pub print_whole-returns-in_ok-print_typed-in-Lam-clause-printed : goal.print_whole-returns-in_ok-print_typed-in-Lam-clause-printed
print_whole-returns-in_ok-print_typed-in-Lam-clause-printed t c =
    on_ok_more c.word-in-Lam-2.result c.word-in-Lam-2.ensures.puts
    (abstraction_arm (items c.args.env.now) (tree c.args.t.now) (tree c.deref-in-Lam-2.result.now) (tree c.deref-in-Lam.result.now) (numbers c.args.names.now) (next_number c.args.names.now) _ _ _ _ _
    (ap tree c.in-Lam.is ∙ ap₂ (λ (a b : Term). lam (tree a) (tree b)) (sym c.deref-in-Lam-2.ensures) (sym c.deref-in-Lam.ensures))
    c.in_ok-print_under-in-Lam.ensures.printed c.in_ok-word-in-Lam.ensures.puts c.in_ok-print_typed-in-Lam.ensures.printed)

pub print_whole-returns-in_ok-print_typed-in-Let-clause-printed : goal.print_whole-returns-in_ok-print_typed-in-Let-clause-printed
print_whole-returns-in_ok-print_typed-in-Let-clause-printed t c =
    on_ok_more c.word-in-Let-3.result c.word-in-Let-3.ensures.puts
    (let_arm (items c.args.env.now) (tree c.args.t.now) (tree c.deref-in-Let-2.result.now) (tree c.deref-in-Let-3.result.now) (tree c.deref-in-Let.result.now) (numbers c.args.names.now) (next_number c.args.names.now) _ _ _ _ _ _ _
    (ap tree c.in-Let.is
    ∙ ap₂ (λ (t a : Term). let_in (tree t) (tree a) (tree c.in-Let.rest.value)) (sym c.deref-in-Let-2.ensures) (sym c.deref-in-Let-3.ensures)
    ∙ ap (λ (u : Term). let_in (tree c.deref-in-Let-2.result.now) (tree c.deref-in-Let-3.result.now) (tree u)) (sym c.deref-in-Let.ensures))
    c.in_ok-print_under-in-Let.ensures.printed c.in_ok-word-in-Let.ensures.puts c.in_ok-print_whole-in-Let.ensures.printed c.in_ok-word-in-Let-2.ensures.puts c.in_ok-print_typed-in-Let.ensures.printed)

pub print_whole-returns-in_ok-word-in-App-clause-printed : goal.print_whole-returns-in_ok-word-in-App-clause-printed
print_whole-returns-in_ok-word-in-App-clause-printed t c =
    on_ok_more c.print_placed-in-App-2.result c.print_placed-in-App-2.ensures.printed
    (application_arm (items c.args.env.now) (tree c.args.t.now) (tree c.deref-in-App-2.result.now) (tree c.deref-in-App.result.now) (numbers c.args.names.now) (next_number c.args.names.now) _ _ _ _
    (ap tree c.in-App.is ∙ ap₂ (λ (f x : Term). app (tree f) (tree x)) (sym c.deref-in-App-2.ensures) (sym c.deref-in-App.ensures))
    c.in_ok-print_placed-in-App.ensures.printed c.in_ok-word-in-App.ensures.puts)

pub print_whole-returns-in-Const-clause-printed : goal.print_whole-returns-in-Const-clause-printed
print_whole-returns-in-Const-clause-printed t c =
    on_ok_more c.put-in-Const.result c.put-in-Const.ensures.puts
    (id_arm (items c.args.env.now) c.args.t.now c.in-Const.id (numbers c.args.names.now) (next_number c.args.names.now) _ _ c.in-Const.is)
