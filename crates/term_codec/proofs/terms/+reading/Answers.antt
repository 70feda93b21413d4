use Rattle.std.proofs.Common.{◌≡◌, ◌+◌, ◌-◌, ◌∷◌, [], drop, length, ap, sym, ◌∙◌, arith, length-append, length-drop}
use Rattle.std.proofs.lemmas.Result.{err_from_is_err_and}
use Rattle.seg_format.specs.declared.faults.Defect.TheVariants.{Depth}
use Rattle.cic_terms.specs.Denotes.{tree, branch_list, term_list}
use Rattle.term_format.specs.Reading.{value, wrong}
use Rattle.term_format.specs.TermReading.{read_term, read_branches, read_domains, read_functions}
use Rattle.term_codec.specs.calls.Functions.{branch_of, function_of, functions_of}
use Rattle.term_codec.proofs.Ends.{one_less, none_less}
use Rattle.term_codec.proofs.RowsRead.{term_too_deep}
use Rattle.term_codec.proofs.WrittenParts.{same_count}
use Rattle.term_codec.proofs.TermLoops.{join_nil, no_more, with_parts, with_functions, branch_more, domain_more, function_more, branch_stops, domain_stops, function_stops, branches_append, terms_append, functions_append, functions_made}
use Rattle.term_codec.proofs.terms.+reading.Goals as goal

pub read_term-returns-then-room-eq0 : goal.read_term-returns-then-room-eq0
read_term-returns-then-room-eq0 t c =
    let b = c.args.b.now in
    let p = c.args.place.now in
    let deep = term_too_deep c.args.room (drop p b) c.in_ok-tag.tag (drop c.byte_at.new.place b) c.if-room-eq0.true c.in_ok-tag.ensures.ok in
    record { ok = tt; within = tt; stops = (deep ∙ ap (λ n. wrong Depth n) (length-drop p b), c.requires) }

pub read_branches-returns-in_err-branch : goal.read_branches-returns-in_err-branch
read_branches-returns-in_err-branch t c =
    let p = err_from_is_err_and c.from_residual.result c.from_residual.ensures.1 in
    let b = c.args.b.now in
    rw (p.1, p.2) (record { ok = tt; within = tt; stops = branch_stops (length b) (read_term c.args.room) _ _ _ (branch_list c.loop-i.items.items) (drop c.loop-i.place b) _ c.loop-i.invariant.left (one_less c.args.count c.loop-i._i c.loop-i-test.true) c.in_err-branch.ensures.stops })

pub read_branches-loop-i-preserved : goal.read_branches-loop-i-preserved
read_branches-loop-i-preserved t c =
    let b = c.args.b.now in
    let sub = read_term c.args.room in
    let items = c.loop-i.items.items in
    let m = c.args.count - (c.loop-i._i + 1) in
    let more = branch_more sub m (c.args.count - c.loop-i._i) _ (branch_list items) (branch_of c.in_ok-branch.branch) (drop c.loop-i.place b) (drop c.read_branch.new.place b) c.loop-i.invariant.left (one_less c.args.count c.loop-i._i c.loop-i-test.true) c.in_ok-branch.ensures.ok in
    let now = ap branch_list c.in_ok-push.ensures.items ∙ branches_append items c.in_ok-branch.branch in
    record { within = c.in_ok-branch.ensures.within; left = more ∙ ap (λ k. with_parts k (read_branches sub m (drop c.read_branch.new.place b))) (sym now) }

pub read_branches-returns : goal.read_branches-returns
read_branches-returns t c =
    let b = c.args.b.now in
    let made = branch_list c.loop-i.items.items in
    let bytes = drop c.loop-i.place b in
    record {
      ok = c.loop-i.invariant.left ∙ (ap (λ n. with_parts made (read_branches (read_term c.args.room) n bytes)) (none_less c.args.count c.loop-i._i c.loop-i-test.false) ∙ ap (λ k. value k bytes) (join_nil made ∙ sym c.from_vec.ensures));
      within = c.loop-i.invariant.within;
      stops = tt;
    }

pub read_domains-returns-in_err-term-clause-value : goal.read_domains-returns-in_err-term-clause-value
read_domains-returns-in_err-term-clause-value t c =
    let p = err_from_is_err_and c.from_residual.result c.from_residual.ensures.1 in
    let b = c.args.b.now in
    rw (p.1, p.2) (record { ok = tt; within = tt; stops = domain_stops (length b) (read_term c.args.room) c.loop-i._i _ _ _ (term_list 0 c.loop-i.items.items) (drop c.loop-i.place b) _ c.loop-i.invariant.left (one_less c.args.count c.loop-i._i c.loop-i-test.true) c.in_err-term.ensures.stops })

pub read_domains-loop-i-preserved : goal.read_domains-loop-i-preserved
read_domains-loop-i-preserved t c =
    let b = c.args.b.now in
    let sub = read_term c.args.room in
    let items = c.loop-i.items.items in
    let i = c.loop-i._i in
    let m = c.args.count - (i + 1) in
    let more = domain_more sub i m (c.args.count - i) _ (term_list 0 items) (tree c.in_ok-term.term.value) (drop c.loop-i.place b) (drop c.read_term.new.place b) c.loop-i.invariant.left (one_less c.args.count i c.loop-i-test.true) c.in_ok-term.ensures.ok in
    let now = ap (term_list 0) c.in_ok-push.ensures.items ∙ terms_append i items c.in_ok-own.field-0 (tree c.in_ok-term.term.value) c.loop-i.invariant.count c.in_ok-own.ensures.ok in
    record {
      within = c.in_ok-term.ensures.within;
      count = ap length c.in_ok-push.ensures.items ∙ (length-append items (c.in_ok-own.field-0 ∷ []) ∙ ap (λ n. n + 1) c.loop-i.invariant.count);
      left = more ∙ ap (λ k. with_parts k (read_domains sub (i + 1) m (drop c.read_term.new.place b))) (sym now);
    }

pub read_domains-returns-clause-value : goal.read_domains-returns-clause-value
read_domains-returns-clause-value t c =
    let b = c.args.b.now in
    let made = term_list 0 c.loop-i.items.items in
    let bytes = drop c.loop-i.place b in
    record {
      ok = c.loop-i.invariant.left ∙ (ap (λ n. with_parts made (read_domains (read_term c.args.room) c.loop-i._i n bytes)) (none_less c.args.count c.loop-i._i c.loop-i-test.false) ∙ ap (λ k. value k bytes) (join_nil made ∙ sym c.from_vec.ensures));
      within = c.loop-i.invariant.within;
      stops = tt;
    }

pub read_domains-returns-clause-count : goal.read_domains-returns-clause-count
read_domains-returns-clause-count t c =
    let n = same_count c.from_vec.result c.loop-i.items.items c.from_vec.ensures in
    let k = c.loop-i.invariant.count in
    omega (arith, n, k)

pub read_functions-returns-in_err-one : goal.read_functions-returns-in_err-one
read_functions-returns-in_err-one t c =
    let p = err_from_is_err_and c.from_residual.result c.from_residual.ensures.1 in
    let b = c.args.b.now in
    rw (p.1, p.2) (record { ok = tt; within = tt; stops = function_stops (length b) (read_term c.args.room) c.args.count _ _ _ (functions_of c.args.count c.loop-i.items.items) (drop c.loop-i.place b) _ c.loop-i.invariant.left (one_less c.args.count c.loop-i._i c.loop-i-test.true) c.in_err-one.ensures.stops })

pub read_functions-loop-i-preserved : goal.read_functions-loop-i-preserved
read_functions-loop-i-preserved t c =
    let b = c.args.b.now in
    let sub = read_term c.args.room in
    let all = c.args.count in
    let items = c.loop-i.items.items in
    let i = c.loop-i._i in
    let m = all - (i + 1) in
    let more = function_more sub all m (all - i) _ (functions_of all items) (function_of all c.in_ok-one.one) (drop c.loop-i.place b) (drop c.read_function.new.place b) c.loop-i.invariant.left (one_less all i c.loop-i-test.true) c.in_ok-one.ensures.ok in
    let now = ap (functions_of all) c.in_ok-push.ensures.items ∙ functions_append all items c.in_ok-one.one in
    record {
      within = c.in_ok-one.ensures.within;
      count = ap length c.in_ok-push.ensures.items ∙ (length-append items (c.in_ok-one.one ∷ []) ∙ ap (λ n. n + 1) c.loop-i.invariant.count);
      left = more ∙ ap (λ k. with_functions k (read_functions sub all m (drop c.read_function.new.place b))) (sym now);
    }

pub read_functions-returns : goal.read_functions-returns
read_functions-returns t c =
    let b = c.args.b.now in
    let items = c.loop-i.items.items in
    let made = functions_of c.args.count items in
    let bytes = drop c.loop-i.place b in
    let k = c.loop-i.invariant.count in
    let n : length items ≡ c.args.count = omega (arith, k) in
    record {
      ok = c.loop-i.invariant.left ∙ (ap (λ n. with_functions made (read_functions (read_term c.args.room) c.args.count n bytes)) (none_less c.args.count c.loop-i._i c.loop-i-test.false)
          ∙ ap (λ f. value f bytes) (no_more made ∙ functions_made c.from_vec.result items c.args.count c.from_vec.ensures.parts c.from_vec.ensures.shapes n));
      within = c.loop-i.invariant.within;
      stops = tt;
    }
