use Rattle.std.proofs.Common.{◌≡◌, ◌+◌, ◌-◌, ap, sym, ◌∙◌, drop, take, arith}
use Rattle.term_format.specs.Reading.{value, read_byte}
use Rattle.term_codec.proofs.Places.{cut_short, name_cut, name_made}
use Rattle.term_codec.proofs.fields.read_name.Goals as goal

pub returns-then-b-start : goal.returns-then-b-start
returns-then-b-start c =
    let e : read_byte (drop c.args.place.now c.args.b.now) ≡ value c.from-count.result (drop c.byte_at.new.place c.args.b.now) = c.in_ok-byte_at.ensures.ok ∙ ap (λ n. value n (drop c.byte_at.new.place c.args.b.now)) (sym c.from-count.ensures) in
    record { ok = tt; within = tt; stops = cut_short _ _ (name_cut c.args.b.now c.args.place.now c.byte_at.new.place c.from-count.result e (omega arith)) }

pub returns : goal.returns
returns c =
    let e : read_byte (drop c.args.place.now c.args.b.now) ≡ value c.from-count.result (drop c.byte_at.new.place c.args.b.now) = c.in_ok-byte_at.ensures.ok ∙ ap (λ n. value n (drop c.byte_at.new.place c.args.b.now)) (sym c.from-count.ensures) in
    let n : (c.byte_at.new.place + c.from-count.result) - c.byte_at.new.place ≡ c.from-count.result = omega arith in
    name_made c.args.b.now c.args.place.now c.byte_at.new.place c.from-count.result _ c.name_of.result c.requires c.in_ok-byte_at.ensures.within e (omega arith)
    (ap (λ k. take k (drop c.byte_at.new.place c.args.b.now)) n) c.name_of.ensures.value c.name_of.ensures.identifier c.name_of.ensures.wrong
