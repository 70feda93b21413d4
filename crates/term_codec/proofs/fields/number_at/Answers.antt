use Rattle.std.proofs.Common.{ap, sym, ◌∙◌, drop, ◌+◌, arith}
use Rattle.term_format.specs.Reading.{value}
use Rattle.term_codec.proofs.Places.{cut_short, few_left, four_there}
use Rattle.term_codec.proofs.fields.number_at.Goals as goal

pub returns-then-b-at-lt4 : goal.returns-then-b-at-lt4
returns-then-b-at-lt4 c = record { ok = tt; within = tt; stops = cut_short _ _ (few_left c.args.b.now c.args.place.now (omega arith)) }

pub returns : goal.returns
returns c = record {
  ok = four_there c.args.b.now c.args.place.now (omega arith) ∙ ap (λ n. value n (drop (c.args.place.now + 4) c.args.b.now)) (sym c.from_be_bytes.ensures);
  within = omega arith;
  stops = tt;
}
