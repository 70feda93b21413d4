use Rattle.std.proofs.Common.{List, map, ap, subst}
use Rattle.std.proofs.lemmas.Result.{err_from_is_err_and}
use Rattle.section_uses.specs.Kept.{list_of}
use Rattle.section_core.specs.Sections.{Entry}
use Rattle.section_core.specs.Answers.{declarations_of, AllFit}
use Rattle.section_core.specs.calls.Stored.{kept_entry}
use Rattle.section_core.proofs.Layered.{first_layer, first_layer_is}
use Rattle.section_core.proofs.Discharged.{kept_none, declares_next, kept_more, not_made_at, kept_all}
use Rattle.section_core.proofs.discharging.discharge.Goals as goal

pub loop-entry-init : goal.loop-entry-init
loop-entry-init c = record {
  layer = first_layer_is c.new-arguments.result c.enter.new.self c.new-arguments.ensures.layers c.in_ok-enter.ensures;
  so_far = kept_none c.args.entries.now _ (list_of c.enter.new.self) c.requires (ap (map kept_entry) c.new-all.ensures.items)
      (first_layer c.new-arguments.result c.enter.new.self c.new-arguments.ensures.layers c.in_ok-enter.ensures);
}

pub loop-entry-preserved : goal.loop-entry-preserved
loop-entry-preserved c =
    let h = c.in_ok-discharge_entry.ensures in
    record {
      layer = h.layer;
      so_far = kept_more c.args.entries.now c.loop-entry.entry-index c.entry-item.result c.loop-entry-test.true c.entry-item.is
          (map kept_entry c.loop-entry.all.items) (list_of c.loop-entry.arguments) c.loop-entry.invariant.so_far _ _ h.applied h.kept h.fits;
    }

pub discharge_entry-requires-clause-declares : goal.discharge_entry-requires-clause-declares
discharge_entry-requires-clause-declares c =
    declares_next c.args.entries.now c.loop-entry.entry-index c.entry-item.result c.loop-entry-test.true c.entry-item.is
    (map kept_entry c.loop-entry.all.items) (list_of c.loop-entry.arguments) c.loop-entry.invariant.so_far

pub returns-in_err-discharge_entry : goal.returns-in_err-discharge_entry
returns-in_err-discharge_entry c =
    let p = err_from_is_err_and c.from_residual-in_err-discharge_entry.result c.from_residual-in_err-discharge_entry.ensures.1 in
    rw (p.1, p.2) (record {
      ok = tt;
      fits = tt;
      err = not_made_at c.args.entries.now c.loop-entry.entry-index c.entry-item.result c.loop-entry-test.true c.entry-item.is
          (map kept_entry c.loop-entry.all.items) (list_of c.loop-entry.arguments) c.loop-entry.invariant.so_far _ c.in_err-discharge_entry.ensures.err;
    })

pub returns : goal.returns
returns c =
    let whole = kept_all c.args.entries.now c.loop-entry.entry-index (map kept_entry c.loop-entry.all.items) (list_of c.loop-entry.arguments) c.loop-entry-test.false c.loop-entry.invariant.so_far in
    record { ok = whole; fits = subst (λ (es : List Entry). AllFit (declarations_of es)) whole c.loop-entry.invariant.so_far.fit; err = tt }
