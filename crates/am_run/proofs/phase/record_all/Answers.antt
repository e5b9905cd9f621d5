use Rattle.std.proofs.Common.{◌∙◌, IsTrue, length-set, sym, ap, arith, rules}
use Rattle.am_run.specs.Steps.{recorded_all}
use Rattle.am_run.proofs.Written.{one_written}
use Rattle.am_run.proofs.phase.record_all.Goals as goal

pub loop-own-preserved : goal.loop-own-preserved
loop-own-preserved g c =
    let i = c.loop-own.invariant in
    let recorded : IsTrue c.record_on.result = search rules in
    record {
      count = length-set c.loop-own.own-items c.loop-own.own-index c.record_on.new.own ∙ i.count;
      recorded =
          one_written (recorded_all c.args.reports.now) c.deref_mut-own-items.result.now c.loop-own.own-items c.loop-own.own-index c.own-item.result c.record_on.new.own
          (omega (arith, i.count, c.loop-own-test.true)) i.recorded c.own-item.is (c.record_on.ensures recorded ∙ ap (recorded_all c.args.reports.now) (sym c.own-item.is));
    }
