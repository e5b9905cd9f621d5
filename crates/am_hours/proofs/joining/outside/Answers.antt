use Rattle.std.proofs.Common.{refl, arith}
use Rattle.am_alerts.specs.declared.spans.Span.{Span}
use Rattle.am_hours.proofs.Gaps.{outside-next}
use Rattle.am_hours.proofs.joining.outside.Goals as goal

pub loop-rest-preserved : goal.loop-rest-preserved
loop-rest-preserved c =
    let pushed = c.in_ok-push_span.ensures in
    let gap : Span = record { from = c.loop-rest.at; to = c.min-to.result } in
    record {
      outside = outside-next c.args.spans.now c.args.end c.loop-rest.gaps.items c.loop-rest.at c.loop-rest.rest.now
          (record { from = 0; to = 0 }) c.push_span.new.spans.items gap (omega arith) c.loop-rest.invariant.outside
          refl (omega arith) pushed.apart pushed.begins pushed.held;
      few = pushed.few;
      count = omega (arith, pushed.count, c.loop-rest.invariant.count);
    }
