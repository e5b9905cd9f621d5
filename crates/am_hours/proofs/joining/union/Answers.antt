use Rattle.std.proofs.Common.{arith}
use Rattle.am_hours.proofs.Merges.{merge-step, next-count}
use Rattle.am_hours.proofs.joining.union.Goals as goal

pub loop-next-preserved : goal.loop-next-preserved
loop-next-preserved c =
    let pushed = c.in_ok-push_span.ensures in
    let next = c.in-Some.next in
    record {
      merged = merge-step c.args.first.now c.args.second.now c.loop-next.joined.items c.loop-next.one.now c.loop-next.other.now
          next.span next.first.now next.second.now c.push_span.new.spans.items
          c.loop-next.invariant.merged c.in-Some.ensures.some pushed.apart pushed.begins pushed.held;
      few = pushed.few;
      count =
          let left = next-count c.loop-next.one.now c.loop-next.other.now next.span next.first.now next.second.now c.in-Some.ensures.some in
          omega (arith, left, pushed.count, c.loop-next.invariant.count);
    }
