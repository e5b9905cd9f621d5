use Rattle.std.proofs.Common.{◌∙◌, ◌-◌, ◌<◌, ◌≤◌, List, ap, sym, subst, drop, get_or, length, reverse, arith}
use Rattle.am_simulation.specs.DispatcherChange.{set_again}
use Rattle.am_simulation.specs.Seen.{SeesAll, is_seen}
use Rattle.am_simulation.proofs.SetAgain.{added_more, from_here, sees_more}
use Rattle.am_simulation.proofs.dispatcher_change.last_first.Goals as goal
use Rattle.am_terms.specs.declared.rehearsal.TimedAction.{TimedAction}

pub loop-index-preserved : goal.loop-index-preserved
loop-index-preserved c =
    let done = c.args.done.now in
    let carryover = c.args.carryover in
    let at = c.args.at in
    let index = c.loop-index.index in
    let p = get_or done (index - 1) c.index-done-index.result in
    let later = drop index done in
    let some : 0 < index = omega (arith, c.loop-index-test.true) in
    let within : index ≤ length done = omega (arith, c.loop-index.auto.index) in
    let one = from_here done index p some within (ap (get_or done (index - 1)) c.index-done-index.is) in
    record {
      sees = subst (λ (l : List TimedAction). SeesAll l c.add_if_kept.new.later) (sym one)
          (sees_more p later c.loop-index.later c.add_if_kept.new.later c.loop-index.invariant.sees c.in_ok-add_if_kept.ensures.seen);
      added = added_more carryover at p later c.loop-index.again.items (is_seen c.loop-index.later p.act) c.add_if_kept.new.again.items (c.loop-index.invariant.sees p.act)
          c.loop-index.invariant.added c.in_ok-add_if_kept.ensures.added
          ∙ ap (λ (l : List TimedAction). reverse (set_again carryover at l)) (sym one);
    }
