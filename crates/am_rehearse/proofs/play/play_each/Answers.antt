use Rattle.std.proofs.Common.{arith}
use Rattle.am_rehearse.proofs.Tallies.{all_done, all_unmet, none_yet, one_more}
use Rattle.am_rehearse.proofs.play.play_each.Goals as goal

pub loop-path-init : goal.loop-path-init
loop-path-init g c = none_yet _ _ _ _ _ c.none-tally.ensures

pub loop-path-preserved : goal.loop-path-preserved
loop-path-preserved g c =
    one_more _ _ _ _ _ _ _ _ _ _ _ c.loop-path.invariant c.in_ok-say_name.ensures.named c.in_ok-play_one.ensures.only c.in_ok-play_one.ensures.done
    c.in_ok-play_one.ensures.unmet c.add.ensures

pub returns-clause-done : goal.returns-clause-done
returns-clause-done g c = all_done _ _ _ _ _ _ _ _ _ c.loop-path.invariant (omega arith) c.status.ensures

pub returns-clause-unmet : goal.returns-clause-unmet
returns-clause-unmet g c = all_unmet _ _ _ _ _ _ _ _ _ c.loop-path.invariant (omega arith) c.status.ensures
