use Rattle.am_simulation.specs.Answers.{answer_of}
use Rattle.am_simulation.proofs.Ends.{ends_pushed}
use Rattle.am_simulation.proofs.sending.ends_of.Goals as goal

pub loop-index-preserved : goal.loop-index-preserved
loop-index-preserved g c =
    let answer = answer_of g.O.Outages.cut g.O.Outages.outages g.O.Outages.receiver in
    ends_pushed answer g.O.Outages.cut c.args.start c.notices-notices.result.now c.loop-index.index c.index-notices-index.result c.loop-index.ends.items c.push.new.self.items c.end_of.result
    c.in_ok-push.ensures.items c.loop-index-test.true c.index-notices-index.is c.loop-index.invariant c.end_of.ensures
