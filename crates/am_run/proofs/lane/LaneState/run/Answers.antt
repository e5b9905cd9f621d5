use Rattle.std.proofs.Common.{◌≡◌, refl, length}
use Rattle.std.proofs.lemmas.Iterator.Adapters.{YieldsList-from_vec}
use Rattle.std.proofs.lemmas.Iterator.Consumers.{YieldsList-from_enumerate, YieldsList-turn}
use Rattle.am_run.proofs.lemmas.lanes.Lanes.{numbered}
use Rattle.am_run.proofs.lemmas.lanes.Refused.{ran_until}
use Rattle.am_run.proofs.lane.LaneState.run.Goals as goal

pub returns-in-Err : goal.returns-in-Err
returns-in-Err g c =
    let i = c.loop-position.invariant in
    let calls = c.args.self.now.calls.items in
    let all = c.into_iter-position-iterator.result in
    let gives = c.into_iter-position-iterator.ensures.into_iter_gives in
    let from = c.enumerate-position-items.ensures.source in
    let taken = c.replace-calls.ensures.value in
    let items : all.iter.rest.items ≡ calls = cc (gives, from, c.into_iter.ensures.rest, taken) in
    let len : all.iter.rest.len ≡ length calls = cc (gives, from, c.into_iter.ensures.len, taken, c.args.self.now.calls.ok.0) in
    let count : all.count ≡ 0 = cc (gives, c.enumerate-position-items.ensures.count) in
    let so_far = c.loop-position.yielded in
    let turn = YieldsList-turn (YieldsList-from_enumerate {s = all} (YieldsList-from_vec {s = all.iter} calls items len) count) so_far c.loop-position.position-iterator c.loop-position.yielded_by c.next.result c.next.new.self (c.in-Some.position, c.in-Some.call) c.in-Some.is c.next.ensures.steps in
    let at = numbered calls (length so_far) c.in-Some.position c.in-Some.call turn.0 turn.1 in
    let made = c.in-Err.ensures in
    ran_until g.N.Name.terms c.args.at calls (length so_far) c.in-Some.call c.args.self.now.pass c.loop-position.self.pass _ c.in-Some.position c.in-Err.fault at.0 at.2
    i.made i.begins made.unmade made.begins refl made.refused
