use Rattle.std.proofs.Common.{◌≡◌, ◌∙◌, ◌+◌, ◌<◌, ◌∷◌, ◌++◌, [], length, arith}
use Rattle.std.proofs.Math.Seq.{map-set_same}
use Rattle.std.proofs.lemmas.List.{length-set, length_push}
use Rattle.std.proofs.lemmas.Iterator.Adapters.{YieldsList-from_vec}
use Rattle.std.proofs.lemmas.Iterator.Consumers.{YieldsList-from_enumerate, YieldsList-turn}
use Rattle.am_run.specs.declared.lane.LaneState.{LaneState}
use Rattle.am_scenario.specs.declared.scenario.Lane.{Lane}
use Rattle.am_run.proofs.lemmas.lanes.Lanes.{lane_more, numbered}
use Rattle.am_run.proofs.lane.take_lane_states.Goals as goal

pub loop-number-preserved : goal.loop-number-preserved
loop-number-preserved g c =
    let i = c.loop-number.invariant in
    let ss = c.loop-number.lane_states in
    let ls = c.args.lanes.items in
    let all = c.into_iter-number-iterator.result in
    let gives = c.into_iter-number-iterator.ensures.into_iter_gives in
    let items : all.iter.rest.items ≡ ls = cc (gives, c.enumerate-number-items.ensures.source, c.into_iter.ensures.rest) in
    let len : all.iter.rest.len ≡ length ls = cc c.into_iter.ensures.len in
    let count : all.count ≡ 0 = cc (gives, c.enumerate-number-items.ensures.count) in
    let n = length c.loop-number.yielded in
    let turn = YieldsList-turn (YieldsList-from_enumerate {s = all} (YieldsList-from_vec {s = all.iter} ls items len) count) c.loop-number.yielded c.loop-number.number-iterator c.loop-number.yielded_by c.next.result c.next.new.self (c.in-Some.number, c.in-Some.lane) c.in-Some.is c.next.ensures.steps in
    let at = numbered ls n c.in-Some.number c.in-Some.lane turn.0 turn.1 in
    let here : n < length ss = omega (arith, at.0, i.count, c.args.lanes.ok.0, c.requires) in
    let more = lane_more {S = LaneState g.row.N.Denot} {L = Lane} (λ s. s.calls) (λ p. p.calls) ss c.take.new.self ls c.in-Some.lane n here at.0 at.2 c.take.ensures.calls i.calls in
    let longer : length (c.loop-number.yielded ++ (c.in-Some.number, c.in-Some.lane) ∷ []) ≡ n + 1 = length_push c.loop-number.yielded (c.in-Some.number, c.in-Some.lane) in
    record {
      count = length-set ss c.in-Some.number c.take.new.self ∙ i.count;
      passes = map-set_same (λ (s : LaneState g.row.N.Denot). s.pass) ss c.in-Some.number c.take.new.self c.index-lane_states-number.result c.take.ensures.pass ∙ i.passes;
      calls = rw (longer, at.1) more;
    }
