use Rattle.std.proofs.Common.{◌∙◌, List, arith, subst, sym}
use Rattle.am_desk.specs.Known.{Seen}
use Rattle.am_run.specs.declared.lane.LaneState.{LaneState}
use Rattle.am_run.specs.LaneStates.{NoneRefused}
use Rattle.am_run.proofs.lemmas.lanes.Lanes.{seat_more}
use Rattle.am_run.proofs.lemmas.lanes.Refused.{none_more}
use Rattle.am_run.proofs.lane.lane_states_for.Goals as goal

pub loop-alloc-preserved : goal.loop-alloc-preserved
loop-alloc-preserved g c =
    let i = c.loop-alloc.invariant in
    record {
      passes = rw (c.push_reserved.ensures.items, c.remove.ensures.items)
          (seat_more {S = LaneState g.row.N.Denot} {P = Seen} (λ s. s.pass) c.loop-alloc.lane_states.items c.new.result c.loop-alloc.passes.items c.remove.result
          (omega (arith, c.remove.ensures.len, c.loop-alloc.passes.ok.0)) c.remove.ensures.value c.new.ensures.pass ∙ i.passes);
      count = omega arith;
      well = subst (λ (xs : List (LaneState g.row.N.Denot)). NoneRefused xs) (sym c.push_reserved.ensures.items)
          (none_more c.loop-alloc.lane_states.items c.new.result i.well c.new.ensures.refused);
      space = omega arith;
    }
