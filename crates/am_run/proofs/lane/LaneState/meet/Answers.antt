use Rattle.am_run.proofs.lemmas.lanes.Meetings.{passes_met}
use Rattle.am_run.proofs.lane.LaneState.meet.Goals as goal

pub returns-clause-met : goal.returns-clause-met
returns-clause-met g c = passes_met _ _ _ _ _ c.meet.ensures.p c.meet.ensures.q
