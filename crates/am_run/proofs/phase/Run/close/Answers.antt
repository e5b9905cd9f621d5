use Rattle.std.proofs.Common.{List, All, subst, arith}
use Rattle.std.proofs.lemmas.List.{length-map}
use Rattle.am_desk.specs.Desks.{IsPrefixViewOf}
use Rattle.am_desk.specs.Known.{Seen}
use Rattle.am_run.specs.Runs.{lanes_of}
use Rattle.am_run.specs.declared.lane.LaneState.{LaneState}
use Rattle.am_run.proofs.lemmas.lanes.LaneStates.{all_last, all_middle}
use Rattle.am_run.proofs.phase.Run.close.Goals as goal

pub returns-clause-main : goal.returns-clause-main
returns-clause-main g c =
    let run = c.args.self in
    let prefixed = λ (p : Seen). IsPrefixViewOf p c.in_ok-close.field-0.history in
    all_middle prefixed run.passes.items run.main (lanes_of run) (subst (λ (ps : List Seen). All prefixed ps) c.in_ok-put_back.ensures.passes c.in_ok-close.ensures.prefixed)

pub returns-clause-lanes : goal.returns-clause-lanes
returns-clause-lanes g c =
    let run = c.args.self in
    let prefixed = λ (p : Seen). IsPrefixViewOf p c.in_ok-close.field-0.history in
    all_last prefixed run.passes.items run.main (lanes_of run) (subst (λ (ps : List Seen). All prefixed ps) c.in_ok-put_back.ensures.passes c.in_ok-close.ensures.prefixed)

pub returns-clause-others : goal.returns-clause-others
returns-clause-others g c k more =
    let run = c.args.self in
    c.in_ok-close.ensures.others k
    (omega (arith, more, run.seated, run.lane_states.ok.0, length-map run.lane_states.items (λ (s : LaneState g.row.N.Denot). s.pass)))
