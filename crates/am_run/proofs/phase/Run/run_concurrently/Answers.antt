use Rattle.std.proofs.Common.{◌≡◌, ◌∙◌, IfOk, List, ap, length, subst, sym, arith}
use Rattle.std.specs.List.{AllZip}
use Rattle.std.proofs.lemmas.List.{take_at}
use Rattle.am_desk.specs.Known.{Seen}
use Rattle.am_model.specs.Notice.{NoticeData}
use Rattle.am_pool.specs.declared.worker.Job.{Job}
use Rattle.am_run.specs.Interleaving.{RanConcurrently}
use Rattle.am_run.specs.Runs.{lanes_of}
use Rattle.am_run.specs.LaneStates.{MadeLanes, NoneRefused, passes_in}
use Rattle.am_run.specs.Stops.{LanesStop}
use Rattle.am_run.specs.declared.lane.LaneState.{LaneState}
use Rattle.am_pool.specs.Sendings.{IsSendingOf, IsSentFrom}
use Rattle.am_run.proofs.lemmas.lanes.Meetings.{between_meetings, ran_concurrent}
use Rattle.am_run.proofs.lemmas.lanes.Refused.{all_stop, lanes_made, none_kept}
use Rattle.am_run.proofs.lemmas.sending.Sendings.{sent_each}
use Rattle.am_run.proofs.phase.Run.run_concurrently.Goals as goal

pub returns-clause-lanes : goal.returns-clause-lanes
returns-clause-lanes g c none =
    let at = c.args.at in
    let xs = c.args.lanes.items in
    let was = c.args.self.now in
    let is = c.hear_couriers.new.self in
    let kept = c.hear_couriers.ensures.preserves in
    let heard = c.hear_joined.ensures.heard (kept.2 none) in
    let first = rw c.as_mut_slice-lane_states.ensures.value at c.meet_lanes.ensures.met in
    let made = lanes_made g.N.Name.terms at xs _ _ c.run_concurrently-sent.ensures.lanes heard.1 in
    let long : length c.hear_joined.new.lane_states ≡ was.lane_states.len =
    omega (arith, c.hear_joined.auto.lane_states, c.run_concurrently-sent.auto.lane_states, c.meet_lanes.auto.lane_states, ap length c.as_mut_slice-lane_states.ensures.value, was.lane_states.ok.0)
    in
    let items : is.lane_states.items ≡ c.hear_joined.new.lane_states = ap (λ v. v.items) kept.0 ∙ take_at c.hear_joined.new.lane_states _ _ long in (
      heard.0,
      subst (λ ss. MadeLanes at xs (lanes_of was) (passes_in ss)) (sym items) (between_meetings at xs _ _ _ _ _ _ _ first made c.hear_joined.ensures.met),
    )

pub returns-clause-concurrent : goal.returns-clause-concurrent
returns-clause-concurrent g c none =
    let at = c.args.at in
    let xs = c.args.lanes.items in
    let was = c.args.self.now in
    let is = c.hear_couriers.new.self in
    let kept = c.hear_couriers.ensures.preserves in
    let heard = c.hear_joined.ensures.heard (kept.2 none) in
    let first = rw c.as_mut_slice-lane_states.ensures.value at c.meet_lanes.ensures.met in
    let made = lanes_made g.N.Name.terms at xs _ _ c.run_concurrently-sent.ensures.lanes heard.1 in
    let long : length c.hear_joined.new.lane_states ≡ was.lane_states.len =
    omega (arith, c.hear_joined.auto.lane_states, c.run_concurrently-sent.auto.lane_states, c.meet_lanes.auto.lane_states, ap length c.as_mut_slice-lane_states.ensures.value, was.lane_states.ok.0)
    in
    let items : is.lane_states.items ≡ c.hear_joined.new.lane_states = ap (λ v. v.items) kept.0 ∙ take_at c.hear_joined.new.lane_states _ _ long in
    subst (λ ss. RanConcurrently was.main is.main (lanes_of was) (passes_in ss)) (sym items)
    (subst (λ (r : Seen). RanConcurrently was.main r (lanes_of was) (passes_in c.hear_joined.new.lane_states)) (sym c.hear_couriers.ensures.rests.0)
    (ran_concurrent at xs _ _ _ _ _ _ _ first made c.hear_joined.ensures.met))

pub returns-clause-sent : goal.returns-clause-sent
returns-clause-sent g c none =
    let answers = g.C.Answering.answers in
    let jobs : List Job = c.in-Ok.jobs.items in
    let reports = c.hear_couriers.result.items in
    let reported : AllZip (IsSendingOf answers) c.as_slice.result.now reports =
    subst (λ r. IfOk r (λ rs. AllZip (IsSendingOf answers) c.as_slice.result.now rs.items)) (c.hear_couriers.ensures.heard none) c.run_concurrently-sent.ensures.reports
    in
    let are : AllZip (IsSendingOf answers) jobs reports = subst (λ (js : List Job). AllZip (IsSendingOf answers) js reports) c.as_slice.ensures.value reported in
    let fed = c.hear_couriers.ensures.fed none in
    subst (λ (ns : List NoticeData). AllZip (IsSentFrom answers c.args.at) ns reports) c.in-Ok.ensures.notices
    (sent_each answers c.args.at jobs reports c.in-Ok.ensures.starts fed are)

pub returns-clause-well : goal.returns-clause-well
returns-clause-well g c none =
    let was = c.args.self.now in
    let is = c.hear_couriers.new.self in
    let kept = c.hear_couriers.ensures.preserves in
    let heard = c.hear_joined.ensures.heard (kept.2 none) in
    let long : length c.hear_joined.new.lane_states ≡ was.lane_states.len =
    omega (arith, c.hear_joined.auto.lane_states, c.run_concurrently-sent.auto.lane_states, c.meet_lanes.auto.lane_states, ap length c.as_mut_slice-lane_states.ensures.value, was.lane_states.ok.0)
    in
    let items : is.lane_states.items ≡ c.hear_joined.new.lane_states = ap (λ v. v.items) kept.0 ∙ take_at c.hear_joined.new.lane_states _ _ long in
    subst (λ (ss : List (LaneState g.row.N.Denot)). NoneRefused ss) (sym items) (none_kept c.run_concurrently-sent.new.lane_states c.hear_joined.new.lane_states c.hear_joined.ensures.refused heard.1)

pub returns-clause-full : goal.returns-clause-full
returns-clause-full g c well full =
    let t = g.N.Name.terms in
    let at = c.args.at in
    let xs = c.args.lanes.items in
    let was = c.args.self.now in
    let is = c.hear_couriers.new.self in
    let kept = c.hear_couriers.ensures.preserves in
    let ss : List (LaneState g.row.N.Denot) = c.meet_lanes.new.lane_states in
    let us : List (LaneState g.row.N.Denot) = c.run_concurrently-sent.new.lane_states in
    let any = c.hear_joined.ensures.full well.0 (c.hear_couriers.ensures.full full) in
    let first = rw c.as_mut_slice-lane_states.ensures.value at c.meet_lanes.ensures.met in
    let same = rw c.as_mut_slice-lane_states.ensures.value at c.meet_lanes.ensures.refused in
    let none = none_kept was.lane_states.items ss same well.1 in
    let long : length c.hear_joined.new.lane_states ≡ was.lane_states.len =
    omega (arith, c.hear_joined.auto.lane_states, c.run_concurrently-sent.auto.lane_states, c.meet_lanes.auto.lane_states, ap length c.as_mut_slice-lane_states.ensures.value, was.lane_states.ok.0)
    in
    let items : is.lane_states.items ≡ c.hear_joined.new.lane_states = ap (λ v. v.items) kept.0 ∙ take_at c.hear_joined.new.lane_states _ _ long in
    subst (λ ls. LanesStop t at xs was.main is.main (lanes_of was) (passes_in ls)) (sym items)
    (subst (λ (r : Seen). LanesStop t at xs was.main r (lanes_of was) (passes_in c.hear_joined.new.lane_states)) (sym c.hear_couriers.ensures.rests.0)
    (all_stop t at xs _ _ _ _ ss us _ none first c.run_concurrently-sent.ensures.lanes c.hear_joined.ensures.met any))
