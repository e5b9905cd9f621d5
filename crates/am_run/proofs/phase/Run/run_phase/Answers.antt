use Rattle.std.proofs.Common.{◌≡◌, ◌∙◌, ⊎_elim, List, [], ◌++◌, IsOk, true, false, sym, ap, subst}
use mathlib.Core.List.{IsPrefix}
use Rattle.std.proofs.lemmas.Result.{IfErr-weaker}
use Rattle.am_model.specs.Ticket.{TicketData}
use Rattle.am_model.specs.declared.notice.Report.{Report}
use Rattle.am_desk.specs.Known.{Seen}
use Rattle.am_run.specs.Interleaving.{RanBefore, RunsPhase}
use Rattle.am_run.specs.Runs.{IsWell, lanes_of}
use Rattle.am_run.specs.LaneStates.{NoneRefused, passes_in}
use Rattle.am_run.specs.Stops.{BeginsUntilFull, LanesStopBefore}
use Rattle.am_run.specs.Steps.{Begins, Finishes, Sends}
use Rattle.am_run.specs.PhaseFaults.{EndsAsFull, HasNoFault}
use Rattle.am_run.proofs.lemmas.phases.Steps.{begins_requested, begins_none, same_records}
use Rattle.am_run.proofs.lemmas.phases.Stops.{fault_or_none, stops_at_begin, stops_at_call}
use Rattle.am_run.proofs.lemmas.phases.Turns.{if_ok, part_taken}
use Rattle.am_run.proofs.phase.Run.run_phase.Goals as goal
use Rattle.am_run.proofs.phase.Run.run_phase.Goals.{then-flush, else-flush}

pub returns-clause-turn : goal.returns-clause-turn
returns-clause-turn g c =
    let answers = g.C.Answering.answers in
    let phase = c.args.phase in
    let was = c.args.self.now in
    let p : Seen = was.main in
    let q : Seen = c.if-flush.self.main in
    let r : Seen = c.send_all-reports.new.self.main in
    let s : Seen = c.finish_all.new.self.main in
    let ts : List TicketData = c.if-flush.tickets.items in
    let us : List TicketData = c.send_all-reports.new.tickets.items in
    let reports : List Report = c.send_all-reports.result.items in
    let since : List Report = c.keep.new.self.reports.items in
    let t = g.N.Name.terms in
    let begins : HasNoFault c.if-flush.self.faults → Begins t phase.flush false phase.at p q [] ts =
    elim c.if-flush.branch [
      | then-flush w ↦ λ none.
          begins_requested t phase.flush phase.at p q c.new-tickets.result.items [] ts c.new-tickets.ensures.items w.if-flush.true
          (subst (λ (xs : List TicketData). Begins t true false phase.at p q c.new-tickets.result.items xs) (sym (ap (λ v. v.items) w.tickets-is))
          (subst (λ x. Begins t true false phase.at p x.main c.new-tickets.result.items w.begin_all.new.tickets.items) (sym w.self-is)
          (w.begin_all.ensures.begins (subst (λ x. HasNoFault x.faults) w.self-is none))))
      | else-flush w ↦ λ none.
          begins_none t phase.flush phase.at p q [] ts w.if-flush.false (ap (λ v. v.items) w.tickets-is ∙ c.new-tickets.ensures.items) (same_records p q (ap (λ x. x.main) w.self-is))
    ]
    in
    let kept : c.if-flush.self.reports ≡ was.reports =
    elim c.if-flush.branch [
      | then-flush w ↦ ap (λ x. x.reports) w.self-is ∙ w.begin_all.ensures.preserves.1
      | else-flush w ↦ ap (λ x. x.reports) w.self-is
    ]
    in
    let lane_states : c.if-flush.self.lane_states ≡ was.lane_states =
    elim c.if-flush.branch [
      | then-flush w ↦ ap (λ x. x.lane_states) w.self-is ∙ w.begin_all.ensures.preserves.0
      | else-flush w ↦ ap (λ x. x.lane_states) w.self-is
    ]
    in
    let ls : List Seen = lanes_of was in
    let ms : List Seen = lanes_of c.keep.new.self in
    if_ok c.verdict.result (RunsPhase answers t phase p c.keep.new.self.main ls ms was.reports.items since)
    (λ (ok : IsOk c.verdict.result).
    let more = c.keep.ensures.more (c.verdict.ensures.none.0 ok) in
    let finish = c.finish_all.ensures in
    let sends : Sends answers t phase.at reports ts us q r = c.send_all-reports.ensures.sent (finish.preserves.2 more.0) in
    let begun = begins (c.send_all-reports.ensures.lanes (finish.preserves.2 more.0)).0 in
    let finishes : Finishes phase.at reports us r s = subst (λ (rs : List Report). Finishes phase.at rs us r s) c.as_slice.ensures.value (finish.finished more.0) in
    let same : c.finish_all.new.self.reports.items ≡ was.reports.items = ap (λ v. v.items) (finish.preserves.1 ∙ (c.send_all-reports.ensures.reports ∙ kept)) in
    let now : since ≡ was.reports.items ++ reports = more.1 ∙ (ap (λ (rs : List Report). rs ++ c.as_slice-2.result.now) same ∙ ap (λ (rs : List Report). was.reports.items ++ rs) c.as_slice-2.ensures.value) in
    let stay : c.keep.new.self.lane_states ≡ c.send_all-reports.new.self.lane_states = c.keep.ensures.lane_states ∙ finish.preserves.0 in
    let first : RanBefore q r ls ms =
    subst (λ v. RanBefore q r ls (passes_in v.items)) (sym stay)
    (subst (λ v. RanBefore q r (passes_in v.items) (lanes_of c.send_all-reports.new.self)) lane_states (c.send_all-reports.ensures.concurrent (finish.preserves.2 more.0)))
    in
    subst (λ (x : Seen). RunsPhase answers t phase p x ls ms was.reports.items since) (sym c.keep.ensures.main)
    (part_taken answers t phase p q r s ls ms ts us was.reports.items reports since begun sends finishes now first))

pub returns-clause-well : goal.returns-clause-well
returns-clause-well g c =
    if_ok c.verdict.result (IsWell c.keep.new.self)
    (λ (ok : IsOk c.verdict.result).
    let none = c.verdict.ensures.none.0 ok in
    let finish = c.finish_all.ensures in
    let stay : c.keep.new.self.lane_states ≡ c.send_all-reports.new.self.lane_states = c.keep.ensures.lane_states ∙ finish.preserves.0 in
    (none, subst (λ v. NoneRefused v.items) (sym stay) (c.send_all-reports.ensures.well (finish.preserves.2 (c.keep.ensures.more none).0))))

pub returns-clause-full : goal.returns-clause-full
returns-clause-full g c =
    let phase = c.args.phase in
    let was = c.args.self.now in
    let mid = c.if-flush.self in
    let sent = c.send_all-reports.new.self in
    let is = c.keep.new.self in
    let p : Seen = was.main in
    let q : Seen = mid.main in
    let r : Seen = sent.main in
    let ts : List TicketData = c.if-flush.tickets.items in
    let t = g.N.Name.terms in
    let ls : List Seen = lanes_of was in
    let ms : List Seen = lanes_of is in
    let begins : HasNoFault mid.faults → Begins t phase.flush false phase.at p q [] ts =
    elim c.if-flush.branch [
      | then-flush w ↦ λ none.
          begins_requested t phase.flush phase.at p q c.new-tickets.result.items [] ts c.new-tickets.ensures.items w.if-flush.true
          (subst (λ (xs : List TicketData). Begins t true false phase.at p q c.new-tickets.result.items xs) (sym (ap (λ v. v.items) w.tickets-is))
          (subst (λ x. Begins t true false phase.at p x.main c.new-tickets.result.items w.begin_all.new.tickets.items) (sym w.self-is)
          (w.begin_all.ensures.begins (subst (λ x. HasNoFault x.faults) w.self-is none))))
      | else-flush w ↦ λ none.
          begins_none t phase.flush phase.at p q [] ts w.if-flush.false (ap (λ v. v.items) w.tickets-is ∙ c.new-tickets.ensures.items) (same_records p q (ap (λ x. x.main) w.self-is))
    ]
    in
    let until : HasNoFault was.faults → EndsAsFull mid.faults → (phase.flush ≡ true) × BeginsUntilFull t phase.at p q =
    elim c.if-flush.branch [
      | then-flush w ↦ λ none full. (
        w.if-flush.true,
        subst (λ x. BeginsUntilFull t phase.at p x.main) (sym w.self-is) (w.begin_all.ensures.full none (subst (λ x. EndsAsFull x.faults) w.self-is full)),
      )
      | else-flush w ↦ λ none full. absurd ((subst (λ x. EndsAsFull x.faults) w.self-is full).1 none.1)
    ]
    in
    let lane_states : mid.lane_states ≡ was.lane_states =
    elim c.if-flush.branch [
      | then-flush w ↦ ap (λ x. x.lane_states) w.self-is ∙ w.begin_all.ensures.preserves.0
      | else-flush w ↦ ap (λ x. x.lane_states) w.self-is
    ]
    in
    let finish = c.finish_all.ensures in
    let stay : is.lane_states ≡ sent.lane_states = c.keep.ensures.lane_states ∙ finish.preserves.0 in
    let goes : IsPrefix r.log is.main.log = subst (λ (x : Seen). IsPrefix r.log x.log) (sym c.keep.ensures.main) finish.continues.0 in
    IfErr-weaker c.verdict.result _ _
    (λ fault ends refusal well.
    let full : EndsAsFull sent.faults = finish.continues.1 (c.keep.ensures.full (ends refusal)) in
    ⊎_elim
    (λ (none : HasNoFault mid.faults).
    let stop : LanesStopBefore t phase.at phase.lanes.items q r (lanes_of mid) (lanes_of sent) =
    c.send_all-reports.ensures.full (none, subst (λ v. NoneRefused v.items) (sym lane_states) well.1) full
    in
    let there : LanesStopBefore t phase.at phase.lanes.items q r ls ms =
    subst (λ v. LanesStopBefore t phase.at phase.lanes.items q r ls (passes_in v.items)) (sym stay)
    (subst (λ v. LanesStopBefore t phase.at phase.lanes.items q r (passes_in v.items) (lanes_of sent)) lane_states stop)
    in
    stops_at_call t phase p q r is.main ls ms [] ts (begins none) there goes)
    (λ (some : ¬ (HasNoFault mid.faults)).
    let same : sent ≡ mid = c.send_all-reports.ensures.idle some in
    let u = until well.0 (subst (λ x. EndsAsFull x.faults) same full) in
    stops_at_begin t phase p q is.main ls ms u.0 u.1 (subst (λ x. IsPrefix x.main.log is.main.log) same goes)
    (ap (λ v. passes_in v.items) (stay ∙ (ap (λ x. x.lane_states) same ∙ lane_states))))
    (fault_or_none mid.faults))
    c.verdict.ensures.full
