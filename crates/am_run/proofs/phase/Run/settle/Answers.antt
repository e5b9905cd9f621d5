use Rattle.std.proofs.Common.{◌≡◌, ◌∙◌, ◌+◌, ◌<◌, ◌||◌, Some, length, get_or, slice_get, take, refl, sym, ap, subst, arith}
use mathlib.Core.List.{IsPrefix}
use Rattle.am_desk.proofs.Prefixes.{prefix_trans}
use Rattle.std.specs.Option.{option_and_then}
use Rattle.std.proofs.lemmas.Option.{slice_get_read}
use Rattle.am_model.specs.Finish.{is_delivered}
use Rattle.am_model.specs.Notice.{NoticeData, is_nothing}
use Rattle.am_model.specs.Ticket.{TicketData, outcome_of}
use Rattle.am_desk.specs.Known.{Seen}
use Rattle.am_pool.specs.Sendings.{end_on}
use Rattle.am_run.specs.Steps.{Notes, is_recorded_success, notes_of}
use Rattle.am_run.specs.PhaseFaults.{EndsAsFull, HasNoFault}
use Rattle.am_run.specs.Turns.{report_on}
use Rattle.am_run.proofs.lemmas.phases.Noting.{noted_next, passed_next}
use Rattle.am_run.proofs.phase.Run.settle.Goals as goal
use Rattle.am_run.proofs.phase.Run.settle.Goals.{then-succeeded, else-succeeded}

pub loop-index-preserved : goal.loop-index-preserved
loop-index-preserved g c =
    let i = c.loop-index.invariant in
    let top = g.N.Name.terms in
    let at = c.args.at in
    let reports = c.args.reports.now in
    let t : TicketData = c.args.own.now in
    let n : NoticeData = c.notice-item.result in
    let index = c.loop-index.index in
    let due = notes_of at reports t (take (index + 1) t.notices) in
    let p : Seen = c.args.self.now.main in
    let q : Seen = c.loop-index.self.main in
    let ticket = c.ticket-ticket.ensures.ticket in
    let notices = c.notices-notice-items.ensures.notices ∙ ap (λ (x : TicketData). x.notices) ticket in
    let here : n ≡ get_or t.notices index n = c.notice-item.is ∙ ap (λ xs. get_or xs index n) notices in
    let within : index < length t.notices = omega (arith, c.loop-index-test.true, ap length notices) in
    let there : slice_get t.notices index ≡ Some n = slice_get_read t.notices (length t.notices) index n refl within here in
    let outcome : c.outcome.result ≡ outcome_of t.outcomes n.integration =
    c.outcome.ensures
    ∙ (ap (λ (x : TicketData). option_and_then (λ (m : NoticeData). outcome_of x.outcomes m.integration) (slice_get x.notices index)) ticket
    ∙ ap (option_and_then (λ (m : NoticeData). outcome_of t.outcomes m.integration)) there)
    in
    let is : c.has_succeeded-succeeded.result ≡ is_recorded_success t n =
    c.has_succeeded-succeeded.ensures ∙ ap (λ o. is_nothing n || is_delivered o) outcome
    in
    elim c.if-succeeded.branch [
      | then-succeeded w ↦
          let k = w.note.ensures.preserves in
          let s : Seen = w.note.new.self.main in
          let end : w.end_on-end.result ≡ end_on at (report_on t.number n.integration reports) =
          cc (w.end_on-end.ensures, w.number.ensures, ap (λ (x : TicketData). x.number) ticket, ap (λ (x : NoticeData). x.integration) c.notice.view_is)
          in
          record {
            preserves = (ap (λ s. s.lane_states) w.self-is ∙ (k.0 ∙ i.preserves.0), ap (λ s. s.reports) w.self-is ∙ (k.1 ∙ i.preserves.1), λ none. i.preserves.2 (k.2 (subst (λ s. HasNoFault s.faults) w.self-is none)));
            continues =
                (subst (λ x. IsPrefix p.log x.main.log) (sym w.self-is) (prefix_trans p.log q.log s.log i.continues.0 w.note.ensures.continues.0), λ full. i.continues.1 (w.note.ensures.continues.1 (subst (λ x. EndsAsFull x.faults) w.self-is full)));
            noted = λ none.
                let now : HasNoFault w.note.new.self.faults = subst (λ s. HasNoFault s.faults) w.self-is none in
                subst (λ x. Notes top due p x.main) (sym w.self-is)
                (noted_next top at reports t t.notices index (index + 1) w.end_on-end.result n p q s refl within here (sym is ∙ w.if-succeeded.true) end (i.noted (k.2 now)) (w.note.ensures.noted now n there));
          }
      | else-succeeded w ↦
          record {
            preserves = (ap (λ s. s.lane_states) w.self-is ∙ i.preserves.0, ap (λ s. s.reports) w.self-is ∙ i.preserves.1, λ none. i.preserves.2 (subst (λ s. HasNoFault s.faults) w.self-is none));
            continues = (subst (λ x. IsPrefix p.log x.main.log) (sym w.self-is) i.continues.0, λ full. i.continues.1 (subst (λ x. EndsAsFull x.faults) w.self-is full));
            noted = λ none.
                let was : HasNoFault c.loop-index.self.faults = subst (λ s. HasNoFault s.faults) w.self-is none in
                subst (λ x. Notes top due p x.main) (sym w.self-is)
                (passed_next top at reports t t.notices index (index + 1) n p q refl within here (sym is ∙ w.if-succeeded.false) (i.noted was));
          }
    ]
