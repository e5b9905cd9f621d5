-- The steps of begins.
use Rattle.std.proofs.Common.{◌≡◌, ℕ, true, false, List, [], length, Some, sym, ◌∙◌, subst}
use Rattle.std.proofs.lemmas.List.{append-nil}
use Rattle.am_board.specs.History.{BoardData}
use Rattle.am_model.specs.declared.fault.Fault.TheVariants.{TooManyOpen}
use Rattle.am_model.specs.Records.{flush_reply}
use Rattle.am_model.specs.declared.record.Reply.{Reply}
use Rattle.am_model.specs.declared.record.Reply.TheVariants as reply
use Rattle.am_model.specs.Ticket.{TicketData}
use Rattle.am_simulation.proofs.Scenes.{same_scene, scene_of}
use Rattle.am_simulation.specs.EventOrder.{begin_indices}
use Rattle.am_simulation.specs.Scene.{Scene, SendingData, Setting}
use Rattle.am_simulation.specs.Steps.{IsBegun, IsDone, IsReplied, IsSendingAdded, after_taking}
use Rattle.am_simulation.specs.Taking.{IsBeginBy, IsTaken, cause_of_none}
use Rattle.am_terms.specs.declared.event.Event.{Event}
use Rattle.am_simulation.specs.declared.next.Step.TheVariants as step
use Rattle.am_simulation.specs.declared.taken.Taken.TheVariants.{Flush, Nothing, Quiet}

module _ (r : Setting) (c : Scene) (at : ℕ) where
  -- a begin with this reply is done
  done_by : (d : Scene) (b : BoardData) (es : List Event) (returned : Reply) → IsBeginBy c.board c.events at b es returned → IsReplied r c at d returned → IsDone r c at d step.Begin
  done_by d b es returned by replied =
      subst (IsBegun r c at d) (sym by.allowed) (subst (IsReplied r c at d) (sym by.replied) replied)

  module _ (b : BoardData) (es : List Event) (ss : List SendingData) (in_flight : ss ≡ c.sendings) where
    pub begin_nothing : IsTaken c.board c.events at b es Nothing → IsDone r c at (scene_of b es c.plans ss at c.maintenance false c.blocked) step.Begin
    begin_nothing by =
        done_by (scene_of b es c.plans ss at c.maintenance false c.blocked) b es reply.NothingDue by
        (same_scene c.plans at c.maintenance false c.blocked by.board (by.events_are ∙ append-nil c.events) in_flight)

    pub begin_quiet : IsTaken c.board c.events at b es Quiet → IsDone r c at (scene_of b es c.plans ss at c.maintenance true c.blocked) step.Begin
    begin_quiet quiet =
        done_by (scene_of b es c.plans ss at c.maintenance true c.blocked) b es (reply.Quiet quiet.0 quiet.1) quiet.2
        (same_scene c.plans at c.maintenance true c.blocked quiet.2.board quiet.2.events_are in_flight)

    -- the begin of a flush, after which its notices were sent
    pub begin_flush : (t : TicketData) (begin : ℕ) (d : Scene) → IsTaken c.board c.events at b es (Flush t) → begin ≡ length (begin_indices c.events)
        → IsSendingAdded r at t begin (scene_of b es c.plans ss at c.maintenance true c.blocked) d → IsDone r c at d step.Begin
    begin_flush t begin d flush count added =
        let returned : Reply = flush_reply t.number t.group t.deadline t.notices in
        let fresh : TicketData = record { board_id = c.board.id; number = t.number; group = t.group; deadline = t.deadline; notices = t.notices; outcomes = [] } in
        let is : t ≡ fresh =
        λ i. record {
          board_id = flush.0 i;
          number = t.number;
          group = t.group;
          deadline = t.deadline;
          notices = t.notices;
          outcomes = flush.1 i;
        }
        in
        let scene : scene_of b es c.plans ss at c.maintenance true c.blocked ≡ after_taking c at returned =
        same_scene c.plans at c.maintenance true c.blocked flush.2.board flush.2.events_are in_flight
        in
        done_by d b es returned flush.2
        (subst (λ (x : Scene). IsSendingAdded r at fresh (length (begin_indices c.events)) x d) scene
        (subst (λ (n : ℕ). IsSendingAdded r at fresh n (scene_of b es c.plans ss at c.maintenance true c.blocked) d) count
        (subst (λ (u : TicketData). IsSendingAdded r at u begin (scene_of b es c.plans ss at c.maintenance true c.blocked) d) is added)))

    pub begin_refused : cause_of_none c.board at ≡ Some TooManyOpen → b ≡ c.board → es ≡ c.events
        → IsDone r c at (scene_of b es c.plans ss at c.maintenance false true) step.Begin
    begin_refused why board events =
        subst (IsBegun r c at (scene_of b es c.plans ss at c.maintenance false true)) (sym why)
        (same_scene c.plans at c.maintenance false true board events in_flight)
