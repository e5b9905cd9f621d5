-- Worked plays: a play that meets all hypotheses, and one whose flushes have to wait, which blocks and passes over a group that is due.
use Rattle.std.proofs.Common.{◌≡◌, ℕ, ◌+◌, ◌≤◌, ◌<◌, ◌⊎◌, inl, inr, true, false, Some, None, List, [], ◌∷◌, ◌++◌, length, refl, arith}
use Rattle.std.specs.Prelude.{codes, find, max}
use Rattle.std.specs.Option.{IfSome}
use Rattle.std.proofs.lemmas.Bool.{false≢true}
use Rattle.std.proofs.lemmas.List.Elements.{All-cons, All-nil}
use Rattle.am_retry.specs.declared.outcome.Answer.TheVariants.{Done, Never}
use Rattle.am_retry.specs.declared.outcome.Outcome.TheVariants.{Delivered, Expired, Refused}
use Rattle.am_alerts.specs.AlertData.{AlertData}
use Rattle.am_alerts.specs.declared.labels.Label.{Label}
use Rattle.am_model.specs.declared.config.Config.{Config}
use Rattle.am_model.specs.declared.group.GroupName.{GroupName}
use Rattle.am_model.specs.declared.notice.Report.{Report}
use Rattle.am_model.specs.declared.record.Record.{Record}
use Rattle.am_model.specs.declared.record.Call.TheVariants as call
use Rattle.am_model.specs.declared.record.Reply.TheVariants.{Noted}
use Rattle.am_model.specs.declared.views.RowView.{RowView}
use Rattle.am_model.specs.Configured.{integrations_of, route_of}
use Rattle.am_model.specs.Notice.{NoticeData}
use Rattle.am_model.specs.Records.{entry, flush_reply, now_of}
use Rattle.am_model.specs.State.{is_named}
use Rattle.am_model.specs.Ticket.{TicketData}
use Rattle.am_model.specs.look_back.Laws.{has_open}
use Rattle.am_model.specs.look_back.Past.{AtEach, past_of, replay_past, time_at}
use Rattle.am_model.proofs.examples.Base.{a, base, fires, group, group_a, named}
use Rattle.am_board.specs.History.{state_at}
use Rattle.am_paging.specs.InTime.{AtSome, HearsBy, IsOnTime, begun_by, is_finish_of, past_until}
use Rattle.am_paging.specs.Paging.{is_due_a_page, reports_page}
use Rattle.am_pool.specs.Sendings.{IsAnsweredBy}
use Rattle.am_simulation.specs.Answers.{AreEndsOf}
use Rattle.am_simulation.specs.Next.{next}
use Rattle.am_simulation.specs.Play.{LeadsIn, PlaysTo, whole}
use Rattle.am_simulation.specs.Scene.{Scene, SendingData, Setting, opening_scene, setting_with}
use Rattle.am_simulation.specs.Steps.{Steps, after_finish, after_nothing, after_plan, after_taking, after_too_many, answers_for, with_sending}
use Rattle.am_terms.specs.declared.event.Event.TheVariants.{Sent}
use Rattle.am_terms.specs.declared.rehearsal.Action.TheVariants.{Insert}
use Rattle.am_terms.specs.declared.rehearsal.Outage.{Outage}
use Rattle.am_terms.specs.declared.rehearsal.TimedAction.{TimedAction}
use Rattle.am_terms.specs.declared.rehearsal.Upkeep.{Upkeep}
use Rattle.am_plays.specs.PlaysDeliver.{IsDueFromTo, delivers_all}
use Rattle.am_plays.specs.PlaysInTime.{IsServed, has_no_outage, runs_past}
use Rattle.am_plays.specs.Plays.{ComesBy, has_place}

-- a configuration with this limit of open flushes, and 64 groups
abbrev pub limited : ℕ → Config
limited flushes = record base { limits = record { alerts = 64; groups = 64; silences = 64; flushes = flushes; history = 64 } }

-- an insert of an alert at 0
abbrev pub insert_of : AlertData → TimedAction
insert_of alert = record { at = 0; act = Insert alert }

-- the notice of an alert that fires, for a flush at 30 seconds
abbrev pub first_notice : ℕ → GroupName → AlertData → NoticeData
first_notice ticket name alert =
    record { board_id = 1; ticket = ticket; deadline = 330_000; group = name; integration = 0; firing = alert ∷ []; resolved = [] }

abbrev pub first_ticket : NoticeData → TicketData
first_ticket n = record { board_id = 1; number = n.ticket; group = n.group; deadline = 330_000; notices = n ∷ []; outcomes = [] }

-- a maintenance each 15 minutes, and a tick each 30 seconds
abbrev pub upkeep : Upkeep
upkeep = record { maintain = 900_000; remove_empty_groups = 30_000; continues = omega arith; ticks = omega arith }

-- ---- an alert at 0 whose receiver answers: notified at 30 seconds, and nothing is due any more until the end after a minute

abbrev minute : Setting
minute = setting_with 60_000 upkeep [] whole

abbrev pub enough : Config
enough = limited 64

abbrev start : Scene
start = opening_scene minute enough (insert_of a ∷ [])

abbrev inserted : Scene
inserted = after_plan start (insert_of a) []

abbrev pub notice_a : NoticeData
notice_a = first_notice 1 group_a a

abbrev delivered : Report
delivered = record { board_id = 1; ticket = 1; integration = 0; outcome = Delivered; attempts = 1; ended = 30_000 }

abbrev sending : SendingData
sending = record { ticket = first_ticket notice_a; begin = 0; ends = record { at = 30_000; index = 0; report = Some delivered } ∷ [] }

abbrev flushed : Scene
flushed = with_sending sending (after_taking inserted 30_000 (flush_reply 1 group_a 330_000 (notice_a ∷ [])))

abbrev idle : Scene
idle = after_nothing flushed 30_000

-- the answer is recorded, and the success noted
abbrev answered : SendingData
answered = record { ticket = record (first_ticket notice_a) { outcomes = (0, Delivered) ∷ [] }; begin = 0; ends = [] }

abbrev noted : Scene
noted =
    record idle {
      board = record idle.board { history = idle.board.history ++ entry 0 (call.Note 30_000 1 0 (Some Delivered)) Noted ∷ [] };
      events = idle.events ++ Sent 0 delivered ∷ [];
      sendings = answered ∷ [];
      clock = 30_000;
    }

abbrev finished : Scene
finished = after_finish noted 0 answered

to_inserted : Steps minute start inserted
unfolding Steps next
to_inserted = (refl, refl)

sending_ends : AreEndsOf (answers_for minute inserted.board group_a) None 30_000 0 (notice_a ∷ []) sending.ends
sending_ends = (
  (
    refl,
    refl,
    (
      refl,
      (
        record {
          names = (refl, refl, refl);
          responses = record { answer = Done; ended = 30_000 } ∷ [];
          answered = All-cons (IsAnsweredBy (answers_for minute inserted.board group_a)) _ [] refl (All-nil (IsAnsweredBy (answers_for minute inserted.board group_a)));
          has = refl;
          attempts_are = refl;
          end_is = refl;
        },
        refl,
      ),
    ),
  ),
  tt,
)

to_flushed : Steps minute inserted flushed
unfolding Steps next
to_flushed = (sending, refl, refl, sending_ends, refl)

to_idle : Steps minute flushed idle
unfolding Steps next
to_idle = refl

to_noted : Steps minute idle noted
unfolding Steps next
to_noted = refl

to_finished : Steps minute noted finished
unfolding Steps next
to_finished = refl

over : next minute finished ≡ None
unfolding next
over = refl

play : PlaysTo minute enough (insert_of a ∷ []) finished.board finished.events
play =
    record {
      last = finished;
      reached = (5, (noted, (idle, (flushed, (inserted, (start, refl, to_inserted), to_flushed), to_idle), to_noted), to_finished));
      over = over;
      board_is = refl;
      events_are = refl;
    }

-- the limit of open flushes isn't below that of groups
many : enough.limits.groups ≤ enough.limits.flushes
many = omega arith

-- its begin comes when the group is due, as late as it may
due_then : find (is_named group_a) (replay_past enough (past_of inserted.board.history)).groups ≡ Some (record { name = group_a; due = 30_000; flushed = false; members = record { alert = a; stamp = 1 } ∷ [] })
due_then = refl

then_begun : time_at (past_of flushed.board.history) ≡ 30_000
then_begun = refl

-- at the end it is due after the end
due_after : IfSome (find (is_named group_a) (state_at finished.board).groups) (λ g. minute.until < g.due)
due_after = omega arith

-- ---- left out: that a flush more is allowed; with one at a time, a receiver that hangs for forty seconds holds up the other group

abbrev hangs : Outage
hangs = record { receiver = codes "team"; integration = None; from = 0; to = None; answer = Never; takes = 40_000 }

abbrev held_up : Setting
held_up = setting_with 100_000 upkeep (hangs ∷ []) whole

abbrev one_at_a_time : Config
one_at_a_time = limited 1

abbrev c : AlertData
c = fires (named (codes "C")) 0

abbrev begins : Scene
begins = opening_scene held_up one_at_a_time (insert_of a ∷ insert_of c ∷ [])

abbrev one : Scene
one = after_plan begins (insert_of a) (insert_of c ∷ [])

abbrev two : Scene
two = after_plan one (insert_of c) []

abbrev refused : Report
refused = record { board_id = 1; ticket = 1; integration = 0; outcome = Refused; attempts = 1; ended = 70_000 }

abbrev hanging : SendingData
hanging = record { ticket = first_ticket notice_a; begin = 0; ends = record { at = 70_000; index = 0; report = Some refused } ∷ [] }

abbrev open_a : Scene
open_a = with_sending hanging (after_taking two 30_000 (flush_reply 1 group_a 330_000 (notice_a ∷ [])))

abbrev waits : Scene
waits = after_too_many open_a 30_000

to_one : Steps held_up begins one
unfolding Steps next
to_one = (refl, refl)

to_two : Steps held_up one two
unfolding Steps next
to_two = (refl, refl)

hanging_ends : AreEndsOf (answers_for held_up two.board group_a) None 30_000 0 (notice_a ∷ []) hanging.ends
hanging_ends = (
  (
    refl,
    refl,
    (
      refl,
      (
        record {
          names = (refl, refl, refl);
          responses = record { answer = Never; ended = 70_000 } ∷ [];
          answered = All-cons (IsAnsweredBy (answers_for held_up two.board group_a)) _ [] refl (All-nil (IsAnsweredBy (answers_for held_up two.board group_a)));
          has = refl;
          attempts_are = refl;
          end_is = refl;
        },
        refl,
      ),
    ),
  ),
  tt,
)

to_open_a : Steps held_up two open_a
unfolding Steps next
to_open_a = (hanging, refl, refl, hanging_ends, refl)

to_waits : Steps held_up open_a waits
unfolding Steps next
to_waits = refl

-- so begins wait, in a scene that the rehearsal reaches
reaches_waits : LeadsIn held_up 4 begins waits
reaches_waits = (open_a, (two, (one, (begins, refl, to_one), to_two), to_open_a), to_waits)

blocks : waits.blocked ≡ true
blocks = refl

-- no flush more is allowed then
no_place : has_place one_at_a_time (state_at waits.board) ≡ false
no_place = refl

-- the next record is the finish at 70 seconds, and C's group was due at 30
abbrev refused_sending : SendingData
refused_sending = record { ticket = record (first_ticket notice_a) { outcomes = (0, Refused) ∷ [] }; begin = 0; ends = [] }

abbrev failed : Scene
failed = record waits { events = waits.events ++ Sent 0 refused ∷ []; sendings = refused_sending ∷ []; clock = 70_000 }

abbrev freed : Scene
freed = after_finish failed 0 refused_sending

to_failed : Steps held_up waits failed
unfolding Steps next
to_failed = refl

to_freed : Steps held_up failed freed
unfolding Steps next
to_freed = refl

c_closed : has_open (group (codes "C")) (past_of failed.board.history) ≡ false
c_closed = refl

c_due : find (is_named (group (codes "C"))) (replay_past one_at_a_time (past_of failed.board.history)).groups ≡ Some (record { name = group (codes "C"); due = 30_000; flushed = false; members = record { alert = c; stamp = 2 } ∷ [] })
c_due = refl

c_passed : ComesBy held_up (max (time_at (past_of failed.board.history)) 30_000) (time_at (past_of freed.board.history)) → ⊥
c_passed comes = by comes
  where
    by : (70_000 ≤ 30_000) ⊎ (100_000 < 30_000) → ⊥
    by (inl within) = absurd (omega (arith, within))
    by (inr after) = absurd (omega (arith, after))

-- ---- the first play serves A's group, and pages in time

served : IsServed minute enough group_a
served = record { reached = refl; runs = refl; ends = omega arith; places = omega arith }

abbrev pub labels_a : List Label
labels_a = named (codes "A")

due_a : AtEach (λ q past. 0 < time_at (q ∷ past) → time_at (q ∷ past) ≤ minute.until → is_due_a_page enough group_a labels_a (time_at (q ∷ past)) past ≡ true) (past_of finished.board.history)
due_a = (λ after within. refl, (λ after within. refl, (λ after within. refl, (λ after within. refl, (λ after within. absurd (omega (arith, after)), tt)))))

due_at_end : is_due_a_page enough group_a labels_a minute.until (past_until minute.until (past_of finished.board.history)) ≡ true
due_at_end = refl

by_then : begun_by enough group_a 0 0 (past_of finished.board.history) ≡ 30_000
by_then = refl

before_end : 30_000 < minute.until
before_end = omega arith

-- ---- left out: that no outage is of the receiver; a flush that hangs for forty seconds isn't over at its begin

abbrev hanging_start : Scene
hanging_start = opening_scene held_up enough (insert_of a ∷ [])

abbrev hanging_inserted : Scene
hanging_inserted = after_plan hanging_start (insert_of a) []

abbrev hanging_flushed : Scene
hanging_flushed = with_sending hanging (after_taking hanging_inserted 30_000 (flush_reply 1 group_a 330_000 (notice_a ∷ [])))

abbrev hanging_idle : Scene
hanging_idle = after_nothing hanging_flushed 30_000

abbrev hanging_failed : Scene
hanging_failed = record hanging_idle { events = hanging_idle.events ++ Sent 0 refused ∷ []; sendings = refused_sending ∷ []; clock = 70_000 }

abbrev hanging_freed : Scene
hanging_freed = after_finish hanging_failed 0 refused_sending

to_hanging_inserted : Steps held_up hanging_start hanging_inserted
unfolding Steps next
to_hanging_inserted = (refl, refl)

to_hanging_flushed : Steps held_up hanging_inserted hanging_flushed
unfolding Steps next
to_hanging_flushed = (hanging, refl, refl, hanging_ends, refl)

to_hanging_idle : Steps held_up hanging_flushed hanging_idle
unfolding Steps next
to_hanging_idle = refl

to_hanging_failed : Steps held_up hanging_idle hanging_failed
unfolding Steps next
to_hanging_failed = refl

to_hanging_freed : Steps held_up hanging_failed hanging_freed
unfolding Steps next
to_hanging_freed = refl

hanging_over : next held_up hanging_freed ≡ None
unfolding next
hanging_over = refl

hanging_play : PlaysTo held_up enough (insert_of a ∷ []) hanging_freed.board hanging_freed.events
hanging_play =
    record {
      last = hanging_freed;
      reached = (5, (hanging_failed, (hanging_idle, (hanging_flushed, (hanging_inserted, (hanging_start, refl, to_hanging_inserted), to_hanging_flushed), to_hanging_idle), to_hanging_failed), to_hanging_freed));
      over = hanging_over;
      board_is = refl;
      events_are = refl;
    }

hanging_unserved : has_no_outage (route_of enough group_a).receiver held_up.outages ≡ false
hanging_unserved = refl

hanging_opened : has_open group_a (past_of hanging_failed.board.history) ≡ true
hanging_opened = refl

hanging_late : (q : Record) → now_of q.call ≡ 70_000 → IsOnTime 0 0 enough group_a q (past_of hanging_failed.board.history) → ⊥
hanging_late q is on = by (on.ends refl)
  where
    by : time_at (q ∷ past_of hanging_failed.board.history) ≤ 30_000 + 0 → ⊥
    by h = absurd (omega (arith, is, h))

-- ---- the first play delivers in time: A is due a page from 0 up to the end, and up to 45 seconds too

due_until_end : IsDueFromTo enough group_a labels_a 0 minute.until (past_of finished.board.history)
due_until_end = record { each = due_a; last = due_at_end }

due_until_then : IsDueFromTo enough group_a labels_a 0 45_000 (past_of finished.board.history)
due_until_then =
    record {
      each = (λ after within. refl, (λ after within. refl, (λ after within. refl, (λ after within. refl, (λ after within. absurd (omega (arith, after)), tt)))));
      last = refl;
    }

one_integration : length (integrations_of enough group_a) ≡ 1
one_integration = refl

-- the note reports it delivered when the group is due, and so does the finish, at the time of the begin
note_delivers : reports_page group_a 0 labels_a (past_of idle.board.history) (call.Note 30_000 1 0 (Some Delivered)) ≡ true
note_delivers = refl

noted_then : time_at (past_of noted.board.history) ≡ 30_000
noted_then = refl

finishes_a : is_finish_of group_a (past_of noted.board.history) (call.Finish 30_000 1 ((0, Delivered) ∷ [])) ≡ true
finishes_a = refl

finish_delivers : delivers_all (time_at (past_of finished.board.history)) (past_of noted.board.history) (call.Finish 30_000 1 ((0, Delivered) ∷ [])) ≡ true
finish_delivers = refl

-- ---- left out: that no outage is of the receiver; the notice of the flush that hangs is refused, and nobody hears of A

hanging_due : IsDueFromTo enough group_a labels_a 0 held_up.until (past_of hanging_freed.board.history)
hanging_due =
    record {
      each = (λ after within. refl, (λ after within. refl, (λ after within. refl, (λ after within. absurd (omega (arith, after)), tt))));
      last = refl;
    }

hanging_by : begun_by enough group_a 0 0 (past_of hanging_freed.board.history) ≡ 30_000
hanging_by = refl

hanging_finishes : is_finish_of group_a (past_of hanging_failed.board.history) (call.Finish 70_000 1 ((0, Refused) ∷ [])) ≡ true
hanging_finishes = refl

hanging_fails : delivers_all (time_at (past_of hanging_freed.board.history)) (past_of hanging_failed.board.history) (call.Finish 70_000 1 ((0, Refused) ∷ [])) ≡ false
hanging_fails = refl

unheard : (row : RowView) → None ≡ Some row → ⊥
unheard row is = absurd (cc)

hanging_unheard : AtSome (HearsBy enough group_a 0 labels_a 0 30_000) (past_of hanging_freed.board.history) → ⊥
hanging_unheard (inl finish) = let late : 70_000 ≤ 30_000 = finish.in_time in absurd (omega (arith, late))
hanging_unheard (inr (inl nothing)) = elim nothing.reached [ inl reported ↦ false≢true reported | inr heard ↦ false≢true heard.0 ]
hanging_unheard (inr (inr (inl begin))) = elim begin.reached [ inl reported ↦ false≢true reported | inr heard ↦ unheard heard.1.row heard.1.entry ]
hanging_unheard (inr (inr (inr (inl insert)))) = let later : 0 < 0 = insert.after in absurd (omega (arith, later))
hanging_unheard (inr (inr (inr (inr none)))) = none

-- ---- left out: that the dispatcher isn't stopped; it is after 20 seconds, and the notice of the flush at 30 isn't sent any more

abbrev stopped : Setting
stopped = record minute { span = record { since = 0; cut = Some 20_000 } }

abbrev stopped_start : Scene
stopped_start = opening_scene stopped enough (insert_of a ∷ [])

abbrev stopped_inserted : Scene
stopped_inserted = after_plan stopped_start (insert_of a) []

abbrev expired : Report
expired = record { board_id = 1; ticket = 1; integration = 0; outcome = Expired; attempts = 0; ended = 30_000 }

abbrev unsent : SendingData
unsent = record { ticket = first_ticket notice_a; begin = 0; ends = record { at = 30_000; index = 0; report = Some expired } ∷ [] }

abbrev stopped_flushed : Scene
stopped_flushed = with_sending unsent (after_taking stopped_inserted 30_000 (flush_reply 1 group_a 330_000 (notice_a ∷ [])))

abbrev stopped_idle : Scene
stopped_idle = after_nothing stopped_flushed 30_000

abbrev expired_sending : SendingData
expired_sending = record { ticket = record (first_ticket notice_a) { outcomes = (0, Expired) ∷ [] }; begin = 0; ends = [] }

abbrev stopped_failed : Scene
stopped_failed = record stopped_idle { events = stopped_idle.events ++ Sent 0 expired ∷ []; sendings = expired_sending ∷ []; clock = 30_000 }

abbrev stopped_freed : Scene
stopped_freed = after_finish stopped_failed 0 expired_sending

to_stopped_inserted : Steps stopped stopped_start stopped_inserted
unfolding Steps next
to_stopped_inserted = (refl, refl)

unsent_ends : AreEndsOf (answers_for stopped stopped_inserted.board group_a) (Some 20_000) 30_000 0 (notice_a ∷ []) unsent.ends
unsent_ends = (
  (
    refl,
    refl,
    (
      refl,
      (
        record {
          names = (refl, refl, refl);
          responses = [];
          answered = All-nil (IsAnsweredBy (answers_for stopped stopped_inserted.board group_a));
          has = refl;
          attempts_are = refl;
          end_is = refl;
        },
        refl,
      ),
    ),
  ),
  tt,
)

to_stopped_flushed : Steps stopped stopped_inserted stopped_flushed
unfolding Steps next
to_stopped_flushed = (unsent, refl, refl, unsent_ends, refl)

to_stopped_idle : Steps stopped stopped_flushed stopped_idle
unfolding Steps next
to_stopped_idle = refl

to_stopped_failed : Steps stopped stopped_idle stopped_failed
unfolding Steps next
to_stopped_failed = refl

to_stopped_freed : Steps stopped stopped_failed stopped_freed
unfolding Steps next
to_stopped_freed = refl

stopped_over : next stopped stopped_freed ≡ None
unfolding next
stopped_over = refl

stopped_play : PlaysTo stopped enough (insert_of a ∷ []) stopped_freed.board stopped_freed.events
stopped_play =
    record {
      last = stopped_freed;
      reached = (5, (stopped_failed, (stopped_idle, (stopped_flushed, (stopped_inserted, (stopped_start, refl, to_stopped_inserted), to_stopped_flushed), to_stopped_idle), to_stopped_failed), to_stopped_freed));
      over = stopped_over;
      board_is = refl;
      events_are = refl;
    }

stopped_reached : has_no_outage (route_of enough group_a).receiver stopped.outages ≡ true
stopped_reached = refl

stopped_unserved : runs_past stopped.until stopped.span.cut ≡ false
stopped_unserved = refl

stopped_due : IsDueFromTo enough group_a labels_a 0 stopped.until (past_of stopped_freed.board.history)
stopped_due =
    record {
      each = (λ after within. refl, (λ after within. refl, (λ after within. refl, (λ after within. absurd (omega (arith, after)), tt))));
      last = refl;
    }

stopped_by : begun_by enough group_a 0 0 (past_of stopped_freed.board.history) ≡ 30_000
stopped_by = refl

stopped_finishes : is_finish_of group_a (past_of stopped_failed.board.history) (call.Finish 30_000 1 ((0, Expired) ∷ [])) ≡ true
stopped_finishes = refl

stopped_fails : delivers_all (time_at (past_of stopped_freed.board.history)) (past_of stopped_failed.board.history) (call.Finish 30_000 1 ((0, Expired) ∷ [])) ≡ false
stopped_fails = refl

stopped_unheard : AtSome (HearsBy enough group_a 0 labels_a 0 30_000) (past_of stopped_freed.board.history) → ⊥
stopped_unheard (inl finish) = elim finish.reached [ inl reported ↦ false≢true reported | inr heard ↦ false≢true heard.0 ]
stopped_unheard (inr (inl nothing)) = elim nothing.reached [ inl reported ↦ false≢true reported | inr heard ↦ false≢true heard.0 ]
stopped_unheard (inr (inr (inl begin))) = elim begin.reached [ inl reported ↦ false≢true reported | inr heard ↦ unheard heard.1.row heard.1.entry ]
stopped_unheard (inr (inr (inr (inl insert)))) = let later : 0 < 0 = insert.after in absurd (omega (arith, later))
stopped_unheard (inr (inr (inr (inr none)))) = none
