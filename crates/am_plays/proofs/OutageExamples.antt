-- Worked plays with an outage that ends: a page comes soon after it; and where attempts are refused for good, it doesn't.
use Rattle.std.proofs.Common.{◌≡◌, ℕ, ◌+◌, ◌≤◌, max, min, inl, inr, true, false, Some, None, List, [], ◌∷◌, ◌++◌, refl, arith}
use Rattle.std.specs.Prelude.{codes}
use Rattle.std.specs.List.{AllByRecursion}
use Rattle.std.proofs.lemmas.Bool.{false≢true}
use Rattle.std.proofs.lemmas.List.Elements.{All-cons, All-nil}
use Rattle.am_retry.specs.Attempts.{Response, tries_of}
use Rattle.am_retry.specs.declared.outcome.Answer.{Answer}
use Rattle.am_retry.specs.declared.outcome.Answer.TheVariants.{Done, Again, Never}
use Rattle.am_retry.specs.declared.outcome.Outcome.TheVariants.{Delivered, Expired, Refused}
use Rattle.am_model.specs.declared.notice.Report.{Report}
use Rattle.am_model.specs.declared.record.Call.TheVariants as call
use Rattle.am_model.specs.declared.record.Reply.TheVariants.{Noted}
use Rattle.am_model.specs.declared.views.RowView.{RowView}
use Rattle.am_model.specs.Configured.{route_of}
use Rattle.am_model.specs.Notice.{NoticeData}
use Rattle.am_model.specs.Records.{entry, flush_reply}
use Rattle.am_model.specs.look_back.Past.{past_of, time_at}
use Rattle.am_model.proofs.examples.Base.{a, group_a}
use Rattle.am_model.proofs.lists.Distinct.{all_from}
use Rattle.am_paging.specs.InTime.{AtSome, begun_by, past_until}
use Rattle.am_paging.specs.Paging.{is_due_a_page, reports_page}
use Rattle.am_pool.specs.Sendings.{IsAnsweredBy, end_on}
use Rattle.am_pool.specs.declared.courier.Sent.{Sent as SentAttempt}
use Rattle.am_pool.specs.Tries.{all_tried_for}
use Rattle.am_simulation.specs.Answers.{AreEndsOf, IsOutcome, answer_of, tried_by}
use Rattle.am_simulation.specs.Next.{next}
use Rattle.am_simulation.specs.Play.{PlaysTo, whole}
use Rattle.am_simulation.specs.Scene.{Scene, SendingData, Setting, opening_scene, setting_with}
use Rattle.am_simulation.specs.Steps.{Steps, after_finish, after_nothing, after_plan, after_taking, answers_for, with_sending}
use Rattle.am_terms.specs.declared.event.Event.TheVariants.{Sent}
use Rattle.am_terms.specs.declared.rehearsal.Outage.{Outage}
use Rattle.am_plays.specs.PlaysDeliver.{IsDueFromTo}
use Rattle.am_plays.specs.PlaysRecover.{HearsFrom, IsRecovering, Sends, SomeThenEach, StaysDue, recovered_by, recovers}
use Rattle.am_plays.proofs.Examples.{enough, first_ticket, insert_of, labels_a, notice_a, upkeep}

-- an outage of the team from the start on
abbrev down : ℕ → Answer → ℕ → Outage
down to answer takes = record { receiver = codes "team"; integration = None; from = 0; to = Some to; answer = answer; takes = takes }

-- a rehearsal of 100 seconds with an outage
abbrev with_outage : Outage → Setting
with_outage outage = setting_with 100_000 upkeep (outage ∷ []) whole

-- ---- a sending: each attempt takes a second, up to 45 seconds; the one that would follow the fifth is due after the deadline

abbrev hard : Outage
hard = down 45_000 Again 1_000

abbrev short_notice : NoticeData
short_notice = record { board_id = 1; ticket = 1; deadline = 40_000; group = group_a; integration = 0; firing = a ∷ []; resolved = [] }

abbrev too_late : Report
too_late = record { board_id = 1; ticket = 1; integration = 0; outcome = Expired; attempts = 5; ended = 39_062 }

abbrev hard_answers : ℕ → ℕ → ℕ → ℕ → SentAttempt
hard_answers = answer_of None (hard ∷ []) (codes "team")

abbrev hard_responses : List Response
hard_responses =
    record { answer = Again; ended = 31_000 } ∷ record { answer = Again; ended = 32_500 } ∷ record { answer = Again; ended = 34_250 } ∷ record { answer = Again; ended = 36_375 }
    ∷ record { answer = Again; ended = 39_062 } ∷ []

hard_tries : AllByRecursion (IsAnsweredBy hard_answers) (all_tried_for (tried_by None short_notice) (tries_of 30_000 hard_responses))
hard_tries = (refl, (refl, (refl, (refl, (refl, tt)))))

expires : IsOutcome hard_answers None 30_000 short_notice (Some too_late)
expires = (
  refl,
  (
    record {
      names = (refl, refl, refl);
      responses = hard_responses;
      answered = all_from (IsAnsweredBy hard_answers) (all_tried_for (tried_by None short_notice) (tries_of 30_000 hard_responses)) hard_tries;
      has = refl;
      attempts_are = refl;
      end_is = refl;
    },
    refl,
  ),
)

hard_recovers : recovers 45_000 1_000 (codes "team") (hard ∷ []) ≡ true
hard_recovers = refl

-- its deadline comes a minute after its end at most, and by a minute and an attempt after the outage
then_due : short_notice.deadline ≤ min (end_on 30_000 (Some too_late) + 60_000) (recovered_by 45_000 1_000)
then_due = omega arith

-- ---- a play: the first attempt fails at 30 seconds, the second one half a second later is after the outage

abbrev brief : Setting
brief = with_outage (down 30_400 Again 100)

abbrev start : Scene
start = opening_scene brief enough (insert_of a ∷ [])

abbrev inserted : Scene
inserted = after_plan start (insert_of a) []

abbrev delivered : Report
delivered = record { board_id = 1; ticket = 1; integration = 0; outcome = Delivered; attempts = 2; ended = 30_600 }

abbrev sending : SendingData
sending = record { ticket = first_ticket notice_a; begin = 0; ends = record { at = 30_600; index = 0; report = Some delivered } ∷ [] }

abbrev flushed : Scene
flushed = with_sending sending (after_taking inserted 30_000 (flush_reply 1 group_a 330_000 (notice_a ∷ [])))

abbrev idle : Scene
idle = after_nothing flushed 30_000

abbrev answered : SendingData
answered = record { ticket = record (first_ticket notice_a) { outcomes = (0, Delivered) ∷ [] }; begin = 0; ends = [] }

abbrev noted : Scene
noted =
    record idle {
      board = record idle.board { history = idle.board.history ++ entry 0 (call.Note 30_600 1 0 (Some Delivered)) Noted ∷ [] };
      events = idle.events ++ Sent 0 delivered ∷ [];
      sendings = answered ∷ [];
      clock = 30_600;
    }

abbrev finished : Scene
finished = after_finish noted 0 answered

abbrev brief_answers : ℕ → ℕ → ℕ → ℕ → SentAttempt
brief_answers = answers_for brief inserted.board group_a

abbrev brief_responses : List Response
brief_responses = record { answer = Again; ended = 30_100 } ∷ record { answer = Done; ended = 30_600 } ∷ []

brief_tries : AllByRecursion (IsAnsweredBy brief_answers) (all_tried_for (tried_by None notice_a) (tries_of 30_000 brief_responses))
brief_tries = (refl, (refl, tt))

sending_ends : AreEndsOf brief_answers None 30_000 0 (notice_a ∷ []) sending.ends
sending_ends = (
  (
    refl,
    refl,
    (
      refl,
      (
        record {
          names = (refl, refl, refl);
          responses = brief_responses;
          answered = all_from (IsAnsweredBy brief_answers) (all_tried_for (tried_by None notice_a) (tries_of 30_000 brief_responses)) brief_tries;
          has = refl;
          attempts_are = refl;
          end_is = refl;
        },
        refl,
      ),
    ),
  ),
  tt,
)

to_inserted : Steps brief start inserted
unfolding Steps next
to_inserted = (refl, refl)

to_flushed : Steps brief inserted flushed
unfolding Steps next
to_flushed = (sending, refl, refl, sending_ends, refl)

to_idle : Steps brief flushed idle
unfolding Steps next
to_idle = refl

to_noted : Steps brief idle noted
unfolding Steps next
to_noted = refl

to_finished : Steps brief noted finished
unfolding Steps next
to_finished = refl

over : next brief finished ≡ None
unfolding next
over = refl

play : PlaysTo brief enough (insert_of a ∷ []) finished.board finished.events
play =
    record {
      last = finished;
      reached = (5, (noted, (idle, (flushed, (inserted, (start, refl, to_inserted), to_flushed), to_idle), to_noted), to_finished));
      over = over;
      board_is = refl;
      events_are = refl;
    }

-- the team recovers by 30.4 seconds, so it has by 90.5
recovering : IsRecovering brief enough group_a 30_400 100
recovering = record { recovers = refl; goes_on = omega arith; runs = refl; ends = omega arith; places = omega arith }

recovered : max 30_000 (recovered_by 30_400 100) ≡ 90_500
recovered = refl

-- the flush at 30 seconds notifies it of A, which stays due a page up to 95 seconds
flush_sends : SomeThenEach (Sends group_a 0 labels_a 30_000) (StaysDue enough group_a labels_a 95_000) (past_of finished.board.history)
flush_sends = inr (λ within. refl, inr (λ within. refl, inr (λ within. refl, inl (record { taken = refl; pages = refl; at = refl }))))

stays_due : is_due_a_page enough group_a labels_a 95_000 (past_until 95_000 (past_of finished.board.history)) ≡ true
stays_due = refl

due_a : IsDueFromTo enough group_a labels_a 0 95_000 (past_of finished.board.history)
due_a =
    record {
      each = (λ after within. refl, (λ after within. refl, (λ after within. refl, (λ after within. refl, (λ after within. absurd (omega (arith, after)), tt)))));
      last = refl;
    }

by_then : max (begun_by enough group_a 0 0 (past_of finished.board.history)) (recovered_by 30_400 100) ≡ 90_500
by_then = refl

-- and the finish reports it delivered
finish_reports : reports_page group_a 0 labels_a (past_of noted.board.history) (call.Finish 30_600 1 ((0, Delivered) ∷ [])) ≡ true
finish_reports = refl

finished_then : time_at (past_of finished.board.history) ≡ 30_600
finished_then = refl

-- ---- left out: that no attempt is refused for good; the group is due again only after its interval, later than a minute after the outage

abbrev refusing : Setting
refusing = with_outage (down 31_000 Never 0)

abbrev refusing_start : Scene
refusing_start = opening_scene refusing enough (insert_of a ∷ [])

abbrev refusing_inserted : Scene
refusing_inserted = after_plan refusing_start (insert_of a) []

abbrev refused : Report
refused = record { board_id = 1; ticket = 1; integration = 0; outcome = Refused; attempts = 1; ended = 30_000 }

abbrev refused_sending : SendingData
refused_sending = record { ticket = first_ticket notice_a; begin = 0; ends = record { at = 30_000; index = 0; report = Some refused } ∷ [] }

abbrev refusing_flushed : Scene
refusing_flushed = with_sending refused_sending (after_taking refusing_inserted 30_000 (flush_reply 1 group_a 330_000 (notice_a ∷ [])))

abbrev refusing_idle : Scene
refusing_idle = after_nothing refusing_flushed 30_000

abbrev failed_sending : SendingData
failed_sending = record { ticket = record (first_ticket notice_a) { outcomes = (0, Refused) ∷ [] }; begin = 0; ends = [] }

abbrev refusing_failed : Scene
refusing_failed = record refusing_idle { events = refusing_idle.events ++ Sent 0 refused ∷ []; sendings = failed_sending ∷ []; clock = 30_000 }

abbrev refusing_freed : Scene
refusing_freed = after_finish refusing_failed 0 failed_sending

refusing_ends : AreEndsOf (answers_for refusing refusing_inserted.board group_a) None 30_000 0 (notice_a ∷ []) refused_sending.ends
refusing_ends = (
  (
    refl,
    refl,
    (
      refl,
      (
        record {
          names = (refl, refl, refl);
          responses = record { answer = Never; ended = 30_000 } ∷ [];
          answered = All-cons (IsAnsweredBy (answers_for refusing refusing_inserted.board group_a)) _ [] refl (All-nil (IsAnsweredBy (answers_for refusing refusing_inserted.board group_a)));
          has = refl;
          attempts_are = refl;
          end_is = refl;
        },
        refl,
      ),
    ),
  ),
  tt,
)

to_refusing_inserted : Steps refusing refusing_start refusing_inserted
unfolding Steps next
to_refusing_inserted = (refl, refl)

to_refusing_flushed : Steps refusing refusing_inserted refusing_flushed
unfolding Steps next
to_refusing_flushed = (refused_sending, refl, refl, refusing_ends, refl)

to_refusing_idle : Steps refusing refusing_flushed refusing_idle
unfolding Steps next
to_refusing_idle = refl

to_refusing_failed : Steps refusing refusing_idle refusing_failed
unfolding Steps next
to_refusing_failed = refl

to_refusing_freed : Steps refusing refusing_failed refusing_freed
unfolding Steps next
to_refusing_freed = refl

refusing_over : next refusing refusing_freed ≡ None
unfolding next
refusing_over = refl

refusing_play : PlaysTo refusing enough (insert_of a ∷ []) refusing_freed.board refusing_freed.events
refusing_play =
    record {
      last = refusing_freed;
      reached = (
        5,
        (refusing_failed, (refusing_idle, (refusing_flushed, (refusing_inserted, (refusing_start, refl, to_refusing_inserted), to_refusing_flushed), to_refusing_idle), to_refusing_failed), to_refusing_freed),
      );
      over = refusing_over;
      board_is = refl;
      events_are = refl;
    }

-- the outage is over by 31 seconds, and the rehearsal goes on until a minute after that
refusing_unrecovered : recovers 31_000 0 (route_of enough group_a).receiver refusing.outages ≡ false
refusing_unrecovered = refl

refusing_goes_on : recovered_by 31_000 0 ≤ refusing.until
refusing_goes_on = omega arith

refusing_sends : SomeThenEach (Sends group_a 0 labels_a 30_000) (StaysDue enough group_a labels_a 95_000) (past_of refusing_freed.board.history)
refusing_sends = inr (λ within. refl, inr (λ within. refl, inl (record { taken = refl; pages = refl; at = refl })))

unheard : (row : RowView) → None ≡ Some row → ⊥
unheard row is = absurd (cc)

refusing_unheard : AtSome (HearsFrom enough group_a 0 labels_a 30_000 (max 30_000 (recovered_by 31_000 0))) (past_of refusing_freed.board.history) → ⊥
refusing_unheard (inl finish) = elim finish.reached [ inl reported ↦ false≢true reported | inr heard ↦ false≢true heard.0 ]
refusing_unheard (inr (inl nothing)) = elim nothing.reached [ inl reported ↦ false≢true reported | inr heard ↦ false≢true heard.0 ]
refusing_unheard (inr (inr (inl begin))) = elim begin.reached [ inl reported ↦ false≢true reported | inr heard ↦ unheard heard.1.row heard.1.entry ]
refusing_unheard (inr (inr (inr (inl insert)))) = let later : 30_000 ≤ 0 = insert.since in absurd (omega (arith, later))
refusing_unheard (inr (inr (inr (inr none)))) = none
