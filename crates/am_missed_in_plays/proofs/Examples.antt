-- Worked rehearsals: a span that is missed since its alert is muted, in a group that is served, and one that breaks the law where the group
-- isn't served.
use Rattle.std.proofs.Common.{◌≡◌, ℕ, ◌+◌, ◌≤◌, ◌<◌, ◌⊎◌, inl, inr, true, false, Some, None, List, [], ◌∷◌, ◌++◌, length, length-append, refl, sym, ap, ◌∙◌, subst, arith}
use Rattle.std.specs.Prelude.{codes}
use Rattle.std.proofs.lemmas.Bool.{false≢true}
use Rattle.std.proofs.lemmas.List.Elements.{All-cons, All-nil}
use Rattle.am_alerts.specs.AlertData.{has_come}
use Rattle.am_alerts.specs.declared.labels.Label.{Label}
use Rattle.am_alerts.specs.declared.matcher.Operator.TheVariants.{Equal}
use Rattle.am_retry.specs.declared.outcome.Answer.TheVariants.{Never}
use Rattle.am_retry.specs.declared.outcome.Outcome.TheVariants.{Refused}
use Rattle.am_model.specs.declared.config.Config.{Config}
use Rattle.am_model.specs.declared.notice.Report.{Report}
use Rattle.am_model.specs.declared.record.Call.TheVariants as call
use Rattle.am_model.specs.declared.record.Record.{Record}
use Rattle.am_model.specs.declared.record.Reply.TheVariants as reply
use Rattle.am_model.specs.Configured.{integrations_of, route_of}
use Rattle.am_model.specs.Records.{entry, flush_reply}
use Rattle.am_model.specs.look_back.Past.{takes}
use Rattle.am_model.proofs.examples.Base.{a, finish, group_a, insert, named, nothing_due}
use Rattle.am_pool.specs.Sendings.{IsAnsweredBy}
use Rattle.am_simulation.specs.Answers.{AreEndsOf}
use Rattle.am_simulation.specs.Next.{next}
use Rattle.am_simulation.specs.Parts.{PartData, whole_part}
use Rattle.am_simulation.specs.Play.{PlaysTo, whole}
use Rattle.am_simulation.specs.Playing.{setting_of_part}
use Rattle.am_simulation.specs.Previews.{previews_of}
use Rattle.am_simulation.specs.Scene.{Scene, SendingData, Setting, opening_scene, setting_with}
use Rattle.am_simulation.specs.Steps.{Steps, after_finish, after_nothing, after_plan, after_taking, answers_for, with_sending}
use Rattle.am_terms.specs.declared.event.Event.TheVariants.{Sent}
use Rattle.am_terms.specs.declared.rehearsal.Action.TheVariants.{Silence}
use Rattle.am_terms.specs.declared.rehearsal.Outage.{Outage}
use Rattle.am_terms.specs.declared.rehearsal.TimedAction.{TimedAction}
use Rattle.am_timeline.specs.Playback.{PlaybackData}
use Rattle.am_undelivered.specs.Spans.{SpanData, SpansData, spans_in}
use Rattle.am_undelivered.specs.Undelivered.{missed_of}
use Rattle.am_undelivered.specs.declared.fate.Fate.{Fate}
use Rattle.am_undelivered.specs.declared.fate.Fate.TheVariants.{Failed, Muted, Unflushed}
use Rattle.am_undelivered.specs.declared.missed.Missed.TheVariants.{Page}
use Rattle.am_undelivered.specs.declared.recipient.Recipient.{Recipient}
use Rattle.am_missed.specs.Causes.{is_muted_at}
use Rattle.am_plays.specs.PlaysInTime.{IsServed, has_no_outage}
use Rattle.am_plays.proofs.Examples.{first_ticket, insert_of, limited, notice_a, upkeep}
use Rattle.am_missed_in_plays.specs.SpansInTime.{InsertData, IsBegunWithout, IsInsertIn, IsOverAt, latest_after, taking_after}

abbrev labels_a : List Label
labels_a = named (codes "A")

abbrev enough : Config
enough = limited 64

-- the playback of a scene
abbrev played : Scene → PlaybackData
played c = record { config = enough; history = c.board.history; begins = previews_of enough c.board.history; events = c.events }

-- the integration of the team, with what came of a page
abbrev hook : Fate → Recipient
hook page = record { receiver = codes "team"; kind = codes "hook"; index = 0; resolves = true; page = page; clear = Unflushed }

-- A fires from 0 on
abbrev fires_with : Fate → SpanData
fires_with page = record { since = 0; ends = None; recipients = hook page ∷ [] }

abbrev only : SpanData → SpansData
only span = record { before = []; last = span; part = 0 }

-- the insert of A at 0, under the only dispatcher, with the records after it
abbrev insert_a : PlaybackData → PartData → List Record → InsertData
insert_a p part later =
    record { before = []; playback = p; after = []; part = part; earlier = []; insert = insert 0 a 1 1 1; later = later; name = group_a }

-- ---- a silence holds when A's group is begun: the span is missed, and so it is at the latest time

abbrev silence_a : TimedAction
silence_a =
    record {
      at = 5_000;
      act = Silence (record { id = 1; matchers = record { name = codes "alertname"; op = Equal; value = codes "A" } ∷ []; start = 5_000; end = 100_000 });
    }

abbrev silent_plans : List TimedAction
silent_plans = insert_of a ∷ silence_a ∷ []

abbrev minute : Setting
minute = setting_with 60_000 upkeep [] whole

abbrev silent_start : Scene
silent_start = opening_scene minute enough silent_plans

abbrev silent_inserted : Scene
silent_inserted = after_plan silent_start (insert_of a) (silence_a ∷ [])

abbrev silent_silenced : Scene
silent_silenced = after_plan silent_inserted silence_a []

abbrev silent_begun : Scene
silent_begun = after_taking silent_silenced 30_000 (reply.Quiet group_a 0)

abbrev silent_idle : Scene
silent_idle = after_nothing silent_begun 30_000

to_silent_inserted : Steps minute silent_start silent_inserted
unfolding Steps next
to_silent_inserted = (refl, refl)

to_silent_silenced : Steps minute silent_inserted silent_silenced
unfolding Steps next
to_silent_silenced = (refl, refl)

to_silent_begun : Steps minute silent_silenced silent_begun
unfolding Steps next
to_silent_begun = refl

to_silent_idle : Steps minute silent_begun silent_idle
unfolding Steps next
to_silent_idle = refl

silent_over : next minute silent_idle ≡ None
unfolding next
silent_over = refl

silent_play : PlaysTo minute enough silent_plans silent_idle.board silent_idle.events
silent_play =
    record {
      last = silent_idle;
      reached = (4, (silent_begun, (silent_silenced, (silent_inserted, (silent_start, refl, to_silent_inserted), to_silent_silenced), to_silent_begun), to_silent_idle));
      over = silent_over;
      board_is = refl;
      events_are = refl;
    }

abbrev silent : PlaybackData
silent = played silent_idle

abbrev silent_part : PartData
silent_part = whole_part enough 60_000 silent_plans

silent_served : IsServed (setting_of_part upkeep [] silent_part) enough group_a
silent_served = record { reached = refl; runs = refl; ends = omega arith; places = omega arith }

silent_span : spans_in (silent ∷ []) labels_a ≡ Some (only (fires_with (Muted 0 0)))
silent_span = refl

silent_listed : missed_of true (fires_with (Muted 0 0)) (hook (Muted 0 0)) ≡ Some (Page (Muted 0 0))
silent_listed = refl

abbrev silent_call : Record
silent_call =
    entry 0 (call.Silence 5_000 1 (record { name = codes "alertname"; op = Equal; value = codes "A" } ∷ []) 5_000 100_000) (reply.Silenced (record { replaced = false }))

abbrev silent_insert : InsertData
silent_insert = insert_a silent silent_part (silent_call ∷ entry 0 (call.Begin 30_000) (reply.Quiet group_a 0) ∷ nothing_due 30_000 ∷ [])

silent_inserts : IsInsertIn (silent_part ∷ []) (silent ∷ []) labels_a 0 silent_insert
silent_inserts = record { dispatchers = refl; part = refl; records = refl; inserts = refl; spans = refl; leads = refl }

silent_latest : latest_after silent_insert ≡ 30_000
silent_latest = refl

silent_early : 30_000 < silent_part.until
silent_early = omega arith

silent_then : IsBegunWithout labels_a 0 silent_insert 30_000
silent_then =
    record {
      between = silent_call ∷ [];
      taking = entry 0 (call.Begin 30_000) (reply.Quiet group_a 0);
      later = nothing_due 30_000 ∷ [];
      records = refl;
      takes = refl;
      in_time = omega arith;
      why = inl refl;
    }

-- ---- left out: that no outage is of the receiver; its notice is refused after forty seconds, and nothing mutes A

abbrev hangs : Outage
hangs = record { receiver = codes "team"; integration = None; from = 0; to = None; answer = Never; takes = 40_000 }

abbrev held_up : Setting
held_up = setting_with 100_000 upkeep (hangs ∷ []) whole

abbrev refused : Report
refused = record { board_id = 1; ticket = 1; integration = 0; outcome = Refused; attempts = 1; ended = 70_000 }

abbrev hanging : SendingData
hanging = record { ticket = first_ticket notice_a; begin = 0; ends = record { at = 70_000; index = 0; report = Some refused } ∷ [] }

abbrev refused_sending : SendingData
refused_sending = record { ticket = record (first_ticket notice_a) { outcomes = (0, Refused) ∷ [] }; begin = 0; ends = [] }

abbrev hung_start : Scene
hung_start = opening_scene held_up enough (insert_of a ∷ [])

abbrev hung_inserted : Scene
hung_inserted = after_plan hung_start (insert_of a) []

abbrev hung_flushed : Scene
hung_flushed = with_sending hanging (after_taking hung_inserted 30_000 (flush_reply 1 group_a 330_000 (notice_a ∷ [])))

abbrev hung_idle : Scene
hung_idle = after_nothing hung_flushed 30_000

abbrev hung_failed : Scene
hung_failed = record hung_idle { events = hung_idle.events ++ Sent 0 refused ∷ []; sendings = refused_sending ∷ []; clock = 70_000 }

abbrev hung_freed : Scene
hung_freed = after_finish hung_failed 0 refused_sending

hanging_ends : AreEndsOf (answers_for held_up hung_inserted.board group_a) None 30_000 0 (notice_a ∷ []) hanging.ends
hanging_ends = (
  (
    refl,
    refl,
    (
      refl,
      (
        record {
          names = (refl, refl, refl);
          responses = record { answer = Never; ended = 70_000 } ∷ [];
          answered = All-cons (IsAnsweredBy (answers_for held_up hung_inserted.board group_a)) _ [] refl (All-nil (IsAnsweredBy (answers_for held_up hung_inserted.board group_a)));
          has = refl;
          attempts_are = refl;
          end_is = refl;
        },
        refl,
      ),
    ),
  ),
  tt,
)

to_hung_inserted : Steps held_up hung_start hung_inserted
unfolding Steps next
to_hung_inserted = (refl, refl)

to_hung_flushed : Steps held_up hung_inserted hung_flushed
unfolding Steps next
to_hung_flushed = (hanging, refl, refl, hanging_ends, refl)

to_hung_idle : Steps held_up hung_flushed hung_idle
unfolding Steps next
to_hung_idle = refl

to_hung_failed : Steps held_up hung_idle hung_failed
unfolding Steps next
to_hung_failed = refl

to_hung_freed : Steps held_up hung_failed hung_freed
unfolding Steps next
to_hung_freed = refl

hung_over : next held_up hung_freed ≡ None
unfolding next
hung_over = refl

hung_play : PlaysTo held_up enough (insert_of a ∷ []) hung_freed.board hung_freed.events
hung_play =
    record {
      last = hung_freed;
      reached = (5, (hung_failed, (hung_idle, (hung_flushed, (hung_inserted, (hung_start, refl, to_hung_inserted), to_hung_flushed), to_hung_idle), to_hung_failed), to_hung_freed));
      over = hung_over;
      board_is = refl;
      events_are = refl;
    }

abbrev hung : PlaybackData
hung = played hung_freed

abbrev hung_part : PartData
hung_part = whole_part enough 100_000 (insert_of a ∷ [])

hung_unserved : has_no_outage (route_of enough group_a).receiver (setting_of_part upkeep (hangs ∷ []) hung_part).outages ≡ false
hung_unserved = refl

hung_span : spans_in (hung ∷ []) labels_a ≡ Some (only (fires_with Failed))
hung_span = refl

hung_listed : missed_of true (fires_with Failed) (hook Failed) ≡ Some (Page Failed)
hung_listed = refl

abbrev hung_begin : Record
hung_begin = entry 0 (call.Begin 30_000) (flush_reply 1 group_a 330_000 (notice_a ∷ []))

abbrev hung_later : List Record
hung_later = hung_begin ∷ nothing_due 30_000 ∷ finish 70_000 1 ((0, Refused) ∷ []) 0 0 ∷ []

abbrev hung_insert : InsertData
hung_insert = insert_a hung hung_part hung_later

hung_inserts : IsInsertIn (hung_part ∷ []) (hung ∷ []) labels_a 0 hung_insert
hung_inserts = record { dispatchers = refl; part = refl; records = refl; inserts = refl; spans = refl; leads = refl }

one_integration : length (integrations_of enough group_a) ≡ 1
one_integration = refl

-- the first of these records, and the others
first : Record → List Record → Record
first q [] = q
first q (x ∷ xs) = x

others : List Record → List Record
others [] = []
others (x ∷ xs) = xs

hung_untaken : (q x : Record) → takes group_a q.reply ≡ false → q ≡ x → takes group_a x.reply ≡ true → ⊥
hung_untaken q x untaken is taken = false≢true (sym untaken ∙ ap (λ (r : Record). takes group_a r.reply) is ∙ taken)

-- the law refuses it
hung_refused : (hung_part.until ≤ latest_after hung_insert) ⊎ IsBegunWithout labels_a 0 hung_insert (latest_after hung_insert) → ⊥
unfolding first others
hung_refused (inl early) = let end : 100_000 ≤ 30_000 = early in absurd (omega (arith, end))
hung_refused (inr w) = by w.between w.taking w.later w.records w.takes w.why
  where
    at_begin : (later : List Record)
        → (is_muted_at (taking_after hung_insert [] hung_begin later) labels_a ≡ true) ⊎ IsOverAt labels_a 0 (taking_after hung_insert [] hung_begin later) → ⊥
    at_begin later (inl muted) = false≢true muted
    at_begin later (inr over) = by_end over
      where
        by_end : (0 < 0) ⊎ (has_come None 30_000 ≡ true) → ⊥
        by_end (inl another) = absurd (omega (arith, another))
        by_end (inr come) = false≢true come

    by : (between : List Record) (taking : Record) (later : List Record) → hung_later ≡ between ++ taking ∷ later → takes group_a taking.reply ≡ true
        → (is_muted_at (taking_after hung_insert between taking later) labels_a ≡ true) ⊎ IsOverAt labels_a 0 (taking_after hung_insert between taking later) → ⊥
    by [] taking later is taken why =
        at_begin later
        (subst (λ (q : Record). (is_muted_at (taking_after hung_insert [] q later) labels_a ≡ true) ⊎ IsOverAt labels_a 0 (taking_after hung_insert [] q later)) (sym (ap (first hung_begin) is)) why)
    by (x ∷ []) taking later is taken why = hung_untaken (nothing_due 30_000) taking refl (ap (λ l. first taking (others l)) is) taken
    by (x ∷ y ∷ []) taking later is taken why = hung_untaken (finish 70_000 1 ((0, Refused) ∷ []) 0 0) taking refl (ap (λ l. first taking (others (others l))) is) taken
    by (x ∷ y ∷ z ∷ rest) taking later is taken why = let long = length-append rest (taking ∷ later) in absurd (omega (arith, ap length is, long))
