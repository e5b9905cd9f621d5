-- Worked rehearsals: spans that are listed with each cause and spans that aren't, and what breaks the law where a premise is left out.
use Rattle.std.proofs.Common.{◌≡◌, ℕ, ◌+◌, ◌≤◌, true, false, inl, inr, Some, None, List, [], ◌∷◌, ◌++◌, IfSome, refl, sym, arith}
use Rattle.std.specs.Prelude.{codes}
use Rattle.std.proofs.lemmas.Bool.{false≢true}
use Rattle.am_alerts.specs.AlertData.{alert_of}
use Rattle.am_alerts.specs.declared.labels.Label.{Label}
use Rattle.am_alerts.specs.declared.limits.TheConstants.{MAX_TIME}
use Rattle.am_alerts.specs.declared.matcher.Operator.TheVariants.{Equal}
use Rattle.am_retry.specs.declared.outcome.Outcome.TheVariants.{Delivered, Refused}
use Rattle.am_model.specs.declared.config.Config.{Config}
use Rattle.am_model.specs.declared.config.Integration.{Integration}
use Rattle.am_model.specs.declared.record.Call.TheVariants.{Silence}
use Rattle.am_model.specs.declared.record.Record.{Record}
use Rattle.am_model.specs.declared.record.Reply.TheVariants.{Silenced}
use Rattle.am_model.specs.Records.{entry, now_of}
use Rattle.am_model.specs.Replay.{IsLegal}
use Rattle.am_model.specs.look_back.Entry.{alert_in}
use Rattle.am_model.specs.look_back.Past.{past_of}
use Rattle.am_model.proofs.lists.Distinct.{all_from}
use Rattle.am_model.proofs.examples.Base.{a, base, ended, finish, fires, first_notice, flush, flush_hook, group_a, insert, named, notice, nothing_due, quiet, row, with_mail}
use Rattle.am_paging.specs.Paging.{HasHeard, pages}
use Rattle.am_simulation.specs.Previews.{previews_of}
use Rattle.am_timeline.specs.Playback.{PlaybackData}
use Rattle.am_undelivered.specs.Spans.{SpanData, SpansData, spans_in}
use Rattle.am_undelivered.specs.Undelivered.{missed_of}
use Rattle.am_undelivered.specs.declared.fate.Fate.{Fate}
use Rattle.am_undelivered.specs.declared.fate.Fate.TheVariants.{Failed, Muted, Seen, Unflushed, Unlisted}
use Rattle.am_undelivered.specs.declared.missed.Missed.TheVariants.{Page}
use Rattle.am_undelivered.specs.declared.recipient.Recipient.{Recipient}
use Rattle.am_missed.specs.Causes.{ComesIn, ExplainsEach, FailsAt, HasRun, IsShown, IsTakenIn, TakenData, is_muted_at}

abbrev labels_a : List Label
labels_a = named (codes "A")

-- a dispatcher with this history
abbrev played : Config → List Record → PlaybackData
played config history = record { config = config; history = history; begins = previews_of config history; events = [] }

-- the integrations of the team, with what came of them
abbrev hook : Fate → Fate → Recipient
hook page clear = record { receiver = codes "team"; kind = codes "hook"; index = 0; resolves = true; page = page; clear = clear }

abbrev mail : Fate → Fate → Recipient
mail page clear = record { receiver = codes "team"; kind = codes "mail"; index = 0; resolves = true; page = page; clear = clear }

-- the only span of a label set, under one dispatcher
abbrev one_span : SpanData → SpansData
one_span span = record { before = []; last = span; part = 0 }

-- A fires from 0 on, and ends at this time
abbrev from_0_to : ℕ → List Recipient → SpanData
from_0_to end rs = record { since = 0; ends = Some end; recipients = rs }

-- a record that takes A's group, under the only dispatcher
abbrev taking_a : PlaybackData → List Record → Record → List Record → TakenData
taking_a p earlier taking later =
    record { before = []; playback = p; after = []; earlier = earlier; taking = taking; later = later; name = group_a }

abbrev end_of_a : ℕ → Record
end_of_a now = insert now (ended labels_a 0 now) 2 1 0

-- ---- no flush: A is over before its group is begun

abbrev short : List Record
short = insert 0 a 1 1 1 ∷ end_of_a 10_000 ∷ []

short_ran : HasRun (played base short)
short_ran =
    record {
      id = 7;
      legal = (refl, (refl, tt));
      begins = refl;
      times = all_from (λ r. IfSome (alert_in r.call) (λ x. now_of r.call ≤ MAX_TIME)) short (omega arith, (omega arith, tt));
    }

short_span : spans_in (played base short ∷ []) labels_a ≡ Some (one_span (from_0_to 10_000 (hook Unflushed Unflushed ∷ [])))
short_span = refl

short_listed : missed_of true (from_0_to 10_000 (hook Unflushed Unflushed ∷ [])) (hook Unflushed Unflushed) ≡ Some (Page Unflushed)
short_listed = refl

-- ---- muted: a silence holds at the only flush in the span

abbrev silence_a : Record
silence_a =
    entry 0 (Silence 5_000 1 (record { name = codes "alertname"; op = Equal; value = codes "A" } ∷ []) 5_000 100_000) (Silenced (record { replaced = false }))

abbrev silenced : List Record
silenced = insert 0 a 1 1 1 ∷ silence_a ∷ []

abbrev after_silenced : List Record
after_silenced = end_of_a 60_000 ∷ []

abbrev muted : PlaybackData
muted = played base (silenced ++ quiet 30_000 group_a 0 ∷ after_silenced)

muted_ran : HasRun muted
muted_ran =
    record {
      id = 7;
      legal = (refl, (refl, (refl, (refl, tt))));
      begins = refl;
      times = all_from (λ r. IfSome (alert_in r.call) (λ x. now_of r.call ≤ MAX_TIME)) muted.history (omega arith, (tt, (tt, (omega arith, tt))));
    }

muted_span : spans_in (muted ∷ []) labels_a ≡ Some (one_span (from_0_to 60_000 (hook (Muted 0 0) Unflushed ∷ [])))
muted_span = refl

muted_listed : missed_of true (from_0_to 60_000 (hook (Muted 0 0) Unflushed ∷ [])) (hook (Muted 0 0) Unflushed) ≡ Some (Page (Muted 0 0))
muted_listed = refl

abbrev muted_taking : TakenData
muted_taking = taking_a muted silenced (quiet 30_000 group_a 0) after_silenced

muted_taken : IsTakenIn (muted ∷ []) muted_taking
muted_taken = record { dispatchers = refl; records = refl; takes = refl }

muted_comes : ComesIn labels_a 0 muted_taking
muted_comes =
    record { spans = one_span (record { since = 0; ends = None; recipients = hook Unflushed Unflushed ∷ [] }); known = refl; last = refl; fires = refl; inserted = refl; leads = refl }

muted_then : is_muted_at muted_taking labels_a ≡ true
muted_then = refl

-- without this cause the law would be broken: no notice failed
muted_not_failed : FailsAt muted_taking labels_a 0 → ⊥
muted_not_failed fails = false≢true fails.sent

-- ---- failed: the receiver refuses the only notice

abbrev until_begin : List Record
until_begin = insert 0 a 1 1 1 ∷ nothing_due 29_999 ∷ []

abbrev begin_a : Record
begin_a = flush_hook 30_000 1 group_a 330_000 (a ∷ []) []

abbrev refused : List Record
refused = finish 31_000 1 ((0, Refused) ∷ []) 0 0 ∷ end_of_a 60_000 ∷ []

abbrev failed : PlaybackData
failed = played base (until_begin ++ begin_a ∷ refused)

failed_ran : HasRun failed
failed_ran =
    record {
      id = 7;
      legal = (refl, (refl, (refl, (refl, (refl, tt)))));
      begins = refl;
      times = all_from (λ r. IfSome (alert_in r.call) (λ x. now_of r.call ≤ MAX_TIME)) failed.history (omega arith, (tt, (tt, (tt, (omega arith, tt)))));
    }

failed_span : spans_in (failed ∷ []) labels_a ≡ Some (one_span (from_0_to 60_000 (hook Failed Unflushed ∷ [])))
failed_span = refl

failed_listed : missed_of true (from_0_to 60_000 (hook Failed Unflushed ∷ [])) (hook Failed Unflushed) ≡ Some (Page Failed)
failed_listed = refl

abbrev failed_taking : TakenData
failed_taking = taking_a failed until_begin begin_a refused

failed_taken : IsTakenIn (failed ∷ []) failed_taking
failed_taken = record { dispatchers = refl; records = refl; takes = refl }

failed_comes : ComesIn labels_a 0 failed_taking
failed_comes =
    record { spans = one_span (record { since = 0; ends = None; recipients = hook Unflushed Unflushed ∷ [] }); known = refl; last = refl; fires = refl; inserted = refl; leads = refl }

failed_then : FailsAt failed_taking labels_a 0
failed_then = record { sent = refl; undelivered = refl }

-- without this cause the law would be broken: nothing mutes A
failed_not_muted : is_muted_at failed_taking labels_a ≡ false
failed_not_muted = refl

-- ---- not listed: the notice is delivered, so the flush has neither cause

abbrev reported : List Record
reported = finish 31_000 1 ((0, Delivered) ∷ []) 1 0 ∷ []

abbrev delivered : PlaybackData
delivered = played base (until_begin ++ begin_a ∷ reported)

delivered_span : spans_in (delivered ∷ []) labels_a ≡ Some (one_span (record { since = 0; ends = None; recipients = hook Seen Unflushed ∷ [] }))
delivered_span = refl

delivered_unlisted : missed_of true (record { since = 0; ends = None; recipients = hook Seen Unflushed ∷ [] }) (hook Seen Unflushed) ≡ None
delivered_unlisted = refl

abbrev delivered_taking : TakenData
delivered_taking = taking_a delivered until_begin begin_a reported

delivered_not_muted : is_muted_at delivered_taking labels_a ≡ false
delivered_not_muted = refl

delivered_shown : IsShown (delivered ∷ []) labels_a 0 (hook Seen Unflushed) Seen
delivered_shown =
    record {
      flush = delivered_taking;
      taken = record { dispatchers = refl; records = refl; takes = refl };
      comes = record { spans = one_span (record { since = 0; ends = None; recipients = hook Unflushed Unflushed ∷ [] }); known = refl; last = refl; fires = refl; inserted = refl; leads = refl };
      receiver = refl;
      place = 0;
      named = refl;
      shows = inl (refl, refl);
    }

delivered_not_failed : FailsAt delivered_taking labels_a 0 → ⊥
delivered_not_failed fails = false≢true (sym fails.undelivered)

-- ---- of two integrations one is listed

abbrev begin_both : Record
begin_both = flush 30_000 1 group_a 330_000 (notice 1 330_000 group_a 0 (a ∷ []) [] ∷ notice 1 330_000 group_a 1 (a ∷ []) [] ∷ [])

abbrev one_refused : List Record
one_refused = finish 31_000 1 ((0, Delivered) ∷ (1, Refused) ∷ []) 1 0 ∷ []

both_legal : IsLegal with_mail 7 (until_begin ++ begin_both ∷ one_refused)
both_legal = (refl, (refl, (refl, (refl, tt))))

both_span : spans_in (played with_mail (until_begin ++ begin_both ∷ one_refused) ∷ []) labels_a
    ≡ Some (one_span (record { since = 0; ends = None; recipients = hook Seen Unflushed ∷ mail Failed Unflushed ∷ [] }))
both_span = refl

-- ---- not listed: A fires again before the next flush, at which the integration has heard

abbrev again : List Record
again = first_notice ++ end_of_a 60_000 ∷ insert 100_000 (fires labels_a 100_000) 3 1 0 ∷ []

again_legal : IsLegal base 7 (again ++ quiet 330_000 group_a 0 ∷ [])
again_legal = (refl, (refl, (refl, (refl, (refl, (refl, (refl, tt)))))))

again_span : spans_in (played base (again ++ quiet 330_000 group_a 0 ∷ []) ∷ []) labels_a
    ≡ Some (record { before = from_0_to 60_000 (hook Seen Unflushed ∷ []) ∷ []; last = record { since = 100_000; ends = None; recipients = hook Seen Unflushed ∷ [] }; part = 0 })
again_span = refl

again_unpaged : pages 0 labels_a (quiet 330_000 group_a 0).reply ≡ false
again_unpaged = refl

again_heard : HasHeard base group_a 0 labels_a 330_000 (past_of again)
again_heard = record { row = row group_a 0 30_000 28_830_000 (labels_a ∷ []) []; entry = refl; lists = refl; recent = omega arith; paged = refl }

abbrev again_then : SpansData
again_then =
    record { before = from_0_to 60_000 (hook Seen Unflushed ∷ []) ∷ []; last = record { since = 100_000; ends = None; recipients = hook Unflushed Unflushed ∷ [] }; part = 0 }

again_shown : IsShown (played base (again ++ quiet 330_000 group_a 0 ∷ []) ∷ []) labels_a 1 (hook Seen Unflushed) Seen
again_shown =
    record {
      flush = taking_a (played base (again ++ quiet 330_000 group_a 0 ∷ [])) again (quiet 330_000 group_a 0) [];
      taken = record { dispatchers = refl; records = refl; takes = refl };
      comes = record { spans = again_then; known = refl; last = refl; fires = refl; inserted = refl; leads = refl };
      receiver = refl;
      place = 0;
      named = refl;
      shows = inr again_heard;
    }

-- ---- over a restart: the flush comes under the second dispatcher

abbrev first_part : PlaybackData
first_part = played base (insert 0 a 1 1 1 ∷ [])

abbrev restarted : List Record
restarted = insert 10_000 a 1 1 1 ∷ []

abbrev begin_late : Record
begin_late = flush_hook 40_000 1 group_a 340_000 (a ∷ []) []

abbrev refused_late : List Record
refused_late = finish 41_000 1 ((0, Refused) ∷ []) 0 0 ∷ []

abbrev second_part : PlaybackData
second_part = played base (restarted ++ begin_late ∷ refused_late)

restart_span : spans_in (first_part ∷ second_part ∷ []) labels_a
    ≡ Some (record { before = []; last = record { since = 0; ends = None; recipients = hook Failed Unflushed ∷ [] }; part = 1 })
restart_span = refl

abbrev late_taking : TakenData
late_taking =
    record { before = first_part ∷ []; playback = second_part; after = []; earlier = restarted; taking = begin_late; later = refused_late; name = group_a }

late_comes : ComesIn labels_a 0 late_taking
late_comes =
    record {
      spans = record { before = []; last = record { since = 0; ends = None; recipients = hook Unflushed Unflushed ∷ [] }; part = 1 };
      known = refl;
      last = refl;
      fires = refl;
      inserted = refl;
      leads = refl;
    }

late_fails : FailsAt late_taking labels_a 0
late_fails = record { sent = refl; undelivered = refl }

abbrev nobody : ℕ × Integration
nobody = (0, record { kind = []; send_resolved = false })

-- ---- left out: the begins aren't those of the history, and a delivered page is listed

abbrev unseen : PlaybackData
unseen = record { config = base; history = until_begin ++ begin_a ∷ reported; begins = []; events = [] }

unseen_span : spans_in (unseen ∷ []) labels_a ≡ Some (one_span (record { since = 0; ends = None; recipients = hook Unflushed Unflushed ∷ [] }))
unseen_span = refl

unseen_comes : ComesIn labels_a 0 (taking_a unseen until_begin begin_a reported)
unseen_comes =
    record { spans = one_span (record { since = 0; ends = None; recipients = hook Unflushed Unflushed ∷ [] }); known = refl; last = refl; fires = refl; inserted = refl; leads = refl }

-- the law refuses it
unseen_refused : ExplainsEach (unseen ∷ []) labels_a 0 (hook Unflushed Unflushed) Unflushed → ⊥
unseen_refused each =
    each (taking_a unseen until_begin begin_a reported) (record { dispatchers = refl; records = refl; takes = refl }) unseen_comes refl 0 nobody (omega arith) refl refl

-- ---- left out: the history isn't legal, a begin drops a page, and a flush is listed that sent nothing

abbrev dropping : PlaybackData
dropping = played base (insert 0 a 1 1 1 ∷ quiet 30_000 group_a 0 ∷ [])

dropping_span : spans_in (dropping ∷ []) labels_a ≡ Some (one_span (record { since = 0; ends = None; recipients = hook Unlisted Unflushed ∷ [] }))
dropping_span = refl

dropping_comes : ComesIn labels_a 0 (taking_a dropping (insert 0 a 1 1 1 ∷ []) (quiet 30_000 group_a 0) [])
dropping_comes =
    record { spans = one_span (record { since = 0; ends = None; recipients = hook Unflushed Unflushed ∷ [] }); known = refl; last = refl; fires = refl; inserted = refl; leads = refl }

-- the law refuses it
dropping_refused : ExplainsEach (dropping ∷ []) labels_a 0 (hook Unlisted Unflushed) Unlisted → ⊥
dropping_refused each =
    each (taking_a dropping (insert 0 a 1 1 1 ∷ []) (quiet 30_000 group_a 0) []) (record { dispatchers = refl; records = refl; takes = refl }) dropping_comes refl 0 nobody (omega arith) refl refl

-- ---- left out: inserts come after the greatest time, so a span seems to fire at a flush whose alert is over

abbrev too_late : List Record
too_late =
    insert (MAX_TIME + 10) (alert_of labels_a 0 (Some (MAX_TIME + 50))) 1 1 1
    ∷ insert (MAX_TIME + 60) (ended labels_a 0 10) 2 1 0
    ∷ []

too_late_legal : IsLegal base 7 (too_late ++ quiet MAX_TIME group_a 1 ∷ [])
too_late_legal = (refl, (refl, (refl, tt)))

too_late_span : spans_in (played base (too_late ++ quiet MAX_TIME group_a 1 ∷ []) ∷ []) labels_a
    ≡ Some (one_span (record { since = 0; ends = Some (MAX_TIME + 50); recipients = hook Unlisted Unflushed ∷ [] }))
too_late_span = refl
