-- No span is missed in time: at the flush that comes by then, the alert is muted or the span is over, since what it notifies of is delivered.
use Rattle.std.proofs.Common.{◌≡◌, ◌∙◌, ℕ, ◌≤◌, Bool, true, false, cond, not, ◌&&◌, ◌||◌, List, [], ◌∷◌, ◌++◌, append_assoc, map, slice_index_or, Option, Some, None, ◌⊎◌, inl, inr, refl, sym, ap, subst, arith}
use Rattle.std.specs.Prelude.{is_some}
use Rattle.std.proofs.lemmas.Bool.{false≢true}
use Rattle.am_alerts.specs.declared.labels.Label.{Label}
use Rattle.am_board.specs.History.{BoardData}
use Rattle.am_model.specs.Configured.{integrations_of}
use Rattle.am_model.specs.look_back.Presence.{goes_to, inserts}
use Rattle.am_simulation.specs.Play.{PlaysTo}
use Rattle.am_simulation.specs.Playing.{PlaysPart, loaded_plans, setting_of_part}
use Rattle.am_simulation.specs.Scene.{Setting}
use Rattle.am_terms.specs.declared.event.Event.{Event}
use Rattle.am_terms.specs.declared.rehearsal.TimedAction.{TimedAction}
use Rattle.am_timeline.specs.Playback.{PlaybackData}
use Rattle.am_undelivered.specs.Spans.{SpanData, is_unflushed}
use Rattle.am_undelivered.specs.Undelivered.{is_seen, missed_of}
use Rattle.am_undelivered.specs.declared.fate.Fate.{Fate}
use Rattle.am_undelivered.specs.declared.fate.Fate.TheVariants.{Failed, Muted, Seen, Unflushed, Unlisted}
use Rattle.am_undelivered.specs.declared.missed.Missed.TheVariants.{Clear, Page}
use Rattle.am_undelivered.specs.declared.recipient.Recipient.{Recipient}
use Rattle.am_missed.specs.Causes.{ComesIn, Explains, FailsAt, HasRun, IsTakenIn, TakenData, is_muted_at}
use Rattle.am_missed.proofs.Causes.{listed-page}
use Rattle.am_plays.specs.PlaysInTime.{IsServed}
use Rattle.am_missed_in_plays.specs.Rehearsals.{parts_with, playback_of}
use Rattle.am_missed_in_plays.specs.SpansInTime.{InsertData, IsBegunWithout, IsOverAt, NoSpanIsMissedInTime, latest_after, taking_after}
use Rattle.am_missed_in_plays.proofs.Begun.{IsBegunBy, begun_in_time}
use Rattle.am_missed_in_plays.proofs.Delivered.{page-delivered}
use Rattle.am_missed_in_plays.proofs.HaveRun.{IsAtPlace, at-place, has-run, own-play, rehearsals_have_causes}
use Rattle.am_missed_in_plays.proofs.Reached.{comes-or-over}

-- a playback is that of a play in a setting
record IsPlayOf (r : Setting) (playback : PlaybackData) : Type 0 where
  plans : List TimedAction
  board : BoardData
  events : List Event
  play : PlaysTo r playback.config plans board events
  history : board.history ≡ playback.history

-- where each notice is delivered, a cause is that the alert is muted
excuses : (is_last : Bool) (span : SpanData) (r : Recipient) (k : TakenData) (labels : List Label) (i : ℕ) (fate : Fate) → missed_of is_last span r ≡ Some (Page fate) → (FailsAt k labels i → ⊥) → Explains fate k labels i → is_muted_at k labels ≡ true
excuses is_last span r k labels i Unflushed listed delivered h = absurd h
excuses is_last span r k labels i Unlisted listed delivered h = absurd h
excuses is_last span r k labels i (Muted part begin) listed delivered h = h
excuses is_last span r k labels i Failed listed delivered (inl h) = h
excuses is_last span r k labels i Failed listed delivered (inr fails) = absurd (delivered fails)
excuses is_last span r k labels i Seen listed delivered h =
    absurd (impossible (is_seen r.page) (r.resolves && (is_some span.ends && (not (is_seen r.clear) && (is_last || not (is_unflushed r.clear))))) (ap is_seen (listed-page is_last span r Seen listed)) listed)
  where
    impossible : (seen clear : Bool) → seen ≡ true → cond (not seen) (Some (Page r.page)) (cond clear (Some (Clear r.clear)) None) ≡ Some (Page Seen) → ⊥
    impossible false clear seen e = false≢true seen
    impossible true true seen e = cc
    impossible true false seen e = cc

pub no_span_is_missed_in_time : NoSpanIsMissedInTime
no_span_is_missed_in_time rehearsal changes played are labels s position span is_last in_rehearsal at_position i ins served index d within fate listed receiver j e less at kind =
    by (begun_in_time r i.playback.config own.plans own.board own.events own.play i.name served labels ins.leads i.earlier i.insert i.later records ins.inserts)
  where
    r : Setting
    r = setting_of_part rehearsal.upkeep rehearsal.outages.items i.part

    place : IsAtPlace rehearsal.upkeep rehearsal.outages.items i.part i.playback
    place =
        at-place rehearsal.upkeep rehearsal.outages.items None (parts_with rehearsal changes) played are i.before i.playback i.after i.part ins.dispatchers ins.part

    own : IsPlayOf r i.playback
    own =
        let board : BoardData = place.played.played.value.board in
        let plans = loaded_plans place.before i.part in
        let events = place.played.played.value.events.items in
        subst (IsPlayOf r) place.is
        (record { plans = plans; board = board; events = events; play = own-play r i.part.config plans board events place.plays.plays; history = refl })

    ran : HasRun i.playback
    ran =
        let ends = served.ends in
        subst HasRun place.is (has-run rehearsal.upkeep rehearsal.outages.items place.before i.part place.played (omega (arith, ends)) place.plays)

    records : own.board.history ≡ i.earlier ++ i.insert ∷ i.later
    records = own.history ∙ ins.records

    by : (r.until ≤ latest_after i) ⊎ IsBegunBy r i.playback.config own.plans own.board own.events own.play i.name served labels ins.leads i.earlier i.insert i.later records ins.inserts
        → (i.part.until ≤ latest_after i) ⊎ IsBegunWithout labels position i (latest_after i)
    by (inl early) = inl early
    by (inr f) =
        inr (record { between = f.between; taking = f.taking; later = f.rest; records = f.is; takes = f.taken; in_time = f.come; why = why (comes-or-over i ran labels position ins.records ins.inserts ins.spans f.between f.taking f.rest ins.leads) })
      where
        k : TakenData
        k = taking_after i f.between f.taking f.rest

        split : i.earlier ++ i.insert ∷ i.later ≡ k.earlier ++ f.taking ∷ f.rest
        split = ap (λ l. i.earlier ++ i.insert ∷ l) f.is ∙ sym (append_assoc i.earlier (i.insert ∷ f.between) (f.taking ∷ f.rest))

        taken_in : IsTakenIn (map playback_of played) k
        taken_in = record { dispatchers = ins.dispatchers; records = ins.records ∙ split; takes = f.taken }

        why : ComesIn labels position k ⊎ IsOverAt labels position k → (is_muted_at k labels ≡ true) ⊎ IsOverAt labels position k
        why (inr over) = inr over
        why (inl comes) =
            inl (excuses is_last span (slice_index_or span.recipients index d) k labels (slice_index_or (integrations_of i.playback.config i.name) j e).0 fate listed
            (λ fails. false≢true (sym fails.undelivered ∙ page-delivered r i.playback.config own.plans own.board own.events own.play i.name served labels (slice_index_or (integrations_of i.playback.config i.name) j e).0 k.earlier f.taking f.rest (records ∙ split) f.taken fails.sent))
            (rehearsals_have_causes rehearsal changes played are labels s position span is_last in_rehearsal at_position index d within fate listed k taken_in comes receiver j e less at kind))
