-- PlaysDeliver: in a play, pages are delivered in time to a receiver that no outage names.
use Rattle.std.specs.Prelude.{◌≡◌, ◌==◌, ℕ, ◌<◌, ◌≤◌, Bool, true, false, ◌&&◌, ◌||◌, All, List, [], ◌∷◌}
use Rattle.std.specs.List.{list_all}
use Rattle.am_alerts.specs.declared.labels.Label.{Label}
use Rattle.am_retry.specs.declared.outcome.Outcome.{Outcome}
use Rattle.am_model.specs.declared.config.Config.{Config}
use Rattle.am_model.specs.declared.group.GroupName.{GroupName}
use Rattle.am_model.specs.declared.record.Call.{Call}
use Rattle.am_model.specs.declared.record.Call.TheVariants.{Insert, Silence, Begin, Finish, Maintain, RemoveEmptyGroups, Forget, Load, Note}
use Rattle.am_model.specs.declared.record.Record.{Record}
use Rattle.am_model.specs.Configured.{integrations_of}
use Rattle.am_model.specs.Finish.{is_delivered}
use Rattle.am_model.specs.Notice.{NoticeData, is_nothing}
use Rattle.am_model.specs.Ticket.{outcome_of}
use Rattle.am_model.specs.look_back.Past.{AtEach, Past, begin_of, notices_in, past_of, time_at}
use Rattle.am_paging.specs.InTime.{AtSome, HearsBy, begun_by, is_finish_of, past_until}
use Rattle.am_paging.specs.Paging.{is_due_a_page}
use Rattle.am_simulation.specs.Scene.{Setting}
use Rattle.am_plays.specs.PlaysInTime.{IsServed}

-- whether outcomes report a notice delivered, or it has nothing to send
abbrev pub reports_delivered : List (ℕ × Outcome) → NoticeData → Bool
reports_delivered outcomes n = is_nothing n || is_delivered (outcome_of outcomes n.integration)

-- whether the flush at the head was begun at t, and outcomes report so of each of its notices
abbrev pub is_delivered_at : ℕ → List (ℕ × Outcome) → Past → Bool
is_delivered_at t outcomes [] = false
is_delivered_at t outcomes (r ∷ past) = (time_at (r ∷ past) == t) && list_all (reports_delivered outcomes) (notices_in r.reply)

-- whether a call at t, with this past, finishes a flush that was begun at t, and reports so of each of its notices
abbrev pub delivers_all : ℕ → Past → Call → Bool
delivers_all t past (Insert now alert) = false
delivers_all t past (Silence now id matchers start end) = false
delivers_all t past (Begin now) = false
delivers_all t past (Finish now number outcomes) = is_delivered_at t outcomes (begin_of number past)
delivers_all t past (Maintain now) = false
delivers_all t past (RemoveEmptyGroups now) = false
delivers_all t past (Forget now) = false
delivers_all t past (Load now row) = false
delivers_all t past (Note now number integration outcome) = false

-- where a record finishes a flush of a group, the flush was begun at the same time, and each of its notices is reported delivered, if it
-- has something to send
abbrev pub Delivers : GroupName → Record → Past → Type 0
Delivers name q past = is_finish_of name past q.call ≡ true → delivers_all (time_at (q ∷ past)) past q.call ≡ true

-- each record does so for each group that is served
abbrev pub FlushesDeliver : Setting → Config → List Record → Type 0
FlushesDeliver r config history = (name : GroupName) → IsServed r config name → AtEach (Delivers name) (past_of history)

-- a label set is due a page of a group from x up to y: at each record after x and by y, and at y itself
pub record IsDueFromTo (config : Config) (name : GroupName) (labels : List Label) (x y : ℕ) (past : Past) : Type 0 where
  pub each : AtEach (λ q past. x < time_at (q ∷ past) → time_at (q ∷ past) ≤ y
      → is_due_a_page config name labels (time_at (q ∷ past)) past ≡ true) past
  pub last : is_due_a_page config name labels y (past_until y past) ≡ true

-- where a label set is due a page of a group that is served from x up to y, and the latest time comes before y, each integration of the
-- receiver hears of it by that time: a record reports delivered a notice that lists it, or begins the group and the integration has heard
abbrev pub PlaysDeliverInTime : Setting → Config → List Record → Type 0
PlaysDeliverInTime r config history =
    (name : GroupName) (labels : List Label) (x y : ℕ) → IsServed r config name → y ≤ r.until
    → IsDueFromTo config name labels x y (past_of history) → begun_by config name 0 x (past_of history) < y
    → All (λ i. AtSome (HearsBy config name i.0 labels x (begun_by config name 0 x (past_of history))) (past_of history))
    (integrations_of config name)
