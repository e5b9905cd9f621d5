-- PlaysRecover: once the outages of a receiver are over, its sendings succeed, or their group is due again soon; so pages come.
use Rattle.std.specs.Prelude.{◌≡◌, ℕ, ◌+◌, ◌<◌, ◌≤◌, max, min, Bool, true, false, not, ◌&&◌, ◌||◌, ◌⊎◌, nat_le, All, List, [], ◌∷◌, Option}
use Rattle.std.specs.List.{list_all}
use Rattle.std.specs.Str.{bytes_eq}
use Rattle.am_alerts.specs.declared.labels.Label.{Label}
use Rattle.am_alerts.specs.declared.limits.TheConstants.{MAX_TIME}
use Rattle.am_retry.specs.Outcome.{is_never}
use Rattle.am_retry.specs.declared.outcome.Outcome.{Outcome}
use Rattle.am_model.specs.declared.config.Config.{Config}
use Rattle.am_model.specs.declared.group.GroupName.{GroupName}
use Rattle.am_model.specs.declared.notice.TheConstants.{MIN_FLUSH_TIMEOUT}
use Rattle.am_model.specs.declared.notice.Report.{Report}
use Rattle.am_model.specs.declared.record.Call.{Call}
use Rattle.am_model.specs.declared.record.Call.TheVariants.{Insert, Silence, Begin, Finish, Maintain, RemoveEmptyGroups, Forget, Load, Note}
use Rattle.am_model.specs.declared.record.Record.{Record}
use Rattle.am_model.specs.Configured.{integrations_of, route_of}
use Rattle.am_model.specs.Notice.{NoticeData}
use Rattle.am_model.specs.look_back.Past.{AtEach, Past, begin_of, notices_in, past_of, takes, time_at}
use Rattle.am_paging.specs.InTime.{AtSome, HearsBy, begun_by, is_finish_of, past_until}
use Rattle.am_paging.specs.Paging.{HasHeard, is_due_a_page, pages, reports_page}
use Rattle.am_pool.specs.Sendings.{end_on}
use Rattle.am_simulation.specs.Answers.{IsOutcome, answer_of, is_over}
use Rattle.am_simulation.specs.Scene.{Setting}
use Rattle.am_simulation.specs.Steps.{is_success}
use Rattle.am_terms.specs.declared.rehearsal.Outage.{Outage}
use Rattle.am_plays.specs.PlaysDeliver.{IsDueFromTo, reports_delivered}
use Rattle.am_plays.specs.PlaysInTime.{runs_past}

-- ---- one sending

-- whether a receiver recovers by x: each of its outages is over by then, refuses no attempt for good, and lets none take longer than d
abbrev pub recovers : ℕ → ℕ → List ℕ → List Outage → Bool
recovers x d receiver outages =
    list_all (λ o. not (bytes_eq o.receiver receiver) || (is_over x o.to && (not (is_never o.answer) && nat_le o.takes d))) outages

-- by when each sending is over that began before x: the longest wait, a minute, and one attempt later
abbrev pub recovered_by : ℕ → ℕ → ℕ
recovered_by x d = x + d + 60_000

-- a sending of a notice from a time on, with its report, is over by then, or at once if that is later; and it is a success, or a minute
-- after its end the notice's deadline is over, and by then
pub record ComesThrough (x d at : ℕ) (n : NoticeData) (report : Option Report) : Type 0 where
  pub over : end_on at report ≤ max at (recovered_by x d)
  pub delivered : (is_success report ≡ true) ⊎ (n.deadline ≤ min (end_on at report + 60_000) (recovered_by x d))

-- law: so is each sending to a receiver that recovers by x, before the notice's deadline and where its dispatcher isn't stopped until then
abbrev pub SendingsComeThrough : Type 0
SendingsComeThrough =
    (cut : Option ℕ) (outages : List Outage) (receiver : List ℕ) (x d at : ℕ) (n : NoticeData) (report : Option Report)
    → recovers x d receiver outages ≡ true → runs_past (max at (recovered_by x d)) cut ≡ true → at < n.deadline
    → IsOutcome (answer_of cut outages receiver) cut at n report → ComesThrough x d at n report

-- ---- the flushes of a group

-- a group's receiver recovers by x in a rehearsal that goes on until it has: its dispatcher isn't stopped by the end, and the limit of open
-- flushes isn't below that of groups
pub record IsRecovering (r : Setting) (config : Config) (name : GroupName) (x d : ℕ) : Type 0 where
  pub recovers : recovers x d (route_of config name).receiver r.outages ≡ true
  pub goes_on : recovered_by x d ≤ r.until
  pub runs : runs_past r.until r.span.cut ≡ true
  pub ends : r.until < MAX_TIME
  pub places : config.limits.groups ≤ config.limits.flushes

-- whether each notice of the flush at the head is reported delivered, if it has something to send
abbrev pub is_all_delivered : List (ℕ × Outcome) → Past → Bool
is_all_delivered outcomes [] = false
is_all_delivered outcomes (r ∷ past) = list_all (reports_delivered outcomes) (notices_in r.reply)

-- what holds of the outcomes that a finish reports, and of the past that begins with the begin of its flush
abbrev pub OfFinish : (List (ℕ × Outcome) → Past → Type 0) → Past → Call → Type 0
OfFinish P past (Insert now alert) = Unit {0}
OfFinish P past (Silence now id matchers start end) = Unit {0}
OfFinish P past (Begin now) = Unit {0}
OfFinish P past (Finish now number outcomes) = P outcomes (begin_of number past)
OfFinish P past (Maintain now) = Unit {0}
OfFinish P past (RemoveEmptyGroups now) = Unit {0}
OfFinish P past (Forget now) = Unit {0}
OfFinish P past (Load now row) = Unit {0}
OfFinish P past (Note now number integration outcome) = Unit {0}

-- a flush that is finished at t is over by when the receiver has recovered, or at once if it was begun later; and all of it is reported
-- delivered, or its deadline is over by then, and so its group is due again
pub record EndsSoon (config : Config) (name : GroupName) (x d t : ℕ) (outcomes : List (ℕ × Outcome))
    (begin : Past) : Type 0 where
  pub over : t ≤ max (time_at begin) (recovered_by x d)
  pub delivered : (is_all_delivered outcomes begin ≡ true)
      ⊎ (time_at begin + max (route_of config name).group_interval MIN_FLUSH_TIMEOUT ≤ recovered_by x d)

-- each flush of a group whose receiver recovers ends so
abbrev pub FlushesComeThrough : Setting → Config → List Record → Type 0
FlushesComeThrough r config history =
    (name : GroupName) (x d : ℕ) → IsRecovering r config name x d
    → AtEach (λ q past. is_finish_of name past q.call ≡ true
    → OfFinish (EndsSoon config name x d (time_at (q ∷ past))) past q.call) (past_of history)

-- ---- pages

-- a record begins a flush of a group at v that notifies an integration of a label set
pub record Sends (name : GroupName) (integration : ℕ) (labels : List Label) (v : ℕ) (q : Record) (past : Past) : Type 0 where
  pub taken : takes name q.reply ≡ true
  pub pages : pages integration labels q.reply ≡ true
  pub at : time_at (q ∷ past) ≡ v

-- some record is so, and each after it is otherwise so
abbrev pub SomeThenEach : (Record → Past → Type 0) → (Record → Past → Type 0) → Past → Type 0
SomeThenEach First Later [] = ⊥
SomeThenEach First Later (q ∷ past) = First q past ⊎ (Later q past × SomeThenEach First Later past)

-- a label set is due a page of a group at a record, unless that is after y
abbrev pub StaysDue : Config → GroupName → List Label → ℕ → Record → Past → Type 0
StaysDue config name labels y q past = time_at (q ∷ past) ≤ y → is_due_a_page config name labels (time_at (q ∷ past)) past ≡ true

-- a record from a time on and by another reports delivered a notice of a group for an integration that lists a label set, or takes the
-- group and the integration has heard of the label set
pub record HearsFrom (config : Config) (name : GroupName) (integration : ℕ) (labels : List Label) (from by : ℕ) (q : Record)
    (past : Past) : Type 0 where
  pub since : from ≤ time_at (q ∷ past)
  pub in_time : time_at (q ∷ past) ≤ by
  pub reached : (reports_page name integration labels past q.call ≡ true)
      ⊎ ((takes name q.reply ≡ true) × HasHeard config name integration labels (time_at (q ∷ past)) past)

-- where a flush at v notifies an integration of a label set that stays due a page up to y, the integration hears of it by when the receiver
-- has recovered, or at v if that is later
abbrev pub PagesComeAfterOutages : Setting → Config → List Record → Type 0
PagesComeAfterOutages r config history =
    (name : GroupName) (labels : List Label) (v x d y : ℕ) → IsRecovering r config name x d → y ≤ r.until → max v (recovered_by x d) ≤ y
    → is_due_a_page config name labels y (past_until y (past_of history)) ≡ true
    → All (λ i. SomeThenEach (Sends name i.0 labels v) (StaysDue config name labels y) (past_of history)
    → AtSome (HearsFrom config name i.0 labels v (max v (recovered_by x d))) (past_of history)) (integrations_of config name)

-- where a label set is due a page of a group from s up to y, each integration of the receiver hears of it by the latest time, or by when
-- the receiver has recovered if that is later
abbrev pub PlaysDeliverAfterOutages : Setting → Config → List Record → Type 0
PlaysDeliverAfterOutages r config history =
    (name : GroupName) (labels : List Label) (s x d y : ℕ) → IsRecovering r config name x d → y ≤ r.until
    → IsDueFromTo config name labels s y (past_of history) → max (begun_by config name 0 s (past_of history)) (recovered_by x d) ≤ y
    → All
    (λ i. AtSome (HearsBy config name i.0 labels s (max (begun_by config name 0 s (past_of history)) (recovered_by x d))) (past_of history))
    (integrations_of config name)
