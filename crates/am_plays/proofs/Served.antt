-- A play is on time for each group that is served, and delivers each flush of it.
use Rattle.std.proofs.Common.{◌≡◌, ℕ, ◌+◌, ◌<◌, ◌≤◌, max, Bool, true, false, cond, nat_lt, List, [], ◌∷◌, Option, Some, None, ◌⊎◌, inl, inr, refl, arith}
use Rattle.std.specs.Prelude.{◌==◌, find}
use Rattle.std.specs.List.{list_all}
use Rattle.std.specs.Option.{IfSome}
use Rattle.std.proofs.lemmas.Bool.{false≢true, and_from}
use Rattle.std.proofs.lemmas.Bool.Decides.{nat_tests}
use Rattle.am_retry.specs.declared.outcome.Outcome.{Outcome}
use Rattle.am_board.specs.History.{BoardData}
use Rattle.am_model.specs.declared.config.Config.{Config}
use Rattle.am_model.specs.declared.group.GroupName.{GroupName}
use Rattle.am_model.specs.declared.notice.Report.{Report}
use Rattle.am_model.specs.declared.record.Call.{Call}
use Rattle.am_model.specs.declared.record.Call.TheVariants as call
use Rattle.am_model.specs.declared.record.Record.{Record}
use Rattle.am_model.specs.Configured.{route_of}
use Rattle.am_model.specs.Notice.{NoticeData}
use Rattle.am_model.specs.State.{is_named}
use Rattle.am_model.specs.look_back.Interval.{found_empty}
use Rattle.am_model.specs.look_back.Laws.{begun_at, has_open}
use Rattle.am_model.specs.look_back.Past.{AtEach, begin_of, is_flush, notices_in, past_of, replay_past, takes, time_at}
use Rattle.am_model.proofs.looking_back.Pasts.{IsLegalPast, legal_past}
use Rattle.am_paging.specs.InTime.{IsOnTime, ended_at, is_finish_of}
use Rattle.am_pool.specs.Sendings.{end_on}
use Rattle.am_simulation.specs.Answers.{IsOutcome, answer_of, tried_until}
use Rattle.am_simulation.specs.Play.{PlaysTo}
use Rattle.am_simulation.specs.Scene.{Setting}
use Rattle.am_simulation.specs.Steps.{is_success}
use Rattle.am_simulation.specs.declared.limits.TheConstants.{BOARD_ID}
use Rattle.am_terms.specs.declared.event.Event.{Event}
use Rattle.am_terms.specs.declared.rehearsal.TimedAction.{TimedAction}
use Rattle.am_plays.specs.Plays.{ComesBy, EveryPlay}
use Rattle.am_plays.specs.PlaysDeliver.{Delivers, FlushesDeliver, delivers_all, is_delivered_at, reports_delivered}
use Rattle.am_plays.specs.PlaysInTime.{IsServed, PlaysAreOnTime, runs_past}
use Rattle.am_plays.specs.PlaysRecover.{OfFinish, is_all_delivered}
use Rattle.am_plays.proofs.Closing.{open-before}
use Rattle.am_plays.proofs.FlushesEnd.{Ended, HasEnded, flushes_end}
use Rattle.am_plays.proofs.InFlight.{time_is_still}
use Rattle.am_plays.proofs.Instant.{answer-done, outcome-instant}
use Rattle.am_plays.proofs.OnTime.{begins_when_due}
use Rattle.am_plays.proofs.Promises.{Promises}
use Rattle.am_plays.proofs.Sound.{plays_are_legal}
use Rattle.am_plays.proofs.Successes.{same-is}
use Rattle.am_plays.proofs.Words.{if_weaker}

-- ---- what a group that is served promises

-- each sending to its receiver is over at once, and a success
pub served-promise : (r : Setting) (config : Config) (name : GroupName) → IsServed r config name → Promises r config name 0 (λ deadline. ⊥)
served-promise r config name served = record { ends = served.ends; sends = sends }
  where
    early_by : (at deadline : ℕ) → at ≤ r.until → at < deadline → (cut : Option ℕ) → runs_past r.until cut ≡ true → nat_lt at (tried_until cut deadline) ≡ true
    early_by at deadline within soon None runs = grind (arith, nat_tests, soon)
    early_by at deadline within soon (Some k) runs = grind (arith, nat_tests, soon, runs, within)

    sends : (at : ℕ) (n : NoticeData) (report : Option Report) → at ≤ r.until → at < n.deadline → IsOutcome (answer_of r.span.cut r.outages (route_of config name).receiver) r.span.cut at n report
        → (end_on at report ≤ max at 0) × ((is_success report ≡ true) ⊎ ⊥)
    sends at n report within before is =
        let this =
        outcome-instant (answer_of r.span.cut r.outages (route_of config name).receiver) r.span.cut at n
        (record {
          early = early_by at n.deadline within before r.span.cut served.runs;
          answers = answer-done r.until at n.ticket n.integration 1 r.span.cut r.outages (route_of config name).receiver within served.runs served.reached;
        }) report is
        in
        let at_once : end_on at report ≡ at = this.0 in
        (omega (arith, at_once), inl this.1)

-- ---- when records come

module _ (r : Setting) (config : Config) (id : ℕ) (name : GroupName) where
  -- while a flush of the group is open, time moves on to a time at most
  abbrev pub Still : ℕ → Record → List Record → Type 0
  Still late q past = has_open name past ≡ true → time_at (q ∷ past) ≤ max (time_at past) late

  -- while none is, a record comes by when it is due and its last flush is finished
  abbrev pub Due : Record → List Record → Type 0
  Due q past =
      has_open name past ≡ false → IfSome (find (is_named name) (replay_past config past).groups)
      (λ g. ComesBy r (max g.due (ended_at name past)) (time_at (q ∷ past)))

  -- so where a flush is open, the last record came by then, or at its begin
  pub open-since : (late : ℕ) (past : List Record) → IsLegalPast config id past → AtEach (Still late) past → has_open name past ≡ true → IfSome (begun_at config name past) (λ u. time_at past ≤ max u late)
  open-since late [] legal still opened = absurd (false≢true opened)
  open-since late (q ∷ past) legal still opened = by (takes name q.reply) refl (found_empty config name q past) (λ before. open-since late past legal.1 still.1 before)
    where
      by : (b : Bool) → takes name q.reply ≡ b → (e : Bool) → (has_open name past ≡ true → IfSome (begun_at config name past) (λ u. time_at past ≤ max u late))
          → IfSome (cond b (Some (time_at (q ∷ past))) (cond e None (begun_at config name past))) (λ u. time_at (q ∷ past) ≤ max u late)
      by true is e earlier = omega arith
      by false is true earlier = tt
      by false is false earlier =
          let before : has_open name past ≡ true = open-before name q past is opened in
          let unmoved : time_at (q ∷ past) ≤ max (time_at past) late = still.0 before in
          if_weaker (begun_at config name past) (λ u. time_at past ≤ max u late) (λ u. time_at (q ∷ past) ≤ max u late)
          (λ u h. let up : time_at past ≤ max u late = h in omega (arith, up, unmoved)) (earlier before)

  on-time : (q : Record) (past : List Record) → IsLegalPast config id past → AtEach (Still 0) past → Still 0 q past → Due q past → time_at (q ∷ past) ≤ r.until → IsOnTime 0 0 config name q past
  on-time q past legal still unmoved due within =
      record {
        begins = λ closed. if_weaker (find (is_named name) (replay_past config past).groups) (λ g. ComesBy r (max g.due (ended_at name past)) (time_at (q ∷ past)))
            (λ g. time_at (q ∷ past) ≤ max g.due (ended_at name past) + 0)
            (λ g h. by (max g.due (ended_at name past)) h) (due closed);
        ends = λ opened. if_weaker (begun_at config name past) (λ u. time_at past ≤ max u 0) (λ u. time_at (q ∷ past) ≤ u + 0)
            (λ u h. let up : time_at past ≤ max u 0 = h in let now : time_at (q ∷ past) ≤ max (time_at past) 0 = unmoved opened in omega (arith, up, now)) (open-since 0 past legal still opened);
      }
    where
      by : (bound : ℕ) → ComesBy r bound (time_at (q ∷ past)) → time_at (q ∷ past) ≤ bound + 0
      by bound (inl come) = omega (arith, come)
      by bound (inr after) = omega (arith, after, within)

  pub each-on-time : (past : List Record) → IsLegalPast config id past → AtEach (Still 0) past → AtEach Due past → AtEach (λ q past. time_at (q ∷ past) ≤ r.until → IsOnTime 0 0 config name q past) past
  each-on-time [] legal still due = tt
  each-on-time (q ∷ past) legal still due = (on-time q past legal.1 still.1 still.0 due.0, each-on-time past legal.1 still.1 due.1)

-- of what holds at each record for each name, one name
pub one-name : (P : GroupName → Record → List Record → Type 0) (name : GroupName) (past : List Record) → AtEach (λ q past. (n : GroupName) → P n q past) past → AtEach (P name) past
one-name P name [] each = tt
one-name P name (q ∷ past) each = (each.0 name, one-name P name past each.1)

module _ (r : Setting) (config : Config) (plans : List TimedAction) (board : BoardData) (events : List Event) (play : PlaysTo r config plans board events) (name : GroupName) where
  pub due-play : config.limits.groups ≤ config.limits.flushes → AtEach (Due r config BOARD_ID name) (past_of board.history)
  due-play places =
      one-name
      (λ n q past. has_open n past ≡ false → IfSome (find (is_named n) (replay_past config past).groups) (λ g. ComesBy r (max g.due (ended_at n past)) (time_at (q ∷ past))))
      name (past_of board.history) (begins_when_due r config plans board events play places)

  module _ (served : IsServed r config name) where
    pub still-play : AtEach (Still r config BOARD_ID name 0) (past_of board.history)
    still-play = time_is_still r config name 0 (λ deadline. ⊥) (served-promise r config name served) plans board events play

    pub on-time-play : AtEach (λ q past. time_at (q ∷ past) ≤ r.until → IsOnTime 0 0 config name q past) (past_of board.history)
    on-time-play =
        each-on-time r config BOARD_ID name (past_of board.history) (legal_past config BOARD_ID board.history (plays_are_legal r config plans board events play)) still-play (due-play served.places)

pub plays_are_on_time : EveryPlay PlaysAreOnTime
plays_are_on_time r config plans board events play name served = on-time-play r config plans board events play name served

-- ---- each flush of it is delivered

begin-before : (n : ℕ) (past : List Record) → time_at (begin_of n past) ≤ time_at past
begin-before n [] = omega arith
begin-before n (q ∷ past) = by (is_flush n q.reply) (begin-before n past)
  where
    by : (b : Bool) → time_at (begin_of n past) ≤ time_at past → time_at (cond b (q ∷ past) (begin_of n past)) ≤ time_at (q ∷ past)
    by true before = omega arith
    by false before = omega (arith, before)

module _ (config : Config) (name : GroupName) where
  -- a finish at the time of its flush's begin, which reports all delivered
  delivered-at : (t : ℕ) (outcomes : List (ℕ × Outcome)) (begin : List Record) → time_at begin ≡ t → is_all_delivered outcomes begin ≡ true → is_delivered_at t outcomes begin ≡ true
  delivered-at t outcomes [] at all = absurd (false≢true all)
  delivered-at t outcomes (q ∷ past) at all = and_from (time_at (q ∷ past) == t) (list_all (reports_delivered outcomes) (notices_in q.reply)) (same-is (time_at (q ∷ past)) t at) all

  delivers : (q : Record) (past : List Record) → Ended config name 0 (λ deadline. ⊥) q past → Delivers name q past
  delivers q past ended e = by q.call (time_at (q ∷ past)) (omega arith) e (ended e)
    where
      by : (c : Call) (t : ℕ) → time_at past ≤ t → is_finish_of name past c ≡ true → OfFinish (HasEnded config name 0 (λ deadline. ⊥) t) past c → delivers_all t past c ≡ true
      by (call.Insert now alert) t later e h = absurd (false≢true e)
      by (call.Silence now id matchers start end) t later e h = absurd (false≢true e)
      by (call.Begin now) t later e h = absurd (false≢true e)
      by (call.Finish now number outcomes) t later e h = of-finish h.1
        where
          come : t ≤ max (time_at (begin_of number past)) 0
          come = h.0

          of-finish : (is_all_delivered outcomes (begin_of number past) ≡ true) ⊎ ⊥ → is_delivered_at t outcomes (begin_of number past) ≡ true
          of-finish (inl all) = let before = begin-before number past in delivered-at t outcomes (begin_of number past) (omega (arith, come, before, later)) all
          of-finish (inr none) = absurd none
      by (call.Maintain now) t later e h = absurd (false≢true e)
      by (call.RemoveEmptyGroups now) t later e h = absurd (false≢true e)
      by (call.Forget now) t later e h = absurd (false≢true e)
      by (call.Load now row) t later e h = absurd (false≢true e)
      by (call.Note now number integration outcome) t later e h = absurd (false≢true e)

  all-deliver : (past : List Record) → AtEach (Ended config name 0 (λ deadline. ⊥)) past → AtEach (Delivers name) past
  all-deliver [] each = tt
  all-deliver (q ∷ past) each = (delivers q past each.0, all-deliver past each.1)

pub flushes_deliver : EveryPlay FlushesDeliver
flushes_deliver r config plans board events play name served =
    all-deliver config name (past_of board.history) (flushes_end r config name 0 (λ deadline. ⊥) (served-promise r config name served) plans board events play)
