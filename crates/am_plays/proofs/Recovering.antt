-- Each flush of a group whose receiver recovers ends soon, and is delivered, or its group is due again soon.
use Rattle.std.proofs.Common.{◌≡◌, ℕ, ◌+◌, ◌<◌, ◌≤◌, max, min, true, List, [], ◌∷◌, Option, Some, None, ◌⊎◌, inl, inr, refl, arith}
use Rattle.std.proofs.lemmas.Bool.Decides.{nat_tests}
use Rattle.am_model.specs.declared.config.Config.{Config}
use Rattle.am_model.specs.declared.group.GroupName.{GroupName}
use Rattle.am_model.specs.declared.notice.Report.{Report}
use Rattle.am_model.specs.declared.record.Call.{Call}
use Rattle.am_model.specs.declared.record.Call.TheVariants as call
use Rattle.am_model.specs.declared.record.Record.{Record}
use Rattle.am_model.specs.Configured.{route_of}
use Rattle.am_model.specs.Notice.{NoticeData}
use Rattle.am_model.specs.look_back.Past.{AtEach, past_of, time_at}
use Rattle.am_paging.specs.InTime.{is_finish_of}
use Rattle.am_pool.specs.Sendings.{end_on}
use Rattle.am_simulation.specs.Answers.{IsOutcome, answer_of}
use Rattle.am_simulation.specs.Scene.{Setting}
use Rattle.am_simulation.specs.Steps.{is_success}
use Rattle.am_plays.specs.Plays.{EveryPlay}
use Rattle.am_plays.specs.PlaysInTime.{runs_past}
use Rattle.am_plays.specs.PlaysRecover.{EndsSoon, FlushesComeThrough, IsRecovering, OfFinish, recovered_by}
use Rattle.am_plays.proofs.FlushesEnd.{Ended, HasEnded, flushes_end}
use Rattle.am_plays.proofs.Promises.{Promises}
use Rattle.am_plays.proofs.Recovery.{sendings_come_through}

-- a deadline comes by a time
abbrev pub ComesUp : ℕ → ℕ → Type 0
ComesUp late deadline = deadline ≤ late

module _ (r : Setting) (config : Config) (name : GroupName) (x d : ℕ) (recovering : IsRecovering r config name x d) where
  -- what its sendings promise
  pub recovery-promise : Promises r config name (recovered_by x d) (ComesUp (recovered_by x d))
  recovery-promise = record { ends = recovering.ends; sends = sends }
    where
      runs : (at : ℕ) (cut : Option ℕ) → at ≤ r.until → runs_past r.until cut ≡ true → runs_past (max at (recovered_by x d)) cut ≡ true
      runs at None within stays = refl
      runs at (Some cut) within stays = let by_end = recovering.goes_on in grind (arith, nat_tests, stays, within, by_end)

      sends : (at : ℕ) (n : NoticeData) (report : Option Report) → at ≤ r.until → at < n.deadline → IsOutcome (answer_of r.span.cut r.outages (route_of config name).receiver) r.span.cut at n report
          → (end_on at report ≤ max at (recovered_by x d)) × ((is_success report ≡ true) ⊎ (n.deadline ≤ recovered_by x d))
      sends at n report within before is =
          let ends =
          sendings_come_through r.span.cut r.outages (route_of config name).receiver x d at n report recovering.recovers (runs at r.span.cut within recovering.runs) before is
          in
          (ends.over, soon ends.delivered)
        where
          soon : (is_success report ≡ true) ⊎ (n.deadline ≤ min (end_on at report + 60_000) (recovered_by x d)) → (is_success report ≡ true) ⊎ (n.deadline ≤ recovered_by x d)
          soon (inl success) = inl success
          soon (inr deadline) = inr (omega (arith, deadline))

  -- so each finish is as is said
  ends-soon : (q : Record) (past : List Record) → Ended config name (recovered_by x d) (ComesUp (recovered_by x d)) q past
      → is_finish_of name past q.call ≡ true → OfFinish (EndsSoon config name x d (time_at (q ∷ past))) past q.call
  ends-soon q past ended e = by q.call (ended e)
    where
      by : (c : Call) → OfFinish (HasEnded config name (recovered_by x d) (ComesUp (recovered_by x d)) (time_at (q ∷ past))) past c → OfFinish (EndsSoon config name x d (time_at (q ∷ past))) past c
      by (call.Insert now alert) h = tt
      by (call.Silence now id matchers start end) h = tt
      by (call.Begin now) h = tt
      by (call.Finish now number outcomes) h = record { over = h.0; delivered = h.1 }
      by (call.Maintain now) h = tt
      by (call.RemoveEmptyGroups now) h = tt
      by (call.Forget now) h = tt
      by (call.Load now row) h = tt
      by (call.Note now number integration outcome) h = tt

  pub all-soon : (past : List Record) → AtEach (Ended config name (recovered_by x d) (ComesUp (recovered_by x d))) past
      → AtEach (λ q past. is_finish_of name past q.call ≡ true → OfFinish (EndsSoon config name x d (time_at (q ∷ past))) past q.call) past
  all-soon [] each = tt
  all-soon (q ∷ past) each = (ends-soon q past each.0, all-soon past each.1)

pub flushes_come_through : EveryPlay FlushesComeThrough
flushes_come_through r config plans board events play name x d recovering =
    all-soon r config name x d recovering (past_of board.history)
    (flushes_end r config name (recovered_by x d) (ComesUp (recovered_by x d)) (recovery-promise r config name x d recovering) plans board events play)
