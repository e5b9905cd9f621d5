-- What is known of each sending to the receiver of a group, and so of the sendings of a flush.
use Rattle.std.proofs.Common.{◌≡◌, ℕ, ◌+◌, ◌<◌, ◌≤◌, max, true, List, [], ◌∷◌, Option, Some, None, ◌⊎◌, inl, inr, refl, sym, subst, arith}
use Rattle.std.specs.List.{AllByRecursion}
use Rattle.am_alerts.specs.declared.limits.TheConstants.{MAX_TIME}
use Rattle.am_model.specs.declared.config.Config.{Config}
use Rattle.am_model.specs.declared.config.Integration.{Integration}
use Rattle.am_model.specs.declared.group.GroupName.{GroupName}
use Rattle.am_model.specs.declared.notice.Report.{Report}
use Rattle.am_model.specs.declared.notice.TheConstants.{MIN_FLUSH_TIMEOUT}
use Rattle.am_model.specs.declared.record.Opened.{Opened}
use Rattle.am_model.specs.declared.record.Reply.{Reply}
use Rattle.am_model.specs.declared.record.Reply.TheVariants as reply
use Rattle.am_model.specs.Begin.{begun, deadline_of, notice_for, notified_of, reply_notifying, reply_taking, taken}
use Rattle.am_model.specs.Configured.{route_of}
use Rattle.am_model.specs.Notice.{NoticeData}
use Rattle.am_model.specs.State.{GroupState, State}
use Rattle.am_model.proofs.lists.Distinct.{all-map}
use Rattle.am_pool.specs.Sendings.{end_on}
use Rattle.am_simulation.specs.Answers.{AreEndsOf, IsOutcome, answer_of}
use Rattle.am_simulation.specs.Scene.{Setting}
use Rattle.am_simulation.specs.Steps.{is_success}
use Rattle.am_plays.proofs.Instant.{all-of}

-- the deadline of a flush of a group that is begun at a time
abbrev pub deadline_from : Config → GroupName → ℕ → ℕ
deadline_from config name t = t + max (route_of config name).group_interval MIN_FLUSH_TIMEOUT

-- each sending to a group's receiver that begins by the rehearsal's end and before its notice's deadline is over by a time, or at once, and
-- is a success, or the deadline fails: what that says is for the caller
pub record Promises (r : Setting) (config : Config) (name : GroupName) (late : ℕ) (Fails : ℕ → Type 0) : Type 0 where
  pub ends : r.until < MAX_TIME
  pub sends : (at : ℕ) (n : NoticeData) (report : Option Report) → at ≤ r.until → at < n.deadline
      → IsOutcome (answer_of r.span.cut r.outages (route_of config name).receiver) r.span.cut at n report
      → (end_on at report ≤ max at late) × ((is_success report ≡ true) ⊎ Fails n.deadline)

module _ (r : Setting) (config : Config) (name : GroupName) (late : ℕ) (Fails : ℕ → Type 0) (promise : Promises r config name late Fails) where
  -- so of a flush: each sending is over by then, and all are successes, or the flush's deadline fails
  pub all-kept : (at index deadline : ℕ) → at ≤ r.until → at < deadline → (ns : List NoticeData) (es : List _)
      → AreEndsOf (answer_of r.span.cut r.outages (route_of config name).receiver) r.span.cut at index ns es → AllByRecursion (λ (n : NoticeData). n.deadline ≡ deadline) ns
      → AllByRecursion (λ e. e.at ≤ max at late) es × (AllByRecursion (λ e. is_success e.report ≡ true) es ⊎ Fails deadline)
  all-kept at index deadline within early [] [] are same = (tt, inl tt)
  all-kept at index deadline within early [] (e ∷ es) are same = absurd are
  all-kept at index deadline within early (n ∷ ns) [] are same = absurd are
  all-kept at index deadline within early (n ∷ ns) (e ∷ es) are same =
      let this = promise.sends at n e.report within (subst (λ (m : ℕ). at < m) (sym same.0) early) are.0.2 in
      let rest = all-kept at (index + 1) deadline within early ns es are.1 same.1 in
      ((subst (λ (m : ℕ). m ≤ max at late) (sym are.0.1) this.0, rest.0), both this.1 rest.1)
    where
      both : (is_success e.report ≡ true) ⊎ Fails n.deadline → AllByRecursion (λ x. is_success x.report ≡ true) es ⊎ Fails deadline
          → AllByRecursion (λ x. is_success x.report ≡ true) (e ∷ es) ⊎ Fails deadline
      both (inl one) (inl all) = inl (one, all)
      both (inr fails) all = inr (subst Fails same.0 fails)
      both (inl one) (inr fails) = inr fails

-- a flush that is begun at t has a later deadline, by its group's interval, which is that of each of its notices
abbrev IsTimed : Config → ℕ → Reply → Type 0
IsTimed config t (reply.Flush group opened) =
    (opened.deadline ≡ deadline_from config group t) × AllByRecursion (λ (n : NoticeData). n.deadline ≡ opened.deadline) opened.notices
IsTimed config t (reply.Inserted inserted) = Unit {0}
IsTimed config t (reply.Silenced silenced) = Unit {0}
IsTimed config t reply.NothingDue = Unit {0}
IsTimed config t (reply.Quiet group removed) = Unit {0}
IsTimed config t (reply.Finished finished) = Unit {0}
IsTimed config t (reply.Maintained maintained) = Unit {0}
IsTimed config t (reply.EmptyGroupsRemoved removed) = Unit {0}
IsTimed config t (reply.Forgotten forgotten) = Unit {0}
IsTimed config t (reply.Loaded loaded) = Unit {0}
IsTimed config t reply.Noted = Unit {0}

pub later-deadline : (config : Config) (name : GroupName) (t : ℕ) → t < deadline_from config name t
later-deadline config name t = let ten : MIN_FLUSH_TIMEOUT ≡ 10_000 = refl in omega (arith, ten)

module _ (config : Config) (id : ℕ) (s : State) (t : ℕ) where
  timed-notifying : (g : GroupState) (notified : List (ℕ × Integration)) → IsTimed config t (reply_notifying config id s t g notified)
  timed-notifying g [] = tt
  timed-notifying g (i ∷ is) = (
    refl,
    all-map (notice_for config id s t g) (λ n. n.deadline ≡ deadline_of config t g) (i ∷ is)
        (all-of (λ (j : ℕ × Integration). deadline_of config t g ≡ deadline_of config t g) (λ j. refl) (i ∷ is)),
  )

  begun-timed : IsTimed config t (begun config id s t)
  begun-timed = by (taken s t)
    where
      by : (o : Option GroupState) → IsTimed config t (reply_taking config id s t o)
      by None = tt
      by (Some g) = timed-notifying g (notified_of config s t g)

  pub timed-flush : (group : GroupName) (opened : Opened) → begun config id s t ≡ reply.Flush group opened
      → (opened.deadline ≡ deadline_from config group t) × AllByRecursion (λ (n : NoticeData). n.deadline ≡ opened.deadline) opened.notices
  timed-flush group opened is = subst (IsTimed config t) is begun-timed
