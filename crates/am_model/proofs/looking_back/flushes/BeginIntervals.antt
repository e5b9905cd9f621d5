-- Any two begins of a group are an interval apart, unless a maintenance between them found it without alerts.
use Rattle.std.proofs.Common.{◌≡◌, ℕ, ◌+◌, ◌≤◌, Bool, true, false, cond, not, ◌&&◌, ◌||◌, ◌⊎◌, inl, inr, Option, Some, None, List, [], ◌∷◌, refl, subst, arith}
use Rattle.std.specs.Prelude.{◌==◌}
use Rattle.std.proofs.lemmas.Bool.{false≢true, eqb-true}
use Rattle.am_model.specs.declared.config.Config.{Config}
use Rattle.am_model.specs.declared.group.GroupName.{GroupName}
use Rattle.am_model.specs.declared.record.Record.{Record}
use Rattle.am_model.specs.Configured.{route_of}
use Rattle.am_model.specs.look_back.Interval.{found_empty, begun_since, KeepsInterval, BeginsKeepTheInterval}
use Rattle.am_model.specs.look_back.Laws.{EveryLegalHistory, begun_at}
use Rattle.am_model.specs.look_back.Past.{AtEach, past_of, time_at, takes}
use Rattle.am_model.proofs.looking_back.flushes.FlushesOnce.{IsLater, IsIntervalOver, intervals_are_over}
use Rattle.am_model.proofs.looking_back.Pasts.{legal_past}

-- u is at most a time, and that is there
abbrev IsUpTo : ℕ → Option ℕ → Type 0
IsUpTo u None = ⊥
IsUpTo u (Some last) = u ≤ last

module _ (config : Config) (name : GroupName) (u : ℕ) where
  -- no begin is after the time of the latest record
  begun-time : (past : List Record) → begun_since config name u past ≡ true → u ≤ time_at past
  begun-time [] h = absurd (false≢true h)
  begun-time (r ∷ past) h =
      let t = time_at (r ∷ past) in
      elim (one (takes name r.reply) (t == u) (not (found_empty config name r past)) (begun_since config name u past) h) as (λ _. u ≤ t) [
        | inl now ↦ let same : t ≡ u = eqb-true t u now in omega (arith, same)
        | inr before ↦ let up : u ≤ time_at past = begun-time past before in omega (arith, up)
      ]
    where
      one : (a b c d : Bool) → ((a && b) || (c && d)) ≡ true → (b ≡ true) ⊎ (d ≡ true)
      one true true c d e = inl refl
      one true false true d e = inr e
      one true false false d e = absurd (false≢true e)
      one false b true d e = inr e
      one false b false d e = absurd (false≢true e)

  -- the last begin of a group isn't before any other
  begun-last : (past : List Record) → begun_since config name u past ≡ true → IsUpTo u (begun_at config name past)
  begun-last [] h = absurd (false≢true h)
  begun-last (r ∷ past) h =
      let t = time_at (r ∷ past) in
      let empty = found_empty config name r past in
      let since = begun_since config name u past in
      let last = begun_at config name past in
      elim (takes name r.reply) as (λ b. takes name r.reply ≡ b → IsUpTo u (cond b (Some t) (cond empty None last))) [
        | true ↦ λ e. begun-time (r ∷ past) h
        | false ↦ λ e. earlier last empty since (begun-last past) (subst (λ b. ((b && (t == u)) || (not empty && since)) ≡ true) e h)
      ] refl
    where
      earlier : (last : Option ℕ) (empty since : Bool) → (since ≡ true → IsUpTo u last) → (not empty && since) ≡ true
          → IsUpTo u (cond empty None last)
      earlier last true since up e = absurd (false≢true e)
      earlier last false since up e = up e

-- so an interval after the last one is an interval after each
later-all : (interval t u : ℕ) (last : Option ℕ) → IsLater interval t last → IsUpTo u last → u + interval ≤ t
later-all interval t u None later up = absurd up
later-all interval t u (Some last) later up = omega (arith, later, up)

pub interval_each : (config : Config) (past : List Record) → AtEach (IsIntervalOver config) past → AtEach (KeepsInterval config) past
interval_each config [] each = tt
interval_each config (r ∷ past) each = (
  λ name taken u since.
      let interval = (route_of config name).group_interval in
      let last = begun_at config name past in
      later-all interval (time_at (r ∷ past)) u last (each.0 name taken) (begun-last config name u past since),
  interval_each config past each.1,
)

pub begins_keep_the_interval : EveryLegalHistory BeginsKeepTheInterval
begins_keep_the_interval config id history legal = interval_each config (past_of history) (intervals_are_over config id (past_of history) (legal_past config id history legal))
