-- Which alerts are in which group after a legal history is what looking back finds.
use Rattle.std.proofs.Common.{◌≡◌, ℕ, Bool, true, false, Option, None, List, [], ◌∷◌, reverse, refl, ap, ◌∙◌, subst, if◌then◌else◌}
use Rattle.am_alerts.specs.declared.labels.Label.{Label}
use Rattle.am_mute.specs.Silence.{silence_of}
use Rattle.am_model.specs.declared.config.Config.{Config}
use Rattle.am_model.specs.declared.config.Integration.{Integration}
use Rattle.am_model.specs.declared.group.GroupName.{GroupName}
use Rattle.am_model.specs.declared.record.Call.{Call}
use Rattle.am_model.specs.declared.record.Call.TheVariants.{Silence, Begin, Maintain, RemoveEmptyGroups, Forget, Load}
use Rattle.am_model.specs.declared.record.Record.{Record}
use Rattle.am_model.specs.declared.record.Reply.{Reply}
use Rattle.am_model.specs.declared.record.Reply.TheVariants as reply_is
use Rattle.am_model.specs.Begin.{after_notifying, reply_notifying}
use Rattle.am_model.specs.Forget.{forgotten, after_forget}
use Rattle.am_model.specs.Load.{loaded, after_load}
use Rattle.am_model.specs.Records.{entry}
use Rattle.am_model.specs.look_back.Laws.{member_with, EveryLegalHistory, AlertsAreFound}
use Rattle.am_model.specs.look_back.Past.{past_of}
use Rattle.am_model.specs.look_back.Presence.{goes_to, presence}
use Rattle.am_model.specs.Replay.{replay}
use Rattle.am_model.specs.State.{MemberState, GroupState, State, opening_state, at_time, time, members_in}
use Rattle.am_model.specs.Maintenance.{silenced, after_silence, maintained, after_maintain, empty_groups_removed, after_removal}
use Rattle.am_model.proofs.legal.Consistent.{consistent_replay}
use Rattle.am_model.proofs.legal.ConsistentBegin.{IsTaken, taken-is}
use Rattle.am_model.proofs.legal.ConsistentGroups.{members_of-in}
use Rattle.am_model.proofs.legal.ConsistentState.{IsSteady, consistent_to}
use Rattle.am_model.proofs.legal.EachCall.{HoldsOfEach, each_call}
use Rattle.am_model.proofs.looking_back.alerts.FoundSteps.{finds-insert, finds-still, finds-quiet, finds-flush, finds-finish, finds-note}
use Rattle.am_model.proofs.looking_back.flushes.Opened.{Finds}
use Rattle.am_model.proofs.looking_back.PastWords.{members_of-kept_some}
use Rattle.am_model.proofs.looking_back.Pasts.{state_after, IsLegalPast, replay_of_past, legal_past, replay_is_past}

module _ (config : Config) (id : ℕ) (s : State) (past : List Record) (pass : ℕ) (steady : IsSteady s) (k : Finds config s past) where
  -- what is found after a call that leads to a state and returned a reply
  abbrev After : Call → State → Reply → Type 0
  After c new p = Finds config new (entry pass c p ∷ past)

  notifying : (now : ℕ) (g : GroupState) → IsTaken s g → (notified : List (ℕ × Integration)) → After (Begin now) (after_notifying config s (time s now) g notified) (reply_notifying config id s (time s now) g notified)
  notifying now g is [] = finds-quiet config s past k pass now g steady
  notifying now g is (i ∷ more) = finds-flush config s past k id pass now g (i ∷ more) steady is

  each : HoldsOfEach config id s After
  each =
      record {
        insert = λ now a. finds-insert config s past k pass now a steady;
        silence = λ now number matchers start end.
            finds-still config s past k (after_silence s (time s now) (silence_of number matchers start end)) (entry pass (Silence now number matchers start end) (reply_is.Silenced (silenced s (silence_of number matchers start end)))) now (λ name. refl) refl refl refl refl refl
            (λ labels. refl) (λ name m. refl) (λ n. refl) (λ n i. refl);
        nothing = λ now none.
            finds-still config s past k (at_time s (time s now)) (entry pass (Begin now) reply_is.NothingDue) now (λ name. refl) refl refl refl refl refl (λ labels. refl) (λ name m. refl) (λ number. refl) (λ number i. refl);
        begin = λ now g is notified are. notifying now g (taken-is s (time s now) g steady.groups is) notified;
        finish = λ now number outcomes f is. finds-finish config s past k pass now number outcomes f steady is;
        maintain = λ now.
            finds-still config s past k (after_maintain s (time s now)) (entry pass (Maintain now) (reply_is.Maintained (maintained s (time s now)))) now (λ name. members_of-kept_some name s.groups steady.groups) refl refl refl refl refl
            (λ labels. refl) (λ name m. refl) (λ n. refl) (λ n i. refl);
        remove_empty_groups = λ now.
            finds-still config s past k (after_removal s (time s now)) (entry pass (RemoveEmptyGroups now) (reply_is.EmptyGroupsRemoved (empty_groups_removed s))) now (λ name. members_of-kept_some name s.groups steady.groups) refl refl refl refl refl
            (λ labels. refl) (λ name m. refl) (λ n. refl) (λ n i. refl);
        forget = λ now.
            finds-still config s past k (after_forget s (time s now)) (entry pass (Forget now) (reply_is.Forgotten (forgotten s (time s now)))) now (λ name. refl) refl refl refl refl refl
            (λ labels. refl) (λ name m. refl) (λ n. refl) (λ n i. refl);
        load = λ now row may.
            finds-still config s past k (after_load config s (time s now) row) (entry pass (Load now row) (reply_is.Loaded (loaded s.rows (time s now) row))) now (λ name. refl) refl refl refl refl refl
            (λ labels. refl) (λ name m. refl) (λ n. refl) (λ n i. refl);
        note = λ now number integration outcome f is may. finds-note config s past k pass now number integration outcome f steady is;
      }

-- ---- each legal past

pub steady_past : (config : Config) (past : List Record) → IsSteady (state_after config past)
steady_past config past = subst IsSteady (replay_of_past config past) (consistent_to (replay config (reverse past)) (consistent_replay config (reverse past)))

nothing : (config : Config) → Finds config opening_state []
nothing config =
    record {
      found = λ name labels. by None (goes_to config name labels);
      clock = refl;
      opened = tt;
      fresh = λ number i h. refl;
    }
  where
    by : (o : Option MemberState) (b : Bool) → o ≡ (if b then o else o)
    by o true = refl
    by o false = refl

pub finds_past : (config : Config) (id : ℕ) (past : List Record) → IsLegalPast config id past → Finds config (state_after config past) past
finds_past config id [] legal = nothing config
finds_past config id (r ∷ past) legal =
    let s = state_after config past in
    let after = each config id s past r.pass (steady_past config past) (finds_past config id past legal.1) in
    each_call config id s (λ c new p. Finds config new (entry r.pass c p ∷ past)) after r.call r.reply legal.0

-- ---- each legal history

-- in a state of which looking back finds the alerts
pub members-found : (config : Config) (id : ℕ) (past : List Record) → IsLegalPast config id past → (name : GroupName) (labels : List Label)
    → member_with labels (members_in (state_after config past).groups name) ≡ presence config name labels past
members-found config id past legal name labels =
    ap (member_with labels) (members_of-in (state_after config past).groups name) ∙ (finds_past config id past legal).found name labels

pub alerts_are_found : EveryLegalHistory AlertsAreFound
alerts_are_found config id history legal name labels =
    ap (λ s. member_with labels (members_in s.groups name)) (replay_is_past config history)
    ∙ members-found config id (past_of history) (legal_past config id history legal) name labels
