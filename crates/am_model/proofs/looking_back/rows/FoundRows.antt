-- Which rows the log has after a legal history is what looking back finds.
use Rattle.std.proofs.Common.{ℕ, List, [], ◌∷◌, refl, ap, ◌∙◌}
use Rattle.std.specs.Prelude.{find}
use Rattle.am_model.specs.declared.config.Config.{Config}
use Rattle.am_model.specs.declared.config.Integration.{Integration}
use Rattle.am_model.specs.declared.record.Call.{Call}
use Rattle.am_model.specs.declared.record.Call.TheVariants.{Begin}
use Rattle.am_model.specs.declared.record.Record.{Record}
use Rattle.am_model.specs.declared.record.Reply.{Reply}
use Rattle.am_model.specs.declared.record.Reply.TheVariants as reply_is
use Rattle.am_model.specs.Begin.{is_entry_of, count_resolved, after_notifying, reply_notifying}
use Rattle.am_model.specs.Records.{entry}
use Rattle.am_model.specs.look_back.Laws.{EveryLegalHistory, RowsAreFound}
use Rattle.am_model.specs.look_back.Past.{past_of}
use Rattle.am_model.specs.State.{GroupState, State, at_time, time}
use Rattle.am_model.proofs.legal.ConsistentBegin.{IsTaken, taken-is}
use Rattle.am_model.proofs.legal.ConsistentState.{IsSteady}
use Rattle.am_model.proofs.legal.EachCall.{HoldsOfEach, each_call}
use Rattle.am_model.proofs.looking_back.alerts.FoundAlerts.{steady_past, finds_past}
use Rattle.am_model.proofs.looking_back.flushes.Opened.{Finds}
use Rattle.am_model.proofs.looking_back.Pasts.{state_after, IsLegalPast, legal_past, replay_is_past}
use Rattle.am_model.proofs.looking_back.rows.RowSteps.{FindsRows, rows-insert, rows-silence, rows-begin, rows-flush, rows-finish, rows-maintain, rows-remove, rows-forget, rows-load, rows-note}

module _ (config : Config) (id : ℕ) (s : State) (past : List Record) (pass : ℕ) (steady : IsSteady s) (k : Finds config s past) (l : FindsRows config s past) where
  -- what is reported after a call that leads to a state and returned a reply
  abbrev After : Call → State → Reply → Type 0
  After c new p = FindsRows config new (entry pass c p ∷ past)

  notifying : (now : ℕ) (g : GroupState) → IsTaken s g → (notified : List (ℕ × Integration)) → After (Begin now) (after_notifying config s (time s now) g notified) (reply_notifying config id s (time s now) g notified)
  notifying now g is [] = rows-begin config s past k l (after_notifying config s (time s now) g []) pass now (reply_is.Quiet g.name (count_resolved (time s now) g)) refl refl refl refl refl (λ n. refl)
  notifying now g is (i ∷ more) = rows-flush config s past k l id pass now g (i ∷ more) steady is

  each : HoldsOfEach config id s After
  each =
      record {
        insert = λ now a. rows-insert config s past k l pass now a steady;
        silence = λ now number matchers start end. rows-silence config s past k l pass now number matchers start end steady;
        nothing = λ now none. rows-begin config s past k l (at_time s (time s now)) pass now reply_is.NothingDue refl refl refl refl refl (λ n. refl);
        begin = λ now g is notified are. notifying now g (taken-is s (time s now) g steady.groups is) notified;
        finish = λ now number outcomes f is. rows-finish config s past k l pass now number outcomes f is;
        maintain = λ now. rows-maintain config s past k l pass now steady;
        remove_empty_groups = λ now. rows-remove config s past k l pass now;
        forget = λ now. rows-forget config s past k l pass now;
        load = λ now row may. rows-load config s past k l pass now row may;
        note = λ now number integration outcome f is may. rows-note config s past k l pass now number integration outcome f is;
      }

-- ---- each legal past

pub finds_rows_past : (config : Config) (id : ℕ) (past : List Record) → IsLegalPast config id past → FindsRows config (state_after config past) past
finds_rows_past config id [] legal =
    record { rows = λ name i. refl; known = λ t come test blind. refl; silences = λ t come test blind. refl; found = tt }
finds_rows_past config id (r ∷ past) legal =
    let s = state_after config past in
    let after = each config id s past r.pass (steady_past config past) (finds_past config id past legal.1) (finds_rows_past config id past legal.1) in
    each_call config id s (λ c new p. FindsRows config new (entry r.pass c p ∷ past)) after r.call r.reply legal.0

-- ---- each legal history

pub rows_are_found : EveryLegalHistory RowsAreFound
rows_are_found config id history legal name integration =
    ap (λ s. find (is_entry_of name integration) s.rows) (replay_is_past config history)
    ∙ (finds_rows_past config id (past_of history) (legal_past config id history legal)).rows name integration
