-- What a begin is to do, by the state, is what looking back finds.
use Rattle.std.proofs.Common.{◌≡◌, ℕ, ◌≤◌, Option, Some, None, List, refl, sym, ap, subst, arith}
use Rattle.std.specs.Option.{option_map}
use Rattle.am_model.specs.declared.config.Config.{Config}
use Rattle.am_model.specs.declared.record.Record.{Record}
use Rattle.am_model.specs.Configured.{integrations_of}
use Rattle.am_model.specs.look_back.Preview.{muted_of, reason_of, preview_on, preview_by, preview_at, PreviewsAreFound}
use Rattle.am_model.specs.look_back.Past.{past_of}
use Rattle.am_model.specs.look_back.Reasons.{reason_in}
use Rattle.am_model.specs.Begin.{taken}
use Rattle.am_model.specs.Replay.{replay}
use Rattle.am_model.specs.State.{GroupState, State, time}
use Rattle.am_model.proofs.looking_back.reasons.WhomNeeded.{reasons-found}
use Rattle.am_model.proofs.looking_back.alerts.FoundAlerts.{steady_past, finds_past}
use Rattle.am_model.proofs.looking_back.rows.FoundRows.{finds_rows_past}
use Rattle.am_model.proofs.looking_back.Pasts.{state_after, IsLegalPast, legal_past, replay_is_past}

module _ (config : Config) (id : ℕ) (past : List Record) (legal : IsLegalPast config id past) (t : ℕ) (later : (state_after config past).clock ≤ t) where
  abbrev state : State
  state = state_after config past

  by-group : (o : Option GroupState) → taken state t ≡ o
      → option_map (preview_on config state t (reason_of config state t)) o ≡ option_map (preview_on config state t (λ g. reason_in config g.name t past)) o
  by-group None is = refl
  by-group (Some g) is =
      ap (λ reasons. Some (record { time = t; group = g.name; muted = muted_of config state t g; reasons = reasons }))
      (reasons-found config id state past 0 (steady_past config past) (finds_past config id past legal) (finds_rows_past config id past legal) t later g is (integrations_of config g.name))

-- after each legal history
pub preview-found : PreviewsAreFound
preview-found config id history now legal =
    let s = replay config history in
    let is = replay_is_past config history in
    subst (λ (x : State). preview_at config x (time x now) ≡ preview_by config x (time x now) (λ g. reason_in config g.name (time x now) (past_of history))) (sym is)
    (by-group config id (past_of history) (legal_past config id history legal) (time (state_after config (past_of history)) now) (omega arith) (taken (state_after config (past_of history)) (time (state_after config (past_of history)) now)) refl)
