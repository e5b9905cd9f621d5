-- Look: what a begin looks at, as a state of the definitions, and what is true of it.
use Rattle.std.specs.Prelude.{◌≤◌, All}
use Rattle.am_alerts.specs.declared.limits.TheConstants.{MAX_TIME}
use Rattle.am_mute.specs.Sources.{AreLearnt}
use Rattle.am_model.specs.Configured.{HaveFewIntegrations}
use Rattle.am_model.specs.State.{State}
use Rattle.am_board.specs.LogRows.{log_rows}
use Rattle.am_board.specs.Refinement.{state_of}
use Rattle.am_board.specs.declared.look.Look.{Look}

-- the state that is looked at
abbrev pub state_seen : Look → State
state_seen look = state_of look.state.now

-- what is looked at is of one board, in time: what was learnt is of its rules and of its known alerts, receivers have few integrations,
-- and no row of the log and no call is behind the last time
pub record IsLook (look : Look) : Type 0 where
  pub sources : AreLearnt look.config.now.rules look.state.now.known.items look.sources.now
  pub few : HaveFewIntegrations look.config.now
  pub times : All (λ row. row.time ≤ MAX_TIME) (log_rows look.state.now.log)
  pub time : look.t ≤ MAX_TIME
