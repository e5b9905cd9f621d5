-- Opening: the configuration of a new board in a line.
use Rattle.std.specs.Prelude.{◌≡◌, List, [], ◌∷◌, ℕ, Option, Some, None, IsTrue, codes}
use Rattle.serde_json.specs.Data.{Data, Members}
use Rattle.am_json.specs.Configured.{DecodesToConfig}
use Rattle.am_json.specs.Decoding.{Has, IsObject}
use Rattle.am_json.specs.Read.{has_only}
use Rattle.am_json.specs.declared.reader.Mode.{Mode}
use Rattle.am_config.specs.IgnoredSettings.{nothing}
use Rattle.am_config.specs.Receivers.{ReceiversAre}
use Rattle.am_config.specs.Retention.{log_retention}
use Rattle.am_config.specs.Routes.{TimedRoutesAre}
use Rattle.am_config.specs.Rules.{RulesAre}
use Rattle.am_config.specs.declared.hours.Hours.{Hours}
use Rattle.am_model.specs.Config.{config_fault, greatest_limits}
use Rattle.am_protocol.specs.Hours.{HasHours}
use Rattle.am_protocol.specs.declared.opening.Opening.{Opening}

-- a configuration of our own, of which nothing is ignored
pub record IsOwnOpening (mode : Mode) (value : Data) (opening : Opening) : Type 0 where
  pub config : DecodesToConfig mode value opening.config
  pub ignored : opening.ignored ≡ nothing
  pub sound : config_fault opening.config ≡ None

-- a configuration of Alertmanager: its routes, which these clocks mute, its receivers and inhibition rules; its log keeps an entry for
-- 120 hours, and its limits are the greatest. Not stated: the names of routes
pub record IsTheirOpening (hours : Option Hours) (value : Data) (opening : Opening) : Type 0 where
  pub sound : config_fault opening.config ≡ None
  pub limits : opening.config.limits ≡ greatest_limits
  pub retention : opening.config.retention ≡ log_retention
  pub routes : TimedRoutesAre hours value opening.config.routes
  pub receivers : ReceiversAre value opening.config.receivers
  pub rules : RulesAre value opening.config.rules

-- the names of the arguments of an open
abbrev pub clocked_names : List (List ℕ)
clocked_names = codes "now" ∷ codes "alertmanager" ∷ codes "start" ∷ codes "horizon" ∷ codes "zones" ∷ []

-- a configuration of Alertmanager, and the clocks of its time intervals
pub record HasClocked (mode : Mode) (members : Members) (opening : Opening) : Type 0 where
  pub only : IsTrue (has_only mode clocked_names members)
  pub hours : Hours
  pub clocks : HasHours members hours
  pub config : Has (IsTheirOpening (Some hours)) (codes "alertmanager") members opening

abbrev pub IsClockedOpening : Mode → Data → Opening → Type 0
IsClockedOpening mode value opening = IsObject (HasClocked mode) value opening
