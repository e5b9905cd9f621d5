-- GroupNameCache: the cached names of known alerts' groups are those that the configuration gives.
use Rattle.std.specs.Prelude.{◌≡◌, ◌≤◌, ℕ, List, length, Option, Some}
use Rattle.am_alerts.specs.AlertData.{AlertData}
use Rattle.am_model.specs.declared.config.Config.{Config}
use Rattle.am_model.specs.declared.group.GroupName.{GroupName}
use Rattle.am_model.specs.Insert.{names_for}
use Rattle.am_mute.specs.Sources.{IsAt}

-- the cache has an entry for each of the first known alerts, at its index: the names of its groups, or nothing
pub record AreKept (config : Config) (known : List AlertData) (kept : List (Option (List GroupName))) : Type 0 where
  pub within : length kept ≤ length known
  pub names : (i : ℕ) (a : AlertData) (names : List GroupName) → IsAt known i a → IsAt kept i (Some names)
      → names ≡ names_for config a.labels
