-- Known: the stored known alerts, under their labels, in the order of arrival.
use Rattle.std.specs.Prelude.{ℕ, List}
use Rattle.am_alerts.specs.AlertData.{AlertData}
use Rattle.am_alerts.specs.declared.labels.Label.{Label}

-- alerts, with capacity for so many more
pub record KnownAlerts : Type 0 where
  pub items : List AlertData
  pub space : ℕ

-- the labels that an alert is under
abbrev pub labels_of : AlertData → List Label
labels_of a = a.labels
