-- Sets: label sets among others.
use Rattle.std.specs.Prelude.{Bool, List}
use Rattle.std.specs.List.{list_any}
use Rattle.am_alerts.specs.Labels.{same_label_set}
use Rattle.am_alerts.specs.declared.labels.Label.{Label}

-- whether a label set is among these
abbrev pub is_among : List Label → List (List Label) → Bool
is_among labels sets = list_any (λ s. same_label_set s labels) sets
