-- Forgetting: between the code of a forgetting and its definition. Which label sets are in groups.
use Rattle.std.specs.Prelude.{◌≡◌, ℕ, Bool, not, ◌&&◌, ◌||◌, List, [], ◌∷◌}
use Rattle.std.specs.List.{list_any}
use Rattle.am_alerts.specs.AlertData.{AlertData, is_resolved}
use Rattle.am_alerts.specs.Labels.{same_label_set}
use Rattle.am_alerts.specs.declared.labels.Label.{Label}
use Rattle.am_model.specs.Forget.{is_grouped}
use Rattle.am_model.specs.Insert.{same_alert}
use Rattle.am_model.specs.State.{MemberState, GroupState}

-- whether an alert's label set is one of these
abbrev pub is_labelled : List (List Label) → AlertData → Bool
is_labelled sets a = list_any (same_label_set a.labels) sets

-- these label sets are those of the groups' alerts
abbrev pub AreGrouped : List (List Label) → List GroupState → Type 0
AreGrouped sets groups = (a : AlertData) → is_labelled sets a ≡ is_grouped groups a

-- whether an alert's label set is that of one of these members
abbrev pub is_member : List MemberState → AlertData → Bool
is_member members a = list_any (λ m. same_alert a m.alert) members

-- the label sets of these members were added
abbrev pub AddsLabelsOf : List MemberState → List (List Label) → List (List Label) → Type 0
AddsLabelsOf members old new = (a : AlertData) → is_labelled new a ≡ (is_labelled old a || is_member members a)

-- whether an alert is resolved at t, and its label set isn't one of these
abbrev pub is_idle_but_for : List (List Label) → ℕ → AlertData → Bool
is_idle_but_for sets t a = is_resolved a t && not (is_labelled sets a)

-- the first of these alerts was tested, and those after it are left; where there is none, nothing is said
abbrev pub TestsFirst : List (List Label) → ℕ → List AlertData → Bool → List AlertData → Type 0
TestsFirst sets t [] stays left = Unit {0}
TestsFirst sets t (a ∷ others) stays left = (stays ≡ not (is_idle_but_for sets t a)) × (left ≡ others)
