-- Members: the stored alerts of a group, under their labels, in the order in which the label sets came into it.
use Rattle.std.specs.Prelude.{◌≡◌, ℕ, false, List, Option, All, position}
use Rattle.std.specs.Map.{values_of}
use Rattle.am_alerts.specs.Labels.{same_label_set}
use Rattle.am_alerts.specs.declared.labels.Label.{Label}
use Rattle.am_board.specs.declared.group.Member.{Member}
use Rattle.am_board.specs.Keyed.{AreKeyed}

-- alerts of a group, with capacity for so many more
pub record MemberList : Type 0 where
  pub items : List Member
  pub space : ℕ

-- the labels that an alert of a group is under
abbrev pub labels_of : Member → List Label
labels_of m = m.alert.labels

-- the index of the alert with these labels
abbrev pub index_of : List Label → List Member → Option ℕ
index_of labels members = position (λ m. same_label_set labels (labels_of m)) members

-- each alert is under its labels, and none is being taken out
pub record AreMembers (entries : List (List Label × Member)) : Type 0 where
  pub keyed : AreKeyed labels_of entries
  pub unmarked : All (λ m. m.leaves ≡ false) (values_of entries)
