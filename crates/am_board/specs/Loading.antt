-- Loading: between the code of a load and the definitions.
use Rattle.std.specs.Prelude.{List, IsTrue}
use Rattle.am_alerts.specs.declared.labels.Label.{Label}
use Rattle.am_nflog.specs.Log.{Slots, is_known}
use Rattle.am_nflog.specs.declared.key.LogKey.{LogKey}
use Rattle.am_model.specs.declared.group.GroupName.{GroupName}
use Rattle.am_model.specs.declared.views.RowView.{RowView}
use Rattle.am_model.specs.State.{same_name}

-- the key of a row
abbrev pub key_of : RowView → LogKey GroupName
key_of row = record { group = row.group; integration = row.integration }

-- each key that is known in a log is known in another
abbrev pub KnowsNoLess : Slots GroupName (List Label) → Slots GroupName (List Label) → Type 0
KnowsNoLess log other = (key : LogKey GroupName) → IsTrue (is_known same_name log key) → IsTrue (is_known same_name other key)
