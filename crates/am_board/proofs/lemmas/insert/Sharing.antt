-- An alert with the label set of the known alert that has its labels is the same alert.
use Rattle.std.proofs.Common.{◌≡◌, ℕ, Option, Some, None, List, get_or, refl, sym}
use Rattle.std.specs.List.{position}
use Rattle.std.specs.Result.{result_unwrap_or}
use Rattle.std.proofs.lemmas.List.Quantifiers.{position-Some}
use Rattle.am_alerts.specs.AlertData.{AlertData, alert_fault, alert_of}
use Rattle.am_alerts.specs.Fault.{ok_unless}
use Rattle.am_alerts.specs.LabelOrder.{same_label_set-decides}
use Rattle.am_alerts.specs.declared.alert.AlertFault.{AlertFault}
use Rattle.am_alerts.specs.declared.labels.Label.{Label}
use Rattle.am_model.specs.Insert.{same_alert}

module _ (a : AlertData) where
  -- the known alert that has an alert's labels has those very labels
  pub known_labels : (known : List AlertData) (i : ℕ) (d : AlertData) → position (same_alert a) known ≡ Some i
      → (get_or known i d).labels ≡ a.labels
  known_labels known i d at =
      let same = (position-Some (same_alert a) known i d at).1 in
      sym ((same_label_set-decides a.labels (get_or known i d).labels).0 same)

  or_itself : (fault : Option AlertFault) (x : AlertData) → x ≡ a → result_unwrap_or (ok_unless fault x) a ≡ a
  or_itself None x same = same
  or_itself (Some f) x same = refl

  -- what is made of the alert's labels and times, or else the alert, is the alert
  pub made_is : (labels : List Label) (starts : ℕ) (ends : Option ℕ) → labels ≡ a.labels → starts ≡ a.starts → ends ≡ a.ends
      → result_unwrap_or (ok_unless (alert_fault (alert_of labels starts ends)) (alert_of labels starts ends)) a ≡ a
  made_is labels starts ends same begins stops =
      or_itself (alert_fault (alert_of labels starts ends)) (alert_of labels starts ends)
      (λ i. record { labels = same i; starts = begins i; ends = stops i })
