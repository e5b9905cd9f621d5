-- The reason by an entry, case by case.
use Rattle.std.proofs.Common.{◌≡◌, ℕ, ◌+◌, Bool, true, false, cond, not, ◌&&◌, Option, Some, None, List, refl}
use Rattle.std.specs.Prelude.{nat_lt}
use Rattle.am_alerts.specs.Labels.{same_label_set}
use Rattle.am_alerts.specs.declared.labels.Label.{Label}
use Rattle.am_nflog.specs.Members.{is_empty, is_subset}
use Rattle.am_nflog.specs.declared.update.UpdateReason.TheVariants as update
use Rattle.am_model.specs.declared.reason.Reason.{Reason}
use Rattle.am_model.specs.declared.reason.Reason.TheVariants.{FirstNotice, NewAlert, AllResolved, NewlyResolved, Repeat, NothingFiring, NotYet}
use Rattle.am_model.specs.declared.views.RowView.{RowView}
use Rattle.am_model.specs.look_back.Reasons.{reason_by, reason_of_update}

-- the first case that applies
abbrev pub reason_chain : Option RowView → List (List Label) → List (List Label) → Bool → ℕ → ℕ → Reason
reason_chain None firing resolved send_resolved repeat t = cond (is_empty firing) NothingFiring FirstNotice
reason_chain (Some row) firing resolved send_resolved repeat t =
    cond (not (is_subset same_label_set firing row.firing)) NewAlert
    (cond (is_empty firing) (cond (is_empty row.firing) NothingFiring AllResolved)
    (cond (send_resolved && not (is_subset same_label_set resolved row.resolved)) NewlyResolved
    (cond (nat_lt (row.time + repeat) t) Repeat (NotYet (row.time + repeat + 1)))))

pub reason_by-chain : (entry : Option RowView) (firing resolved : List (List Label)) (send_resolved : Bool) (repeat t : ℕ)
    → reason_by entry firing resolved send_resolved repeat t ≡ reason_chain entry firing resolved send_resolved repeat t
reason_by-chain None firing resolved send_resolved repeat t = by (is_empty firing)
  where
    by : (none : Bool) → reason_of_update repeat (cond none update.NothingFiring update.FirstNotice) ≡ cond none NothingFiring FirstNotice
    by true = refl
    by false = refl
reason_by-chain (Some row) firing resolved send_resolved repeat t =
    by (not (is_subset same_label_set firing row.firing)) (is_empty firing) (is_empty row.firing)
    (send_resolved && not (is_subset same_label_set resolved row.resolved)) (nat_lt (row.time + repeat) t)
  where
    by : (new none fired ended over : Bool)
        → reason_of_update repeat (cond new update.NewAlert (cond none (cond fired update.NothingFiring update.AllResolved)
        (cond ended update.NewlyResolved (cond over update.Repeat (update.NotYet row.time)))))
        ≡ cond new NewAlert (cond none (cond fired NothingFiring AllResolved)
        (cond ended NewlyResolved (cond over Repeat (NotYet (row.time + repeat + 1)))))
    by true none fired ended over = refl
    by false true true ended over = refl
    by false true false ended over = refl
    by false false fired true over = refl
    by false false fired false true = refl
    by false false fired false false = refl
