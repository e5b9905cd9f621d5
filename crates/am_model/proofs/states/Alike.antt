-- When things of a state are alike: each test of two things is an equivalence.
use Rattle.std.proofs.Common.{◌≡◌, true, nat_eq, eqb-true}
use Rattle.std.specs.Cmp.{IsEquivalence}
use Rattle.std.proofs.lemmas.Bool.{and_parts}
use Rattle.std.proofs.lemmas.Cmp.{nat_eq_equiv, on_equiv, and_equiv}
use Rattle.am_alerts.specs.AlertData.{AlertData}
use Rattle.am_alerts.specs.LabelOrder.{same_label_set_equiv, same_label_set-decides}
use Rattle.am_alerts.specs.Labels.{same_label_set}
use Rattle.am_mute.specs.Silence.{SilenceData}
use Rattle.am_model.specs.declared.group.GroupName.{GroupName}
use Rattle.am_model.specs.declared.views.RowView.{RowView}
use Rattle.am_model.specs.Finish.{same_key}
use Rattle.am_model.specs.Insert.{same_alert, same_member, same_group}
use Rattle.am_model.specs.Laws.{same_notified, same_flushed, same_number}
use Rattle.am_model.specs.State.{NotifiedState, FlushState, GroupState, MemberState, same_name}
use Rattle.am_model.specs.Maintenance.{same_silence}

pub same_name_equiv : IsEquivalence same_name
same_name_equiv = and_equiv (on_equiv (λ (n : GroupName). n.route) nat_eq_equiv) (on_equiv (λ (n : GroupName). n.labels) same_label_set_equiv)

pub same_alert_equiv : IsEquivalence same_alert
same_alert_equiv = on_equiv (λ (a : AlertData). a.labels) same_label_set_equiv

pub same_member_equiv : IsEquivalence same_member
same_member_equiv = on_equiv (λ (m : MemberState). m.alert) same_alert_equiv

pub same_group_equiv : IsEquivalence same_group
same_group_equiv = on_equiv (λ (g : GroupState). g.name) same_name_equiv

pub same_key_equiv : IsEquivalence same_key
same_key_equiv = and_equiv (on_equiv (λ (r : RowView). r.group) same_name_equiv) (on_equiv (λ (r : RowView). r.integration) nat_eq_equiv)

pub same_silence_equiv : IsEquivalence same_silence
same_silence_equiv = on_equiv (λ (x : SilenceData). x.id) nat_eq_equiv

pub same_flushed_equiv : IsEquivalence same_flushed
same_flushed_equiv = on_equiv (λ (f : FlushState). f.group) same_name_equiv

pub same_number_equiv : IsEquivalence same_number
same_number_equiv = on_equiv (λ (f : FlushState). f.number) nat_eq_equiv

pub same_notified_equiv : IsEquivalence same_notified
same_notified_equiv = on_equiv (λ (a : NotifiedState). a.integration) nat_eq_equiv

-- names that the test takes for one are one
pub same_name-is : (a b : GroupName) → same_name a b ≡ true → a ≡ b
same_name-is a b h =
    let parts = and_parts (nat_eq a.route b.route) (same_label_set a.labels b.labels) h in
    let route = eqb-true a.route b.route parts.0 in
    let labels = (same_label_set-decides a.labels b.labels).0 parts.1 in
    λ i. record { route = route i; labels = labels i }
