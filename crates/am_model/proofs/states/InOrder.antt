-- Alerts, groups and rows in order, and the alerts of a group.
use denote.Param.Members.{Mut}
use Rattle.std.proofs.Common.{◌≡◌, ℕ, Bool, true, false, not, List, map, refl, sym, ap, ◌∙◌, subst}
use Rattle.std.specs.Prelude.{IsPermutation, IsSorted, IsSortedBy, filter, Option, Some, None, if◌then◌else◌}
use Rattle.std.specs.Borrow.{Bor}
use Rattle.std.specs.Cmp.{IsTotalOrder, IsStrictWeakOrder, both_tied, unsigned_ties}
use Rattle.std.specs.Fn.{Called, ComparesAs}
use Rattle.std.specs.List.{IsDistinct}
use Rattle.std.specs.Ordering.{eq_by_cmp, nat_cmp}
use Rattle.std.specs.declared.cmp.Ordering.{Ordering}
use Rattle.std.proofs.lemmas.Cmp.{nat_cmp_total, on_total, then_total}
use Rattle.am_alerts.specs.AlertData.{AlertData, alert_of, is_resolved}
use Rattle.am_alerts.specs.LabelOrder.{label_set_cmp_total, same_label_set-cmp}
use Rattle.am_alerts.specs.Labels.{same_label_set, label_set_cmp}
use Rattle.am_mute.specs.Inhibit.{RuleData}
use Rattle.am_mute.specs.Mute.{is_muted}
use Rattle.am_nflog.specs.Members.{is_ascending}
use Rattle.am_model.specs.Begin.{alert_cmp, label_sets, copied, copy_under, copy_of, firing_of, resolved_of}
use Rattle.am_model.specs.Configured.{rules_of, route_muted}
use Rattle.am_model.specs.Finish.{same_key}
use Rattle.am_model.specs.Insert.{same_alert, same_member, same_group}
use Rattle.am_model.specs.Lists.{without, unless, in_order}
use Rattle.am_model.specs.State.{MemberState, GroupState, State, same_name, name_cmp}
use Rattle.am_model.specs.Views.{row_cmp, group_cmp, group_view}
use Rattle.am_model.specs.declared.config.Config.{Config}
use Rattle.am_model.specs.declared.group.GroupName.{GroupName}
use Rattle.am_model.specs.declared.views.GroupView.{GroupView}
use Rattle.am_model.specs.declared.views.RowView.{RowView}
use Rattle.am_model.proofs.lists.Distinct.{IsDistinct-nil, IsDistinct-filter, IsDistinct-mapped}
use Rattle.am_model.proofs.lists.InOrder.{in_order-permutation, sorted_is_in_order, sort_by_is_in_order, in_order-ascends, is_ascending-map, apart_by_ties, in_order-map}

pub alert_cmp_total : IsTotalOrder alert_cmp
alert_cmp_total = on_total (λ (a : AlertData). a.labels) label_set_cmp_total

pub name_cmp_total : IsTotalOrder name_cmp
name_cmp_total = then_total (on_total (λ (n : GroupName). n.route) nat_cmp_total) (on_total (λ (n : GroupName). n.labels) label_set_cmp_total)

pub group_cmp_total : IsTotalOrder group_cmp
group_cmp_total = on_total (λ (g : GroupState). g.name) name_cmp_total

pub row_cmp_total : IsTotalOrder row_cmp
row_cmp_total = then_total (on_total (λ (r : RowView). r.group) name_cmp_total) (on_total (λ (r : RowView). r.integration) nat_cmp_total)

pub same_alert-ties : (a b : AlertData) → same_alert a b ≡ eq_by_cmp alert_cmp a b
same_alert-ties a b = same_label_set-cmp a.labels b.labels

pub same_name-ties : (a b : GroupName) → same_name a b ≡ eq_by_cmp name_cmp a b
same_name-ties a b = both_tied _ _ (nat_cmp a.route b.route) (label_set_cmp a.labels b.labels) (unsigned_ties a.route b.route) (same_label_set-cmp a.labels b.labels)

pub same_group-ties : (g h : GroupState) → same_group g h ≡ eq_by_cmp group_cmp g h
same_group-ties g h = same_name-ties g.name h.name

pub same_key-ties : (a b : RowView) → same_key a b ≡ eq_by_cmp row_cmp a b
same_key-ties a b = both_tied _ _ (name_cmp a.group b.group) (nat_cmp a.integration b.integration) (same_name-ties a.group b.group) (unsigned_ties a.integration b.integration)

-- what a sort gives of alerts of which no two have one label set
pub sorted_alerts : (xs ys : List AlertData) → IsPermutation xs ys → IsSorted alert_cmp ys → IsDistinct same_alert xs → ys ≡ in_order alert_cmp xs
sorted_alerts xs ys moved sorted apart = sorted_is_in_order alert_cmp alert_cmp_total xs ys moved sorted (apart_by_ties same_alert alert_cmp same_alert-ties xs apart)

-- the same from the clauses of a sort by a closure that answers by the alerts' labels
pub sorted_by_labels : {F : Type 0} {g : Mut F (Bor AlertData × (Bor AlertData × Unit {0})) Ordering} {f : F} (xs ys : List AlertData) → IsPermutation xs ys → ((lt : AlertData → AlertData → Bool) → IsStrictWeakOrder lt → ComparesAs g lt f → IsSortedBy lt ys)
    → ((a : Bor AlertData × (Bor AlertData × Unit {0})) (r : Ordering) (f' : F) → Called g f a r f' → (r ≡ alert_cmp a.0.now a.1.0.now) × (f' ≡ f)) → IsDistinct same_alert xs → ys ≡ in_order alert_cmp xs
sorted_by_labels xs ys moved sorted answers apart = sort_by_is_in_order alert_cmp alert_cmp_total xs ys moved sorted answers (apart_by_ties same_alert alert_cmp same_alert-ties xs apart)

pub sorted_groups : (xs ys : List GroupState) → IsPermutation xs ys → IsSorted group_cmp ys → IsDistinct same_group xs → ys ≡ in_order group_cmp xs
sorted_groups xs ys moved sorted apart = sorted_is_in_order group_cmp group_cmp_total xs ys moved sorted (apart_by_ties same_group group_cmp same_group-ties xs apart)

pub sorted_rows : (xs ys : List RowView) → IsPermutation xs ys → IsSorted row_cmp ys → IsDistinct same_key xs → ys ≡ in_order row_cmp xs
sorted_rows xs ys moved sorted apart = sorted_is_in_order row_cmp row_cmp_total xs ys moved sorted (apart_by_ties same_key row_cmp same_key-ties xs apart)

-- in order the elements may come as they like
pub in_order-alerts : (xs ys : List AlertData) → IsPermutation xs ys → IsDistinct same_alert xs → in_order alert_cmp xs ≡ in_order alert_cmp ys
in_order-alerts xs ys moved apart = in_order-permutation alert_cmp alert_cmp_total xs ys moved (apart_by_ties same_alert alert_cmp same_alert-ties xs apart)

pub in_order-groups : (xs ys : List GroupState) → IsPermutation xs ys → IsDistinct same_group xs → in_order group_cmp xs ≡ in_order group_cmp ys
in_order-groups xs ys moved apart = in_order-permutation group_cmp group_cmp_total xs ys moved (apart_by_ties same_group group_cmp same_group-ties xs apart)

pub in_order-rows : (xs ys : List RowView) → IsPermutation xs ys → IsDistinct same_key xs → in_order row_cmp xs ≡ in_order row_cmp ys
in_order-rows xs ys moved apart = in_order-permutation row_cmp row_cmp_total xs ys moved (apart_by_ties same_key row_cmp same_key-ties xs apart)

-- the label sets of alerts in order rise strictly
pub label_sets-ascend : (xs : List AlertData) → IsDistinct same_alert xs → is_ascending label_set_cmp (label_sets (in_order alert_cmp xs)) ≡ true
label_sets-ascend xs apart =
    is_ascending-map label_set_cmp (λ (a : AlertData). a.labels) (in_order alert_cmp xs)
    ∙ in_order-ascends alert_cmp alert_cmp_total xs (apart_by_ties same_alert alert_cmp same_alert-ties xs apart)

-- ---- the alerts of a group

-- a flush copies an alert with its label set
pub labels-copied : (t : ℕ) (a : AlertData) → (copied t a).labels ≡ a.labels
labels-copied t a = by (is_resolved a t)
  where
    by : (b : Bool) → (if b then a else alert_of a.labels a.starts None).labels ≡ a.labels
    by true = refl
    by false = refl

-- no two alerts of a group have one label set
pub IsDistinct-alerts : (members : List MemberState) → IsDistinct same_member members → IsDistinct same_alert (map (λ m. m.alert) members)
IsDistinct-alerts = IsDistinct-mapped same_member same_alert (λ m. m.alert) (λ m n. refl)

-- and none of its copy
pub IsDistinct-copy : (rules : List RuleData) (s : State) (t : ℕ) (g : GroupState) → IsDistinct same_member g.members → IsDistinct same_alert (copy_under rules s t g)
IsDistinct-copy rules s t g h =
    IsDistinct-filter same_alert (λ a. not (is_muted a.labels t s.silences rules s.known)) (map (λ m. copied t m.alert) g.members)
    (IsDistinct-mapped same_member same_alert (λ m. copied t m.alert) (λ m n i. same_label_set (labels-copied t m.alert i) (labels-copied t n.alert i)) g.members h)

-- and none of what a flush copies, also where the route is muted
IsDistinct-unless : (muted : Option ℕ) (xs : List AlertData) → IsDistinct same_alert xs → IsDistinct same_alert (unless muted xs)
IsDistinct-unless None xs h = h
IsDistinct-unless (Some until) xs h = IsDistinct-nil same_alert

IsDistinct-copied : (config : Config) (s : State) (t : ℕ) (g : GroupState) → IsDistinct same_member g.members → IsDistinct same_alert (copy_of config s t g)
IsDistinct-copied config s t g h =
    IsDistinct-unless (route_muted config g.name t) (copy_under (rules_of config) s t g) (IsDistinct-copy (rules_of config) s t g h)

pub IsDistinct-firing : (config : Config) (s : State) (t : ℕ) (g : GroupState) → IsDistinct same_member g.members → IsDistinct same_alert (without (λ a. is_resolved a t) (copy_of config s t g))
IsDistinct-firing config s t g h = IsDistinct-filter same_alert (λ a. not (is_resolved a t)) (copy_of config s t g) (IsDistinct-copied config s t g h)

pub IsDistinct-resolved : (config : Config) (s : State) (t : ℕ) (g : GroupState) → IsDistinct same_member g.members → IsDistinct same_alert (filter (λ a. is_resolved a t) (copy_of config s t g))
IsDistinct-resolved config s t g h = IsDistinct-filter same_alert (λ a. is_resolved a t) (copy_of config s t g) (IsDistinct-copied config s t g h)

-- the label sets that fire in a flush, and those that are resolved in it, rise strictly
pub firing-ascends : (config : Config) (s : State) (t : ℕ) (g : GroupState) → IsDistinct same_member g.members → is_ascending label_set_cmp (label_sets (firing_of config s t g)) ≡ true
firing-ascends config s t g h = label_sets-ascend (without (λ a. is_resolved a t) (copy_of config s t g)) (IsDistinct-firing config s t g h)

pub resolved-ascends : (config : Config) (s : State) (t : ℕ) (g : GroupState) → IsDistinct same_member g.members → is_ascending label_set_cmp (label_sets (resolved_of config s t g)) ≡ true
resolved-ascends config s t g h = label_sets-ascend (filter (λ a. is_resolved a t) (copy_of config s t g)) (IsDistinct-resolved config s t g h)

-- the order of groups as they are shown
abbrev pub view_cmp : GroupView → GroupView → Ordering
view_cmp a b = name_cmp a.group b.group

pub view_cmp_total : IsTotalOrder view_cmp
view_cmp_total = on_total (λ (v : GroupView). v.group) name_cmp_total

-- no two views of groups that have different names tie
pub apart_views : (groups : List GroupState) → IsDistinct same_group groups → IsDistinct (eq_by_cmp view_cmp) (map group_view groups)
apart_views groups apart = IsDistinct-mapped (eq_by_cmp group_cmp) (eq_by_cmp view_cmp) group_view (λ g h. refl) groups (apart_by_ties same_group group_cmp same_group-ties groups apart)

-- what a sort by the groups' names gives of their views
pub sorted_by_group : {F : Type 0} {g : Mut F (Bor GroupView × (Bor GroupView × Unit {0})) Ordering} {f : F} (groups : List GroupState) (xs ys : List GroupView) → xs ≡ map group_view groups → IsPermutation xs ys
    → ((lt : GroupView → GroupView → Bool) → IsStrictWeakOrder lt → ComparesAs g lt f → IsSortedBy lt ys)
    → ((a : Bor GroupView × (Bor GroupView × Unit {0})) (r : Ordering) (f' : F) → Called g f a r f' → (r ≡ view_cmp a.0.now a.1.0.now) × (f' ≡ f)) → IsDistinct same_group groups → ys ≡ map group_view (in_order group_cmp groups)
sorted_by_group groups xs ys views moved sorted answers apart =
    sort_by_is_in_order view_cmp view_cmp_total xs ys moved sorted answers (subst (IsDistinct (eq_by_cmp view_cmp)) (sym views) (apart_views groups apart))
    ∙ ap (in_order view_cmp) views
    ∙ sym (in_order-map group_cmp view_cmp group_view (λ g h. refl) groups)

-- what a sort of rows by group and integration gives
pub sorted_by_row_key : {F : Type 0} {g : Mut F (Bor RowView × (Bor RowView × Unit {0})) Ordering} {f : F} (xs ys : List RowView) → IsPermutation xs ys → ((lt : RowView → RowView → Bool) → IsStrictWeakOrder lt → ComparesAs g lt f → IsSortedBy lt ys)
    → ((a : Bor RowView × (Bor RowView × Unit {0})) (r : Ordering) (f' : F) → Called g f a r f' → (r ≡ row_cmp a.0.now a.1.0.now) × (f' ≡ f)) → IsDistinct same_key xs → ys ≡ in_order row_cmp xs
sorted_by_row_key xs ys moved sorted answers apart = sort_by_is_in_order row_cmp row_cmp_total xs ys moved sorted answers (apart_by_ties same_key row_cmp same_key-ties xs apart)
