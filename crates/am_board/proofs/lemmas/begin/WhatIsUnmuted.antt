-- What a begin finds in a group, in the order of the labels.
use Rattle.std.proofs.Common.{◌≡◌, ℕ, Bool, true, false, not, Option, Some, None, List, [], filter, map, slice_get, refl, sym, ap, ◌∙◌}
use Rattle.std.specs.Prelude.{is_some}
use Rattle.std.proofs.lemmas.Bool.{false≢true}
use Rattle.std.specs.List.{IsDistinct, filter_map}
use Rattle.std.specs.declared.cmp.Ordering.{Ordering}
use Rattle.am_alerts.specs.AlertData.{AlertData, is_resolved}
use Rattle.am_alerts.specs.Labels.{label_set_cmp, same_label_set}
use Rattle.am_mute.specs.Mute.{is_muted}
use Rattle.am_nflog.specs.Members.{is_ascending}
use Rattle.am_model.specs.declared.config.Config.{Config}
use Rattle.am_board.specs.declared.unmuted.Unmuted.{Unmuted}
use Rattle.am_board.specs.declared.group.Group.{Group}
use Rattle.am_board.specs.declared.group.Member.{Member}
use Rattle.am_model.specs.Begin.{alert_cmp, copied, copy_under, label_sets}
use Rattle.am_model.specs.Configured.{route_muted}
use Rattle.am_board.specs.Beginning.{AreRising, IsUnmuted, copies_at, copy_among, firing_among, resolved_among}
use Rattle.am_model.specs.Insert.{same_alert, same_member}
use Rattle.am_board.specs.Refinement.{group_state, member_state}
use Rattle.am_board.specs.Members.{labels_of}
use Rattle.am_board.specs.Order.{member_cmp, indexes_in_order}
use Rattle.am_board.specs.Walk.{AreFound}
use Rattle.am_board.specs.declared.walk.Walk.{Walk}
use Rattle.am_model.specs.Lists.{in_order, unless, without}
use Rattle.am_model.specs.State.{GroupState, MemberState, State}
use Rattle.am_model.proofs.lists.Distinct.{IsDistinct-mapped}
use Rattle.am_model.proofs.lists.InOrder.{apart_by_ties, in_order-map}
use Rattle.am_model.proofs.states.InOrder.{IsDistinct-copy, alert_cmp_total, firing-ascends, labels-copied, resolved-ascends, same_alert-ties}
use Rattle.am_board.proofs.lemmas.invariant.Order.{in_order-filter, members_there}

-- the order of alerts of a group by their label sets, with their stamps
abbrev state_cmp : MemberState → MemberState → Ordering
state_cmp m n = label_set_cmp m.alert.labels n.alert.labels

-- what a flush copies of these members
abbrev copies : ℕ → List Member → List AlertData
copies t members = map (λ m. copied t m.alert) (map member_state members)

-- it is in order where they are
copies-in_order : (t : ℕ) (members : List Member) → copies t (in_order member_cmp members) ≡ in_order alert_cmp (copies t members)
copies-in_order t members =
    ap (map (λ (m : MemberState). copied t m.alert)) (in_order-map member_cmp state_cmp member_state (λ m n. refl) members)
    ∙ in_order-map state_cmp alert_cmp (λ (m : MemberState). copied t m.alert) (λ m n i. label_set_cmp (labels-copied t m.alert i) (labels-copied t n.alert i)) (map member_state members)

module _ (config : Config) (s : State) (t : ℕ) (g : Group) (apart : IsDistinct same_member (group_state g).members) where
  left_out : (test : AlertData → Bool) (xs : List AlertData) → IsDistinct same_alert xs → filter test (in_order alert_cmp xs) ≡ in_order alert_cmp (filter test xs)
  left_out test xs h = in_order-filter alert_cmp alert_cmp_total test xs (apart_by_ties same_alert alert_cmp same_alert-ties xs h)

  copy-in_order : copy_among config.rules s t (in_order member_cmp g.members.items) ≡ in_order alert_cmp (copy_under config.rules s t (group_state g))
  copy-in_order =
      ap (without (λ (a : AlertData). is_muted a.labels t s.silences config.rules s.known)) (copies-in_order t g.members.items)
      ∙ left_out (λ a. not (is_muted a.labels t s.silences config.rules s.known)) (copies t g.members.items)
      (IsDistinct-mapped same_member same_alert (λ (m : MemberState). copied t m.alert) (λ m n i. same_label_set (labels-copied t m.alert i) (labels-copied t n.alert i)) (group_state g).members apart)

  -- what fires and what is resolved of a group in the order of its labels is what is unmuted in it
  is_found : (members : List Member) (firing resolved : List AlertData)
      → route_muted config g.name t ≡ None → members ≡ in_order member_cmp g.members.items
      → firing ≡ firing_among config.rules s t members → resolved ≡ resolved_among config.rules s t members
      → IsUnmuted config s t (group_state g) (record { firing = firing; resolved = resolved })
  is_found members firing resolved not_muted same_members fire gone =
      let copy = copy_under config.rules s t (group_state g) in
      let apart_copy : IsDistinct same_alert copy = IsDistinct-copy config.rules s t (group_state g) apart in
      record {
        firing =
            fire
            ∙ ap (firing_among config.rules s t) same_members
            ∙ ap (without (λ (a : AlertData). is_resolved a t)) copy-in_order
            ∙ left_out (λ a. not (is_resolved a t)) copy apart_copy
            ∙ sym (ap (λ o. in_order alert_cmp (without (λ a. is_resolved a t) (unless o copy))) not_muted);
        resolved =
            gone
            ∙ ap (resolved_among config.rules s t) same_members
            ∙ ap (filter (λ (a : AlertData). is_resolved a t)) copy-in_order
            ∙ left_out (λ a. is_resolved a t) copy apart_copy
            ∙ sym (ap (λ o. in_order alert_cmp (filter (λ a. is_resolved a t) (unless o copy))) not_muted);
      }

  -- what a walk finds is what is unmuted
  pub is_walked : (causes : Bool) (walk : Walk) (unmuted : Unmuted)
      → route_muted config g.name t ≡ None → AreFound config.rules s t g.members.items (indexes_in_order (map labels_of g.members.items)) causes walk
      → unmuted.firing ≡ copies_at t walk.firing.items → unmuted.resolved ≡ copies_at t walk.resolved.items
      → IsUnmuted config s t (group_state g) unmuted
  is_walked causes walk unmuted not_muted is fire gone =
      let ms = g.members.items in
      let found = is_found (filter_map (slice_get ms) (indexes_in_order (map labels_of ms))) (copies_at t walk.firing.items) (copies_at t walk.resolved.items)
      not_muted (members_there ms) is.firing is.resolved in
      record { firing = fire ∙ found.firing; resolved = gone ∙ found.resolved }

-- nothing is unmuted where the route is muted
pub nothing_found : (config : Config) (s : State) (t : ℕ) (g : GroupState) (firing resolved : List AlertData)
    → is_some (route_muted config g.name t) ≡ true → firing ≡ [] → resolved ≡ []
    → IsUnmuted config s t g (record { firing = firing; resolved = resolved })
nothing_found config s t g firing resolved muted none gone = by (route_muted config g.name t) refl muted
  where
    by : (o : Option ℕ) → route_muted config g.name t ≡ o → is_some o ≡ true → IsUnmuted config s t g (record { firing = firing; resolved = resolved })
    by None e h = absurd (false≢true h)
    by (Some until) e h =
        record {
          firing = none ∙ sym (ap (λ o. in_order alert_cmp (without (λ a. is_resolved a t) (unless o (copy_under config.rules s t g)))) e);
          resolved = gone ∙ sym (ap (λ o. in_order alert_cmp (filter (λ a. is_resolved a t) (unless o (copy_under config.rules s t g)))) e);
        }

-- a route that isn't muted
pub not_muted : (o : Option ℕ) → is_some o ≡ false → o ≡ None
not_muted None h = refl
not_muted (Some until) h = absurd (false≢true (sym h))

-- the label sets of what is unmuted rise
pub unmuted-rises : (config : Config) (s : State) (t : ℕ) (g : GroupState) (unmuted : Unmuted) → IsDistinct same_member g.members → IsUnmuted config s t g unmuted → AreRising unmuted
unmuted-rises config s t g unmuted apart is =
    record {
      firing = ap (λ (l : List AlertData). is_ascending label_set_cmp (label_sets l)) is.firing ∙ firing-ascends config s t g apart;
      resolved = ap (λ (l : List AlertData). is_ascending label_set_cmp (label_sets l)) is.resolved ∙ resolved-ascends config s t g apart;
    }
