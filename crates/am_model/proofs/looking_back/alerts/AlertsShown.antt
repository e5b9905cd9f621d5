-- The alerts of each group that is shown are those that looking back finds, in the order of their label sets.
use Rattle.std.proofs.Common.{◌≡◌, List, map, sym, ap, ◌∙◌, subst}
use Rattle.std.specs.Prelude.{All}
use Rattle.std.proofs.lemmas.List.Sorted.{IsPermutation-map, All-permutation}
use Rattle.am_model.specs.declared.config.Config.{Config}
use Rattle.am_model.specs.declared.record.Record.{Record}
use Rattle.am_model.specs.declared.views.GroupView.{GroupView}
use Rattle.am_model.specs.Begin.{alert_cmp}
use Rattle.am_model.specs.look_back.Entry.{present_in}
use Rattle.am_model.specs.Lists.{in_order}
use Rattle.am_model.specs.look_back.Laws.{member_with, EveryLegalHistory, alerts_in, ShownAlertsAreFound}
use Rattle.am_model.specs.look_back.Past.{past_of}
use Rattle.am_model.specs.State.{GroupState, MemberState, State}
use Rattle.am_model.specs.Views.{group_cmp, group_view, group_views}
use Rattle.am_model.proofs.legal.ConsistentGroups.{members_of, members_of-own}
use Rattle.am_model.proofs.lists.Distinct.{all_from, all_to, all-map, all-both}
use Rattle.am_model.proofs.legal.ConsistentState.{IsTidy, IsSteady}
use Rattle.am_model.proofs.looking_back.alerts.FoundAlerts.{steady_past, finds_past}
use Rattle.am_model.proofs.states.InOrder.{in_order-alerts, IsDistinct-alerts}
use Rattle.am_model.proofs.lists.Words.{in_order-moves}
use Rattle.am_model.proofs.looking_back.flushes.Opened.{Finds}
use Rattle.am_model.proofs.looking_back.Pasts.{legal_past, replay_is_past}
use Rattle.am_model.proofs.looking_back.alerts.AlertSets.{members-present}

module _ (config : Config) (s : State) (past : List Record) (steady : IsSteady s) (k : Finds config s past) where
  -- the alerts of one group
  abbrev AreFound : GroupState → Type 0
  AreFound g = in_order alert_cmp (map (λ m. m.alert) g.members) ≡ alerts_in config g.name past

  one : (g : GroupState) → members_of s.groups g.name ≡ g.members → IsTidy s.inserts g → AreFound g
  one g own tidy =
      in_order-alerts (map (λ m. m.alert) g.members) (map (λ m. m.alert) (present_in config g.name past))
      (IsPermutation-map (λ (m : MemberState). m.alert) g.members (present_in config g.name past)
      (members-present config g.name past g.members tidy.members (λ labels. ap (member_with labels) (sym own) ∙ k.found g.name labels)))
      (IsDistinct-alerts g.members tidy.members)

  shown : All (λ (v : GroupView). v.alerts ≡ alerts_in config v.group past) (group_views s)
  shown =
      let P : GroupView → Type 0 = λ v. v.alerts ≡ alerts_in config v.group past in
      let groups = in_order group_cmp s.groups in
      all_from P (map group_view groups)
      (all-map group_view P groups
      (all_to AreFound groups
      (All-permutation AreFound s.groups groups (in_order-moves group_cmp s.groups)
      (all_from AreFound s.groups (all-both (λ g. members_of s.groups g.name ≡ g.members) (IsTidy s.inserts) AreFound one s.groups (members_of-own s.groups steady.groups) steady.tidy)))))

pub shown_alerts_are_found : EveryLegalHistory ShownAlertsAreFound
shown_alerts_are_found config id history legal =
    let past = past_of history in
    subst (λ (s : State). All (λ v. v.alerts ≡ alerts_in config v.group past) (group_views s)) (sym (replay_is_past config history))
    (shown config _ past (steady_past config past) (finds_past config id past (legal_past config id history legal)))
