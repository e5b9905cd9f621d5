-- Why each integration is notified, as the code decides it, and that a begin notifies those whose reason says so.
use Rattle.std.proofs.Common.{◌≡◌, ℕ, Bool, true, false, ◌&&◌, Option, Some, None, List, [], ◌∷◌, map, refl, sym, ap, ◌∙◌, subst, if◌then◌else◌}
use Rattle.std.specs.Prelude.{filter, find}
use Rattle.am_alerts.specs.AlertData.{is_resolved}
use Rattle.am_alerts.specs.Labels.{same_label_set}
use Rattle.am_alerts.specs.declared.labels.Label.{Label}
use Rattle.am_nflog.specs.Members.{is_empty}
use Rattle.am_nflog.specs.Needed.{update_reason}
use Rattle.am_model.specs.declared.config.Config.{Config}
use Rattle.am_model.specs.declared.config.Integration.{Integration}
use Rattle.am_model.specs.declared.group.GroupName.{GroupName}
use Rattle.am_model.specs.declared.reason.Reason.{Reason}
use Rattle.am_model.specs.declared.reason.Reason.TheVariants.{NothingLeft, RouteMuted}
use Rattle.am_model.specs.declared.views.RowView.{RowView}
use Rattle.am_model.specs.Begin.{alert_cmp, notified_of, copy_under, entry_of, firing_of, is_entry_of, label_sets, needs, resolved_of}
use Rattle.am_model.specs.Configured.{integrations_of, route_muted, route_of, rules_of}
use Rattle.am_model.specs.Lists.{in_order, unless, without}
use Rattle.am_model.specs.State.{GroupState, State}
use Rattle.am_model.specs.look_back.Preview.{reason_of}
use Rattle.am_model.specs.look_back.Reasons.{notifies, reason_by, reason_by_entry, reason_of_update, reason_where}
use Rattle.am_model.proofs.looking_back.reasons.ReasonsAreExact.{needed-notifies}
use Rattle.am_board.specs.Beginning.{IsUnmuted, alert_sets_of, update_of}
use Rattle.am_board.specs.Dedup.{AreDecided, common_reason, is_nothing, reason_among, reason_for}
use Rattle.am_board.specs.declared.dedup.Decided.{Decided}
use Rattle.am_board.specs.declared.flush.AlertSets.{AlertSets}
use Rattle.am_board.specs.declared.unmuted.Unmuted.{Unmuted}
use Rattle.am_board.proofs.lemmas.begin.Updates.{empty-label_sets}

filter-none : {X : Type 0} (xs : List X) → filter (λ x. false) xs ≡ []
filter-none [] = refl
filter-none (x ∷ xs) = filter-none xs

-- nobody is notified for a reason that doesn't say so
pub nobody-for : (r : Reason) (is : List (ℕ × Integration)) → notifies r ≡ false → [] ≡ map update_of (filter (λ i. notifies r) is)
nobody-for r is quiet = sym (ap (λ b. map update_of (filter (λ i. b) is)) quiet ∙ ap (map update_of) (filter-none is))

-- ---- the reason that all integrations have

-- it is that of each of them
common-is : (until : Option ℕ) (sets : AlertSets) (r other : Reason) → Some r ≡ common_reason until sets → r ≡ reason_where until (if is_nothing sets then NothingLeft else other)
common-is (Some t) sets r other is = cc
common-is None sets r other is = by (is_nothing sets) is
  where
    by : (b : Bool) → Some r ≡ (if b then Some NothingLeft else None) → r ≡ (if b then NothingLeft else other)
    by true e = cc
    by false e = absurd (cc)

-- none is notified for it
pub common-quiet : (until : Option ℕ) (sets : AlertSets) (r : Reason) → Some r ≡ common_reason until sets → notifies r ≡ false
common-quiet (Some t) sets r is = let same : r ≡ RouteMuted t = cc in ap notifies same
common-quiet None sets r is = by (is_nothing sets) is
  where
    by : (b : Bool) → Some r ≡ (if b then Some NothingLeft else None) → notifies r ≡ false
    by true e = let same : r ≡ NothingLeft = cc in ap notifies same
    by false e = absurd (cc)

-- it is found by whether something is unmuted, where the route isn't muted
pub common-left : (until : Option ℕ) (unmuted : Unmuted) (empty : Bool) → until ≡ None → empty ≡ (is_empty unmuted.firing && is_empty unmuted.resolved)
    → (if empty then Some NothingLeft else None) ≡ common_reason until (alert_sets_of unmuted)
common-left until unmuted empty is counted =
    ap (λ b. if b then Some NothingLeft else None) (counted ∙ sym (λ j. empty-label_sets unmuted.firing j && empty-label_sets unmuted.resolved j))
    ∙ sym (ap (λ o. common_reason o (alert_sets_of unmuted)) is)

-- there is none: the route isn't muted, and something is unmuted
pub common-none : (until : Option ℕ) (sets : AlertSets) → None ≡ common_reason until sets → (None ≡ until) × (is_nothing sets ≡ false)
common-none (Some t) sets is = absurd (cc)
common-none None sets is = (refl, by (is_nothing sets) is)
  where
    by : (b : Bool) → None ≡ (if b then Some NothingLeft else None) → b ≡ false
    by true e = absurd (cc)
    by false e = refl

module _ (config : Config) (s : State) (t : ℕ) (g : GroupState) where
  abbrev firing : List (List Label)
  firing = label_sets (firing_of config s t g)

  abbrev resolved : List (List Label)
  resolved = label_sets (resolved_of config s t g)

  abbrev repeat : ℕ
  repeat = (route_of config g.name).repeat_interval

  abbrev row : ℕ × Integration → Option RowView
  row i = find (is_entry_of g.name i.0) s.rows

  abbrev need : ℕ × Integration → Bool
  need i = needs config s t g.name firing resolved i

  -- its reason where the group's route isn't muted
  abbrev reason_left : Bool → ℕ × Integration → Reason
  reason_left nothing i = if nothing then NothingLeft else reason_by (row i) firing resolved i.1.send_resolved repeat t

  by_left : (nothing : Bool) (is : List (ℕ × Integration)) → filter (λ i. notifies (reason_left nothing i)) is ≡ (if nothing then [] else filter need is)
  by_left true is = filter-none is
  by_left false is = sym (λ j. filter (λ i. needed-notifies (row i) firing resolved i.1.send_resolved repeat t j) is)

  by_muted : (muted : Option ℕ) → route_muted config g.name t ≡ muted
      → filter (λ i. notifies (reason_where muted (reason_left (is_empty firing && is_empty resolved) i))) (integrations_of config g.name) ≡ notified_of config s t g
  by_muted None is = by_left (is_empty firing && is_empty resolved) (integrations_of config g.name)
  by_muted (Some until) is =
      let no_firing : firing ≡ [] =
      ap (λ o. label_sets (in_order alert_cmp (without (λ a. is_resolved a t) (unless o (copy_under (rules_of config) s t g))))) is in
      let no_resolved : resolved ≡ [] =
      ap (λ o. label_sets (in_order alert_cmp (filter (λ a. is_resolved a t) (unless o (copy_under (rules_of config) s t g))))) is in
      filter-none (integrations_of config g.name)
      ∙ sym (λ j. if is_empty (no_firing j) && is_empty (no_resolved j) then [] else filter need (integrations_of config g.name))

  -- a begin notifies those whose reason says so
  pub notified_by_reasons : filter (λ i. notifies (reason_of config s t g i)) (integrations_of config g.name) ≡ notified_of config s t g
  notified_by_reasons = by_muted (route_muted config g.name t) refl

  module _ (unmuted : Unmuted) (is : IsUnmuted config s t g unmuted) (sets : AlertSets) (sets_are : sets ≡ alert_sets_of unmuted) where
    -- the reason that is decided about what is unmuted is the one of the definitions
    reason_is : (i : ℕ × Integration) → reason_for config s g.name (route_muted config g.name t) sets t i ≡ reason_of config s t g i
    reason_is i =
        let fact : List (List Label) → List (List Label) → Reason = λ fire gone. reason_where (route_muted config g.name t) (reason_by_entry (row i) fire gone i.1.send_resolved repeat t) in
        ap (λ (x : AlertSets). fact x.firing x.resolved) sets_are
        ∙ (λ j. fact (label_sets (is.firing j)) (label_sets (is.resolved j)))

    module _ (until : Option ℕ) (until_is : until ≡ route_muted config g.name t) (why : Bool) (d : Decided)
        (decided : AreDecided why (reason_for config s g.name until sets t) (integrations_of config g.name) d) where
      as_defined : AreDecided why (reason_of config s t g) (integrations_of config g.name) d
      as_defined =
          subst (λ (r : ℕ × Integration → Reason). AreDecided why r (integrations_of config g.name) d)
          ((λ j i. reason_for config s g.name (until_is j) sets t i) ∙ (λ j i. reason_is i j)) decided

      pub reasons_are : why ≡ true → d.reasons.items ≡ map (reason_of config s t g) (integrations_of config g.name)
      reasons_are wanted = as_defined.reasons ∙ ap (λ b. if b then map (reason_of config s t g) (integrations_of config g.name) else []) wanted

      pub notified_are : d.notified.items ≡ map update_of (notified_of config s t g)
      notified_are = as_defined.notified ∙ ap (map update_of) notified_by_reasons

-- ---- the integrations of a group's receiver

module _ (config : Config) (s : State) (name : GroupName) (sets : AlertSets) (t : ℕ) (until : Option ℕ) (d : Decided) (why : Bool) where
  -- all have one reason, for which none is notified
  pub decided_alike : (r : Reason) → Some r ≡ common_reason until sets → AreDecided why (λ i. r) (integrations_of config name) d
      → AreDecided why (reason_for config s name until sets t) (integrations_of config name) d
  decided_alike r is decided =
      let same : (λ (i : ℕ × Integration). r) ≡ reason_for config s name until sets t =
      λ j i. common-is until sets r (reason_of_update (route_of config name).repeat_interval
      (update_reason same_label_set (entry_of s.rows name i.0) sets.firing sets.resolved i.1.send_resolved (route_of config name).repeat_interval t)) is j in
      subst (λ (f : ℕ × Integration → Reason). AreDecided why f (integrations_of config name) d) same decided

-- each has its own
pub decided_each : (config : Config) (s : State) (name : GroupName) (sets : AlertSets) (t : ℕ) (d : Decided) (why : Bool) (interval : ℕ) → interval ≡ (route_of config name).repeat_interval
    → AreDecided why (reason_among s.rows name sets interval t) (integrations_of config name) d → AreDecided why (reason_for config s name None sets t) (integrations_of config name) d
decided_each config s name sets t d why interval is decided =
    subst (λ (n : ℕ). AreDecided why (reason_among s.rows name sets n t) (integrations_of config name) d) is decided
