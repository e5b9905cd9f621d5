-- What a begin puts into the board and the ticket, against the definitions.
use Rattle.std.proofs.Common.{◌≡◌, ◌+◌, ◌-◌, ◌*◌, ◌^◌, ◌<◌, ◌≤◌, ℕ, min, max, true, false, cond, IsTrue, List, [], ◌∷◌, length, get_or, map, filter, refl, sym, ap, ◌∙◌, subst, arith, All}
use Rattle.std.proofs.lemmas.Bool.Decides.{nat_tests}
use Rattle.std.proofs.lemmas.List.{get_or-map, length-map}
use Rattle.std.specs.List.{IsDistinct}
use Rattle.std.proofs.lemmas.List.Elements.{All-map}
use Rattle.am_alerts.specs.AlertData.{AlertData, is_resolved}
use Rattle.am_alerts.specs.Route.{has_good_intervals}
use Rattle.am_alerts.specs.declared.labels.Label.{Label}
use Rattle.am_alerts.specs.declared.limits.TheConstants.{MAX_DURATION, MAX_TIME}
use Rattle.am_alerts.specs.declared.route.Route.{Route}
use Rattle.am_board.specs.declared.dedup.Update.{Update}
use Rattle.am_model.specs.declared.notice.TheConstants.{MIN_FLUSH_TIMEOUT}
use Rattle.am_model.specs.declared.config.Config.{Config}
use Rattle.am_model.specs.declared.config.Integration.{Integration}
use Rattle.am_board.specs.declared.flush.OpenFlush.{OpenFlush}
use Rattle.am_board.specs.declared.flush.AlertSets.{AlertSets}
use Rattle.am_board.specs.declared.unmuted.Unmuted.{Unmuted}
use Rattle.am_board.specs.declared.group.Group.{Group}
use Rattle.am_model.specs.declared.group.GroupName.{GroupName}
use Rattle.am_board.specs.declared.group.Member.{Member}
use Rattle.am_model.specs.Begin.{deadline_of, firing_of, flush_notifying, label_sets, leaving_of, notice_for, resolved_of}
use Rattle.am_board.specs.Beginning.{IsFlushNotifying, IsUnmuted, notified_for_update, update_of, leaving_member, notice_of_update, IsSpare}
use Rattle.am_model.specs.Insert.{same_member}
use Rattle.am_board.specs.Refinement.{notified_state_of, flush_state, group_state, member_state, stamped}
use Rattle.am_model.specs.State.{NotifiedState, FlushState, GroupState, MemberState, Stamped, State}

-- two maps in turn
map-map : {X Y Z : Type 0} (f : X → Y) (g : Y → Z) (xs : List X) → map g (map f xs) ≡ map (λ x. g (f x)) xs
map-map f g [] = refl
map-map f g (x ∷ xs) = ap (λ l. g (f x) ∷ l) (map-map f g xs)

-- the members that leave, kept or as the state has them
leaving-same : (t : ℕ) (ms : List Member) → map stamped (map leaving_member (filter (λ m. is_resolved m.alert t) ms)) ≡ map (λ (m : MemberState). record { labels = m.alert.labels; stamp = m.stamp }) (filter (λ m. is_resolved m.alert t) (map member_state ms))
leaving-same t [] = refl
leaving-same t (m ∷ ms) =
    let leaves : MemberState → Stamped = λ m. record { labels = m.alert.labels; stamp = m.stamp } in
    let rest = filter (λ (m : Member). is_resolved m.alert t) ms in
    let others = filter (λ (m : MemberState). is_resolved m.alert t) (map member_state ms) in
    elim (is_resolved m.alert t) as (λ b. map stamped (map leaving_member (cond b (m ∷ rest) rest)) ≡ map leaves (cond b (member_state m ∷ others) others)) [
      | true ↦ ap (λ l. leaves (member_state m) ∷ l) (leaving-same t ms)
      | false ↦ leaving-same t ms
    ]

-- what is unmuted, and a flush, of their parts
abbrev found_with : List AlertData → List AlertData → Unmuted
found_with firing resolved = record { firing = firing; resolved = resolved }

abbrev flush_with : ℕ → GroupName → List NotifiedState → List (List Label) → List (List Label) → List Stamped → FlushState
flush_with number group notified firing resolved leaving = record { number = number; group = group; notified = notified; firing = firing; resolved = resolved; leaving = leaving }

module _ (config : Config) (s : State) (t : ℕ) (g : Group) (unmuted : Unmuted) (is : IsUnmuted config s t (group_state g) unmuted) (notified : List (ℕ × Integration)) where
  unmuted-is : unmuted ≡ found_with (firing_of config s t (group_state g)) (resolved_of config s t (group_state g))
  unmuted-is = ap (λ l. found_with l unmuted.resolved) is.firing ∙ ap (found_with (firing_of config s t (group_state g))) is.resolved

  -- the notices
  pub notices-are : (id deadline : ℕ) (updates : List Update) → updates ≡ map update_of notified → deadline ≡ deadline_of config t (group_state g)
      → map (notice_of_update id s.next_number deadline g.name unmuted) updates ≡ map (notice_for config id s t (group_state g)) notified
  notices-are id deadline updates same ends =
      ap (map (notice_of_update id s.next_number deadline g.name unmuted)) same
      ∙ (map-map update_of (notice_of_update id s.next_number deadline g.name unmuted) notified
      ∙ (ap (λ d. map (λ i. notice_of_update id s.next_number d g.name unmuted (update_of i)) notified) ends
      ∙ ap (λ f. map (λ i. notice_of_update id s.next_number (deadline_of config t (group_state g)) g.name f (update_of i)) notified) unmuted-is))

  module _ (kept : ℕ) (updates : List Update) (same : updates ≡ map update_of notified) (f : OpenFlush) (h : IsFlushNotifying s.next_number kept g unmuted updates t f) where
    notified-are : map notified_state_of f.notified.items ≡ (flush_notifying config s t (group_state g) notified).notified
    notified-are =
        ap (map notified_state_of) h.notified
        ∙ (ap (λ l. map notified_state_of (map (notified_for_update g.name unmuted) l)) same
        ∙ (map-map (notified_for_update g.name unmuted) notified_state_of (map update_of notified)
        ∙ (map-map update_of (λ a. notified_state_of (notified_for_update g.name unmuted a)) notified
        ∙ ap (λ x. map (λ i. notified_state_of (notified_for_update g.name x (update_of i))) notified) unmuted-is)))

    -- the flush
    pub flush-is : flush_state f ≡ flush_notifying config s t (group_state g) notified
    flush-is =
        let number : f.number ≡ s.next_number = h.number in
        let group : f.group ≡ g.name = h.group in
        let all : map notified_state_of f.notified.items ≡ (flush_notifying config s t (group_state g) notified).notified = notified-are in
        let firing : f.sets.firing ≡ label_sets (firing_of config s t (group_state g)) = ap (λ (x : AlertSets). x.firing) h.sets ∙ ap label_sets is.firing in
        let resolved : f.sets.resolved ≡ label_sets (resolved_of config s t (group_state g)) = ap (λ (x : AlertSets). x.resolved) h.sets ∙ ap label_sets is.resolved in
        let leaving : map stamped f.leaving.items ≡ leaving_of t (group_state g) = ap (map stamped) h.leaving ∙ leaving-same t g.members.items in
        ap (λ n. flush_with n f.group (map notified_state_of f.notified.items) f.sets.firing f.sets.resolved (map stamped f.leaving.items)) number
        ∙ (ap (λ n. flush_with s.next_number n (map notified_state_of f.notified.items) f.sets.firing f.sets.resolved (map stamped f.leaving.items)) group
        ∙ (ap (λ l. flush_with s.next_number g.name l f.sets.firing f.sets.resolved (map stamped f.leaving.items)) all
        ∙ (ap (λ l. flush_with s.next_number g.name (flush_notifying config s t (group_state g) notified).notified l f.sets.resolved (map stamped f.leaving.items)) firing
        ∙ (ap (λ l. flush_with s.next_number g.name (flush_notifying config s t (group_state g) notified).notified (label_sets (firing_of config s t (group_state g))) l (map stamped f.leaving.items)) resolved
        ∙ ap (λ l. flush_with s.next_number g.name (flush_notifying config s t (group_state g) notified).notified (label_sets (firing_of config s t (group_state g))) (label_sets (resolved_of config s t (group_state g))) l) leaving))))

    -- what its integrations' log rows are to hold is there
    pub all-spare : All (IsSpare f) f.notified.items
    all-spare = subst (All (IsSpare f)) (sym h.notified) (All-map (IsSpare f) (notified_for_update g.name unmuted) updates (λ k d less. record { group = sym h.group; sets = sym h.sets }))

-- no sum of a flush's time and its interval is cut
pub deadline-is : (r : Route) (t least deadline : ℕ) → IsTrue (has_good_intervals r) → t ≤ MAX_TIME → least ≡ max r.group_interval MIN_FLUSH_TIMEOUT → deadline ≡ min (t + least) (2 ^ 64 - 1) → deadline ≡ t + max r.group_interval MIN_FLUSH_TIMEOUT
deadline-is r t least deadline good before least_is is =
    let few : r.group_interval ≤ MAX_DURATION = grind (arith, nat_tests) in
    omega arith

-- a row of a time is repeated at one that is reported
pub repeat-fits : (r : Route) (time : ℕ) → IsTrue (has_good_intervals r) → time ≤ MAX_TIME → time + r.repeat_interval + 1 < 2 ^ 64
repeat-fits r time good within = grind (arith, nat_tests, good, within)

-- nor is twice an interval
pub kept_for-is : (r : Route) (retention twice kept_for : ℕ) → IsTrue (has_good_intervals r) → twice ≡ min (r.repeat_interval * 2) (2 ^ 64 - 1) → kept_for ≡ min retention twice → kept_for ≡ min retention (2 * r.repeat_interval)
kept_for-is r retention twice kept_for good twice_is is =
    let few : r.repeat_interval ≤ MAX_DURATION = grind (arith, nat_tests) in
    omega arith

-- no two alerts of a group at an index have one label set
pub members-apart : (gs : List Group) (i : ℕ) (g : Group) → All (λ (x : GroupState). IsDistinct same_member x.members) (map group_state gs) → i < length gs → g ≡ get_or gs i g → IsDistinct same_member (group_state g).members
members-apart gs i g all within is =
    let within_states : i < length (map group_state gs) = omega (arith, within, length-map gs group_state) in
    let at : get_or (map group_state gs) i (group_state g) ≡ group_state g = get_or-map group_state gs i g (group_state g) within ∙ ap group_state (sym is) in
    subst (λ (x : GroupState). IsDistinct same_member x.members) at (all i (group_state g) within_states)
