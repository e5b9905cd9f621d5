-- What a begin lists is what looking back finds: the alerts that fire and those that are resolved, from the history alone.
use Rattle.std.proofs.Common.{◌≡◌, ℕ, Bool, true, false, cond, not, ◌&&◌, ◌||◌, Option, Some, None, List, [], ◌∷◌, map, refl, sym, ap, ◌∙◌, subst}
use Rattle.std.specs.Prelude.{IsPermutation, filter, count_by, is_some, nat_le, nat_lt}
use Rattle.std.specs.List.{AllByRecursion, IsDistinct, list_any, filter_map, cons_option}
use Rattle.std.proofs.lemmas.List.Sorted.{IsPermutation-map, IsPermutation-refl}
use Rattle.std.proofs.lemmas.Map.Keys.{IsDistinct-head, IsDistinct-tail, IsDistinct-cons}
use Rattle.am_alerts.specs.AlertData.{AlertData, is_resolved}
use Rattle.am_alerts.specs.Labels.{same_label_set}
use Rattle.am_alerts.specs.LabelOrder.{same_label_set_equiv, same_label_set-decides}
use Rattle.am_alerts.specs.declared.labels.Label.{Label}
use Rattle.am_mute.specs.Inhibit.{RuleData, agrees_on, matches_both, is_inhibited_by}
use Rattle.am_mute.specs.Mute.{is_muted}
use Rattle.am_mute.specs.Silence.{SilenceData, silence_mutes, is_over}
use Rattle.am_alerts.specs.Matcher.{match_all}
use Rattle.am_model.specs.declared.config.Config.{Config}
use Rattle.am_model.specs.declared.group.GroupName.{GroupName}
use Rattle.am_model.specs.declared.record.Call.{Call}
use Rattle.am_model.specs.declared.record.Call.TheVariants.{Insert, Silence, Begin, Finish, Maintain, RemoveEmptyGroups, Forget, Load, Note}
use Rattle.am_model.specs.declared.record.Record.{Record}
use Rattle.am_model.specs.Begin.{alert_cmp, copied, label_sets, firing_of, resolved_of, copy_under, copy_of, count_resolved}
use Rattle.am_model.specs.Configured.{rules_of, route_muted}
use Rattle.am_model.specs.look_back.Entry.{latest_first, alert_in, known_in, silences_in, present_in, without_end, firing_alerts_in, resolved_alerts_in, firing_in, resolved_in}
use Rattle.am_model.specs.Insert.{same_alert, same_member}
use Rattle.am_model.specs.Lists.{without, unless, in_order}
use Rattle.am_model.specs.look_back.Laws.{member_with}
use Rattle.am_model.specs.look_back.Presence.{goes_to, inserts, inserted_by, stamp_returned, last_insert, has_left, unless_left, presence}
use Rattle.am_model.specs.State.{MemberState, GroupState, State}
use Rattle.am_model.proofs.lists.Distinct.{IsDistinct-nil}
use Rattle.am_model.proofs.lists.Exchanges.{filter-permutation, without-permutation, count_by-permutation}
use Rattle.am_model.proofs.states.InOrder.{in_order-alerts, labels-copied, IsDistinct-firing, IsDistinct-resolved}
use Rattle.am_model.proofs.looking_back.Pasts.{last_insert-labels}
use Rattle.am_model.proofs.looking_back.PastWords.{has_labels}
use Rattle.am_model.proofs.looking_back.alerts.SameAlerts.{same-members}
use Rattle.am_model.proofs.lists.Sets.{IsBlindTo, any-filter, any-alike, any-and, any-filter_map, latest-distinct, passes}
use Rattle.std.proofs.lemmas.Bool.{and_right, le-ltb, leb-true}

-- ---- the known alerts of a past

pub known-distinct : (past : List Record) → IsDistinct same_alert (known_in past)
known-distinct [] = IsDistinct-nil same_alert
known-distinct (r ∷ past) = by (alert_in r.call) (known-distinct past)
  where
    by : (o : Option AlertData) → IsDistinct same_alert (known_in past) → IsDistinct same_alert (latest_first same_alert o (known_in past))
    by None h = h
    by (Some a) h = latest-distinct same_alert a (known_in past) h

-- those whose label sets were inserted
pub known-inserted : (labels : List Label) (past : List Record) → list_any (λ a. same_label_set labels a.labels) (known_in past) ≡ is_some (last_insert labels past)
known-inserted labels [] = refl
known-inserted labels (r ∷ past) = by (stamp_returned r.reply) r.call (known-inserted labels past)
  where
    by : (stamp : ℕ) (c : Call) → list_any (λ a. same_label_set labels a.labels) (known_in past) ≡ is_some (last_insert labels past)
        → list_any (λ a. same_label_set labels a.labels) (latest_first same_alert (alert_in c) (known_in past)) ≡ is_some (cond (inserts labels c) (inserted_by stamp c) (last_insert labels past))
    by stamp (Insert now alert) rest =
        elim (same_label_set labels alert.labels) as (λ b. same_label_set labels alert.labels ≡ b → (b || list_any (λ a. same_label_set labels a.labels) (without (same_alert alert) (known_in past))) ≡ is_some (cond b (inserted_by stamp (Insert now alert)) (last_insert labels past))) [
          | true ↦ λ e. refl
          | false ↦ λ e.
              any-filter (λ a. same_label_set labels a.labels) (λ a. not (same_alert alert a)) (known_in past)
              ∙ any-alike (λ a. not (same_alert alert a) && same_label_set labels a.labels) (λ a. same_label_set labels a.labels) (λ a. one a (same_label_set labels a.labels) refl e) (known_in past)
              ∙ rest
        ] refl
      where
        other : (a : AlertData) → same_label_set labels a.labels ≡ true → same_label_set labels alert.labels ≡ false → same_alert alert a ≡ false
        other a own e = same_label_set_equiv.symm alert.labels a.labels ∙ sym (same_label_set_equiv.congr labels a.labels alert.labels own) ∙ e

        one : (a : AlertData) (b : Bool) → same_label_set labels a.labels ≡ b → same_label_set labels alert.labels ≡ false → (not (same_alert alert a) && b) ≡ b
        one a true own e = ap (λ c. not c && true) (other a own e)
        one a false own e = and_right (not (same_alert alert a)) false refl
    by stamp (Silence now id matchers start end) rest = rest
    by stamp (Begin now) rest = rest
    by stamp (Finish now number outcomes) rest = rest
    by stamp (Maintain now) rest = rest
    by stamp (RemoveEmptyGroups now) rest = rest
    by stamp (Forget now) rest = rest
    by stamp (Load now row) rest = rest
    by stamp (Note now number integration outcome) rest = rest

-- ---- what is present

module _ (config : Config) (name : GroupName) (past : List Record) where
  -- what is present was inserted, with its label set
  pub presence-inserted : (labels : List Label) (m : MemberState) → presence config name labels past ≡ Some m → last_insert labels past ≡ Some m
  presence-inserted labels m e = by (goes_to config name labels) (last_insert labels past) e
    where
      stays : (b : Bool) (n : MemberState) → cond b None (Some n) ≡ Some m → Some n ≡ Some m
      stays true n e = absurd (cc)
      stays false n e = e

      by : (b : Bool) (o : Option MemberState) → cond b (unless_left name past o) None ≡ Some m → o ≡ Some m
      by true None e = e
      by true (Some n) e = stays (has_left name n.alert past) n e
      by false o e = absurd (cc)

  pub presence-labels : (labels : List Label) (m : MemberState) → presence config name labels past ≡ Some m → same_label_set labels m.alert.labels ≡ true
  presence-labels labels m e = last_insert-labels labels m past (presence-inserted labels m e)

  -- whether one of those present has these labels and passes a test
  pub present-passes : (labels : List Label) (also : MemberState → Bool) → list_any (λ m. has_labels labels m && also m) (present_in config name past) ≡ passes also (presence config name labels past)
  present-passes labels also =
      any-filter_map (λ m. has_labels labels m && also m) (λ a. presence config name a.labels past) (known_in past)
      ∙ any-alike (λ a. passes (λ m. has_labels labels m && also m) (presence config name a.labels past)) (λ a. same_label_set labels a.labels && passes also (presence config name labels past))
      (λ a. one a (presence config name a.labels past) refl (same_label_set labels a.labels) refl) (known_in past)
      ∙ any-and (λ a. same_label_set labels a.labels) (passes also (presence config name labels past)) (known_in past)
      ∙ ap (λ b. b && passes also (presence config name labels past)) (known-inserted labels past)
      ∙ known (presence config name labels past) refl
    where
      known : (o : Option MemberState) → presence config name labels past ≡ o → (is_some (last_insert labels past) && passes also o) ≡ passes also o
      known None e = and_right (is_some (last_insert labels past)) false refl
      known (Some m) e = ap (λ o. is_some o && also m) (presence-inserted labels m e)

      one : (a : AlertData) (o : Option MemberState) → presence config name a.labels past ≡ o → (b : Bool) → same_label_set labels a.labels ≡ b → passes (λ m. has_labels labels m && also m) o ≡ (b && passes also (presence config name labels past))
      one a o e true own =
          let same : labels ≡ a.labels = (same_label_set-decides labels a.labels).0 own in
          has o (subst (λ l. presence config name l past ≡ o) (sym same) e) ∙ ap (passes also) (sym (subst (λ l. presence config name l past ≡ o) (sym same) e))
        where
          has : (o : Option MemberState) → presence config name labels past ≡ o → passes (λ m. has_labels labels m && also m) o ≡ passes also o
          has None e = refl
          has (Some m) e = ap (λ b. b && also m) (presence-labels labels m e)
      one a None e false own = refl
      one a (Some m) e false own =
          ap (λ b. b && also m) (same_label_set_equiv.symm labels m.alert.labels ∙ sym (same_label_set_equiv.congr a.labels m.alert.labels labels (presence-labels a.labels m e)) ∙ same_label_set_equiv.symm a.labels labels ∙ own)

  -- no two of those present have one label set
  pub present-distinct : IsDistinct same_member (present_in config name past)
  present-distinct = each (known_in past) (known-distinct past)
    where
      found : AlertData → Option MemberState
      found a = presence config name a.labels past

      apart : (a : AlertData) (m : MemberState) → presence config name a.labels past ≡ Some m → (xs : List AlertData) → AllByRecursion (λ b. same_alert a b ≡ false) xs → AllByRecursion (λ n. same_member m n ≡ false) (filter_map (λ b. presence config name b.labels past) xs)
      apart a m e [] all = tt
      apart a m e (b ∷ xs) all = by (presence config name b.labels past) refl (apart a m e xs all.1)
        where
          by : (o : Option MemberState) → presence config name b.labels past ≡ o → AllByRecursion (λ n. same_member m n ≡ false) (filter_map (λ b. presence config name b.labels past) xs) → AllByRecursion (λ n. same_member m n ≡ false) (cons_option o (filter_map (λ b. presence config name b.labels past) xs))
          by None f rest = rest
          by (Some n) f rest =
              let own : a.labels ≡ m.alert.labels = (same_label_set-decides a.labels m.alert.labels).0 (presence-labels a.labels m e) in
              let other : b.labels ≡ n.alert.labels = (same_label_set-decides b.labels n.alert.labels).0 (presence-labels b.labels n f) in
              (subst (λ l. same_label_set m.alert.labels l ≡ false) other (subst (λ l. same_label_set l b.labels ≡ false) own all.0), rest)

      each : (xs : List AlertData) → IsDistinct same_alert xs → IsDistinct same_member (filter_map (λ b. presence config name b.labels past) xs)
      each [] h = IsDistinct-nil same_member
      each (a ∷ xs) h = by (presence config name a.labels past) refl (each xs (IsDistinct-tail same_alert a xs h)) (IsDistinct-head same_alert a xs h)
        where
          by : (o : Option MemberState) → presence config name a.labels past ≡ o → IsDistinct same_member (filter_map (λ b. presence config name b.labels past) xs) → AllByRecursion (λ b. same_alert a b ≡ false) xs → IsDistinct same_member (cons_option o (filter_map (λ b. presence config name b.labels past) xs))
          by None e rest all = rest
          by (Some m) e rest all = IsDistinct-cons same_member m (filter_map (λ b. presence config name b.labels past) xs) (apart a m e xs all) rest

  -- looking among those present finds what is present
  pub present-found : (labels : List Label) → member_with labels (present_in config name past) ≡ presence config name labels past
  present-found labels =
      among (known_in past) ∙ ap (λ b. cond b (presence config name labels past) None) (known-inserted labels past) ∙ inserted (presence config name labels past) refl
    where
      either : (b : Bool) (o : Option MemberState) → cond b o o ≡ o
      either true o = refl
      either false o = refl

      inserted : (o : Option MemberState) → presence config name labels past ≡ o → cond (is_some (last_insert labels past)) o None ≡ o
      inserted None e = either (is_some (last_insert labels past)) None
      inserted (Some m) e = ap (λ o. cond (is_some o) (Some m) None) (presence-inserted labels m e)

      absent : (xs : List AlertData) → presence config name labels past ≡ None → cond (list_any (λ a. same_label_set labels a.labels) xs) (presence config name labels past) None ≡ None
      absent xs e = ap (λ o. cond (list_any (λ a. same_label_set labels a.labels) xs) o None) e ∙ either (list_any (λ a. same_label_set labels a.labels) xs) None

      among : (xs : List AlertData) → member_with labels (filter_map (λ a. presence config name a.labels past) xs) ≡ cond (list_any (λ a. same_label_set labels a.labels) xs) (presence config name labels past) None
      among [] = refl
      among (a ∷ xs) = by (presence config name a.labels past) refl (same_label_set labels a.labels) refl (among xs)
        where
          by : (o : Option MemberState) → presence config name a.labels past ≡ o → (b : Bool) → same_label_set labels a.labels ≡ b
              → member_with labels (filter_map (λ a. presence config name a.labels past) xs) ≡ cond (list_any (λ a. same_label_set labels a.labels) xs) (presence config name labels past) None
              → member_with labels (cons_option o (filter_map (λ a. presence config name a.labels past) xs)) ≡ cond (b || list_any (λ a. same_label_set labels a.labels) xs) (presence config name labels past) None
          by None e true own rest =
              let same : labels ≡ a.labels = (same_label_set-decides labels a.labels).0 own in
              let gone : presence config name labels past ≡ None = subst (λ l. presence config name l past ≡ None) (sym same) e in
              rest ∙ absent xs gone ∙ sym gone
          by None e false other rest = rest
          by (Some m) e true own rest =
              let same : labels ≡ a.labels = (same_label_set-decides labels a.labels).0 own in
              let there : presence config name labels past ≡ Some m = subst (λ l. presence config name l past ≡ Some m) (sym same) e in
              ap (λ b. cond b (Some m) (member_with labels (filter_map (λ a. presence config name a.labels past) xs))) (presence-labels labels m there) ∙ sym there
          by (Some m) e false other rest =
              let apart : same_label_set labels m.alert.labels ≡ false =
              same_label_set_equiv.symm labels m.alert.labels ∙ sym (same_label_set_equiv.congr a.labels m.alert.labels labels (presence-labels a.labels m e)) ∙ same_label_set_equiv.symm a.labels labels ∙ other in
              ap (λ b. cond b (Some m) (member_with labels (filter_map (λ a. presence config name a.labels past) xs))) apart ∙ rest

  -- alerts of which no two have one label set, and among which looking finds what is present, are those present
  pub members-present : (members : List MemberState) → IsDistinct same_member members → ((labels : List Label) → member_with labels members ≡ presence config name labels past) → IsPermutation members (present_in config name past)
  members-present members apart there = same-members members (present_in config name past) apart present-distinct (λ labels. there labels ∙ sym (present-found labels))

-- ---- a copy, alert by alert

module _ (t : ℕ) where
  abbrev unresolved : List AlertData → List AlertData
  unresolved xs = without (λ a. is_resolved a t) xs

  abbrev resolved : List AlertData → List AlertData
  resolved xs = filter (λ a. is_resolved a t) xs

  one-firing : (a : AlertData) (xs ys : List AlertData) → unresolved xs ≡ map without_end (unresolved ys) → (b : Bool) → is_resolved a t ≡ b → (c : Bool)
      → unresolved (cond (not c) (cond b a (without_end a) ∷ xs) xs) ≡ map without_end (unresolved (cond (not c) (a ∷ ys) ys))
  one-firing a xs ys rest b e true = rest
  one-firing a xs ys rest true e false =
      ap (λ b. cond (not b) (a ∷ unresolved xs) (unresolved xs)) e ∙ rest ∙ sym (ap (λ b. map without_end (cond (not b) (a ∷ unresolved ys) (unresolved ys))) e)
  one-firing a xs ys rest false e false =
      ap (λ l. without_end a ∷ l) rest ∙ sym (ap (λ b. map without_end (cond (not b) (a ∷ unresolved ys) (unresolved ys))) e)

  one-resolved : (a : AlertData) (xs ys : List AlertData) → resolved xs ≡ resolved ys → (b : Bool) → is_resolved a t ≡ b → (c : Bool)
      → resolved (cond (not c) (cond b a (without_end a) ∷ xs) xs) ≡ resolved (cond (not c) (a ∷ ys) ys)
  one-resolved a xs ys rest b e true = rest
  one-resolved a xs ys rest true e false = ap (λ l. cond (is_resolved a t) (a ∷ l) l) rest
  one-resolved a xs ys rest false e false = rest ∙ sym (ap (λ b. cond b (a ∷ resolved ys) (resolved ys)) e)

  -- where a route is muted nothing is copied
  unless-firing : (o : Option ℕ) (xs ys : List AlertData) → unresolved xs ≡ map without_end (unresolved ys)
      → unresolved (unless o xs) ≡ map without_end (unresolved (unless o ys))
  unless-firing None xs ys h = h
  unless-firing (Some until) xs ys h = refl

  unless-resolved : (o : Option ℕ) (xs ys : List AlertData) → resolved xs ≡ resolved ys → resolved (unless o xs) ≡ resolved (unless o ys)
  unless-resolved None xs ys h = h
  unless-resolved (Some until) xs ys h = refl

  module _ (muted : List Label → Bool) where
    abbrev heard : List AlertData → List AlertData
    heard xs = without (λ a. muted a.labels) xs

    -- what fires in a copy is what fires in the group, without its end
    copied-firing : (ms : List MemberState) → unresolved (heard (map (λ m. copied t m.alert) ms)) ≡ map without_end (unresolved (heard (map (λ m. m.alert) ms)))
    copied-firing [] = refl
    copied-firing (m ∷ ms) =
        let xs = heard (map (λ n. copied t n.alert) ms) in
        (λ j. unresolved (cond (not (muted (labels-copied t m.alert j))) (copied t m.alert ∷ xs) xs))
        ∙ one-firing m.alert xs (heard (map (λ n. n.alert) ms)) (copied-firing ms) (is_resolved m.alert t) refl (muted m.alert.labels)

    -- what is resolved in it is what is resolved in the group
    copied-resolved : (ms : List MemberState) → resolved (heard (map (λ m. copied t m.alert) ms)) ≡ resolved (heard (map (λ m. m.alert) ms))
    copied-resolved [] = refl
    copied-resolved (m ∷ ms) =
        let xs = heard (map (λ n. copied t n.alert) ms) in
        (λ j. resolved (cond (not (muted (labels-copied t m.alert j))) (copied t m.alert ∷ xs) xs))
        ∙ one-resolved m.alert xs (heard (map (λ n. n.alert) ms)) (copied-resolved ms) (is_resolved m.alert t) refl (muted m.alert.labels)

-- what is copied is the same except for its order, also where the route is muted
unless-permutation : (o : Option ℕ) (xs ys : List AlertData) → IsPermutation xs ys → IsPermutation (unless o xs) (unless o ys)
unless-permutation None xs ys h = h
unless-permutation (Some until) xs ys h = IsPermutation-refl []

-- ---- what a begin lists

-- what is resolved, or over, mutes nothing
pub blind-inhibited : (r : RuleData) (t : ℕ) (labels : List Label) → IsBlindTo (λ a. is_resolved a t) (is_inhibited_by r t labels)
blind-inhibited r t labels a e =
    ap (λ b. not b && match_all r.source a.labels && agrees_on r.equal labels a.labels && not (matches_both r labels && matches_both r a.labels)) e

pub blind-silenced : (t : ℕ) (labels : List Label) → IsBlindTo (is_over t) (λ x. silence_mutes x t labels)
blind-silenced t labels x e =
    ap (λ b. b && match_all x.matchers labels) (and_right (nat_le x.start t) (nat_lt t x.end) (le-ltb t x.end (leb-true x.end t e)))

module _ (config : Config) (s : State) (past : List Record) (t : ℕ)
    (known : (test : AlertData → Bool) → IsBlindTo (λ a. is_resolved a t) test → list_any test s.known ≡ list_any test (known_in past))
    (silences : (test : SilenceData → Bool) → IsBlindTo (is_over t) test → list_any test s.silences ≡ list_any test (silences_in past)) where
  muted-found : (labels : List Label) → is_muted labels t s.silences (rules_of config) s.known ≡ is_muted labels t (silences_in past) (rules_of config) (known_in past)
  muted-found labels =
      (λ j. silences (λ x. silence_mutes x t labels) (blind-silenced t labels) j
      || list_any (λ (r : RuleData). match_all r.target labels && known (λ a. is_inhibited_by r t labels a) (blind-inhibited r t labels) j) (rules_of config))

  module _ (g : GroupState) (apart : IsDistinct same_member g.members) (there : (labels : List Label) → member_with labels g.members ≡ presence config g.name labels past) where
    moved : IsPermutation g.members (present_in config g.name past)
    moved = members-present config g.name past g.members apart there

    abbrev hushed : List Label → Bool
    hushed labels = is_muted labels t s.silences (rules_of config) s.known

    abbrev hushed_then : List Label → Bool
    hushed_then labels = is_muted labels t (silences_in past) (rules_of config) (known_in past)

    abbrev copy_then : List AlertData
    copy_then = heard t hushed (map (λ m. copied t m.alert) (present_in config g.name past))

    abbrev muted : Option ℕ
    muted = route_muted config g.name t

    copy-moved : IsPermutation (copy_of config s t g) (unless muted copy_then)
    copy-moved =
        unless-permutation muted (copy_under (rules_of config) s t g) copy_then
        (without-permutation (λ a. hushed a.labels) (map (λ m. copied t m.alert) g.members) (map (λ m. copied t m.alert) (present_in config g.name past))
        (IsPermutation-map (λ m. copied t m.alert) g.members (present_in config g.name past) moved))

    -- the alerts that a begin of the group lists as firing, and those that it lists as resolved
    pub firing-same : firing_of config s t g ≡ firing_alerts_in config g.name t past
    firing-same =
        in_order-alerts (unresolved t (copy_of config s t g)) (unresolved t (unless muted copy_then)) (without-permutation (λ a. is_resolved a t) (copy_of config s t g) (unless muted copy_then) copy-moved) (IsDistinct-firing config s t g apart)
        ∙ (λ j. in_order alert_cmp (unresolved t (unless muted (without (λ a. muted-found a.labels j) (map (λ m. copied t m.alert) (present_in config g.name past))))))
        ∙ ap (in_order alert_cmp) (unless-firing t muted _ _ (copied-firing t hushed_then (present_in config g.name past)))

    pub resolved-same : resolved_of config s t g ≡ resolved_alerts_in config g.name t past
    resolved-same =
        in_order-alerts (resolved t (copy_of config s t g)) (resolved t (unless muted copy_then)) (filter-permutation (λ a. is_resolved a t) (copy_of config s t g) (unless muted copy_then) copy-moved) (IsDistinct-resolved config s t g apart)
        ∙ (λ j. in_order alert_cmp (resolved t (unless muted (without (λ a. muted-found a.labels j) (map (λ m. copied t m.alert) (present_in config g.name past))))))
        ∙ ap (in_order alert_cmp) (unless-resolved t muted _ _ (copied-resolved t hushed_then (present_in config g.name past)))

    -- and their label sets
    pub firing-found : label_sets (firing_of config s t g) ≡ firing_in config g.name t past
    firing-found = ap label_sets firing-same

    pub resolved-found : label_sets (resolved_of config s t g) ≡ resolved_in config g.name t past
    resolved-found = ap label_sets resolved-same

    -- how many of the group are resolved
    pub count-same : count_resolved t g ≡ count_by (λ m. is_resolved m.alert t) (present_in config g.name past)
    count-same = sym (count_by-permutation (λ m. is_resolved m.alert t) g.members (present_in config g.name past) moved)
