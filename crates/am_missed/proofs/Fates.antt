-- What a flush comes to for an integration and a label set whose last insert fires: it or the route is muted, or its notice failed, or it has
-- heard.
use Rattle.std.proofs.Common.{◌≡◌, ◌∙◌, ℕ, ◌+◌, ◌-◌, ◌≤◌, Bool, true, false, cond, not, ◌&&◌, ◌||◌, ◌==◌, ◌⊎◌, inl, inr, List, [], ◌∷◌, map, find, is_some, is_none, slice_get, Option, Some, None, refl, sym, ap, subst, arith, suc, zero}
use Rattle.std.specs.List.{AllByRecursion, enumerate_from, list_any}
use Rattle.std.specs.Option.{option_and_then, option_map, option_map_or}
use Rattle.std.proofs.lemmas.Bool.{false≢true, and_from, and_parts, eqb-true, or_right}
use Rattle.std.proofs.lemmas.Option.{slice_get-map}
use Rattle.am_alerts.specs.AlertData.{is_resolved}
use Rattle.am_alerts.specs.Labels.{same_label_set}
use Rattle.am_alerts.specs.LabelOrder.{same_label_set_equiv, same_label_set-decides}
use Rattle.am_alerts.specs.declared.labels.Label.{Label}
use Rattle.am_mute.specs.Inhibit.{RuleData, is_inhibited_by}
use Rattle.am_alerts.specs.Matcher.{match_all}
use Rattle.am_mute.specs.Mute.{is_muted, mute_cause_of}
use Rattle.am_mute.specs.Silence.{silence_mutes}
use Rattle.am_mute.specs.declared.mute.MuteCause.{MuteCause}
use Rattle.am_nflog.specs.Members.{is_empty, is_member}
use Rattle.am_retry.specs.declared.outcome.Outcome.{Outcome}
use Rattle.am_retry.specs.declared.outcome.Outcome.TheVariants.{Delivered, Expired, Refused, Starved}
use Rattle.am_model.specs.declared.config.Config.{Config}
use Rattle.am_model.specs.declared.config.Integration.{Integration}
use Rattle.am_model.specs.declared.group.GroupName.{GroupName}
use Rattle.am_model.specs.declared.preview.MutedAlert.{MutedAlert}
use Rattle.am_model.specs.declared.preview.Preview.{Preview}
use Rattle.am_model.specs.declared.reason.Reason.{Reason}
use Rattle.am_model.specs.declared.reason.Reason.TheVariants.{FirstNotice, NewAlert, AllResolved, NewlyResolved, Repeat, NothingLeft, NothingFiring, NotYet, RouteMuted}
use Rattle.am_model.specs.declared.record.Record.{Record}
use Rattle.am_model.specs.declared.record.Reply.{Reply}
use Rattle.am_model.specs.declared.record.Reply.TheVariants as reply_is
use Rattle.am_model.specs.declared.views.RowView.{RowView}
use Rattle.am_nflog.specs.declared.update.UpdateReason.{UpdateReason}
use Rattle.am_nflog.specs.declared.update.UpdateReason.TheVariants as update
use Rattle.am_nflog.specs.Needed.{update_reason}
use Rattle.am_model.specs.Begin.{label_sets, log_row, taken}
use Rattle.am_model.specs.Configured.{integrations_named, integrations_of, route_muted, route_of, rules_of}
use Rattle.am_model.specs.Finish.{is_delivered}
use Rattle.am_model.specs.Notice.{NoticeData}
use Rattle.am_model.specs.Outcomes.{outcomes_in}
use Rattle.am_model.specs.State.{GroupState, MemberState, State}
use Rattle.am_model.specs.Ticket.{outcome_of}
use Rattle.am_model.specs.look_back.Entry.{entry_in, firing_alerts_in, firing_in, known_in, resolved_in, silences_in}
use Rattle.am_model.specs.look_back.Laws.{IsNoticeFound, IsReplyFound, member_with, number_in}
use Rattle.am_model.specs.look_back.Past.{notices_in, takes, time_at}
use Rattle.am_model.specs.look_back.Presence.{goes_to, last_insert, presence}
use Rattle.am_model.specs.look_back.Preview.{muted_alert, muted_of, preview_on}
use Rattle.am_model.specs.look_back.Reasons.{Says, SaysWhere, is_notified_in, notifies, reason_about, reason_by_entry, reason_in, reason_of_update, reason_where}
use Rattle.am_model.proofs.legal.ConsistentBegin.{IsTaken, taken-is}
use Rattle.am_model.proofs.legal.ConsistentState.{IsSteady}
use Rattle.am_model.proofs.legal.EachCall.{inside}
use Rattle.am_model.proofs.lists.Distinct.{all-find, all-weaker, all_to, find-passes}
use Rattle.am_model.proofs.lists.Sets.{any-alike, any-filter_map, any-find, any-map, passes}
use Rattle.am_model.proofs.looking_back.alerts.AlertSets.{blind-inhibited, blind-silenced}
use Rattle.am_model.proofs.looking_back.flushes.Opened.{Finds}
use Rattle.am_model.proofs.looking_back.reasons.ReasonsSay.{reasons_are_so}
use Rattle.am_model.proofs.looking_back.rows.RowSteps.{FindsRows}
use Rattle.am_model.proofs.states.Alike.{same_name-is}
use Rattle.am_board.proofs.lemmas.unsilenced.Muting.{is_some-cause}
use Rattle.am_paging.specs.Paging.{HasHeard, Pages, is_due_a_page, lists, pages}
use Rattle.am_paging.proofs.Firing.{IsDue, is-due}
use Rattle.am_paging.proofs.Unresolved.{fires-there}
use Rattle.am_timeline.specs.Playback as played
use Rattle.am_timeline.specs.Timeline.{labels_of}
use Rattle.am_undelivered.specs.Sets.{is_among}
use Rattle.am_undelivered.specs.Spans.{FlushData, fate_at, fate_by, fate_unsent, is_left_out, mute_end, route_muted_until, sent_of}
use Rattle.am_undelivered.specs.declared.fate.Fate.{Fate}
use Rattle.am_undelivered.specs.declared.fate.Fate.TheVariants.{Failed, Muted, Seen, Unlisted}
use Rattle.am_undelivered.specs.declared.flush.Sent.{Sent}

-- ---- words on lists

-- what follows of each element that passes follows where one does
any-gives : {X : Type 0} (test : X → Bool) (c : Bool) → ((x : X) → test x ≡ true → c ≡ true) → (xs : List X) → list_any test xs ≡ true → c ≡ true
any-gives test c gives [] e = absurd (false≢true e)
any-gives test c gives (x ∷ xs) e =
    elim (test x) as (λ b. test x ≡ b → (b || list_any test xs) ≡ true → c ≡ true) [
      | true ↦ λ is e. gives x is
      | false ↦ λ is e. any-gives test c gives xs e
    ] refl e

any-more : {X : Type 0} (test other : X → Bool) → ((x : X) → test x ≡ true → other x ≡ true) → (xs : List X) → list_any test xs ≡ true → list_any other xs ≡ true
any-more test other more [] e = absurd (false≢true e)
any-more test other more (x ∷ xs) e =
    elim (test x) as (λ b. test x ≡ b → (b || list_any test xs) ≡ true → (other x || list_any other xs) ≡ true) [
      | true ↦ λ is e. ap (λ b. b || list_any other xs) (more x is)
      | false ↦ λ is e. or_right (other x) (list_any other xs) (any-more test other more xs e)
    ] refl e

find-map : {X Y : Type 0} (test : Y → Bool) (f : X → Y) (xs : List X) → find test (map f xs) ≡ option_map f (find (λ x. test (f x)) xs)
find-map test f [] = refl
find-map test f (x ∷ xs) =
    elim (test (f x)) as (λ b. cond b (Some (f x)) (find test (map f xs)) ≡ option_map f (cond b (Some x) (find (λ x. test (f x)) xs))) [
      | true ↦ refl
      | false ↦ find-map test f xs
    ]

-- each element with its position is there
pub record IsAt {X : Type 0} (n : ℕ) (xs : List X) (i : ℕ × X) : Type 0 where
  pub from : n ≤ i.0
  pub listed : slice_get (enumerate_from n xs) (i.0 - n) ≡ Some i
  pub there : slice_get xs (i.0 - n) ≡ Some i.1

each-at : {X : Type 0} (n : ℕ) (xs : List X) → AllByRecursion (IsAt n xs) (enumerate_from n xs)
each-at n [] = tt
each-at {X} n (x ∷ xs) = (
  record {
    from = omega arith;
    listed = ap (λ k. slice_get ((n, x) ∷ enumerate_from (n + 1) xs) k) none;
    there = ap (λ k. slice_get (x ∷ xs) k) none;
  },
  all-weaker (IsAt (n + 1) xs) (IsAt n (x ∷ xs)) later (enumerate_from (n + 1) xs) (each-at (n + 1) xs),
)
  where
    none : n - n ≡ 0
    none = omega arith

    later : (i : ℕ × X) → IsAt (n + 1) xs i → IsAt n (x ∷ xs) i
    later i h =
        let from = h.from in
        let next : i.0 - n ≡ suc (i.0 - (n + 1)) = omega (arith, from) in
        record {
          from = omega (arith, from);
          listed = ap (λ k. slice_get ((n, x) ∷ enumerate_from (n + 1) xs) k) next ∙ h.listed;
          there = ap (λ k. slice_get (x ∷ xs) k) next ∙ h.there;
        }

pub each-placed : {X : Type 0} (xs : List X) → AllByRecursion (λ i. (slice_get (enumerate_from 0 xs) i.0 ≡ Some i) × (slice_get xs i.0 ≡ Some i.1)) (enumerate_from 0 xs)
each-placed {X} xs =
    all-weaker (IsAt 0 xs) (λ (i : ℕ × X). (slice_get (enumerate_from 0 xs) i.0 ≡ Some i) × (slice_get xs i.0 ≡ Some i.1))
    (λ i h. let same : i.0 ≡ i.0 - 0 = omega arith in (ap (slice_get (enumerate_from 0 xs)) same ∙ h.listed, ap (slice_get xs) same ∙ h.there))
    (enumerate_from 0 xs) (each-at 0 xs)

-- an element with its position is at it
position-from : {X : Type 0} (n : ℕ) (xs : List X) (k : ℕ) (i : ℕ × X) → slice_get (enumerate_from n xs) k ≡ Some i → i.0 ≡ n + k
position-from n [] k i e = absurd (cc)
position-from {X} n (x ∷ xs) zero i e = let same : i.0 ≡ n = sym (ap (λ (y : ℕ × X). y.0) (inside (n, x) i e)) in omega (arith, same)
position-from n (x ∷ xs) (suc k) i e = let rest = position-from (n + 1) xs k i e in omega (arith, rest)

position-is : {X : Type 0} (xs : List X) (k : ℕ) (i : ℕ × X) → slice_get (enumerate_from 0 xs) k ≡ Some i → i.0 ≡ k
position-is xs k i e = let at = position-from 0 xs k i e in omega (arith, at)

-- ---- whom a begin leaves out

-- no entry gives a reason that a route is muted
never-muted : (entry : Option RowView) (firing resolved : List (List Label)) (send_resolved : Bool) (repeat t : ℕ) → mute_end (reason_by_entry entry firing resolved send_resolved repeat t) ≡ None
never-muted entry firing resolved send_resolved repeat t =
    by (is_empty firing && is_empty resolved) (update_reason same_label_set (option_map log_row entry) firing resolved send_resolved repeat t)
  where
    by : (nothing : Bool) (u : UpdateReason) → mute_end (cond nothing NothingLeft (reason_of_update repeat u)) ≡ None
    by true u = refl
    by false update.FirstNotice = refl
    by false update.NewAlert = refl
    by false update.AllResolved = refl
    by false update.NewlyResolved = refl
    by false update.Repeat = refl
    by false update.NothingFiring = refl
    by false (update.NotYet since) = refl

module _ (config : Config) (name : GroupName) (t : ℕ) (past : List Record) where
  -- a reason says that the route is muted exactly where it is
  reason-muted : (i : ℕ × Integration) → is_some (mute_end (reason_in config name t past i)) ≡ is_some (route_muted config name t)
  reason-muted i = by (route_muted config name t)
    where
      about : Reason
      about = reason_about config name t past (firing_in config name t past) (resolved_in config name t past) i

      by : (o : Option ℕ) → is_some (mute_end (reason_where o about)) ≡ is_some o
      by (Some until) = refl
      by None =
          ap is_some (never-muted (entry_in config name i.0 past) (firing_in config name t past) (resolved_in config name t past) i.1.send_resolved (route_of config name).repeat_interval t)

  -- as the first of its reasons says
  first-muted : (is : List (ℕ × Integration)) → is_some (option_and_then mute_end (slice_get (map (reason_in config name t past) is) 0)) ≡ true → is_some (route_muted config name t) ≡ true
  first-muted [] e = absurd (false≢true e)
  first-muted (i ∷ is) e = sym (reason-muted i) ∙ e

  -- and where there is one
  some-muted : (i : ℕ × Integration) (k : ℕ) (is : List (ℕ × Integration)) → slice_get is k ≡ Some i → is_some (option_and_then mute_end (slice_get (map (reason_in config name t past) is) 0)) ≡ false → is_some (route_muted config name t) ≡ false
  some-muted i k [] there e = absurd (cc)
  some-muted i k (j ∷ is) there e = sym (reason-muted j) ∙ e

-- ---- what a flush comes to

same-delivered : (o : Option Outcome) → option_map_or played.is_delivered o false ≡ is_delivered o
same-delivered None = refl
same-delivered (Some Delivered) = refl
same-delivered (Some Refused) = refl
same-delivered (Some Expired) = refl
same-delivered (Some Starved) = refl

-- what a notice of a begin has: the flush's number, and what fires
pub record IsNoticeOf (config : Config) (name : GroupName) (t : ℕ) (past : List Record) (p : Reply) (n : NoticeData) : Type 0 where
  pub ticket : n.ticket ≡ number_in p
  pub firing : n.firing ≡ firing_alerts_in config name t past

notices-of : (config : Config) (name : GroupName) (t : ℕ) (past : List Record) (p : Reply) → IsReplyFound config t past p → takes name p ≡ true → AllByRecursion (IsNoticeOf config name t past p) (notices_in p)
notices-of config name t past (reply_is.Inserted inserted) found takes = tt
notices-of config name t past (reply_is.Silenced silenced) found takes = tt
notices-of config name t past reply_is.NothingDue found takes = tt
notices-of config name t past (reply_is.Quiet group removed) found takes = tt
notices-of config name t past (reply_is.Flush group opened) found takes =
    let same : name ≡ group = same_name-is name group takes in
    let Found = IsNoticeFound config opened.number group opened.deadline t past in
    all-weaker Found (IsNoticeOf config name t past (reply_is.Flush group opened))
    (λ n f. record { ticket = f.ticket; firing = f.firing ∙ ap (λ (g : GroupName). firing_alerts_in config g t past) (sym same) }) opened.notices (all_to Found opened.notices found.listed)
notices-of config name t past (reply_is.Finished finished) found takes = tt
notices-of config name t past (reply_is.Maintained maintained) found takes = tt
notices-of config name t past (reply_is.EmptyGroupsRemoved removed) found takes = tt
notices-of config name t past (reply_is.Forgotten forgotten) found takes = tt
notices-of config name t past (reply_is.Loaded loaded) found takes = tt
notices-of config name t past reply_is.Noted found takes = tt

module _ (config : Config) (s : State) (past : List Record) (t : ℕ) (come : s.clock ≤ t) (steady : IsSteady s) (k : Finds config s past) (l : FindsRows config s past) (g : GroupState) (given : taken s t ≡ Some g) (labels : List Label) where
  abbrev hushed : List Label → Bool
  hushed ls = is_muted ls t s.silences (rules_of config) s.known

  abbrev hushed_then : List Label → Bool
  hushed_then ls = is_muted ls t (silences_in past) (rules_of config) (known_in past)

  muted-same : (ls : List Label) → hushed ls ≡ hushed_then ls
  muted-same ls =
      λ j. l.silences t come (λ x. silence_mutes x t ls) (blind-silenced t ls) j
      || list_any (λ (r : RuleData). match_all r.target ls && l.known t come (λ a. is_inhibited_by r t ls a) (blind-inhibited r t ls) j) (rules_of config)

  own : IsTaken s g
  own = taken-is s t g steady.groups given

  abbrev pub to_do : Preview
  to_do = preview_on config s t (λ g. reason_in config g.name t past) g

  abbrev is_hushed_own : MemberState → Bool
  is_hushed_own m = hushed m.alert.labels && same_label_set m.alert.labels labels

  -- the label set is among those that are left out exactly if a member has it that is muted
  among-muted : is_among labels (map (λ m. m.labels) to_do.muted) ≡ list_any is_hushed_own g.members
  among-muted =
      any-map (λ x. same_label_set x labels) (λ (m : MutedAlert). m.labels) (muted_of config s t g)
      ∙ any-filter_map (λ (m : MutedAlert). same_label_set m.labels labels) (muted_alert config s t) g.members
      ∙ any-alike (λ m. passes (λ (x : MutedAlert). same_label_set x.labels labels) (muted_alert config s t m)) is_hushed_own one g.members
    where
      by : (m : MemberState) (o : Option MuteCause) → passes (λ (x : MutedAlert). same_label_set x.labels labels) (option_map (λ cause. record { labels = m.alert.labels; cause = cause }) o) ≡ (is_some o && same_label_set m.alert.labels labels)
      by m None = refl
      by m (Some cause) = refl

      one : (m : MemberState) → passes (λ (x : MutedAlert). same_label_set x.labels labels) (muted_alert config s t m) ≡ is_hushed_own m
      one m =
          by m (mute_cause_of m.alert.labels t s.silences (rules_of config) s.known)
          ∙ ap (λ b. b && same_label_set m.alert.labels labels) (is_some-cause m.alert.labels t s.silences (rules_of config) s.known)

  -- whoever is among them is muted
  among-then : is_among labels (map (λ m. m.labels) to_do.muted) ≡ true → hushed_then labels ≡ true
  among-then e =
      sym (muted-same labels)
      ∙ any-gives is_hushed_own (hushed labels)
      (λ m own. let parts = and_parts (hushed m.alert.labels) (same_label_set m.alert.labels labels) own in subst (λ ls. hushed ls ≡ true) ((same_label_set-decides m.alert.labels labels).0 parts.1) parts.0)
      g.members (sym among-muted ∙ e)

  -- and a label set that is present and muted is among them
  present-among : (m : MemberState) → presence config g.name labels past ≡ Some m → hushed_then labels ≡ true → is_among labels (map (λ m. m.labels) to_do.muted) ≡ true
  present-among m there muted =
      let has : MemberState → Bool = λ n. same_label_set labels n.alert.labels in
      let found : find has g.members ≡ Some m = ap (member_with labels) (sym own.own) ∙ k.found g.name labels ∙ there in
      among-muted
      ∙ any-more has is_hushed_own
      (λ n e.
      let same : labels ≡ n.alert.labels = (same_label_set-decides labels n.alert.labels).0 e in
      and_from (hushed n.alert.labels) (same_label_set n.alert.labels labels) (subst (λ ls. hushed ls ≡ true) same (muted-same labels ∙ muted)) (same_label_set_equiv.symm n.alert.labels labels ∙ e))
      g.members (any-find has g.members ∙ ap is_some found)

  abbrev is_route_muted : Bool
  is_route_muted = is_some (route_muted config g.name t)

  -- a label set that is left out is muted, or its route is
  pub left-muted : is_left_out to_do labels ≡ true → (is_route_muted || hushed_then labels) ≡ true
  left-muted e = by (is_some (route_muted_until to_do)) refl e
    where
      by : (b : Bool) → is_some (route_muted_until to_do) ≡ b → (b || is_among labels (map (λ m. m.labels) to_do.muted)) ≡ true → (is_route_muted || hushed_then labels) ≡ true
      by true is e = ap (λ b. b || hushed_then labels) (first-muted config g.name t past (integrations_of config g.name) is)
      by false is e = or_right is_route_muted (hushed_then labels) (among-then e)

  module _ (past_come : time_at past ≤ t) (m : MemberState) (goes : goes_to config g.name labels ≡ true) (inserted : last_insert labels past ≡ Some m) (fires : is_resolved m.alert t ≡ false) where
    -- one that isn't left out, of a receiver with integrations, is due a page
    not-left-due : (i : ℕ × Integration) → slice_get (integrations_of config g.name) i.0 ≡ Some i → is_left_out to_do labels ≡ false → is_due_a_page config g.name labels t past ≡ true
    not-left-due i at e =
        let parts = both (is_some (route_muted_until to_do)) (is_among labels (map (λ m. m.labels) to_do.muted)) e in
        let open_route = some-muted config g.name t past i i.0 (integrations_of config g.name) at parts.0 in
        let heard = no (hushed_then labels) (λ muted. false≢true (sym parts.1 ∙ present-among m (fires-there config g.name labels past t m past_come goes inserted fires) muted)) in
        and_from (goes_to config g.name labels) (option_map_or (λ (n : MemberState). not (is_resolved n.alert t)) (last_insert labels past) false && (is_none (route_muted config g.name t) && not (hushed_then labels))) goes
        (and_from (option_map_or (λ (n : MemberState). not (is_resolved n.alert t)) (last_insert labels past) false) (is_none (route_muted config g.name t) && not (hushed_then labels))
        (ap (λ o. option_map_or (λ (n : MemberState). not (is_resolved n.alert t)) o false) inserted ∙ ap not fires)
        (and_from (is_none (route_muted config g.name t)) (not (hushed_then labels)) (ap not open_route) (ap not heard)))
      where
        both : (a b : Bool) → (a || b) ≡ false → (a ≡ false) × (b ≡ false)
        both true b e = absurd (cc)
        both false b e = (refl, e)

        no : (b : Bool) → (b ≡ true → ⊥) → b ≡ false
        no true f = absurd (f refl)
        no false f = refl

    module _ (q : Record) (returned : IsReplyFound config t past q.reply) (takes_it : takes g.name q.reply ≡ true) (later : List Record) (part begin : ℕ) where
      -- the flush
      abbrev pub flush_seen : FlushData
      flush_seen = record { part = part; begin = begin; config = config; preview = to_do; sent = map (sent_of later) (notices_in q.reply) }

      -- a notice that lists it as firing isn't reported delivered
      abbrev pub HasFailed : ℕ → Type 0
      HasFailed i = (pages i labels q.reply ≡ true) × (is_delivered (outcome_of (outcomes_in (number_in q.reply) later) i) ≡ false)

      -- what a flush comes to: it or its route is muted, or its notice failed, or it has heard
      abbrev pub ComesTo : ℕ → Fate → Type 0
      ComesTo i fate = ((fate ≡ Muted part begin) × ((is_route_muted || hushed_then labels) ≡ true)) ⊎ (((fate ≡ Failed) × HasFailed i) ⊎ (fate ≡ Seen))

      -- whether a notice is reported delivered
      delivered-then : (i : ℕ) (n : NoticeData) → find (λ n. n.integration == i) (notices_in q.reply) ≡ Some n
          → is_delivered (outcome_of (outcomes_in (number_in q.reply) later) i) ≡ option_map_or played.is_delivered (outcome_of (outcomes_in n.ticket later) n.integration) false
      delivered-then i n found =
          let of : IsNoticeOf config g.name t past q.reply n = all-find (IsNoticeOf config g.name t past q.reply) (λ n. n.integration == i) n (notices_in q.reply) (notices-of config g.name t past q.reply returned takes_it) found in
          let at : n.integration ≡ i = eqb-true n.integration i (find-passes (λ n. n.integration == i) n (notices_in q.reply) found) in
          sym (same-delivered (outcome_of (outcomes_in n.ticket later) n.integration) ∙ (λ j. is_delivered (outcome_of (outcomes_in (of.ticket j) later) (at j))))

      -- a notice that lists it pages
      paged-by : (i : ℕ) (n : NoticeData) → lists labels n ≡ true → (ns : List NoticeData) → find (λ n. n.integration == i) ns ≡ Some n → list_any (λ n. (n.integration == i) && lists labels n) ns ≡ true
      paged-by i n listed [] e = absurd (cc)
      paged-by i n listed (x ∷ xs) e =
          elim (x.integration == i) as (λ b. cond b (Some x) (find (λ n. n.integration == i) xs) ≡ Some n → ((b && lists labels x) || list_any (λ n. (n.integration == i) && lists labels n) xs) ≡ true) [
            | true ↦ λ e. let same : x ≡ n = cc in ap (λ b. b || list_any (λ n. (n.integration == i) && lists labels n) xs) (ap (lists labels) same ∙ listed)
            | false ↦ λ e. paged-by i n listed xs e
          ] e

      among-lists : (n : NoticeData) → is_among labels (map labels_of n.firing) ≡ lists labels n
      among-lists n = any-alike (λ ls. same_label_set ls labels) (same_label_set labels) (λ ls. same_label_set_equiv.symm ls labels) (map labels_of n.firing)

      -- the notice of an integration lists what fires
      with-notice : (i : ℕ) (n : NoticeData) → is_member same_label_set labels (firing_in config g.name t past) ≡ true → find (λ n. n.integration == i) (notices_in q.reply) ≡ Some n → ComesTo i (fate_by labels true (sent_of later n))
      with-notice i n firing found =
          let of : IsNoticeOf config g.name t past q.reply n = all-find (IsNoticeOf config g.name t past q.reply) (λ n. n.integration == i) n (notices_in q.reply) (notices-of config g.name t past q.reply returned takes_it) found in
          let listed : lists labels n ≡ true = ap (λ alerts. is_member same_label_set labels (label_sets alerts)) of.firing ∙ firing in
          let delivered = option_map_or played.is_delivered (outcome_of (outcomes_in n.ticket later) n.integration) false in
          subst (λ b. ComesTo i (cond b (cond delivered Seen Failed) Unlisted)) (sym (among-lists n ∙ listed))
          (by delivered (delivered-then i n found) (paged-by i n listed (notices_in q.reply) found))
        where
          by : (delivered : Bool) → is_delivered (outcome_of (outcomes_in (number_in q.reply) later) i) ≡ delivered → pages i labels q.reply ≡ true → ComesTo i (cond delivered Seen Failed)
          by true is sent = inr (inr refl)
          by false is sent = inr (inl (refl, (sent, is)))

      abbrev says_of : Reason → ℕ × Integration → Type 0
      says_of reason i = Says reason (entry_in config g.name i.0 past) (firing_in config g.name t past) (resolved_in config g.name t past) i.1.send_resolved (route_of config g.name).repeat_interval t

      -- where it isn't left out
      unmuted-comes : (i : ℕ × Integration) → slice_get (integrations_of config g.name) i.0 ≡ Some i → is_notified_in i.0 q.reply ≡ notifies (reason_in config g.name t past i) → is_left_out to_do labels ≡ false
          → ComesTo i.0 (option_map_or (fate_by labels true) (find (λ x. x.integration == i.0) (map (sent_of later) (notices_in q.reply))) (fate_unsent true (slice_get to_do.reasons i.0)))
      unmuted-comes i at notified e =
          let due : IsDue config g.name labels t past = is-due config g.name labels t past past_come (not-left-due i at e) in
          subst (λ o. ComesTo i.0 (option_map_or (fate_by labels true) o (fate_unsent true (slice_get to_do.reasons i.0)))) (sym (find-map (λ (x : Sent). x.integration == i.0) (sent_of later) (notices_in q.reply)))
          (subst (λ o. ComesTo i.0 (option_map_or (fate_by labels true) (option_map (sent_of later) (find (λ n. n.integration == i.0) (notices_in q.reply))) (fate_unsent true o)))
          (sym (slice_get-map (reason_in config g.name t past) (integrations_of config g.name) i.0 ∙ ap (option_map (reason_in config g.name t past)) at))
          (by due.firing (find (λ n. n.integration == i.0) (notices_in q.reply)) refl (reason_in config g.name t past i) (sym (any-find (λ n. n.integration == i.0) (notices_in q.reply)) ∙ notified) (says due)))
        where
          says : IsDue config g.name labels t past → says_of (reason_in config g.name t past i) i
          says due =
              subst (λ o. SaysWhere o (reason_in config g.name t past i) (entry_in config g.name i.0 past) (firing_in config g.name t past) (resolved_in config g.name t past) i.1.send_resolved (route_of config g.name).repeat_interval t) due.not_muted
              ((reasons_are_so config g.name t past i (reason_in config g.name t past i)).1 refl)

          -- something fires
          some : is_member same_label_set labels (firing_in config g.name t past) ≡ true → firing_in config g.name t past ≡ [] → ⊥
          some firing none = false≢true (sym (ap (is_member same_label_set labels) none) ∙ firing)

          by : is_member same_label_set labels (firing_in config g.name t past) ≡ true → (o : Option NoticeData) → find (λ n. n.integration == i.0) (notices_in q.reply) ≡ o → (reason : Reason) → is_some o ≡ notifies reason → says_of reason i
              → ComesTo i.0 (option_map_or (fate_by labels true) (option_map (sent_of later) o) (fate_unsent true (Some reason)))
          by firing (Some n) found reason e says = with-notice i.0 n firing found
          by firing None found FirstNotice e says = absurd (false≢true e)
          by firing None found NewAlert e says = absurd (false≢true e)
          by firing None found AllResolved e says = absurd (false≢true e)
          by firing None found NewlyResolved e says = absurd (false≢true e)
          by firing None found Repeat e says = absurd (false≢true e)
          by firing None found NothingLeft e says = absurd (some firing says.0)
          by firing None found NothingFiring e says = absurd (some firing says.0)
          by firing None found (NotYet from) e says = inr (inr refl)
          by firing None found (RouteMuted until) e says = absurd says

      pub comes-to : (i : ℕ × Integration) → slice_get (integrations_of config g.name) i.0 ≡ Some i → is_notified_in i.0 q.reply ≡ notifies (reason_in config g.name t past i) → ComesTo i.0 (fate_at flush_seen labels true i.0)
      comes-to i at notified =
          let fate = option_map_or (fate_by labels true) (find (λ (x : Sent). x.integration == i.0) (map (sent_of later) (notices_in q.reply))) (fate_unsent true (slice_get to_do.reasons i.0)) in
          elim (is_left_out to_do labels) as (λ b. is_left_out to_do labels ≡ b → ComesTo i.0 (cond b (Muted part begin) fate)) [
            | true ↦ λ e. inl (refl, left-muted e)
            | false ↦ λ e. unmuted-comes i at notified e
          ] refl

      -- ---- and what that shows

      -- an integration has heard: its notice is reported delivered, or the log says so
      abbrev pub Hears : ℕ → Type 0
      Hears i =
          ((pages i labels q.reply ≡ true) × (is_delivered (outcome_of (outcomes_in (number_in q.reply) later) i) ≡ true))
          ⊎ HasHeard config g.name i labels t past

      abbrev pub ShowsThen : ℕ → Fate → Type 0
      ShowsThen i fate =
          ((fate ≡ Muted part begin) × ((is_route_muted || hushed_then labels) ≡ true))
          ⊎ (((fate ≡ Failed) × HasFailed i) ⊎ (((fate ≡ Seen) × Hears i) ⊎ (fate ≡ Unlisted)))

      notice-shows : (i : ℕ) (n : NoticeData) → find (λ n. n.integration == i) (notices_in q.reply) ≡ Some n → ShowsThen i (fate_by labels true (sent_of later n))
      notice-shows i n found =
          let delivered = option_map_or played.is_delivered (outcome_of (outcomes_in n.ticket later) n.integration) false in
          elim (is_among labels (map labels_of n.firing)) as (λ b. is_among labels (map labels_of n.firing) ≡ b → ShowsThen i (cond b (cond delivered Seen Failed) Unlisted)) [
            | true ↦ λ e. by delivered (delivered-then i n found) (paged-by i n (sym (among-lists n) ∙ e) (notices_in q.reply) found)
            | false ↦ λ e. inr (inr (inr refl))
          ] refl
        where
          by : (delivered : Bool) → is_delivered (outcome_of (outcomes_in (number_in q.reply) later) i) ≡ delivered → pages i labels q.reply ≡ true → ShowsThen i (cond delivered Seen Failed)
          by true is sent = inr (inr (inl (refl, inl (sent, is))))
          by false is sent = inr (inl (refl, (sent, is)))

      -- whoever has no notice and isn't to be notified yet has heard
      heard-before : (i : ℕ × Integration) → slice_get (integrations_of config g.name) i.0 ≡ Some i → is_left_out to_do labels ≡ false → Pages config q past → t ≡ time_at (q ∷ past) → find (λ n. n.integration == i.0) (notices_in q.reply) ≡ None → HasHeard config g.name i.0 labels t past
      heard-before i at e paging now none =
          let Heard : ℕ × Integration → Type 0 = λ i. (pages i.0 labels q.reply ≡ true) ⊎ HasHeard config g.name i.0 labels (time_at (q ∷ past)) past in
          let due = subst (λ u. is_due_a_page config g.name labels u past ≡ true) now (not-left-due i at e) in
          by (all-got Heard (integrations_of config g.name) (all_to Heard (integrations_of config g.name) (paging g.name labels takes_it due)) i.0 i at)
        where
          all-got : (P : ℕ × Integration → Type 0) (xs : List (ℕ × Integration)) → AllByRecursion P xs → (k : ℕ) (x : ℕ × Integration) → slice_get xs k ≡ Some x → P x
          all-got P [] all k x e = absurd (cc)
          all-got P (y ∷ xs) all zero x e = subst P (inside y x e) all.0
          all-got P (y ∷ xs) all (suc k) x e = all-got P xs all.1 k x e

          no : (ns : List NoticeData) → find (λ n. n.integration == i.0) ns ≡ None → list_any (λ n. (n.integration == i.0) && lists labels n) ns ≡ true → ⊥
          no [] none some = false≢true some
          no (x ∷ xs) none some =
              elim (x.integration == i.0) as (λ b. cond b (Some x) (find (λ n. n.integration == i.0) xs) ≡ None → ((b && lists labels x) || list_any (λ n. (n.integration == i.0) && lists labels n) xs) ≡ true → ⊥) [
                | true ↦ λ none some. impossible x none
                | false ↦ λ none some. no xs none some
              ] none some
            where
              impossible : (x : NoticeData) → Some x ≡ None → ⊥
              impossible x e = cc

          by : (pages i.0 labels q.reply ≡ true) ⊎ HasHeard config g.name i.0 labels (time_at (q ∷ past)) past → HasHeard config g.name i.0 labels t past
          by (inl paged) = absurd (no (notices_in q.reply) none paged)
          by (inr heard) = subst (λ u. HasHeard config g.name i.0 labels u past) (sym now) heard

      reason-shows : (i : ℕ × Integration) → slice_get (integrations_of config g.name) i.0 ≡ Some i → is_left_out to_do labels ≡ false → Pages config q past → t ≡ time_at (q ∷ past) → find (λ n. n.integration == i.0) (notices_in q.reply) ≡ None
          → (reason : Reason) → ShowsThen i.0 (fate_unsent true (Some reason))
      reason-shows i at e paging now none FirstNotice = inr (inr (inr refl))
      reason-shows i at e paging now none NewAlert = inr (inr (inr refl))
      reason-shows i at e paging now none AllResolved = inr (inr (inr refl))
      reason-shows i at e paging now none NewlyResolved = inr (inr (inr refl))
      reason-shows i at e paging now none Repeat = inr (inr (inr refl))
      reason-shows i at e paging now none NothingLeft = inr (inr (inr refl))
      reason-shows i at e paging now none NothingFiring = inr (inr (inr refl))
      reason-shows i at e paging now none (NotYet from) = inr (inr (inl (refl, inr (heard-before i at e paging now none))))
      reason-shows i at e paging now none (RouteMuted until) = inr (inr (inr refl))

      pub shows-then : Pages config q past → t ≡ time_at (q ∷ past) → (k : ℕ) → ShowsThen k (fate_at flush_seen labels true k)
      shows-then paging now k =
          let sent = map (sent_of later) (notices_in q.reply) in
          let fate = option_map_or (fate_by labels true) (find (λ (x : Sent). x.integration == k) sent) (fate_unsent true (slice_get to_do.reasons k)) in
          elim (is_left_out to_do labels) as (λ b. is_left_out to_do labels ≡ b → ShowsThen k (cond b (Muted part begin) fate)) [
            | true ↦ λ e. inl (refl, left-muted e)
            | false ↦ λ e.
                subst (λ o. ShowsThen k (option_map_or (fate_by labels true) o (fate_unsent true (slice_get to_do.reasons k)))) (sym (find-map (λ (x : Sent). x.integration == k) (sent_of later) (notices_in q.reply)))
                (by e (find (λ n. n.integration == k) (notices_in q.reply)) refl)
          ] refl
        where
          unsent : is_left_out to_do labels ≡ false → find (λ n. n.integration == k) (notices_in q.reply) ≡ None → (o : Option (ℕ × Integration)) → slice_get (integrations_of config g.name) k ≡ o
              → ShowsThen k (fate_unsent true (option_map (reason_in config g.name t past) o))
          unsent e none None at = inr (inr (inr refl))
          unsent e none (Some i) at =
              let own : i.0 ≡ k = position-is (integrations_named (route_of config g.name).receiver config.receivers) k i at in
              subst (λ n. ShowsThen n (fate_unsent true (Some (reason_in config g.name t past i)))) own
              (reason-shows i (ap (slice_get (integrations_of config g.name)) own ∙ at) e paging now (ap (λ n. find (λ (x : NoticeData). x.integration == n) (notices_in q.reply)) own ∙ none) (reason_in config g.name t past i))

          by : is_left_out to_do labels ≡ false → (o : Option NoticeData) → find (λ n. n.integration == k) (notices_in q.reply) ≡ o
              → ShowsThen k (option_map_or (fate_by labels true) (option_map (sent_of later) o) (fate_unsent true (slice_get to_do.reasons k)))
          by e (Some n) found = notice-shows k n found
          by e None none =
              subst (λ o. ShowsThen k (fate_unsent true o)) (sym (slice_get-map (reason_in config g.name t past) (integrations_of config g.name) k))
              (unsent e none (slice_get (integrations_of config g.name) k) refl)
