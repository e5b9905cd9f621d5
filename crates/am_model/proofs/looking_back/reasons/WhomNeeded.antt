-- A begin notifies exactly the integrations that looking back says, and says what looking back finds.
use Rattle.std.proofs.Common.{◌≡◌, ℕ, ◌≤◌, Bool, true, false, ◌&&◌, ◌||◌, Some, List, [], ◌∷◌, map, refl, sym, ap, ◌∙◌, subst, arith, if◌then◌else◌}
use Rattle.std.specs.Prelude.{All, filter, find, ◌==◌}
use Rattle.std.specs.Cmp.{IsEquivalence}
use Rattle.std.specs.List.{AllByRecursion, IsDistinct}
use Rattle.std.specs.Option.{option_map}
use Rattle.std.proofs.lemmas.Bool.{false≢true}
use Rattle.std.proofs.lemmas.Cmp.{nat_eq_equiv, on_equiv}
use Rattle.am_alerts.specs.Labels.{same_label_set}
use Rattle.am_alerts.specs.declared.labels.Label.{Label}
use Rattle.am_nflog.specs.Members.{is_empty}
use Rattle.am_nflog.specs.Needed.{needed}
use Rattle.am_model.specs.declared.config.Config.{Config}
use Rattle.am_model.specs.declared.config.Integration.{Integration}
use Rattle.am_model.specs.declared.record.Call.{Call}
use Rattle.am_model.specs.declared.record.Call.TheVariants.{Begin}
use Rattle.am_model.specs.declared.record.Record.{Record}
use Rattle.am_model.specs.declared.record.Reply.{Reply}
use Rattle.am_model.specs.Begin.{label_sets, log_row, needs, firing_of, resolved_of, notified_of, deadline_of, notice_for, taken, after_notifying, reply_notifying}
use Rattle.am_model.specs.Configured.{route_of, route_muted, integrations_named, integrations_of}
use Rattle.am_model.specs.look_back.Entry.{resolved_alerts_in, firing_in, resolved_in, entry_in}
use Rattle.am_model.specs.Records.{entry}
use Rattle.am_model.specs.Insert.{same_member}
use Rattle.am_model.specs.look_back.Laws.{member_with, EveryLegalHistory, notified_after, NotifiesWhomNeeded, BeginsNotifyExactlyWhomNeeded, wants_resolved, IsNoticeFound, IsReplyFound, NoticesListPresentAlerts}
use Rattle.am_model.specs.look_back.Preview.{reason_of}
use Rattle.am_model.specs.look_back.Past.{past_of, time_at, takes}
use Rattle.am_model.specs.look_back.Reasons.{reason_by_entry, reason_where, reason_in}
use Rattle.am_model.specs.look_back.Presence.{presence}
use Rattle.am_model.specs.State.{GroupState, State, time, same_name}
use Rattle.am_model.proofs.legal.ConsistentBegin.{IsTaken, taken-is, distinct_indexes}
use Rattle.am_model.proofs.lists.Distinct.{all_from, all-filter, all-map, all-weaker}
use Rattle.am_model.proofs.legal.ConsistentState.{IsSteady}
use Rattle.am_model.proofs.legal.EachCall.{HoldsOfEach, each_call}
use Rattle.am_model.proofs.looking_back.alerts.FoundAlerts.{steady_past, finds_past}
use Rattle.am_model.proofs.looking_back.rows.FoundRows.{finds_rows_past}
use Rattle.am_model.proofs.looking_back.alerts.FoundSteps.{clock-step}
use Rattle.am_model.proofs.looking_back.flushes.Opened.{Finds, members-tidy}
use Rattle.am_model.proofs.looking_back.Pasts.{state_after, at_each, legal_past}
use Rattle.am_model.proofs.looking_back.rows.RowSteps.{FindsRows}
use Rattle.am_model.proofs.lists.Sets.{any-found, each-found, passes}
use Rattle.am_model.proofs.looking_back.alerts.AlertSets.{firing-same, resolved-same, firing-found, resolved-found, count-same}
use Rattle.am_model.proofs.states.Alike.{same_name-is}

module _ (config : Config) (id : ℕ) (s : State) (past : List Record) (pass : ℕ) (steady : IsSteady s) (k : Finds config s past) (l : FindsRows config s past) where
  -- what is said of a begin
  abbrev Notifies : Call → State → Reply → Type 0
  Notifies c new p = NotifiesWhomNeeded config (entry pass c p) past

  abbrev FoundThere : Call → State → Reply → Type 0
  FoundThere c new p = IsReplyFound config (time_at (entry pass c p ∷ past)) past p

  -- no call is before the clock
  later : (now : ℕ) → s.clock ≤ time s now
  later now = omega arith

  module _ (t : ℕ) (come : s.clock ≤ t) (g : GroupState) (is : taken s t ≡ Some g) where
    own : IsTaken s g
    own = taken-is s t g steady.groups is

    apart : IsDistinct same_member g.members
    apart = subst (IsDistinct same_member) own.own (members-tidy s.inserts g.name s.groups steady.tidy).members

    there : (labels : List Label) → member_with labels g.members ≡ presence config g.name labels past
    there labels = ap (member_with labels) (sym own.own) ∙ k.found g.name labels

    -- those that are notified are those that are to be notified
    notified-found : map (λ i. i.0) (notified_of config s t g) ≡ notified_after config g.name t past
    notified-found =
        let firing = firing-found config s past t (l.known t come) (l.silences t come) g apart there in
        let resolved = resolved-found config s past t (l.known t come) (l.silences t come) g apart there in
        (λ j. map (λ (i : ℕ × Integration). i.0) (if is_empty (firing j) && is_empty (resolved j) then []
        else filter (λ (i : ℕ × Integration). needed same_label_set (option_map log_row (l.rows g.name i.0 j)) (firing j) (resolved j) i.1.send_resolved (route_of config g.name).repeat_interval t) (integrations_of config g.name)))
        ∙ by (is_empty (firing_in config g.name t past) && is_empty (resolved_in config g.name t past))
        (filter (λ (i : ℕ × Integration). needed same_label_set (option_map log_row (entry_in config g.name i.0 past)) (firing_in config g.name t past) (resolved_in config g.name t past) i.1.send_resolved (route_of config g.name).repeat_interval t) (integrations_of config g.name))
      where
        by : (b : Bool) (is : List (ℕ × Integration)) → map (λ i. i.0) (if b then [] else is) ≡ (if b then [] else map (λ i. i.0) is)
        by true is = refl
        by false is = refl

    -- the reasons by the state are those that looking back finds
    pub reasons-found : (is : List (ℕ × Integration)) → map (reason_of config s t g) is ≡ map (reason_in config g.name t past) is
    reasons-found is =
        let firing = firing-found config s past t (l.known t come) (l.silences t come) g apart there in
        let resolved = resolved-found config s past t (l.known t come) (l.silences t come) g apart there in
        λ j. map (λ (i : ℕ × Integration). reason_where (route_muted config g.name t) (reason_by_entry (l.rows g.name i.0 j) (firing j) (resolved j) i.1.send_resolved (route_of config g.name).repeat_interval t)) is

    -- and their notices list what is found
    notice-found : (i : ℕ × Integration) → wants_resolved config g.name i.0 ≡ i.1.send_resolved → IsNoticeFound config s.next_number g.name (deadline_of config t g) t past (notice_for config id s t g i)
    notice-found i wants =
        record {
          ticket = refl;
          group = refl;
          deadline = refl;
          firing = firing-same config s past t (l.known t come) (l.silences t come) g apart there;
          resolved =
              ap (λ xs. if i.1.send_resolved then xs else []) (resolved-same config s past t (l.known t come) (l.silences t come) g apart there)
              ∙ ap (λ b. if b then resolved_alerts_in config g.name t past else []) (sym wants);
        }

    notices-found : (notified : List (ℕ × Integration)) → notified_of config s t g ≡ notified → All (IsNoticeFound config s.next_number g.name (deadline_of config t g) t past) (map (notice_for config id s t g) notified)
    notices-found notified are =
        let Wants : ℕ × Integration → Type 0 = λ i. wants_resolved config g.name i.0 ≡ i.1.send_resolved in
        let P = IsNoticeFound config s.next_number g.name (deadline_of config t g) t past in
        all_from P (map (notice_for config id s t g) notified)
        (all-map (notice_for config id s t g) P notified
        (all-weaker Wants (λ i. P (notice_for config id s t g i)) notice-found notified
        (subst (AllByRecursion Wants) are (among (is_empty (label_sets (firing_of config s t g)) && is_empty (label_sets (resolved_of config s t g)))))))
      where
        laws : IsEquivalence (λ (i j : ℕ × Integration). i.0 == j.0)
        laws = on_equiv (λ (i : ℕ × Integration). i.0) nat_eq_equiv

        all : AllByRecursion (λ i. wants_resolved config g.name i.0 ≡ i.1.send_resolved) (integrations_of config g.name)
        all =
            let is = integrations_of config g.name in
            let same : ℕ × Integration → ℕ × Integration → Bool = λ i j. i.0 == j.0 in
            let distinct = distinct_indexes 0 (integrations_named (route_of config g.name).receiver config.receivers) in
            all-weaker (λ i. find (same i) is ≡ Some i) (λ i. wants_resolved config g.name i.0 ≡ i.1.send_resolved)
            (λ i e. any-found same (same i) (λ j. j.1.send_resolved) (λ x y f h. sym (laws.congr i x y f) ∙ h) is distinct ∙ ap (passes (λ j. j.1.send_resolved)) e)
            is (each-found same laws is distinct)

        among : (b : Bool) → AllByRecursion (λ i. wants_resolved config g.name i.0 ≡ i.1.send_resolved) (if b then [] else filter (needs config s t g.name (label_sets (firing_of config s t g)) (label_sets (resolved_of config s t g))) (integrations_of config g.name))
        among true = tt
        among false = all-filter (λ i. wants_resolved config g.name i.0 ≡ i.1.send_resolved) (needs config s t g.name (label_sets (firing_of config s t g)) (label_sets (resolved_of config s t g))) (integrations_of config g.name) all

  notifying : (now : ℕ) (g : GroupState) (notified : List (ℕ × Integration)) (new : State) → map (λ i. i.0) notified ≡ notified_after config g.name (time s now) past → Notifies (Begin now) new (reply_notifying config id s (time s now) g notified)
  notifying now g [] new e name takes =
      let r = entry pass (Begin now) (reply_notifying config id s (time s now) g []) in
      e ∙ ap (λ t. notified_after config g.name t past) (clock-step config s past k now r refl)
      ∙ ap (λ n. notified_after config n (time_at (r ∷ past)) past) (sym (same_name-is name g.name (quiet (same_name name g.name) takes)))
    where
      quiet : (b : Bool) → (b || false) ≡ true → b ≡ true
      quiet true h = refl
      quiet false h = h
  notifying now g (i ∷ is) new e name takes =
      let r = entry pass (Begin now) (reply_notifying config id s (time s now) g (i ∷ is)) in
      each (i ∷ is) ∙ e ∙ ap (λ t. notified_after config g.name t past) (clock-step config s past k now r refl)
      ∙ ap (λ n. notified_after config n (time_at (r ∷ past)) past) (sym (same_name-is name g.name takes))
    where
      each : (is : List (ℕ × Integration)) → map (λ n. n.integration) (map (notice_for config id s (time s now) g) is) ≡ map (λ i. i.0) is
      each [] = refl
      each (i ∷ is) = ap (λ rest. i.0 ∷ rest) (each is)

  finding : (now : ℕ) (g : GroupState) → taken s (time s now) ≡ Some g → (notified : List (ℕ × Integration)) → notified_of config s (time s now) g ≡ notified → (new : State) → FoundThere (Begin now) new (reply_notifying config id s (time s now) g notified)
  finding now g is [] are new =
      let p = reply_notifying config id s (time s now) g [] in
      subst (λ t. IsReplyFound config t past p) (clock-step config s past k now (entry pass (Begin now) p) refl)
      (count-same config s past (time s now) (l.known (time s now) (later now)) (l.silences (time s now) (later now)) g (apart (time s now) (later now) g is) (there (time s now) (later now) g is))
  finding now g is (i ∷ more) are new =
      let p = reply_notifying config id s (time s now) g (i ∷ more) in
      subst (λ t. IsReplyFound config t past p) (clock-step config s past k now (entry pass (Begin now) p) refl)
      (record { notifies = refl; deadline = refl; listed = notices-found (time s now) (later now) g is (i ∷ more) are })

  notifies_each : HoldsOfEach config id s Notifies
  notifies_each =
      record {
        insert = λ now a name e. absurd (false≢true e);
        silence = λ now number matchers start end name e. absurd (false≢true e);
        nothing = λ now none name e. absurd (false≢true e);
        begin = λ now g is notified are.
            notifying now g notified (after_notifying config s (time s now) g notified) (ap (map (λ i. i.0)) (sym are) ∙ notified-found (time s now) (later now) g is);
        finish = λ now number outcomes f is name e. absurd (false≢true e);
        maintain = λ now name e. absurd (false≢true e);
        remove_empty_groups = λ now name e. absurd (false≢true e);
        forget = λ now name e. absurd (false≢true e);
        load = λ now row may name e. absurd (false≢true e);
        note = λ now number i outcome f is may name e. absurd (false≢true e);
      }

  found_each : HoldsOfEach config id s FoundThere
  found_each =
      record {
        insert = λ now a. tt;
        silence = λ now number matchers start end. tt;
        nothing = λ now none. tt;
        begin = λ now g is notified are. finding now g is notified are (after_notifying config s (time s now) g notified);
        finish = λ now number outcomes f is. tt;
        maintain = λ now. tt;
        remove_empty_groups = λ now. tt;
        forget = λ now. tt;
        load = λ now row may. tt;
        note = λ now number i outcome f is may. tt;
      }

pub begins_notify_exactly_whom_needed : EveryLegalHistory BeginsNotifyExactlyWhomNeeded
begins_notify_exactly_whom_needed config id history legal =
    at_each config id (NotifiesWhomNeeded config)
    (λ r past before returned.
    let s = state_after config past in
    let notifies = notifies_each config id s past r.pass (steady_past config past) (finds_past config id past before) (finds_rows_past config id past before) in
    each_call config id s (λ c new p. NotifiesWhomNeeded config (entry r.pass c p) past) notifies r.call r.reply returned)
    (past_of history) (legal_past config id history legal)

pub notices_list_present_alerts : EveryLegalHistory NoticesListPresentAlerts
notices_list_present_alerts config id history legal =
    at_each config id (λ r past. IsReplyFound config (time_at (r ∷ past)) past r.reply)
    (λ r past before returned.
    let s = state_after config past in
    let found = found_each config id s past r.pass (steady_past config past) (finds_past config id past before) (finds_rows_past config id past before) in
    each_call config id s (λ c new p. IsReplyFound config (time_at (entry r.pass c p ∷ past)) past p) found r.call r.reply returned)
    (past_of history) (legal_past config id history legal)
