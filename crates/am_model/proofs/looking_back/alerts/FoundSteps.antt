-- What looking back finds in groups stays what a state has, call by call.
use Rattle.std.proofs.Common.{◌≡◌, ℕ, ◌+◌, ◌≤◌, Bool, true, false, cond, not, ◌&&◌, ◌||◌, min, max, Option, Some, None, List, [], ◌∷◌, ◌++◌, map, length, refl, sym, ap, ◌∙◌, subst, arith}
use Rattle.std.proofs.Math.Bool.{or-false}
use Rattle.std.specs.Prelude.{find, fold, filter, unwrap_or, ◌==◌}
use Rattle.std.specs.List.{AllByRecursion, IsDistinct, list_any}
use Rattle.std.proofs.lemmas.Bool.{false≢true, ne_eqb, eqb-true, eq-eqb}
use Rattle.std.proofs.lemmas.Cmp.{nat_eq_equiv}
use Rattle.am_alerts.specs.AlertData.{AlertData, is_resolved}
use Rattle.am_alerts.specs.Labels.{same_label_set}
use Rattle.am_alerts.specs.LabelOrder.{same_label_set-decides}
use Rattle.am_alerts.specs.declared.labels.Label.{Label}
use Rattle.am_alerts.specs.declared.limits.TheConstants.{MAX_TIME}
use Rattle.am_nflog.specs.Members.{is_empty}
use Rattle.am_retry.specs.declared.outcome.Outcome.{Outcome}
use Rattle.am_model.specs.declared.config.Config.{Config}
use Rattle.am_model.specs.declared.config.Integration.{Integration}
use Rattle.am_model.specs.declared.group.GroupName.{GroupName}
use Rattle.am_model.specs.declared.record.Call.TheVariants as call
use Rattle.am_model.specs.declared.record.Record.{Record}
use Rattle.am_model.specs.declared.record.Reply.TheVariants as reply_is
use Rattle.am_model.specs.Begin.{begun_group, without_resolved, count_resolved, leaving_of, firing_of, resolved_of, sent, notified_state, notice_for, deadline_of, flush_notifying, after_notifying}
use Rattle.am_model.specs.Note.{as_noted, with_note, after_note}
use Rattle.am_model.specs.Finish.{leaves_by, finished_group, all_succeeded, is_leaving, finished, after_finish}
use Rattle.am_model.specs.Notice.{NoticeData}
use Rattle.am_model.specs.Records.{entry, flush_reply, now_of}
use Rattle.am_model.specs.Insert.{names_for, next_stamp, new_group, group_or_new, group_with, put_into_group, inserted, after_insert, same_member}
use Rattle.am_model.specs.Lists.{upsert, without, changed_where}
use Rattle.am_model.specs.look_back.Laws.{member_with}
use Rattle.am_model.specs.look_back.Past.{time_at, is_flush, is_note, begin_of, was_noted}
use Rattle.am_model.specs.look_back.Presence.{goes_to, inserts, begin_since, resolved_at_begin, all_succeeded_at, last_insert, unless_left, removes, presence}
use Rattle.am_model.specs.State.{MemberState, GroupState, FlushState, State, time, same_name, is_named, flush_numbered}
use Rattle.am_model.proofs.legal.ConsistentBegin.{IsTaken}
use Rattle.am_model.proofs.legal.ConsistentGroups.{members_of, members_of-kept}
use Rattle.am_model.proofs.lists.Distinct.{all-find, all-filter, all-map, all-push, all-weaker, all-both, find-passes}
use Rattle.am_model.proofs.legal.ConsistentState.{IsOpen, IsSteady}
use Rattle.am_model.proofs.looking_back.flushes.Opened.{notices_at, notified_noted, notified_as, IsOpened, Finds, open-step, success-found, leaving-older, members-tidy}
use Rattle.am_model.proofs.looking_back.Pasts.{presence-step, presence-insert, unless-some}
use Rattle.am_model.proofs.looking_back.PastWords.{unless, has_labels, member-put, member-without, member-labels, members_of-put, members_of-changed_own, leaving-found}
use Rattle.am_model.proofs.states.Alike.{same_name-is}
use Rattle.am_model.proofs.legal.BoundedAlerts.{members-or_new}

-- ---- an insert puts an alert into the groups of its routes

module _ (config : Config) (t : ℕ) (m : MemberState) (labels : List Label) (name : GroupName) where
  new_name : (gs : List GroupState) (n : GroupName) → (group_or_new config t gs n).name ≡ n
  new_name gs n =
      elim (find (is_named n) gs) as (λ o. find (is_named n) gs ≡ o → (unwrap_or o (new_group config t n)).name ≡ n) [
        | None ↦ λ e. refl
        | Some g ↦ λ e. sym (same_name-is n g.name (find-passes (is_named n) g gs e))
      ] refl

  into-one : (gs : List GroupState) (n : GroupName) → member_with labels (members_of (put_into_group config t m gs n) name) ≡ cond (has_labels labels m && same_name name n) (Some m) (member_with labels (members_of gs name))
  into-one gs n =
      let g = group_or_new config t gs n in
      ap (member_with labels) (members_of-put name (group_with config t m g) gs)
      ∙ ap (λ k. member_with labels (cond (same_name name k) (upsert same_member m g.members) (members_of gs name))) (new_name gs n)
      ∙ ap (λ ms. member_with labels (cond (same_name name n) (upsert same_member m ms) (members_of gs name))) (members-or_new config t m gs n)
      ∙ by (same_name name n) refl
    where
      out : (b : Bool) (o : Option MemberState) → o ≡ cond (b && false) (Some m) o
      out true o = refl
      out false o = refl

      into : (b : Bool) (o : Option MemberState) → cond b (Some m) o ≡ cond (b && true) (Some m) o
      into true o = refl
      into false o = refl

      by : (b : Bool) → same_name name n ≡ b → member_with labels (cond b (upsert same_member m (members_of gs n)) (members_of gs name)) ≡ cond (has_labels labels m && b) (Some m) (member_with labels (members_of gs name))
      by true e =
          member-put labels m (members_of gs n)
          ∙ ap (λ k. cond (has_labels labels m) (Some m) (member_with labels (members_of gs k))) (sym (same_name-is name n e))
          ∙ into (has_labels labels m) (member_with labels (members_of gs name))
      by false e = out (has_labels labels m) (member_with labels (members_of gs name))

  into-each : (names : List GroupName) (gs : List GroupState) → member_with labels (members_of (fold (put_into_group config t m) gs names) name) ≡ cond (has_labels labels m && list_any (same_name name) names) (Some m) (member_with labels (members_of gs name))
  into-each [] gs = none (has_labels labels m)
    where
      none : (b : Bool) → member_with labels (members_of gs name) ≡ cond (b && false) (Some m) (member_with labels (members_of gs name))
      none true = refl
      none false = refl
  into-each (n ∷ names) gs =
      into-each names (put_into_group config t m gs n)
      ∙ ap (λ o. cond (has_labels labels m && list_any (same_name name) names) (Some m) o) (into-one gs n)
      ∙ both (has_labels labels m) (same_name name n) (list_any (same_name name) names)
    where
      both : (h x y : Bool) → cond (h && y) (Some m) (cond (h && x) (Some m) (member_with labels (members_of gs name))) ≡ cond (h && (x || y)) (Some m) (member_with labels (members_of gs name))
      both true true true = refl
      both true true false = refl
      both true false true = refl
      both true false false = refl
      both false x y = refl

-- ---- one record more

module _ (config : Config) (s : State) (past : List Record) (k : Finds config s past) where
  -- the clock
  pub clock-step : (now : ℕ) (r : Record) → now_of r.call ≡ now → time s now ≡ time_at (r ∷ past)
  clock-step now r e = ap (λ c. max c (min now MAX_TIME)) k.clock ∙ sym (ap (λ n. max (time_at past) (min n MAX_TIME)) e)

  -- a record that takes nothing out and inserts nothing
  pub same-step : (name : GroupName) (labels : List Label) (r : Record) → inserts labels r.call ≡ false → ((m : MemberState) → removes name m.alert r past ≡ false)
      → member_with labels (members_of s.groups name) ≡ presence config name labels (r ∷ past)
  same-step name labels r e none =
      k.found name labels ∙ sym (presence-step config name labels r past e ∙ by (presence config name labels past))
    where
      by : (o : Option MemberState) → unless (λ m. removes name m.alert r past) o ≡ o
      by None = refl
      by (Some m) = ap (λ b. cond b None (Some m)) (none m)

  pub finds-insert : (pass now : ℕ) (a : AlertData) → IsSteady s → Finds config (after_insert config s (time s now) a) (entry pass (call.Insert now a) (reply_is.Inserted (inserted config s a)) ∷ past)
  finds-insert pass now a steady =
      let r = entry pass (call.Insert now a) (reply_is.Inserted (inserted config s a)) in
      let m : MemberState = record { alert = a; stamp = next_stamp s } in
      let names = names_for config a.labels in
      record {
        found = λ name labels.
            into-each config (time s now) m labels name names s.groups
            ∙ elim (same_label_set labels a.labels) as (λ b. same_label_set labels a.labels ≡ b → cond (b && list_any (same_name name) names) (Some m) (member_with labels (members_of s.groups name)) ≡ presence config name labels (r ∷ past)) [
              | true ↦ λ e. here name labels a m ((same_label_set-decides labels a.labels).0 e) (goes_to config name labels) refl ∙ sym (presence-insert config name labels pass now a (inserted config s a) past e)
              | false ↦ λ e. same-step name labels r e (λ n. refl)
            ] refl;
        clock = clock-step now r refl;
        opened = all-weaker (IsOpened config s.inserts past) (IsOpened config (next_stamp s) (r ∷ past)) (λ f o.
            open-step config r past s.inserts (next_stamp s) f (omega arith) refl (λ i. refl) (λ name n e is.
            new name n e is o) o) s.flushes k.opened;
        fresh = λ number i h. k.fresh number i h;
      }
    where
      here : (name : GroupName) (labels : List Label) (a : AlertData) (m : MemberState) → labels ≡ a.labels → (b : Bool) → goes_to config name labels ≡ b → cond (list_any (same_name name) (names_for config a.labels)) (Some m) (member_with labels (members_of s.groups name)) ≡ cond b (Some m) None
      here name labels a m own true e = ap (λ b. cond b (Some m) (member_with labels (members_of s.groups name))) (ap (λ l. goes_to config name l) (sym own) ∙ e)
      here name labels a m own false e =
          ap (λ b. cond b (Some m) (member_with labels (members_of s.groups name))) (ap (λ l. goes_to config name l) (sym own) ∙ e)
          ∙ k.found name labels ∙ ap (λ b. cond b (unless_left name past (last_insert labels past)) None) e

      stamp_of : (n : MemberState) (b : Bool) → cond b (Some (record { alert = a; stamp = next_stamp s })) None ≡ Some n → s.inserts + 1 ≤ n.stamp
      stamp_of n true e = let same : record { alert = a; stamp = next_stamp s } ≡ n = cc in subst (λ (x : MemberState). s.inserts + 1 ≤ x.stamp) same (omega arith)
      stamp_of n false e = absurd (cc)

      new : {f : FlushState} (name : GroupName) (n : MemberState) → same_label_set n.alert.labels a.labels ≡ true → presence config name n.alert.labels (entry pass (call.Insert now a) (reply_is.Inserted (inserted config s a)) ∷ past) ≡ Some n → IsOpened config s.inserts past f → is_leaving f.leaving n ≡ false
      new {f = f} name n e is o =
          let said : cond (goes_to config name n.alert.labels) (Some (record { alert = a; stamp = next_stamp s })) None ≡ Some n = sym (presence-insert config name n.alert.labels pass now a (inserted config s a) past e) ∙ is in
          leaving-older s.inserts n f.leaving o.stamps (stamp_of n (goes_to config name n.alert.labels) said)

  -- ---- records that leave alerts and open flushes

  -- the groups have their alerts, and the open flushes stay
  pub finds-still : (s' : State) (r : Record) (now : ℕ) → ((name : GroupName) → members_of s'.groups name ≡ members_of s.groups name) → s'.flushes ≡ s.flushes → s'.inserts ≡ s.inserts → s'.next_number ≡ s.next_number → s'.clock ≡ time s now → now_of r.call ≡ now
      → ((labels : List Label) → inserts labels r.call ≡ false) → ((name : GroupName) (m : MemberState) → removes name m.alert r past ≡ false)
      → ((number : ℕ) → is_flush number r.reply ≡ false) → ((number i : ℕ) → is_note number i r.call ≡ false)
      → Finds config s' (r ∷ past)
  finds-still s' r now members flushes stamps next clock handed none stays unflushed unnoted =
      record {
        found = λ name labels. ap (member_with labels) (members name) ∙ same-step name labels r (none labels) (stays name);
        clock = clock ∙ clock-step now r handed;
        opened =
            subst (AllByRecursion (IsOpened config s'.inserts (r ∷ past))) (sym flushes)
            (subst (λ n. AllByRecursion (IsOpened config n (r ∷ past)) s.flushes) (sym stamps)
            (all-weaker (IsOpened config s.inserts past) (IsOpened config s.inserts (r ∷ past))
            (λ f o. open-step config r past s.inserts s.inserts f (omega arith) (unflushed f.number) (unnoted f.number) (λ name m e. absurd (false≢true (sym (none m.alert.labels) ∙ e))) o)
            s.flushes k.opened));
        fresh = λ number i h. ap (λ b. b || was_noted number i past) (unnoted number i) ∙ k.fresh number i (subst (λ n. n ≤ number) next h);
      }

  -- ---- records that take alerts out of one group

  -- those of a group that pass a test go, and so says the record
  pub gone-step : (r : Record) (gs : List GroupState) (own : GroupName) (gone : MemberState → Bool) (name : GroupName) (labels : List Label)
      → IsSteady s
      → members_of gs name ≡ cond (same_name name own) (without gone (members_of s.groups name)) (members_of s.groups name)
      → inserts labels r.call ≡ false
      → ((m : MemberState) → presence config name labels past ≡ Some m → removes name m.alert r past ≡ (same_name name own && gone m))
      → member_with labels (members_of gs name) ≡ presence config name labels (r ∷ past)
  gone-step r gs own gone name labels steady after e says =
      ap (member_with labels) after ∙ left (same_name name own) ∙ ap (λ o. cond (same_name name own) (unless gone o) o) (k.found name labels)
      ∙ sym (presence-step config name labels r past e ∙ by (presence config name labels past) refl)
    where
      left : (b : Bool) → member_with labels (cond b (without gone (members_of s.groups name)) (members_of s.groups name)) ≡ cond b (unless gone (member_with labels (members_of s.groups name))) (member_with labels (members_of s.groups name))
      left true = member-without labels gone (members_of s.groups name) (members-tidy s.inserts name s.groups steady.tidy).members
      left false = refl

      two : (m : MemberState) (a b : Bool) → cond (a && b) None (Some m) ≡ cond a (cond b None (Some m)) (Some m)
      two m true b = refl
      two m false b = refl

      none : (o : Option MemberState) (b : Bool) → o ≡ cond b o o
      none o true = refl
      none o false = refl

      by : (o : Option MemberState) → presence config name labels past ≡ o → unless (λ m. removes name m.alert r past) o ≡ cond (same_name name own) (unless gone o) o
      by None is = none None (same_name name own)
      by (Some m) is = ap (λ b. cond b None (Some m)) (says m is) ∙ two m (same_name name own) (gone m)

  pub finds-quiet : (pass now : ℕ) (g : GroupState) → IsSteady s
      → Finds config (after_notifying config s (time s now) g []) (entry pass (call.Begin now) (reply_is.Quiet g.name (count_resolved (time s now) g)) ∷ past)
  finds-quiet pass now g steady =
      let t = time s now in
      let r = entry pass (call.Begin now) (reply_is.Quiet g.name (count_resolved t g)) in
      let gone : MemberState → Bool = λ m. is_resolved m.alert t in
      record {
        found = λ name labels.
            gone-step r (changed_where (is_named g.name) (λ h. without_resolved t (begun_group config t h)) s.groups) g.name gone name labels steady
            (members_of-changed_own g.name (λ h. without_resolved t (begun_group config t h)) (λ h. refl) gone (λ h. refl) name s.groups)
            refl
            (λ m is. or-false (same_name name g.name && is_resolved m.alert (time_at (r ∷ past))) ∙ ap (λ u. same_name name g.name && is_resolved m.alert u) (sym (clock-step now r refl)));
        clock = clock-step now r refl;
        opened =
            all-weaker (IsOpened config s.inserts past) (IsOpened config s.inserts (r ∷ past))
            (λ f o. open-step config r past s.inserts s.inserts f (omega arith) refl (λ i. refl) (λ name m e. absurd (false≢true e)) o) s.flushes k.opened;
        fresh = λ number i h. k.fresh number i h;
      }

  pub finds-finish : (pass now number : ℕ) (outcomes : List (ℕ × Outcome)) (f : FlushState) → IsSteady s → flush_numbered s.flushes number ≡ Some f
      → Finds config (after_finish config s (time s now) outcomes f) (entry pass (call.Finish now number outcomes) (reply_is.Finished (finished s outcomes f)) ∷ past)
  finds-finish pass now number outcomes f steady is_open =
      let r = entry pass (call.Finish now number outcomes) (reply_is.Finished (finished s outcomes f)) in
      let same : f.number ≡ number = eqb-true f.number number (find-passes (λ (h : FlushState). h.number == number) f s.flushes is_open) in
      let o = all-find (IsOpened config s.inserts past) (λ h. h.number == number) f s.flushes k.opened is_open in
      let held = all-find (IsOpen s.next_number s.groups) (λ h. h.number == number) f s.flushes steady.opened is_open in
      record {
        found = λ name labels.
            gone-step r (changed_where (is_named f.group) (finished_group outcomes f) s.groups) f.group (leaves_by outcomes f) name labels steady
            (members_of-changed_own f.group (finished_group outcomes f) (λ h. refl) (leaves_by outcomes f) (λ h. refl) name s.groups)
            refl
            (λ m is.
            let own : labels ≡ m.alert.labels = (same_label_set-decides labels m.alert.labels).0 (member-labels labels m (members_of s.groups name) (k.found name labels ∙ is)) in
            let there : presence config name m.alert.labels past ≡ Some m = subst (λ l. presence config name l past ≡ Some m) own is in
            ap (λ n. resolved_at_begin name m.alert (begin_since m.alert.labels n past) && all_succeeded_at n outcomes past (begin_of n past)) (sym same)
            ∙ ap (λ b. b && all_succeeded_at f.number outcomes past (begin_of f.number past)) (o.leaving name m there)
            ∙ ap (λ b. (same_name name f.group && is_leaving f.leaving m) && b) (success-found config s.inserts past f o outcomes held.notified)
            ∙ turn (same_name name f.group) (is_leaving f.leaving m) (all_succeeded outcomes f));
        clock = clock-step now r refl;
        opened =
            all-filter (IsOpened config s.inserts (r ∷ past)) (λ h. not (h.number == f.number)) s.flushes
            (all-weaker (IsOpened config s.inserts past) (IsOpened config s.inserts (r ∷ past))
            (λ h o. open-step config r past s.inserts s.inserts h (omega arith) refl (λ i. refl) (λ name m e. absurd (false≢true e)) o) s.flushes k.opened);
        fresh = λ n i h. k.fresh n i h;
      }
    where
      turn : (x l a : Bool) → ((x && l) && a) ≡ (x && (a && l))
      turn true true true = refl
      turn true true false = refl
      turn true false true = refl
      turn true false false = refl
      turn false l a = refl

  -- ---- a begin that opens a flush

  pub finds-flush : (id pass now : ℕ) (g : GroupState) (notified : List (ℕ × Integration)) → IsSteady s → IsTaken s g
      → Finds config (record s {
        clock = time s now;
        groups = changed_where (is_named g.name) (begun_group config (time s now)) s.groups;
        flushes = s.flushes ++ flush_notifying config s (time s now) g notified ∷ [];
        next_number = s.next_number + 1;
      }) (entry pass (call.Begin now) (flush_reply s.next_number g.name (deadline_of config (time s now) g) (map (notice_for config id s (time s now) g) notified)) ∷ past)
  finds-flush id pass now g notified steady taken =
      let t = time s now in
      let notices = map (notice_for config id s t g) notified in
      let r = entry pass (call.Begin now) (flush_reply s.next_number g.name (deadline_of config t g) notices) in
      let next = s.next_number in
      let tidy = members-tidy s.inserts g.name s.groups steady.tidy in
      record {
        found = λ name labels.
            ap (member_with labels) (members_of-kept g.name (begun_group config t) (λ h. refl) (λ h. refl) name s.groups)
            ∙ same-step name labels r refl (λ m. refl);
        clock = clock-step now r refl;
        opened =
            all-push (IsOpened config s.inserts (r ∷ past)) s.flushes (flush_notifying config s t g notified)
            (all-both (IsOpened config s.inserts past) (IsOpen next s.groups) (IsOpened config s.inserts (r ∷ past))
            (λ f o held. open-step config r past s.inserts s.inserts f (omega arith) (ne_eqb next f.number (λ e. omega (arith, e, held.number))) (λ i. refl) (λ name m e. absurd (false≢true e)) o)
            s.flushes k.opened steady.opened)
            (record {
              notified = each id t g notified ∙ sym (ap (λ b. map (notified_as next (r ∷ past)) (notices_at (cond b (r ∷ past) (begin_of next past)))) (nat_eq_equiv.refl next));
              leaving = λ name m is.
                  ap (λ b. resolved_at_begin name m.alert (cond b (r ∷ past) (begin_since m.alert.labels next past))) (nat_eq_equiv.refl next)
                  ∙ ap (λ u. same_name name g.name && is_resolved m.alert u) (sym (clock-step now r refl))
                  ∙ leaves t name m (unless-some (λ x. false) (presence config name m.alert.labels past) m (sym (presence-step config name m.alert.labels r past refl) ∙ is)) (same_name name g.name) refl;
              stamps = stamped t g (subst (λ ms. AllByRecursion (λ m. m.stamp ≤ s.inserts) ms) taken.own tidy.stamps);
            });
        fresh = λ number i h. k.fresh number i (omega (arith, h));
      }
    where
      empty : {X : Type 0} (xs : List X) → is_empty xs ≡ (length xs == 0)
      empty [] = refl
      empty (x ∷ xs) = sym (ne_eqb (length (x ∷ xs)) 0 (λ e. omega (arith, e)))

      one : (id t : ℕ) (g : GroupState) (i : ℕ × Integration) → notified_state config s t g i ≡ notified_as s.next_number past (notice_for config id s t g i)
      one id t g i =
          let firing = empty (firing_of config s t g) in
          let resolved = empty (sent i.1 (resolved_of config s t g)) in
          let unnoted : false ≡ was_noted s.next_number i.0 past = sym (k.fresh s.next_number i.0 (omega arith)) in
          λ j. record { integration = i.0; nothing = firing j && resolved j; noted = unnoted j }

      each : (id t : ℕ) (g : GroupState) (notified : List (ℕ × Integration)) → map (notified_state config s t g) notified ≡ map (notified_as s.next_number past) (map (notice_for config id s t g) notified)
      each id t g [] = refl
      each id t g (i ∷ is) =
          ap (λ a. a ∷ map (notified_state config s t g) is) (one id t g i)
          ∙ ap (λ rest. notified_as s.next_number past (notice_for config id s t g i) ∷ rest) (each id t g is)

      leaves : (t : ℕ) (name : GroupName) (m : MemberState) → presence config name m.alert.labels past ≡ Some m → (b : Bool) → same_name name g.name ≡ b → (b && is_resolved m.alert t) ≡ (b && is_leaving (leaving_of t g) m)
      leaves t name m is false e = refl
      leaves t name m is true e =
          let tidy = members-tidy s.inserts g.name s.groups steady.tidy in
          sym (leaving-found m (λ n. is_resolved n.alert t) g.members
          (subst (IsDistinct same_member) taken.own tidy.members)
          (ap (member_with m.alert.labels) (sym taken.own) ∙ subst (λ n. member_with m.alert.labels (members_of s.groups n) ≡ Some m) (same_name-is name g.name e) (k.found name m.alert.labels ∙ is)))

      stamped : (t : ℕ) (g : GroupState) → AllByRecursion (λ m. m.stamp ≤ s.inserts) g.members → AllByRecursion (λ l. l.stamp ≤ s.inserts) (leaving_of t g)
      stamped t g all =
          all-map (λ (m : MemberState). record { labels = m.alert.labels; stamp = m.stamp }) (λ l. l.stamp ≤ s.inserts) (filter (λ m. is_resolved m.alert t) g.members)
          (all-filter (λ (m : MemberState). m.stamp ≤ s.inserts) (λ m. is_resolved m.alert t) g.members all)

  -- ---- a note

  pub finds-note : (pass now number i : ℕ) (outcome : Option Outcome) (f : FlushState) → IsSteady s → flush_numbered s.flushes number ≡ Some f
      → Finds config (after_note config s (time s now) i f) (entry pass (call.Note now number i outcome) reply_is.Noted ∷ past)
  finds-note pass now number i outcome f steady is_open =
      let r = entry pass (call.Note now number i outcome) reply_is.Noted in
      let same : f.number ≡ number = eqb-true f.number number (find-passes (λ (h : FlushState). h.number == number) f s.flushes is_open) in
      let held = all-find (IsOpen s.next_number s.groups) (λ h. h.number == number) f s.flushes steady.opened is_open in
      record {
        found = λ name labels. same-step name labels r refl (λ m. refl);
        clock = clock-step now r refl;
        opened =
            all-map (λ h. cond (h.number == f.number) (with_note i h) h) (IsOpened config s.inserts (r ∷ past)) s.flushes
            (all-weaker (IsOpened config s.inserts past) (λ h. IsOpened config s.inserts (r ∷ past) (cond (h.number == f.number) (with_note i h) h))
            (λ h o. noted_or pass now number i outcome h same o (h.number == f.number) refl) s.flushes k.opened);
        fresh = λ n j h. ap (λ b. (b && (i == j)) || was_noted n j past) (ne_eqb number n (λ e. omega (arith, e, h, same, held.number))) ∙ k.fresh n j h;
      }
    where
      one : (i : ℕ) (n : NoticeData) (was c d : Bool) → c ≡ d → cond c (as_noted (notified_noted was n)) (notified_noted was n) ≡ notified_noted (d || was) n
      one i n was true d e = ap (λ b. notified_noted (b || was) n) e
      one i n was false d e = ap (λ b. notified_noted (b || was) n) e

      noted : (number i : ℕ) (r : Record) (ns : List NoticeData) → ((j : ℕ) → is_note number j r.call ≡ (i == j))
          → changed_where (λ a. a.integration == i) as_noted (map (notified_as number past) ns) ≡ map (notified_as number (r ∷ past)) ns
      noted number i r [] h = refl
      noted number i r (n ∷ ns) h =
          ap (λ a. a ∷ changed_where (λ x. x.integration == i) as_noted (map (notified_as number past) ns))
          (one i n (was_noted number n.integration past) (n.integration == i) (is_note number n.integration r.call) (nat_eq_equiv.symm n.integration i ∙ sym (h n.integration)))
          ∙ ap (λ rest. notified_as number (r ∷ past) n ∷ rest) (noted number i r ns h)

      noted_or : (pass now number i : ℕ) (outcome : Option Outcome) (h : FlushState) → f.number ≡ number → IsOpened config s.inserts past h → (b : Bool) → (h.number == f.number) ≡ b
          → IsOpened config s.inserts (entry pass (call.Note now number i outcome) reply_is.Noted ∷ past) (cond b (with_note i h) h)
      noted_or pass now number i outcome h same o true e =
          let r = entry pass (call.Note now number i outcome) reply_is.Noted in
          let own : number ≡ h.number = sym (eqb-true h.number f.number e ∙ same) in
          record {
            notified =
                ap (λ notified. changed_where (λ a. a.integration == i) as_noted notified) o.notified
                ∙ noted h.number i r (notices_at (begin_of h.number past)) (λ j. ap (λ b. b && (i == j)) (eq-eqb number h.number own));
            leaving = λ name m is. o.leaving name m (unless-some (λ x. false) (presence config name m.alert.labels past) m (sym (presence-step config name m.alert.labels r past refl) ∙ is));
            stamps = o.stamps;
          }
      noted_or pass now number i outcome h same o false e =
          let r = entry pass (call.Note now number i outcome) reply_is.Noted in
          let other : (number == h.number) ≡ false = ap (λ n. n == h.number) (sym same) ∙ nat_eq_equiv.symm f.number h.number ∙ e in
          open-step config r past s.inserts s.inserts h (omega arith) refl (λ j. ap (λ b. b && (i == j)) other) (λ name m x. absurd (false≢true x)) o
