-- An alert that fires again while a flush of its group is open is in the group after the finish.
use Rattle.std.proofs.Common.{◌≡◌, ℕ, Bool, true, false, cond, not, ◌&&◌, ◌||◌, Some, None, List, [], ◌∷◌, refl, sym, ap, ◌∙◌, subst}
use Rattle.std.specs.List.{list_any}
use Rattle.std.proofs.lemmas.Bool.{false≢true, eqb-true, or_parts}
use Rattle.am_alerts.specs.AlertData.{is_resolved}
use Rattle.am_alerts.specs.LabelOrder.{same_label_set-decides}
use Rattle.am_alerts.specs.declared.labels.Label.{Label}
use Rattle.am_model.specs.declared.config.Config.{Config}
use Rattle.am_model.specs.declared.group.GroupName.{GroupName}
use Rattle.am_model.specs.declared.record.Call.{Call}
use Rattle.am_model.specs.declared.record.Call.TheVariants.{Insert, Silence, Begin, Finish, Maintain, RemoveEmptyGroups, Forget, Load, Note}
use Rattle.am_model.specs.declared.record.Record.{Record}
use Rattle.am_model.specs.declared.record.Reply.{Reply}
use Rattle.am_model.specs.declared.record.Reply.TheVariants.{Inserted, Silenced, NothingDue, Quiet, Flush, Finished, Maintained, EmptyGroupsRemoved, Forgotten, Loaded, Noted}
use Rattle.am_model.specs.look_back.Entry.{begins_group}
use Rattle.am_model.specs.look_back.Laws.{member_with, EveryLegalHistory, number_in, insert_during, KeepsRefiring, IsOneFlushAtATime, RefiringAlertsStay}
use Rattle.am_model.specs.look_back.Past.{AtEach, past_of, time_at, is_flush, is_flush_of, is_quiet, is_finish, takes, begin_of, has_finished}
use Rattle.am_model.specs.look_back.Presence.{goes_to, inserts, inserted_by, stamp_returned, last_insert, begin_since, resolved_at_begin, all_succeeded_at, finish_removes, removes, has_left, unless_left, presence}
use Rattle.am_model.specs.State.{MemberState, members_in}
use Rattle.am_model.proofs.looking_back.flushes.FlushesOnce.{flushes_end_once}
use Rattle.am_model.proofs.looking_back.alerts.FoundAlerts.{members-found}
use Rattle.am_model.proofs.looking_back.Pasts.{IsLegalPast, replay_of_past, legal_past, last_insert-labels}

-- the number of a flush
number-is : (number : ℕ) (p : Reply) → is_flush number p ≡ true → number_in p ≡ number
number-is number (Inserted inserted) e = absurd (false≢true e)
number-is number (Silenced silenced) e = absurd (false≢true e)
number-is number NothingDue e = absurd (false≢true e)
number-is number (Quiet group removed) e = absurd (false≢true e)
number-is number (Flush group opened) e = eqb-true opened.number number e
number-is number (Finished finished) e = absurd (false≢true e)
number-is number (Maintained maintained) e = absurd (false≢true e)
number-is number (EmptyGroupsRemoved removed) e = absurd (false≢true e)
number-is number (Forgotten forgotten) e = absurd (false≢true e)
number-is number (Loaded loaded) e = absurd (false≢true e)
number-is number Noted e = absurd (false≢true e)

-- ---- a flush of the group is open

module _ (config : Config) (name : GroupName) (number : ℕ) where
  -- a flush that has begun and isn't finished
  open-there : (whole past : List Record) → begins_group name (begin_of number past) ≡ true → has_finished number whole ≡ false
      → list_any (λ r. is_flush_of name r.reply && not (has_finished (number_in r.reply) whole)) past ≡ true
  open-there whole [] begun unfinished = absurd (false≢true begun)
  open-there whole (r ∷ past) begun unfinished =
      elim (is_flush number r.reply) as (λ b. is_flush number r.reply ≡ b → begins_group name (cond b (r ∷ past) (begin_of number past)) ≡ true → list_any (λ r. is_flush_of name r.reply && not (has_finished (number_in r.reply) whole)) (r ∷ past) ≡ true) [
        | true ↦ λ e h.
            ap (λ b. (b && not (has_finished (number_in r.reply) whole)) || list_any (λ r. is_flush_of name r.reply && not (has_finished (number_in r.reply) whole)) past) h
            ∙ ap (λ n. not (has_finished n whole) || list_any (λ r. is_flush_of name r.reply && not (has_finished (number_in r.reply) whole)) past) (number-is number r.reply e)
            ∙ ap (λ b. not b || list_any (λ r. is_flush_of name r.reply && not (has_finished (number_in r.reply) whole)) past) unfinished
        | false ↦ λ e h. later (is_flush_of name r.reply && not (has_finished (number_in r.reply) whole)) (open-there whole past h unfinished)
      ] refl begun
    where
      later : (a : Bool) → list_any (λ r. is_flush_of name r.reply && not (has_finished (number_in r.reply) whole)) past ≡ true → (a || list_any (λ r. is_flush_of name r.reply && not (has_finished (number_in r.reply) whole)) past) ≡ true
      later true h = refl
      later false h = h

  -- then no record takes the group
  not-taken : (r : Record) (past : List Record) → IsOneFlushAtATime r past → begins_group name (begin_of number past) ≡ true → has_finished number past ≡ false → takes name r.reply ≡ false
  not-taken r past one begun unfinished = by (takes name r.reply) refl
    where
      by : (b : Bool) → takes name r.reply ≡ b → b ≡ false
      by true e = absurd (false≢true (sym (one.none_open name e) ∙ open-there past past begun unfinished))
      by false e = refl

  module _ (labels : List Label) (m : MemberState) (own : labels ≡ m.alert.labels) where
    -- no begin of the group since the alert's last insert
    none-resolved : (n : ℕ) (past : List Record) → AtEach IsOneFlushAtATime past → begins_group name (begin_of number past) ≡ true → has_finished number past ≡ false → insert_during number labels past ≡ Some m
        → resolved_at_begin name m.alert (begin_since m.alert.labels n past) ≡ false
    none-resolved n [] each begun unfinished is = refl
    none-resolved n (r ∷ past) each begun unfinished is =
        elim (is_flush number r.reply) as (λ b. is_flush number r.reply ≡ b → begins_group name (cond b (r ∷ past) (begin_of number past)) ≡ true → cond b None (cond (inserts labels r.call) (inserted_by (stamp_returned r.reply) r.call) (insert_during number labels past)) ≡ Some m → resolved_at_begin name m.alert (begin_since m.alert.labels n (r ∷ past)) ≡ false) [
          | true ↦ λ e h is. absurd (cc)
          | false ↦ λ e h is.
              let before = (or_parts (is_finish number r.call) (has_finished number past) unfinished).1 in
              let free = or_parts (is_quiet name r.reply) (is_flush_of name r.reply) (not-taken r past each.0 h before) in
              elim (inserts labels r.call) as (λ b. inserts labels r.call ≡ b → cond b (inserted_by (stamp_returned r.reply) r.call) (insert_during number labels past) ≡ Some m → resolved_at_begin name m.alert (begin_since m.alert.labels n (r ∷ past)) ≡ false) [
                | true ↦ λ e is. ap (λ b. resolved_at_begin name m.alert (cond b [] (cond (is_flush n r.reply) (r ∷ past) (begin_since m.alert.labels n past)))) (subst (λ l. inserts l r.call ≡ true) own e)
                | false ↦ λ e is.
                    ap (λ b. resolved_at_begin name m.alert (cond b [] (cond (is_flush n r.reply) (r ∷ past) (begin_since m.alert.labels n past)))) (subst (λ l. inserts l r.call ≡ false) own e)
                    ∙ either (is_flush n r.reply) free.1 (none-resolved n past each.1 h before is)
              ] refl is
        ] refl begun is
      where
        either : (b : Bool) → is_flush_of name r.reply ≡ false → resolved_at_begin name m.alert (begin_since m.alert.labels n past) ≡ false → resolved_at_begin name m.alert (cond b (r ∷ past) (begin_since m.alert.labels n past)) ≡ false
        either true free rest = ap (λ b. b && is_resolved m.alert (time_at (r ∷ past))) free
        either false free rest = rest

    -- then no finish takes the alert out
    none-removed : (past : List Record) (c : Call) → ((n : ℕ) → resolved_at_begin name m.alert (begin_since m.alert.labels n past) ≡ false) → finish_removes name m.alert past c ≡ false
    none-removed past (Insert now alert) h = refl
    none-removed past (Silence now id matchers start end) h = refl
    none-removed past (Begin now) h = refl
    none-removed past (Finish now n outcomes) h = ap (λ b. b && all_succeeded_at n outcomes past (begin_of n past)) (h n)
    none-removed past (Maintain now) h = refl
    none-removed past (RemoveEmptyGroups now) h = refl
    none-removed past (Forget now) h = refl
    none-removed past (Load now row) h = refl
    none-removed past (Note now n integration outcome) h = refl

    -- a record while the flush is open
    stays-one : (r : Record) (past : List Record) → IsOneFlushAtATime r past → AtEach IsOneFlushAtATime past → begins_group name (begin_of number past) ≡ true → has_finished number past ≡ false → insert_during number labels past ≡ Some m
        → removes name m.alert r past ≡ false
    stays-one r past one each begun unfinished is =
        let free = or_parts (is_quiet name r.reply) (is_flush_of name r.reply) (not-taken r past one begun unfinished) in
        ap (λ b. (b && is_resolved m.alert (time_at (r ∷ past))) || finish_removes name m.alert past r.call) free.0
        ∙ none-removed past r.call (λ n. none-resolved n past each begun unfinished is)

    stays : (past : List Record) → AtEach IsOneFlushAtATime past → begins_group name (begin_of number past) ≡ true → has_finished number past ≡ false → insert_during number labels past ≡ Some m → has_left name m.alert past ≡ false
    stays [] each begun unfinished is = refl
    stays (r ∷ past) each begun unfinished is =
        elim (is_flush number r.reply) as (λ b. is_flush number r.reply ≡ b → begins_group name (cond b (r ∷ past) (begin_of number past)) ≡ true → cond b None (cond (inserts labels r.call) (inserted_by (stamp_returned r.reply) r.call) (insert_during number labels past)) ≡ Some m → has_left name m.alert (r ∷ past) ≡ false) [
          | true ↦ λ e h is. absurd (cc)
          | false ↦ λ e h is.
              let before = (or_parts (is_finish number r.call) (has_finished number past) unfinished).1 in
              elim (inserts labels r.call) as (λ b. inserts labels r.call ≡ b → cond b (inserted_by (stamp_returned r.reply) r.call) (insert_during number labels past) ≡ Some m → has_left name m.alert (r ∷ past) ≡ false) [
                | true ↦ λ e is. ap (λ b. cond b false (removes name m.alert r past || has_left name m.alert past)) (subst (λ l. inserts l r.call ≡ true) own e)
                | false ↦ λ e is.
                    ap (λ b. cond b false (removes name m.alert r past || has_left name m.alert past)) (subst (λ l. inserts l r.call ≡ false) own e)
                    ∙ ap (λ b. b || has_left name m.alert past) (stays-one r past each.0 each.1 h before is)
                    ∙ stays past each.1 h before is
              ] refl is
        ] refl begun is

-- ---- the last insert

during-last : (number : ℕ) (labels : List Label) (m : MemberState) (past : List Record) → insert_during number labels past ≡ Some m → last_insert labels past ≡ Some m
during-last number labels m [] is = is
during-last number labels m (r ∷ past) is =
    elim (is_flush number r.reply) as (λ b. cond b None (cond (inserts labels r.call) (inserted_by (stamp_returned r.reply) r.call) (insert_during number labels past)) ≡ Some m → last_insert labels (r ∷ past) ≡ Some m) [
      | true ↦ λ is. absurd (cc)
      | false ↦ λ is.
          elim (inserts labels r.call) as (λ b. cond b (inserted_by (stamp_returned r.reply) r.call) (insert_during number labels past) ≡ Some m → cond b (inserted_by (stamp_returned r.reply) r.call) (last_insert labels past) ≡ Some m) [
            | true ↦ λ is. is
            | false ↦ λ is. during-last number labels m past is
          ] is
    ] is

-- ---- after the finish

finish-keeps : (labels : List Label) (number : ℕ) (c : Call) → is_finish number c ≡ true → inserts labels c ≡ false
finish-keeps labels number (Insert now alert) e = absurd (false≢true e)
finish-keeps labels number (Silence now id matchers start end) e = refl
finish-keeps labels number (Begin now) e = refl
finish-keeps labels number (Finish now n outcomes) e = refl
finish-keeps labels number (Maintain now) e = refl
finish-keeps labels number (RemoveEmptyGroups now) e = refl
finish-keeps labels number (Forget now) e = refl
finish-keeps labels number (Load now row) e = refl
finish-keeps labels number (Note now n integration outcome) e = refl

present-after : (config : Config) (r : Record) (past : List Record) → IsOneFlushAtATime r past → AtEach IsOneFlushAtATime past → (number : ℕ) → is_finish number r.call ≡ true
    → (name : GroupName) → begins_group name (begin_of number past) ≡ true → (labels : List Label) → goes_to config name labels ≡ true
    → (m : MemberState) → insert_during number labels past ≡ Some m → presence config name labels (r ∷ past) ≡ Some m
present-after config r past one each number is name begun labels goes m during =
    let last = during-last number labels m past during in
    let own : labels ≡ m.alert.labels = (same_label_set-decides labels m.alert.labels).0 (last_insert-labels labels m past last) in
    let unfinished = one.first_finish number is in
    ap (λ b. cond b (unless_left name (r ∷ past) (last_insert labels (r ∷ past))) None) goes
    ∙ ap (λ b. unless_left name (r ∷ past) (cond b (inserted_by (stamp_returned r.reply) r.call) (last_insert labels past))) (finish-keeps labels number r.call is)
    ∙ ap (unless_left name (r ∷ past)) last
    ∙ ap (λ b. cond (cond b false (removes name m.alert r past || has_left name m.alert past)) None (Some m)) (finish-keeps m.alert.labels number r.call is)
    ∙ ap (λ b. cond (b || has_left name m.alert past) None (Some m)) (stays-one config name number labels m own r past one each begun unfinished during)
    ∙ ap (λ b. cond b None (Some m)) (stays config name number labels m own past each begun unfinished during)

each_past : (config : Config) (id : ℕ) (past : List Record) → IsLegalPast config id past → AtEach IsOneFlushAtATime past → AtEach (KeepsRefiring config) past
each_past config id [] legal each = tt
each_past config id (r ∷ past) legal each = (
  λ number is name begun labels goes m during.
      ap (λ s. member_with labels (members_in s.groups name)) (replay_of_past config (r ∷ past))
      ∙ members-found config id (r ∷ past) legal name labels
      ∙ present-after config r past each.0 each.1 number is name begun labels goes m during,
  each_past config id past legal.1 each.1,
)

pub refiring_alerts_stay : EveryLegalHistory RefiringAlertsStay
refiring_alerts_stay config id history legal =
    each_past config id (past_of history) (legal_past config id history legal) (flushes_end_once config id history legal)
