-- Nobody waits longer for a begin of a group than the latest time and the slack.
use Rattle.std.proofs.Common.{◌≡◌, ℕ, ◌+◌, ◌≤◌, max, Bool, true, false, cond, ◌&&◌, ◌||◌, Option, Some, None, List, [], ◌∷◌, refl, sym, ap, ◌∙◌, subst, arith, if◌then◌else◌}
use Rattle.std.specs.Option.{IfSome, option_or}
use Rattle.std.proofs.lemmas.Bool.{false≢true}
use Rattle.am_alerts.specs.AlertData.{AlertData, is_resolved}
use Rattle.am_alerts.specs.LabelOrder.{same_label_set-decides}
use Rattle.am_alerts.specs.declared.labels.Label.{Label}
use Rattle.am_model.specs.declared.config.Config.{Config}
use Rattle.am_model.specs.declared.group.GroupName.{GroupName}
use Rattle.am_model.specs.declared.record.Call.{Call}
use Rattle.am_model.specs.declared.record.Call.TheVariants.{Insert, Silence, Begin, Finish, Maintain, RemoveEmptyGroups, Forget, Load, Note}
use Rattle.am_model.specs.declared.record.Record.{Record}
use Rattle.am_model.specs.Configured.{route_of}
use Rattle.am_model.specs.Insert.{wait_of}
use Rattle.am_model.specs.State.{MemberState}
use Rattle.am_model.specs.look_back.Interval.{found_empty}
use Rattle.am_model.specs.look_back.Laws.{EveryLegalHistory, begun_at, IsOneFlushAtATime}
use Rattle.am_model.specs.look_back.Past.{AtEach, past_of, time_at, is_flush, is_flush_of, is_quiet, takes, begin_of}
use Rattle.am_model.specs.look_back.Presence.{goes_to, inserts, inserted_by, stamp_returned, last_insert, begin_since, resolved_at_begin, all_succeeded_at, finish_removes, removes, has_left, unless_left, presence}
use Rattle.am_model.proofs.legal.EachCall.{inside}
use Rattle.am_model.proofs.looking_back.LooksBack.{histories_look_back}
use Rattle.am_model.proofs.looking_back.Pasts.{IsLegalPast, legal_past, last_insert-labels}
use Rattle.am_paging.specs.InTime.{ended_at, WasOnTime, waits_since, latest, WaitsInTime, NobodyWaitsLonger}
use Rattle.am_paging.proofs.DueTimes.{IsDueBy, due-step, due-within}
use Rattle.am_paging.proofs.GroupSteps.{group_after}
use Rattle.am_paging.proofs.OpenFlushes.{neither}
use Rattle.am_paging.proofs.Standing.{never, not-found_empty, not-missing, open-begun, finish-open, ended-before, ended-step, begun-bound, new-bound, open-bound}

-- ---- whoever waits is there

-- since when one waits, a record later
module _ (name : GroupName) (labels : List Label) (r : Record) (past : List Record) where
  abbrev inserted_now : Option ℕ
  inserted_now = if inserts labels r.call then Some (time_at (r ∷ past)) else None

  -- the record doesn't take the group, and one waited before, or is inserted by it
  pub record Waits (since : ℕ) : Type 0 where
    pub other : takes name r.reply ≡ false
    pub either : option_or (waits_since name labels past) inserted_now ≡ Some since

  pub waits-step : (since : ℕ) → waits_since name labels (r ∷ past) ≡ Some since → Waits since
  waits-step since e = by (takes name r.reply) refl e
    where
      by : (b : Bool) → takes name r.reply ≡ b → cond b None (option_or (waits_since name labels past) inserted_now) ≡ Some since → Waits since
      by true is e = never since (sym e)
      by false is e = record { other = is; either = e }

-- where the record doesn't insert it, one waited before
waited : (name : GroupName) (labels : List Label) (r : Record) (past : List Record) (since : ℕ) → Waits name labels r past since → inserts labels r.call ≡ false → waits_since name labels past ≡ Some since
waited name labels r past since w other = by (waits_since name labels past) (sym (ap (λ b. option_or (waits_since name labels past) (cond b (Some (time_at (r ∷ past))) None)) other) ∙ w.either)
  where
    by : (o : Option ℕ) → option_or o None ≡ Some since → o ≡ Some since
    by None e = e
    by (Some u) e = e

module _ (name : GroupName) (a : AlertData) where
  -- no begin of the group came since its last insert
  begin-other : (since number : ℕ) (past : List Record) → waits_since name a.labels past ≡ Some since → resolved_at_begin name a (begin_since a.labels number past) ≡ false
  begin-other since number [] e = refl
  begin-other since number (r ∷ past) e =
      let w = waits-step name a.labels r past since e in
      elim (inserts a.labels r.call) as (λ b. inserts a.labels r.call ≡ b → resolved_at_begin name a (cond b [] (cond (is_flush number r.reply) (r ∷ past) (begin_since a.labels number past))) ≡ false) [
        | true ↦ λ _. refl
        | false ↦ λ is. elim (is_flush number r.reply) as (λ b. resolved_at_begin name a (cond b (r ∷ past) (begin_since a.labels number past)) ≡ false) [
          | true ↦ ap (λ b. b && is_resolved a (time_at (r ∷ past))) (neither (is_quiet name r.reply) (is_flush_of name r.reply) w.other).1
          | false ↦ begin-other since number past (waited name a.labels r past since w is)
        ]
      ] refl

  finish-leaves : (since : ℕ) (past : List Record) → waits_since name a.labels past ≡ Some since → (c : Call) → finish_removes name a past c ≡ false
  finish-leaves since past e (Insert now alert) = refl
  finish-leaves since past e (Silence now id matchers start end) = refl
  finish-leaves since past e (Begin now) = refl
  finish-leaves since past e (Finish now number outcomes) =
      ap (λ b. b && all_succeeded_at number outcomes past (begin_of number past)) (begin-other since number past e)
  finish-leaves since past e (Maintain now) = refl
  finish-leaves since past e (RemoveEmptyGroups now) = refl
  finish-leaves since past e (Forget now) = refl
  finish-leaves since past e (Load now row) = refl
  finish-leaves since past e (Note now number integration outcome) = refl

  -- so it hasn't left
  waits-there : (since : ℕ) (past : List Record) → waits_since name a.labels past ≡ Some since → has_left name a past ≡ false
  waits-there since [] e = refl
  waits-there since (r ∷ past) e =
      let w = waits-step name a.labels r past since e in
      elim (inserts a.labels r.call) as (λ b. inserts a.labels r.call ≡ b → cond b false (removes name a r past || has_left name a past) ≡ false) [
        | true ↦ λ _. refl
        | false ↦ λ is.
            let before = waited name a.labels r past since w is in
            (λ j. (((neither (is_quiet name r.reply) (is_flush_of name r.reply) w.other).0 j && is_resolved a (time_at (r ∷ past))) || finish-leaves since past before r.call j) || waits-there since past before j)
      ] refl

-- an insert is the last one
has-insert : (labels : List Label) (past : List Record) (o : Option MemberState) → last_insert labels past ≡ o → (name : GroupName) (since : ℕ) → waits_since name labels past ≡ Some since → (m : MemberState) × (o ≡ Some m)
has-insert labels past (Some m) is name since e = (m, refl)
has-insert labels [] None is name since e = never since (sym e)
has-insert labels (r ∷ past) None is name since e =
    let w = waits-step name labels r past since e in
    elim (inserts labels r.call) as (λ b. inserts labels r.call ≡ b → cond b (inserted_by (stamp_returned r.reply) r.call) (last_insert labels past) ≡ None → (m : MemberState) × (None ≡ Some m)) [
      | true ↦ λ f none. absurd (by (stamp_returned r.reply) r.call f none)
      | false ↦ λ f none. has-insert labels past None none name since (waited name labels r past since w f)
    ] refl is
  where
    by : (stamp : ℕ) (c : Call) → inserts labels c ≡ true → inserted_by stamp c ≡ None → ⊥
    by stamp (Insert now alert) e none = never (record { alert = alert; stamp = stamp }) none
    by stamp (Silence now id matchers start end) e none = false≢true e
    by stamp (Begin now) e none = false≢true e
    by stamp (Finish now number outcomes) e none = false≢true e
    by stamp (Maintain now) e none = false≢true e
    by stamp (RemoveEmptyGroups now) e none = false≢true e
    by stamp (Forget now) e none = false≢true e
    by stamp (Load now row) e none = false≢true e
    by stamp (Note now number integration outcome) e none = false≢true e

-- whoever waits for a begin of a group is in it
pub is-there : (config : Config) (name : GroupName) (labels : List Label) (since : ℕ) (past : List Record) → goes_to config name labels ≡ true → waits_since name labels past ≡ Some since
    → (m : MemberState) × (presence config name labels past ≡ Some m)
is-there config name labels since past goes e =
    let found = has-insert labels past (last_insert labels past) refl name since e in
    let m : MemberState = found.0 in
    let own : labels ≡ m.alert.labels = (same_label_set-decides labels m.alert.labels).0 (last_insert-labels labels m past found.1) in
    let stays : has_left name m.alert past ≡ false = waits-there name m.alert since past (subst (λ l. waits_since name l past ≡ Some since) own e) in
    (m, ap (λ b. cond b (unless_left name past (last_insert labels past)) None) goes ∙ ap (unless_left name past) found.1 ∙ ap (λ b. cond b None (Some m)) stays)

-- ---- by when the group is due

module _ (config : Config) (id : ℕ) (name : GroupName) where
  -- a group that was begun last at u: its last flush is finished by the hold
  was-ended : (slack hold u : ℕ) (past : List Record) → IsLegalPast config id past → AtEach IsOneFlushAtATime past → WasOnTime slack hold config name past → begun_at config name past ≡ Some u → ended_at name past ≤ u + hold
  was-ended slack hold u [] legal once on e = never u (sym e)
  was-ended slack hold u (r ∷ past) legal once on e = by (takes name r.reply) refl e (λ was begun. was-ended slack hold u past legal.1 once.1 was begun)
    where
      -- what is said of the records before
      Before : Type 0
      Before = WasOnTime slack hold config name past → begun_at config name past ≡ Some u → ended_at name past ≤ u + hold

      earlier : takes name r.reply ≡ false → (b : Bool) → found_empty config name r past ≡ b → cond b None (begun_at config name past) ≡ Some u → Before → ended_at name (r ∷ past) ≤ u + hold
      earlier other true is e before = never u (sym e)
      earlier other false is e before =
          let was = on other in
          ended-step config id name (u + hold) r past (before was.1 e)
          (λ f. open-bound config id name slack hold r past legal.1 was.0 u e (finish-open config id name r past once.0 f))

      by : (b : Bool) → takes name r.reply ≡ b → cond b (Some (time_at (r ∷ past))) (cond (found_empty config name r past) None (begun_at config name past)) ≡ Some u → Before → ended_at name (r ∷ past) ≤ u + hold
      by true is e before =
          let now : time_at (r ∷ past) ≡ u = inside (time_at (r ∷ past)) u e in
          let last = ended-before config id name (r ∷ past) in
          omega (arith, now, last)
      by false is e before = earlier is (found_empty config name r past) refl e before

  -- a group that wasn't begun, of which one waits: it is due a wait after that time at most, and its last end came before
  record IsNew (since : ℕ) (past : List Record) : Type 0 where
    due : IsDueBy (since + wait_of config name) (group_after config id name past)
    ended : ended_at name past ≤ since

  module _ (labels : List Label) (goes : goes_to config name labels ≡ true) where
    new-waits : (since : ℕ) (past : List Record) → IsLegalPast config id past → AtEach IsOneFlushAtATime past → begun_at config name past ≡ None → waits_since name labels past ≡ Some since → IsNew since past
    new-waits since [] legal once none e = never since (sym e)
    new-waits since (r ∷ past) legal once none e =
        let w = waits-step name labels r past since e in
        by w (λ begun before. new-waits since past legal.1 once.1 begun before) (waits_since name labels past) refl w.either (sym (ap (λ b. cond b (Some (time_at (r ∷ past))) (cond (found_empty config name r past) None (begun_at config name past))) w.other) ∙ none)
      where
        -- what is said of the records before
        Before : Type 0
        Before = begun_at config name past ≡ None → waits_since name labels past ≡ Some since → IsNew since past

        -- one that waited before
        still : Waits name labels r past since → Before → waits_since name labels past ≡ Some since → cond (found_empty config name r past) None (begun_at config name past) ≡ None → IsNew since (r ∷ past)
        still w earlier before none =
            let there = is-there config name labels since past goes before in
            let begun : begun_at config name past ≡ None = sym (ap (λ b. cond b None (begun_at config name past)) (not-found_empty config id name labels there.0 r past there.1)) ∙ none in
            let new = earlier begun before in
            record {
              due = due-step config id name (since + wait_of config name) r past legal new.due (λ missing. absurd (not-missing config id name labels there.0 past legal.1 there.1 missing));
              ended = ended-step config id name since r past new.ended (λ f. absurd (open-begun config id name past legal.1 (finish-open config id name r past once.0 f) begun));
            }

        -- one that is inserted by the record
        inserted : (b : Bool) → cond b (Some (time_at (r ∷ past))) None ≡ Some since → IsNew since (r ∷ past)
        inserted true e =
            let now : time_at (r ∷ past) ≡ since = inside (time_at (r ∷ past)) since e in
            record {
              due = subst (λ t. IsDueBy (t + wait_of config name) (group_after config id name (r ∷ past))) now (due-within config id name (r ∷ past) legal);
              ended = subst (λ t. ended_at name (r ∷ past) ≤ t) now (ended-before config id name (r ∷ past));
            }
        inserted false e = never since (sym e)

        by : Waits name labels r past since → Before → (o : Option ℕ) → waits_since name labels past ≡ o → option_or o (inserted_now name labels r past) ≡ Some since → cond (found_empty config name r past) None (begun_at config name past) ≡ None → IsNew since (r ∷ past)
        by w earlier None is e none = inserted (inserts labels r.call) e
        by w earlier (Some u) is e none = still w earlier (is ∙ e) none

-- ---- each record

one_record : (config : Config) (id slack hold : ℕ) (name : GroupName) (r : Record) (past : List Record) → IsLegalPast config id past → AtEach IsOneFlushAtATime past → WaitsInTime slack hold config name r past
one_record config id slack hold name r past legal once on was labels goes = by (waits_since name labels past) (begun_at config name past) refl refl
  where
    by : (o last : Option ℕ) → waits_since name labels past ≡ o → begun_at config name past ≡ last → IfSome o (λ since. time_at (r ∷ past) ≤ latest config name hold since last + slack)
    by None last is begun = tt
    by (Some since) None is begun =
        let there = is-there config name labels since past goes is in
        let new = new-waits config id name labels goes since past legal once begun is in
        let most : time_at (r ∷ past) ≤ max (since + wait_of config name) since + slack = new-bound config id name slack hold r past legal on (since + wait_of config name) since begun (not-missing config id name labels there.0 past legal there.1) new.due new.ended in
        omega (arith, most)
    by (Some since) (Some u) is begun =
        let there = is-there config name labels since past goes is in
        let most : time_at (r ∷ past) ≤ max (u + max (route_of config name).group_interval hold) (u + hold) + slack = begun-bound config id name slack hold r past legal on u (u + hold) begun (not-missing config id name labels there.0 past legal there.1) (was-ended config id name slack hold u past legal once was begun) in
        omega (arith, most)

each_record : (config : Config) (id slack hold : ℕ) (name : GroupName) (past : List Record) → IsLegalPast config id past → AtEach IsOneFlushAtATime past → AtEach (WaitsInTime slack hold config name) past
each_record config id slack hold name [] legal once = tt
each_record config id slack hold name (r ∷ past) legal once =
    (one_record config id slack hold name r past legal.1 once.1, each_record config id slack hold name past legal.1 once.1)

pub nobody_waits_longer : EveryLegalHistory NobodyWaitsLonger
nobody_waits_longer config id history legal slack hold name =
    each_record config id slack hold name (past_of history) (legal_past config id history legal) (histories_look_back config id history legal).once
