-- A driver that asks for begins until nothing is due is on time: no group without open flush was due before it last heard so.
use Rattle.std.proofs.Common.{◌≡◌, ℕ, ◌+◌, ◌≤◌, max, min, Bool, true, false, cond, not, ◌&&◌, ◌||◌, nat_lt, Option, Some, None, List, [], ◌∷◌, refl, sym, ap, ◌∙◌, subst, arith, if◌then◌else◌}
use Rattle.std.specs.Prelude.{find, filter, nat_le, ◌==◌}
use Rattle.std.specs.List.{list_any, AllByRecursion}
use Rattle.std.specs.Option.{IfSome}
use Rattle.std.proofs.lemmas.Bool.{false≢true, leb-false, or_left, or_right, and_parts}
use Rattle.std.proofs.lemmas.Cmp.{nat_eq_equiv}
use Rattle.am_model.specs.declared.config.Config.{Config}
use Rattle.am_model.specs.declared.config.Integration.{Integration}
use Rattle.am_model.specs.declared.group.GroupName.{GroupName}
use Rattle.am_model.specs.declared.record.Call.{Call}
use Rattle.am_model.specs.declared.record.Call.TheVariants.{Insert, Silence, Begin, Finish, Maintain, RemoveEmptyGroups, Forget, Load, Note}
use Rattle.am_model.specs.declared.record.Record.{Record}
use Rattle.am_model.specs.declared.record.Reply.{Reply}
use Rattle.am_model.specs.declared.record.Reply.TheVariants as reply_is
use Rattle.am_model.specs.Begin.{due_cmp, may_begin, taken, reply_notifying}
use Rattle.am_model.specs.Insert.{new_group, wait_of}
use Rattle.am_model.specs.Lists.{least}
use Rattle.am_model.specs.Records.{now_of}
use Rattle.am_model.specs.State.{GroupState, State, is_named, same_name, is_flushing, time}
use Rattle.am_model.specs.look_back.Entry.{begins_group}
use Rattle.am_model.specs.look_back.Laws.{EveryLegalHistory, number_in, has_open, IsOneFlushAtATime}
use Rattle.am_model.specs.look_back.Past.{AtEach, past_of, time_at, is_flush, is_flush_of, is_finish, begin_of, has_begun, has_finished}
use Rattle.am_model.proofs.legal.EachCall.{HoldsOfEach, each_call}
use Rattle.am_model.proofs.lists.Distinct.{all-find, find-passes}
use Rattle.am_model.proofs.looking_back.LooksBack.{histories_look_back}
use Rattle.am_model.proofs.looking_back.Pasts.{state_after, IsLegalPast, legal_past, replay_of_past}
use Rattle.am_model.proofs.looking_back.alerts.FoundAlerts.{finds_past}
use Rattle.am_model.proofs.looking_back.alerts.FoundSteps.{clock-step}
use Rattle.am_model.proofs.looking_back.flushes.FlushesOnce.{open-group}
use Rattle.am_model.proofs.states.Alike.{same_name-is}
use Rattle.am_paging.specs.InTime.{is_finish_of, ended_at, is_nothing_due, asked_at, BeginsOnTime, AskingIsOnTime}
use Rattle.am_paging.proofs.Counted.{counts_past}
use Rattle.am_paging.proofs.GroupSteps.{Has, IsKept, group_after, group-step}
use Rattle.am_paging.proofs.OpenFlushes.{neither}
use Rattle.am_paging.proofs.Standing.{ended-before}

-- a group is due at a or later, or something ended then or later
abbrev IsLate : ℕ → ℕ → GroupState → Type 0
IsLate a e g = a ≤ max g.due e

late-more : (a e more : ℕ) → e ≤ more → (o : Option GroupState) → Has (IsLate a e) o → Has (IsLate a more) o
late-more a e more up None late = tt
late-more a e more up (Some g) late = let now : a ≤ max g.due e = late in omega (arith, now, up)

late-ended : (a e : ℕ) → a ≤ e → (o : Option GroupState) → Has (IsLate a e) o
late-ended a e ended None = tt
late-ended a e ended (Some g) = omega (arith, ended)

late-due : (a t e : ℕ) → a ≤ t → (o : Option GroupState) → Has (λ g. t ≤ g.due) o → Has (IsLate a e) o
late-due a t e come None due = tt
late-due a t e come (Some g) due = let now : t ≤ g.due = due in omega (arith, come, now)

late-kept : (config : Config) (a e t : ℕ) → a ≤ t → IsKept config (IsLate a e) t
late-kept config a e t come =
    record {
      put = λ m g late.
          let now : a ≤ max g.due e = late in
          elim (not g.flushed && nat_lt (m.alert.starts + wait_of config g.name) t) as (λ b. a ≤ max (if b then min g.due t else g.due) e) [
            | true ↦ omega (arith, now, come)
            | false ↦ now
          ];
      begun = λ g. omega (arith, come);
      left = λ g ms late. late;
    }

-- ---- nothing is due

-- a list without a least element has none
least-none : (gs : List GroupState) → least due_cmp gs ≡ None → gs ≡ []
least-none [] e = refl
least-none (g ∷ gs) e = absurd (cc)

none-pass : (test : GroupState → Bool) (gs : List GroupState) → filter test gs ≡ [] → AllByRecursion (λ g. test g ≡ false) gs
none-pass test [] e = tt
none-pass test (g ∷ gs) e =
    elim (test g) as (λ b. test g ≡ b → cond b (g ∷ filter test gs) (filter test gs) ≡ [] → AllByRecursion (λ h. test h ≡ false) (g ∷ gs)) [
      | true ↦ λ is e. absurd (cc)
      | false ↦ λ is e. (is, none-pass test gs e)
    ] refl e

module _ (config : Config) (id : ℕ) (name : GroupName) where
  -- where a begin answers so, each group without open flush is due later
  module _ (s : State) where
    abbrev After : Call → State → Reply → Type 0
    After c new p = is_nothing_due p ≡ true → is_flushing new.flushes name ≡ false → Has (λ g. time s (now_of c) ≤ g.due) (find (is_named name) new.groups)

    nothing : (now : ℕ) → taken s (time s now) ≡ None → is_flushing s.flushes name ≡ false → Has (λ g. time s now ≤ g.due) (find (is_named name) s.groups)
    nothing now none free = by (find (is_named name) s.groups) refl
      where
        by : (o : Option GroupState) → find (is_named name) s.groups ≡ o → Has (λ g. time s now ≤ g.due) o
        by None found = tt
        by (Some g) found =
            let own : name ≡ g.name = same_name-is name g.name (find-passes (is_named name) g s.groups found) in
            let no : may_begin s (time s now) g ≡ false = all-find (λ h. may_begin s (time s now) h ≡ false) (is_named name) g s.groups (none-pass (may_begin s (time s now)) s.groups (least-none (filter (may_begin s (time s now)) s.groups) none)) found in
            let idle : not (is_flushing s.flushes g.name) ≡ true = ap (λ n. not (is_flushing s.flushes n)) (sym own) ∙ ap not free in
            let later : nat_le g.due (time s now) ≡ false = first (nat_le g.due (time s now)) (not (is_flushing s.flushes g.name)) idle no in
            let after = leb-false g.due (time s now) later in
            omega (arith, after)
          where
            first : (a b : Bool) → b ≡ true → (a && b) ≡ false → a ≡ false
            first true b e f = absurd (false≢true (sym f ∙ e))
            first false b e f = refl

    begin-not : (now : ℕ) (g : GroupState) (notified : List (ℕ × Integration)) → is_nothing_due (reply_notifying config id s (time s now) g notified) ≡ true → ⊥
    begin-not now g [] e = false≢true e
    begin-not now g (i ∷ is) e = false≢true e

    each : HoldsOfEach config id s After
    each =
        record {
          insert = λ now a e. absurd (false≢true e);
          silence = λ now number matchers start end e. absurd (false≢true e);
          nothing = λ now none e free. nothing now none free;
          begin = λ now g is notified are e. absurd (begin-not now g notified e);
          finish = λ now number outcomes f is e. absurd (false≢true e);
          maintain = λ now e. absurd (false≢true e);
          remove_empty_groups = λ now e. absurd (false≢true e);
          forget = λ now e. absurd (false≢true e);
          load = λ now row may e. absurd (false≢true e);
          note = λ now number i outcome f is may e. absurd (false≢true e);
        }

  due-later : (r : Record) (past : List Record) → IsLegalPast config id (r ∷ past) → is_nothing_due r.reply ≡ true → has_open name (r ∷ past) ≡ false → Has (λ g. time_at (r ∷ past) ≤ g.due) (group_after config id name (r ∷ past))
  due-later r past legal is closed =
      let s = state_after config past in
      let new = state_after config (r ∷ past) in
      let free : is_flushing new.flushes name ≡ false = sym (open-group config new (r ∷ past) (counts_past config id (r ∷ past) legal) name) ∙ closed in
      let same : time s (now_of r.call) ≡ time_at (r ∷ past) = clock-step config s past (finds_past config id past legal.1) (now_of r.call) r refl in
      subst (λ t. Has (λ (g : GroupState). t ≤ g.due) (group_after config id name (r ∷ past))) same (each_call config id s (After s) (each s) r.call r.reply legal.0 is free)

  -- ---- a flush that is closed is finished

  -- the flush of a number is the group's, where one of the group has the number
  found-begin : (k : ℕ) (past : List Record) → AtEach IsOneFlushAtATime past → list_any (λ q. is_flush_of name q.reply && (k == number_in q.reply)) past ≡ true → begins_group name (begin_of k past) ≡ true
  found-begin k [] once e = absurd (false≢true e)
  found-begin k (r ∷ past) once e =
      by (is_flush k r.reply) refl (is_flush_of name r.reply && (k == number_in r.reply)) refl e
      (λ e. found-begin k past once.1 e)
    where
      numbered : (p : Reply) → (is_flush_of name p && (k == number_in p)) ≡ true → is_flush k p ≡ true
      numbered (reply_is.Inserted inserted) e = absurd (false≢true e)
      numbered (reply_is.Silenced silenced) e = absurd (false≢true e)
      numbered reply_is.NothingDue e = absurd (false≢true e)
      numbered (reply_is.Quiet group removed) e = absurd (false≢true e)
      numbered (reply_is.Flush group opened) e = nat_eq_equiv.symm opened.number k ∙ (and_parts (same_name name group) (k == opened.number) e).1
      numbered (reply_is.Finished finished) e = absurd (false≢true e)
      numbered (reply_is.Maintained maintained) e = absurd (false≢true e)
      numbered (reply_is.EmptyGroupsRemoved removed) e = absurd (false≢true e)
      numbered (reply_is.Forgotten forgotten) e = absurd (false≢true e)
      numbered (reply_is.Loaded loaded) e = absurd (false≢true e)
      numbered reply_is.Noted e = absurd (false≢true e)

      begun : (qs : List Record) → list_any (λ q. is_flush_of name q.reply && (k == number_in q.reply)) qs ≡ true → has_begun k qs ≡ true
      begun [] e = absurd (false≢true e)
      begun (q ∷ qs) e =
          elim (is_flush_of name q.reply && (k == number_in q.reply)) as (λ b. (is_flush_of name q.reply && (k == number_in q.reply)) ≡ b → (b || list_any (λ q. is_flush_of name q.reply && (k == number_in q.reply)) qs) ≡ true → (is_flush k q.reply || has_begun k qs) ≡ true) [
            | true ↦ λ is _. or_left (is_flush k q.reply) (has_begun k qs) (numbered q.reply is)
            | false ↦ λ _ rest. or_right (is_flush k q.reply) (has_begun k qs) (begun qs rest)
          ] refl e

      by : (a : Bool) → is_flush k r.reply ≡ a → (b : Bool) → (is_flush_of name r.reply && (k == number_in r.reply)) ≡ b
          → (b || list_any (λ q. is_flush_of name q.reply && (k == number_in q.reply)) past) ≡ true
          → (list_any (λ q. is_flush_of name q.reply && (k == number_in q.reply)) past ≡ true → begins_group name (begin_of k past) ≡ true)
          → begins_group name (cond a (r ∷ past) (begin_of k past)) ≡ true
      by true is true own e rest = (and_parts (is_flush_of name r.reply) (k == number_in r.reply) own).0
      by true is false own e rest = absurd (false≢true (sym (once.0.first_begin k is) ∙ begun past e))
      by false is true own e rest = absurd (false≢true (sym is ∙ numbered r.reply own))
      by false is false own e rest = rest e

  -- one that is open, and then isn't, is finished
  finished-now : (r : Record) (past : List Record) → AtEach IsOneFlushAtATime past → has_open name past ≡ true → has_open name (r ∷ past) ≡ false → is_finish_of name past r.call ≡ true
  finished-now r past once opens closed = close r.call (both past opens (neither (is_flush_of name r.reply && not (has_finished (number_in r.reply) (r ∷ past))) (list_any (λ q. is_flush_of name q.reply && not (has_finished (number_in q.reply) (r ∷ past))) past) closed).1)
    where
      none : (qs : List Record) → list_any (λ q. is_flush_of name q.reply && false) qs ≡ true → ⊥
      none [] e = false≢true e
      none (q ∷ qs) e = by (is_flush_of name q.reply) e (λ e. none qs e)
        where
          by : (a : Bool) → ((a && false) || list_any (λ q. is_flush_of name q.reply && false) qs) ≡ true → (list_any (λ q. is_flush_of name q.reply && false) qs ≡ true → ⊥) → ⊥
          by true e rest = rest e
          by false e rest = rest e

      both : (qs : List Record) → list_any (λ q. is_flush_of name q.reply && not (has_finished (number_in q.reply) past)) qs ≡ true
          → list_any (λ q. is_flush_of name q.reply && not (is_finish (number_in q.reply) r.call || has_finished (number_in q.reply) past)) qs ≡ false
          → list_any (λ q. is_flush_of name q.reply && is_finish (number_in q.reply) r.call) qs ≡ true
      both [] e f = e
      both (q ∷ qs) e f = by (is_flush_of name q.reply) (is_finish (number_in q.reply) r.call) (has_finished (number_in q.reply) past) e f (λ e f. both qs e f)
        where
          opened : Bool
          opened = list_any (λ q. is_flush_of name q.reply && not (has_finished (number_in q.reply) past)) qs

          left_open : Bool
          left_open = list_any (λ q. is_flush_of name q.reply && not (is_finish (number_in q.reply) r.call || has_finished (number_in q.reply) past)) qs

          ended : Bool
          ended = list_any (λ q. is_flush_of name q.reply && is_finish (number_in q.reply) r.call) qs

          by : (a b c : Bool) → ((a && not c) || opened) ≡ true → ((a && not (b || c)) || left_open) ≡ false → (opened ≡ true → left_open ≡ false → ended ≡ true) → ((a && b) || ended) ≡ true
          by true true c e f rest = refl
          by true false true e f rest = rest e f
          by true false false e f rest = absurd (false≢true (sym f))
          by false b c e f rest = rest e f

      close : (c : Call) → list_any (λ q. is_flush_of name q.reply && is_finish (number_in q.reply) c) past ≡ true → is_finish_of name past c ≡ true
      close (Insert now alert) e = absurd (none past e)
      close (Silence now k matchers start end) e = absurd (none past e)
      close (Begin now) e = absurd (none past e)
      close (Finish now k outcomes) e = found-begin k past once e
      close (Maintain now) e = absurd (none past e)
      close (RemoveEmptyGroups now) e = absurd (none past e)
      close (Forget now) e = absurd (none past e)
      close (Load now row) e = absurd (none past e)
      close (Note now k integration outcome) e = absurd (none past e)

  -- ---- each past

  asked-before : (past : List Record) → asked_at past ≤ time_at past
  asked-before [] = omega arith
  asked-before (r ∷ past) =
      let before = asked-before past in
      elim (is_nothing_due r.reply) as (λ b. cond b (time_at (r ∷ past)) (asked_at past) ≤ time_at (r ∷ past)) [
        | true ↦ omega arith
        | false ↦ omega (arith, before)
      ]

  ended-grows : (r : Record) (past : List Record) → ended_at name past ≤ ended_at name (r ∷ past)
  ended-grows r past =
      let before = ended-before config id name past in
      elim (is_finish_of name past r.call) as (λ b. ended_at name past ≤ cond b (time_at (r ∷ past)) (ended_at name past)) [
        | true ↦ omega (arith, before)
        | false ↦ omega arith
      ]

  -- no group without open flush was due, and its last flush ended, before a begin answered that nothing is due
  pub asked : (past : List Record) → IsLegalPast config id past → AtEach IsOneFlushAtATime past → has_open name past ≡ false → Has (IsLate (asked_at past) (ended_at name past)) (group_after config id name past)
  asked [] legal once closed = tt
  asked (r ∷ past) legal once closed = by (is_nothing_due r.reply) refl (has_open name past) refl (λ before. asked past legal.1 once.1 before)
    where
      come : asked_at past ≤ time_at (r ∷ past)
      come = let before = asked-before past in omega (arith, before)

      by : (b : Bool) → is_nothing_due r.reply ≡ b → (o : Bool) → has_open name past ≡ o → (has_open name past ≡ false → Has (IsLate (asked_at past) (ended_at name past)) (group_after config id name past))
          → Has (IsLate (cond b (time_at (r ∷ past)) (asked_at past)) (ended_at name (r ∷ past))) (group_after config id name (r ∷ past))
      by true is o open_is before = late-due (time_at (r ∷ past)) (time_at (r ∷ past)) (ended_at name (r ∷ past)) (omega arith) (group_after config id name (r ∷ past)) (due-later r past legal is closed)
      by false is true open_is before =
          let now : ended_at name (r ∷ past) ≡ time_at (r ∷ past) = ap (λ b. cond b (time_at (r ∷ past)) (ended_at name past)) (finished-now r past once.1 open_is closed) in
          late-ended (asked_at past) (ended_at name (r ∷ past)) (omega (arith, now, come)) (group_after config id name (r ∷ past))
      by false is false open_is before =
          group-step config id name (IsLate (asked_at past) (ended_at name (r ∷ past))) r past legal (late-kept config (asked_at past) (ended_at name (r ∷ past)) (time_at (r ∷ past)) come)
          (late-more (asked_at past) (ended_at name past) (ended_at name (r ∷ past)) (ended-grows r past) (group_after config id name past) (before open_is))
          (λ none m. (late-kept config (asked_at past) (ended_at name (r ∷ past)) (time_at (r ∷ past)) come).put m (new_group config (time_at (r ∷ past)) name) (omega (arith, come)))

  -- so a record soon after is on time
  on-time : (slack : ℕ) (r : Record) (past : List Record) → IsLegalPast config id past → AtEach IsOneFlushAtATime past → time_at (r ∷ past) ≤ asked_at past + slack → BeginsOnTime slack config name r past
  on-time slack r past legal once soon closed =
      subst (λ s. IfSome (find (is_named name) s.groups) (λ g. time_at (r ∷ past) ≤ max g.due (ended_at name past) + slack)) (sym (replay_of_past config past))
      (by (group_after config id name past) (asked past legal once closed))
    where
      by : (o : Option GroupState) → Has (IsLate (asked_at past) (ended_at name past)) o → IfSome o (λ g. time_at (r ∷ past) ≤ max g.due (ended_at name past) + slack)
      by None late = tt
      by (Some g) late = let now : asked_at past ≤ max g.due (ended_at name past) = late in omega (arith, soon, now)

  each-on-time : (slack : ℕ) (past : List Record) → IsLegalPast config id past → AtEach IsOneFlushAtATime past → AtEach (λ r past. time_at (r ∷ past) ≤ asked_at past + slack → BeginsOnTime slack config name r past) past
  each-on-time slack [] legal once = tt
  each-on-time slack (r ∷ past) legal once = (on-time slack r past legal.1 once.1, each-on-time slack past legal.1 once.1)

pub asking_is_on_time : EveryLegalHistory AskingIsOnTime
asking_is_on_time config id history legal slack name =
    each-on-time config id name slack (past_of history) (legal_past config id history legal) (histories_look_back config id history legal).once
