-- Groups are due as their begins say, after each legal history.
use Rattle.std.proofs.Common.{◌≡◌, ℕ, ◌+◌, Bool, true, false, cond, not, ◌&&◌, ◌||◌, nat_lt, min, Option, Some, None, List, [], ◌∷◌, filter, find, fold, unwrap_or, refl, sym, ap, ◌∙◌, subst, if◌then◌else◌}
use Rattle.std.specs.Prelude.{IfSome, is_some}
use Rattle.std.specs.Option.{option_map}
use Rattle.std.proofs.lemmas.Map.Keys.{IsDistinct-head, IsDistinct-tail}
use Rattle.std.specs.List.{AllByRecursion, IsDistinct}
use Rattle.std.proofs.lemmas.Bool.{false≢true, or_left, or_right}
use Rattle.std.proofs.lemmas.List.Elements.{All-from_recursion}
use Rattle.am_nflog.specs.Members.{is_empty}
use Rattle.am_retry.specs.declared.outcome.Outcome.{Outcome}
use Rattle.am_model.proofs.lists.Words.{all-upsert, IsDistinct-upsert}
use Rattle.am_model.specs.Begin.{taken, may_begin, due_cmp, notified_of, begun_group, without_resolved, after_notifying, after_taking, reply_notifying, reply_taking, begun}
use Rattle.am_model.specs.Finish.{after_finish_of, finished_group, finished}
use Rattle.am_model.specs.Forget.{forgotten}
use Rattle.am_model.specs.Insert.{same_group, new_group, group_or_new, group_with, put_into_group, names_for, wait_of, inserted, next_stamp}
use Rattle.am_model.specs.Laws.{last_begin_after, last_begin_from, last_begin, IsBegunAt, IsThere, LegalKeepsBegins}
use Rattle.am_model.specs.Lists.{upsert, without, changed_where}
use Rattle.am_model.specs.Load.{may_load, loaded, load_reply, after_load}
use Rattle.am_model.specs.Note.{may_note, after_note_of, after_note, noted}
use Rattle.am_model.specs.Replay.{reply, after, after_call, replay_from, replay, IsLegalFrom, IsLegal}
use Rattle.am_model.specs.State.{MemberState, GroupState, FlushState, State, opening_state, at_time, time, same_name, is_named, has_group, members_in, flush_numbered}
use Rattle.am_model.specs.Maintenance.{has_no_alerts, silenced, maintained, empty_groups_removed}
use Rattle.am_mute.specs.Silence.{silence_of}
use Rattle.am_model.specs.declared.config.Config.{Config}
use Rattle.am_model.specs.declared.config.Integration.{Integration}
use Rattle.am_model.specs.declared.group.GroupName.{GroupName}
use Rattle.am_model.specs.declared.record.Call.{Call}
use Rattle.am_model.specs.declared.record.Call.TheVariants.{Insert, Silence, Begin, Finish, Maintain, RemoveEmptyGroups, Forget, Load, Note}
use Rattle.am_model.specs.declared.record.Record.{Record}
use Rattle.am_model.specs.declared.record.Reply.{Reply}
use Rattle.am_model.specs.declared.record.Reply.TheVariants as reply_is
use Rattle.am_model.specs.declared.views.RowView.{RowView}
use Rattle.am_model.proofs.lists.Distinct.{IsDistinct-nil, IsDistinct-mapped, IsDistinct-filter, all-weaker, all-kept, all-filter, all-found, all-lesser, all-both, all-map}
use Rattle.am_model.proofs.lists.Sets.{any-find}
use Rattle.am_model.proofs.states.Alike.{same_group_equiv, same_name_equiv}
use Rattle.am_model.proofs.legal.EachCall.{inside}

-- ---- which groups there are

-- each group of a list is there
each_there : (groups : List GroupState) → AllByRecursion (λ g. has_group groups g.name ≡ true) groups
each_there [] = tt
each_there (g ∷ groups) = (
  or_left (same_name g.name g.name) (has_group groups g.name) (same_name_equiv.refl g.name),
  all-weaker (λ h. has_group groups h.name ≡ true) (λ h. has_group (g ∷ groups) h.name ≡ true) (λ h there. or_right (same_name h.name g.name) (has_group groups h.name) there) groups (each_there groups),
)

-- those that were there are there after a group is put in
pub there-upsert : (name : GroupName) (g : GroupState) (groups : List GroupState) → has_group groups name ≡ true → has_group (upsert same_group g groups) name ≡ true
there-upsert name g [] there = absurd (false≢true there)
there-upsert name g (h ∷ groups) there =
    elim (same_group g h) as (λ b. same_group g h ≡ b → has_group (cond b (g ∷ groups) (h ∷ upsert same_group g groups)) name ≡ true) [
      | true ↦ λ e.
          let same : same_name name g.name ≡ same_name name h.name = same_name_equiv.symm name g.name ∙ same_name_equiv.congr g.name h.name name e ∙ same_name_equiv.symm h.name name in
          ap (λ b. b || has_group groups name) same ∙ there
      | false ↦ λ e.
          elim (same_name name h.name) as (λ b. (b || has_group groups name) ≡ true → (b || has_group (upsert same_group g groups) name) ≡ true) [
            | true ↦ λ _. refl
            | false ↦ λ rest. there-upsert name g groups rest
          ] there
    ] refl

-- a change of some groups that keeps their names
module _ (test : GroupState → Bool) (change : GroupState → GroupState) (kept : (g : GroupState) → (change g).name ≡ g.name) where
  name-changed : (g : GroupState) → (if test g then change g else g).name ≡ g.name
  name-changed g = elim (test g) as (λ b. (if b then change g else g).name ≡ g.name) [ true ↦ kept g | false ↦ refl ]

  there-changed : (name : GroupName) (groups : List GroupState) → has_group (changed_where test change groups) name ≡ has_group groups name
  there-changed name [] = refl
  there-changed name (g ∷ groups) = λ i. same_name name (name-changed g i) || there-changed name groups i

  apart-changed : (groups : List GroupState) → IsDistinct same_group groups → IsDistinct same_group (changed_where test change groups)
  apart-changed = IsDistinct-mapped same_group same_group (λ g. if test g then change g else g) (λ g h i. same_name (name-changed g i) (name-changed h i))

-- ---- what each call keeps

-- a group that was begun since it was made is among these
pub IsIn : List GroupState → GroupName → Option ℕ → Type 0
IsIn groups name None = Unit {0}
IsIn groups name (Some t) = has_group groups name ≡ true

-- the groups are due as their last begins say, those that were begun are there, and no two have one name
pub record RespectsIntervals (config : Config) (groups : List GroupState) (last : GroupName → Option ℕ) : Type 0 where
  pub due : AllByRecursion (λ g. IsBegunAt config g (last g.name)) groups
  pub there : (name : GroupName) → IsIn groups name (last name)
  pub apart : IsDistinct same_group groups

still_in : (name : GroupName) (old new : List GroupState) → (has_group old name ≡ true → has_group new name ≡ true) → (o : Option ℕ) → IsIn old name o → IsIn new name o
unfolding IsIn
still_in name old new h None there = tt
still_in name old new h (Some t) there = h there

none_in : (groups : List GroupState) (name : GroupName) → IsIn groups name None
unfolding IsIn
none_in groups name = tt

is_in : (groups : List GroupState) (name : GroupName) (t : ℕ) → has_group groups name ≡ true → IsIn groups name (Some t)
unfolding IsIn
is_in groups name t h = h

-- one name finds what another does that is the same
there-alike : (n name : GroupName) (groups : List GroupState) → same_name n name ≡ true → has_group groups name ≡ true → has_group groups n ≡ true
there-alike n name [] e h = h
there-alike n name (g ∷ groups) e h =
    elim (same_name name g.name) as (λ b. same_name name g.name ≡ b → (b || has_group groups name) ≡ true → (same_name n g.name || has_group groups n) ≡ true) [
      | true ↦ λ f _. or_left (same_name n g.name) (has_group groups n) (same_name_equiv.congr n name g.name e ∙ f)
      | false ↦ λ f rest. or_right (same_name n g.name) (has_group groups n) (there-alike n name groups e rest)
    ] refl h

-- a group that isn't there wasn't begun
never_begun : (config : Config) (groups : List GroupState) (name : GroupName) (g : GroupState) → has_group groups name ≡ false → g.flushed ≡ false → (o : Option ℕ) → IsIn groups name o → IsBegunAt config g o
unfolding IsIn
never_begun config groups name g missing not_flushed None there = not_flushed
never_begun config groups name g missing not_flushed (Some t) there = absurd (false≢true (sym missing ∙ there))

-- a member put into a group that was begun doesn't change when it is due
due-group_with : (config : Config) (t : ℕ) (m : MemberState) (g : GroupState) (o : Option ℕ) → IsBegunAt config g o → IsBegunAt config (group_with config t m g) o
due-group_with config t m g None h = h
due-group_with config t m g (Some u) h =
    (h.0, ap (λ b. if not b && nat_lt (m.alert.starts + wait_of config g.name) t then min g.due t else g.due) h.0 ∙ h.1)

module _ (config : Config) (last : GroupName → Option ℕ) where
  keeps-put : (t : ℕ) (m : MemberState) (groups : List GroupState) (name : GroupName) → RespectsIntervals config groups last → RespectsIntervals config (put_into_group config t m groups name) last
  keeps-put t m groups name k =
      let found : IsBegunAt config (group_or_new config t groups name) (last (group_or_new config t groups name).name) =
      elim (find (is_named name) groups) as (λ o. has_group groups name ≡ is_some o → IfSome o (λ g. IsBegunAt config g (last g.name)) → IsBegunAt config (unwrap_or o (new_group config t name)) (last (unwrap_or o (new_group config t name)).name)) [
        | None ↦ λ e _. never_begun config groups name (new_group config t name) e refl (last name) (k.there name)
        | Some g ↦ λ _ h. h
      ] (any-find (is_named name) groups) (all-found (λ g. IsBegunAt config g (last g.name)) (is_named name) groups k.due) in
      let g : GroupState = group_or_new config t groups name in
      let new : GroupState = group_with config t m g in
      record {
        due = all-upsert same_group new (λ h. IsBegunAt config h (last h.name)) groups (due-group_with config t m g (last g.name) found) k.due;
        there = λ n. still_in n groups (upsert same_group new groups) (there-upsert n new groups) (last n) (k.there n);
        apart = IsDistinct-upsert same_group same_group_equiv new groups k.apart;
      }

  keeps-put_all : (t : ℕ) (m : MemberState) (names : List GroupName) (groups : List GroupState) → RespectsIntervals config groups last → RespectsIntervals config (fold (put_into_group config t m) groups names) last
  keeps-put_all t m [] groups k = k
  keeps-put_all t m (name ∷ names) groups k = keeps-put_all t m names (put_into_group config t m groups name) (keeps-put t m groups name k)

  -- the alerts of some groups change
  keeps-members : (test : GroupState → Bool) (change : GroupState → GroupState) (groups : List GroupState) → ((g : GroupState) → (change g).name ≡ g.name) → ((g : GroupState) (o : Option ℕ) → IsBegunAt config g o → IsBegunAt config (change g) o)
      → RespectsIntervals config groups last → RespectsIntervals config (changed_where test change groups) last
  keeps-members test change groups named kept k =
      record {
        due = all-map (λ g. if test g then change g else g) (λ g. IsBegunAt config g (last g.name)) groups
            (all-weaker (λ g. IsBegunAt config g (last g.name)) (λ g. let to = if test g then change g else g in IsBegunAt config to (last to.name)) (λ g h.
            elim (test g) as (λ b. IsBegunAt config (if b then change g else g) (last (if b then change g else g).name)) [
              | true ↦ subst (λ n. IsBegunAt config (change g) (last n)) (sym (named g)) (kept g (last g.name) h)
              | false ↦ h
            ]) groups k.due);
        there = λ n. still_in n groups (changed_where test change groups) (λ h. there-changed test change named n groups ∙ h) (last n) (k.there n);
        apart = apart-changed test change named groups k.apart;
      }

  -- a group is begun at t: it is flushed, and due an interval later
  keeps-begin : (t : ℕ) (name : GroupName) (change : GroupState → GroupState) (groups : List GroupState) → has_group groups name ≡ true → ((g : GroupState) → (change g).name ≡ g.name) → ((g : GroupState) → IsBegunAt config (change g) (Some t))
      → RespectsIntervals config groups last → RespectsIntervals config (changed_where (is_named name) change groups) (λ n. if same_name n name then Some t else last n)
  keeps-begin t name change groups here named begun k =
      let now : GroupName → Option ℕ = λ n. if same_name n name then Some t else last n in
      record {
        due = all-map (λ g. if same_name name g.name then change g else g) (λ g. IsBegunAt config g (now g.name)) groups
            (all-weaker (λ g. IsBegunAt config g (last g.name)) (λ g. let to = if same_name name g.name then change g else g in IsBegunAt config to (now to.name)) (λ g h.
            elim (same_name name g.name) as (λ b. same_name name g.name ≡ b → IsBegunAt config (if b then change g else g) (now (if b then change g else g).name)) [
              | true ↦ λ e.
                  let same : same_name g.name name ≡ true = same_name_equiv.symm g.name name ∙ e in
                  subst (λ n. IsBegunAt config (change g) (now n)) (sym (named g)) (subst (λ b. IsBegunAt config (change g) (if b then Some t else last g.name)) (sym same) (begun g))
              | false ↦ λ e.
                  let other : same_name g.name name ≡ false = same_name_equiv.symm g.name name ∙ e in
                  subst (λ b. IsBegunAt config g (if b then Some t else last g.name)) (sym other) h
            ] refl) groups k.due);
        there = λ n.
            let still = λ (h : has_group groups n ≡ true). there-changed (is_named name) change named n groups ∙ h in
            elim (same_name n name) as (λ b. same_name n name ≡ b → IsIn (changed_where (is_named name) change groups) n (if b then Some t else last n)) [
              | true ↦ λ e. is_in (changed_where (is_named name) change groups) n t (still (there-alike n name groups e here))
              | false ↦ λ e. still_in n groups (changed_where (is_named name) change groups) still (last n) (k.there n)
            ] refl;
        apart = apart-changed (is_named name) change named groups k.apart;
      }

-- ---- a maintenance

-- where no two groups have one name, the alerts of a name are those of its group
own_members : (groups : List GroupState) → IsDistinct same_group groups → AllByRecursion (λ g. members_in groups g.name ≡ g.members) groups
own_members [] h = tt
own_members (g ∷ groups) h = (
  ap (λ b. unwrap_or (option_map (λ x. x.members) (cond b (Some g) (find (is_named g.name) groups))) []) (same_name_equiv.refl g.name),
  all-both (λ x. same_group g x ≡ false) (λ x. members_in groups x.name ≡ x.members) (λ x. members_in (g ∷ groups) x.name ≡ x.members)
      (λ x apart own. ap (λ b. unwrap_or (option_map (λ y. y.members) (cond b (Some g) (find (is_named x.name) groups))) []) (same_name_equiv.symm x.name g.name ∙ apart) ∙ own)
      groups (IsDistinct-head same_group g groups h) (own_members groups (IsDistinct-tail same_group g groups h)),
)

-- a group with alerts stays
kept_there : (name : GroupName) (groups : List GroupState) → is_empty (members_in groups name) ≡ false → has_group (without has_no_alerts groups) name ≡ true
kept_there name [] h = absurd (false≢true (sym h))
kept_there name (g ∷ groups) h =
    elim (same_name name g.name) as (λ b. same_name name g.name ≡ b → is_empty (unwrap_or (option_map (λ x. x.members) (cond b (Some g) (find (is_named name) groups))) []) ≡ false → has_group (without has_no_alerts (g ∷ groups)) name ≡ true) [
      | true ↦ λ e alive.
          ap (λ b. has_group (cond (not b) (g ∷ without has_no_alerts groups) (without has_no_alerts groups)) name) alive ∙ or_left (same_name name g.name) (has_group (without has_no_alerts groups) name) e
      | false ↦ λ e alive.
          let rest = kept_there name groups alive in
          elim (has_no_alerts g) as (λ b. has_group (cond (not b) (g ∷ without has_no_alerts groups) (without has_no_alerts groups)) name ≡ true) [
            | true ↦ rest
            | false ↦ or_right (same_name name g.name) (has_group (without has_no_alerts groups) name) rest
          ]
    ] refl h

module _ (config : Config) (last : GroupName → Option ℕ) where
  keeps-removal : (groups : List GroupState) → RespectsIntervals config groups last → RespectsIntervals config (without has_no_alerts groups) (λ n. if is_empty (members_in groups n) then None else last n)
  keeps-removal groups k =
      let now : GroupName → Option ℕ = λ n. if is_empty (members_in groups n) then None else last n in
      record {
        due = all-kept (λ g. IsBegunAt config g (last g.name) × (members_in groups g.name ≡ g.members)) (λ g. IsBegunAt config g (now g.name)) (λ g. not (has_no_alerts g))
            (λ g h alive. subst (λ b. IsBegunAt config g (if b then None else last g.name)) (sym (ap is_empty h.1 ∙ alive_is g alive)) h.0)
            groups (all-both (λ g. IsBegunAt config g (last g.name)) (λ g. members_in groups g.name ≡ g.members) (λ g. IsBegunAt config g (last g.name) × (members_in groups g.name ≡ g.members)) (λ g p q. (p, q)) groups k.due (own_members groups k.apart));
        there = λ n.
            elim (is_empty (members_in groups n)) as (λ b. is_empty (members_in groups n) ≡ b → IsIn (without has_no_alerts groups) n (if b then None else last n)) [
              | true ↦ λ _. none_in (without has_no_alerts groups) n
              | false ↦ λ e. still_in n groups (without has_no_alerts groups) (λ _. kept_there n groups e) (last n) (k.there n)
            ] refl;
        apart = IsDistinct-filter same_group (λ g. not (has_no_alerts g)) groups k.apart;
      }
    where
      alive_is : (g : GroupState) → not (has_no_alerts g) ≡ true → is_empty g.members ≡ false
      alive_is g h = by (has_no_alerts g) h
        where
          by : (b : Bool) → not b ≡ true → b ≡ false
          by true e = absurd (false≢true e)
          by false e = refl

-- ---- each legal call

taken_there : (s : State) (t : ℕ) → IfSome (taken s t) (λ g. has_group s.groups g.name ≡ true)
taken_there s t = all-lesser (λ g. has_group s.groups g.name ≡ true) due_cmp (filter (may_begin s t) s.groups) (all-filter (λ g. has_group s.groups g.name ≡ true) (may_begin s t) s.groups (each_there s.groups))

due-finished : (config : Config) (outcomes : List (ℕ × Outcome)) (f : FlushState) (g : GroupState) (o : Option ℕ) → IsBegunAt config g o → IsBegunAt config (finished_group outcomes f g) o
due-finished config outcomes f g None h = h
due-finished config outcomes f g (Some t) h = h

module _ (config : Config) (id : ℕ) (s : State) (last : GroupName → Option ℕ) (k : RespectsIntervals config s.groups last) where
  -- what is kept after a call that leads to a state and returned a reply
  abbrev After : State → Reply → Type 0
  After new p = RespectsIntervals config new.groups (λ n. last_begin_after n s new.clock (last n) p)

  keeps-notifying : (t : ℕ) (g : GroupState) → has_group s.groups g.name ≡ true → (notified : List (ℕ × Integration)) → After (after_notifying config s t g notified) (reply_notifying config id s t g notified)
  keeps-notifying t g here [] = keeps-begin config last t g.name (λ h. without_resolved t (begun_group config t h)) s.groups here (λ h. refl) (λ h. (refl, refl)) k
  keeps-notifying t g here (i ∷ is) = keeps-begin config last t g.name (begun_group config t) s.groups here (λ h. refl) (λ h. (refl, refl)) k

  keeps-taking : (t : ℕ) (o : Option GroupState) → IfSome o (λ g. has_group s.groups g.name ≡ true) → After (after_taking config s t o) (reply_taking config id s t o)
  keeps-taking t None here = k
  keeps-taking t (Some g) here = keeps-notifying t g here (notified_of config s t g)

  keeps-finish : (t : ℕ) (outcomes : List (ℕ × Outcome)) (o : Option FlushState) (p : Reply) → option_map (λ f. reply_is.Finished (finished s outcomes f)) o ≡ Some p → After (after_finish_of config s t outcomes o) p
  keeps-finish t outcomes None p e = absurd (cc)
  keeps-finish t outcomes (Some f) p e =
      subst (After (after_finish_of config s t outcomes (Some f))) (inside (reply_is.Finished (finished s outcomes f)) p e)
      (keeps-members config last (is_named f.group) (finished_group outcomes f) s.groups (λ g. refl) (due-finished config outcomes f) k)

  keeps-note : (t integration : ℕ) (outcome : Option Outcome) (o : Option FlushState) (p : Reply) → noted integration outcome o ≡ Some p → After (after_note_of config s t integration outcome o) p
  keeps-note t integration outcome None p e = absurd (cc)
  keeps-note t integration outcome (Some f) p e =
      elim (may_note integration outcome f) as (λ b. (if b then Some reply_is.Noted else None) ≡ Some p → After (if b then after_note config s t integration f else at_time s t) p) [
        | true ↦ λ returned. subst (After (after_note config s t integration f)) (inside reply_is.Noted p returned) k
        | false ↦ λ returned. absurd (cc)
      ] e

  keeps-load : (t : ℕ) (row : RowView) (p : Reply) → load_reply config s t row ≡ Some p → After (after_load config s t row) p
  keeps-load t row p e =
      elim (may_load config t row) as (λ b. (if b then Some (reply_is.Loaded (loaded s.rows t row)) else None) ≡ Some p → After (after_load config s t row) p) [
        | true ↦ λ returned. subst (After (after_load config s t row)) (inside (reply_is.Loaded (loaded s.rows t row)) p returned) k
        | false ↦ λ returned. absurd (cc)
      ] e

  pub keeps-call : (c : Call) (p : Reply) → reply config id s c ≡ Some p → After (after_call config s c) p
  keeps-call (Insert now alert) p e =
      subst (After (after_call config s (Insert now alert))) (inside (reply_is.Inserted (inserted config s alert)) p e)
      (keeps-put_all config last (time s now) (record { alert = alert; stamp = next_stamp s }) (names_for config alert.labels) s.groups k)
  keeps-call (Silence now number matchers start end) p e =
      subst (After (after_call config s (Silence now number matchers start end))) (inside (reply_is.Silenced (silenced s (silence_of number matchers start end))) p e) k
  keeps-call (Begin now) p e =
      subst (After (after_call config s (Begin now))) (inside (begun config id s (time s now)) p e) (keeps-taking (time s now) (taken s (time s now)) (taken_there s (time s now)))
  keeps-call (Finish now number outcomes) p e = keeps-finish (time s now) outcomes (flush_numbered s.flushes number) p e
  keeps-call (Maintain now) p e =
      subst (After (after_call config s (Maintain now))) (inside (reply_is.Maintained (maintained s (time s now))) p e) (keeps-removal config last s.groups k)
  keeps-call (RemoveEmptyGroups now) p e =
      subst (After (after_call config s (RemoveEmptyGroups now))) (inside (reply_is.EmptyGroupsRemoved (empty_groups_removed s)) p e) (keeps-removal config last s.groups k)
  keeps-call (Forget now) p e =
      subst (After (after_call config s (Forget now))) (inside (reply_is.Forgotten (forgotten s (time s now))) p e) k
  keeps-call (Load now row) p e = keeps-load (time s now) row p e
  keeps-call (Note now number integration outcome) p e = keeps-note (time s now) integration outcome (flush_numbered s.flushes number) p e

-- ---- each legal history

keeps_from : (config : Config) (id : ℕ) (history : List Record) (s : State) (last : GroupName → Option ℕ) → IsLegalFrom config id s history → RespectsIntervals config s.groups last
    → RespectsIntervals config (replay_from config s history).groups (λ n. last_begin_from config n s (last n) history)
keeps_from config id [] s last legal k = k
keeps_from config id (r ∷ history) s last legal k =
    keeps_from config id history (after config s r) (λ n. last_begin_after n s (after config s r).clock (last n) r.reply) legal.1 (keeps-call config id s last k r.call r.reply legal.0)

pub opening_keeps : (config : Config) → RespectsIntervals config [] (λ n. None)
opening_keeps config = record { due = tt; there = λ n. none_in [] n; apart = IsDistinct-nil same_group }

is_there : (s : State) (name : GroupName) (o : Option ℕ) → IsIn s.groups name o → IsThere s name o
unfolding IsIn
is_there s name None h = tt
is_there s name (Some t) h = h

-- the groups of a legal history are due as their begins say, and no group that was begun goes but by a maintenance
pub begins_keep : LegalKeepsBegins
begins_keep config id history legal =
    let k = keeps_from config id history opening_state (λ n. None) legal (opening_keeps config) in
    record {
      due = All-from_recursion (λ g. IsBegunAt config g (last_begin config g.name history)) (replay config history).groups k.due;
      there = λ name. is_there (replay config history) name (last_begin config name history) (k.there name);
    }

-- no two groups of a legal history have one name
pub groups_apart : (config : Config) (id : ℕ) (history : List Record) → IsLegal config id history → IsDistinct same_group (replay config history).groups
groups_apart config id history legal = (keeps_from config id history opening_state (λ n. None) legal (opening_keeps config)).apart
