-- Each flush has one begin and at most one finish, notes each integration at most once between them, and its group isn't taken before.
use Rattle.std.proofs.Common.{◌≡◌, ℕ, ◌+◌, ◌≤◌, Bool, true, false, cond, not, ◌&&◌, ◌||◌, Option, Some, None, List, [], ◌∷◌, map, refl, sym, ap, ◌∙◌, subst, arith, if◌then◌else◌}
use Rattle.std.specs.Prelude.{find, filter, is_some, ◌==◌, nat_le}
use Rattle.std.specs.List.{list_any}
use Rattle.std.specs.Option.{option_map}
use Rattle.std.proofs.Math.Bool.{or-false}
use Rattle.std.proofs.lemmas.Bool.{false≢true, eqb-true, ne_eqb, leb-true, and_parts}
use Rattle.std.proofs.lemmas.Cmp.{nat_eq_equiv}
use Rattle.std.proofs.lemmas.List.Folds.{list_any-append}
use Rattle.am_alerts.specs.LabelOrder.{same_label_set_equiv}
use Rattle.am_alerts.specs.AlertData.{AlertData}
use Rattle.am_alerts.specs.declared.labels.Label.{Label}
use Rattle.am_alerts.specs.declared.matcher.MatcherParts.{MatcherParts}
use Rattle.am_mute.specs.Silence.{silence_of}
use Rattle.am_nflog.specs.Members.{is_empty}
use Rattle.am_retry.specs.declared.outcome.Outcome.{Outcome}
use Rattle.am_model.specs.declared.config.Config.{Config}
use Rattle.am_model.specs.declared.config.Integration.{Integration}
use Rattle.am_model.specs.declared.group.GroupName.{GroupName}
use Rattle.am_model.specs.declared.record.Call.{Call}
use Rattle.am_model.specs.declared.record.Call.TheVariants.{Insert, Silence, Begin, Finish, Maintain, RemoveEmptyGroups, Forget, Load, Note}
use Rattle.am_model.specs.declared.record.Call.TheVariants as call_is
use Rattle.am_model.specs.declared.record.Record.{Record}
use Rattle.am_model.specs.declared.record.Reply.TheVariants as reply_is
use Rattle.am_model.specs.declared.record.Reply.{Reply}
use Rattle.am_model.specs.declared.record.Reply.TheVariants.{Inserted, Silenced, NothingDue, Quiet, Flush, Finished, Maintained, EmptyGroupsRemoved, Forgotten, Loaded, Noted}
use Rattle.am_model.specs.Begin.{due_cmp, may_begin, taken, notified_of, after_notifying, after_taking, reply_notifying, reply_taking, flush_notifying}
use Rattle.am_model.specs.Begin as begin_is
use Rattle.am_model.specs.Configured.{route_of}
use Rattle.am_model.specs.Notice.{NoticeData}
use Rattle.am_model.specs.look_back.Entry.{present_in}
use Rattle.am_model.specs.Finish.{finished, after_finish_of}
use Rattle.am_model.specs.Forget.{forgotten}
use Rattle.am_model.specs.Load.{may_load, loaded}
use Rattle.am_model.specs.declared.views.RowView.{RowView}
use Rattle.am_model.specs.Records.{entry}
use Rattle.am_model.specs.Insert.{inserted}
use Rattle.am_model.specs.Laws.{last_begin_after, IsBegunAt}
use Rattle.am_model.specs.look_back.Laws.{member_with, EveryLegalHistory, number_in, has_open, begun_at, IsOneFlushAtATime, FlushesEndOnce}
use Rattle.am_model.specs.Note.{is_ready, notified_by, may_be_noted, with_note, may_note, after_note, noted}
use Rattle.am_model.specs.look_back.Past.{AtEach, past_of, time_at, is_flush, is_flush_of, is_finish, is_note, takes, begin_of, has_begun, has_finished, was_noted}
use Rattle.am_model.specs.Replay.{reply, after, after_call}
use Rattle.am_model.specs.State.{MemberState, GroupState, NotifiedState, FlushState, State, time, same_name, is_flushing, members_in, flush_numbered}
use Rattle.am_model.specs.Maintenance.{silenced, maintained, empty_groups_removed}
use Rattle.am_model.proofs.legal.Begins.{RespectsIntervals, keeps-call, opening_keeps}
use Rattle.am_model.proofs.legal.ConsistentBegin.{taken-is}
use Rattle.am_model.proofs.legal.ConsistentGroups.{members_of, members_of-in}
use Rattle.am_model.proofs.lists.Distinct.{all-find, all-filter, all-least, all-passes, all-both, find-passes}
use Rattle.am_model.proofs.legal.ConsistentState.{IsOpen, IsSteady}
use Rattle.am_model.proofs.legal.EachCall.{HoldsOfEach, each_call}
use Rattle.am_model.proofs.looking_back.alerts.FoundAlerts.{steady_past, finds_past}
use Rattle.am_model.proofs.looking_back.alerts.FoundSteps.{clock-step}
use Rattle.am_model.proofs.looking_back.flushes.Opened.{notices_at, notified_as, IsOpened, Finds}
use Rattle.am_model.proofs.looking_back.Pasts.{state_after, IsLegalPast, at_each, legal_past}
use Rattle.am_model.proofs.looking_back.PastWords.{has_labels}
use Rattle.am_model.proofs.lists.Sets.{any-failing, any-find, any-filter, any-alike, any-and, any-map, passes}
use Rattle.am_model.proofs.looking_back.alerts.AlertSets.{present-passes}
use Rattle.am_model.proofs.states.Alike.{same_name-is}

-- whether a reply is a flush whose group and number pass a test
abbrev pub flush_passes : (GroupName → ℕ → Bool) → Reply → Bool
flush_passes test (Inserted inserted) = false
flush_passes test (Silenced silenced) = false
flush_passes test NothingDue = false
flush_passes test (Quiet group removed) = false
flush_passes test (Flush group opened) = test group opened.number
flush_passes test (Finished finished) = false
flush_passes test (Maintained maintained) = false
flush_passes test (EmptyGroupsRemoved removed) = false
flush_passes test (Forgotten forgotten) = false
flush_passes test (Loaded loaded) = false
flush_passes test Noted = false

-- whether a record is a flush whose group and number pass a test, and that isn't finished in a past
abbrev pub is_open_in : (GroupName → ℕ → Bool) → List Record → Record → Bool
is_open_in test past r = flush_passes test r.reply && not (has_finished (number_in r.reply) past)

-- the open flushes of a state are those of the past, and its groups are due as the last begins say
pub record Counts (config : Config) (s : State) (past : List Record) : Type 0 where
  pub opens : (test : GroupName → ℕ → Bool) → list_any (is_open_in test past) past ≡ list_any (λ f. test f.group f.number) s.flushes
  pub begun : (n : ℕ) → s.next_number ≤ n → has_begun n past ≡ false
  pub ended : (n : ℕ) → s.next_number ≤ n → has_finished n past ≡ false
  pub keeps : RespectsIntervals config s.groups (λ name. begun_at config name past)

-- t is at least an interval after the last begin, if there was one
abbrev pub IsLater : ℕ → ℕ → Option ℕ → Type 0
IsLater interval t None = Unit {0}
IsLater interval t (Some last) = last + interval ≤ t

-- a record takes only a group that was begun at least an interval ago, unless a maintenance since then found it without alerts
abbrev pub IsIntervalOver : Config → Record → List Record → Type 0
IsIntervalOver config r past =
    (name : GroupName) → takes name r.reply ≡ true → IsLater (route_of config name).group_interval (time_at (r ∷ past)) (begun_at config name past)

-- ---- words

two : (a b : Bool) → (a && not b) ≡ true → (a ≡ true) × (b ≡ false)
two true true h = absurd (false≢true h)
two true false h = (refl, refl)
two false b h = absurd (false≢true h)

-- an integration is noted in an open flush exactly if a note is in the past
noted_past : (number i : ℕ) (past : List Record) (a : NotifiedState) (ns : List NoticeData) → find (λ (x : NotifiedState). x.integration == i) (map (notified_as number past) ns) ≡ Some a → was_noted number i past ≡ a.noted
noted_past number i past a [] found = absurd (cc)
noted_past number i past a (n ∷ ns) found =
    elim (n.integration == i) as (λ b. (n.integration == i) ≡ b → cond b (Some (notified_as number past n)) (find (λ (x : NotifiedState). x.integration == i) (map (notified_as number past) ns)) ≡ Some a → was_noted number i past ≡ a.noted) [
      | true ↦ λ same e.
          let own : notified_as number past n ≡ a = cc in
          ap (λ m. was_noted number m past) (sym (eqb-true n.integration i same)) ∙ ap (λ (x : NotifiedState). x.noted) own
      | false ↦ λ other e. noted_past number i past a ns e
    ] refl found

-- one that can be noted wasn't noted
unnoted_past : (config : Config) (inserts i : ℕ) (outcome : Option Outcome) (past : List Record) (f : FlushState) → IsOpened config inserts past f → may_note i outcome f ≡ true → was_noted f.number i past ≡ false
unnoted_past config inserts i outcome past f o may = by (notified_by f i) refl may
  where
    by : (a : Option NotifiedState) → notified_by f i ≡ a → may_be_noted outcome a ≡ true → was_noted f.number i past ≡ false
    by None found e = absurd (false≢true e)
    by (Some a) found e =
        noted_past f.number i past a (notices_at (begin_of f.number past)) (sym (ap (find (λ (x : NotifiedState). x.integration == i)) o.notified) ∙ found)
        ∙ (two (is_ready outcome a) a.noted e).1

-- a flush of a number, and one of a group
of_number : (number : ℕ) (past : List Record) (p : Reply) → (flush_passes (λ g n. n == number) p && not (has_finished (number_in p) past)) ≡ (is_flush number p && not (has_finished number past))
of_number number past (Inserted inserted) = refl
of_number number past (Silenced silenced) = refl
of_number number past NothingDue = refl
of_number number past (Quiet group removed) = refl
of_number number past (Flush group opened) =
    let n = opened.number in
    elim (n == number) as (λ b. (n == number) ≡ b → (b && not (has_finished n past)) ≡ (b && not (has_finished number past))) [
      | true ↦ λ e. ap (λ m. not (has_finished m past)) (eqb-true n number e)
      | false ↦ λ e. refl
    ] refl
of_number number past (Finished finished) = refl
of_number number past (Maintained maintained) = refl
of_number number past (EmptyGroupsRemoved removed) = refl
of_number number past (Forgotten forgotten) = refl
of_number number past (Loaded loaded) = refl
of_number number past Noted = refl

of_group : (name : GroupName) (p : Reply) → is_flush_of name p ≡ flush_passes (λ g n. same_name name g) p
of_group name (Inserted inserted) = refl
of_group name (Silenced silenced) = refl
of_group name NothingDue = refl
of_group name (Quiet group removed) = refl
of_group name (Flush group opened) = refl
of_group name (Finished finished) = refl
of_group name (Maintained maintained) = refl
of_group name (EmptyGroupsRemoved removed) = refl
of_group name (Forgotten forgotten) = refl
of_group name (Loaded loaded) = refl
of_group name Noted = refl

-- a flush that a finish of another number leaves open
of_other : (test : GroupName → ℕ → Bool) (m : ℕ) (past : List Record) (p : Reply)
    → (flush_passes test p && not ((m == number_in p) || has_finished (number_in p) past)) ≡ (flush_passes (λ g n. not (m == n) && test g n) p && not (has_finished (number_in p) past))
of_other test m past (Inserted inserted) = refl
of_other test m past (Silenced silenced) = refl
of_other test m past NothingDue = refl
of_other test m past (Quiet group removed) = refl
of_other test m past (Flush group opened) = by (test group opened.number) (m == opened.number) (has_finished opened.number past)
  where
    by : (a b c : Bool) → (a && not (b || c)) ≡ ((not b && a) && not c)
    by true true c = refl
    by true false c = refl
    by false true c = refl
    by false false c = refl
of_other test m past (Finished finished) = refl
of_other test m past (Maintained maintained) = refl
of_other test m past (EmptyGroupsRemoved removed) = refl
of_other test m past (Forgotten forgotten) = refl
of_other test m past (Loaded loaded) = refl
of_other test m past Noted = refl

-- ---- what the open flushes say

module _ (config : Config) (s : State) (past : List Record) (n : Counts config s past) where
  -- the flush of a number is open exactly if it has begun and isn't finished
  pub open-number : (number : ℕ) → (has_begun number past && not (has_finished number past)) ≡ list_any (λ f. f.number == number) s.flushes
  open-number number =
      sym (any-and (λ r. is_flush number r.reply) (not (has_finished number past)) past)
      ∙ sym (any-alike (is_open_in (λ g m. m == number) past) (λ r. is_flush number r.reply && not (has_finished number past)) (λ r. of_number number past r.reply) past)
      ∙ n.opens (λ g m. m == number)

  pub open-group : (name : GroupName) → has_open name past ≡ is_flushing s.flushes name
  open-group name =
      any-alike (λ r. is_flush_of name r.reply && not (has_finished (number_in r.reply) past)) (is_open_in (λ g m. same_name name g) past) (λ r. ap (λ b. b && not (has_finished (number_in r.reply) past)) (of_group name r.reply)) past
      ∙ n.opens (λ g m. same_name name g)

-- a group without alerts is one in which looking back finds none
empty-found : (config : Config) (s : State) (past : List Record) → Finds config s past → (name : GroupName) → is_empty (members_in s.groups name) ≡ is_empty (present_in config name past)
empty-found config s past k name = ap is_empty (members_of-in s.groups name) ∙ by (members_of s.groups name) (present_in config name past) refl refl
  where
    anyone : MemberState → Bool
    anyone m = true

    same : (labels : List Label) → list_any (λ m. has_labels labels m && true) (present_in config name past) ≡ passes (λ m. true) (member_with labels (members_of s.groups name))
    same labels = present-passes config name past labels (λ m. true) ∙ ap (passes (λ m. true)) (sym (k.found name labels))

    by : (xs ys : List MemberState) → members_of s.groups name ≡ xs → present_in config name past ≡ ys → is_empty xs ≡ is_empty ys
    by [] [] e f = refl
    by [] (y ∷ ys) e f =
        absurd (false≢true (sym (ap (λ ms. passes (λ m. true) (member_with y.alert.labels ms)) e) ∙ sym (same y.alert.labels) ∙ ap (λ ms. list_any (λ m. has_labels y.alert.labels m && true) ms) f
        ∙ ap (λ b. (b && true) || list_any (λ m. has_labels y.alert.labels m && true) ys) (same_label_set_equiv.refl y.alert.labels)))
    by (x ∷ xs) [] e f =
        absurd (false≢true (sym (ap (λ ms. list_any (λ m. has_labels x.alert.labels m && true) ms) f) ∙ same x.alert.labels ∙ ap (λ ms. passes (λ m. true) (member_with x.alert.labels ms)) e
        ∙ ap (λ b. passes (λ m. true) (cond b (Some x) (member_with x.alert.labels xs))) (same_label_set_equiv.refl x.alert.labels)))
    by (x ∷ xs) (y ∷ ys) e f = refl

-- ---- one record more

module _ (config : Config) (id : ℕ) (s : State) (past : List Record) (pass : ℕ) (steady : IsSteady s) (k : Finds config s past) (n : Counts config s past) where
  -- the last begin of a group, one record later
  abbrev Begins : Call → Reply → Type 0
  Begins c p = (name : GroupName) → last_begin_after name s (after_call config s c).clock (begun_at config name past) p ≡ begun_at config name (entry pass c p ∷ past)

  -- what holds of a record, and what is counted after it
  abbrev Holds : Call → State → Reply → Type 0
  Holds c new p = IsOneFlushAtATime (entry pass c p) past × Counts config new (entry pass c p ∷ past)

  keeps-after : (c : Call) (p : Reply) → reply config id s c ≡ Some p → Begins c p → RespectsIntervals config (after_call config s c).groups (λ name. begun_at config name (entry pass c p ∷ past))
  keeps-after c p e same = subst (RespectsIntervals config (after_call config s c).groups) (λ j name. same name j) (keeps-call config id s (λ name. begun_at config name past) n.keeps c p e)

  -- the group that is taken was begun an interval ago, if it was
  later-taken : (t : ℕ) (g : GroupState) → taken s t ≡ Some g → IsLater (route_of config g.name).group_interval t (begun_at config g.name past)
  later-taken t g e =
      let test = may_begin s t in
      let P : GroupState → Type 0 = λ h. test h ≡ true in
      let Q : GroupState → Type 0 = λ h. IsBegunAt config h (begun_at config h.name past) in
      let R : GroupState → Type 0 = λ h. IsLater (route_of config h.name).group_interval t (begun_at config h.name past) in
      all-least R due_cmp g (filter test s.groups) (all-both P Q R (λ h passes is. due h (begun_at config h.name past) passes is) (filter test s.groups) (all-passes test s.groups) (all-filter Q test s.groups n.keeps.due)) e
    where
      due : (h : GroupState) (o : Option ℕ) → may_begin s t h ≡ true → IsBegunAt config h o → IsLater (route_of config h.name).group_interval t o
      due h None passes is = tt
      due h (Some last) passes is =
          let come : h.due ≤ t = leb-true h.due t (and_parts (nat_le h.due t) (not (is_flushing s.flushes h.name)) passes).0 in
          subst (λ d. d ≤ t) is.1 come

  none-begun : (c : Call) (p : Reply) → ((number : ℕ) → is_flush number p ≡ false) → ((number : ℕ) → is_finish number c ≡ false) → ((number i : ℕ) → is_note number i c ≡ false) → ((name : GroupName) → takes name p ≡ false) → IsOneFlushAtATime (entry pass c p) past
  none-begun c p a b unnoted d =
      record {
        first_begin = λ number e. absurd (false≢true (sym (a number) ∙ e));
        begun_before = λ number e. absurd (false≢true (sym (b number) ∙ e));
        first_finish = λ number e. absurd (false≢true (sym (b number) ∙ e));
        note_open = λ number i e. absurd (false≢true (sym (unnoted number i) ∙ e));
        note_once = λ number i e. absurd (false≢true (sym (unnoted number i) ∙ e));
        none_open = λ name e. absurd (false≢true (sym (d name) ∙ e));
      }

  insert : (now : ℕ) (a : AlertData) → Holds (Insert now a) (after_call config s (Insert now a)) (Inserted (inserted config s a))
  insert now a = (
    none-begun (Insert now a) (Inserted (inserted config s a)) (λ m. refl) (λ m. refl) (λ m i. refl) (λ name. refl),
    record { opens = n.opens; begun = n.begun; ended = n.ended; keeps = keeps-after (Insert now a) (Inserted (inserted config s a)) refl (λ name. refl) },
  )

  silence : (now number : ℕ) (matchers : List MatcherParts) (start end : ℕ) → Holds (Silence now number matchers start end) (after_call config s (Silence now number matchers start end)) (Silenced (silenced s (silence_of number matchers start end)))
  silence now number matchers start end =
      let c = call_is.Silence now number matchers start end in
      let p = reply_is.Silenced (silenced s (silence_of number matchers start end)) in (
        none-begun c p (λ m. refl) (λ m. refl) (λ m i. refl) (λ name. refl),
        record { opens = n.opens; begun = n.begun; ended = n.ended; keeps = keeps-after c p refl (λ name. refl) },
      )

  maintain : (now : ℕ) → Holds (Maintain now) (after_call config s (Maintain now)) (Maintained (maintained s (time s now)))
  maintain now =
      let p = reply_is.Maintained (maintained s (time s now)) in (
        none-begun (Maintain now) p (λ m. refl) (λ m. refl) (λ m i. refl) (λ name. refl),
        record {
          opens = n.opens;
          begun = n.begun;
          ended = n.ended;
          keeps = keeps-after (Maintain now) p refl (λ name. ap (λ b. if b then None else begun_at config name past) (empty-found config s past k name));
        },
      )

  remove_empty_groups : (now : ℕ) → Holds (RemoveEmptyGroups now) (after_call config s (RemoveEmptyGroups now)) (EmptyGroupsRemoved (empty_groups_removed s))
  remove_empty_groups now =
      let p = reply_is.EmptyGroupsRemoved (empty_groups_removed s) in (
        none-begun (RemoveEmptyGroups now) p (λ m. refl) (λ m. refl) (λ m i. refl) (λ name. refl),
        record {
          opens = n.opens;
          begun = n.begun;
          ended = n.ended;
          keeps = keeps-after (RemoveEmptyGroups now) p refl (λ name. ap (λ b. if b then None else begun_at config name past) (empty-found config s past k name));
        },
      )

  forget : (now : ℕ) → Holds (Forget now) (after_call config s (Forget now)) (Forgotten (forgotten s (time s now)))
  forget now =
      let p = reply_is.Forgotten (forgotten s (time s now)) in (
        none-begun (Forget now) p (λ m. refl) (λ m. refl) (λ m i. refl) (λ name. refl),
        record { opens = n.opens; begun = n.begun; ended = n.ended; keeps = keeps-after (Forget now) p refl (λ name. refl) },
      )

  load : (now : ℕ) (row : RowView) → may_load config (time s now) row ≡ true → Holds (Load now row) (after_call config s (Load now row)) (Loaded (loaded s.rows (time s now) row))
  load now row may =
      let p = reply_is.Loaded (loaded s.rows (time s now) row) in (
        none-begun (Load now row) p (λ m. refl) (λ m. refl) (λ m i. refl) (λ name. refl),
        record { opens = n.opens; begun = n.begun; ended = n.ended; keeps = keeps-after (Load now row) p (ap (λ b. cond b (Some p) None) may) (λ name. refl) },
      )

  -- a begin that takes a group
  taking-one : (now : ℕ) (g : GroupState) (p : Reply) → taken s (time s now) ≡ Some g → ((number : ℕ) → is_flush number p ≡ true → has_begun number past ≡ false) → ((name : GroupName) → takes name p ≡ same_name name g.name) → IsOneFlushAtATime (entry pass (Begin now) p) past
  taking-one now g p e first is =
      record {
        first_begin = first;
        begun_before = λ number h. absurd (false≢true h);
        first_finish = λ number h. absurd (false≢true h);
        note_open = λ number i h. absurd (false≢true h);
        note_once = λ number i h. absurd (false≢true h);
        none_open = λ name h.
            let own : name ≡ g.name = same_name-is name g.name (sym (is name) ∙ h) in
            open-group config s past n name ∙ ap (is_flushing s.flushes) own ∙ any-failing (λ f. same_name g.name f.group) s.flushes (taken-is s (time s now) g steady.groups e).free;
      }

  -- the last begin of a group, after a begin
  begins-notifying : (now : ℕ) (g : GroupState) (notified : List (ℕ × Integration)) (name : GroupName)
      → last_begin_after name s (after_notifying config s (time s now) g notified).clock (begun_at config name past) (reply_notifying config id s (time s now) g notified) ≡ begun_at config name (entry pass (Begin now) (reply_notifying config id s (time s now) g notified) ∷ past)
  begins-notifying now g [] name =
      ap (λ t. cond (same_name name g.name) (Some t) (begun_at config name past)) (clock-step config s past k now (entry pass (Begin now) (reply_notifying config id s (time s now) g [])) refl)
      ∙ ap (λ b. cond b (Some (time_at (entry pass (Begin now) (reply_notifying config id s (time s now) g []) ∷ past))) (begun_at config name past)) (sym (or-false (same_name name g.name)))
  begins-notifying now g (i ∷ is) name =
      ap (λ t. cond (same_name name g.name) (Some t) (begun_at config name past)) (clock-step config s past k now (entry pass (Begin now) (reply_notifying config id s (time s now) g (i ∷ is))) refl)

  begins-taking : (now : ℕ) (o : Option GroupState) (name : GroupName)
      → last_begin_after name s (after_taking config s (time s now) o).clock (begun_at config name past) (reply_taking config id s (time s now) o) ≡ begun_at config name (entry pass (Begin now) (reply_taking config id s (time s now) o) ∷ past)
  begins-taking now None name = refl
  begins-taking now (Some g) name = begins-notifying now g (notified_of config s (time s now) g) name

  notifying : (now : ℕ) (g : GroupState) (notified : List (ℕ × Integration)) → taken s (time s now) ≡ Some g
      → RespectsIntervals config (after_notifying config s (time s now) g notified).groups (λ name. begun_at config name (entry pass (Begin now) (reply_notifying config id s (time s now) g notified) ∷ past))
      → Holds (Begin now) (after_notifying config s (time s now) g notified) (reply_notifying config id s (time s now) g notified)
  notifying now g [] e keeps = (
    taking-one now g (reply_notifying config id s (time s now) g []) e (λ number h. absurd (false≢true h)) (λ name. or-false (same_name name g.name)),
    record { opens = n.opens; begun = n.begun; ended = n.ended; keeps = keeps },
  )
  notifying now g (i ∷ is) e keeps = (
    taking-one now g (reply_notifying config id s (time s now) g (i ∷ is)) e (λ number h. let own : s.next_number ≡ number = eqb-true s.next_number number h in n.begun number (omega (arith, own))) (λ name. refl),
    record {
      opens = λ test.
          ap (λ b. (test g.name s.next_number && not b) || list_any (is_open_in test past) past) (n.ended s.next_number (omega arith))
          ∙ ap (λ b. (test g.name s.next_number && true) || b) (n.opens test)
          ∙ turn (test g.name s.next_number) (list_any (λ f. test f.group f.number) s.flushes)
          ∙ sym (list_any-append (λ (f : FlushState). test f.group f.number) s.flushes (flush_notifying config s (time s now) g (i ∷ is) ∷ []));
      begun = λ m h. ap (λ b. b || has_begun m past) (ne_eqb s.next_number m (λ own. omega (arith, h, own))) ∙ n.begun m (omega (arith, h));
      ended = λ m h. n.ended m (omega (arith, h));
      keeps = keeps;
    },
  )
    where
      turn : (a b : Bool) → ((a && true) || b) ≡ (b || (a || false))
      turn true true = refl
      turn true false = refl
      turn false true = refl
      turn false false = refl

  -- the last begins after a begin are kept
  keeps-begin : (now : ℕ) (o : Option GroupState) → taken s (time s now) ≡ o
      → RespectsIntervals config (after_taking config s (time s now) o).groups (λ name. begun_at config name (entry pass (Begin now) (reply_taking config id s (time s now) o) ∷ past))
  keeps-begin now o e =
      subst (λ o. RespectsIntervals config (after_taking config s (time s now) o).groups (λ name. begun_at config name (entry pass (Begin now) (reply_taking config id s (time s now) o) ∷ past))) e
      (keeps-after (Begin now) (begin_is.begun config id s (time s now)) refl (begins-taking now (taken s (time s now))))

  begin : (now : ℕ) (g : GroupState) → taken s (time s now) ≡ Some g → (notified : List (ℕ × Integration)) → notified_of config s (time s now) g ≡ notified
      → Holds (Begin now) (after_notifying config s (time s now) g notified) (reply_notifying config id s (time s now) g notified)
  begin now g is notified are =
      notifying now g notified is
      (subst (λ notified. RespectsIntervals config (after_notifying config s (time s now) g notified).groups (λ name. begun_at config name (entry pass (Begin now) (reply_notifying config id s (time s now) g notified) ∷ past))) are
      (keeps-begin now (Some g) is))

  finish : (now m : ℕ) (outcomes : List (ℕ × Outcome)) (f : FlushState) → flush_numbered s.flushes m ≡ Some f → Holds (Finish now m outcomes) (after_finish_of config s (time s now) outcomes (Some f)) (Finished (finished s outcomes f))
  finish now m outcomes f is =
      let p = reply_is.Finished (finished s outcomes f) in
      let c = call_is.Finish now m outcomes in
      let same : f.number ≡ m = eqb-true f.number m (find-passes (λ (h : FlushState). h.number == m) f s.flushes is) in
      let held = all-find (IsOpen s.next_number s.groups) (λ h. h.number == m) f s.flushes steady.opened is in
      let is_open : (has_begun m past && not (has_finished m past)) ≡ true = open-number config s past n m ∙ any-find (λ (h : FlushState). h.number == m) s.flushes ∙ ap (λ o. is_some o) is in
      let returned : option_map (λ h. reply_is.Finished (finished s outcomes h)) (flush_numbered s.flushes m) ≡ Some p = ap (option_map (λ h. reply_is.Finished (finished s outcomes h))) is in (
        record {
          first_begin = λ number h. absurd (false≢true h);
          begun_before = λ number h. subst (λ x. has_begun x past ≡ true) (eqb-true m number h) (two (has_begun m past) (has_finished m past) is_open).0;
          first_finish = λ number h. subst (λ x. has_finished x past ≡ false) (eqb-true m number h) (two (has_begun m past) (has_finished m past) is_open).1;
          note_open = λ number i h. absurd (false≢true h);
          note_once = λ number i h. absurd (false≢true h);
          none_open = λ name h. absurd (false≢true h);
        },
        record {
          opens = λ test.
              any-alike (is_open_in test (entry pass c p ∷ past)) (is_open_in (λ g x. not (m == x) && test g x) past) (λ q. of_other test m past q.reply) past
              ∙ n.opens (λ g x. not (m == x) && test g x)
              ∙ any-alike (λ h. not (m == h.number) && test h.group h.number) (λ h. not (h.number == f.number) && test h.group h.number)
              (λ h. ap (λ b. not b && test h.group h.number) (nat_eq_equiv.symm m h.number ∙ ap (λ x. h.number == x) (sym same))) s.flushes
              ∙ sym (any-filter (λ (h : FlushState). test h.group h.number) (λ h. not (h.number == f.number)) s.flushes);
          begun = n.begun;
          ended = λ x h. ap (λ b. b || has_finished x past) (ne_eqb m x (λ own. omega (arith, h, own, same, held.number))) ∙ n.ended x h;
          keeps =
              subst (λ o. RespectsIntervals config (after_finish_of config s (time s now) outcomes o).groups (λ name. begun_at config name (entry pass c p ∷ past))) is
              (keeps-after c p returned (λ name. refl));
        },
      )

  note : (now m i : ℕ) (outcome : Option Outcome) (f : FlushState) → flush_numbered s.flushes m ≡ Some f → may_note i outcome f ≡ true → Holds (Note now m i outcome) (after_note config s (time s now) i f) Noted
  note now m i outcome f is may =
      let c = call_is.Note now m i outcome in
      let returned : noted i outcome (flush_numbered s.flushes m) ≡ Some reply_is.Noted = ap (noted i outcome) is ∙ ap (λ b. if b then Some reply_is.Noted else None) may in
      let same : f.number ≡ m = eqb-true f.number m (find-passes (λ (h : FlushState). h.number == m) f s.flushes is) in
      let is_open : (has_begun m past && not (has_finished m past)) ≡ true = open-number config s past n m ∙ any-find (λ (h : FlushState). h.number == m) s.flushes ∙ ap (λ o. is_some o) is in
      let o = all-find (IsOpened config s.inserts past) (λ h. h.number == m) f s.flushes k.opened is in
      let unnoted : was_noted m i past ≡ false = ap (λ x. was_noted x i past) (sym same) ∙ unnoted_past config s.inserts i outcome past f o may in (
        record {
          first_begin = λ number h. absurd (false≢true h);
          begun_before = λ number h. absurd (false≢true h);
          first_finish = λ number h. absurd (false≢true h);
          note_open = λ number j h.
              subst (λ x. (has_begun x past ≡ true) × (has_finished x past ≡ false)) (eqb-true m number (and_parts (m == number) (i == j) h).0) (two (has_begun m past) (has_finished m past) is_open);
          note_once = λ number j h.
              let are = and_parts (m == number) (i == j) h in
              subst (λ x. was_noted number x past ≡ false) (eqb-true i j are.1) (subst (λ x. was_noted x i past ≡ false) (eqb-true m number are.0) unnoted);
          none_open = λ name h. absurd (false≢true h);
        },
        record {
          opens = λ test.
              n.opens test
              ∙ any-alike (λ h. test h.group h.number) (λ h. test (cond (h.number == f.number) (with_note i h) h).group (cond (h.number == f.number) (with_note i h) h).number) (λ h. kept test h (h.number == f.number)) s.flushes
              ∙ sym (any-map (λ (h : FlushState). test h.group h.number) (λ h. cond (h.number == f.number) (with_note i h) h) s.flushes);
          begun = n.begun;
          ended = n.ended;
          keeps = n.keeps;
        },
      )
    where
      kept : (test : GroupName → ℕ → Bool) (h : FlushState) (b : Bool) → test h.group h.number ≡ test (cond b (with_note i h) h).group (cond b (with_note i h) h).number
      kept test h true = refl
      kept test h false = refl

  -- a begin that takes a group comes at least an interval after the last
  interval-over : (now : ℕ) (g : GroupState) (p : Reply) → taken s (time s now) ≡ Some g → ((name : GroupName) → takes name p ≡ same_name name g.name) → IsIntervalOver config (entry pass (Begin now) p) past
  interval-over now g p e is name h =
      let own : name ≡ g.name = same_name-is name g.name (sym (is name) ∙ h) in
      subst (λ t. IsLater (route_of config name).group_interval t (begun_at config name past)) (clock-step config s past k now (entry pass (Begin now) p) refl)
      (subst (λ m. IsLater (route_of config m).group_interval (time s now) (begun_at config m past)) (sym own) (later-taken (time s now) g e))

  interval-notifying : (now : ℕ) (g : GroupState) (notified : List (ℕ × Integration)) → taken s (time s now) ≡ Some g → IsIntervalOver config (entry pass (Begin now) (reply_notifying config id s (time s now) g notified)) past
  interval-notifying now g [] e = interval-over now g (reply_notifying config id s (time s now) g []) e (λ name. or-false (same_name name g.name))
  interval-notifying now g (i ∷ is) e = interval-over now g (reply_notifying config id s (time s now) g (i ∷ is)) e (λ name. refl)

  interval-each : HoldsOfEach config id s (λ c new p. IsIntervalOver config (entry pass c p) past)
  interval-each =
      record {
        insert = λ now a name e. absurd (false≢true e);
        silence = λ now number matchers start end name e. absurd (false≢true e);
        nothing = λ now none name e. absurd (false≢true e);
        begin = λ now g is notified are. interval-notifying now g notified is;
        finish = λ now number outcomes f is name e. absurd (false≢true e);
        maintain = λ now name e. absurd (false≢true e);
        remove_empty_groups = λ now name e. absurd (false≢true e);
        forget = λ now name e. absurd (false≢true e);
        load = λ now row may name e. absurd (false≢true e);
        note = λ now number i outcome f is may name e. absurd (false≢true e);
      }

  each : HoldsOfEach config id s Holds
  each =
      record {
        insert = insert;
        silence = silence;
        nothing = λ now none. (
          none-begun (Begin now) NothingDue (λ m. refl) (λ m. refl) (λ m i. refl) (λ name. refl),
          record { opens = n.opens; begun = n.begun; ended = n.ended; keeps = keeps-begin now None none },
        );
        begin = begin;
        finish = finish;
        maintain = maintain;
        remove_empty_groups = remove_empty_groups;
        forget = forget;
        load = load;
        note = note;
      }

-- ---- each legal past

-- what holds of a record after a legal past, and what is counted after it
one_record : (config : Config) (id : ℕ) (r : Record) (past : List Record) → IsLegalPast config id past → reply config id (state_after config past) r.call ≡ Some r.reply → Counts config (state_after config past) past
    → IsOneFlushAtATime r past × Counts config (after config (state_after config past) r) (r ∷ past)
one_record config id r past legal returned n =
    let s = state_after config past in
    let holds = each config id s past r.pass (steady_past config past) (finds_past config id past legal) n in
    each_call config id s (λ c new p. IsOneFlushAtATime (entry r.pass c p) past × Counts config new (entry r.pass c p ∷ past)) holds r.call r.reply returned

counts_past : (config : Config) (id : ℕ) (past : List Record) → IsLegalPast config id past → Counts config (state_after config past) past
counts_past config id [] legal =
    record { opens = λ test. refl; begun = λ m h. refl; ended = λ m h. refl; keeps = opening_keeps config }
counts_past config id (r ∷ past) legal = (one_record config id r past legal.1 legal.0 (counts_past config id past legal.1)).1

pub flushes_end_once : EveryLegalHistory FlushesEndOnce
flushes_end_once config id history legal =
    at_each config id IsOneFlushAtATime (λ r past before returned. (one_record config id r past before returned (counts_past config id past before)).0)
    (past_of history) (legal_past config id history legal)

pub intervals_are_over : (config : Config) (id : ℕ) (past : List Record) → IsLegalPast config id past → AtEach (IsIntervalOver config) past
intervals_are_over config id =
    at_each config id (IsIntervalOver config)
    (λ r past before returned.
    let s = state_after config past in
    let over = interval-each config id s past r.pass (steady_past config past) (finds_past config id past before) (counts_past config id past before) in
    each_call config id s (λ c new p. IsIntervalOver config (entry r.pass c p) past) over r.call r.reply returned)
