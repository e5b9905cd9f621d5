-- The open flushes of a state are those of its past, and its groups are due as their last begins say, after each legal past.
use Rattle.std.proofs.Common.{◌≡◌, ℕ, Bool, true, false, cond, not, ◌&&◌, ◌||◌, Option, Some, None, List, [], ◌∷◌, refl, sym, ap, ◌∙◌, subst, arith, if◌then◌else◌}
use Rattle.std.specs.Prelude.{◌==◌}
use Rattle.std.specs.List.{list_any}
use Rattle.std.specs.Option.{option_map}
use Rattle.std.proofs.Math.Bool.{or-false}
use Rattle.std.proofs.lemmas.Bool.{false≢true, eqb-true, ne_eqb}
use Rattle.std.proofs.lemmas.Cmp.{nat_eq_equiv}
use Rattle.std.proofs.lemmas.List.Folds.{list_any-append}
use Rattle.am_alerts.specs.LabelOrder.{same_label_set_equiv}
use Rattle.am_alerts.specs.declared.labels.Label.{Label}
use Rattle.am_mute.specs.Silence.{silence_of}
use Rattle.am_nflog.specs.Members.{is_empty}
use Rattle.am_retry.specs.declared.outcome.Outcome.{Outcome}
use Rattle.am_model.specs.declared.config.Config.{Config}
use Rattle.am_model.specs.declared.config.Integration.{Integration}
use Rattle.am_model.specs.declared.group.GroupName.{GroupName}
use Rattle.am_model.specs.declared.record.Call.{Call}
use Rattle.am_model.specs.declared.record.Call.TheVariants.{Insert, Silence, Begin, Finish, Maintain, RemoveEmptyGroups, Forget, Load, Note}
use Rattle.am_model.specs.declared.record.Call.TheVariants as call_is
use Rattle.am_model.specs.declared.record.Record.{Record}
use Rattle.am_model.specs.declared.record.Reply.{Reply}
use Rattle.am_model.specs.declared.record.Reply.TheVariants as reply_is
use Rattle.am_model.specs.declared.record.Reply.TheVariants.{Inserted, Silenced, NothingDue, Quiet, Flush, Finished, Maintained, EmptyGroupsRemoved, Forgotten, Loaded, Noted}
use Rattle.am_model.specs.Begin.{taken, notified_of, after_notifying, after_taking, reply_notifying, reply_taking, flush_notifying}
use Rattle.am_model.specs.Begin as begin_is
use Rattle.am_model.specs.Finish.{finished, after_finish, after_finish_of}
use Rattle.am_model.specs.Forget.{forgotten}
use Rattle.am_model.specs.Insert.{inserted}
use Rattle.am_model.specs.Laws.{last_begin_after}
use Rattle.am_model.specs.Load.{loaded}
use Rattle.am_model.specs.Maintenance.{silenced, maintained, empty_groups_removed}
use Rattle.am_model.specs.Note.{with_note, may_note, after_note}
use Rattle.am_model.specs.Records.{entry}
use Rattle.am_model.specs.Replay.{reply, after_call}
use Rattle.am_model.specs.State.{MemberState, GroupState, FlushState, State, time, same_name, members_in, flush_numbered}
use Rattle.am_model.specs.look_back.Entry.{present_in}
use Rattle.am_model.specs.look_back.Laws.{member_with, number_in, begun_at}
use Rattle.am_model.specs.look_back.Past.{time_at, has_begun, has_finished}
use Rattle.am_model.proofs.legal.Begins.{RespectsIntervals, keeps-call, opening_keeps}
use Rattle.am_model.proofs.legal.ConsistentGroups.{members_of, members_of-in}
use Rattle.am_model.proofs.legal.ConsistentState.{IsOpen, IsSteady}
use Rattle.am_model.proofs.legal.EachCall.{HoldsOfEach, each_call}
use Rattle.am_model.proofs.lists.Distinct.{all-find, find-passes}
use Rattle.am_model.proofs.lists.Sets.{any-filter, any-alike, any-map, passes}
use Rattle.am_model.proofs.looking_back.Pasts.{state_after, IsLegalPast}
use Rattle.am_model.proofs.looking_back.PastWords.{has_labels}
use Rattle.am_model.proofs.looking_back.alerts.AlertSets.{present-passes}
use Rattle.am_model.proofs.looking_back.alerts.FoundAlerts.{steady_past, finds_past}
use Rattle.am_model.proofs.looking_back.alerts.FoundSteps.{clock-step}
use Rattle.am_model.proofs.looking_back.flushes.FlushesOnce.{flush_passes, is_open_in, Counts}
use Rattle.am_model.proofs.looking_back.flushes.Opened.{Finds}

-- a group without alerts is one in which looking back finds none
pub empty-found : (config : Config) (s : State) (past : List Record) → Finds config s past → (name : GroupName) → is_empty (members_in s.groups name) ≡ is_empty (present_in config name past)
empty-found config s past k name = ap is_empty (members_of-in s.groups name) ∙ by (members_of s.groups name) (present_in config name past) refl refl
  where
    anyone : MemberState → Bool
    anyone m = true

    same : (labels : List Label) → list_any (λ m. has_labels labels m && true) (present_in config name past) ≡ passes (λ m. true) (member_with labels (members_of s.groups name))
    same labels = present-passes config name past labels (λ m. true) ∙ ap (passes (λ m. true)) (sym (k.found name labels))

    by : (xs ys : List MemberState) → members_of s.groups name ≡ xs → present_in config name past ≡ ys → is_empty xs ≡ is_empty ys
    by [] [] e f = refl
    by [] (y ∷ ys) e f =
        absurd (false≢true (sym (ap (λ ms. passes (λ m. true) (member_with y.alert.labels ms)) e) ∙ sym (same y.alert.labels) ∙ ap (λ ms. list_any (λ m. has_labels y.alert.labels m && true) ms) f
        ∙ ap (λ b. (b && true) || list_any (λ m. has_labels y.alert.labels m && true) ys) (same_label_set_equiv.refl y.alert.labels)))
    by (x ∷ xs) [] e f =
        absurd (false≢true (sym (ap (λ ms. list_any (λ m. has_labels x.alert.labels m && true) ms) f) ∙ same x.alert.labels ∙ ap (λ ms. passes (λ m. true) (member_with x.alert.labels ms)) e
        ∙ ap (λ b. passes (λ m. true) (cond b (Some x) (member_with x.alert.labels xs))) (same_label_set_equiv.refl x.alert.labels)))
    by (x ∷ xs) (y ∷ ys) e f = refl

-- a flush that a finish of another number leaves open
of_other : (test : GroupName → ℕ → Bool) (m : ℕ) (past : List Record) (p : Reply)
    → (flush_passes test p && not ((m == number_in p) || has_finished (number_in p) past)) ≡ (flush_passes (λ g n. not (m == n) && test g n) p && not (has_finished (number_in p) past))
of_other test m past (Inserted inserted) = refl
of_other test m past (Silenced silenced) = refl
of_other test m past NothingDue = refl
of_other test m past (Quiet group removed) = refl
of_other test m past (Flush group opened) = by (test group opened.number) (m == opened.number) (has_finished opened.number past)
  where
    by : (a b c : Bool) → (a && not (b || c)) ≡ ((not b && a) && not c)
    by true true c = refl
    by true false c = refl
    by false true c = refl
    by false false c = refl
of_other test m past (Finished finished) = refl
of_other test m past (Maintained maintained) = refl
of_other test m past (EmptyGroupsRemoved removed) = refl
of_other test m past (Forgotten forgotten) = refl
of_other test m past (Loaded loaded) = refl
of_other test m past Noted = refl

-- ---- one record more

module _ (config : Config) (id : ℕ) (s : State) (past : List Record) (pass : ℕ) (steady : IsSteady s) (k : Finds config s past) (n : Counts config s past) where
  -- the last begin of a group, one record later
  abbrev Begins : Call → Reply → Type 0
  Begins c p = (name : GroupName) → last_begin_after name s (after_call config s c).clock (begun_at config name past) p ≡ begun_at config name (entry pass c p ∷ past)

  -- what is counted after a record
  abbrev Holds : Call → State → Reply → Type 0
  Holds c new p = Counts config new (entry pass c p ∷ past)

  keeps-after : (c : Call) (p : Reply) → reply config id s c ≡ Some p → Begins c p → RespectsIntervals config (after_call config s c).groups (λ name. begun_at config name (entry pass c p ∷ past))
  keeps-after c p e same = subst (RespectsIntervals config (after_call config s c).groups) (λ j name. same name j) (keeps-call config id s (λ name. begun_at config name past) n.keeps c p e)

  -- the last begin of a group, after a begin
  begins-notifying : (now : ℕ) (g : GroupState) (notified : List (ℕ × Integration)) (name : GroupName)
      → last_begin_after name s (after_notifying config s (time s now) g notified).clock (begun_at config name past) (reply_notifying config id s (time s now) g notified) ≡ begun_at config name (entry pass (Begin now) (reply_notifying config id s (time s now) g notified) ∷ past)
  begins-notifying now g [] name =
      ap (λ t. cond (same_name name g.name) (Some t) (begun_at config name past)) (clock-step config s past k now (entry pass (Begin now) (reply_notifying config id s (time s now) g [])) refl)
      ∙ ap (λ b. cond b (Some (time_at (entry pass (Begin now) (reply_notifying config id s (time s now) g []) ∷ past))) (begun_at config name past)) (sym (or-false (same_name name g.name)))
  begins-notifying now g (i ∷ is) name =
      ap (λ t. cond (same_name name g.name) (Some t) (begun_at config name past)) (clock-step config s past k now (entry pass (Begin now) (reply_notifying config id s (time s now) g (i ∷ is))) refl)

  begins-taking : (now : ℕ) (o : Option GroupState) (name : GroupName)
      → last_begin_after name s (after_taking config s (time s now) o).clock (begun_at config name past) (reply_taking config id s (time s now) o) ≡ begun_at config name (entry pass (Begin now) (reply_taking config id s (time s now) o) ∷ past)
  begins-taking now None name = refl
  begins-taking now (Some g) name = begins-notifying now g (notified_of config s (time s now) g) name

  opened : (now : ℕ) (g : GroupState) (notified : List (ℕ × Integration))
      → RespectsIntervals config (after_notifying config s (time s now) g notified).groups (λ name. begun_at config name (entry pass (Begin now) (reply_notifying config id s (time s now) g notified) ∷ past))
      → Holds (Begin now) (after_notifying config s (time s now) g notified) (reply_notifying config id s (time s now) g notified)
  opened now g [] keeps = record { opens = n.opens; begun = n.begun; ended = n.ended; keeps = keeps }
  opened now g (i ∷ is) keeps =
      record {
        opens = λ test.
            ap (λ b. (test g.name s.next_number && not b) || list_any (is_open_in test past) past) (n.ended s.next_number (omega arith))
            ∙ ap (λ b. (test g.name s.next_number && true) || b) (n.opens test)
            ∙ turn (test g.name s.next_number) (list_any (λ f. test f.group f.number) s.flushes)
            ∙ sym (list_any-append (λ (f : FlushState). test f.group f.number) s.flushes (flush_notifying config s (time s now) g (i ∷ is) ∷ []));
        begun = λ m h. ap (λ b. b || has_begun m past) (ne_eqb s.next_number m (λ own. omega (arith, h, own))) ∙ n.begun m (omega (arith, h));
        ended = λ m h. n.ended m (omega (arith, h));
        keeps = keeps;
      }
    where
      turn : (a b : Bool) → ((a && true) || b) ≡ (b || (a || false))
      turn true true = refl
      turn true false = refl
      turn false true = refl
      turn false false = refl

  -- the last begins after a begin are kept
  keeps-begin : (now : ℕ) (o : Option GroupState) → taken s (time s now) ≡ o
      → RespectsIntervals config (after_taking config s (time s now) o).groups (λ name. begun_at config name (entry pass (Begin now) (reply_taking config id s (time s now) o) ∷ past))
  keeps-begin now o e =
      subst (λ o. RespectsIntervals config (after_taking config s (time s now) o).groups (λ name. begun_at config name (entry pass (Begin now) (reply_taking config id s (time s now) o) ∷ past))) e
      (keeps-after (Begin now) (begin_is.begun config id s (time s now)) refl (begins-taking now (taken s (time s now))))

  begin : (now : ℕ) (g : GroupState) → taken s (time s now) ≡ Some g → (notified : List (ℕ × Integration)) → notified_of config s (time s now) g ≡ notified
      → Holds (Begin now) (after_notifying config s (time s now) g notified) (reply_notifying config id s (time s now) g notified)
  begin now g is notified are =
      opened now g notified
      (subst (λ notified. RespectsIntervals config (after_notifying config s (time s now) g notified).groups (λ name. begun_at config name (entry pass (Begin now) (reply_notifying config id s (time s now) g notified) ∷ past))) are
      (keeps-begin now (Some g) is))

  finish : (now m : ℕ) (outcomes : List (ℕ × Outcome)) (f : FlushState) → flush_numbered s.flushes m ≡ Some f → Holds (Finish now m outcomes) (after_finish config s (time s now) outcomes f) (Finished (finished s outcomes f))
  finish now m outcomes f is =
      let p = reply_is.Finished (finished s outcomes f) in
      let c = call_is.Finish now m outcomes in
      let same : f.number ≡ m = eqb-true f.number m (find-passes (λ (h : FlushState). h.number == m) f s.flushes is) in
      let held = all-find (IsOpen s.next_number s.groups) (λ h. h.number == m) f s.flushes steady.opened is in
      let returned : option_map (λ h. reply_is.Finished (finished s outcomes h)) (flush_numbered s.flushes m) ≡ Some p = ap (option_map (λ h. reply_is.Finished (finished s outcomes h))) is in
      record {
        opens = λ test.
            any-alike (is_open_in test (entry pass c p ∷ past)) (is_open_in (λ g x. not (m == x) && test g x) past) (λ q. of_other test m past q.reply) past
            ∙ n.opens (λ g x. not (m == x) && test g x)
            ∙ any-alike (λ h. not (m == h.number) && test h.group h.number) (λ h. not (h.number == f.number) && test h.group h.number)
            (λ h. ap (λ b. not b && test h.group h.number) (nat_eq_equiv.symm m h.number ∙ ap (λ x. h.number == x) (sym same))) s.flushes
            ∙ sym (any-filter (λ (h : FlushState). test h.group h.number) (λ h. not (h.number == f.number)) s.flushes);
        begun = n.begun;
        ended = λ x h. ap (λ b. b || has_finished x past) (ne_eqb m x (λ own. omega (arith, h, own, same, held.number))) ∙ n.ended x h;
        keeps =
            subst (λ o. RespectsIntervals config (after_finish_of config s (time s now) outcomes o).groups (λ name. begun_at config name (entry pass c p ∷ past))) is
            (keeps-after c p returned (λ name. refl));
      }

  note : (now m i : ℕ) (outcome : Option Outcome) (f : FlushState) → flush_numbered s.flushes m ≡ Some f → may_note i outcome f ≡ true → Holds (Note now m i outcome) (after_note config s (time s now) i f) Noted
  note now m i outcome f is may =
      record {
        opens = λ test.
            n.opens test
            ∙ any-alike (λ h. test h.group h.number) (λ h. test (cond (h.number == f.number) (with_note i h) h).group (cond (h.number == f.number) (with_note i h) h).number) (λ h. kept test h (h.number == f.number)) s.flushes
            ∙ sym (any-map (λ (h : FlushState). test h.group h.number) (λ h. cond (h.number == f.number) (with_note i h) h) s.flushes);
        begun = n.begun;
        ended = n.ended;
        keeps = n.keeps;
      }
    where
      kept : (test : GroupName → ℕ → Bool) (h : FlushState) (b : Bool) → test h.group h.number ≡ test (cond b (with_note i h) h).group (cond b (with_note i h) h).number
      kept test h true = refl
      kept test h false = refl

  plain : (c : Call) (p : Reply) → reply config id s c ≡ Some p → Begins c p
      → (RespectsIntervals config (after_call config s c).groups (λ name. begun_at config name (entry pass c p ∷ past)) → Holds c (after_call config s c) p) → Holds c (after_call config s c) p
  plain c p returned same with_keeps = with_keeps (keeps-after c p returned same)

  each : HoldsOfEach config id s Holds
  each =
      record {
        insert = λ now a. plain (Insert now a) (Inserted (inserted config s a)) refl (λ name. refl) (λ keeps. record { opens = n.opens; begun = n.begun; ended = n.ended; keeps = keeps });
        silence = λ now number matchers start end.
            plain (Silence now number matchers start end) (Silenced (silenced s (silence_of number matchers start end))) refl (λ name. refl)
            (λ keeps. record { opens = n.opens; begun = n.begun; ended = n.ended; keeps = keeps });
        nothing = λ now none. record { opens = n.opens; begun = n.begun; ended = n.ended; keeps = keeps-begin now None none };
        begin = begin;
        finish = finish;
        maintain = λ now.
            plain (Maintain now) (Maintained (maintained s (time s now))) refl (λ name. ap (λ b. if b then None else begun_at config name past) (empty-found config s past k name))
            (λ keeps. record { opens = n.opens; begun = n.begun; ended = n.ended; keeps = keeps });
        remove_empty_groups = λ now.
            plain (RemoveEmptyGroups now) (EmptyGroupsRemoved (empty_groups_removed s)) refl (λ name. ap (λ b. if b then None else begun_at config name past) (empty-found config s past k name))
            (λ keeps. record { opens = n.opens; begun = n.begun; ended = n.ended; keeps = keeps });
        forget = λ now. plain (Forget now) (Forgotten (forgotten s (time s now))) refl (λ name. refl) (λ keeps. record { opens = n.opens; begun = n.begun; ended = n.ended; keeps = keeps });
        load = λ now row may.
            let p = reply_is.Loaded (loaded s.rows (time s now) row) in
            plain (Load now row) p (ap (λ b. cond b (Some p) None) may) (λ name. refl) (λ keeps. record { opens = n.opens; begun = n.begun; ended = n.ended; keeps = keeps });
        note = note;
      }

-- ---- each legal past

pub counts_past : (config : Config) (id : ℕ) (past : List Record) → IsLegalPast config id past → Counts config (state_after config past) past
counts_past config id [] legal =
    record { opens = λ test. refl; begun = λ m h. refl; ended = λ m h. refl; keeps = opening_keeps config }
counts_past config id (r ∷ past) legal =
    let s = state_after config past in
    let holds = each config id s past r.pass (steady_past config past) (finds_past config id past legal.1) (counts_past config id past legal.1) in
    each_call config id s (λ c new p. Counts config new (entry r.pass c p ∷ past)) holds r.call r.reply legal.0
