-- What looking back finds in the log stays what a state has, call by call.
use Rattle.std.proofs.Common.{◌≡◌, ℕ, ◌+◌, ◌≤◌, Bool, true, false, cond, not, ◌&&◌, ◌||◌, Option, Some, None, List, [], ◌∷◌, ◌++◌, map, refl, sym, ap, ◌∙◌, subst, arith}
use Rattle.std.specs.Prelude.{find, fold, ◌==◌}
use Rattle.std.specs.Option.{option_or}
use Rattle.std.specs.Cmp.{IsEquivalence}
use Rattle.std.specs.List.{AllByRecursion, IsDistinct, list_any}
use Rattle.std.proofs.lemmas.Bool.{ne_eqb, eqb-true, and_right, and_parts, le-leb, leb-true}
use Rattle.std.proofs.lemmas.Cmp.{nat_eq_equiv}
use Rattle.am_alerts.specs.AlertData.{AlertData, has_come, is_resolved}
use Rattle.am_alerts.specs.declared.labels.Label.{Label}
use Rattle.am_mute.specs.Silence.{SilenceData, silence_of, is_over}
use Rattle.am_alerts.specs.declared.matcher.MatcherParts.{MatcherParts}
use Rattle.am_retry.specs.declared.outcome.Outcome.{Outcome}
use Rattle.am_model.specs.declared.config.Config.{Config}
use Rattle.am_model.specs.declared.config.Integration.{Integration}
use Rattle.am_model.specs.declared.group.GroupName.{GroupName}
use Rattle.am_model.specs.declared.record.Call.TheVariants as call
use Rattle.am_model.specs.declared.record.Record.{Record}
use Rattle.am_model.specs.declared.record.Reply.{Reply}
use Rattle.am_model.specs.declared.record.Reply.TheVariants as reply_is
use Rattle.am_model.specs.declared.views.RowView.{RowView}
use Rattle.am_model.specs.Begin.{is_entry_of, notice_for, deadline_of, begun_group, flush_notifying}
use Rattle.am_model.specs.Configured.{expiry_at}
use Rattle.am_model.specs.Notice.{NoticeData}
use Rattle.am_model.specs.look_back.Entry.{latest_first, known_in, silences_in, firing_in, resolved_in, row_of_begin, begins_group, notified_and_succeeded, logs, unless_expired, entry_in}
use Rattle.am_model.specs.Finish.{same_key, row_at, log_with, has_succeeded, logged_by, finished, after_finish}
use Rattle.am_model.specs.Forget.{is_grouped, is_idle, forgotten, after_forget}
use Rattle.am_model.specs.Load.{may_load, loaded, is_put, after_load}
use Rattle.am_model.specs.Records.{entry, flush_reply}
use Rattle.am_model.specs.Insert.{same_alert, same_member, inserted, after_insert}
use Rattle.am_model.specs.look_back.Laws.{member_with}
use Rattle.am_model.specs.Lists.{upsert, changed_where}
use Rattle.am_model.specs.Note.{with_note, after_note}
use Rattle.am_model.specs.look_back.Past.{time_at, is_flush, begin_of, was_noted, succeeded}
use Rattle.am_model.specs.State.{NotifiedState, FlushState, GroupState, State, time, is_named, same_name, flush_numbered}
use Rattle.am_model.specs.Maintenance.{same_silence, silenced, after_silence, has_expired, maintained, after_maintain, empty_groups_removed, after_removal}
use Rattle.am_model.proofs.legal.ConsistentBegin.{IsTaken}
use Rattle.am_model.proofs.lists.Distinct.{all-find, all-filter, all-map, all-push, all-weaker, all-both, find-passes}
use Rattle.am_model.proofs.legal.ConsistentState.{IsOpen, IsSteady}
use Rattle.am_model.proofs.looking_back.alerts.FoundSteps.{clock-step}
use Rattle.am_model.proofs.looking_back.flushes.Opened.{notices_at, notified_as, IsOpened, Finds, members-tidy}
use Rattle.am_model.proofs.looking_back.PastWords.{unless, find-put, find-without}
use Rattle.am_model.proofs.lists.Sets.{IsBlindTo, any-blind, any-filter, any-alike, any-and, any-put, any-map}
use Rattle.am_model.proofs.looking_back.alerts.AlertSets.{firing-found, resolved-found}
use Rattle.am_model.proofs.states.Alike.{same_alert_equiv, same_key_equiv, same_silence_equiv}

-- what an open flush says is what looking back finds at its begin
pub record IsFoundBy (config : Config) (past : List Record) (f : FlushState) : Type 0 where
  pub row : (t integration : ℕ) → row_of_begin config t integration (begin_of f.number past) ≡ Some (row_at config t f integration)
  pub group : (name : GroupName) → begins_group name (begin_of f.number past) ≡ same_name name f.group

-- what looking back finds in the log is what a state has, and so is what it finds of the known alerts and of the silences, except for those
-- that are resolved or over, which a state may have forgotten
pub record FindsRows (config : Config) (s : State) (past : List Record) : Type 0 where
  pub rows : (name : GroupName) (integration : ℕ) → find (is_entry_of name integration) s.rows ≡ entry_in config name integration past
  pub known : (t : ℕ) → s.clock ≤ t → (test : AlertData → Bool) → IsBlindTo (λ a. is_resolved a t) test → list_any test s.known ≡ list_any test (known_in past)
  pub silences : (t : ℕ) → s.clock ≤ t → (test : SilenceData → Bool) → IsBlindTo (is_over t) test → list_any test s.silences ≡ list_any test (silences_in past)
  pub found : AllByRecursion (IsFoundBy config past) s.flushes

-- a record that isn't the flush's begin
found-step : (config : Config) (r : Record) (past : List Record) (f : FlushState) → is_flush f.number r.reply ≡ false → IsFoundBy config past f → IsFoundBy config (r ∷ past) f
found-step config r past f other o =
    record {
      row = λ t i. ap (λ b. row_of_begin config t i (cond b (r ∷ past) (begin_of f.number past))) other ∙ o.row t i;
      group = λ name. ap (λ b. begins_group name (cond b (r ∷ past) (begin_of f.number past))) other ∙ o.group name;
    }

-- after the latest comes first
latest-any : {X : Type 0} (like : X → X → Bool) → IsEquivalence like → (x : X) (xs ys : List X) → IsDistinct like xs → (gone : X → Bool) → ((test : X → Bool) → IsBlindTo gone test → list_any test xs ≡ list_any test ys)
    → (test : X → Bool) → IsBlindTo gone test → list_any test (upsert like x xs) ≡ list_any test (latest_first like (Some x) ys)
latest-any like laws x xs ys h gone same test blind =
    any-put like laws test x xs h
    ∙ ap (λ b. test x || b) (any-filter test (λ y. not (like x y)) xs ∙ same (λ y. not (like x y) && test y) also ∙ sym (any-filter test (λ y. not (like x y)) ys))
  where
    also : IsBlindTo gone (λ y. not (like x y) && test y)
    also y e = and_right (not (like x y)) (test y) (blind y e)

-- what is resolved stays so, and what is over
pub still-resolved : (a : AlertData) (t u : ℕ) → t ≤ u → is_resolved a t ≡ true → is_resolved a u ≡ true
still-resolved a t u later e = by a.ends e
  where
    by : (o : Option ℕ) → has_come o t ≡ true → has_come o u ≡ true
    by None e = e
    by (Some end) e = let come = leb-true end t e in le-leb end u (omega (arith, come, later))

pub still-over : (x : SilenceData) (t u : ℕ) → t ≤ u → is_over t x ≡ true → is_over u x ≡ true
still-over x t u later e = let come = leb-true x.end t e in le-leb x.end u (omega (arith, come, later))

-- ---- what is logged

module _ (name : GroupName) (i : ℕ) where
  abbrev key : RowView
  key = record { group = name; integration = i; time = 0; expiry = 0; firing = []; resolved = [] }

  alone : (x y : RowView) → is_entry_of name i x ≡ true → is_entry_of name i y ≡ true → same_key x y ≡ true
  alone x y e f = sym (same_key_equiv.congr key x y e) ∙ f

  find-log : (x : RowView) (rows : List RowView) → find (is_entry_of name i) (log_with x rows) ≡ cond (is_entry_of name i x) (Some x) (find (is_entry_of name i) rows)
  find-log x rows =
      find-put (is_entry_of name i) same_key x
      (λ y e. same_key_equiv.symm key y ∙ sym (same_key_equiv.congr x y key e) ∙ same_key_equiv.symm x key)
      (alone x) rows

  -- the rows of a flush
  module _ (config : Config) (t : ℕ) (f : FlushState) where
    find-row : (n : ℕ) (rows : List RowView) → find (is_entry_of name i) (log_with (row_at config t f n) rows) ≡ cond (same_name name f.group && (i == n)) (Some (row_at config t f i)) (find (is_entry_of name i) rows)
    find-row n rows = find-log (row_at config t f n) rows ∙ by (i == n) refl
      where
        none : (b : Bool) (x y : Option RowView) (o : Option RowView) → cond (b && false) x o ≡ cond (b && false) y o
        none true x y o = refl
        none false x y o = refl

        by : (b : Bool) → (i == n) ≡ b → cond (same_name name f.group && b) (Some (row_at config t f n)) (find (is_entry_of name i) rows) ≡ cond (same_name name f.group && b) (Some (row_at config t f i)) (find (is_entry_of name i) rows)
        by true e = ap (λ m. cond (same_name name f.group && true) (Some (row_at config t f m)) (find (is_entry_of name i) rows)) (sym (eqb-true i n e))
        by false e = none (same_name name f.group) (Some (row_at config t f n)) (Some (row_at config t f i)) (find (is_entry_of name i) rows)

    find-rows : (notified : List NotifiedState) (rows : List RowView) → find (is_entry_of name i) (fold (λ log a. log_with (row_at config t f a.integration) log) rows notified)
        ≡ cond (same_name name f.group && list_any (λ a. i == a.integration) notified) (Some (row_at config t f i)) (find (is_entry_of name i) rows)
    find-rows [] rows = none (same_name name f.group)
      where
        none : (b : Bool) → find (is_entry_of name i) rows ≡ cond (b && false) (Some (row_at config t f i)) (find (is_entry_of name i) rows)
        none true = refl
        none false = refl
    find-rows (a ∷ notified) rows =
        find-rows notified (log_with (row_at config t f a.integration) rows)
        ∙ ap (λ o. cond (same_name name f.group && list_any (λ a. i == a.integration) notified) (Some (row_at config t f i)) o) (find-row a.integration rows)
        ∙ both (same_name name f.group) (i == a.integration) (list_any (λ a. i == a.integration) notified)
      where
        both : (h x y : Bool) → cond (h && y) (Some (row_at config t f i)) (cond (h && x) (Some (row_at config t f i)) (find (is_entry_of name i) rows)) ≡ cond (h && (x || y)) (Some (row_at config t f i)) (find (is_entry_of name i) rows)
        both true true true = refl
        both true true false = refl
        both true false true = refl
        both true false false = refl
        both false x y = refl

-- whom a finish logs is whom the notices say
logged-found : (config : Config) (n : ℕ) (past : List Record) (f : FlushState) → IsOpened config n past f → (outcomes : List (ℕ × Outcome)) (i : ℕ)
    → list_any (λ a. i == a.integration) (logged_by outcomes f) ≡ (notified_and_succeeded f.number outcomes past i (begin_of f.number past) && not (was_noted f.number i past))
logged-found config n past f o outcomes i =
    any-filter (λ a. i == a.integration) (λ a. has_succeeded outcomes a && not a.noted) f.notified
    ∙ ap (λ notified. list_any (λ a. (has_succeeded outcomes a && not a.noted) && (i == a.integration)) notified) o.notified
    ∙ any-map (λ a. (has_succeeded outcomes a && not a.noted) && (i == a.integration)) (notified_as f.number past) (notices_at (begin_of f.number past))
    ∙ any-alike (λ x. (succeeded f.number outcomes past x && not (was_noted f.number x.integration past)) && (i == x.integration)) (λ x. ((x.integration == i) && succeeded f.number outcomes past x) && not (was_noted f.number i past))
    (λ x. one x (i == x.integration) refl) (notices_at (begin_of f.number past))
    ∙ any-and (λ x. (x.integration == i) && succeeded f.number outcomes past x) (not (was_noted f.number i past)) (notices_at (begin_of f.number past))
    ∙ ap (λ b. b && not (was_noted f.number i past)) (begun (begin_of f.number past))
  where
    begun : (begin : List Record) → list_any (λ x. (x.integration == i) && succeeded f.number outcomes past x) (notices_at begin) ≡ notified_and_succeeded f.number outcomes past i begin
    begun [] = refl
    begun (r ∷ before) = refl

    ends : (b : Bool) → (b && true) ≡ b
    ends true = refl
    ends false = refl

    one : (x : NoticeData) (b : Bool) → (i == x.integration) ≡ b → ((succeeded f.number outcomes past x && not (was_noted f.number x.integration past)) && b) ≡ (((x.integration == i) && succeeded f.number outcomes past x) && not (was_noted f.number i past))
    one x true e =
        ends (succeeded f.number outcomes past x && not (was_noted f.number x.integration past))
        ∙ ap (λ m. succeeded f.number outcomes past x && not (was_noted f.number m past)) (sym (eqb-true i x.integration e))
        ∙ sym (ap (λ b. (b && succeeded f.number outcomes past x) && not (was_noted f.number i past)) (nat_eq_equiv.symm x.integration i ∙ e))
    one x false e =
        and_right (succeeded f.number outcomes past x && not (was_noted f.number x.integration past)) false refl
        ∙ sym (ap (λ b. (b && succeeded f.number outcomes past x) && not (was_noted f.number i past)) (nat_eq_equiv.symm x.integration i ∙ e))

-- ---- one record more

module _ (config : Config) (s : State) (past : List Record) (k : Finds config s past) (l : FindsRows config s past) where
  -- a row that is logged, or what was there
  or-there : (b c : Bool) (row : Option RowView) (x : RowView) (o e : Option RowView) → b ≡ c → row ≡ Some x → o ≡ e → cond b (Some x) o ≡ option_or (cond c row None) e
  or-there b c row x o e same is rest = ap (λ d. cond d (Some x) o) same ∙ ap (λ p. cond c (Some x) p) rest ∙ by c ∙ ap (λ q. option_or (cond c q None) e) (sym is)
    where
      by : (d : Bool) → cond d (Some x) e ≡ option_or (cond d (Some x) None) e
      by true = refl
      by false = refl

  -- no call is before the clock
  earlier : (now t : ℕ) → time s now ≤ t → s.clock ≤ t
  earlier now t come = omega (arith, come)

  pub rows-insert : (pass now : ℕ) (a : AlertData) → IsSteady s → FindsRows config (after_insert config s (time s now) a) (entry pass (call.Insert now a) (reply_is.Inserted (inserted config s a)) ∷ past)
  rows-insert pass now a steady =
      let r = entry pass (call.Insert now a) (reply_is.Inserted (inserted config s a)) in
      record {
        rows = l.rows;
        known = λ t come. latest-any same_alert same_alert_equiv a s.known (known_in past) steady.known (λ b. is_resolved b t) (l.known t (earlier now t come));
        silences = λ t come. l.silences t (earlier now t come);
        found = all-weaker (IsFoundBy config past) (IsFoundBy config (r ∷ past)) (λ f o. found-step config r past f refl o) s.flushes l.found;
      }

  pub rows-silence : (pass now id : ℕ) (matchers : List MatcherParts) (start end : ℕ) → IsSteady s
      → FindsRows config (after_silence s (time s now) (silence_of id matchers start end)) (entry pass (call.Silence now id matchers start end) (reply_is.Silenced (silenced s (silence_of id matchers start end))) ∷ past)
  rows-silence pass now id matchers start end steady =
      let x = silence_of id matchers start end in
      let r = entry pass (call.Silence now id matchers start end) (reply_is.Silenced (silenced s x)) in
      record {
        rows = l.rows;
        known = λ t come. l.known t (earlier now t come);
        silences = λ t come. latest-any same_silence same_silence_equiv x s.silences (silences_in past) steady.silences (is_over t) (l.silences t (earlier now t come));
        found = all-weaker (IsFoundBy config past) (IsFoundBy config (r ∷ past)) (λ f o. found-step config r past f refl o) s.flushes l.found;
      }

  -- a begin that opens no flush
  pub rows-begin : (s' : State) (pass now : ℕ) (p : Reply) → s'.clock ≡ time s now → s'.rows ≡ s.rows → s'.known ≡ s.known → s'.silences ≡ s.silences → s'.flushes ≡ s.flushes → ((number : ℕ) → is_flush number p ≡ false)
      → FindsRows config s' (entry pass (call.Begin now) p ∷ past)
  rows-begin s' pass now p clock rows known silences flushes other =
      let r = entry pass (call.Begin now) p in
      record {
        rows = λ name i. ap (find (is_entry_of name i)) rows ∙ l.rows name i;
        known = λ t come test blind. ap (list_any test) known ∙ l.known t (earlier now t (omega (arith, clock, come))) test blind;
        silences = λ t come test blind. ap (list_any test) silences ∙ l.silences t (earlier now t (omega (arith, clock, come))) test blind;
        found = subst (AllByRecursion (IsFoundBy config (r ∷ past))) (sym flushes) (all-weaker (IsFoundBy config past) (IsFoundBy config (r ∷ past)) (λ f o. found-step config r past f (other f.number) o) s.flushes l.found);
      }

  pub rows-flush : (id pass now : ℕ) (g : GroupState) (notified : List (ℕ × Integration)) → IsSteady s → IsTaken s g
      → FindsRows config (record s {
        clock = time s now;
        groups = changed_where (is_named g.name) (begun_group config (time s now)) s.groups;
        flushes = s.flushes ++ flush_notifying config s (time s now) g notified ∷ [];
        next_number = s.next_number + 1;
      }) (entry pass (call.Begin now) (flush_reply s.next_number g.name (deadline_of config (time s now) g) (map (notice_for config id s (time s now) g) notified)) ∷ past)
  rows-flush id pass now g notified steady taken =
      let t = time s now in
      let r = entry pass (call.Begin now) (flush_reply s.next_number g.name (deadline_of config t g) (map (notice_for config id s t g) notified)) in
      let next = s.next_number in
      let apart = subst (IsDistinct same_member) taken.own (members-tidy s.inserts g.name s.groups steady.tidy).members in
      let there = λ (labels : List Label). ap (member_with labels) (sym taken.own) ∙ k.found g.name labels in
      let firing = firing-found config s past t (l.known t (omega arith)) (l.silences t (omega arith)) g apart there in
      let resolved = resolved-found config s past t (l.known t (omega arith)) (l.silences t (omega arith)) g apart there in
      let at : t ≡ time_at (r ∷ past) = clock-step config s past k now r refl in
      record {
        rows = l.rows;
        known = λ u come. l.known u (earlier now u come);
        silences = λ u come. l.silences u (earlier now u come);
        found =
            all-push (IsFoundBy config (r ∷ past)) s.flushes (flush_notifying config s t g notified)
            (all-both (IsFoundBy config past) (IsOpen next s.groups) (IsFoundBy config (r ∷ past))
            (λ f o held. found-step config r past f (ne_eqb next f.number (λ e. omega (arith, e, held.number))) o) s.flushes l.found steady.opened)
            (record {
              row = λ u i.
                  ap (λ b. row_of_begin config u i (cond b (r ∷ past) (begin_of next past))) (nat_eq_equiv.refl next)
                  ∙ ap (λ m. Some (record { group = g.name; integration = i; time = u; expiry = expiry_at config g.name u; firing = firing_in config g.name m past; resolved = resolved_in config g.name m past })) (sym at)
                  ∙ sym (λ j. Some (record { group = g.name; integration = i; time = u; expiry = expiry_at config g.name u; firing = firing j; resolved = resolved j }));
              group = λ name. ap (λ b. begins_group name (cond b (r ∷ past) (begin_of next past))) (nat_eq_equiv.refl next);
            });
      }

  pub rows-finish : (pass now number : ℕ) (outcomes : List (ℕ × Outcome)) (f : FlushState) → flush_numbered s.flushes number ≡ Some f
      → FindsRows config (after_finish config s (time s now) outcomes f) (entry pass (call.Finish now number outcomes) (reply_is.Finished (finished s outcomes f)) ∷ past)
  rows-finish pass now number outcomes f is_open =
      let r = entry pass (call.Finish now number outcomes) (reply_is.Finished (finished s outcomes f)) in
      let t = time s now in
      let same : f.number ≡ number = eqb-true f.number number (find-passes (λ (h : FlushState). h.number == number) f s.flushes is_open) in
      let o = all-find (IsOpened config s.inserts past) (λ h. h.number == number) f s.flushes k.opened is_open in
      let found = all-find (IsFoundBy config past) (λ h. h.number == number) f s.flushes l.found is_open in
      let at : t ≡ time_at (r ∷ past) = clock-step config s past k now r refl in
      record {
        rows = λ name i.
            find-rows name i config t f (logged_by outcomes f) s.rows
            ∙ or-there (same_name name f.group && list_any (λ a. i == a.integration) (logged_by outcomes f)) (logs name i past r.call) (row_of_begin config (time_at (r ∷ past)) i (begin_of number past)) (row_at config t f i)
            (find (is_entry_of name i) s.rows) (entry_in config name i past)
            (ap (λ b. same_name name f.group && b) (logged-found config s.inserts past f o outcomes i)
            ∙ ap (λ b. b && (notified_and_succeeded f.number outcomes past i (begin_of f.number past) && not (was_noted f.number i past))) (sym (found.group name))
            ∙ ap (λ n. begins_group name (begin_of n past) && (notified_and_succeeded n outcomes past i (begin_of n past) && not (was_noted n i past))) same)
            (ap (λ u. row_of_begin config u i (begin_of number past)) (sym at) ∙ ap (λ n. row_of_begin config t i (begin_of n past)) (sym same) ∙ found.row t i)
            (l.rows name i);
        known = λ u come. l.known u (earlier now u come);
        silences = λ u come. l.silences u (earlier now u come);
        found =
            all-filter (IsFoundBy config (r ∷ past)) (λ h. not (h.number == f.number)) s.flushes
            (all-weaker (IsFoundBy config past) (IsFoundBy config (r ∷ past)) (λ h o. found-step config r past h refl o) s.flushes l.found);
      }

  pub rows-maintain : (pass now : ℕ) → IsSteady s → FindsRows config (after_maintain s (time s now)) (entry pass (call.Maintain now) (reply_is.Maintained (maintained s (time s now))) ∷ past)
  rows-maintain pass now steady =
      let r = entry pass (call.Maintain now) (reply_is.Maintained (maintained s (time s now))) in
      let t = time s now in
      let at : t ≡ time_at (r ∷ past) = clock-step config s past k now r refl in
      record {
        rows = λ name i.
            find-without (is_entry_of name i) same_key (alone name i) (has_expired t) s.rows steady.rows
            ∙ ap (λ u. unless (has_expired u) (find (is_entry_of name i) s.rows)) at
            ∙ ap (unless (has_expired (time_at (r ∷ past)))) (l.rows name i)
            ∙ by (time_at (r ∷ past)) (entry_in config name i past);
        known = λ u come. l.known u (earlier now u come);
        silences = λ u come. l.silences u (earlier now u come);
        found = all-weaker (IsFoundBy config past) (IsFoundBy config (r ∷ past)) (λ f o. found-step config r past f refl o) s.flushes l.found;
      }
    where
      by : (u : ℕ) (o : Option RowView) → unless (has_expired u) o ≡ unless_expired u o
      by u None = refl
      by u (Some row) = refl

  pub rows-remove : (pass now : ℕ) → FindsRows config (after_removal s (time s now)) (entry pass (call.RemoveEmptyGroups now) (reply_is.EmptyGroupsRemoved (empty_groups_removed s)) ∷ past)
  rows-remove pass now =
      let r = entry pass (call.RemoveEmptyGroups now) (reply_is.EmptyGroupsRemoved (empty_groups_removed s)) in
      record {
        rows = l.rows;
        known = λ u come. l.known u (earlier now u come);
        silences = λ u come. l.silences u (earlier now u come);
        found = all-weaker (IsFoundBy config past) (IsFoundBy config (r ∷ past)) (λ f o. found-step config r past f refl o) s.flushes l.found;
      }

  pub rows-forget : (pass now : ℕ) → FindsRows config (after_forget s (time s now)) (entry pass (call.Forget now) (reply_is.Forgotten (forgotten s (time s now))) ∷ past)
  rows-forget pass now =
      let r = entry pass (call.Forget now) (reply_is.Forgotten (forgotten s (time s now))) in
      let t = time s now in
      record {
        rows = l.rows;
        known = λ u come test blind.
            any-blind (is_idle s.groups t) test (λ a e. blind a (still-resolved a t u come (and_parts (is_resolved a t) (not (is_grouped s.groups a)) e).0)) s.known
            ∙ l.known u (earlier now u come) test blind;
        silences = λ u come test blind.
            any-blind (is_over t) test (λ x e. blind x (still-over x t u come e)) s.silences ∙ l.silences u (earlier now u come) test blind;
        found = all-weaker (IsFoundBy config past) (IsFoundBy config (r ∷ past)) (λ f o. found-step config r past f refl o) s.flushes l.found;
      }

  -- a row that is put into the log, or not
  put-found : (row : RowView) (put : Bool) (name : GroupName) (i : ℕ)
      → find (is_entry_of name i) (cond put (log_with row s.rows) s.rows) ≡ option_or (cond (put && is_entry_of name i row) (Some row) None) (find (is_entry_of name i) s.rows)
  put-found row true name i = find-log name i row s.rows ∙ by (is_entry_of name i row)
    where
      by : (b : Bool) → cond b (Some row) (find (is_entry_of name i) s.rows) ≡ option_or (cond b (Some row) None) (find (is_entry_of name i) s.rows)
      by true = refl
      by false = refl
  put-found row false name i = refl

  pub rows-load : (pass now : ℕ) (row : RowView) → may_load config (time s now) row ≡ true
      → FindsRows config (after_load config s (time s now) row) (entry pass (call.Load now row) (reply_is.Loaded (loaded s.rows (time s now) row)) ∷ past)
  rows-load pass now row may =
      let put = is_put (loaded s.rows (time s now) row) in
      let r = entry pass (call.Load now row) (reply_is.Loaded (loaded s.rows (time s now) row)) in
      record {
        rows = λ name i.
            ap (λ b. find (is_entry_of name i) (cond (b && put) (log_with row s.rows) s.rows)) may
            ∙ put-found row put name i
            ∙ ap (option_or (cond (put && is_entry_of name i row) (Some row) None)) (l.rows name i);
        known = λ u come. l.known u (earlier now u come);
        silences = λ u come. l.silences u (earlier now u come);
        found = all-weaker (IsFoundBy config past) (IsFoundBy config (r ∷ past)) (λ f o. found-step config r past f refl o) s.flushes l.found;
      }

  pub rows-note : (pass now number n : ℕ) (outcome : Option Outcome) (f : FlushState) → flush_numbered s.flushes number ≡ Some f
      → FindsRows config (after_note config s (time s now) n f) (entry pass (call.Note now number n outcome) reply_is.Noted ∷ past)
  rows-note pass now number n outcome f is_open =
      let r = entry pass (call.Note now number n outcome) reply_is.Noted in
      let t = time s now in
      let same : f.number ≡ number = eqb-true f.number number (find-passes (λ (h : FlushState). h.number == number) f s.flushes is_open) in
      let found = all-find (IsFoundBy config past) (λ h. h.number == number) f s.flushes l.found is_open in
      let at : t ≡ time_at (r ∷ past) = clock-step config s past k now r refl in
      record {
        rows = λ name i.
            find-row name i config t f n s.rows
            ∙ or-there (same_name name f.group && (i == n)) (logs name i past r.call) (row_of_begin config (time_at (r ∷ past)) i (begin_of number past)) (row_at config t f i)
            (find (is_entry_of name i) s.rows) (entry_in config name i past)
            (ap (λ b. b && (i == n)) (sym (found.group name) ∙ ap (λ m. begins_group name (begin_of m past)) same) ∙ ap (λ b. begins_group name (begin_of number past) && b) (nat_eq_equiv.symm i n))
            (ap (λ u. row_of_begin config u i (begin_of number past)) (sym at) ∙ ap (λ m. row_of_begin config t i (begin_of m past)) (sym same) ∙ found.row t i)
            (l.rows name i);
        known = λ u come. l.known u (earlier now u come);
        silences = λ u come. l.silences u (earlier now u come);
        found =
            all-map (λ h. cond (h.number == f.number) (with_note n h) h) (IsFoundBy config (r ∷ past)) s.flushes
            (all-weaker (IsFoundBy config past) (λ h. IsFoundBy config (r ∷ past) (cond (h.number == f.number) (with_note n h) h))
            (λ h o. by r h (h.number == f.number) (found-step config r past h refl o)) s.flushes l.found);
      }
    where
      by : (r : Record) (h : FlushState) (b : Bool) → IsFoundBy config (r ∷ past) h → IsFoundBy config (r ∷ past) (cond b (with_note n h) h)
      by r h true o = record { row = o.row; group = o.group }
      by r h false o = o
