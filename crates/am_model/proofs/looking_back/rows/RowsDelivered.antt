-- What is logged was reported delivered, or had nothing to send, and each row of the log represents such a notice, unless it was handed in.
use Rattle.std.proofs.Common.{◌≡◌, ℕ, Bool, true, false, cond, not, ◌&&◌, ◌||◌, Option, Some, None, ◌⊎◌, inl, inr, List, [], ◌∷◌, refl, sym, ap, ◌∙◌, subst}
use Rattle.std.specs.Prelude.{All, IsTrue, find, ◌==◌}
use Rattle.std.specs.List.{AllByRecursion, list_any}
use Rattle.std.specs.Option.{option_or}
use Rattle.std.proofs.lemmas.Bool.{false≢true, eqb-true, and_parts, not-true, or_right}
use Rattle.std.proofs.lemmas.Cmp.{nat_eq_equiv}
use Rattle.std.proofs.lemmas.List.Sorted.{All-permutation}
use Rattle.am_retry.specs.declared.outcome.Outcome.{Outcome}
use Rattle.am_model.specs.declared.config.Config.{Config}
use Rattle.am_model.specs.declared.group.GroupName.{GroupName}
use Rattle.am_model.specs.declared.record.Call.{Call}
use Rattle.am_model.specs.declared.record.Call.TheVariants.{Insert, Silence, Begin, Finish, Maintain, RemoveEmptyGroups, Forget, Load, Note}
use Rattle.am_model.specs.declared.record.Record.{Record}
use Rattle.am_model.specs.declared.record.Reply.{Reply}
use Rattle.am_model.specs.declared.record.Reply.TheVariants as reply_is
use Rattle.am_model.specs.declared.views.RowView.{RowView}
use Rattle.am_model.specs.Notice.{NoticeData, is_nothing}
use Rattle.am_model.specs.Begin.{is_entry_of}
use Rattle.am_model.specs.look_back.Entry.{begins_group, notified_and_succeeded, logs, begin_named, row_of_flush, row_of_begin, row_in, row_put, row_loaded, unless_collected, entry_in}
use Rattle.am_model.specs.Finish.{same_key, is_delivered}
use Rattle.am_model.specs.Records.{entry}
use Rattle.am_model.specs.look_back.Laws.{EveryLegalHistory, ShownRowsAreFound, is_delivered_to, is_delivered_in, reports_delivery, LogsDelivered, OnlyDeliveredIsLogged, NewRowsAreDelivered, RowsComeByDelivery, was_delivered, handed_in, UnlessHandedIn, RowsWereDelivered}
use Rattle.am_model.specs.Lists.{in_order}
use Rattle.am_model.specs.Note.{is_ready, notified_by, may_be_noted, may_note}
use Rattle.am_model.specs.look_back.Past.{AtEach, past_of, replay_past, time_at, is_flush_of, notices_in, begin_of, was_noted, succeeded}
use Rattle.am_model.specs.State.{NotifiedState, FlushState, State, flush_numbered}
use Rattle.am_model.specs.Ticket.{outcome_of}
use Rattle.am_model.specs.Maintenance.{has_expired}
use Rattle.am_model.specs.Views.{row_cmp, row_views}
use Rattle.am_model.proofs.lists.Distinct.{all_from, all-find, all-weaker, find-passes}
use Rattle.am_model.proofs.legal.EachCall.{inside, each_call}
use Rattle.am_model.proofs.looking_back.alerts.FoundAlerts.{steady_past, finds_past}
use Rattle.am_model.proofs.looking_back.rows.FoundRows.{finds_rows_past}
use Rattle.am_model.proofs.lists.Words.{in_order-moves}
use Rattle.am_model.proofs.looking_back.flushes.Opened.{notices_at, notified_as, IsOpened, Finds}
use Rattle.am_model.proofs.looking_back.Pasts.{state_after, IsLegalPast, replay_of_past, at_each, legal_past, replay_is_past}
use Rattle.am_model.proofs.looking_back.rows.RowSteps.{FindsRows}
use Rattle.am_model.proofs.lists.Sets.{any-alike, any-map, each-found}
use Rattle.am_model.proofs.states.Alike.{same_key_equiv}

-- ---- words on lists

-- the one that is found
any-of_found : {X : Type 0} (test also : X → Bool) (x : X) (xs : List X) → find test xs ≡ Some x → also x ≡ true → list_any (λ y. test y && also y) xs ≡ true
any-of_found test also x [] e h = absurd (cc)
any-of_found test also x (y ∷ ys) found h =
    elim (test y) as (λ b. cond b (Some y) (find test ys) ≡ Some x → ((b && also y) || list_any (λ z. test z && also z) ys) ≡ true) [
      | true ↦ λ e. let same : y ≡ x = cc in ap (λ z. also z || list_any (λ w. test w && also w) ys) same ∙ ap (λ b. b || list_any (λ w. test w && also w) ys) h
      | false ↦ λ e. or_right false (list_any (λ z. test z && also z) ys) (any-of_found test also x ys e h)
    ] found

-- ---- a record that logs

-- the flush at the head is of the group, and one of its notices passes
delivered_in : (name : GroupName) (i : ℕ) (outcome : Option Outcome) (begin : List Record) → begins_group name begin ≡ true
    → list_any (λ n. (n.integration == i) && (is_nothing n || is_delivered outcome)) (notices_at begin) ≡ true → is_delivered_in name i outcome begin ≡ true
delivered_in name i outcome [] e h = absurd (false≢true e)
delivered_in name i outcome (q ∷ before) e h = ap (λ b. b && is_delivered_to i outcome (notices_in q.reply)) e ∙ h

-- a finish logs those that succeeded and weren't noted
finish_reports : (name : GroupName) (i now number : ℕ) (outcomes : List (ℕ × Outcome)) (past : List Record) → logs name i past (Finish now number outcomes) ≡ true → reports_delivery name i past (Finish now number outcomes) ≡ true
finish_reports name i now number outcomes past h =
    let begin = begin_of number past in
    let both = and_parts (begins_group name begin) (notified_and_succeeded number outcomes past i begin && not (was_noted number i past)) h in
    let rest = and_parts (notified_and_succeeded number outcomes past i begin) (not (was_noted number i past)) both.1 in
    delivered_in name i (outcome_of outcomes i) begin both.0 (notified begin (not-true (was_noted number i past) rest.1) rest.0)
  where
    one : (n : NoticeData) (b : Bool) → (n.integration == i) ≡ b → was_noted number i past ≡ false → (b && succeeded number outcomes past n) ≡ (b && (is_nothing n || is_delivered (outcome_of outcomes i)))
    one n true e unnoted =
        ap (λ m. (was_noted number m past || is_nothing n) || is_delivered (outcome_of outcomes m)) (eqb-true n.integration i e)
        ∙ ap (λ b. (b || is_nothing n) || is_delivered (outcome_of outcomes i)) unnoted
    one n false e unnoted = refl

    notified : (begin : List Record) → was_noted number i past ≡ false → notified_and_succeeded number outcomes past i begin ≡ true → list_any (λ n. (n.integration == i) && (is_nothing n || is_delivered (outcome_of outcomes i))) (notices_at begin) ≡ true
    notified [] unnoted h = absurd (false≢true h)
    notified (q ∷ before) unnoted h =
        sym (any-alike (λ n. (n.integration == i) && succeeded number outcomes past n) (λ n. (n.integration == i) && (is_nothing n || is_delivered (outcome_of outcomes i))) (λ n. one n (n.integration == i) refl unnoted) (notices_in q.reply)) ∙ h

-- a note is allowed only where it had nothing to send, or is reported delivered
note_reports : (config : Config) (s : State) (past : List Record) → Finds config s past → FindsRows config s past
    → (now number i : ℕ) (outcome : Option Outcome) (f : FlushState) → flush_numbered s.flushes number ≡ Some f → may_note i outcome f ≡ true
    → (name : GroupName) (j : ℕ) → logs name j past (Note now number i outcome) ≡ true → reports_delivery name j past (Note now number i outcome) ≡ true
note_reports config s past k l now number i outcome f is may name j h =
    let same : f.number ≡ number = eqb-true f.number number (find-passes (λ (h : FlushState). h.number == number) f s.flushes is) in
    let o = all-find (IsOpened config s.inserts past) (λ h. h.number == number) f s.flushes k.opened is in
    let both = and_parts (begins_group name (begin_of number past)) (i == j) h in
    let test : NotifiedState → Bool = λ a. (a.integration == i) && (a.nothing || is_delivered outcome) in
    let notified : list_any (λ n. (n.integration == i) && (is_nothing n || is_delivered outcome)) (notices_at (begin_of f.number past)) ≡ true =
    sym (any-map test (notified_as f.number past) (notices_at (begin_of f.number past))) ∙ ap (list_any test) (sym o.notified) ∙ ready (notified_by f i) refl may in
    ap (λ b. b && is_delivered_in name j outcome (begin_of number past)) both.1
    ∙ ap (λ m. is_delivered_in name m outcome (begin_of number past)) (sym (eqb-true i j both.1))
    ∙ delivered_in name i outcome (begin_of number past) both.0 (ap (λ n. list_any (λ x. (x.integration == i) && (is_nothing x || is_delivered outcome)) (notices_at (begin_of n past))) (sym same) ∙ notified)
  where
    ready : (a : Option NotifiedState) → notified_by f i ≡ a → may_be_noted outcome a ≡ true → list_any (λ (x : NotifiedState). (x.integration == i) && (x.nothing || is_delivered outcome)) f.notified ≡ true
    ready None found e = absurd (false≢true e)
    ready (Some a) found e = any-of_found (λ (x : NotifiedState). x.integration == i) (λ x. x.nothing || is_delivered outcome) a f.notified found (and_parts (is_ready outcome a) (not a.noted) e).0

logged_delivered : (config : Config) (id : ℕ) (past : List Record) → IsLegalPast config id past → AtEach LogsDelivered past
logged_delivered config id =
    at_each config id LogsDelivered
    (λ r past before returned.
    let s = state_after config past in
    each_call config id s (λ c new p. LogsDelivered (entry r.pass c p) past)
    (record {
      insert = λ now a name i e. absurd (false≢true e);
      silence = λ now number matchers start end name i e. absurd (false≢true e);
      nothing = λ now none name i e. absurd (false≢true e);
      begin = λ now g taken notified are name i e. absurd (false≢true e);
      finish = λ now number outcomes f is name i e. finish_reports name i now number outcomes past e;
      maintain = λ now name i e. absurd (false≢true e);
      remove_empty_groups = λ now name i e. absurd (false≢true e);
      forget = λ now name i e. absurd (false≢true e);
      load = λ now row may name i e. absurd (false≢true e);
      note = λ now number i outcome f is may name j e. note_reports config s past (finds_past config id past before) (finds_rows_past config id past before) now number i outcome f is may name j e;
    }) r.call r.reply returned)

pub only_delivered_is_logged : EveryLegalHistory OnlyDeliveredIsLogged
only_delivered_is_logged config id history legal = logged_delivered config id (past_of history) (legal_past config id history legal)

-- ---- the row that is found

-- it is of its time
row_time : (config : Config) (t i : ℕ) (row : RowView) (begin : List Record) → row_of_begin config t i begin ≡ Some row → row.time ≡ t
row_time config t i row [] e = absurd (cc)
row_time config t i row (q ∷ before) e = by (time_at (q ∷ before)) q.reply e
  where
    by : (begun : ℕ) (p : Reply) → row_of_flush config t i begun before p ≡ Some row → row.time ≡ t
    by begun (reply_is.Inserted inserted) e = absurd (cc)
    by begun (reply_is.Silenced silenced) e = absurd (cc)
    by begun reply_is.NothingDue e = absurd (cc)
    by begun (reply_is.Quiet group removed) e = absurd (cc)
    by begun (reply_is.Flush group opened) e = ap (λ (o : Option RowView). time_or o) (sym e)
      where
        time_or : Option RowView → ℕ
        time_or None = t
        time_or (Some x) = x.time
    by begun (reply_is.Finished finished) e = absurd (cc)
    by begun (reply_is.Maintained maintained) e = absurd (cc)
    by begun (reply_is.EmptyGroupsRemoved removed) e = absurd (cc)
    by begun (reply_is.Forgotten forgotten) e = absurd (cc)
    by begun (reply_is.Loaded loaded) e = absurd (cc)
    by begun reply_is.Noted e = absurd (cc)

-- a flush of a group gives one
row_there : (config : Config) (t i : ℕ) (name : GroupName) (begin : List Record) → begins_group name begin ≡ true → row_of_begin config t i begin ≡ None → ⊥
row_there config t i name [] e none = false≢true e
row_there config t i name (q ∷ before) e none = by (time_at (q ∷ before)) q.reply e none
  where
    by : (begun : ℕ) (p : Reply) → is_flush_of name p ≡ true → row_of_flush config t i begun before p ≡ None → ⊥
    by begun (reply_is.Inserted inserted) e none = false≢true e
    by begun (reply_is.Silenced silenced) e none = false≢true e
    by begun reply_is.NothingDue e none = false≢true e
    by begun (reply_is.Quiet group removed) e none = false≢true e
    by begun (reply_is.Flush group opened) e none = absurd (cc)
    by begun (reply_is.Finished finished) e none = false≢true e
    by begun (reply_is.Maintained maintained) e none = false≢true e
    by begun (reply_is.EmptyGroupsRemoved removed) e none = false≢true e
    by begun (reply_is.Forgotten forgotten) e none = false≢true e
    by begun (reply_is.Loaded loaded) e none = false≢true e
    by begun reply_is.Noted e none = false≢true e

logs_begin : (name : GroupName) (i : ℕ) (past : List Record) (c : Call) → logs name i past c ≡ true → begins_group name (begin_named past c) ≡ true
logs_begin name i past (Insert now alert) e = absurd (false≢true e)
logs_begin name i past (Silence now id matchers start end) e = absurd (false≢true e)
logs_begin name i past (Begin now) e = absurd (false≢true e)
logs_begin name i past (Finish now number outcomes) e =
    (and_parts (begins_group name (begin_of number past)) (notified_and_succeeded number outcomes past i (begin_of number past) && not (was_noted number i past)) e).0
logs_begin name i past (Maintain now) e = absurd (false≢true e)
logs_begin name i past (RemoveEmptyGroups now) e = absurd (false≢true e)
logs_begin name i past (Forget now) e = absurd (false≢true e)
logs_begin name i past (Load now row) e = absurd (false≢true e)
logs_begin name i past (Note now number j outcome) e = (and_parts (begins_group name (begin_of number past)) (j == i) e).0

-- what a maintenance leaves was there
left_there : (t : ℕ) (c : Call) (row : RowView) (o : Option RowView) → unless_collected t c o ≡ Some row → o ≡ Some row
left_there t (Insert now alert) row o e = e
left_there t (Silence now id matchers start end) row o e = e
left_there t (Begin now) row o e = e
left_there t (Finish now number outcomes) row o e = e
left_there t (Maintain now) row None e = e
left_there t (Maintain now) row (Some x) e = elim (has_expired t x) as (λ b. cond b None (Some x) ≡ Some row → Some x ≡ Some row) [ true ↦ λ e. absurd (cc) | false ↦ λ e. e ] e
left_there t (RemoveEmptyGroups now) row o e = e
left_there t (Forget now) row o e = e
left_there t (Load now loaded) row o e = e
left_there t (Note now number integration outcome) row o e = e

-- the row that a record logs is of its time
logged_time : (config : Config) (name : GroupName) (i : ℕ) (r : Record) (past : List Record) (row : RowView) (rest : Option RowView) → logs name i past r.call ≡ true
    → option_or (row_of_begin config (time_at (r ∷ past)) i (begin_named past r.call)) rest ≡ Some row → row.time ≡ time_at (r ∷ past)
logged_time config name i r past row rest logged e = by (row_of_begin config (time_at (r ∷ past)) i (begin_named past r.call)) refl e
  where
    by : (o : Option RowView) → row_of_begin config (time_at (r ∷ past)) i (begin_named past r.call) ≡ o → option_or o rest ≡ Some row → row.time ≡ time_at (r ∷ past)
    by None none e = absurd (row_there config (time_at (r ∷ past)) i name (begin_named past r.call) (logs_begin name i past r.call logged) none)
    by (Some x) is e = row_time config (time_at (r ∷ past)) i row (begin_named past r.call) (is ∙ e)

-- a record that logs a success loads nothing
logs_unloaded : (name : GroupName) (i : ℕ) (past : List Record) (p : Reply) (c : Call) → logs name i past c ≡ true → row_put name i p (row_in c) ≡ None
logs_unloaded name i past p (Insert now alert) e = absurd (false≢true e)
logs_unloaded name i past p (Silence now id matchers start end) e = absurd (false≢true e)
logs_unloaded name i past p (Begin now) e = absurd (false≢true e)
logs_unloaded name i past p (Finish now number outcomes) e = refl
logs_unloaded name i past p (Maintain now) e = absurd (false≢true e)
logs_unloaded name i past p (RemoveEmptyGroups now) e = absurd (false≢true e)
logs_unloaded name i past p (Forget now) e = absurd (false≢true e)
logs_unloaded name i past p (Load now row) e = absurd (false≢true e)
logs_unloaded name i past p (Note now number j outcome) e = refl

-- a claim that follows from another, of a row that wasn't handed in
unless-follows : (o : Option RowView) (row : RowView) (A B : Type 0) → (A → B) → UnlessHandedIn o row A → UnlessHandedIn o row B
unless-follows None row A B follows h = follows h
unless-follows (Some handed) row A B follows h = h

-- ---- one record more

module _ (config : Config) (name : GroupName) (i : ℕ) (row : RowView) (r : Record) (past : List Record) where
  -- the row is of the record's time, and the record logged it
  abbrev IsLoggedNow : Type 0
  IsLoggedNow = (row.time ≡ time_at (r ∷ past)) × (logs name i past r.call ≡ true)

  -- and reports that it was delivered
  abbrev IsReportedNow : Type 0
  IsReportedNow = (row.time ≡ time_at (r ∷ past)) × (reports_delivery name i past r.call ≡ true)

  -- what was found before and the record left
  abbrev left : Option RowView
  left = unless_collected (time_at (r ∷ past)) r.call (entry_in config name i past)

  new-unlogged : (o : Option RowView) → option_or o left ≡ Some row → (entry_in config name i past ≡ Some row) ⊎ UnlessHandedIn o row IsLoggedNow
  new-unlogged None e = inl (left_there (time_at (r ∷ past)) r.call row (entry_in config name i past) e)
  new-unlogged (Some handed) e = inr (sym (inside handed row e))

  new-by : (b : Bool) → logs name i past r.call ≡ b → option_or (cond b (row_of_begin config (time_at (r ∷ past)) i (begin_named past r.call)) None) (option_or (row_loaded name i r) left) ≡ Some row
      → (entry_in config name i past ≡ Some row) ⊎ UnlessHandedIn (row_loaded name i r) row IsLoggedNow
  new-by true logged e =
      inr (subst (λ o. UnlessHandedIn o row IsLoggedNow) (sym (logs_unloaded name i past r.reply r.call logged))
      (logged_time config name i r past row (option_or (row_loaded name i r) left) logged e, logged))
  new-by false logged e = new-unlogged (row_loaded name i r) e

  -- what is found after a record was found before, or the record logged it or loaded it
  new_entry : entry_in config name i (r ∷ past) ≡ Some row → (entry_in config name i past ≡ Some row) ⊎ UnlessHandedIn (row_loaded name i r) row IsLoggedNow
  new_entry e = new-by (logs name i past r.call) refl e

  new-reported : LogsDelivered r past → (entry_in config name i past ≡ Some row) ⊎ UnlessHandedIn (row_loaded name i r) row IsLoggedNow
      → (entry_in config name i past ≡ Some row) ⊎ UnlessHandedIn (row_loaded name i r) row IsReportedNow
  new-reported delivered (inl before) = inl before
  new-reported delivered (inr now) = inr (unless-follows (row_loaded name i r) row IsLoggedNow IsReportedNow (λ own. (own.0, delivered name i own.1)) now)

module _ (config : Config) (row : RowView) (r : Record) (past : List Record) (delivered : LogsDelivered r past)
    (before : entry_in config row.group row.integration past ≡ Some row → UnlessHandedIn (handed_in row.group row.integration past) row (was_delivered row past ≡ true)) where
  abbrev loaded : Option RowView
  loaded = row_loaded row.group row.integration r

  abbrev handed : Option RowView
  handed = handed_in row.group row.integration past

  abbrev rest : Option RowView
  rest = left config row.group row.integration row r past

  found-unlogged : (o : Option RowView) → option_or o rest ≡ Some row → UnlessHandedIn (option_or o handed) row (was_delivered row past ≡ true)
  found-unlogged None e = before (left_there (time_at (r ∷ past)) r.call row (entry_in config row.group row.integration past) e)
  found-unlogged (Some x) e = sym (inside x row e)

  found-by : (b : Bool) → logs row.group row.integration past r.call ≡ b → option_or (cond b (row_of_begin config (time_at (r ∷ past)) row.integration (begin_named past r.call)) None) (option_or loaded rest) ≡ Some row
      → UnlessHandedIn (cond b None (option_or loaded handed)) row (cond b ((time_at (r ∷ past) == row.time) && reports_delivery row.group row.integration past r.call) (was_delivered row past) ≡ true)
  found-by true logged e =
      ap (λ m. (time_at (r ∷ past) == m) && reports_delivery row.group row.integration past r.call) (logged_time config row.group row.integration r past row (option_or loaded rest) logged e)
      ∙ ap (λ b. b && reports_delivery row.group row.integration past r.call) (nat_eq_equiv.refl (time_at (r ∷ past)))
      ∙ delivered row.group row.integration logged
  found-by false logged e = found-unlogged loaded e

  found-step : entry_in config row.group row.integration (r ∷ past) ≡ Some row → UnlessHandedIn (handed_in row.group row.integration (r ∷ past)) row (was_delivered row (r ∷ past) ≡ true)
  found-step e = found-by (logs row.group row.integration past r.call) refl e

-- the record that logged it reported its success, at its time, unless it was loaded since
found_delivered : (config : Config) (row : RowView) (past : List Record) → AtEach LogsDelivered past → entry_in config row.group row.integration past ≡ Some row
    → UnlessHandedIn (handed_in row.group row.integration past) row (was_delivered row past ≡ true)
found_delivered config row [] each e = absurd (cc)
found_delivered config row (r ∷ past) each e = found-step config row r past each.0 (λ there. found_delivered config row past each.1 there) e

-- the rows of a state are what is found
entry_past : (config : Config) (id : ℕ) (past : List Record) → IsLegalPast config id past → (name : GroupName) (i : ℕ) → find (is_entry_of name i) (replay_past config past).rows ≡ entry_in config name i past
entry_past config id past legal name i = ap (λ s. find (is_entry_of name i) s.rows) (replay_of_past config past) ∙ (finds_rows_past config id past legal).rows name i

new_row : (config : Config) (id : ℕ) (r : Record) (past : List Record) → IsLegalPast config id (r ∷ past) → LogsDelivered r past → NewRowsAreDelivered config r past
new_row config id r past legal delivered name i row there =
    by (new-reported config name i row r past delivered (new_entry config name i row r past (sym (entry_past config id (r ∷ past) legal name i) ∙ there)))
  where
    by : (entry_in config name i past ≡ Some row) ⊎ UnlessHandedIn (row_loaded name i r) row ((row.time ≡ time_at (r ∷ past)) × (reports_delivery name i past r.call ≡ true))
        → (find (is_entry_of name i) (replay_past config past).rows ≡ Some row) ⊎ UnlessHandedIn (row_loaded name i r) row ((row.time ≡ time_at (r ∷ past)) × (reports_delivery name i past r.call ≡ true))
    by (inl before) = inl (entry_past config id past legal.1 name i ∙ before)
    by (inr now) = inr now

new_rows : (config : Config) (id : ℕ) (past : List Record) → IsLegalPast config id past → AtEach LogsDelivered past → AtEach (NewRowsAreDelivered config) past
new_rows config id [] legal each = tt
new_rows config id (r ∷ past) legal each = (new_row config id r past legal each.0, new_rows config id past legal.1 each.1)

pub rows_come_by_delivery : EveryLegalHistory RowsComeByDelivery
rows_come_by_delivery config id history legal =
    let back = legal_past config id history legal in new_rows config id (past_of history) back (logged_delivered config id (past_of history) back)

rows_found : (config : Config) (id : ℕ) (past : List Record) → IsLegalPast config id past → AllByRecursion (λ row. entry_in config row.group row.integration past ≡ Some row) (state_after config past).rows
rows_found config id past legal =
    let s = state_after config past in
    let l = finds_rows_past config id past legal in
    all-weaker (λ row. find (same_key row) s.rows ≡ Some row) (λ row. entry_in config row.group row.integration past ≡ Some row) (λ row e. sym (l.rows row.group row.integration) ∙ e) s.rows
    (each-found same_key same_key_equiv s.rows (steady_past config past).rows)

-- each row of the log is found
pub shown_rows_are_found : EveryLegalHistory ShownRowsAreFound
shown_rows_are_found config id history legal =
    let past = past_of history in
    let rows = (state_after config past).rows in
    let P : RowView → Type 0 = λ row. entry_in config row.group row.integration past ≡ Some row in
    subst (λ (s : State). All P (row_views s)) (sym (replay_is_past config history))
    (All-permutation P rows (in_order row_cmp rows) (in_order-moves row_cmp rows) (all_from P rows (rows_found config id past (legal_past config id history legal))))

pub rows_were_delivered : EveryLegalHistory RowsWereDelivered
rows_were_delivered config id history legal =
    let past = past_of history in
    let rows = (state_after config past).rows in
    let legal_back = legal_past config id history legal in
    let P : RowView → Type 0 = λ row. UnlessHandedIn (handed_in row.group row.integration past) row (IsTrue (was_delivered row past)) in
    subst (λ (s : State). All P s.rows) (sym (replay_is_past config history))
    (all_from P rows
    (all-weaker (λ row. entry_in config row.group row.integration past ≡ Some row) P (λ row e. found_delivered config row past (logged_delivered config id past legal_back) e) rows (rows_found config id past legal_back)))
