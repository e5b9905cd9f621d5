-- What is kept of a history is what looking back finds in it.
use Rattle.std.proofs.Common.{◌≡◌, ◌∙◌, ◌<◌, ◌+◌, ◌==◌, ◌&&◌, ◌||◌, ℕ, Bool, true, false, not, cond, List, [], ◌∷◌, Option, Some}
use Rattle.std.proofs.Common.{ap, sym, refl, eqb-true, find, get_or, length, max, min, nat_eq, take, if◌then◌else◌}
use Rattle.std.specs.HashMap.{get}
use Rattle.std.specs.HashSet.{contains}
use Rattle.std.specs.List.{list_any}
use Rattle.std.specs.Option.{option_map_or, option_or}
use Rattle.std.proofs.lemmas.Bool.{and_parts}
use Rattle.std.proofs.lemmas.List.Folds.{list_any_more}
use Rattle.am_alerts.specs.declared.limits.TheConstants.{MAX_TIME}
use Rattle.am_retry.specs.declared.outcome.Outcome.{Outcome}
use Rattle.am_model.specs.declared.group.GroupName.{GroupName}
use Rattle.am_model.specs.declared.record.Call.{Call}
use Rattle.am_model.specs.declared.record.Call.TheVariants.{Insert, Silence, Begin, Finish, Maintain, RemoveEmptyGroups, Forget, Load, Note}
use Rattle.am_model.specs.declared.record.Record.{Record}
use Rattle.am_model.specs.look_back.Entry.{notified_and_succeeded, begins_group, logs}
use Rattle.am_model.specs.look_back.Past.{Past, begin_of, is_flush, is_flush_of, is_note, time_at, was_noted}
use Rattle.am_model.specs.Notice.{NoticeData}
use Rattle.am_model.specs.Records.{now_of}
use Rattle.am_timeline.specs.declared.logbook.log.LastEntry.{LastEntry}
use Rattle.am_timeline.specs.declared.logbook.log.LastEntry.TheVariants as entries
use Rattle.am_timeline.specs.declared.logbook.log.Log.{Log}
use Rattle.am_timeline.specs.LastEntry.{entry_loaded}
use Rattle.am_timeline.specs.Log.{Follows, finish_logs, has_success, is_logged, logs_by, same_log_key, same_note_key}

-- a test of one more
pub cond_or : (a b : Bool) → cond a true b ≡ (a || b)
cond_or true b = refl
cond_or false b = refl

-- a success that is new is logged
new_success : (named before same noted : Bool) → (same ≡ true → noted ≡ false) → (x old : Option LastEntry)
    → (if named && same then x else (if named && (before && not noted) then x else old))
    ≡ (if named && ((before || (same && true)) && not noted) then x else old)
new_success false before same noted f x old = refl
new_success true before true true f x old = let h : true ≡ false = f refl in cc
new_success true true true false f x old = refl
new_success true false true false f x old = refl
new_success true true false true f x old = refl
new_success true true false false f x old = refl
new_success true false false true f x old = refl
new_success true false false false f x old = refl

-- one that is none, or was noted, changes nothing
no_success : (before same success noted : Bool) → (same ≡ true → (success && not noted) ≡ false)
    → (before && not noted) ≡ ((before || (same && success)) && not noted)
no_success true same success noted f = refl
no_success false false success noted f = refl
no_success false true true true f = refl
no_success false true true false f = let h : true ≡ false = f refl in cc
no_success false true false noted f = refl

not_true : (b : Bool) → not b ≡ true → b ≡ false
not_true true e = let h : false ≡ true = e in cc
not_true false e = refl

-- the successes of some notices, and of one more that is a new success
pub logged-success : (noted : ℕ → Bool) (outcomes : List (ℕ × Outcome)) (i : ℕ) (notices : List NoticeData) (j : ℕ) (n : NoticeData)
    (named : Bool) (x old : Option LastEntry)
    → j < length notices → n ≡ get_or notices j n → (has_success noted outcomes n && not (noted n.integration)) ≡ true
    → (if named && (n.integration == i) then x else (if named && is_logged noted outcomes i (take j notices) then x else old))
    ≡ (if named && is_logged noted outcomes i (take (j + 1) notices) then x else old)
logged-success noted outcomes i notices j n named x old inside is new =
    let parts = and_parts (has_success noted outcomes n) (not (noted n.integration)) new in
    let p : NoticeData → Bool = λ (m : NoticeData). (m.integration == i) && has_success noted outcomes m in
    let before : Bool = list_any p (take j notices) in
    let here : (n.integration == i) ≡ true → noted i ≡ false =
    λ (e : (n.integration == i) ≡ true). ap noted (sym (eqb-true n.integration i e)) ∙ not_true (noted n.integration) parts.1 in
    new_success named before (n.integration == i) (noted i) here x old
    ∙ ap (λ (s : Bool). if named && ((before || ((n.integration == i) && s)) && not (noted i)) then x else old) (sym parts.0)
    ∙ ap (λ (m : NoticeData). if named && ((before || p m) && not (noted i)) then x else old) is
    ∙ ap (λ (b : Bool). if named && (b && not (noted i)) then x else old) (sym (list_any_more p notices j n inside))

-- and of one that isn't
pub logged-none : (noted : ℕ → Bool) (outcomes : List (ℕ × Outcome)) (i : ℕ) (notices : List NoticeData) (j : ℕ) (n : NoticeData)
    → j < length notices → n ≡ get_or notices j n → (has_success noted outcomes n && not (noted n.integration)) ≡ false
    → is_logged noted outcomes i (take j notices) ≡ is_logged noted outcomes i (take (j + 1) notices)
logged-none noted outcomes i notices j n inside is none =
    let p : NoticeData → Bool = λ (m : NoticeData). (m.integration == i) && has_success noted outcomes m in
    let here : (n.integration == i) ≡ true → (has_success noted outcomes n && not (noted i)) ≡ false =
    λ (e : (n.integration == i) ≡ true).
    ap (λ (k : ℕ). has_success noted outcomes n && not (noted k)) (sym (eqb-true n.integration i e)) ∙ none in
    no_success (list_any p (take j notices)) (n.integration == i) (has_success noted outcomes n) (noted i) here
    ∙ ap (λ (m : NoticeData). (list_any p (take j notices) || p m) && not (noted i)) is
    ∙ ap (λ (b : Bool). b && not (noted i)) (sym (list_any_more p notices j n inside))

-- the flush of a number in a past
abbrev flush_in : Past → ℕ → Option Record
flush_in past number = find (λ (r : Record). is_flush number r.reply) past

-- what a finish logs, by the record of its flush, if that is there
abbrev finish_by : Past → ℕ → List (ℕ × Outcome) → GroupName → ℕ → Option Record → Bool
finish_by last number outcomes name integration flush =
    option_map_or (finish_logs (λ (i : ℕ). was_noted number i last) outcomes name integration) flush false

-- and by the past that begins with its begin
abbrev finish_in : Past → ℕ → List (ℕ × Outcome) → GroupName → ℕ → Past → Bool
finish_in last number outcomes name integration begin =
    begins_group name begin
    && (notified_and_succeeded number outcomes last integration begin && not (was_noted number integration last))

-- a finish logs by the record of its flush what it logs by looking back
finish_logs-is : (last : Past) (number : ℕ) (outcomes : List (ℕ × Outcome)) (name : GroupName) (integration : ℕ) (past : Past)
    → finish_by last number outcomes name integration (flush_in past number)
    ≡ finish_in last number outcomes name integration (begin_of number past)
finish_logs-is last number outcomes name integration [] = refl
finish_logs-is last number outcomes name integration (r ∷ past) =
    by (is_flush number r.reply) (finish_logs-is last number outcomes name integration past)
  where
    by : (here : Bool)
        → finish_by last number outcomes name integration (flush_in past number)
        ≡ finish_in last number outcomes name integration (begin_of number past)
        → finish_by last number outcomes name integration (cond here (Some r) (flush_in past number))
        ≡ finish_in last number outcomes name integration (if here then r ∷ past else begin_of number past)
    by true rest = refl
    by false rest = rest

-- whether a flush is of a group, if it is there
abbrev is_of_group : GroupName → Option Record → Bool
is_of_group name flush = option_map_or (λ (r : Record). is_flush_of name r.reply) flush false

-- and so does a note
note_logs-is : (number : ℕ) (name : GroupName) (past : Past)
    → is_of_group name (flush_in past number) ≡ begins_group name (begin_of number past)
note_logs-is number name [] = refl
note_logs-is number name (r ∷ past) = by (is_flush number r.reply) (note_logs-is number name past)
  where
    by : (here : Bool)
        → is_of_group name (flush_in past number) ≡ begins_group name (begin_of number past)
        → is_of_group name (cond here (Some r) (flush_in past number))
        ≡ begins_group name (if here then r ∷ past else begin_of number past)
    by true rest = refl
    by false rest = rest

-- a call logs by what is kept of a past what it logs by looking back
logs_by-is : (name : GroupName) (integration : ℕ) (past : Past) (call : Call)
    → logs_by (flush_in past) (λ (k i : ℕ). was_noted k i past) name integration call ≡ logs name integration past call
logs_by-is name integration past (Insert now alert) = refl
logs_by-is name integration past (Silence now id matchers start end) = refl
logs_by-is name integration past (Begin now) = refl
logs_by-is name integration past (Finish now number outcomes) = finish_logs-is past number outcomes name integration past
logs_by-is name integration past (Maintain now) = refl
logs_by-is name integration past (RemoveEmptyGroups now) = refl
logs_by-is name integration past (Forget now) = refl
logs_by-is name integration past (Load now row) = refl
logs_by-is name integration past (Note now number i outcome) =
    ap (λ (b : Bool). b && (i == integration)) (note_logs-is number name past)

-- the entry that a table has
abbrev in_table : Log → GroupName → ℕ → Option LastEntry
in_table log name integration = get same_log_key log.logged (record { group = name; integration = integration })

-- whether a log's table of notes has an integration of a flush
abbrev is_noted : Log → ℕ → ℕ → Bool
is_noted log number integration = contains same_note_key log.noted (record { number = number; integration = integration })

-- the entry after a record, where it logs a success at this time or doesn't, and this was the entry before
abbrev entry_after : GroupName → ℕ → Record → ℕ → Option LastEntry → Bool → Option LastEntry
entry_after name integration r time old success =
    if success then Some (entries.Logged time) else option_or (entry_loaded name integration r) old

-- what is kept of a past, and of one more record
pub follows-more : (log new : Log) (r : Record) (past : Past)
    → ((number : ℕ) → get nat_eq new.begun number ≡ (if is_flush number r.reply then Some r else get nat_eq log.begun number))
    → ((number integration : ℕ) → is_noted new number integration ≡ (is_note number integration r.call || is_noted log number integration))
    → ((name : GroupName) (integration : ℕ) → in_table new name integration
    ≡ entry_after name integration r new.clock (in_table log name integration)
    (logs_by (λ (k : ℕ). get nat_eq log.begun k) (is_noted log) name integration r.call))
    → new.clock ≡ max log.clock (min (now_of r.call) MAX_TIME)
    → Follows log past → Follows new (r ∷ past)
follows-more log new r past begun noted logged clock f =
    let at : new.clock ≡ time_at (r ∷ past) = clock ∙ ap (λ (t : ℕ). max t (min (now_of r.call) MAX_TIME)) f.clock in
    let flushes : (λ (k : ℕ). get nat_eq log.begun k) ≡ flush_in past = λ j k. f.begun k j in
    let notes : is_noted log ≡ (λ (k i : ℕ). was_noted k i past) = λ j k i. f.noted k i j in
    record {
      begun = λ number. begun number ∙ ap (λ (o : Option Record). if is_flush number r.reply then Some r else o) (f.begun number);
      noted = λ number integration.
          noted number integration ∙ ap (λ (b : Bool). is_note number integration r.call || b) (f.noted number integration);
      logged = λ name integration.
          let old : Option LastEntry = in_table log name integration in
          logged name integration
          ∙ ap (λ (b : ℕ → Option Record). entry_after name integration r new.clock old (logs_by b (is_noted log) name integration r.call))
          flushes
          ∙ ap (λ (n : ℕ → ℕ → Bool). entry_after name integration r new.clock old (logs_by (flush_in past) n name integration r.call))
          notes
          ∙ ap (λ (b : Bool). entry_after name integration r new.clock old b) (logs_by-is name integration past r.call)
          ∙ ap (λ (t : ℕ). entry_after name integration r t old (logs name integration past r.call)) at
          ∙ ap (λ (o : Option LastEntry). entry_after name integration r (time_at (r ∷ past)) o (logs name integration past r.call))
          (f.logged name integration);
      clock = at;
    }
