-- Each row of the log can be loaded under its own configuration, and so can those that another configuration takes over for it.
use Rattle.std.proofs.Common.{◌≡◌, ℕ, ◌+◌, ◌<◌, ◌≤◌, Bool, true, false, cond, ◌&&◌, nat_le, nat_lt, Option, Some, None, List, [], ◌∷◌, length, filter, find, fold, not, unwrap_or, refl, subst, arith}
use Rattle.std.specs.Prelude.{All, ◌==◌}
use Rattle.std.specs.List.{enumerate_from, AllByRecursion, IsDistinct}
use Rattle.std.proofs.lemmas.Bool.{and_from, and_parts, eqb-true, le-leb, leb-true, lt-ltb}
use Rattle.std.proofs.lemmas.List.Sorted.{All-permutation}
use Rattle.am_alerts.specs.Labels.{label_set_cmp}
use Rattle.am_alerts.specs.RoutingTree.{last_of, routes_of}
use Rattle.am_alerts.specs.declared.labels.Label.{Label}
use Rattle.am_alerts.specs.declared.limits.TheConstants.{MAX_TIME}
use Rattle.am_alerts.proofs.Positions.{routes_of-exist}
use Rattle.am_nflog.specs.Members.{is_ascending, is_empty}
use Rattle.am_retry.specs.declared.outcome.Outcome.{Outcome}
use Rattle.am_model.specs.declared.config.Config.{Config}
use Rattle.am_model.specs.declared.config.Integration.{Integration}
use Rattle.am_model.specs.declared.group.GroupName.{GroupName}
use Rattle.am_model.specs.declared.record.Call.{Call}
use Rattle.am_model.specs.declared.record.Call.TheVariants.{Insert, Silence, Begin, Finish, Maintain, RemoveEmptyGroups, Forget, Load, Note}
use Rattle.am_model.specs.declared.record.Record.{Record}
use Rattle.am_model.specs.declared.views.RowView.{RowView}
use Rattle.am_model.specs.Begin.{due_cmp, may_begin, taken, label_sets, firing_of, resolved_of, needs, notified_of, notified_state, flush_notifying, begun_group, without_resolved, after_notifying, after_taking}
use Rattle.am_model.specs.Carry.{carried}
use Rattle.am_model.specs.Configured.{route_of, integrations_named, integrations_of}
use Rattle.am_model.specs.Finish.{same_key, log_with, row_at, has_succeeded, logged_by, finished_group, after_finish_of}
use Rattle.am_model.specs.Insert.{same_group, same_member, name_in, names_for, next_stamp, new_group, group_or_new, group_with, put_into_group}
use Rattle.am_model.specs.Laws.{RowsMayBeLoaded, DispatcherChangesMayBeLoaded, IsConsistent}
use Rattle.am_model.specs.Lists.{in_order, changed_where}
use Rattle.am_model.specs.Load.{has_integration, is_ordered, may_load, loaded, is_put, rows_loading}
use Rattle.am_model.specs.Note.{may_be_noted, may_note, as_noted, with_note, after_note, after_note_of}
use Rattle.am_model.specs.Replay.{after, after_call, replay, replay_from}
use Rattle.am_model.specs.State.{NotifiedState, MemberState, FlushState, GroupState, State, opening_state, at_time, time, is_named, flush_numbered}
use Rattle.am_model.specs.Maintenance.{has_expired, has_no_alerts}
use Rattle.am_model.specs.Views.{row_cmp}
use Rattle.am_model.proofs.configuration.Carried.{carried_rows_may_be_loaded}
use Rattle.am_model.proofs.legal.Consistent.{consistent_after, consistent_replay}
use Rattle.am_model.proofs.legal.ConsistentState.{IsTidy, consistent_to}
use Rattle.am_model.proofs.lists.Distinct.{all_from, all_to, all-filter, all-find, all-least, all-map, all-push, all-weaker, find-passes}
use Rattle.am_model.proofs.lists.Words.{all-upsert, in_order-moves}
use Rattle.am_model.proofs.states.InOrder.{firing-ascends, resolved-ascends}

module _ (config : Config) where
  abbrev MayLoad : ℕ → RowView → Type 0
  MayLoad t row = may_load config t row ≡ true

  -- what can be loaded can be loaded later too
  loads-later : (t u : ℕ) (row : RowView) → t ≤ u → MayLoad t row → MayLoad u row
  loads-later t u row more may =
      let fit = has_integration config row && is_ordered row in
      let parts = and_parts fit (nat_le row.time t) may in
      and_from fit (nat_le row.time u) parts.0 (le-leb row.time u (omega (arith, leb-true row.time t parts.1, more)))

  rows-later : (t u : ℕ) (rows : List RowView) → t ≤ u → AllByRecursion (MayLoad t) rows → AllByRecursion (MayLoad u) rows
  rows-later t u rows more all = all-weaker (MayLoad t) (MayLoad u) (λ row may. loads-later t u row more may) rows all

  -- a group's route is one of the configuration
  abbrev IsRouted : GroupState → Type 0
  IsRouted g = g.name.route ≤ last_of config.routes

  -- the row that a flush logs for one that it notified can be loaded at its time
  abbrev IsLoggable : FlushState → NotifiedState → Type 0
  IsLoggable f a = (t : ℕ) → MayLoad t (row_at config t f a.integration)

  abbrev AreLoggable : FlushState → Type 0
  AreLoggable f = AllByRecursion (IsLoggable f) f.notified

  record IsLoadable (s : State) : Type 0 where
    pub rows : AllByRecursion (MayLoad s.clock) s.rows
    pub groups : AllByRecursion IsRouted s.groups
    pub flushes : AllByRecursion AreLoggable s.flushes

  -- ---- groups

  -- the group of a name, made if it is missing
  routed-or_new : (t : ℕ) (gs : List GroupState) (name : GroupName) → name.route ≤ last_of config.routes → AllByRecursion IsRouted gs → IsRouted (group_or_new config t gs name)
  routed-or_new t gs name there all =
      elim (find (is_named name) gs) as (λ o. find (is_named name) gs ≡ o → IsRouted (unwrap_or o (new_group config t name))) [
        | None ↦ λ e. there
        | Some g ↦ λ e. all-find IsRouted (is_named name) g gs all e
      ] refl

  inserting : (t : ℕ) (m : MemberState) (names : List GroupName) (gs : List GroupState) → AllByRecursion (λ name. name.route ≤ last_of config.routes) names → AllByRecursion IsRouted gs
      → AllByRecursion IsRouted (fold (put_into_group config t m) gs names)
  inserting t m [] gs there all = all
  inserting t m (name ∷ names) gs there all =
      inserting t m names (put_into_group config t m gs name) there.1
      (all-upsert same_group (group_with config t m (group_or_new config t gs name)) IsRouted gs (routed-or_new t gs name there.0 all) all)

  -- the groups of an alert are of its routes
  names-routed : (labels : List Label) → AllByRecursion (λ name. name.route ≤ last_of config.routes) (names_for config labels)
  names-routed labels =
      let routes = routes_of config.routes labels in
      all-map (name_in config labels) (λ (name : GroupName). name.route ≤ last_of config.routes) routes
      (all_to (λ (p : ℕ). p ≤ last_of config.routes) routes (routes_of-exist config.routes labels))

  groups-changed : (test : GroupState → Bool) (change : GroupState → GroupState) → ((g : GroupState) → IsRouted g → IsRouted (change g)) → (gs : List GroupState)
      → AllByRecursion IsRouted gs → AllByRecursion IsRouted (changed_where test change gs)
  groups-changed test change keeps gs all =
      all-map (λ g. cond (test g) (change g) g) IsRouted gs (all-weaker IsRouted (λ g. IsRouted (cond (test g) (change g) g)) (λ g h. by g h (test g)) gs all)
    where
      by : (g : GroupState) → IsRouted g → (b : Bool) → IsRouted (cond b (change g) g)
      by g h true = keeps g h
      by g h false = h

  -- ---- a begin

  indexes-within : {X : Type 0} (n : ℕ) (xs : List X) → AllByRecursion (λ p. p.0 < n + length xs) (enumerate_from n xs)
  indexes-within n [] = tt
  indexes-within {X} n (x ∷ xs) =
      let P : ℕ × X → Type 0 = λ p. p.0 < n + 1 + length xs in
      (omega arith, all-weaker P (λ p. p.0 < n + length (x ∷ xs)) (λ p h. omega (arith, h)) (enumerate_from (n + 1) xs) (indexes-within (n + 1) xs))

  abbrev its_integrations : GroupName → List Integration
  its_integrations name = integrations_named (route_of config name).receiver config.receivers

  module _ (s : State) (t : ℕ) (g : GroupState) (routed : IsRouted g) (apart : IsDistinct same_member g.members) where
    notified-within : AllByRecursion (λ i. i.0 < 0 + length (its_integrations g.name)) (notified_of config s t g)
    notified-within =
        let P : ℕ × Integration → Type 0 = λ i. i.0 < 0 + length (its_integrations g.name) in
        let firing = label_sets (firing_of config s t g) in
        let resolved = label_sets (resolved_of config s t g) in
        let all = integrations_of config g.name in
        elim (is_empty firing && is_empty resolved) as (λ b. AllByRecursion P (cond b [] (filter (needs config s t g.name firing resolved) all))) [
          | true ↦ tt
          | false ↦ all-filter P (needs config s t g.name firing resolved) all (indexes-within 0 (its_integrations g.name))
        ]

    opened : (notified : List (ℕ × Integration)) → AllByRecursion (λ i. i.0 < 0 + length (its_integrations g.name)) notified → AreLoggable (flush_notifying config s t g notified)
    opened notified within =
        let f = flush_notifying config s t g notified in
        all-map (notified_state config s t g) (IsLoggable f) notified
        (all-weaker (λ i. i.0 < 0 + length (its_integrations g.name)) (λ i. IsLoggable f (notified_state config s t g i)) one notified within)
      where
        one : (i : ℕ × Integration) → i.0 < 0 + length (its_integrations g.name) → (u : ℕ) → MayLoad u (row_at config u (flush_notifying config s t g notified) i.0)
        one i below u =
            let row = row_at config u (flush_notifying config s t g notified) i.0 in
            and_from (has_integration config row && is_ordered row) (nat_le u u)
            (and_from (has_integration config row) (is_ordered row)
            (and_from (nat_le g.name.route (last_of config.routes)) (nat_lt i.0 (length (its_integrations g.name)))
            (le-leb g.name.route (last_of config.routes) routed) (lt-ltb i.0 (length (its_integrations g.name)) (omega (arith, below))))
            (and_from (is_ascending label_set_cmp row.firing) (is_ascending label_set_cmp row.resolved) (firing-ascends config s t g apart) (resolved-ascends config s t g apart)))
            (le-leb u u (omega arith))

    notifying : (notified : List (ℕ × Integration)) → AllByRecursion (λ i. i.0 < 0 + length (its_integrations g.name)) notified → s.clock ≤ t → IsLoadable s → IsLoadable (after_notifying config s t g notified)
    notifying [] within more h =
        record {
          rows = rows-later s.clock t s.rows more h.rows;
          groups = groups-changed (is_named g.name) (λ k. without_resolved t (begun_group config t k)) (λ k there. there) s.groups h.groups;
          flushes = h.flushes;
        }
    notifying (i ∷ is) within more h =
        record {
          rows = rows-later s.clock t s.rows more h.rows;
          groups = groups-changed (is_named g.name) (begun_group config t) (λ k there. there) s.groups h.groups;
          flushes = all-push AreLoggable s.flushes (flush_notifying config s t g (i ∷ is)) h.flushes (opened (i ∷ is) within);
        }

  at : (s : State) (t : ℕ) → s.clock ≤ t → IsLoadable s → IsLoadable (at_time s t)
  at s t more h = record { rows = rows-later s.clock t s.rows more h.rows; groups = h.groups; flushes = h.flushes }

  taking : (s : State) (t : ℕ) (o : Option GroupState) → taken s t ≡ o → s.clock ≤ t → IsConsistent s → IsLoadable s → IsLoadable (after_taking config s t o)
  taking s t None e more consistent h = at s t more h
  taking s t (Some g) e more consistent h =
      let due = filter (may_begin s t) s.groups in
      let routed = all-least IsRouted due_cmp g due (all-filter IsRouted (may_begin s t) s.groups h.groups) e in
      let tidy = all-least (IsTidy s.inserts) due_cmp g due (all-filter (IsTidy s.inserts) (may_begin s t) s.groups (consistent_to s consistent).tidy) e in
      notifying s t g routed tidy.members (notified_of config s t g) (notified-within s t g routed tidy.members) more h

  -- ---- a finish, a note and a load

  logged : (t : ℕ) (f : FlushState) (notified : List NotifiedState) (rows : List RowView) → AllByRecursion (IsLoggable f) notified → AllByRecursion (MayLoad t) rows
      → AllByRecursion (MayLoad t) (fold (λ log a. log_with (row_at config t f a.integration) log) rows notified)
  logged t f [] rows loggable all = all
  logged t f (a ∷ notified) rows loggable all =
      logged t f notified (log_with (row_at config t f a.integration) rows) loggable.1
      (all-upsert same_key (row_at config t f a.integration) (MayLoad t) rows (loggable.0 t) all)

  finishing : (s : State) (t number : ℕ) (outcomes : List (ℕ × Outcome)) (o : Option FlushState) → flush_numbered s.flushes number ≡ o → s.clock ≤ t → IsLoadable s
      → IsLoadable (after_finish_of config s t outcomes o)
  finishing s t number outcomes None e more h = at s t more h
  finishing s t number outcomes (Some f) e more h =
      let own = all-find AreLoggable (λ k. k.number == number) f s.flushes h.flushes e in
      record {
        rows =
            logged t f (logged_by outcomes f) s.rows (all-filter (IsLoggable f) (λ a. has_succeeded outcomes a && not a.noted) f.notified own)
            (rows-later s.clock t s.rows more h.rows);
        groups = groups-changed (is_named f.group) (finished_group outcomes f) (λ k there. there) s.groups h.groups;
        flushes = all-filter AreLoggable (λ k. not (k.number == f.number)) s.flushes h.flushes;
      }

  -- a note leaves whom a flush notified
  noted-loggable : (integration : ℕ) (f : FlushState) → AreLoggable f → AreLoggable (with_note integration f)
  noted-loggable integration f all =
      all-map (λ a. cond (a.integration == integration) (as_noted a) a) (IsLoggable f) f.notified
      (all-weaker (IsLoggable f) (λ a. IsLoggable f (cond (a.integration == integration) (as_noted a) a)) (λ a h. by a h (a.integration == integration)) f.notified all)
    where
      by : (a : NotifiedState) → IsLoggable f a → (b : Bool) → IsLoggable f (cond b (as_noted a) a)
      by a h true = h
      by a h false = h

  -- who can be noted was notified
  note-loads : (t integration : ℕ) (outcome : Option Outcome) (f : FlushState) → may_note integration outcome f ≡ true → AreLoggable f → MayLoad t (row_at config t f integration)
  note-loads t integration outcome f may all =
      elim (find (λ (a : NotifiedState). a.integration == integration) f.notified) as (λ o. find (λ (a : NotifiedState). a.integration == integration) f.notified ≡ o → may_be_noted outcome o ≡ true → MayLoad t (row_at config t f integration)) [
        | None ↦ λ e no. absurd (cc)
        | Some a ↦ λ e _.
            let same = eqb-true a.integration integration (find-passes (λ (k : NotifiedState). k.integration == integration) a f.notified e) in
            subst (λ (n : ℕ). MayLoad t (row_at config t f n)) same (all-find (IsLoggable f) (λ k. k.integration == integration) a f.notified all e t)
      ] refl may

  noting : (s : State) (t number integration : ℕ) (outcome : Option Outcome) (o : Option FlushState) → flush_numbered s.flushes number ≡ o → s.clock ≤ t → IsLoadable s
      → IsLoadable (after_note_of config s t integration outcome o)
  noting s t number integration outcome None e more h = at s t more h
  noting s t number integration outcome (Some f) e more h =
      elim (may_note integration outcome f) as (λ b. may_note integration outcome f ≡ b → IsLoadable (cond b (after_note config s t integration f) (at_time s t))) [
        | true ↦ λ may. record {
          rows =
              all-upsert same_key (row_at config t f integration) (MayLoad t) s.rows
              (note-loads t integration outcome f may (all-find AreLoggable (λ k. k.number == number) f s.flushes h.flushes e))
              (rows-later s.clock t s.rows more h.rows);
          groups = h.groups;
          flushes =
              all-map (λ k. cond (k.number == f.number) (with_note integration k) k) AreLoggable s.flushes
              (all-weaker AreLoggable (λ k. AreLoggable (cond (k.number == f.number) (with_note integration k) k)) (λ k all. by k all (k.number == f.number)) s.flushes h.flushes);
        }
        | false ↦ λ may. at s t more h
      ] refl
    where
      by : (k : FlushState) → AreLoggable k → (b : Bool) → AreLoggable (cond b (with_note integration k) k)
      by k all true = noted-loggable integration k all
      by k all false = all

  loading : (rows : List RowView) (t : ℕ) (row : RowView) → AllByRecursion (MayLoad t) rows → AllByRecursion (MayLoad t) (rows_loading config rows t row)
  loading rows t row all =
      elim (may_load config t row && is_put (loaded rows t row)) as (λ b. (may_load config t row && is_put (loaded rows t row)) ≡ b → AllByRecursion (MayLoad t) (cond b (log_with row rows) rows)) [
        | true ↦ λ e. all-upsert same_key row (MayLoad t) rows (and_parts (may_load config t row) (is_put (loaded rows t row)) e).0 all
        | false ↦ λ e. all
      ] refl

  -- ---- any list of records

  time-later : (s : State) (now : ℕ) → s.clock ≤ time s now
  time-later s now = omega arith

  call : (s : State) (c : Call) → IsConsistent s → IsLoadable s → IsLoadable (after_call config s c)
  call s (Insert now a) consistent h =
      let t = time s now in
      record {
        rows = rows-later s.clock t s.rows (time-later s now) h.rows;
        groups = inserting t (record { alert = a; stamp = next_stamp s }) (names_for config a.labels) s.groups (names-routed a.labels) h.groups;
        flushes = h.flushes;
      }
  call s (Silence now number matchers start end) consistent h =
      record { rows = rows-later s.clock (time s now) s.rows (time-later s now) h.rows; groups = h.groups; flushes = h.flushes }
  call s (Begin now) consistent h = taking s (time s now) (taken s (time s now)) refl (time-later s now) consistent h
  call s (Finish now number outcomes) consistent h = finishing s (time s now) number outcomes (flush_numbered s.flushes number) refl (time-later s now) h
  call s (Maintain now) consistent h =
      let t = time s now in
      record {
        rows = all-filter (MayLoad t) (λ row. not (has_expired t row)) s.rows (rows-later s.clock t s.rows (time-later s now) h.rows);
        groups = all-filter IsRouted (λ g. not (has_no_alerts g)) s.groups h.groups;
        flushes = h.flushes;
      }
  call s (RemoveEmptyGroups now) consistent h =
      record {
        rows = rows-later s.clock (time s now) s.rows (time-later s now) h.rows;
        groups = all-filter IsRouted (λ g. not (has_no_alerts g)) s.groups h.groups;
        flushes = h.flushes;
      }
  call s (Forget now) consistent h =
      record { rows = rows-later s.clock (time s now) s.rows (time-later s now) h.rows; groups = h.groups; flushes = h.flushes }
  call s (Load now row) consistent h =
      record {
        rows = loading s.rows (time s now) row (rows-later s.clock (time s now) s.rows (time-later s now) h.rows);
        groups = h.groups;
        flushes = h.flushes;
      }
  call s (Note now number integration outcome) consistent h =
      noting s (time s now) number integration outcome (flush_numbered s.flushes number) refl (time-later s now) h

  each : (s : State) (history : List Record) → IsConsistent s → IsLoadable s → IsLoadable (replay_from config s history)
  each s [] consistent h = h
  each s (r ∷ history) consistent h = each (after config s r) history (consistent_after config s r consistent) (call s r.call consistent h)

  pub rows-load : (history : List Record) (t : ℕ) → (replay config history).clock ≤ t → AllByRecursion (MayLoad t) (replay config history).rows
  rows-load history t later =
      let s = replay config history in
      rows-later s.clock t s.rows later (each opening_state history (consistent_replay config []) (record { rows = tt; groups = tt; flushes = tt })).rows

pub rows_may_be_loaded : RowsMayBeLoaded
rows_may_be_loaded config history t later = all_from (λ row. may_load config t row ≡ true) (replay config history).rows (rows-load config history t later)

-- a call that hands in the clock's time or a later one isn't before it
pub time-from : (s : State) (now clock : ℕ) → clock ≤ MAX_TIME → clock ≤ now → clock ≤ time s now
time-from s now clock within later = omega (arith, within, later)

pub dispatcher_changes_may_be_loaded : DispatcherChangesMayBeLoaded
dispatcher_changes_may_be_loaded old new history s now later =
    let rows = (replay old history).rows in
    let t = time s now in
    let from = time-from s now (replay old history).clock (consistent_replay old history).clock later in
    let P : RowView → Type 0 = λ row. All (λ taken. may_load new t taken ≡ true) (carried old new row) in
    All-permutation P rows (in_order row_cmp rows) (in_order-moves row_cmp rows)
    (all_from P rows (all-weaker (MayLoad old t) P (λ row may. carried_rows_may_be_loaded old new t row may) rows (rows-load old history t from)))
