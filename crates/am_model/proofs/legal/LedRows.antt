-- Each row of the log has an alert that goes to its group, where each that was loaded has one; so a restart keeps the log.
use Rattle.std.proofs.Common.{◌≡◌, ℕ, Bool, true, false, true≢false, cond, not, ◌&&◌, nat_le, Option, Some, None, List, [], ◌∷◌, ◌++◌, filter, fold, map, refl, ap, ◌∙◌, arith}
use Rattle.std.specs.Prelude.{◌==◌}
use Rattle.std.specs.List.{list_any, AllByRecursion}
use Rattle.std.proofs.lemmas.Bool.{and_parts, or_left}
use Rattle.std.proofs.lemmas.List.Sorted.{All-permutation}
use Rattle.am_alerts.specs.AlertData.{AlertData, is_resolved}
use Rattle.am_alerts.specs.declared.labels.Label.{Label}
use Rattle.am_mute.specs.Mute.{is_muted}
use Rattle.am_nflog.specs.Members.{is_empty}
use Rattle.am_retry.specs.declared.outcome.Outcome.{Outcome}
use Rattle.am_model.specs.declared.config.Config.{Config}
use Rattle.am_model.specs.declared.config.Integration.{Integration}
use Rattle.am_model.specs.declared.record.Call.{Call}
use Rattle.am_model.specs.declared.record.Call.TheVariants.{Insert, Silence, Begin, Finish, Maintain, RemoveEmptyGroups, Forget, Load, Note}
use Rattle.am_model.specs.declared.record.Record.{Record}
use Rattle.am_model.specs.declared.views.RowView.{RowView}
use Rattle.am_model.specs.Begin.{alert_cmp, due_cmp, may_begin, taken, copied, copy_under, copy_of, label_sets, firing_of, resolved_of, needs, notified_of, flush_notifying, after_notifying, after_taking}
use Rattle.am_model.specs.Carry.{carried, is_led_to}
use Rattle.am_model.specs.Configured.{integrations_of, route_muted, rules_of}
use Rattle.am_model.specs.Finish.{same_key, log_with, row_at, logged_by, after_finish_of}
use Rattle.am_model.specs.Insert.{names_for}
use Rattle.am_model.specs.Laws.{LoadsAreLed, RowsAreLed, RestartsKeepRows, IsConsistent}
use Rattle.am_model.specs.Lists.{in_order, unless, without}
use Rattle.am_model.specs.Load.{has_integration, is_ordered, may_load, loaded, is_put, rows_loading}
use Rattle.am_model.specs.look_back.Entry.{row_in}
use Rattle.am_model.specs.Note.{may_note, with_note, after_note, after_note_of}
use Rattle.am_model.specs.Replay.{after, after_call, replay, replay_from}
use Rattle.am_model.specs.State.{NotifiedState, MemberState, FlushState, GroupState, State, opening_state, at_time, time, same_name, flush_numbered}
use Rattle.am_model.specs.Maintenance.{has_expired}
use Rattle.am_model.specs.Views.{row_cmp}
use Rattle.am_model.proofs.configuration.Carried.{restarts_carry_rows}
use Rattle.am_model.proofs.legal.Consistent.{consistent_after, consistent_replay}
use Rattle.am_model.proofs.legal.ConsistentState.{consistent_to}
use Rattle.am_model.proofs.legal.KnownMembers.{IsKnown, AreKnown, KnowsAll, known_call}
use Rattle.am_model.proofs.legal.LoadableRows.{rows-load}
use Rattle.am_model.proofs.lists.Distinct.{all_from, all_to, all-both, all-filter, all-find, all-least, all-map, all-push, all-weaker}
use Rattle.am_model.proofs.lists.Words.{all-upsert, in_order-moves}
use Rattle.am_model.proofs.states.InOrder.{labels-copied}

-- where each label set passes and there is one, some label set passes
any-of : (test : List Label → Bool) (firing resolved : List (List Label)) → (is_empty firing && is_empty resolved) ≡ false
    → AllByRecursion (λ labels. test labels ≡ true) firing → AllByRecursion (λ labels. test labels ≡ true) resolved → list_any test (firing ++ resolved) ≡ true
any-of test [] [] some fire over = absurd (true≢false some)
any-of test [] (x ∷ xs) some fire over = or_left (test x) (list_any test xs) over.0
any-of test (x ∷ xs) ys some fire over = or_left (test x) (list_any test (xs ++ ys)) fire.0

module _ (config : Config) where
  abbrev IsLed : RowView → Type 0
  IsLed row = is_led_to config row ≡ true

  -- an alert of a flush goes to its group
  abbrev leads : FlushState → List Label → Bool
  leads f labels = list_any (same_name f.group) (names_for config labels)

  abbrev HasAlert : FlushState → Type 0
  HasAlert f = list_any (leads f) (f.firing ++ f.resolved) ≡ true

  record HasLedRows (s : State) : Type 0 where
    pub rows : AllByRecursion IsLed s.rows
    pub flushes : AllByRecursion HasAlert s.flushes

  -- ---- a begin

  module _ (s : State) (t : ℕ) (g : GroupState) where
    abbrev goes : List Label → Bool
    goes labels = list_any (same_name g.name) (names_for config labels)

    abbrev Goes : AlertData → Type 0
    Goes a = goes a.labels ≡ true

    copied-goes : AllByRecursion (λ m. Goes m.alert) g.members → AllByRecursion Goes (copy_of config s t g)
    copied-goes all =
        by (route_muted config g.name t) (all-filter Goes (λ a. not (is_muted a.labels t s.silences (rules_of config) s.known)) (map (λ m. copied t m.alert) g.members)
        (all-map (λ (m : MemberState). copied t m.alert) Goes g.members
        (all-weaker (λ m. Goes m.alert) (λ m. Goes (copied t m.alert)) (λ m h. ap goes (labels-copied t m.alert) ∙ h) g.members all)))
      where
        by : (muted : Option ℕ) → AllByRecursion Goes (copy_under (rules_of config) s t g) → AllByRecursion Goes (unless muted (copy_under (rules_of config) s t g))
        by None h = h
        by (Some until) h = tt

    -- the label sets of alerts in order
    sets-go : (xs : List AlertData) → AllByRecursion Goes xs → AllByRecursion (λ labels. goes labels ≡ true) (label_sets (in_order alert_cmp xs))
    sets-go xs all =
        all-map (λ (a : AlertData). a.labels) (λ (labels : List Label). goes labels ≡ true) (in_order alert_cmp xs)
        (all_to Goes (in_order alert_cmp xs) (All-permutation Goes xs (in_order alert_cmp xs) (in_order-moves alert_cmp xs) (all_from Goes xs all)))

    -- one that notifies somebody has an alert
    notifies-about : (i : ℕ × Integration) (is : List (ℕ × Integration)) → notified_of config s t g ≡ i ∷ is
        → (is_empty (label_sets (firing_of config s t g)) && is_empty (label_sets (resolved_of config s t g))) ≡ false
    notifies-about i is notified =
        let firing = label_sets (firing_of config s t g) in
        let resolved = label_sets (resolved_of config s t g) in
        elim (is_empty firing && is_empty resolved) as (λ b. (cond b [] (filter (needs config s t g.name firing resolved) (integrations_of config g.name))) ≡ i ∷ is → b ≡ false) [
          | true ↦ λ e. absurd (cc)
          | false ↦ λ e. refl
        ] notified

    opened : (i : ℕ × Integration) (is : List (ℕ × Integration)) → notified_of config s t g ≡ i ∷ is → AllByRecursion (λ m. Goes m.alert) g.members → HasAlert (flush_notifying config s t g (i ∷ is))
    opened i is notified all =
        let copy = copy_of config s t g in
        let each = copied-goes all in
        any-of goes (label_sets (firing_of config s t g)) (label_sets (resolved_of config s t g)) (notifies-about i is notified)
        (sets-go (without (λ a. is_resolved a t) copy) (all-filter Goes (λ a. not (is_resolved a t)) copy each))
        (sets-go (filter (λ a. is_resolved a t) copy) (all-filter Goes (λ a. is_resolved a t) copy each))

    notifying : (notified : List (ℕ × Integration)) → notified_of config s t g ≡ notified → AllByRecursion (λ m. Goes m.alert) g.members → HasLedRows s → HasLedRows (after_notifying config s t g notified)
    notifying [] is all h = record { rows = h.rows; flushes = h.flushes }
    notifying (i ∷ more) is all h =
        record {
          rows = h.rows;
          flushes = all-push HasAlert s.flushes (flush_notifying config s t g (i ∷ more)) h.flushes (opened i more is all);
        }

  at : (s : State) (t : ℕ) → HasLedRows s → HasLedRows (at_time s t)
  at s t h = record { rows = h.rows; flushes = h.flushes }

  taking : (s : State) (t : ℕ) (o : Option GroupState) → taken s t ≡ o → KnowsAll config s → HasLedRows s → HasLedRows (after_taking config s t o)
  taking s t None e known h = at s t h
  taking s t (Some g) e known h =
      let stamps = known.0 in
      let due = filter (may_begin s t) s.groups in
      let each : AreKnown config s.known stamps g =
      all-least (AreKnown config s.known stamps) due_cmp g due (all-filter (AreKnown config s.known stamps) (may_begin s t) s.groups known.1) e in
      notifying s t g (notified_of config s t g) refl (all-weaker (IsKnown config s.known stamps g.name) (λ m. Goes s t g m.alert) (λ m k. k.routed) g.members each) h

  -- ---- a finish, a note and a load

  logged : (t : ℕ) (f : FlushState) (notified : List NotifiedState) (rows : List RowView) → HasAlert f → AllByRecursion IsLed rows
      → AllByRecursion IsLed (fold (λ log a. log_with (row_at config t f a.integration) log) rows notified)
  logged t f [] rows own all = all
  logged t f (a ∷ notified) rows own all =
      logged t f notified (log_with (row_at config t f a.integration) rows) own (all-upsert same_key (row_at config t f a.integration) IsLed rows own all)

  finishing : (s : State) (t number : ℕ) (outcomes : List (ℕ × Outcome)) (o : Option FlushState) → flush_numbered s.flushes number ≡ o → HasLedRows s → HasLedRows (after_finish_of config s t outcomes o)
  finishing s t number outcomes None e h = at s t h
  finishing s t number outcomes (Some f) e h =
      record {
        rows = logged t f (logged_by outcomes f) s.rows (all-find HasAlert (λ k. k.number == number) f s.flushes h.flushes e) h.rows;
        flushes = all-filter HasAlert (λ k. not (k.number == f.number)) s.flushes h.flushes;
      }

  noting : (s : State) (t number integration : ℕ) (outcome : Option Outcome) (o : Option FlushState) → flush_numbered s.flushes number ≡ o → HasLedRows s
      → HasLedRows (after_note_of config s t integration outcome o)
  noting s t number integration outcome None e h = at s t h
  noting s t number integration outcome (Some f) e h =
      elim (may_note integration outcome f) as (λ b. HasLedRows (cond b (after_note config s t integration f) (at_time s t))) [
        | true ↦ record {
          rows = all-upsert same_key (row_at config t f integration) IsLed s.rows (all-find HasAlert (λ k. k.number == number) f s.flushes h.flushes e) h.rows;
          flushes =
              all-map (λ k. cond (k.number == f.number) (with_note integration k) k) HasAlert s.flushes
              (all-weaker HasAlert (λ k. HasAlert (cond (k.number == f.number) (with_note integration k) k)) (λ k own. by k own (k.number == f.number)) s.flushes h.flushes);
        }
        | false ↦ at s t h
      ]
    where
      by : (k : FlushState) → HasAlert k → (b : Bool) → HasAlert (cond b (with_note integration k) k)
      by k own true = own
      by k own false = own

  loading : (rows : List RowView) (t : ℕ) (row : RowView) → IsLed row → AllByRecursion IsLed rows → AllByRecursion IsLed (rows_loading config rows t row)
  loading rows t row led all =
      elim (may_load config t row && is_put (loaded rows t row)) as (λ b. AllByRecursion IsLed (cond b (log_with row rows) rows)) [
        | true ↦ all-upsert same_key row IsLed rows led all
        | false ↦ all
      ]

  -- ---- any list of records

  abbrev IsLedCall : Call → Type 0
  IsLedCall c = (row : RowView) → row_in c ≡ Some row → IsLed row

  call : (s : State) (c : Call) → IsLedCall c → KnowsAll config s → HasLedRows s → HasLedRows (after_call config s c)
  call s (Insert now a) led known h = record { rows = h.rows; flushes = h.flushes }
  call s (Silence now number matchers start end) led known h = record { rows = h.rows; flushes = h.flushes }
  call s (Begin now) led known h = taking s (time s now) (taken s (time s now)) refl known h
  call s (Finish now number outcomes) led known h = finishing s (time s now) number outcomes (flush_numbered s.flushes number) refl h
  call s (Maintain now) led known h =
      record { rows = all-filter IsLed (λ row. not (has_expired (time s now) row)) s.rows h.rows; flushes = h.flushes }
  call s (RemoveEmptyGroups now) led known h = record { rows = h.rows; flushes = h.flushes }
  call s (Forget now) led known h = record { rows = h.rows; flushes = h.flushes }
  call s (Load now row) led known h = record { rows = loading s.rows (time s now) row (led row refl) h.rows; flushes = h.flushes }
  call s (Note now number integration outcome) led known h =
      noting s (time s now) number integration outcome (flush_numbered s.flushes number) refl h

  each : (s : State) (history : List Record) → AllByRecursion (λ r. IsLedCall r.call) history → IsConsistent s → KnowsAll config s → HasLedRows s → HasLedRows (replay_from config s history)
  each s [] led consistent known h = h
  each s (r ∷ history) led consistent known h =
      each (after config s r) history led.1 (consistent_after config s r consistent) (known_call config s r.call (consistent_to s consistent) known) (call s r.call led.0 known h)

  rows-led : (history : List Record) → LoadsAreLed config history → AllByRecursion IsLed (replay config history).rows
  rows-led history led =
      (each opening_state history (all_to (λ (r : Record). IsLedCall r.call) history led) (consistent_replay config []) ((λ labels. 0), tt) (record { rows = tt; flushes = tt })).rows

pub rows_are_led : RowsAreLed
rows_are_led config history led = all_from (λ row. is_led_to config row ≡ true) (replay config history).rows (rows-led config history led)

pub restarts_keep_rows : RestartsKeepRows
restarts_keep_rows config history led =
    let s = replay config history in
    let P : RowView → Type 0 = λ row. carried config config row ≡ row ∷ [] in
    All-permutation P s.rows (in_order row_cmp s.rows) (in_order-moves row_cmp s.rows)
    (all_from P s.rows
    (all-both (λ row. may_load config s.clock row ≡ true) (λ row. is_led_to config row ≡ true) P
    (λ row may leads.
    let fit = (and_parts (has_integration config row && is_ordered row) (nat_le row.time s.clock) may).0 in
    restarts_carry_rows config row (and_parts (has_integration config row) (is_ordered row) fit).0 leads)
    s.rows (rows-load config history s.clock (omega arith)) (rows-led config history led)))
