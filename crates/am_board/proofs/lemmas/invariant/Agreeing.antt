-- States that are one except for the order of the rows of the log: each call is answered alike, and leads to such states again.
use Rattle.std.proofs.Common.{◌≡◌, ℕ, Bool, true, false, ◌&&◌, nat_le, Option, Some, None, List, [], ◌∷◌, length, fold, map, filter, count_by, refl, sym, ap, ◌∙◌, subst, if◌then◌else◌}
use Rattle.std.specs.Prelude.{IsPermutation}
use Rattle.std.specs.List.{IsDistinct}
use Rattle.std.specs.Option.{option_map}
use Rattle.std.proofs.lemmas.List.Elements.{All-weaker}
use Rattle.std.proofs.lemmas.List.Sorted.{IsPermutation-refl, IsPermutation-sym, IsPermutation-trans, length_permutation}
use Rattle.am_alerts.specs.AlertData.{AlertData}
use Rattle.am_alerts.specs.Labels.{same_label_set}
use Rattle.am_alerts.specs.declared.labels.Label.{Label}
use Rattle.am_mute.specs.Silence.{SilenceData}
use Rattle.am_nflog.specs.Members.{is_empty}
use Rattle.am_nflog.specs.Needed.{needed}
use Rattle.am_retry.specs.declared.outcome.Outcome.{Outcome}
use Rattle.am_model.proofs.lists.Words.{IsDistinct-upsert}
use Rattle.am_model.specs.Begin.{entry_of, notified_about, notified_of, firing_of, resolved_of, label_sets, reply_notifying, reply_taking, after_notifying, after_taking, taken, next_due}
use Rattle.am_model.specs.Causes.{insert_cause, silence_cause, begin_cause, maintain_cause, removal_cause, forget_cause, load_cause, note_cause, notifies_some, opens_by, is_full}
use Rattle.am_model.specs.Configured.{route_of, route_muted, integrations_of}
use Rattle.am_model.specs.Ticket.{TicketData}
use Rattle.am_model.specs.Finish.{same_key, log_with, row_at, rows_after, logged_by, after_finish_of}
use Rattle.am_model.specs.Laws.{IsConsistent, IsHeld}
use Rattle.am_model.specs.Load.{may_load, loaded, loaded_over, is_put, rows_loading}
use Rattle.am_model.specs.look_back.Preview.{muted_of, preview_at}
use Rattle.am_model.specs.look_back.Reasons.{reason_by_entry, reason_where}
use Rattle.am_model.specs.Note.{may_note, after_note, after_note_of}
use Rattle.am_model.specs.Replay.{reply, after_call}
use Rattle.am_model.specs.State.{GroupState, NotifiedState, FlushState, State, at_time, time, flush_numbered}
use Rattle.am_model.specs.Maintenance.{has_no_alerts, has_expired}
use Rattle.am_model.specs.Views.{row_views, group_views, summary_at}
use Rattle.am_model.specs.declared.config.Config.{Config}
use Rattle.am_model.specs.declared.config.Integration.{Integration}
use Rattle.am_model.specs.declared.fault.Fault.TheVariants.{TooManyOpen, HistoryFull}
use Rattle.am_model.specs.declared.group.GroupName.{GroupName}
use Rattle.am_model.specs.declared.record.Call.{Call}
use Rattle.am_model.specs.declared.record.Call.TheVariants.{Insert, Silence, Begin, Finish, Maintain, RemoveEmptyGroups, Forget, Load, Note}
use Rattle.am_model.specs.declared.record.Reply.TheVariants as reply_is
use Rattle.am_model.specs.declared.views.RowView.{RowView}
use Rattle.am_board.specs.Refinement.{EqualUpToRowOrder}
use Rattle.am_model.proofs.lists.Exchanges.{upsert-permutation, count_by-permutation, without-permutation, IsDistinct-permutation}
use Rattle.am_model.proofs.states.InOrder.{in_order-rows}
use Rattle.am_board.proofs.lemmas.invariant.LogRows.{find_row-permutation, entry_of-permutation}
use Rattle.am_model.proofs.states.Alike.{same_key_equiv}

-- a state with its rows in another order
abbrev with_rows : List RowView → State → State
with_rows rows s = record s { rows = rows }

rows_after-fold : (config : Config) (t : ℕ) (f : FlushState) (notified : List NotifiedState) (xs ys : List RowView) → IsPermutation xs ys → IsDistinct same_key xs
    → IsPermutation (fold (λ log a. log_with (row_at config t f a.integration) log) xs notified) (fold (λ log a. log_with (row_at config t f a.integration) log) ys notified)
rows_after-fold config t f [] xs ys moved apart = moved
rows_after-fold config t f (a ∷ notified) xs ys moved apart =
    let row = row_at config t f a.integration in
    rows_after-fold config t f notified (log_with row xs) (log_with row ys) (upsert-permutation same_key same_key_equiv row xs ys moved apart) (IsDistinct-upsert same_key same_key_equiv row xs apart)

-- a finish logs the same rows, whatever the order of those before
pub rows_after-permutation : (config : Config) (t : ℕ) (outcomes : List (ℕ × Outcome)) (f : FlushState) (xs ys : List RowView) → IsPermutation xs ys → IsDistinct same_key xs → IsPermutation (rows_after config t outcomes f xs) (rows_after config t outcomes f ys)
rows_after-permutation config t outcomes f = rows_after-fold config t f (logged_by outcomes f)

module _ (config : Config) (s : State) (rows : List RowView) (moved : IsPermutation rows s.rows) (apart : IsDistinct same_key rows) where
  notified_about-rows : (t : ℕ) (name : GroupName) (firing resolved : List (List Label)) → notified_about config (with_rows rows s) t name firing resolved ≡ notified_about config s t name firing resolved
  notified_about-rows t name firing resolved =
      λ j. if is_empty firing && is_empty resolved then [] else filter (λ (i : ℕ × Integration). needed same_label_set (entry_of-permutation rows s.rows moved apart name i.0 j) firing resolved i.1.send_resolved (route_of config name).repeat_interval t) (integrations_of config name)

  notified_of-rows : (t : ℕ) (g : GroupState) → notified_of config (with_rows rows s) t g ≡ notified_of config s t g
  notified_of-rows t g = notified_about-rows t g.name (label_sets (firing_of config s t g)) (label_sets (resolved_of config s t g))

  reply_notifying-rows : (id t : ℕ) (g : GroupState) (notified : List (ℕ × Integration)) → reply_notifying config id (with_rows rows s) t g notified ≡ reply_notifying config id s t g notified
  reply_notifying-rows id t g [] = refl
  reply_notifying-rows id t g (i ∷ is) = refl

  reply_taking-rows : (id t : ℕ) (o : Option GroupState) → reply_taking config id (with_rows rows s) t o ≡ reply_taking config id s t o
  reply_taking-rows id t None = refl
  reply_taking-rows id t (Some g) = ap (reply_notifying config id (with_rows rows s) t g) (notified_of-rows t g) ∙ reply_notifying-rows id t g (notified_of config s t g)

  -- what becomes of a row that is loaded is the same
  loaded-rows : (t : ℕ) (row : RowView) → loaded rows t row ≡ loaded s.rows t row
  loaded-rows t row = ap (loaded_over t row) (find_row-permutation rows s.rows moved apart row.group row.integration)

  reply-rows : (id : ℕ) (c : Call) → reply config id (with_rows rows s) c ≡ reply config id s c
  reply-rows id (Insert now alert) = refl
  reply-rows id (Silence now number matchers start end) = refl
  reply-rows id (Begin now) = ap Some (reply_taking-rows id (time s now) (taken s (time s now)))
  reply-rows id (Finish now number outcomes) = refl
  reply-rows id (Maintain now) = ap (λ n. Some (reply_is.Maintained (record { groups = count_by has_no_alerts s.groups; entries = n }))) (sym (count_by-permutation (has_expired (time s now)) rows s.rows moved))
  reply-rows id (RemoveEmptyGroups now) = refl
  reply-rows id (Forget now) = refl
  reply-rows id (Load now row) = ap (λ l. if may_load config (time s now) row then Some (reply_is.Loaded l) else None) (loaded-rows (time s now) row)
  reply-rows id (Note now number integration outcome) = refl

  preview_at-rows : (t : ℕ) → preview_at config (with_rows rows s) t ≡ preview_at config s t
  preview_at-rows t = λ j. option_map (λ g. record {
    time = t;
    group = g.name;
    muted = muted_of config s t g;
    reasons = map (λ (i : ℕ × Integration). reason_where (route_muted config g.name t) (reason_by_entry (find_row-permutation rows s.rows moved apart g.name i.0 j)
        (label_sets (firing_of config s t g)) (label_sets (resolved_of config s t g)) i.1.send_resolved (route_of config g.name).repeat_interval t))
        (integrations_of config g.name);
  }) (taken s t)

  -- ---- the states after a call

  after_notifying-rows : (t : ℕ) (g : GroupState) (notified : List (ℕ × Integration)) → EqualUpToRowOrder (after_notifying config (with_rows rows s) t g notified) (after_notifying config s t g notified)
  after_notifying-rows t g [] = record { rows = moved; rest = refl }
  after_notifying-rows t g (i ∷ is) = record { rows = moved; rest = refl }

  after_taking-rows : (t : ℕ) (o : Option GroupState) → EqualUpToRowOrder (after_taking config (with_rows rows s) t o) (after_taking config s t o)
  after_taking-rows t None = record { rows = moved; rest = refl }
  after_taking-rows t (Some g) =
      subst (λ l. EqualUpToRowOrder (after_notifying config (with_rows rows s) t g l) (after_notifying config s t g (notified_of config s t g))) (sym (notified_of-rows t g)) (after_notifying-rows t g (notified_of config s t g))

  after_finish_of-rows : (t : ℕ) (outcomes : List (ℕ × Outcome)) (o : Option FlushState) → EqualUpToRowOrder (after_finish_of config (with_rows rows s) t outcomes o) (after_finish_of config s t outcomes o)
  after_finish_of-rows t outcomes None = record { rows = moved; rest = refl }
  after_finish_of-rows t outcomes (Some f) = record { rows = rows_after-permutation config t outcomes f rows s.rows moved apart; rest = refl }

  after_note_of-rows : (t integration : ℕ) (outcome : Option Outcome) (o : Option FlushState) → EqualUpToRowOrder (after_note_of config (with_rows rows s) t integration outcome o) (after_note_of config s t integration outcome o)
  after_note_of-rows t integration outcome None = record { rows = moved; rest = refl }
  after_note_of-rows t integration outcome (Some f) =
      elim (may_note integration outcome f) as (λ b. EqualUpToRowOrder (if b then after_note config (with_rows rows s) t integration f else at_time (with_rows rows s) t) (if b then after_note config s t integration f else at_time s t)) [
        | true ↦ record { rows = upsert-permutation same_key same_key_equiv (row_at config t f integration) rows s.rows moved apart; rest = refl }
        | false ↦ record { rows = moved; rest = refl }
      ]

  rows_loading-rows : (t : ℕ) (row : RowView) → IsPermutation (rows_loading config rows t row) (rows_loading config s.rows t row)
  rows_loading-rows t row =
      let after : Bool → List RowView → List RowView = λ b rs. if b then log_with row rs else rs in
      subst (λ l. IsPermutation (after (may_load config t row && is_put l) rows) (rows_loading config s.rows t row)) (sym (loaded-rows t row))
      (elim (may_load config t row && is_put (loaded s.rows t row)) as (λ b. IsPermutation (after b rows) (after b s.rows)) [
        | true ↦ upsert-permutation same_key same_key_equiv row rows s.rows moved apart
        | false ↦ moved
      ])

  after_call-rows : (c : Call) → EqualUpToRowOrder (after_call config (with_rows rows s) c) (after_call config s c)
  after_call-rows (Insert now alert) = record { rows = moved; rest = refl }
  after_call-rows (Silence now number matchers start end) = record { rows = moved; rest = refl }
  after_call-rows (Begin now) = after_taking-rows (time s now) (taken s (time s now))
  after_call-rows (Finish now number outcomes) = after_finish_of-rows (time s now) outcomes (flush_numbered s.flushes number)
  after_call-rows (Maintain now) = record { rows = without-permutation (has_expired (time s now)) rows s.rows moved; rest = refl }
  after_call-rows (RemoveEmptyGroups now) = record { rows = moved; rest = refl }
  after_call-rows (Forget now) = record { rows = moved; rest = refl }
  after_call-rows (Load now row) = record { rows = rows_loading-rows (time s now) row; rest = refl }
  after_call-rows (Note now number integration outcome) = after_note_of-rows (time s now) integration outcome (flush_numbered s.flushes number)

  -- ---- why calls are refused

  opens_by-rows : (t : ℕ) (o : Option GroupState) → opens_by config (with_rows rows s) t o ≡ opens_by config s t o
  opens_by-rows t None = refl
  opens_by-rows t (Some g) = ap notifies_some (notified_of-rows t g)

  begin_cause-rows : (records t : ℕ) → begin_cause config records (with_rows rows s) t ≡ begin_cause config records s t
  begin_cause-rows records t =
      ap (λ b. if is_full config records s 2 then Some HistoryFull else (if nat_le config.limits.flushes (length s.flushes) && b then Some TooManyOpen else None)) (opens_by-rows t (taken s t))

-- what holds of the one holds of the other
consistent-rows : (s : State) (rows : List RowView) → IsDistinct same_key rows → IsConsistent s → IsConsistent (with_rows rows s)
consistent-rows s rows apart h =
    record {
      clock = h.clock;
      known = h.known;
      groups = h.groups;
      members = h.members;
      stamps = h.stamps;
      silences = h.silences;
      rows = apart;
      flushes = h.flushes;
      numbers = h.numbers;
      held = All-weaker (IsHeld s) (IsHeld (with_rows rows s)) (λ f k. record { number = k.number; notified = k.notified; each_once = k.each_once; alive = k.alive }) s.flushes h.held;
    }

module _ (a : State) where
  pub EqualUpToRowOrder-refl : EqualUpToRowOrder a a
  EqualUpToRowOrder-refl = record { rows = IsPermutation-refl a.rows; rest = refl }

module _ (a b : State) (agrees : EqualUpToRowOrder a b) where
  -- what holds of b with the rows of a holds of a
  from_rows : (P : State → Type 0) → P (with_rows a.rows b) → P a
  from_rows P h = subst P (sym agrees.rest) h

  pub EqualUpToRowOrder-trans : (c : State) → EqualUpToRowOrder b c → EqualUpToRowOrder a c
  EqualUpToRowOrder-trans c other =
      record {
        rows = IsPermutation-trans a.rows b.rows c.rows agrees.rows other.rows;
        rest = agrees.rest ∙ ap (with_rows a.rows) other.rest;
      }

  pub EqualUpToRowOrder-sym : EqualUpToRowOrder b a
  EqualUpToRowOrder-sym = record { rows = IsPermutation-sym a.rows b.rows agrees.rows; rest = sym (ap (with_rows b.rows) agrees.rest) }

  pub IsDistinct-agrees : IsDistinct same_key a.rows → IsDistinct same_key b.rows
  IsDistinct-agrees h = IsDistinct-permutation same_key same_key_equiv a.rows b.rows agrees.rows h

  -- from the other's
  pub IsDistinct-agrees_back : IsDistinct same_key b.rows → IsDistinct same_key a.rows
  IsDistinct-agrees_back h = IsDistinct-permutation same_key same_key_equiv b.rows a.rows (IsPermutation-sym a.rows b.rows agrees.rows) h

  pub IsConsistent-agrees : IsConsistent b → IsConsistent a
  IsConsistent-agrees h = from_rows IsConsistent (consistent-rows b a.rows (IsDistinct-agrees_back h.rows) h)

  pub insert_cause-agrees : (config : Config) (records : ℕ) (alert : AlertData) → insert_cause config records a alert ≡ insert_cause config records b alert
  insert_cause-agrees config records alert = ap (λ s. insert_cause config records s alert) agrees.rest

  pub silence_cause-agrees : (config : Config) (records : ℕ) (silence : SilenceData) → silence_cause config records a silence ≡ silence_cause config records b silence
  silence_cause-agrees config records silence = ap (λ s. silence_cause config records s silence) agrees.rest

  pub maintain_cause-agrees : (config : Config) (records : ℕ) → maintain_cause config records a ≡ maintain_cause config records b
  maintain_cause-agrees config records = ap (λ s. maintain_cause config records s) agrees.rest

  pub removal_cause-agrees : (config : Config) (records : ℕ) → removal_cause config records a ≡ removal_cause config records b
  removal_cause-agrees config records = ap (λ s. removal_cause config records s) agrees.rest

  pub forget_cause-agrees : (config : Config) (records : ℕ) → forget_cause config records a ≡ forget_cause config records b
  forget_cause-agrees config records = ap (λ s. forget_cause config records s) agrees.rest

  pub load_cause-agrees : (config : Config) (records t : ℕ) (row : RowView) → load_cause config records a t row ≡ load_cause config records b t row
  load_cause-agrees config records t row = ap (λ s. load_cause config records s t row) agrees.rest

  pub note_cause-agrees : (config : Config) (id records : ℕ) (ticket : TicketData) (index : ℕ) → note_cause config id records a ticket index ≡ note_cause config id records b ticket index
  note_cause-agrees config id records ticket index = ap (λ s. note_cause config id records s ticket index) agrees.rest

  pub group_views-agrees : group_views a ≡ group_views b
  group_views-agrees = ap group_views agrees.rest

  pub next_due-agrees : next_due a ≡ next_due b
  next_due-agrees = ap next_due agrees.rest

  pub summary_at-agrees : (n : ℕ) → summary_at n a ≡ summary_at n b
  summary_at-agrees n = ap (summary_at n) agrees.rest ∙ ap (λ m. record (summary_at n b) { entries = m }) (sym (length_permutation a.rows b.rows agrees.rows))

  module _ (apart : IsDistinct same_key a.rows) where
    pub entry_of-agrees : (name : GroupName) (integration : ℕ) → entry_of a.rows name integration ≡ entry_of b.rows name integration
    entry_of-agrees = entry_of-permutation a.rows b.rows agrees.rows apart

    pub reply-agrees : (config : Config) (id : ℕ) (c : Call) → reply config id a c ≡ reply config id b c
    reply-agrees config id c = from_rows (λ s. reply config id s c ≡ reply config id b c) (reply-rows config b a.rows agrees.rows apart id c)

    pub after_call-agrees : (config : Config) (c : Call) → EqualUpToRowOrder (after_call config a c) (after_call config b c)
    after_call-agrees config c = from_rows (λ s. EqualUpToRowOrder (after_call config s c) (after_call config b c)) (after_call-rows config b a.rows agrees.rows apart c)

    pub begin_cause-agrees : (config : Config) (records t : ℕ) → begin_cause config records a t ≡ begin_cause config records b t
    begin_cause-agrees config records t = from_rows (λ s. begin_cause config records s t ≡ begin_cause config records b t) (begin_cause-rows config b a.rows agrees.rows apart records t)

    pub notified_of-agrees : (config : Config) (t : ℕ) (g : GroupState) → notified_of config a t g ≡ notified_of config b t g
    notified_of-agrees config t g = from_rows (λ s. notified_of config s t g ≡ notified_of config b t g) (notified_of-rows config b a.rows agrees.rows apart t g)

    pub preview_at-agrees : (config : Config) (t : ℕ) → preview_at config a t ≡ preview_at config b t
    preview_at-agrees config t = from_rows (λ s. preview_at config s t ≡ preview_at config b t) (preview_at-rows config b a.rows agrees.rows apart t)

    pub row_views-agrees : row_views a ≡ row_views b
    row_views-agrees = in_order-rows a.rows b.rows agrees.rows apart
