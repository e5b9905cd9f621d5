-- A begin notifies an integration exactly if there is a reason to.
use Rattle.std.proofs.Common.{◌≡◌, ℕ, ◌+◌, ◌<◌, ◌≤◌, Bool, true, false, cond, not, ◌&&◌, ◌||◌, Option, Some, None, List, [], ◌∷◌, map, refl, sym, ap, ◌∙◌, arith, if◌then◌else◌}
use Rattle.std.specs.Prelude.{filter, ◌==◌, nat_lt}
use Rattle.std.specs.List.{AllByRecursion, enumerate_from, list_any}
use Rattle.std.specs.Option.{option_map}
use Rattle.std.proofs.lemmas.Bool.{ne_eqb, ltb-false, lt-ltb, le-ltb}
use Rattle.std.proofs.lemmas.Cmp.{nat_eq_equiv}
use Rattle.am_alerts.specs.AlertData.{AlertData, is_resolved}
use Rattle.am_alerts.specs.Labels.{same_label_set}
use Rattle.am_alerts.specs.declared.labels.Label.{Label}
use Rattle.am_mute.specs.Mute.{is_muted}
use Rattle.am_nflog.specs.Members.{is_empty, is_subset}
use Rattle.am_nflog.specs.Needed.{is_update, needed, update_reason}
use Rattle.am_nflog.specs.declared.update.UpdateReason.{UpdateReason}
use Rattle.am_nflog.specs.declared.update.UpdateReason.TheVariants as update
use Rattle.am_model.specs.declared.config.Config.{Config}
use Rattle.am_model.specs.declared.config.Integration.{Integration}
use Rattle.am_model.specs.declared.group.GroupName.{GroupName}
use Rattle.am_model.specs.declared.reason.Reason.{Reason}
use Rattle.am_model.specs.declared.reason.Reason.TheVariants.{FirstNotice, NewAlert, AllResolved, NewlyResolved, Repeat, NothingLeft, NothingFiring, NotYet, RouteMuted}
use Rattle.am_model.specs.declared.record.Record.{Record}
use Rattle.am_model.specs.declared.views.RowView.{RowView}
use Rattle.am_model.specs.Begin.{alert_cmp, label_sets, log_row}
use Rattle.am_model.specs.Lists.{in_order, unless, without}
use Rattle.am_model.specs.Configured.{rules_of, route_of, route_muted, integrations_of, integrations_named}
use Rattle.am_model.specs.look_back.Entry.{known_in, silences_in, present_in, without_end, firing_in, resolved_in, entry_in}
use Rattle.am_model.specs.look_back.Laws.{EveryLegalHistory, notified_after, NotifiesWhomNeeded}
use Rattle.am_model.specs.look_back.Past.{AtEach, past_of, time_at, notices_in}
use Rattle.am_model.specs.look_back.Reasons.{notifies, reason_by, reason_of_update, reason_about, reason_where, reason_in, is_notified_in, NotifiesForReasons, BeginsHaveReasons, NotYetEnds}
use Rattle.am_model.proofs.looking_back.reasons.Chains.{reason_by-chain, reason_chain}
use Rattle.am_model.proofs.looking_back.reasons.WhomNeeded.{begins_notify_exactly_whom_needed}
use Rattle.am_model.proofs.lists.Distinct.{all_from, all-weaker, all-both}
use Rattle.am_model.proofs.lists.Sets.{any-map}

-- ---- an update is needed exactly if the reason is one to ask

pub needed-notifies : (o : Option RowView) (firing resolved : List (List Label)) (send_resolved : Bool) (repeat t : ℕ)
    → needed same_label_set (option_map log_row o) firing resolved send_resolved repeat t
    ≡ notifies (reason_by o firing resolved send_resolved repeat t)
needed-notifies o firing resolved send_resolved repeat t =
    by (update_reason same_label_set (option_map log_row o) firing resolved send_resolved repeat t)
  where
    by : (reason : UpdateReason) → is_update reason ≡ notifies (reason_of_update repeat reason)
    by update.FirstNotice = refl
    by update.NewAlert = refl
    by update.AllResolved = refl
    by update.NewlyResolved = refl
    by update.Repeat = refl
    by update.NothingFiring = refl
    by (update.NotYet since) = refl

filter-none : {X : Type 0} (xs : List X) → filter (λ x. false) xs ≡ []
filter-none [] = refl
filter-none (x ∷ xs) = filter-none xs

module _ (config : Config) (name : GroupName) (t : ℕ) (past : List Record) (firing resolved : List (List Label)) where
  -- the entry of an integration, and the repeat interval
  abbrev its_entry : ℕ × Integration → Option RowView
  its_entry i = entry_in config name i.0 past

  abbrev repeat : ℕ
  repeat = (route_of config name).repeat_interval

  -- whether it needs an update by its entry, and its reason
  abbrev needs : ℕ × Integration → Bool
  needs i = needed same_label_set (option_map log_row (its_entry i)) firing resolved i.1.send_resolved repeat t

  abbrev reason_left : Bool → ℕ × Integration → Reason
  reason_left nothing i = if nothing then NothingLeft else reason_by (its_entry i) firing resolved i.1.send_resolved repeat t

  with-reasons : (nothing : Bool) (is : List (ℕ × Integration))
      → (if nothing then [] else map (λ i. i.0) (filter needs is)) ≡ map (λ i. i.0) (filter (λ i. notifies (reason_left nothing i)) is)
  with-reasons true is = ap (map (λ i. i.0)) (sym (filter-none is))
  with-reasons false is =
      λ j. map (λ i. i.0) (filter (λ (i : ℕ × Integration). needed-notifies (its_entry i) firing resolved i.1.send_resolved repeat t j) is)

-- the same where the route can be muted
module _ (config : Config) (name : GroupName) (t : ℕ) (past : List Record) where
  abbrev firing_then : List (List Label)
  firing_then = firing_in config name t past

  abbrev resolved_then : List (List Label)
  resolved_then = resolved_in config name t past

  abbrev unmuted : List AlertData
  unmuted =
      without (λ a. is_muted a.labels t (silences_in past) (rules_of config) (known_in past))
      (map (λ m. m.alert) (present_in config name past))

  abbrev notifying : Option ℕ → List ℕ
  notifying o =
      map (λ i. i.0)
      (filter (λ i. notifies (reason_where o (reason_about config name t past firing_then resolved_then i))) (integrations_of config name))

  notified-where : (o : Option ℕ) → route_muted config name t ≡ o → notified_after config name t past ≡ notifying (route_muted config name t)
  notified-where None e =
      with-reasons config name t past firing_then resolved_then (is_empty firing_then && is_empty resolved_then) (integrations_of config name)
      ∙ sym (ap notifying e)
  notified-where (Some until) e =
      let is = integrations_of config name in
      let none : firing_then ≡ [] =
      ap (λ o. label_sets (in_order alert_cmp (map without_end (without (λ a. is_resolved a t) (unless o unmuted))))) e in
      let gone : resolved_then ≡ [] = ap (λ o. label_sets (in_order alert_cmp (filter (λ a. is_resolved a t) (unless o unmuted)))) e in
      let needs_now = needs config name t past firing_then resolved_then in
      (λ j. if is_empty (none j) && is_empty (gone j) then [] else map (λ (i : ℕ × Integration). i.0) (filter needs_now is))
      ∙ ap (map (λ i. i.0)) (sym (filter-none is))
      ∙ sym (ap notifying e)

notified-reasons : (config : Config) (name : GroupName) (t : ℕ) (past : List Record)
    → notified_after config name t past ≡ map (λ i. i.0) (filter (λ i. notifies (reason_in config name t past i)) (integrations_of config name))
notified-reasons config name t past = notified-where config name t past (route_muted config name t) refl

-- ---- among elements with their positions, one that passes a test is found exactly if it passes

above : {X : Type 0} (position n : ℕ) → position < n → (xs : List X) → AllByRecursion (λ i. position < i.0) (enumerate_from n xs)
above position n below [] = tt
above position n below (x ∷ xs) = (below, above position (n + 1) (omega (arith, below)) xs)

module _ {X : Type 0} (test : ℕ × X → Bool) where
  -- whether there is one of this position that passes
  abbrev passes_at : ℕ → List (ℕ × X) → Bool
  passes_at position is = list_any (λ n. n == position) (map (λ i. i.0) (filter test is))

  -- one at another position is passed over
  one-more : (position : ℕ) (i : ℕ × X) (is : List (ℕ × X)) → (i.0 ≡ position → ⊥) → passes_at position (i ∷ is) ≡ passes_at position is
  one-more position i is other =
      let rest = filter test is in
      elim (test i) as (λ b. list_any (λ n. n == position) (map (λ i. i.0) (cond b (i ∷ rest) rest)) ≡ passes_at position is) [
        | true ↦ ap (λ b. b || passes_at position is) (ne_eqb i.0 position other)
        | false ↦ refl
      ]

  none-below : (position n : ℕ) → position < n → (xs : List X) → passes_at position (enumerate_from n xs) ≡ false
  none-below position n below [] = refl
  none-below position n below (x ∷ xs) =
      one-more position (n, x) (enumerate_from (n + 1) xs) (λ same. omega (arith, same, below))
      ∙ none-below position (n + 1) (omega (arith, below)) xs

  first-passes : (n : ℕ) (x : X) (xs : List X) → passes_at n (enumerate_from n (x ∷ xs)) ≡ test (n, x)
  first-passes n x xs =
      let rest = enumerate_from (n + 1) xs in
      elim (test (n, x)) as (λ b. list_any (λ m. m == n) (map (λ i. i.0) (cond b ((n, x) ∷ filter test rest) (filter test rest))) ≡ b) [
        | true ↦ ap (λ b. b || passes_at n rest) (nat_eq_equiv.refl n)
        | false ↦ none-below n (n + 1) (omega arith) xs
      ]

  each-passes : (n : ℕ) (xs : List X) → AllByRecursion (λ i. passes_at i.0 (enumerate_from n xs) ≡ test i) (enumerate_from n xs)
  each-passes n [] = tt
  each-passes n (x ∷ xs) =
      let rest = enumerate_from (n + 1) xs in
      let all = enumerate_from n (x ∷ xs) in (
        first-passes n x xs,
        all-both (λ i. n < i.0) (λ i. passes_at i.0 rest ≡ test i) (λ i. passes_at i.0 all ≡ test i)
            (λ i below is. one-more i.0 (n, x) rest (λ same. omega (arith, same, below)) ∙ is)
            rest (above n (n + 1) (omega arith) xs) (each-passes (n + 1) xs),
      )

-- ---- each begin

one_record : (config : Config) (r : Record) (past : List Record) → NotifiesWhomNeeded config r past → NotifiesForReasons config r past
one_record config r past notified =
    let t = time_at (r ∷ past) in
    record {
      each = λ name taken.
          let is = integrations_of config name in
          let test : ℕ × Integration → Bool = λ i. notifies (reason_in config name t past i) in
          let found = notified name taken ∙ notified-reasons config name t past in
          all_from (λ i. is_notified_in i.0 r.reply ≡ test i) is
          (all-weaker (λ i. passes_at test i.0 is ≡ test i) (λ i. is_notified_in i.0 r.reply ≡ test i)
          (λ i h. sym (any-map (λ n. n == i.0) (λ n. n.integration) (notices_in r.reply)) ∙ ap (list_any (λ n. n == i.0)) found ∙ h)
          is (each-passes test 0 (integrations_named (route_of config name).receiver config.receivers)));
      only = λ name taken. notified name taken ∙ notified-reasons config name t past;
    }

pub reasons_each : (config : Config) (past : List Record) → AtEach (NotifiesWhomNeeded config) past → AtEach (NotifiesForReasons config) past
reasons_each config [] each = tt
reasons_each config (r ∷ past) each = (one_record config r past each.0, reasons_each config past each.1)

pub begins_have_reasons : EveryLegalHistory BeginsHaveReasons
begins_have_reasons config id history legal = reasons_each config (past_of history) (begins_notify_exactly_whom_needed config id history legal)

-- ---- until when a notice isn't repeated

-- the time that a reason names
abbrev named_time : Reason → ℕ
named_time FirstNotice = 0
named_time NewAlert = 0
named_time AllResolved = 0
named_time NewlyResolved = 0
named_time Repeat = 0
named_time NothingLeft = 0
named_time NothingFiring = 0
named_time (NotYet from) = from
named_time (RouteMuted until) = 0

module _ (over from : ℕ) where
  -- a repeat after a time, and whether the reason stays so until another and is a repeat from then on
  abbrev repeat_at : ℕ → Reason
  repeat_at t = if nat_lt over t then Repeat else NotYet (over + 1)

  abbrev EndsAfter : (ℕ → Reason) → ℕ → Type 0
  EndsAfter reason_at t =
      (t < from) × ((later : ℕ) → (from ≤ later → reason_at later ≡ Repeat) × (later < from → reason_at later ≡ NotYet from))

  abbrev Ends : (ℕ → Reason) → Type 0
  Ends reason_at = (t : ℕ) → reason_at t ≡ NotYet from → EndsAfter reason_at t

  repeat-ends : Ends repeat_at
  repeat-ends t e =
      elim (nat_lt over t) as (λ b. nat_lt over t ≡ b → cond b Repeat (NotYet (over + 1)) ≡ NotYet from → EndsAfter repeat_at t) [
        | true ↦ λ is e. absurd (cc)
        | false ↦ λ is e.
            let same : over + 1 ≡ from = ap named_time e in
            let reached : t ≤ over = ltb-false over t is in (
              omega (arith, same, reached),
              λ later. (
                λ come. ap (λ b. cond b Repeat (NotYet (over + 1))) (lt-ltb over later (omega (arith, same, come))),
                λ before. ap (λ b. cond b Repeat (NotYet (over + 1))) (le-ltb over later (omega (arith, same, before))) ∙ ap NotYet same,
              ),
            )
      ] refl e

  -- so it is behind cases that don't depend on the time
  case-ends : (b : Bool) (reason : Reason) (reason_at : ℕ → Reason) → (reason ≡ NotYet from → ⊥)
      → Ends reason_at → Ends (λ t. cond b reason (reason_at t))
  case-ends true reason reason_at other ends t e = absurd (other e)
  case-ends false reason reason_at other ends t e = ends t e

-- so it is of the cases by an entry
chain-ends : (entry : Option RowView) (firing resolved : List (List Label)) (send_resolved : Bool) (repeat t from : ℕ)
    → reason_chain entry firing resolved send_resolved repeat t ≡ NotYet from
    → (t < from) × ((later : ℕ) → (from ≤ later → reason_chain entry firing resolved send_resolved repeat later ≡ Repeat)
    × (later < from → reason_chain entry firing resolved send_resolved repeat later ≡ NotYet from))
chain-ends None firing resolved send_resolved repeat t from e = absurd (by (is_empty firing) e)
  where
    by : (b : Bool) → cond b NothingFiring FirstNotice ≡ NotYet from → ⊥
    by true e = cc
    by false e = cc
chain-ends (Some row) firing resolved send_resolved repeat t from e =
    let over = row.time + repeat in
    let new = not (is_subset same_label_set firing row.firing) in
    let ended = send_resolved && not (is_subset same_label_set resolved row.resolved) in
    let last = case-ends over from ended NewlyResolved _ (λ e. cc) (repeat-ends over from) in
    let none = cond (is_empty row.firing) NothingFiring AllResolved in
    let middle = case-ends over from (is_empty firing) none _ (by (is_empty row.firing)) last in
    case-ends over from new NewAlert _ (λ e. cc) middle t e
  where
    by : (b : Bool) → cond b NothingFiring AllResolved ≡ NotYet from → ⊥
    by true e = cc
    by false e = cc

pub not_yet_ends : NotYetEnds
not_yet_ends entry firing resolved send_resolved repeat t from later e =
    let chain = reason_by-chain entry firing resolved send_resolved repeat in
    let ends = chain-ends entry firing resolved send_resolved repeat t from (sym (chain t) ∙ e) in
    (ends.0, λ come. chain later ∙ (ends.1 later).0 come, λ before. chain later ∙ (ends.1 later).1 before)
