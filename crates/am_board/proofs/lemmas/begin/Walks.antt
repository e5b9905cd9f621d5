-- A walk over the alerts of a group at indexes: one index more.
use Rattle.std.proofs.Common.{◌≡◌, ℕ, ◌+◌, ◌<◌, Bool, true, false, not, ◌++◌, ◌∷◌, [], Option, Some, None, List, get_or, length, map, filter, take, slice_get, refl, sym, ap, ◌∙◌, if◌then◌else◌}
use Rattle.std.specs.Prelude.{is_some}
use Rattle.std.specs.List.{cons_option, filter_map}
use Rattle.std.specs.Option.{option_and_then}
use Rattle.std.proofs.lemmas.List.{append-nil, map-append, take_more}
use Rattle.std.proofs.lemmas.List.Elements.{filter-append, filter_map-append}
use Rattle.am_alerts.specs.AlertData.{AlertData, alert_of, is_resolved}
use Rattle.am_mute.specs.Inhibit.{RuleData}
use Rattle.am_mute.specs.Mute.{is_muted}
use Rattle.am_mute.specs.declared.mute.MuteCause.{MuteCause}
use Rattle.am_model.specs.Begin.{copied}
use Rattle.am_model.specs.Lists.{without}
use Rattle.am_model.specs.State.{MemberState, State}
use Rattle.am_model.proofs.states.InOrder.{labels-copied}
use Rattle.am_board.specs.Beginning.{copies_at, copy_among, firing_among, resolved_among}
use Rattle.am_board.specs.Refinement.{member_state}
use Rattle.am_board.specs.Walk.{AreFound, cause_of, firing_if, listed_if, muted_at, muted_if, resolved_if}
use Rattle.am_board.specs.declared.group.Member.{Member}
use Rattle.am_board.specs.declared.walk.MutedIndex.{MutedIndex}
use Rattle.am_board.specs.declared.walk.Walk.{Walk}
use Rattle.am_board.proofs.lemmas.invariant.Order.{there_more}
use Rattle.am_board.proofs.lemmas.unsilenced.Muting.{is_some-cause}

module _ (rules : List RuleData) (s : State) (t : ℕ) where
  abbrev is_out : AlertData → Bool
  is_out a = is_muted a.labels t s.silences rules s.known

  copy-append : (xs ys : List Member) → copy_among rules s t (xs ++ ys) ≡ copy_among rules s t xs ++ copy_among rules s t ys
  copy-append xs ys =
      ap (λ l. without is_out (map (λ (m : MemberState). copied t m.alert) l)) (map-append member_state xs ys)
      ∙ ap (without is_out) (map-append (λ (m : MemberState). copied t m.alert) (map member_state xs) (map member_state ys))
      ∙ filter-append (λ a. not (is_out a)) (map (λ (m : MemberState). copied t m.alert) (map member_state xs)) (map (λ (m : MemberState). copied t m.alert) (map member_state ys))

  pub firing-append : (xs ys : List Member) → firing_among rules s t (xs ++ ys) ≡ firing_among rules s t xs ++ firing_among rules s t ys
  firing-append xs ys = ap (without (λ (a : AlertData). is_resolved a t)) (copy-append xs ys) ∙ filter-append (λ (a : AlertData). not (is_resolved a t)) (copy_among rules s t xs) (copy_among rules s t ys)

  pub resolved-append : (xs ys : List Member) → resolved_among rules s t (xs ++ ys) ≡ resolved_among rules s t xs ++ resolved_among rules s t ys
  resolved-append xs ys = ap (filter (λ (a : AlertData). is_resolved a t)) (copy-append xs ys) ∙ filter-append (λ (a : AlertData). is_resolved a t) (copy_among rules s t xs) (copy_among rules s t ys)

  resolved-copied : (a : AlertData) → is_resolved (copied t a) t ≡ is_resolved a t
  resolved-copied a = by (is_resolved a t) refl
    where
      by : (b : Bool) → is_resolved a t ≡ b → is_resolved (if b then a else alert_of a.labels a.starts None) t ≡ b
      by true e = e
      by false e = refl

  module _ (a : AlertData) where
    -- the copy of one alert where it is muted or not, and what of it fires or is resolved
    abbrev copy_if : Bool → List AlertData
    copy_if out = if not out then copied t a ∷ [] else []

    one_fires : (cause : Option MuteCause) (out over : Bool) → is_some cause ≡ out → is_resolved a t ≡ over → is_resolved (copied t a) t ≡ over
        → without (λ (x : AlertData). is_resolved x t) (copy_if out) ≡ firing_if t a cause
    one_fires None true over is e f = absurd (cc)
    one_fires None false over is e f =
        ap (λ b. if not b then copied t a ∷ [] else []) f ∙ either over ∙ sym (ap (λ b. if b then [] else copied t a ∷ []) e)
      where
        either : (b : Bool) → (if not b then copied t a ∷ [] else []) ≡ (if b then [] else copied t a ∷ [])
        either true = refl
        either false = refl
    one_fires (Some cause) true over is e f = refl
    one_fires (Some cause) false over is e f = absurd (cc)

    one_over : (cause : Option MuteCause) (out over : Bool) → is_some cause ≡ out → is_resolved a t ≡ over → is_resolved (copied t a) t ≡ over
        → filter (λ (x : AlertData). is_resolved x t) (copy_if out) ≡ resolved_if t a cause
    one_over None true over is e f = absurd (cc)
    one_over None false over is e f = ap (λ b. if b then copied t a ∷ [] else []) (f ∙ sym e)
    one_over (Some cause) true over is e f = refl
    one_over (Some cause) false over is e f = absurd (cc)

  module _ (m : Member) where
    out_is : is_some (cause_of rules s t m) ≡ is_out (copied t m.alert)
    out_is =
        is_some-cause m.alert.labels t s.silences rules s.known
        ∙ sym (ap (λ ls. is_muted ls t s.silences rules s.known) (labels-copied t m.alert))

    firing-one : firing_among rules s t (m ∷ []) ≡ firing_if t m.alert (cause_of rules s t m)
    firing-one = one_fires m.alert (cause_of rules s t m) (is_out (copied t m.alert)) (is_resolved m.alert t) out_is refl (resolved-copied m.alert)

    resolved-one : resolved_among rules s t (m ∷ []) ≡ resolved_if t m.alert (cause_of rules s t m)
    resolved-one = one_over m.alert (cause_of rules s t m) (is_out (copied t m.alert)) (is_resolved m.alert t) out_is refl (resolved-copied m.alert)

  module _ (ms : List Member) (ps : List ℕ) (i : ℕ) (within : i < length ps) (causes : Bool) (walk : Walk) (before : AreFound rules s t ms (take i ps) causes walk) where
    abbrev so_far : List Member
    so_far = filter_map (slice_get ms) (take i ps)

    muted_more : (b : Bool) (muted : List MutedIndex) → muted ≡ (if b then filter_map (muted_at (cause_of rules s t) ms) (take i ps) else [])
        → (o : Option Member) → slice_get ms (get_or ps i 0) ≡ o
        → (if b then filter_map (muted_at (cause_of rules s t) ms) (take (i + 1) ps) else [])
        ≡ muted ++ (if b then cons_option (option_and_then (λ m. muted_if (get_or ps i 0) (cause_of rules s t m)) o) [] else [])
    muted_more true muted is o at =
        ap (filter_map (muted_at (cause_of rules s t) ms)) (take_more ps i 0 within)
        ∙ filter_map-append (muted_at (cause_of rules s t) ms) (take i ps) (get_or ps i 0 ∷ [])
        ∙ ap (λ l. l ++ cons_option (muted_at (cause_of rules s t) ms (get_or ps i 0)) []) (sym is)
        ∙ ap (λ p. muted ++ cons_option (option_and_then (λ m. muted_if (get_or ps i 0) (cause_of rules s t m)) p) []) at
    muted_more false muted is o at = sym (append-nil muted ∙ is)

    -- an alert is at the next index
    pub found_more : (m : Member) → slice_get ms (get_or ps i 0) ≡ Some m → (new : Walk)
        → copies_at t new.firing.items ≡ copies_at t walk.firing.items ++ firing_if t m.alert (cause_of rules s t m)
        → copies_at t new.resolved.items ≡ copies_at t walk.resolved.items ++ resolved_if t m.alert (cause_of rules s t m)
        → new.muted.items ≡ walk.muted.items ++ listed_if causes (get_or ps i 0) (cause_of rules s t m)
        → AreFound rules s t ms (take (i + 1) ps) causes new
    found_more m at new fire gone mute =
        let more : filter_map (slice_get ms) (take (i + 1) ps) ≡ so_far ++ m ∷ [] = there_more ms ps i (Some m) within at in
        record {
          firing =
              fire ∙ ap (λ l. l ++ firing_if t m.alert (cause_of rules s t m)) before.firing ∙ ap (λ l. firing_among rules s t so_far ++ l) (sym (firing-one m))
              ∙ sym (ap (firing_among rules s t) more ∙ firing-append so_far (m ∷ []));
          resolved =
              gone ∙ ap (λ l. l ++ resolved_if t m.alert (cause_of rules s t m)) before.resolved ∙ ap (λ l. resolved_among rules s t so_far ++ l) (sym (resolved-one m))
              ∙ sym (ap (resolved_among rules s t) more ∙ resolved-append so_far (m ∷ []));
          muted = mute ∙ sym (muted_more causes walk.muted.items before.muted (Some m) at);
        }

    -- none is
    pub found_same : slice_get ms (get_or ps i 0) ≡ None → AreFound rules s t ms (take (i + 1) ps) causes walk
    found_same at =
        let same : filter_map (slice_get ms) (take (i + 1) ps) ≡ so_far = there_more ms ps i None within at ∙ append-nil so_far in
        record {
          firing = before.firing ∙ sym (ap (firing_among rules s t) same);
          resolved = before.resolved ∙ sym (ap (resolved_among rules s t) same);
          muted = sym (muted_more causes walk.muted.items before.muted None at ∙ ap (λ l. walk.muted.items ++ l) (neither causes []) ∙ append-nil walk.muted.items);
        }
      where
        neither : (b : Bool) (l : List MutedIndex) → (if b then l else l) ≡ l
        neither true l = refl
        neither false l = refl

-- ---- an alert where causes aren't wanted

-- a muted alert is listed nowhere
pub firing-muted : (t : ℕ) (a : AlertData) (cause : Option MuteCause) → is_some cause ≡ true → firing_if t a cause ≡ []
firing-muted t a None e = absurd (cc)
firing-muted t a (Some cause) e = refl

pub resolved-muted : (t : ℕ) (a : AlertData) (cause : Option MuteCause) → is_some cause ≡ true → resolved_if t a cause ≡ []
resolved-muted t a None e = absurd (cc)
resolved-muted t a (Some cause) e = refl

-- nothing mutes one that isn't muted
pub cause-none : (cause : Option MuteCause) → is_some cause ≡ false → None ≡ cause
cause-none None e = refl
cause-none (Some cause) e = absurd (cc)
