-- What isn't silenced at one time isn't at a later one, if no silence starts in between.
use Rattle.std.proofs.Common.{◌≡◌, ℕ, ◌<◌, ◌≤◌, inl, inr, true, false, true≢false, List, get_or, ◌++◌, ◌∷◌, [], sym, ◌∙◌, arith}
use Rattle.std.specs.Prelude.{All, nat_le, nat_lt}
use Rattle.std.proofs.lemmas.Bool.{and_from, and_parts, false_from_ne_true, leb-true, le-leb, ltb-true, lt-ltb}
use Rattle.std.proofs.lemmas.List.Folds.{list_any_at, list_any_none}
use Rattle.std.proofs.lemmas.List.Elements.{All-append, All-cons, All-nil, All-weaker}
use Rattle.am_alerts.specs.Matcher.{match_all}
use Rattle.am_alerts.specs.declared.labels.Label.{Label}
use Rattle.am_mute.specs.Silence.{SilenceData, is_active, is_silenced, silence_mutes}
use Rattle.am_board.specs.Unsilenced.{IsUnsilenced, StartsOutside}

module _ (since until t : ℕ) (from : since ≤ t) (before : t < until) where
  started : (s : SilenceData) (u : ℕ) → StartsOutside since until s → s.start ≤ u → u < until → s.start ≤ t
  started s u outside starts less = elim outside [
    | inl early ↦ omega (arith, early, from)
    | inr late ↦ omega (arith, late, starts, less)
  ]

  -- a silence that mutes a label set later in the span mutes it now
  mutes_now : (s : SilenceData) (labels : List Label) (u : ℕ) → StartsOutside since until s → t ≤ u → u < until
      → silence_mutes s u labels ≡ true → silence_mutes s t labels ≡ true
  mutes_now s labels u outside later less mutes =
      let parts = and_parts (is_active s u) (match_all s.matchers labels) mutes in
      let bounds = and_parts (nat_le s.start u) (nat_lt u s.end) parts.0 in
      let starts : s.start ≤ t = started s u outside (leb-true s.start u bounds.0) less in
      let ends : u < s.end = ltb-true u s.end bounds.1 in
      and_from (is_active s t) (match_all s.matchers labels)
      (and_from (nat_le s.start t) (nat_lt t s.end) (le-leb s.start t starts) (lt-ltb t s.end (omega (arith, later, ends)))) parts.1

  -- so a label set that isn't silenced now isn't later in the span
  pub stays_unsilenced : (silences : List SilenceData) (labels : List Label) → All (StartsOutside since until) silences
      → is_silenced labels t silences ≡ false → IsUnsilenced silences t until labels
  stays_unsilenced silences labels outside now u later less =
      list_any_none (λ (s : SilenceData). silence_mutes s u labels) silences
      (λ i d within. false_from_ne_true (silence_mutes (get_or silences i d) u labels) (λ mutes.
      true≢false (sym (list_any_at (λ (s : SilenceData). silence_mutes s t labels) silences i d within
      (mutes_now (get_or silences i d) labels u (outside i d within) later less mutes)) ∙ now)))

  outside_later : (s : SilenceData) → StartsOutside since until s → StartsOutside t until s
  outside_later s outside = elim outside [
    | inl early ↦ inl (omega (arith, early, from))
    | inr late ↦ inr late
  ]

  -- what is noted still counts where the span begins now
  pub starts_later : (silences : List SilenceData) → All (StartsOutside since until) silences → All (StartsOutside t until) silences
  starts_later silences outside = All-weaker (StartsOutside since until) (StartsOutside t until) outside_later silences outside

  pub sets_later : (silences : List SilenceData) (sets : List (List Label)) → All (IsUnsilenced silences since until) sets
      → All (IsUnsilenced silences t until) sets
  sets_later silences sets are =
      All-weaker (IsUnsilenced silences since until) (IsUnsilenced silences t until)
      (λ labels is u later less. is u (omega (arith, from, later)) less) sets are

  -- one more label set that isn't silenced now is noted
  pub sets_more : (silences : List SilenceData) (sets : List (List Label)) (labels : List Label) → All (StartsOutside since until) silences
      → All (IsUnsilenced silences since until) sets → is_silenced labels t silences ≡ false
      → All (IsUnsilenced silences t until) (sets ++ labels ∷ [])
  sets_more silences sets labels outside are now =
      let P = IsUnsilenced silences t until in
      All-append P sets (labels ∷ []) (sets_later silences sets are)
      (All-cons P labels [] (stays_unsilenced silences labels outside now) (All-nil P))
