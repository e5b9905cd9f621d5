-- A flush that is added twice does what it does once.
use Rattle.std.proofs.Common.{◌≡◌, ◌∙◌, ◌==◌, Bool, true, false, List, [], ◌∷◌, map, Option, Some, None, ap, refl, if◌then◌else◌, nat_lt, not, ℕ}
use Rattle.std.specs.Option.{option_map, option_map_or}
use Rattle.am_alerts.specs.AlertData.{has_come}
use Rattle.am_alerts.specs.declared.labels.Label.{Label}
use Rattle.am_undelivered.specs.declared.fate.Fate.{Fate}
use Rattle.am_undelivered.specs.declared.recipient.Recipient.{Recipient}
use Rattle.am_undelivered.specs.Spans.{FlushData, SpanData, SpansData, fate_at, flushed, flushed_span, joined, rank, notified, notified_by, position_for}

joined_twice : (p x : Fate) → joined (joined p x) x ≡ joined p x
joined_twice p x = by (nat_lt (rank x) (rank p)) refl
  where
    itself : (b : Bool) → (if b then x else x) ≡ x
    itself true = refl
    itself false = refl

    by : (b : Bool) → nat_lt (rank x) (rank p) ≡ b → joined (if b then p else x) x ≡ (if b then p else x)
    by true e = ap (λ b. if b then p else x) e
    by false e = itself (nat_lt (rank x) (rank x))

notified_twice : (r : Recipient) (fires : Bool) (fate : Fate) → notified (notified r fires fate) fires fate ≡ notified r fires fate
notified_twice r true fate = ap (λ p. record r { page = p }) (joined_twice r.page fate)
notified_twice r false fate = ap (λ p. record r { clear = p }) (joined_twice r.clear fate)

-- what it came to is the same, since it changes no integration's name
notified_by_same : (f : FlushData) (labels : List Label) (fires : Bool) (r : Recipient) (fate : Fate)
    → notified_by f labels fires (notified r fires fate)
    ≡ option_map_or (λ p. notified (notified r fires fate) fires (fate_at f labels fires p)) (position_for f r) (notified r fires fate)
notified_by_same f labels true r fate = refl
notified_by_same f labels false r fate = refl

notified_by_twice : (f : FlushData) (labels : List Label) (fires : Bool) (r : Recipient)
    → notified_by f labels fires (notified_by f labels fires r) ≡ notified_by f labels fires r
notified_by_twice f labels fires r = by (position_for f r) refl
  where
    fate : ℕ → Fate
    fate p = fate_at f labels fires p

    after : Option ℕ → Recipient
    after o = option_map_or (λ p. notified r fires (fate p)) o r

    by : (o : Option ℕ) → position_for f r ≡ o → notified_by f labels fires (after o) ≡ after o
    by (Some p) e =
        notified_by_same f labels fires r (fate p)
        ∙ ap (λ o. option_map_or (λ q. notified (notified r fires (fate p)) fires (fate q)) o (notified r fires (fate p))) e
        ∙ notified_twice r fires (fate p)
    by None e = ap after e

all_twice : (f : FlushData) (labels : List Label) (fires : Bool) (rs : List Recipient)
    → map (notified_by f labels fires) (map (notified_by f labels fires) rs) ≡ map (notified_by f labels fires) rs
all_twice f labels fires [] = refl
all_twice f labels fires (r ∷ rs) = λ k. notified_by_twice f labels fires r k ∷ all_twice f labels fires rs k

-- the spans of a label set after it
pub flushed_twice : (f : FlushData) (labels : List Label) (s : Option SpansData)
    → option_map (flushed f labels) (option_map (flushed f labels) s) ≡ option_map (flushed f labels) s
flushed_twice f labels None = refl
flushed_twice f labels (Some s) = by (s.part == f.part) refl
  where
    after : Bool → SpansData
    after b = if b then record { before = s.before; last = flushed_span f labels s.last; part = s.part } else s

    -- the last span after it
    last_twice : flushed_span f labels (flushed_span f labels s.last) ≡ flushed_span f labels s.last
    last_twice =
        ap (λ (rs : List Recipient). record { since = s.last.since; ends = s.last.ends; recipients = rs })
        (all_twice f labels (not (has_come s.last.ends f.preview.time)) s.last.recipients)

    by : (b : Bool) → (s.part == f.part) ≡ b → Some (flushed f labels (after b)) ≡ Some (after b)
    by true e =
        ap (λ b. Some (if b then record { before = s.before; last = flushed_span f labels (flushed_span f labels s.last); part = s.part } else after true)) e
        ∙ ap (λ (l : SpanData). Some (record { before = s.before; last = l; part = s.part })) last_twice
    by false e = ap (λ b. Some (if b then record { before = s.before; last = flushed_span f labels s.last; part = s.part } else s)) e
