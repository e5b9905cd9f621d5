-- Unsilenced: label sets that no silence mutes from one time on and before another, as they are noted.
use Rattle.std.specs.Prelude.{◌≡◌, ◌<◌, ◌≤◌, ◌⊎◌, ℕ, List, false, All}
use Rattle.am_alerts.specs.declared.labels.Label.{Label}
use Rattle.am_mute.specs.Silence.{SilenceData, is_silenced}
use Rattle.am_board.specs.declared.unsilenced.Unsilenced.{Unsilenced}

-- a silence doesn't start after one time and before another
abbrev pub StartsOutside : ℕ → ℕ → SilenceData → Type 0
StartsOutside since until s = (s.start ≤ since) ⊎ (until ≤ s.start)

-- no silence mutes a label set from one time on and before another
abbrev pub IsUnsilenced : List SilenceData → ℕ → ℕ → List Label → Type 0
IsUnsilenced silences since until labels = (t : ℕ) → since ≤ t → t < until → is_silenced labels t silences ≡ false

-- what is noted is true of these silences
pub record AreUnsilenced (silences : List SilenceData) (noted : Unsilenced) : Type 0 where
  pub starts : All (StartsOutside noted.since noted.until) silences
  pub sets : All (IsUnsilenced silences noted.since noted.until) noted.sets.items
