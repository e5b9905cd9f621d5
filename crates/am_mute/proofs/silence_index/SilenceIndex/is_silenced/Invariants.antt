use Rattle.std.proofs.Common.{◌<◌, ℕ}
use Rattle.am_alerts.specs.declared.labels.Label.{Label}
use Rattle.am_mute.specs.SilenceIndex.{AreUnmuted, HasIndex, label_hash}
use Rattle.am_mute.specs.Sources.{IsAt}
use Rattle.am_mute.proofs.silence_index.SilenceIndex.is_silenced.Given as goal

-- no silence that is found by one of the labels so far mutes the label set
abbrev pub invariant-loop-i : goal.invariant-loop-i
invariant-loop-i l =
    (j : ℕ) (x : Label) → IsAt l.labels j x → j < l.i → AreUnmuted (HasIndex l.self (label_hash l.self.seed x.name x.value)) l.labels l.t l.silences
