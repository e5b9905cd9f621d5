use Rattle.std.proofs.Common.{◌≡◌, ◌<◌, ◌≤◌, ℕ, false}
use Rattle.am_mute.specs.Silence.{SilenceData, silence_mutes}
use Rattle.am_mute.specs.Sources.{IsAt}
use Rattle.am_mute.proofs.silence_index.first_from.Given as goal

-- no silence at an index so far mutes the label set
abbrev pub invariant-loop-index : goal.invariant-loop-index
invariant-loop-index l =
    (i : ℕ) (s : SilenceData) → l.from ≤ i → i < l.index → IsAt l.silences i s → silence_mutes s l.t l.labels ≡ false
