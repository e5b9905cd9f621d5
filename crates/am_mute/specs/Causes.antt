-- All that mutes a label set.
use Rattle.std.specs.Prelude.{ℕ, ◌+◌, List, [], ◌∷◌, ◌++◌, map, filter, Option, Some, None}
use Rattle.am_alerts.specs.AlertData.{AlertData}
use Rattle.am_alerts.specs.declared.labels.Label.{Label}
use Rattle.am_mute.specs.declared.mute.MuteCause.{MuteCause}
use Rattle.am_mute.specs.declared.mute.MuteCause.TheVariants.{Silenced, Inhibited}
use Rattle.am_mute.specs.Inhibit.{RuleData, source_for}
use Rattle.am_mute.specs.Silence.{SilenceData, silence_mutes}

-- each of these silences that mutes a label set at t, by its id and its end (the silences of Alertmanager's alert status)
abbrev pub silence_causes : List Label → ℕ → List SilenceData → List MuteCause
silence_causes labels t silences = map (λ s. Silenced s.id s.end) (filter (λ s. silence_mutes s t labels) silences)

-- the rule of this number, with the known alert because of which it mutes a label set, if there is one
abbrev pub inhibition_by : ℕ → Option AlertData → List MuteCause
inhibition_by n None = []
inhibition_by n (Some a) = Inhibited n a.labels ∷ []

-- each of these rules, numbered from n on, that mutes a label set at t, with the first known alert because of which it does
abbrev pub inhibitions_from : ℕ → List Label → ℕ → List AlertData → List RuleData → List MuteCause
inhibitions_from n labels t known [] = []
inhibitions_from n labels t known (r ∷ rules) =
    inhibition_by n (source_for r t known labels) ++ inhibitions_from (n + 1) labels t known rules

-- all that mutes a label set at t: each silence that does, then each rule that does, in their order
abbrev pub mute_causes_of : List Label → ℕ → List SilenceData → List RuleData → List AlertData → List MuteCause
mute_causes_of labels t silences rules known = silence_causes labels t silences ++ inhibitions_from 0 labels t known rules
