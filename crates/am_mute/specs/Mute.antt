-- What mutes a label set.
use Rattle.std.specs.Prelude.{ℕ, ◌+◌, Bool, not, ◌&&◌, ◌||◌, List, [], ◌∷◌, find, Option, None}
use Rattle.std.specs.Option.{option_map, option_or}
use Rattle.am_alerts.specs.AlertData.{AlertData}
use Rattle.am_alerts.specs.declared.labels.Label.{Label}
use Rattle.am_mute.specs.declared.mute.MuteCause.{MuteCause}
use Rattle.am_mute.specs.declared.mute.MuteCause.TheVariants.{Silenced, Inhibited}
use Rattle.am_mute.specs.Inhibit.{RuleData, is_inhibited, source_for}
use Rattle.am_mute.specs.Silence.{SilenceData, is_silenced, silence_mutes}

-- muted: silenced or inhibited at t, where these are the silences, the rules and the known alerts
abbrev pub is_muted : List Label → ℕ → List SilenceData → List RuleData → List AlertData → Bool
is_muted labels t silences rules known = is_silenced labels t silences || is_inhibited labels t rules known

-- whether a rule is why a label set is muted at t: one of these rules mutes it, and none of the silences does
abbrev pub is_inhibited_alone : List Label → ℕ → List SilenceData → List RuleData → List AlertData → Bool
is_inhibited_alone labels t silences rules known = not (is_silenced labels t silences) && is_inhibited labels t rules known

-- the first of these silences that mutes a label set at t
abbrev pub silence_for : List Label → ℕ → List SilenceData → Option SilenceData
silence_for labels t silences = find (λ s. silence_mutes s t labels) silences

-- the first of these rules, numbered from n on, that mutes a label set at t, with the first known alert because of which it does
abbrev pub inhibition_from : ℕ → List Label → ℕ → List AlertData → List RuleData → Option MuteCause
inhibition_from n labels t known [] = None
inhibition_from n labels t known (r ∷ rules) =
    option_or (option_map (λ a. Inhibited n a.labels) (source_for r t known labels)) (inhibition_from (n + 1) labels t known rules)

-- why a label set is muted at t, if it is: by the first silence that mutes it, else by the first rule that does
abbrev pub mute_cause_of : List Label → ℕ → List SilenceData → List RuleData → List AlertData → Option MuteCause
mute_cause_of labels t silences rules known =
    option_or (option_map (λ s. Silenced s.id s.end) (silence_for labels t silences)) (inhibition_from 0 labels t known rules)
