-- The faults' numbers, by their values.
use Rattle.std.specs.Prelude.{◌≡◌, [], ◌∷◌}
use Rattle.am_mute.specs.declared.law.TheConstants.{SILENCE_FAULTS, RULE_FAULTS}
use Rattle.am_mute.specs.declared.inhibit.RuleFault.TheVariants as rule
use Rattle.am_mute.specs.declared.silence.SilenceFault.TheVariants as silence

-- law: the numbers of the faults of silences
abbrev pub SilenceFaultsAre : Type 0
SilenceFaultsAre =
    SILENCE_FAULTS ≡ (silence.NoMatchers, 1) ∷ (silence.TooManyMatchers, 2) ∷ (silence.BadTimes, 3) ∷ []

-- law: the numbers of the faults of inhibition rules
abbrev pub RuleFaultsAre : Type 0
RuleFaultsAre = RULE_FAULTS ≡ (rule.TooManyMatchers, 1) ∷ (rule.TooManyNames, 2) ∷ []
