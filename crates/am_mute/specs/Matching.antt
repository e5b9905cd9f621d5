-- Matchers that take no memory.
use Rattle.std.specs.Prelude.{Bool, ◌&&◌, List}
use Rattle.std.specs.List.{list_all}
use Rattle.am_alerts.specs.Matcher.{compare_texts}
use Rattle.am_mute.specs.Inhibit.{RuleData}
use Rattle.am_mute.specs.Silence.{SilenceData}

-- whether the matchers of these silences all compare texts
abbrev pub silences_compare_texts : List SilenceData → Bool
silences_compare_texts silences = list_all (λ s. compare_texts s.matchers) silences

-- whether the matchers of these rules, of both sides, all compare texts
abbrev pub rules_compare_texts : List RuleData → Bool
rules_compare_texts rules = list_all (λ r. compare_texts r.source && compare_texts r.target) rules
