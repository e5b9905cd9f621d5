use Rattle.std.proofs.Common.{◌≡◌, ◌++◌, string_bytes, codes, take}
use Rattle.std.specs.List.{flat_map}
use Rattle.am_timeline.specs.Timeline.{muted_alert_text}
use Rattle.am_timeline.proofs.muted.push_more_muted.Given as goal

-- the alerts so far were added, with a `; ` before each
abbrev pub invariant-loop-alert : goal.invariant-loop-alert
invariant-loop-alert g l =
    string_bytes l.out
    ≡ string_bytes l.fn.out ++ flat_map (λ m. codes "; " ++ muted_alert_text (g.C.TimeFormat.times l.clock) m) (take l.alert-index l.muted)
