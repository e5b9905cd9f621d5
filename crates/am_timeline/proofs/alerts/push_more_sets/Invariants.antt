use Rattle.std.proofs.Common.{◌≡◌, ◌++◌, string_bytes, codes, take}
use Rattle.std.specs.List.{flat_map}
use Rattle.am_timeline.specs.Shown.{set_shown}
use Rattle.am_timeline.specs.Timeline.{labels_of}
use Rattle.am_timeline.proofs.alerts.push_more_sets.Given as goal

-- the sets so far were added, with a `, ` before each
abbrev pub invariant-loop-alert : goal.invariant-loop-alert
invariant-loop-alert l =
    string_bytes l.out ≡ string_bytes l.fn.out ++ flat_map (λ a. codes ", " ++ set_shown (labels_of a)) (take l.alert-index l.alerts)
