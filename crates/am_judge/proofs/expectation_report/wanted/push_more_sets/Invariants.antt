use Rattle.std.proofs.Common.{◌≡◌, ◌++◌, string_bytes, codes, take}
use Rattle.std.specs.List.{flat_map}
use Rattle.am_timeline.specs.Shown.{set_shown}
use Rattle.am_judge.proofs.expectation_report.wanted.push_more_sets.Given as goal

-- the sets so far were added, with a `, ` before each
abbrev pub invariant-loop-labels : goal.invariant-loop-labels
invariant-loop-labels l =
    string_bytes l.out ≡ string_bytes l.fn.out ++ flat_map (λ labels. codes ", " ++ set_shown labels) (take l.labels-index l.sets)
