use Rattle.std.proofs.Common.{◌≡◌, string_bytes, take}
use Rattle.std.specs.List.{flat_map}
use Rattle.am_undelivered.specs.Undelivered.{set_lines}
use Rattle.am_undelivered.proofs.report.text_and_sets.Given as goal

-- the lines of the label sets so far were added
abbrev pub invariant-loop-labels : goal.invariant-loop-labels
invariant-loop-labels g l =
    string_bytes l.lines ≡ flat_map (set_lines l.playbacks (g.C.TimeFormat.times l.clock)) (take l.labels-index l.labels-items)
