use Rattle.std.proofs.Common.{◌≡◌, ◌++◌, false, string_bytes, take}
use Rattle.std.specs.List.{flat_map}
use Rattle.am_undelivered.specs.Undelivered.{span_lines}
use Rattle.am_undelivered.proofs.report.push_earlier.Given as goal

-- the lines of the spans so far were added
abbrev pub invariant-loop-span : goal.invariant-loop-span
invariant-loop-span g l =
    string_bytes l.out ≡ string_bytes l.fn.out
    ++ flat_map (span_lines l.playbacks (g.C.TimeFormat.times l.clock) l.labels false) (take l.span-index l.spans)
