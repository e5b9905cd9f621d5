use Rattle.std.proofs.Common.{◌≡◌, ◌++◌, string_bytes, drop}
use Rattle.std.specs.List.{flat_map}
use Rattle.am_timeline.specs.Timeline.{remarks_from}
use Rattle.am_timeline.proofs.remarks.push_on_each.Given as goal

-- what was added and the lines on the other integrations are the whole
abbrev pub invariant-loop-position : goal.invariant-loop-position
invariant-loop-position g l =
    string_bytes l.out
    ++ flat_map (g.P.Printer.line l.printer l.preview) (remarks_from l.config l.preview l.notices l.position (drop l.position l.preview.reasons))
    ≡ string_bytes l.fn.out ++ flat_map (g.P.Printer.line l.printer l.preview) (remarks_from l.config l.preview l.notices 0 l.preview.reasons)
