use Rattle.std.proofs.Common.{◌≡◌, ◌++◌, string_bytes, take}
use Rattle.std.specs.List.{flat_map}
use Rattle.am_undelivered.specs.Undelivered.{recipient_line}
use Rattle.am_undelivered.proofs.report.push_each.Given as goal

-- the lines of the integrations so far were added
abbrev pub invariant-loop-recipient : goal.invariant-loop-recipient
invariant-loop-recipient g l =
    string_bytes l.out ≡ string_bytes l.fn.out
    ++ flat_map (recipient_line l.playbacks (g.C.TimeFormat.times l.clock) l.of.labels.now l.of.is_last l.of.span.now)
    (take l.recipient-index l.recipient-items)
