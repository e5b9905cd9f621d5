use Rattle.std.proofs.Common.{◌≡◌, ◌++◌, string_bytes, take}
use Rattle.std.specs.List.{flat_map}
use Rattle.am_timeline.specs.Table.{receiver_line}
use Rattle.am_timeline.proofs.table.push_receivers.Given as goal

-- the lines so far were added
abbrev pub invariant-loop-receiver : goal.invariant-loop-receiver
invariant-loop-receiver g l =
    string_bytes l.out
    ≡ string_bytes l.fn.out ++ flat_map (receiver_line l.playback (g.C.TimeFormat.times l.clock)) (take l.receiver-index l.receivers)
