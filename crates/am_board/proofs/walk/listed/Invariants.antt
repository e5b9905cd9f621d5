use Rattle.std.proofs.Common.{◌≡◌, take}
use Rattle.std.specs.List.{filter_map}
use Rattle.am_board.specs.Walk.{alert_there}
use Rattle.am_board.proofs.walk.listed.Given as goal

-- the muted alerts so far
abbrev pub invariant-loop-found : goal.invariant-loop-found
invariant-loop-found l = l.all.items ≡ filter_map (alert_there l.members) (take l.found-index l.muted)
