use Rattle.std.proofs.Common.{◌≡◌, map, slice_get, take}
use Rattle.std.specs.List.{filter_map}
use Rattle.am_board.proofs.order.members_at.Given as goal

-- what is at the indexes so far
abbrev pub invariant-loop-index : goal.invariant-loop-index
invariant-loop-index l = map (λ m. m.now) l.found.items ≡ filter_map (slice_get l.members) (take l.index-index l.indexes)
