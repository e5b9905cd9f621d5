use Rattle.std.proofs.Common.{◌≡◌, map, take}
use Rattle.am_board.proofs.insert.names_of.Given as goal

-- the names so far
abbrev pub invariant-loop-placement : goal.invariant-loop-placement
invariant-loop-placement l = l.names.items ≡ map (λ p. p.name) (take l.placement-index l.placements)
