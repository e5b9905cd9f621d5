use Rattle.std.proofs.Common.{◌≡◌, map, take}
use Rattle.std.specs.List.{enumerate_from}
use Rattle.am_board.proofs.dedup.decide_alike.Given as goal

abbrev pub invariant-loop : goal.invariant-loop
invariant-loop l = l.reasons.items ≡ map (λ i. l.reason) (enumerate_from 0 (take l.index l.integrations))
