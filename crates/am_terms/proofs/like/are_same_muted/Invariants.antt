use Rattle.std.proofs.Common.{◌≡◌, take}
use Rattle.am_terms.proofs.like.are_same_muted.Given as goal

-- those so far are the same
abbrev pub invariant-loop-index : goal.invariant-loop-index
invariant-loop-index l = take l.index l.some ≡ take l.index l.others
