use Rattle.std.proofs.Common.{take}
use Rattle.am_mute.specs.Places.{AreNoted}
use Rattle.am_mute.proofs.places.Places.renew.Given as goal

-- the places are those of the silences so far
abbrev pub invariant-loop-place : goal.invariant-loop-place
invariant-loop-place l = AreNoted (take l.place l.silences) l.self
