use Rattle.std.proofs.Common.{◌≡◌, ℕ, drop}
use Rattle.std.specs.Prelude.{nat_eq}
use Rattle.std.specs.HashMap.{get}
use Rattle.am_timeline.specs.Finishes.{first_finish}
use Rattle.am_timeline.proofs.finishes.first_places.Given as goal

-- each number has the place of its first finish from this record on
abbrev pub invariant-loop-index : goal.invariant-loop-index
invariant-loop-index l = (number : ℕ) → get nat_eq l.places number ≡ first_finish number l.index (drop l.index l.history)
