-- The clocks that were made.
use Rattle.std.specs.Prelude.{◌≡◌, ℕ, Bool, List}
use Rattle.std.specs.List.{AllByRecursion, list_any}
use Rattle.am_hours.specs.Pieces.{contains_at}
use Rattle.am_hours.specs.declared.muting.Timed.{Timed}
use Rattle.am_config.specs.Times.{IsClockAt, holds_at, timed_in}
use Rattle.am_config.specs.declared.clocks.NamedClock.{NamedClock}
use Rattle.am_config.specs.declared.clocks.Placed.{Placed}
use Rattle.am_config.specs.declared.hours.Hours.{Hours}

-- each clock is that of its location
abbrev pub AreMade : Hours → List NamedClock → Type 0
AreMade hours made = AllByRecursion (λ known. IsClockAt hours known.location known.clock.pieces) made

-- an interval on a clock holds at a time
abbrev pub is_timed_at : ℕ → Timed → Bool
is_timed_at t x = contains_at x.interval.now x.clock.now.pieces t

-- one of these intervals on clocks holds where one of those does that have a clock or none
abbrev pub HoldsAlike : List Timed → List Placed → Type 0
HoldsAlike timed placed = (t : ℕ) → list_any (is_timed_at t) timed ≡ list_any (λ p. holds_at t (timed_in p)) placed
