use Rattle.std.proofs.Common.{◌≡◌, ◌+◌, ◌^◌, ◌<◌, length}
use Rattle.std.specs.Option.{option_map}
use Rattle.am_alerts.specs.Duration.{value_in, value_of_counts, capped}
use Rattle.am_alerts.proofs.Durations.{IsDistinct}
use Rattle.am_alerts.proofs.duration.sum_of_parts.Given as goal

-- the sum so far and the value of the rest are the value of the text
abbrev pub invariant-loop-units : goal.invariant-loop-units
invariant-loop-units l = record {
  small : l.sum < 2 ^ 64;
  distinct : IsDistinct l.units;
  whole : option_map capped (value_of_counts l.fn.text) ≡ option_map (λ v. capped (l.sum + v)) (value_in l.units l.rest);
}

abbrev pub decreases-loop-units : goal.decreases-loop-units
decreases-loop-units l = length l.rest
