use Rattle.std.proofs.Common.{◌≡◌, take}
use Rattle.std.specs.Str.Parse.{digits_value}
use Rattle.am_alerts.specs.Duration.{capped}
use Rattle.am_alerts.proofs.duration.count_of.Given as goal

-- the count of the digits so far
abbrev pub invariant-loop-digit : goal.invariant-loop-digit
invariant-loop-digit l = l.count ≡ capped (digits_value 10 (take l.digit-index l.digits))
