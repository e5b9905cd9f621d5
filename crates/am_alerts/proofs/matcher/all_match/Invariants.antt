use Rattle.std.proofs.Common.{◌≡◌, true, take}
use Rattle.am_alerts.specs.Matcher.{match_all}
use Rattle.am_alerts.proofs.matcher.all_match.Given as goal

-- the matchers so far all match
abbrev pub invariant-loop-matcher : goal.invariant-loop-matcher
invariant-loop-matcher l = match_all (take l.matcher-index l.matchers) l.labels ≡ true
