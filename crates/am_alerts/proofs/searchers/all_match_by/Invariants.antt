use Rattle.std.proofs.Common.{◌≡◌, true, take}
use Rattle.am_alerts.specs.Matcher.{match_all}
use Rattle.am_alerts.proofs.MetPatterns.{AreMet}
use Rattle.am_alerts.proofs.searchers.all_match_by.Given as goal

-- the matchers so far all match, and what searches for their patterns is there
abbrev pub invariant-loop-matcher : goal.invariant-loop-matcher
invariant-loop-matcher l =
    (match_all (take l.matcher-index l.matchers) l.labels ≡ true) × AreMet l.matchers l.matcher-index l.patterns l.searchers.items
