use Rattle.std.proofs.Common.{◌≡◌, drop}
use Rattle.am_judge.specs.Expectation.{has_match}
use Rattle.am_judge.proofs.expectation.content.has_match.Given as goal

-- none so far matches
abbrev pub invariant-loop-alert : goal.invariant-loop-alert
invariant-loop-alert l = has_match l.matchers l.alerts ≡ has_match l.matchers (drop l.alert-index l.alerts)
