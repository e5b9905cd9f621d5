use Rattle.std.proofs.Common.{◌≡◌, ◌<◌, ◌≤◌, true, false, ℕ}
use Rattle.am_yaml.specs.Spelling.{begins_line, is_marker}
use Rattle.am_yaml.proofs.spelling.Spelling.no_marker.Given as goal

abbrev pub invariant-loop-at : goal.invariant-loop-at
invariant-loop-at l = (k : ℕ) → l.from ≤ k → k < l.at → begins_line l.self.text.now k ≡ true → is_marker l.self.text.now k ≡ false
