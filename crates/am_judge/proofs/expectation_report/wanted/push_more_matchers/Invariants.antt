use Rattle.std.proofs.Common.{◌≡◌, ◌++◌, string_bytes, codes, take}
use Rattle.std.specs.List.{flat_map}
use Rattle.am_judge.specs.ExpectationReport.{matcher_shown}
use Rattle.am_judge.proofs.expectation_report.wanted.push_more_matchers.Given as goal

-- the matchers so far were added, with a `, ` before each
abbrev pub invariant-loop-matcher : goal.invariant-loop-matcher
invariant-loop-matcher l =
    string_bytes l.out ≡ string_bytes l.fn.out ++ flat_map (λ m. codes ", " ++ matcher_shown m) (take l.matcher-index l.matchers)
