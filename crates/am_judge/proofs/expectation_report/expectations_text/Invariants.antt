use Rattle.std.proofs.Common.{◌≡◌, ◌++◌, string_bytes, drop}
use Rattle.am_judge.specs.ExpectationReport.{expectations_text}
use Rattle.am_judge.proofs.expectation_report.expectations_text.Given as goal

-- what was added and what becomes of the other expectations are the whole
abbrev pub invariant-loop-number : goal.invariant-loop-number
invariant-loop-number g l =
    string_bytes l.out ++ expectations_text l.judged.playbacks.now (g.C.TimeFormat.times l.clock) l.number (drop l.number l.judged.expectations.now)
    ≡ expectations_text l.judged.playbacks.now (g.C.TimeFormat.times l.clock) 0 l.judged.expectations.now
