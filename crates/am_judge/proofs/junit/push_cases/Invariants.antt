use Rattle.std.proofs.Common.{◌≡◌, ◌++◌, string_bytes, drop}
use Rattle.am_judge.specs.Junit.{cases_text}
use Rattle.am_judge.proofs.junit.push_cases.Given as goal

-- what was added and the cases of the other expectations are the whole
abbrev pub invariant-loop-number : goal.invariant-loop-number
invariant-loop-number g l =
    string_bytes l.out ++ cases_text l.judged.playbacks.now (g.C.TimeFormat.times l.clock) l.number (drop l.number l.judged.expectations.now)
    ≡ string_bytes l.fn.out ++ cases_text l.judged.playbacks.now (g.C.TimeFormat.times l.clock) 0 l.judged.expectations.now
