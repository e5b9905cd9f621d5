use Rattle.std.proofs.Common.{◌≡◌, ◌++◌, drop}
use Rattle.am_judge.specs.Expectation.{unmet_from}
use Rattle.am_judge.proofs.judged.Judged.unmet.Given as goal

-- those that were found and those of the other expectations are all
abbrev pub invariant-loop-number : goal.invariant-loop-number
invariant-loop-number l =
    l.unmet.items ++ unmet_from l.self.playbacks.now l.number (drop l.number l.self.expectations.now)
    ≡ unmet_from l.self.playbacks.now 0 l.self.expectations.now
