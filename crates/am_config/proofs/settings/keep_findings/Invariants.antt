use Rattle.am_config.specs.Collects.{Grows}
use Rattle.am_config.proofs.settings.keep_findings.Given as goal

-- where there is no fault so far, there was none before
abbrev pub invariant-loop-finding : goal.invariant-loop-finding
invariant-loop-finding l = Grows l.fn.faults l.faults
