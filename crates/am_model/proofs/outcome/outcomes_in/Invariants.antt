use Rattle.std.proofs.Common.{◌≡◌, drop}
use Rattle.am_model.specs.Outcomes.{outcomes_in}
use Rattle.am_model.proofs.outcome.outcomes_in.Given as goal

-- none of the records so far finishes the flush
abbrev pub invariant-loop-record : goal.invariant-loop-record
invariant-loop-record l = outcomes_in l.number l.later ≡ outcomes_in l.number (drop l.record-index l.later)
