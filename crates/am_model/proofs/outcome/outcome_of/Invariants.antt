use Rattle.std.proofs.Common.{◌≡◌, drop}
use Rattle.am_model.specs.Ticket.{outcome_of}
use Rattle.am_model.proofs.outcome.outcome_of.Given as goal

-- none of the pairs so far names the integration
abbrev pub invariant-loop-pair : goal.invariant-loop-pair
invariant-loop-pair l = outcome_of l.outcomes l.integration ≡ outcome_of (drop l.pair-index l.outcomes) l.integration
