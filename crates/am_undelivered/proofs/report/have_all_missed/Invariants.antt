use Rattle.std.proofs.Common.{◌≡◌, drop}
use Rattle.std.specs.List.{list_all}
use Rattle.am_undelivered.specs.Undelivered.{missed_of, same_missed}
use Rattle.am_undelivered.proofs.report.have_all_missed.Given as goal

-- the integrations so far missed it
abbrev pub invariant-loop-recipient : goal.invariant-loop-recipient
invariant-loop-recipient l =
    list_all (λ r. same_missed l.missed (missed_of l.of.is_last l.of.span.now r)) l.of.span.now.recipients
    ≡ list_all (λ r. same_missed l.missed (missed_of l.of.is_last l.of.span.now r)) (drop l.recipient-index l.recipient-items)
