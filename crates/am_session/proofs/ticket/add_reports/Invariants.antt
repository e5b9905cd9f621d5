use Rattle.std.proofs.Common.{◌≡◌, ◌++◌, take}
use Rattle.std.specs.List.{flat_map}
use Rattle.am_model.specs.Ticket.{outcome_of}
use Rattle.am_protocol.specs.Record.{report_tokens}
use Rattle.am_session.proofs.ticket.add_reports.Given as goal

-- the reports so far were added
abbrev pub invariant-loop-index : goal.invariant-loop-index
invariant-loop-index l =
    l.answer
    ≡ l.fn.answer ++ flat_map (λ n. report_tokens n.integration (outcome_of l.ticket.outcomes n.integration)) (take l.index l.ticket.notices)
