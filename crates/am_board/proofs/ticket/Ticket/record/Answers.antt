use Rattle.std.proofs.Common.{◌≡◌, true, false, is_some, arith, rules}
use Rattle.am_model.specs.Ticket.{outcome_of}
use Rattle.am_model.specs.Notice.{has_something_for}
use Rattle.am_model.proofs.tickets.Outcomes.{one_reported}
use Rattle.am_board.proofs.ticket.Ticket.record.Goals as goal

pub push_reserved-requires : goal.push_reserved-requires
push_reserved-requires c =
    let here : has_something_for c.self.inside.notices.items c.args.report.integration ≡ true = search rules in
    let none : is_some (outcome_of c.self.inside.outcomes.items c.args.report.integration) ≡ false = search rules in
    let fewer = one_reported c.self.inside.outcomes.items c.args.report.integration c.args.report.outcome c.self.inside.notices.items here none in
    omega (arith, fewer, c.self.invariant.0)

pub invariant_of-self : goal.invariant_of-self
invariant_of-self c =
    let here : has_something_for c.self.inside.notices.items c.args.report.integration ≡ true = search rules in
    let none : is_some (outcome_of c.self.inside.outcomes.items c.args.report.integration) ≡ false = search rules in
    let fewer = one_reported c.self.inside.outcomes.items c.args.report.integration c.args.report.outcome c.self.inside.notices.items here none in
    rw c.push_reserved.ensures.items (omega (arith, fewer, c.self.invariant.0, c.push_reserved.ensures.len, c.push_reserved.ensures.capacity), c.self.invariant.1)
