use Rattle.std.proofs.Common.{◌∙◌, List, [], ◌∷◌, ◌++◌, refl, ap}
use Rattle.am_model.specs.Ticket.{TicketData}
use Rattle.am_run.proofs.lemmas.phases.Steps.{begins_flush, begins_full, one_record}
use Rattle.am_run.proofs.phase.Run.begin.Goals as goal

pub returns-in-Ok-Flush-clause-begins : goal.returns-in-Ok-Flush-clause-begins
returns-in-Ok-Flush-clause-begins g c none =
    let ts = c.args.tickets.now.items in
    let done = rw c.in-Ok-Flush.field-0-is at c.in-Ok-Flush.ensures.done in
    let fresh = rw c.in-Ok-Flush.field-0-is at c.in-Ok-Flush.ensures.fresh in
    let more = c.push_reserved.ensures.items ∙ (ap (λ (xs : List TicketData). xs ++ c.new.result ∷ []) c.reserve.ensures.items ∙ ap (λ (t : TicketData). ts ++ t ∷ []) (c.new.ensures ∙ c.in-Ok-Flush.ticket-is)) in
    begins_flush g.N.Name.terms c.args.at c.args.self.now.main c.begin.new.pass ts c.push_reserved.new.self.items c.in-Ok-Flush.ticket _ more fresh.1 (λ e. absurd (cc (e))) refl (one_record _ _ _ _ _ done)

pub returns-in-Err-TooManyOpen-clause-begins : goal.returns-in-Err-TooManyOpen-clause-begins
returns-in-Err-TooManyOpen-clause-begins g c none =
    let refused = rw c.in-Err-TooManyOpen.field-0-is at c.in-Err-TooManyOpen.ensures.refused in
    begins_full g.N.Name.terms c.args.at c.args.self.now.main c.begin.new.pass c.args.tickets.now.items c.reserve.new.self.items c.reserve.ensures.items refused.0 refused.1
