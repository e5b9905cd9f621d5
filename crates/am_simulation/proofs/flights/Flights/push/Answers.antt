use Rattle.std.proofs.Common.{◌∙◌, ap}
use Rattle.am_simulation.specs.FlightKeys.{next_time}
use Rattle.am_simulation.specs.Scene.{SendingData}
use Rattle.am_simulation.proofs.FlightSteps.{added}
use Rattle.am_simulation.proofs.flights.Flights.push.Goals as goal

pub invariant_of-self : goal.invariant_of-self
invariant_of-self c =
    λ whole.
    let by = c.add.ensures whole in
    added c.self.inside.keys c.add.new.self c.self.inside.list.items (c.self.invariant by.whole) c.push_back.new.self.items c.args.sending
    c.sending.inside.begin c.next_time-next.result (ap (λ (s : SendingData). s.begin) c.sending.view_is)
    (c.next_time-next.ensures ∙ ap next_time (c.as_slice.ensures.value ∙ ap (λ (s : SendingData). s.ends) c.sending.view_is)) by c.in-Ok.ensures.items
