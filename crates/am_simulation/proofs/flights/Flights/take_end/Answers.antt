use Rattle.std.proofs.Common.{◌∙◌, ◌<◌, ap, arith, length, refl}
use Rattle.std.proofs.lemmas.Option.{slice_get_read}
use Rattle.am_simulation.specs.FlightKeys.{next_time}
use Rattle.am_simulation.specs.Scene.{SendingData}
use Rattle.am_simulation.proofs.FlightSteps.{changed, taken}
use Rattle.am_simulation.proofs.Stepping.{within_some}
use Rattle.am_simulation.proofs.flights.Flights.take_end.Goals as goal

pub invariant_of-self : goal.invariant_of-self
invariant_of-self c =
    λ whole.
    let ss = c.self.inside.list.items in
    let s = c.index_mut-sending.result.now in
    let t = c.take_end-end.new.self in
    let there : c.args.position < length c.args.self.now = within_some c.args.self.now c.args.position (λ (u : SendingData). c.args.index < length u.ends) c.requires in
    let within : c.args.position < length ss = omega (arith, ap length c.self.view_is, there) in
    changed c.self.inside.keys c.change.new.self ss (c.self.invariant (c.change.ensures.whole whole)) c.args.position s
    c.sending.inside.begin (ap (λ (u : SendingData). u.begin) c.sending.view_is) c.change.ensures.above (c.change.ensures.others whole)
    (slice_get_read ss (length ss) c.args.position s refl within c.index_mut-sending.ensures.value) t c.next_time-to.result
    (ap (λ (u : SendingData). u.begin) c.take_end-end.ensures.left)
    (c.next_time-to.ensures ∙ ap next_time (c.as_slice-2.ensures.value ∙ ap (λ (u : SendingData). u.ends) c.sending-2.view_is))
    (c.change.ensures.has whole)

pub returns : goal.returns
returns c =
    let ss = c.self.inside.list.items in
    let s = c.index_mut-sending.result.now in
    let there : c.args.position < length c.args.self.now = within_some c.args.self.now c.args.position (λ (u : SendingData). c.args.index < length u.ends) c.requires in
    let within : c.args.position < length ss = omega (arith, ap length c.self.view_is, there) in
    taken c.args.self.now ss c.args.position s c.take_end-end.new.self c.take_end-end.result c.self.view_is
    (slice_get_read ss (length ss) c.args.position s refl within c.index_mut-sending.ensures.value) c.args.index
    c.take_end-end.ensures.end c.take_end-end.ensures.left
