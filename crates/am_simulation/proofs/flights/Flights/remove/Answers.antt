use Rattle.std.proofs.Common.{◌∙◌, ◌<◌, List, ap, arith, length, refl, sym}
use Rattle.std.specs.Prelude.{slice_get}
use Rattle.std.proofs.lemmas.Option.{slice_get_read}
use Rattle.am_simulation.specs.Scene.{SendingData}
use Rattle.am_simulation.proofs.FlightSteps.{removed}
use Rattle.am_simulation.proofs.flights.Flights.remove.Goals as goal

pub invariant_of-self : goal.invariant_of-self
invariant_of-self c =
    λ whole.
    let ss = c.self.inside.list.items in
    let within : c.args.position < length ss = omega (arith, ap length c.self.view_is, c.requires) in
    removed c.self.inside.keys c.remove-in-Some.new.self ss (c.self.invariant (sym c.remove-in-Some.ensures.whole ∙ whole)) c.args.position c.in-Some.sending
    c.sending.inside.begin (ap (λ (s : SendingData). s.begin) c.sending.view_is) c.remove-in-Some.ensures.above c.remove-in-Some.ensures.others
    (slice_get_read ss (length ss) c.args.position c.in-Some.sending refl within c.in-Some.ensures.value) c.remove.new.self.items c.in-Some.ensures.items

pub returns-clause-value : goal.returns-clause-value
returns-clause-value c =
    let ss = c.self.inside.list.items in
    let within : c.args.position < length ss = omega (arith, ap length c.self.view_is, c.requires) in
    ap (λ (l : List SendingData). slice_get l c.args.position) (sym c.self.view_is)
    ∙ slice_get_read ss (length ss) c.args.position c.in-Some.sending refl within c.in-Some.ensures.value
