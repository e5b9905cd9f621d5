use Rattle.std.proofs.Common.{◌<◌, ap, arith, length, refl}
use Rattle.std.proofs.lemmas.Option.{slice_get_read}
use Rattle.am_simulation.proofs.FlightSteps.{on_ok_three, reported}
use Rattle.am_simulation.proofs.Keyed.{keyed_again}
use Rattle.am_simulation.proofs.flights.Flights.report.Goals as goal

pub invariant_of-self : goal.invariant_of-self
invariant_of-self c =
    λ whole.
    let ss = c.self.inside.list.items in
    let s = c.index_mut.result.now in
    let within : c.args.position < length ss = omega (arith, ap length c.self.view_is, c.requires) in
    keyed_again c.self.inside.keys c.self.inside.keys.above ss c.args.position s c.report_end.new.sending (c.self.invariant whole)
    (slice_get_read ss (length ss) c.args.position s refl within c.index_mut.ensures.value) c.report_end.ensures.flush.0 c.report_end.ensures.flush.1

pub returns : goal.returns
returns c =
    let ss = c.self.inside.list.items in
    let s = c.index_mut.result.now in
    let within : c.args.position < length ss = omega (arith, ap length c.self.view_is, c.requires) in
    on_ok_three c.report_end.result
    (reported c.args.self.now ss c.args.position s c.report_end.new.sending c.args.end c.self.view_is
    (slice_get_read ss (length ss) c.args.position s refl within c.index_mut.ensures.value)
    c.args.board.now.board c.report_end.new.board.board c.args.board.now.events.items c.report_end.new.board.events.items)
    c.report_end.ensures.sending c.report_end.ensures.events c.report_end.ensures.board
