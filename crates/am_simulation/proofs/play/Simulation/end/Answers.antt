use Rattle.am_simulation.specs.Simulations.{scene_in, setting_in}
use Rattle.am_simulation.proofs.Stepping.{end_done_by, end_within}
use Rattle.am_simulation.proofs.play.Simulation.end.Goals as goal

pub report-requires : goal.report-requires
report-requires c = end_within (scene_in c.args.self.now) c.args.position c.args.index c.take_end-end.result c.take_end-end.new.self c.take_end-end.ensures

pub returns-clause-done : goal.returns-clause-done
returns-clause-done c =
    let was = c.args.self.now in
    end_done_by (scene_in was) c.args.position c.args.index c.take_end-end.result c.take_end-end.new.self (setting_in was)
    c.report.new.board.board c.report.new.board.events.items c.report.new.self c.take_end-end.ensures c.in_ok-report.ensures
