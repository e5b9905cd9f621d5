use Rattle.std.proofs.Common.{refl}
use Rattle.std.proofs.lemmas.Result.{on_ok_weaker}
use Rattle.am_simulation.specs.Simulations.{scene_in, setting_in}
use Rattle.am_simulation.specs.Taking.{cause_of_none}
use Rattle.am_simulation.proofs.Beginning.{begin_flush, begin_nothing, begin_quiet, begin_refused}
use Rattle.am_simulation.proofs.Calling.{open_cause}
use Rattle.am_simulation.proofs.Hindering.{begin_hindered}
use Rattle.am_simulation.proofs.play.Simulation.begin.Goals as goal

pub returns-in-Ok-Nothing-clause-done : goal.returns-in-Ok-Nothing-clause-done
returns-in-Ok-Nothing-clause-done c =
    let was = c.args.self.now in
    begin_nothing (setting_in was) (scene_in was) c.args.at c.begin.new.self.board c.begin.new.self.events.items was.sendings refl
    (rw c.in-Ok-Nothing.field-0-is at c.in-Ok-Nothing.ensures.taken)

pub returns-in-Ok-Quiet-clause-done : goal.returns-in-Ok-Quiet-clause-done
returns-in-Ok-Quiet-clause-done c =
    let was = c.args.self.now in
    begin_quiet (setting_in was) (scene_in was) c.args.at c.begin.new.self.board c.begin.new.self.events.items was.sendings refl
    (rw c.in-Ok-Quiet.field-0-is at c.in-Ok-Quiet.ensures.taken)

pub returns-in-Ok-Flush-clause-done : goal.returns-in-Ok-Flush-clause-done
returns-in-Ok-Flush-clause-done c =
    let was = c.args.self.now in
    let taken = rw c.in-Ok-Flush.field-0-is at c.in-Ok-Flush.ensures.taken in
    on_ok_weaker c.send.result
    (begin_flush (setting_in was) (scene_in was) c.args.at c.begin.new.self.board c.begin.new.self.events.items was.sendings refl c.in-Ok-Flush.own
    c.taken-begin.result (scene_in c.send.new.self) taken c.taken-begin.ensures)
    c.send.ensures.sent

pub returns-in-TooManyOpen-clause-done : goal.returns-in-TooManyOpen-clause-done
returns-in-TooManyOpen-clause-done c =
    let was = c.args.self.now in
    begin_refused (setting_in was) (scene_in was) c.args.at c.begin.new.self.board c.begin.new.self.events.items was.sendings refl
    (open_cause (cause_of_none was.board.board c.args.at) c.in-Err.fault c.in-TooManyOpen.is c.in-Err.ensures.cause) c.in-Err.ensures.refused c.in-Err.ensures.events

pub returns-in_default-clause-hindered : goal.returns-in_default-clause-hindered
returns-in_default-clause-hindered c =
    begin_hindered c.args.self.now.board.board c.args.at c.in-Err.fault c.full_or_memory.result c.full_or_memory.ensures
    c.in_default.not-TooManyOpen c.in-Err.ensures.cause
