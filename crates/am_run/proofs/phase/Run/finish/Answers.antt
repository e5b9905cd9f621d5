use Rattle.am_run.proofs.lemmas.phases.Steps.{one_finish}
use Rattle.am_run.proofs.phase.Run.finish.Goals as goal

pub returns-in-Ok-clause-finished : goal.returns-in-Ok-clause-finished
returns-in-Ok-clause-finished g c none = one_finish _ c.args.self.now.main c.finish_own.new.pass _ c.args.now c.args.own _ c.in-Ok.ensures.done
