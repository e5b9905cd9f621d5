use Rattle.am_missed_in_plays.proofs.HaveRun.{rehearsals_have_causes, rehearsals_have_run, rehearsals_show_causes}
use Rattle.am_missed_in_plays.proofs.law.rehearsals_have_causes.Goals as goal

pub returns-clause-ran : goal.returns-clause-ran
returns-clause-ran c = rehearsals_have_run

pub returns-clause-causes : goal.returns-clause-causes
returns-clause-causes c = rehearsals_have_causes

pub returns-clause-came : goal.returns-clause-came
returns-clause-came c = rehearsals_show_causes
