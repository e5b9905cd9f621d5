use Rattle.am_missed.proofs.Came.{causes_came}
use Rattle.am_missed.proofs.Causes.{missed_spans_have_causes}
use Rattle.am_missed.proofs.law.missed_spans_have_causes.Goals as goal

pub returns-clause-causes : goal.returns-clause-causes
returns-clause-causes c = missed_spans_have_causes

pub returns-clause-came : goal.returns-clause-came
returns-clause-came c = causes_came
