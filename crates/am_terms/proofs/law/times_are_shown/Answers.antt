use Rattle.am_terms.proofs.Rows.{times_are_counted, times_are_dated}
use Rattle.am_terms.proofs.law.times_are_shown.Goals as goal

pub returns-clause-counted : goal.returns-clause-counted
returns-clause-counted c = times_are_counted

pub returns-clause-dated : goal.returns-clause-dated
returns-clause-dated c = times_are_dated
