-- Each law is a lemma of its own.
use Rattle.am_retry.proofs.Fronts.{never_both}
use Rattle.am_retry.proofs.Runs.{over_exactly, waits_exactly, continues_exactly}
use Rattle.am_retry.proofs.Tries.{one_more_try}
use Rattle.am_retry.proofs.law.machine_gives_retry_outcome.Goals as goal

pub returns-clause-over : goal.returns-clause-over
returns-clause-over c = over_exactly

pub returns-clause-waits : goal.returns-clause-waits
returns-clause-waits c = waits_exactly

pub returns-clause-continues : goal.returns-clause-continues
returns-clause-continues c = continues_exactly

pub returns-clause-unique : goal.returns-clause-unique
returns-clause-unique c = never_both

pub returns-clause-tries : goal.returns-clause-tries
returns-clause-tries c = one_more_try
