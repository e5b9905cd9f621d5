use Rattle.am_model.proofs.legal.Histories.{replay_appends, legal_appends, clock_is_time}
use Rattle.am_model.proofs.law.histories_go_record_by_record.Goals as goal

pub returns-clause-replay : goal.returns-clause-replay
returns-clause-replay c = replay_appends

pub returns-clause-legal : goal.returns-clause-legal
returns-clause-legal c = legal_appends

pub returns-clause-clock : goal.returns-clause-clock
returns-clause-clock c = clock_is_time
