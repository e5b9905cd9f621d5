use Rattle.am_model.proofs.legal.Begins.{begins_keep}
use Rattle.am_model.proofs.legal.Consistent.{consistent_replay}
use Rattle.am_model.proofs.legal.KnownMembers.{members_known}
use Rattle.am_model.proofs.law.legal_histories_are_consistent.Goals as goal

pub returns-clause-consistent : goal.returns-clause-consistent
returns-clause-consistent c = consistent_replay

pub returns-clause-members : goal.returns-clause-members
returns-clause-members c = members_known

pub returns-clause-begins : goal.returns-clause-begins
returns-clause-begins c = begins_keep
