use Rattle.am_protocol.proofs.reply.write_reply.Goals as goal

pub returns-in-NothingDue : goal.returns-in-NothingDue
returns-in-NothingDue c = rw c.in-NothingDue.is c.write_named.ensures

pub returns-in-Forgotten : goal.returns-in-Forgotten
returns-in-Forgotten c = rw c.in-Forgotten.is c.write_counts-in-Forgotten.ensures

pub returns-in-EmptyGroupsRemoved : goal.returns-in-EmptyGroupsRemoved
returns-in-EmptyGroupsRemoved c = rw c.in-EmptyGroupsRemoved.is c.write_count.ensures
