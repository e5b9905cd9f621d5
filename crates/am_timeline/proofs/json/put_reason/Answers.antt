use Rattle.am_timeline.proofs.json.put_reason.Goals as goal

pub returns-in-NotYet : goal.returns-in-NotYet
returns-in-NotYet c = rw c.in-NotYet.is c.put_timed.ensures
