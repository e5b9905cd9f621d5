use Rattle.am_timeline.proofs.LastEntries
use Rattle.am_timeline.proofs.law.last_entries_are_rows.Goals as goal

pub returns : goal.returns
returns c = LastEntries.last_entries_are_rows
