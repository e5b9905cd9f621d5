use Rattle.am_timeline.proofs.Rows
use Rattle.am_timeline.proofs.law.texts_are_shown.Goals as goal

pub returns : goal.returns
returns c = Rows.texts_are_shown
