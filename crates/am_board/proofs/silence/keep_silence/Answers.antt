use Rattle.std.proofs.Common.{sym, ◌∙◌}
use Rattle.am_model.proofs.lists.Indexes.{put_at, put_new}
use Rattle.am_model.specs.Maintenance.{same_silence}
use Rattle.am_board.proofs.silence.keep_silence.Goals as goal

pub returns-in-Some : goal.returns-in-Some
returns-in-Some c = c.replace.ensures.items ∙ sym (put_at same_silence c.args.silence c.args.silences.now.items c.in-Some.i (sym c.requires.index ∙ c.in-Some.is))

pub returns-in-None : goal.returns-in-None
returns-in-None c = c.add.ensures.items ∙ sym (put_new same_silence c.args.silence c.args.silences.now.items (sym c.requires.index ∙ c.in-None.is))
