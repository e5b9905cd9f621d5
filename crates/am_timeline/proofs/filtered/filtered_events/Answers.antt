use Rattle.std.proofs.Common.{◌∙◌, sym}
use Rattle.am_timeline.proofs.Unfiltered.{unfiltered}
use Rattle.am_timeline.proofs.filtered.filtered_events.Goals as goal

pub returns-then-is_empty : goal.returns-then-is_empty
returns-then-is_empty c = sym (unfiltered c.args.playback.now c.args.wanted.now (sym c.is_empty.ensures ∙ c.if-is_empty.true))
