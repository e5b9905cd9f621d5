use Rattle.std.proofs.Common.{◌∙◌, ◌&&◌, ◌||◌, Bool, ap, sym}
use Rattle.am_timeline.specs.Runs.{sends_nothing}
use Rattle.am_timeline.proofs.Likeness.{lines_by-alike}
use Rattle.am_timeline.proofs.runs.Folding.have_same_lines.Goals as goal

pub returns-then-self : goal.returns-then-self
returns-then-self g c h times =
    let playback = c.args.self.now.print.playback.now in
    let begin = c.args.begin.now in
    let other = c.args.other.now in
    let quiet : Bool = sends_nothing playback.history begin && sends_nothing playback.history other in
    lines_by-alike c.args.self.now.all playback times begin other (c.are_alike.ensures c.if-are_alike.true) (ap (λ (a : Bool). a || quiet) h)

pub returns-else-self : goal.returns-else-self
returns-else-self g c h times =
    let playback = c.args.self.now.print.playback.now in
    let begin = c.args.begin.now in
    let other = c.args.other.now in
    let quiet : Bool = sends_nothing playback.history begin && sends_nothing playback.history other in
    lines_by-alike c.args.self.now.all playback times begin other (c.are_alike.ensures c.if-are_alike.true)
    (ap (λ (a : Bool). a || quiet) c.if-self.false ∙ sym c.send_nothing.ensures ∙ h)
