use Rattle.std.proofs.Common.{◌∙◌, ℕ, List, ap}
use Rattle.std.specs.List.{flat_map}
use Rattle.std.proofs.lemmas.Result.{IfOk-weaker}
use Rattle.am_timeline.specs.declared.runs.Run.{Run}
use Rattle.am_timeline.specs.Runs.{begins_folded, event_lines_by_runs}
use Rattle.am_timeline.proofs.Starts.{event_lines-by}
use Rattle.am_timeline.proofs.short_timeline.short_timeline_text.Goals as goal

pub returns : goal.returns
returns g c =
    let playback = c.args.playback.now in
    let times = g.C.TimeFormat.times c.args.clock.now in
    let folds = begins_folded playback times in
    IfOk-weaker c.folded_text.result _ _
    (λ text is.
    is
    ∙ ap (λ (f : List ℕ × List Run). flat_map (event_lines_by_runs playback times f) playback.events) c.in_ok-folds.ensures
    ∙ (λ i. flat_map (λ e. event_lines-by playback times folds e i) playback.events))
    c.folded_text.ensures
