use Rattle.std.proofs.Common.{◌≡◌, ◌∙◌, [], ℕ, List, true, ap, filter, length, sym}
use Rattle.std.proofs.lemmas.List.{length-map}
use Rattle.std.proofs.lemmas.Result.{IfOk-weaker}
use Rattle.am_terms.specs.declared.event.Event.{Event}
use Rattle.am_timeline.specs.Changed.{begins_compared, is_change, is_new}
use Rattle.am_timeline.specs.declared.runs.Run.{Run}
use Rattle.am_timeline.specs.Runs.{flush_by, flushes_by}
use Rattle.am_timeline.proofs.Starts.{folds_of-length, is_new-by}
use Rattle.am_timeline.proofs.changed.changed_events.Goals as goal

pub returns : goal.returns
returns g c =
    let playback = c.args.playback.now in
    let times = g.C.TimeFormat.times c.args.clock.now in
    let folds = begins_compared playback times in
    let count : length c.begins.result.now ≡ length folds =
    ap length c.begins.ensures
    ∙ sym (length-map playback.begins (flush_by true playback times))
    ∙ sym (folds_of-length [] (flushes_by true playback times)) in
    IfOk-weaker c.new_events.result _ _
    (λ kept is.
    is
    ∙ ap (λ (f : List ℕ × List Run). filter (is_new (length c.begins.result.now) f) c.events.result.now) c.in_ok-folds.ensures
    ∙ (λ i. filter (λ e. is_new-by folds (length c.begins.result.now) e count i) c.events.result.now)
    ∙ ap (λ (es : List Event). filter (is_change folds) es) c.events.ensures)
    c.new_events.ensures
