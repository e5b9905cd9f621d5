use Rattle.std.proofs.Common.{◌≡◌, ◌∙◌, List, ap, if◌then◌else◌}
use Rattle.am_terms.specs.declared.event.Event.{Event}
use Rattle.am_timeline.specs.Changed.{changed}
use Rattle.am_timeline.specs.Filtered.{filtered, left_of}
use Rattle.am_timeline.specs.Playback.{PlaybackData}
use Rattle.am_render.specs.Printed.{shown_text}
use Rattle.am_render.proofs.render.lines_of.Goals as goal

pub returns-clause-text : goal.returns-clause-text
returns-clause-text g c =
    let playback = c.args.playback.now in
    let options = c.args.show.now.options.now in
    let times = g.C.TimeFormat.times c.args.clock.now in
    let left : PlaybackData = c.with_events-filtered.result in
    let is_left : left ≡ filtered playback options.filter =
    c.with_events-filtered.ensures
    ∙ ap (λ (events : List Event). record playback { events = events })
    (c.of.ensures ∙ ap (λ (events : List Event). left_of c.in_ok-left.left events) c.events.ensures ∙ c.in_ok-left.ensures) in
    let is_kept : c.with_events-shown.result ≡ record left { events = left_of c.in_ok-kept.kept left.events } =
    c.with_events-shown.ensures
    ∙ ap (λ (events : List Event). record left { events = events })
    (c.of-2.ensures ∙ ap (λ (events : List Event). left_of c.in_ok-kept.kept events) c.events-2.ensures) in
    let is_shown : c.with_events-shown.result ≡ (if options.changes then changed left times else left) = is_kept ∙ c.in_ok-kept.ensures in
    c.in_ok-shown_text.ensures
    ∙ ap (λ (s : PlaybackData). shown_text c.args.show.now.output s playback times)
    (is_shown ∙ ap (λ (s : PlaybackData). if options.changes then changed s times else s) is_left)
