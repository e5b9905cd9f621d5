use Rattle.std.proofs.Common.{◌∙◌, ◌&&◌, ap}
use Rattle.am_alerts.specs.declared.route.Route.{Route}
use Rattle.am_timeline.specs.Filtered.{is_named, is_of}
use Rattle.am_timeline.specs.Playback.{PlaybackData}
use Rattle.am_timeline.proofs.filtered.is_of.Goals as goal

pub returns : goal.returns
returns c =
    let wanted = c.args.wanted.now in
    c.is_of_route.ensures
    ∙ ap (λ (r : Route). is_named wanted.receiver r.receiver && is_named wanted.route r.name) c.route_of.ensures
    ∙ ap (λ (p : PlaybackData). is_of p.config wanted c.args.name.now) c.playback.view_is
