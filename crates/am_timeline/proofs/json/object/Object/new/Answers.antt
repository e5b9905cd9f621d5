use Rattle.std.proofs.Common.{◌∙◌, ap}
use Rattle.serde_json.specs.Data.{no_members}
use Rattle.am_model.specs.declared.config.Config.{Config}
use Rattle.am_timeline.specs.Json.{event_members, put_all}
use Rattle.am_timeline.proofs.Members.{put_after, put_first}
use Rattle.am_timeline.proofs.json.object.Object.new.Goals as goal

pub returns : goal.returns
unfolding event_members
returns g c =
    let times = g.C.TimeFormat.times c.args.print.now.clock.now in
    put_after _ _ _ (put_first _ c.empty-object.ensures c.in_ok-put_text.ensures)
    (put_after _ _ _ c.in_ok-put_number.ensures
    (put_after _ _ _ c.in_ok-put_time.ensures (put_after _ _ _ c.in_ok-put_route.ensures c.in_ok-put_group.ensures)))
    ∙ ap (λ (config : Config). put_all no_members (event_members config times c.args.event.now c.args.at c.args.group.now)) c.config.ensures
