use Rattle.std.proofs.Common.{◌<◌, length, arith}
use Rattle.serde_json.specs.View.{members_view}
use Rattle.am_alerts.specs.declared.labels.Label.{Label}
use Rattle.am_alerts.specs.Labels.{label_in}
use Rattle.am_timeline.specs.Json.{label_member}
use Rattle.am_timeline.proofs.Members.{put_next, put_none}
use Rattle.am_timeline.proofs.json.object.Object.put_labels.Goals as goal

pub loop-i-init : goal.loop-i-init
loop-i-init c = put_none (members_view c.args.self.now.members.entries)

pub loop-i-preserved : goal.loop-i-preserved
loop-i-preserved c =
    let label : Label = label_in c.pair.result in
    let labels = c.args.labels.now in
    let within : c.loop-i.i < length labels = omega (arith, c.loop-i-test.true, c.len-i-end.ensures.length) in
    put_next label_member (members_view c.args.self.now.members.entries) (members_view c.loop-i.self.members.entries) _ labels c.loop-i.i
    label label within (c.pair.ensures label) c.loop-i.invariant c.in_ok-put_label.ensures
