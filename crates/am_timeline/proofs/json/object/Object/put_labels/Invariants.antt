use Rattle.std.proofs.Common.{◌≡◌, map, take}
use Rattle.serde_json.specs.View.{members_view}
use Rattle.am_timeline.specs.Json.{label_member, put_all}
use Rattle.am_timeline.proofs.json.object.Object.put_labels.Given as goal

-- the labels so far were put
abbrev pub invariant-loop-i : goal.invariant-loop-i
invariant-loop-i l =
    members_view l.self.members.entries ≡ put_all (members_view l.fn.self.members.entries) (map label_member (take l.i l.labels))
