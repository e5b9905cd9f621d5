use Rattle.std.proofs.Common.{◌≡◌, List, ◌++◌}
use Rattle.serde_json.proofs.Views.{Entry}
use Rattle.serde_json.specs.View.{members_view}
use Rattle.am_protocol.specs.Hours.{AreZones}
use Rattle.am_protocol.proofs.hours.read_listed.Given as goal

-- the members so far are these zones
abbrev pub invariant-loop-name : goal.invariant-loop-name
invariant-loop-name l =
    (done : List Entry) × (l.listed.members ≡ done ++ l.name-iterator) × AreZones (members_view done) l.zones.items
