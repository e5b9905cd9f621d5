use Rattle.std.proofs.Common.{◌≡◌, List, ◌++◌}
use Rattle.serde_json.proofs.Views.{Entry}
use Rattle.serde_json.specs.View.{members_view}
use Rattle.am_input.specs.Clocks.{ListsZones}
use Rattle.am_input.specs.Zones.{AreZones}
use Rattle.am_input.proofs.zones.read_listed.Given as goal

-- the members so far are zones, and these zones
abbrev pub invariant-loop-name : goal.invariant-loop-name
invariant-loop-name l =
    (done : List Entry) × (l.listed.members ≡ done ++ l.name-iterator) × AreZones (members_view done)
    × ListsZones (members_view done) l.zones.items
