use Rattle.std.proofs.Common.{◌≡◌, ◌||◌, map, take}
use Rattle.std.specs.HashSet.{contains}
use Rattle.std.specs.List.{list_any}
use Rattle.am_model.specs.declared.group.GroupName.{GroupName}
use Rattle.am_model.specs.Insert.{name_in}
use Rattle.am_model.specs.State.{same_name}
use Rattle.am_timeline.proofs.filtered.add_groups.Given as goal

-- the groups of the routes so far were added
abbrev pub invariant-loop-position : goal.invariant-loop-position
invariant-loop-position l =
    (name : GroupName) → contains same_name l.groups name
    ≡ (contains same_name l.fn.groups name || list_any (same_name name) (map (name_in l.config l.labels) (take l.position-index l.position-items)))
