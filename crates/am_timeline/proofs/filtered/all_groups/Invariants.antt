use Rattle.std.proofs.Common.{◌≡◌, take}
use Rattle.std.specs.HashSet.{contains}
use Rattle.am_model.specs.declared.group.GroupName.{GroupName}
use Rattle.am_model.specs.State.{same_name}
use Rattle.am_timeline.specs.Filtered.{has_match}
use Rattle.am_timeline.specs.Filtered.{inserted_in}
use Rattle.am_timeline.proofs.filtered.all_groups.Given as goal

-- the groups of the inserts so far were added
abbrev pub invariant-loop-record : goal.invariant-loop-record
invariant-loop-record l = record {
  kept : l.searchers ≡ l.matchers;
  found : (name : GroupName) → contains same_name l.groups name ≡ has_match l.config (inserted_in (take l.record-index l.history)) l.matchers name;
}
