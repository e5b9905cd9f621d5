use Rattle.std.proofs.Common.{◌≡◌}
use Rattle.serde_json.specs.View.{members_view}
use Rattle.am_yaml.specs.Merges.{with_missing}
use Rattle.am_yaml.proofs.merges.add_missing.Given as goal

abbrev pub invariant-loop-name : goal.invariant-loop-name
invariant-loop-name l =
    with_missing (members_view l.members.entries) (members_view l.name-iterator)
    ≡ with_missing (members_view l.fn.members.entries) (members_view l.others.entries)
