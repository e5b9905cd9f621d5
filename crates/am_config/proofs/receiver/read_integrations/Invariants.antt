use Rattle.std.proofs.Common.{map, take}
use Rattle.serde_json.specs.View.{members_view}
use Rattle.am_config.specs.Collects.{Collects}
use Rattle.am_config.specs.Receivers.{HasLists, kind_in}
use Rattle.am_config.proofs.receiver.read_integrations.Given as goal

-- the integrations so far are those of the kinds so far
abbrev pub invariant-loop-kind : goal.invariant-loop-kind
invariant-loop-kind l =
    Collects l.fn.faults l.faults (HasLists (map kind_in (take l.kind-index l.all)) (members_view l.receiver.members) l.integrations.items)
