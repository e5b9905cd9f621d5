use Rattle.std.proofs.Common.{take}
use Rattle.serde_json.specs.View.{items_view}
use Rattle.am_json.specs.Decoding.{DecodeEach, IsObject}
use Rattle.am_config.specs.Collects.{Collects}
use Rattle.am_config.specs.Receivers.{HasIntegration, kind_in}
use Rattle.am_config.proofs.receiver.read_list.Given as goal

-- the integrations so far are those of the items so far
abbrev pub invariant-loop-index : goal.invariant-loop-index
invariant-loop-index l =
    Collects l.fn.faults l.faults
    (DecodeEach (IsObject (HasIntegration (kind_in l.kind))) (items_view (take l.index l.items)) l.integrations.items)
