use Rattle.std.proofs.Common.{List, map, take}
use Rattle.serde_json.specs.View.{items_view}
use Rattle.am_json.specs.Decoding.{DecodeEach}
use Rattle.am_plans.specs.DispatcherChange.{AddsItems, DecodesTo, ItemData, item_of}
use Rattle.am_plans.proofs.dispatcher_change.add_each.Given as goal

-- what the values so far say was added
abbrev pub invariant-loop-index : goal.invariant-loop-index
invariant-loop-index l =
    (more : List ItemData) × AddsItems l.until (map item_of l.fn.items.items) (map item_of l.items.items) more
    × DecodeEach (DecodesTo l.kind l.member.mode) (items_view (take l.index l.values)) more
