use Rattle.std.proofs.Common.{◌≡◌, length, take}
use Rattle.serde_json.specs.View.{items_view}
use Rattle.am_json.specs.Decoding.{DecodeEach}
use Rattle.am_plans.specs.Configs.{configs_in}
use Rattle.am_plans.specs.Expected.{IsKnownIn}
use Rattle.am_plans.proofs.expectation.read_list.Given as goal

-- what the values so far say is expected
abbrev pub invariant-loop-index : goal.invariant-loop-index
invariant-loop-index l = record {
  decoded : DecodeEach (IsKnownIn l.member.mode (configs_in l.configs) l.until l.last l.plans) (items_view (take l.index l.values)) l.expectations.items;
  count : length l.expectations.items ≡ l.index;
}
