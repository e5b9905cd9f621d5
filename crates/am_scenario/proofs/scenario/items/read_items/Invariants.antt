use Rattle.std.proofs.Common.{◌≡◌, length, vec_len}
use Rattle.serde_json.specs.View.{items_view}
use Rattle.am_json.specs.Decoding.{DecodeEach}
use Rattle.am_scenario.proofs.scenario.items.read_items.Given as goal

-- as many items as values so far, and what these say
abbrev pub invariant-loop-value : goal.invariant-loop-value
invariant-loop-value g l = record {
  count : vec_len l.items ≡ length l.yielded;
  decoded : DecodeEach g.T.FromOwned.decodes_to (items_view l.yielded) l.items.items;
}
