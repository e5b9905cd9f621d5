use Rattle.std.proofs.Common.{◌≡◌, take, vec_len}
use Rattle.serde_json.specs.View.{items_view}
use Rattle.am_json.specs.Decoding.{DecodeEach}
use Rattle.am_json.proofs.reader.Reader.list.Given as goal

-- as many items as values so far, and what these say
abbrev pub invariant-loop-index : goal.invariant-loop-index
invariant-loop-index g l = record {
  count : vec_len l.items ≡ l.index;
  decoded : DecodeEach (g.T.FromJson.decodes_to l.self.mode) (items_view (take l.index l.values)) l.items.items;
}
