use Rattle.std.proofs.Common.{◌≡◌, ◌++◌, string_bytes, codes, take}
use Rattle.std.specs.List.{join_by}
use Rattle.am_model.specs.RouteKeys.{matcher_text}
use Rattle.am_model.proofs.route_keys.push_list.Given as goal

abbrev pub invariant-loop-i : goal.invariant-loop-i
invariant-loop-i l = string_bytes l.out ≡ string_bytes l.fn.out ++ join_by matcher_text (codes ",") (take l.i l.matchers)
