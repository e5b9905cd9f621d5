use Rattle.std.proofs.Common.{◌≡◌, ◌≤◌, ℕ, true, length, map, take, vec_len}
use Rattle.std.specs.List.{sum_by}
use Rattle.am_alerts.specs.Spans.{are_apart, is_muted}
use Rattle.am_hours.specs.Muting.{any_muted}
use Rattle.am_hours.proofs.muting.union_of.Given as goal

abbrev pub invariant-loop-list : goal.invariant-loop-list
invariant-loop-list l = record {
  held : (t : ℕ) → is_muted l.joined.items t ≡ any_muted (map (λ s. s.now) (take l.list-index l.lists)) t;
  apart : are_apart l.joined.items ≡ true;
  few : vec_len l.joined ≤ 8192;
  count : vec_len l.joined ≤ sum_by (λ s. length s.now) (take l.list-index l.lists);
}
