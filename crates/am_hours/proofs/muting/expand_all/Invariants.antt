use Rattle.std.proofs.Common.{◌≡◌, ◌≤◌, ℕ, true, take, vec_len}
use Rattle.std.specs.List.{list_any, sum_by}
use Rattle.am_alerts.specs.Spans.{are_apart, is_muted}
use Rattle.am_hours.specs.Pieces.{contains_at, most_spans}
use Rattle.am_hours.proofs.muting.expand_all.Given as goal

abbrev pub invariant-loop-timed : goal.invariant-loop-timed
invariant-loop-timed l = record {
  held : (t : ℕ) → is_muted l.joined.items t
      ≡ list_any (λ x. contains_at x.interval.now x.clock.now.pieces t) (take l.timed-index l.intervals);
  apart : are_apart l.joined.items ≡ true;
  few : vec_len l.joined ≤ 8192;
  count : vec_len l.joined ≤ sum_by (λ x. most_spans x.interval.now x.clock.now.pieces) (take l.timed-index l.intervals);
}
