use Rattle.std.proofs.Common.{◌≡◌, ◌≤◌, ℕ, true, take, vec_len}
use Rattle.std.specs.List.{list_any}
use Rattle.am_hours.specs.Intervals.{is_during}
use Rattle.am_alerts.specs.Spans.{are_apart, is_muted}
use Rattle.am_hours.proofs.expansion.add_times.Given as goal

abbrev pub invariant-loop-time : goal.invariant-loop-time
invariant-loop-time l = record {
  held : (m : ℕ) → is_muted l.minutes.items m ≡ list_any (is_during m) (take l.time-index l.times);
  apart : are_apart l.minutes.items ≡ true;
  few : vec_len l.minutes ≤ 8192;
  count : vec_len l.minutes ≤ l.time-index;
}
