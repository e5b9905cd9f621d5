use Rattle.std.proofs.Common.{◌+◌, ◌*◌, length, ◌≡◌, ◌≤◌, ℕ, true, vec_len}
use Rattle.std.specs.Prelude.{◌&&◌, ◌||◌, nat_lt}
use Rattle.am_hours.specs.Intervals.{contains}
use Rattle.am_hours.specs.Pieces.{day_at, is_in, shown}
use Rattle.am_alerts.specs.Spans.{are_apart, is_muted}
use Rattle.am_hours.proofs.expansion.add_piece.Given as goal

abbrev pub invariant-loop-day : goal.invariant-loop-day
invariant-loop-day l = record {
  held : (t : ℕ) → is_muted l.spans.items t
      ≡ (is_muted l.initial.spans.items t || (is_in l.piece t
      && (nat_lt (day_at l.piece t) l.day && contains l.interval (shown l.piece t))));
  apart : are_apart l.spans.items ≡ true;
  few : vec_len l.spans ≤ 8192;
  count : vec_len l.spans ≤ vec_len l.initial.spans + l.day * length l.minutes;
}
