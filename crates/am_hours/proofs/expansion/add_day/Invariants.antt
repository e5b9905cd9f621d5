use Rattle.std.proofs.Common.{◌+◌, ◌≡◌, ◌≤◌, ℕ, true, take, vec_len}
use Rattle.std.specs.Prelude.{◌&&◌, ◌||◌, ◌==◌}
use Rattle.am_hours.specs.Pieces.{day_at, is_in, minute_at}
use Rattle.am_alerts.specs.Spans.{are_apart, is_muted}
use Rattle.am_hours.proofs.expansion.add_day.Given as goal

abbrev pub invariant-loop-span : goal.invariant-loop-span
invariant-loop-span l = record {
  held : (t : ℕ) → is_muted l.spans.items t
      ≡ (is_muted l.initial.spans.items t || (is_in l.piece t
      && ((day_at l.piece t == l.day) && is_muted (take l.span-index l.minutes) (minute_at l.piece t))));
  apart : are_apart l.spans.items ≡ true;
  few : vec_len l.spans ≤ 8192;
  count : vec_len l.spans ≤ vec_len l.initial.spans + l.span-index;
}
