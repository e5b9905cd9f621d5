use Rattle.std.proofs.Common.{◌*◌, length, ◌≡◌, ◌≤◌, ℕ, true, take, vec_len}
use Rattle.std.specs.List.{sum_by}
use Rattle.am_hours.specs.Pieces.{contains_at, days_in}
use Rattle.am_alerts.specs.Spans.{are_apart, is_muted}
use Rattle.am_hours.proofs.expansion.spans_on.Given as goal

abbrev pub invariant-loop-piece : goal.invariant-loop-piece
invariant-loop-piece l = record {
  held : (t : ℕ) → is_muted l.spans.items t ≡ contains_at l.interval (take l.piece-index l.pieces) t;
  apart : are_apart l.spans.items ≡ true;
  few : vec_len l.spans ≤ 8192;
  count : vec_len l.spans ≤ sum_by (λ p. days_in p * length l.minutes) (take l.piece-index l.pieces);
}
