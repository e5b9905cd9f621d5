-- Spans of time, later.
use Rattle.std.specs.Prelude.{ℕ, ◌+◌}
use Rattle.am_alerts.specs.declared.spans.Span.{Span}

-- a span, so many milliseconds later
abbrev pub span_later : ℕ → Span → Span
span_later by span = record { from = span.from + by; to = span.to + by }
