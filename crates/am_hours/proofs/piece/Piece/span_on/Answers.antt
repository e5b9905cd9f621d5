use Rattle.std.proofs.Common.{◌+◌, arith}
use Rattle.am_alerts.specs.declared.spans.Span.{Span}
use Rattle.am_hours.proofs.DaySpans.{holds-day}
use Rattle.am_hours.proofs.piece.Piece.span_on.Goals as goal

pub returns : goal.returns
returns c =
    let piece = c.args.self.now in
    let span : Span = record { from = piece.from + c.saturating_sub.result; to = c.min.result } in
    λ t. holds-day piece span c.args.minutes c.args.day t (omega arith) (omega arith)
