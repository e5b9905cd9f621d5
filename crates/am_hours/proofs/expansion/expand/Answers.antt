use Rattle.std.proofs.Common.{◌*◌, length, ap, arith}
use Rattle.std.specs.List.{sum_by}
use Rattle.am_hours.specs.Pieces.{days_in, most_spans, ranges_in}
use Rattle.am_hours.proofs.Counts.{err_less, ok_less, on_pieces}
use Rattle.am_hours.proofs.expansion.expand.Goals as goal

pub returns-clause-count : goal.returns-clause-count
returns-clause-count c =
    ok_less c.spans_on.result (sum_by (λ p. days_in p * length c.deref.result.now) c.pieces.result.now)
    (most_spans c.args.interval.now c.args.clock.now.pieces)
    (on_pieces (length c.deref.result.now) c.args.interval.now c.pieces.result.now c.args.clock.now.pieces c.pieces.ensures.pieces
    (omega (arith, c.deref.ensures.len, c.in_ok-minutes.ensures.count, ap ranges_in c.times.ensures)))
    c.spans_on.ensures.count

pub returns-clause-refused : goal.returns-clause-refused
returns-clause-refused c =
    err_less c.spans_on.result (sum_by (λ p. days_in p * length c.deref.result.now) c.pieces.result.now)
    (most_spans c.args.interval.now c.args.clock.now.pieces)
    (on_pieces (length c.deref.result.now) c.args.interval.now c.pieces.result.now c.args.clock.now.pieces c.pieces.ensures.pieces
    (omega (arith, c.deref.ensures.len, c.in_ok-minutes.ensures.count, ap ranges_in c.times.ensures)))
    c.spans_on.ensures.refused
