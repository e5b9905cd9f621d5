use Rattle.std.proofs.Common.{◌≡◌, ◌+◌, ◌*◌, ◌≤◌, length, rules, ap, sym, ◌∙◌, arith}
use Rattle.am_hours.specs.Intervals.{is_on_date}
use Rattle.am_hours.specs.Pieces.{days_in, shown_on}
use Rattle.am_hours.specs.declared.interval.Shown.{Shown}
use Rattle.am_hours.proofs.Counts.{days_below}
use Rattle.am_hours.proofs.DaySpans.{piece-step-on, piece-step-off}
use Rattle.am_hours.proofs.expansion.add_piece.Goals as goal
use Rattle.am_hours.proofs.expansion.add_piece.Goals.{then-is_on+in_ok-add_day, else-is_on}

pub loop-day-preserved : goal.loop-day-preserved
loop-day-preserved c =
    let i = c.args.interval.now in
    let p = c.args.piece.now in
    let k = c.loop-day.day in
    let old = c.args.spans.now.items in
    let before = c.loop-day.invariant in
    let counted : is_on_date i (shown_on p k 0) ≡ c.is_on.result =
    ap (λ (m : Shown). is_on_date i m) (sym c.shown_on.ensures) ∙ sym c.is_on.ensures in
    elim c.if-is_on.branch [
      | then-is_on+in_ok-add_day w ↦
          let added = w.in_ok-add_day.ensures in
          rw w.spans-is (record {
            held = λ t. piece-step-on i p c.args.minutes.now old c.loop-day.spans.items w.add_day.new.spans.items k t
                c.requires.minutes (counted ∙ w.if-is_on.true) (before.held t) (added.held t);
            apart = added.apart;
            few = added.few;
            count = omega (arith, added.count, before.count);
          })
      | else-is_on w ↦
          rw w.spans-is (record {
            held = λ t. piece-step-off i p old c.loop-day.spans.items k t (counted ∙ w.if-is_on.false) (before.held t);
            apart = before.apart;
            few = before.few;
            count = omega (arith, before.count);
          })
    ]

pub returns-in_err-add_day-clause-refused : goal.returns-in_err-add_day-clause-refused
returns-in_err-add_day-clause-refused c =
    let m = length c.args.minutes.now in
    let below : c.loop-day.day * m + m ≤ days_in c.args.piece.now * m =
    days_below c.loop-day.day (days_in c.args.piece.now) m (omega (arith, c.days-day-end.ensures.value)) in
    search rules
