use Rattle.std.proofs.Common.{◌≤◌, ◌+◌, ◌-◌, ap, sym, ◌∙◌, arith}
use Rattle.am_terms.specs.UtcDates.{DayData, day_after, next_day}
use Rattle.am_terms.proofs.Days.{day_after-next, year-next_day}
use Rattle.am_terms.proofs.dated.Day.after.Goals as goal

pub loop-later-preserved : goal.loop-later-preserved
loop-later-preserved c =
    let here = c.loop-later.day in
    let gone = c.loop-later._later in
    let year : (next_day here).year ≤ c.args.self.now.year + (gone + 1) = omega (arith, year-next_day here, c.loop-later.invariant.year) in
    record {
      same = ap (λ (d : DayData). day_after (c.args.days - (gone + 1)) d) c.next-day.ensures
          ∙ sym (day_after-next c.args.days gone here c.loop-later-test.true)
          ∙ c.loop-later.invariant.same;
      year = rw c.next-day.ensures year;
    }
