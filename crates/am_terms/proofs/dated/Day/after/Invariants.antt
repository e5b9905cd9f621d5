use Rattle.std.proofs.Common.{◌≡◌, ◌≤◌, ◌+◌, ◌-◌}
use Rattle.am_terms.specs.UtcDates.{day_after}
use Rattle.am_terms.proofs.dated.Day.after.Given as goal

-- so many days are gone, in no more years
abbrev pub invariant-loop-later : goal.invariant-loop-later
invariant-loop-later l = record {
  same : day_after (l.days - l._later) l.day ≡ day_after l.days l.self;
  year : l.day.year ≤ l.self.year + l._later;
}
