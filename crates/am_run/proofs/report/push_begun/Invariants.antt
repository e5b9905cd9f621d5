use Rattle.std.proofs.Common.{◌≡◌, ◌++◌, ℕ, string_bytes, take}
use Rattle.std.specs.List.{flat_map}
use Rattle.am_model.specs.Outcomes.{outcomes_in}
use Rattle.am_run.specs.Report.{line_on, attempts_on}
use Rattle.am_run.proofs.report.push_begun.Given as goal

-- the lines so far were added, and what came of the flush is what its finish and the reports say
abbrev pub invariant-loop-notice : goal.invariant-loop-notice
invariant-loop-notice l = record {
  lines : string_bytes l.out ≡ string_bytes l.fn.out ++ flat_map (line_on l.config l.reports l.later) (take l.notice-index l.notices);
  outcomes : l.flush.outcomes.now ≡ outcomes_in l.flush.ticket l.later;
  attempts : (integration : ℕ) → attempts_on l.flush.ticket integration l.flush.reports.now ≡ attempts_on l.flush.ticket integration l.reports;
}
