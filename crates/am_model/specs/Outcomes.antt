-- Outcomes: the outcomes of a flush's notices, by its finish in the later records.
use Rattle.std.specs.Prelude.{ℕ, ◌==◌, List, [], ◌∷◌, Option, Some, None, unwrap_or, if◌then◌else◌}
use Rattle.am_retry.specs.declared.outcome.Outcome.{Outcome}
use Rattle.am_model.specs.declared.record.Call.{Call}
use Rattle.am_model.specs.declared.record.Call.TheVariants as call
use Rattle.am_model.specs.declared.record.Record.{Record}

-- the outcomes that a call finishes the flush of this number with, if it does
abbrev pub finished_with : ℕ → Call → Option (List (ℕ × Outcome))
finished_with number (call.Insert now alert) = None
finished_with number (call.Silence now id matchers start end) = None
finished_with number (call.Begin now) = None
finished_with number (call.Finish now finished outcomes) = if finished == number then Some outcomes else None
finished_with number (call.Maintain now) = None
finished_with number (call.RemoveEmptyGroups now) = None
finished_with number (call.Forget now) = None
finished_with number (call.Load now row) = None
finished_with number (call.Note now noted integration outcome) = None

-- the outcomes that the flush of this number is finished with in these records; none where it isn't
abbrev pub outcomes_in : ℕ → List Record → List (ℕ × Outcome)
outcomes_in number [] = []
outcomes_in number (r ∷ rs) = unwrap_or (finished_with number r.call) (outcomes_in number rs)
