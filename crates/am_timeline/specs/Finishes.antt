-- Finishes: where the flushes of a history are finished.
use Rattle.std.specs.Prelude.{ℕ, ◌+◌, Bool, List, [], ◌∷◌, Option, None, Some, is_some, if◌then◌else◌}
use Rattle.am_model.specs.declared.record.Call.{Call}
use Rattle.am_model.specs.declared.record.Record.{Record}
use Rattle.am_model.specs.Outcomes.{finished_with}

-- whether a call finishes the flush of this number
abbrev pub is_finish_of : ℕ → Call → Bool
is_finish_of number call = is_some (finished_with number call)

-- the place of the first finish of the flush of this number, if there is one; the first of these records has this place
abbrev pub first_finish : ℕ → ℕ → List Record → Option ℕ
first_finish number place [] = None
first_finish number place (r ∷ rs) = if is_finish_of number r.call then Some place else first_finish number (place + 1) rs
