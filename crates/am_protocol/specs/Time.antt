-- Time: the times in a line.
use Rattle.std.specs.Prelude.{◌≡◌, ◌<◌, ℕ, Option, Some, None, if◌then◌else◌, is_some}
use Rattle.serde_json.specs.Data.{Data}
use Rattle.serde_json.specs.Find.{as_null, as_str}
use Rattle.am_alerts.specs.declared.limits.TheConstants.{MAX_TIME}
use Rattle.am_json.specs.Read.{number_in, duration_in}

-- a time, in milliseconds: a duration where the value is a text, else a number
abbrev pub time_in : Data → Option ℕ
time_in value = if is_some (as_str value) then duration_in value else number_in value

-- a time
abbrev pub IsTime : Data → ℕ → Type 0
IsTime value time = time_in value ≡ Some time

-- the time of a call, which is before the greatest: at that a board's clock would stay
abbrev pub IsNow : Data → ℕ → Type 0
IsNow value now = IsTime value now × (now < MAX_TIME)

-- a time, or `null` for none
abbrev pub IsEnd : Data → Option ℕ → Type 0
IsEnd value None = as_null value ≡ Some tt
IsEnd value (Some end) = IsTime value end
