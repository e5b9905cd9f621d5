-- PreviewLog: what the begins of a board were to do, while it runs.
use Rattle.std.specs.Prelude.{◌≡◌, ◌<◌, Bool, true, false, List, [], ◌∷◌, length, Option, Some, None}
use Rattle.am_simulation.specs.declared.preview_log.WaitingBegin.{WaitingBegin}
use Rattle.am_terms.specs.declared.event.PreviewedBegin.{PreviewedBegin}

-- the previewed begins, and whether the newest is among the others
pub record PreviewLogData : Type 0 where
  pub items : List PreviewedBegin
  pub is_settled : Bool

-- the begin that waits, if there is one
abbrev pub begins_in : Option WaitingBegin → List PreviewedBegin
begins_in None = []
begins_in (Some b) = record { index = b.index; preview = b.preview } ∷ []

-- whether none waits
abbrev pub is_none : Option WaitingBegin → Bool
is_none None = true
is_none (Some b) = false

-- there is capacity for one more begin
abbrev pub IsReady : PreviewLogData → Type 0
IsReady l = (l.is_settled ≡ true) × (length l.items < 4294967295)
