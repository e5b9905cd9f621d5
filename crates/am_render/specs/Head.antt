-- Head: the line between what two dispatchers did.
use Rattle.std.specs.Prelude.{ℕ, ◌==◌, List, [], ◌∷◌, ◌++◌, codes, decimal, if◌then◌else◌}
use Rattle.am_simulation.specs.declared.playing.PlayedPart.{PlayedPart}
use Rattle.am_terms.specs.declared.dispatcher_change.DispatcherChange.{DispatcherChange}
use Rattle.am_terms.specs.declared.dispatcher_change.Carryover.{Carryover}
use Rattle.am_terms.specs.declared.dispatcher_change.Carryover.TheVariants.{All, Log, Nothing}
use Rattle.am_terms.specs.TimeFormatData.{TimeFormatData, column}
use Rattle.am_render.specs.declared.head.Change.{Change}
use Rattle.am_render.specs.declared.head.Head.{Head}

-- when a new dispatcher begins, and what it keeps
abbrev pub change_of : DispatcherChange → Change
change_of h = record { at = h.at; carryover = h.carryover }

-- what is said of each new dispatcher, with the log rows that it took over; the parts are those of the new ones
abbrev pub heads_of : List Change → List PlayedPart → List Head
heads_of [] parts = []
heads_of (c ∷ cs) [] = []
heads_of (c ∷ cs) (p ∷ ps) = record { change = c; rows = p.rows; taken = p.taken } ∷ heads_of cs ps

-- entries of the log
unfoldable pub entries_word : ℕ → List ℕ
entries_word rows = if rows == 1 then codes " log entry" else codes " log entries"

-- how much of the log is taken over
abbrev pub taken_text : ℕ → ℕ → List ℕ
taken_text rows taken = decimal taken ++ codes " of " ++ decimal rows ++ entries_word rows ++ codes " taken over"

-- what became of the dispatcher before
abbrev pub kept_text : Head → Carryover → List ℕ
kept_text h All = codes "reload  " ++ taken_text h.rows h.taken
kept_text h Log = codes "restart " ++ taken_text h.rows h.taken
kept_text h Nothing = codes "restart log and silences are lost"

-- the line on a new dispatcher, between empty lines
unfoldable pub head_text : TimeFormatData → Head → List ℕ
head_text times h = codes "\n" ++ column times h.change.at ++ kept_text h h.change.carryover ++ codes "\n\n"
