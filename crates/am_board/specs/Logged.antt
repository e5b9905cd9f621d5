-- Logged: the rows that a note or a finish of a ticket would put into the log (Alertmanager's SetNotifiesStage).
use Rattle.std.specs.Prelude.{ℕ, List, [], map, Option, Some, None}
use Rattle.std.specs.Option.{option_map}
use Rattle.am_retry.specs.declared.outcome.Outcome.{Outcome}
use Rattle.am_model.specs.declared.config.Config.{Config}
use Rattle.am_model.specs.declared.views.RowView.{RowView}
use Rattle.am_model.specs.Finish.{logged_by, row_at}
use Rattle.am_model.specs.State.{FlushState, flush_numbered, time}
use Rattle.am_model.specs.Ticket.{TicketData}
use Rattle.am_board.specs.History.{BoardData, state_at}

-- the row that a note of an integration of this flush logs at t; none where the flush isn't open
abbrev pub row_of_note : Config → ℕ → ℕ → Option FlushState → Option RowView
row_of_note config t integration flush = option_map (λ f. row_at config t f integration) flush

-- the rows that a finish of this flush with these outcomes logs at t, by integration; none where the flush isn't open
abbrev pub rows_of_finish : Config → ℕ → List (ℕ × Outcome) → Option FlushState → List RowView
rows_of_finish config t outcomes None = []
rows_of_finish config t outcomes (Some f) = map (λ a. row_at config t f a.integration) (logged_by outcomes f)

-- the row that a note of an integration of a ticket would log
abbrev pub noted_row : BoardData → ℕ → ℕ → TicketData → Option RowView
noted_row board now integration ticket =
    row_of_note board.config (time (state_at board) now) integration (flush_numbered (state_at board).flushes ticket.number)

-- the rows that a finish of a ticket would log
abbrev pub finished_rows : BoardData → ℕ → TicketData → List RowView
finished_rows board now ticket =
    rows_of_finish board.config (time (state_at board) now) ticket.outcomes (flush_numbered (state_at board).flushes ticket.number)
