-- The rows that a note or a finish would log, at the state after the history.
use Rattle.std.proofs.Common.{◌≡◌, ℕ, List, ap, ◌∙◌, subst}
use Rattle.am_retry.specs.declared.outcome.Outcome.{Outcome}
use Rattle.am_model.specs.Replay.{replay}
use Rattle.am_model.specs.State.{State, flush_numbered, time}
use Rattle.am_model.specs.Ticket.{TicketData}
use Rattle.am_board.specs.Board.{IsSound, whole}
use Rattle.am_board.specs.History.{BoardData}
use Rattle.am_board.specs.Logged.{finished_rows, noted_row, row_of_note, rows_of_finish}
use Rattle.am_board.specs.Refinement.{state_of}
use Rattle.am_board.specs.declared.board.Board.TheInside.{Inside}
use Rattle.am_board.proofs.lemmas.invariant.Calls.{seen}

module _ (b : Inside) (sound : IsSound b) (now : BoardData) (view_is : seen b b.state ≡ now) (at : ℕ) (ticket : TicketData) (number : ℕ) (numbered : number ≡ ticket.number) where
  pub noted_row-now : (integration : ℕ) → row_of_note b.config (time (state_of b.state) at) integration (flush_numbered (state_of b.state).flushes number) ≡ noted_row now at integration ticket
  noted_row-now integration =
      let replayed = replay b.config (whole b) in
      subst (λ (d : BoardData). row_of_note b.config (time (state_of b.state) at) integration (flush_numbered (state_of b.state).flushes number) ≡ noted_row d at integration ticket) view_is
      (ap (λ (s : State). row_of_note b.config (time s at) integration (flush_numbered s.flushes number)) sound.agrees.rest
      ∙ ap (λ n. row_of_note b.config (time replayed at) integration (flush_numbered replayed.flushes n)) numbered)

  pub finished_rows-now : (outcomes : List (ℕ × Outcome)) → outcomes ≡ ticket.outcomes → rows_of_finish b.config (time (state_of b.state) at) outcomes (flush_numbered (state_of b.state).flushes number) ≡ finished_rows now at ticket
  finished_rows-now outcomes reported =
      let replayed = replay b.config (whole b) in
      subst (λ (d : BoardData). rows_of_finish b.config (time (state_of b.state) at) outcomes (flush_numbered (state_of b.state).flushes number) ≡ finished_rows d at ticket) view_is
      (ap (λ (s : State). rows_of_finish b.config (time s at) outcomes (flush_numbered s.flushes number)) sound.agrees.rest
      ∙ (λ i. rows_of_finish b.config (time replayed at) (reported i) (flush_numbered replayed.flushes (numbered i))))
