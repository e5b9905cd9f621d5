-- Noting: between the code of a note and the definition Note. What it finds among the stored flushes.
use Rattle.std.specs.Prelude.{◌≡◌, ℕ, ◌==◌, List, position, slice_get, slice_index_or, Some}
use Rattle.std.specs.Option.{option_map}
use Rattle.am_board.specs.declared.flush.OpenFlush.{OpenFlush}
use Rattle.am_board.specs.declared.note.NoteTarget.{NoteTarget}
use Rattle.am_model.specs.Notice.{NoticeData}
use Rattle.am_model.specs.Ticket.{TicketData, outcome_of}
use Rattle.am_board.specs.Finishing.{IsReadyAt}

-- the notice at an index of a ticket is of this integration, which was reported so; its flush is open and notified it, and it can be noted
pub record IsNoteTarget (flushes : List OpenFlush) (ticket : TicketData) (index : ℕ) (n : NoteTarget) : Type 0 where
  pub first : position (λ f. f.number == ticket.number) flushes ≡ Some n.flush
  pub notice : option_map (λ (notice : NoticeData). notice.integration) (slice_get ticket.notices index) ≡ Some n.integration
  pub outcome : n.outcome ≡ outcome_of ticket.outcomes n.integration
  pub ready : (d : OpenFlush) → IsReadyAt (slice_index_or flushes n.flush d) n.integration n.outcome n.notified
