use Rattle.std.proofs.Common.{◌∙◌, [], inl, inr, refl, sym}
use Rattle.am_model.specs.declared.fault.NoteFault.TheVariants.{NotReady}
use Rattle.am_protocol.specs.declared.request.Request.TheVariants.{Note}
use Rattle.am_protocol.specs.Logged.{noted_tokens}
use Rattle.am_session.proofs.Leaving.{lacks_ticket, not_open_leaves, note_refused, note_unmade, unmade_leaves, untold_all}
use Rattle.am_session.proofs.Making.{first_ticket, held_there, noted_with, notes, row_noted, some_row}
use Rattle.am_session.proofs.session.Session.note.Goals as goal

pub answer_noted-requires : goal.answer_noted-requires
answer_noted-requires c =
    some_row _ _ c.noted_row-row.ensures (row_noted c.args.self.now.board c.ticket-ticket.result.now c.in-Some-find_notice.notice c.args.noting.now c.args.noting.integration c.in-Ok.ensures.cause)

pub returns-in-Ok-clause-answered : goal.returns-in-Ok-clause-answered
returns-in-Ok-clause-answered c =
    notes _ _ _ _ _ _ _ _ _ _ _
    (first_ticket _ _ _ _ _ refl c.in-Some.ensures.first
    (held_there _ _ _ _ refl c.in-Some.ensures.within c.index-own.ensures)) c.in-Some-find_notice.ensures c.ticket-ticket.ensures.ticket c.in-Ok.ensures.noted
    c.noted_row-row.ensures c.answer_noted.ensures.answered

pub returns-in-Ok-clause-refused : goal.returns-in-Ok-clause-refused
returns-in-Ok-clause-refused c =
    let at = first_ticket _ _ _ _ _ refl c.in-Some.ensures.first
    (held_there _ _ _ _ refl c.in-Some.ensures.within c.index-own.ensures) in
    let row = row_noted c.args.self.now.board c.ticket-ticket.result.now c.in-Some-find_notice.notice c.args.noting.now c.args.noting.integration c.in-Ok.ensures.cause in
    untold_all _ _ _ (Note c.args.noting) c.answer_noted.ensures.untold (λ e. absurd (cc)) (
      noted_tokens c.note.new.self.config row.0,
      (noted_with _ _ _ [] (noted_tokens c.note.new.self.config row.0) _ _ _ _ row.0 at c.in-Some-find_notice.ensures c.ticket-ticket.ensures.ticket c.in-Ok.ensures.noted row.1 refl, refl),
    )

pub returns-in-Err-clause-refused : goal.returns-in-Err-clause-refused
returns-in-Err-clause-refused c =
    let at = first_ticket _ _ _ _ _ refl c.in-Some.ensures.first
    (held_there _ _ _ _ refl c.in-Some.ensures.within c.index-own.ensures) in
    unmade_leaves _ c.args.self.now _ (Note c.args.noting) (note_unmade _ _ c.of_note-in-Err.ensures)
    (inr (inr (note_refused c.args.self.now c.args.noting _ _ _ _ _ _ at c.in-Some-find_notice.ensures c.ticket-ticket.ensures.ticket c.in-Err.ensures.cause c.of_note-in-Err.ensures)))
    (c.in-Err.ensures.refused, refl)

pub returns-in_default-clause-refused : goal.returns-in_default-clause-refused
returns-in_default-clause-refused c =
    not_open_leaves _ c.args.self.now _ (Note c.args.noting) _ c.not_open.ensures
    (inl (lacks_ticket c.args.self.now _ _ _ _ refl (sym c.in_default.is ∙ c.find_ticket.ensures.first) c.not_open.ensures)) (refl, refl)

pub returns-in_default-find_notice-clause-refused : goal.returns-in_default-find_notice-clause-refused
returns-in_default-find_notice-clause-refused c =
    let at = first_ticket _ _ _ _ _ refl c.in-Some.ensures.first
    (held_there _ _ _ _ refl c.in-Some.ensures.within c.index-own.ensures) in
    unmade_leaves _ c.args.self.now _ (Note c.args.noting) (note_unmade NotReady _ c.of_note.ensures)
    (inr (inl record {
      index = _;
      ticket = _;
      at = at;
      none = sym (sym c.in_default-find_notice.is ∙ c.find_notice.ensures);
      answered = c.of_note.ensures;
    }))
    (refl, refl)
