use Rattle.std.proofs.Common.{◌≡◌, None, List, map, sym, ap, ◌∙◌, subst, arith}
use Rattle.std.specs.List.{IsDistinct}
use Rattle.am_model.specs.Laws.{same_number}
use Rattle.am_board.specs.Refinement.{flush_state}
use Rattle.std.specs.Prelude.{◌==◌, position}
use Rattle.am_board.specs.declared.flush.OpenFlush.{OpenFlush}
use Rattle.am_model.specs.State.{flush_numbered}
use Rattle.am_model.specs.Ticket.{TicketData}
use Rattle.am_board.specs.History.{BoardData, state_at}
use Rattle.am_board.proofs.lemmas.invariant.Closing.{none_open, not_none, finish_recorded, finish_returned, finish_sound}
use Rattle.am_board.proofs.lemmas.invariant.Sound.{good}
use Rattle.am_board.proofs.board.Board.finish.Goals as goal

pub finish_flush-requires-clause-good : goal.finish_flush-requires-clause-good
finish_flush-requires-clause-good c = (c.self.inside.config, good c.self.inside c.self.invariant)

pub returns-in_default-clause-not_open : goal.returns-in_default-clause-not_open
returns-in_default-clause-not_open c =
    let at = c.in_default.ensures.first in
    let none = none_open c.self.inside c.self.invariant c.args.self.now c.self.view_is c.ticket.inside.number at in
    let same : c.ticket.inside.number ≡ c.args.ticket.number = ap (λ (t : TicketData). t.number) c.ticket.view_is in
    let id = ap (λ (d : BoardData). d.id) c.self.view_is in
    (λ u. (omega (arith, c.board_id.ensures, c.if-self-board_id.false, id), subst (λ n. flush_numbered (state_at c.args.self.now).flushes n ≡ None) same none), λ h. tt)

pub invariant_of-self : goal.invariant_of-self
invariant_of-self c =
    finish_sound c.self.inside c.self.invariant c.args.self.now c.self.view_is c.finish_flush.new.state c.args.pass c.args.now c.in-Some.f c.ticket.inside.number c.ticket.inside.outcomes.items c.args.ticket
    (ap (λ (t : TicketData). t.number) c.ticket.view_is) (ap (λ (t : TicketData). t.outcomes) c.ticket.view_is) c.finish_flush.result (c.in-Some.ensures.first) c.finish_flush.ensures.accepted c.finish_flush.ensures.closed

pub returns-clause-recorded : goal.returns-clause-recorded
returns-clause-recorded c =
    finish_recorded c.self.inside c.self.invariant c.args.self.now c.self.view_is c.finish_flush.new.state c.args.pass c.args.now c.in-Some.f c.ticket.inside.number c.ticket.inside.outcomes.items c.args.ticket
    (ap (λ (t : TicketData). t.number) c.ticket.view_is) (ap (λ (t : TicketData). t.outcomes) c.ticket.view_is) c.finish_flush.result (c.in-Some.ensures.first) c.finish_flush.ensures.accepted

pub returns-clause-reply : goal.returns-clause-reply
returns-clause-reply c =
    finish_returned c.self.inside c.self.invariant c.args.self.now c.self.view_is c.finish_flush.new.state c.args.pass c.args.now c.in-Some.f c.ticket.inside.number c.ticket.inside.outcomes.items c.args.ticket
    (ap (λ (t : TicketData). t.number) c.ticket.view_is) (ap (λ (t : TicketData). t.outcomes) c.ticket.view_is) c.finish_flush.result (c.in-Some.ensures.first) c.finish_flush.ensures.accepted

pub returns-clause-not_open : goal.returns-clause-not_open
returns-clause-not_open c =
    (λ e. absurd e, λ h. not_none _ _ _ (returns-clause-reply c) h.1)

pub find_flush-requires : goal.find_flush-requires
find_flush-requires c = (good c.self.inside c.self.invariant).consistent.numbers
