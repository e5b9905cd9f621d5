use Rattle.std.proofs.Common.{◌≡◌, ◌∙◌, [], refl, remove, subst, sym}
use Rattle.std.specs.Prelude.{IfSome, OnSome, slice_index_or}
use Rattle.am_board.specs.Logged.{finished_rows}
use Rattle.am_protocol.specs.Logged.{finished_tokens}
use Rattle.am_protocol.specs.declared.request.Request.TheVariants.{Finish}
use Rattle.am_session.proofs.Leaving.{lacks_ticket, not_open_leaves, untold_all}
use Rattle.am_session.proofs.Making.{finished_with, finishes, first_ticket, held_there}
use Rattle.am_session.proofs.Rising.{rising-left}
use Rattle.am_session.proofs.session.Session.finish.Goals as goal

pub returns-in-Ok-clause-answered : goal.returns-in-Ok-clause-answered
returns-in-Ok-clause-answered c =
    let was = c.args.self.now.tickets.items in
    let items = subst (λ r. OnSome r (c.remove.new.self.items ≡ remove was c.in-Some.index)) c.unwrap-own.ensures c.remove.ensures.items in
    let value = subst (λ r. IfSome r (λ y. y ≡ slice_index_or was c.in-Some.index y)) c.unwrap-own.ensures c.remove.ensures.value in
    finishes _ _ (λ rows. rows.items) _ _ _ _ _ _ _ _ _
    (first_ticket _ _ _ _ _ refl c.in-Some.ensures.first (held_there _ _ _ _ refl c.in-Some.ensures.within value)) items
    c.ticket.ensures.ticket c.in-Ok.ensures.reply c.in-Ok.ensures.recorded c.finished_rows-rows.ensures
    c.answer_finished.ensures.answered c.answer_finished.ensures.listed

pub returns-in-Ok-clause-refused : goal.returns-in-Ok-clause-refused
returns-in-Ok-clause-refused c =
    let was = c.args.self.now.tickets.items in
    let items = subst (λ r. OnSome r (c.remove.new.self.items ≡ remove was c.in-Some.index)) c.unwrap-own.ensures c.remove.ensures.items in
    let value = subst (λ r. IfSome r (λ y. y ≡ slice_index_or was c.in-Some.index y)) c.unwrap-own.ensures c.remove.ensures.value in
    let tokens = finished_tokens c.finish_own.new.self.config c.in-Ok.finished (finished_rows c.args.self.now.board c.args.finishing.now c.ticket.result.now) in
    untold_all _ _ _ (Finish c.args.finishing) c.answer_finished.ensures.untold (λ e. absurd (cc)) (
      tokens,
      finished_with _ _ _ [] tokens _ _ _ c.in-Ok.finished
          (first_ticket _ _ _ _ _ refl c.in-Some.ensures.first (held_there _ _ _ _ refl c.in-Some.ensures.within value)) items
          c.ticket.ensures.ticket c.in-Ok.ensures.reply c.in-Ok.ensures.recorded refl,
    )

pub returns-in-Err-clause-refused : goal.returns-in-Err-clause-refused
returns-in-Err-clause-refused c =
    let was = c.args.self.now.tickets.items in
    let items = subst (λ r. OnSome r (c.remove.new.self.items ≡ remove was c.in-Some.index)) c.unwrap-own.ensures c.remove.ensures.items in
    let value = subst (λ r. IfSome r (λ y. y ≡ slice_index_or was c.in-Some.index y)) c.unwrap-own.ensures c.remove.ensures.value in
    record {
      index = _;
      ticket = _;
      at = first_ticket _ _ _ _ _ refl c.in-Some.ensures.first (held_there _ _ _ _ refl c.in-Some.ensures.within value);
      not_open = c.in-Err.ensures.not_open;
      board = c.in-Err.ensures.refused;
      tickets = items;
    }

pub returns-in_default-clause-refused : goal.returns-in_default-clause-refused
returns-in_default-clause-refused c =
    not_open_leaves _ c.args.self.now _ (Finish c.args.finishing) _ c.not_open.ensures
    (lacks_ticket c.args.self.now _ _ _ _ refl (sym c.in_default.is ∙ c.find_ticket.ensures.first) c.not_open.ensures) (refl, refl)

pub invariant_of-self-2-clause-rising : goal.invariant_of-self-2-clause-rising
invariant_of-self-2-clause-rising c rising =
    let was = c.args.self.now.tickets.items in
    let items = subst (λ r. OnSome r (c.remove.new.self.items ≡ remove was c.in-Some.index)) c.unwrap-own.ensures c.remove.ensures.items in
    rising-left was c.remove.new.self.items c.in-Some.index items (c.args.self.now.rising rising)
