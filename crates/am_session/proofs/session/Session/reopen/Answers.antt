use Rattle.std.proofs.Common.{◌≡◌, ◌∙◌, List, [], ◌∷◌, true, ap, refl, sym}
use Rattle.am_model.specs.Ticket.{TicketData}
use Rattle.am_model.specs.declared.config.Config.{Config}
use Rattle.am_session.specs.Ticket.{are_rising, numbers}
use Rattle.am_board.specs.History.{BoardData}
use Rattle.am_protocol.specs.declared.request.Request.TheVariants.{Open}
use Rattle.am_protocol.specs.Reply.{opened_tokens}
use Rattle.am_session.proofs.Leaving.{unopened_passed, untold_all}
use Rattle.am_session.proofs.Making.{opens}
use Rattle.am_session.proofs.Opening.{lacking_leaves}
use Rattle.am_session.proofs.session.Session.reopen.Goals as goal

pub returns-clause-answered : goal.returns-clause-answered
returns-clause-answered c =
    let none : c.replace-open.new.dest.items ≡ [] = rw c.replace-open.ensures.after c.new.ensures.items in
    opens c.answered.result c.write_opened.result c.put.new.index c.replace-open.new.dest.items c.args.requested c.config-2.result.now c.args.answer.now c.write_opened.new.answer c.answered.ensures.ok
    (c.put.ensures ∙ c.in_ok-board.ensures.board) c.config-2.ensures.config none c.write_opened.ensures

pub returns-clause-refused : goal.returns-clause-refused
returns-clause-refused c =
    let none : c.replace-open.new.dest.items ≡ [] = rw c.replace-open.ensures.after c.new.ensures.items in
    untold_all _ c.args.self.now (record {
      board = c.put.new.index;
      tickets = c.replace-open.new.dest;
      is_rising = true;
      names = c.in_ok-names.names;
      seed = c.args.self.now.seed;
      ours = ap (λ (b : BoardData). b.id) (c.put.ensures ∙ c.in_ok-board.ensures.board);
      named = c.in_ok-names.ensures ∙ ap (λ (k : Config). k.routes ∷ []) (c.config.ensures.config ∙ ap (λ (b : BoardData). b.config) (sym c.put.ensures));
      rising = λ _. ap (λ (ts : List TicketData). are_rising (numbers ts)) none;
    }) (Open c.args.requested) c.answered.ensures.err (λ e. absurd (cc)) (opened_tokens c.args.requested.config c.args.requested.ignored, (c.put.ensures ∙ c.in_ok-board.ensures.board, none, refl))

pub returns-in_err-board-clause-refused : goal.returns-in_err-board-clause-refused
returns-in_err-board-clause-refused c =
    unopened_passed _ _ c.args.self.now c.args.requested c.from_residual.ensures.1 c.in_err-board.ensures.refused

pub returns-in_err-names-clause-refused : goal.returns-in_err-names-clause-refused
returns-in_err-names-clause-refused c = lacking_leaves _ c.args.self.now c.args.requested c.from_residual-in_err-names.ensures.1
