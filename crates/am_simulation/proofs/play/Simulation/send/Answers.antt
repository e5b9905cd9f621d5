use Rattle.std.proofs.Common.{◌≡◌, ◌∙◌, ap, refl, subst}
use Rattle.std.proofs.lemmas.Result.{on_ok_weaker}
use Rattle.am_alerts.specs.declared.route.Route.{Route}
use Rattle.am_model.specs.Configured.{route_of}
use Rattle.am_model.specs.Ticket.{TicketData}
use Rattle.am_model.specs.declared.config.Config.{Config}
use Rattle.am_simulation.specs.Answers.{AreEndsOf, answer_of}
use Rattle.am_simulation.specs.Scene.{SendingData}
use Rattle.am_simulation.proofs.play.Simulation.send.Goals as goal

pub returns-in-Ok-clause-sent : goal.returns-in-Ok-clause-sent
returns-in-Ok-clause-sent c =
    let was = c.args.self.now in
    let t : TicketData = c.args.own in
    let ticket : c.ticket-ticket.result.now ≡ t = c.ticket-ticket.ensures.ticket in
    let route : c.route_of.result.now ≡ route_of was.board.board.config t.group =
    c.route_of.ensures ∙ (ap (λ (x : Config). route_of x c.group.result.now) c.config.ensures
    ∙ ap (route_of was.board.board.config) (c.group.ensures ∙ ap (λ (u : TicketData). u.group) ticket))
    in
    let s : SendingData = record { ticket = t; begin = c.args.begin; ends = c.in-Ok.ends.items } in
    let ends : AreEndsOf (answer_of was.span.cut was.outages.now (route_of was.board.board.config t.group).receiver) was.span.cut c.args.at 0 t.notices c.in-Ok.ends.items =
    subst (λ (q : Route). AreEndsOf (answer_of was.span.cut was.outages.now q.receiver) was.span.cut c.args.at 0 t.notices c.in-Ok.ends.items) route
    (subst (λ (u : TicketData). AreEndsOf (answer_of was.span.cut was.outages.now c.route_of.result.now.receiver) was.span.cut c.args.at 0 u.notices c.in-Ok.ends.items) ticket c.in-Ok.ensures)
    in
    on_ok_weaker c.add.result (λ added. (s, refl, refl, ends, added)) c.add.ensures.added
