use Rattle.std.proofs.Common.{◌≡◌, All, sym, ◌∙◌, subst}
use Rattle.am_board.specs.History.{BoardData}
use Rattle.am_model.specs.Replay.{IsLegal}
use Rattle.am_desk.specs.Desks.{IsPrefixViewOf}
use Rattle.am_desk.specs.History.{made}
use Rattle.am_desk.proofs.Delivered.{each_row}
use Rattle.am_desk.proofs.desk.Desk+N+Lasting.close_with.Goals as goal

pub returns-in-Ok-clause-delivered : goal.returns-in-Ok-clause-delivered
returns-in-Ok-clause-delivered g c =
    let top = g.N.Name.terms in
    let e = c.into_board.ensures.board ∙ c.meet_archive.ensures.same in
    let legal = subst (λ (b : BoardData). IsLegal top.config top.id b.history) (sym e) c.in-Ok.ensures.legal in
    each_row top.config top.id c.into_board.result.history legal c.into_board.ensures.calls

pub returns-in-Ok-clause-seen : goal.returns-in-Ok-clause-seen
returns-in-Ok-clause-seen g c =
    let e = c.into_board.ensures.board ∙ c.meet_archive.ensures.same in
    subst (λ (b : BoardData). All (λ p. IsPrefixViewOf p b.history) c.args.passes.items) (sym e) c.in-Ok.ensures.seen

pub returns-in-Ok-clause-others : goal.returns-in-Ok-clause-others
returns-in-Ok-clause-others g c k more =
    let e = c.into_board.ensures.board ∙ c.meet_archive.ensures.same in
    subst (λ (b : BoardData). made k b.history ≡ 0) (sym e) (c.in-Ok.ensures.others k more)
