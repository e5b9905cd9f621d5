use Rattle.std.proofs.Common.{◌≡◌, All, sym, ◌∙◌, subst}
use Rattle.am_board.specs.History.{BoardData}
use Rattle.am_desk.specs.Desks.{IsPrefixViewOf}
use Rattle.am_desk.specs.History.{made}
use Rattle.am_desk.proofs.resume.Desk+N+Lasting+Resumed.close_resumed.Goals as goal

pub returns-in-Ok-clause-seen : goal.returns-in-Ok-clause-seen
returns-in-Ok-clause-seen g c =
    let e = c.into_board.ensures.board ∙ c.meet_archive.ensures.same in
    subst (λ (b : BoardData). All (λ p. IsPrefixViewOf p b.history) c.args.passes.items) (sym e) c.in-Ok.ensures.seen

pub returns-in-Ok-clause-others : goal.returns-in-Ok-clause-others
returns-in-Ok-clause-others g c k more =
    let e = c.into_board.ensures.board ∙ c.meet_archive.ensures.same in
    subst (λ (b : BoardData). made k b.history ≡ 0) (sym e) (c.in-Ok.ensures.others k more)
