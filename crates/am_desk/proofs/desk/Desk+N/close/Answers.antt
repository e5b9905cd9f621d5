use Rattle.std.proofs.Common.{◌≡◌, All, sym, subst}
use Rattle.am_board.specs.History.{BoardData}
use Rattle.am_desk.specs.Desks.{IsPrefixViewOf}
use Rattle.am_desk.specs.History.{made}
use Rattle.am_desk.proofs.desk.Desk+N.close.Goals as goal

pub returns-in-Ok-clause-seen : goal.returns-in-Ok-clause-seen
returns-in-Ok-clause-seen g c =
    subst (λ (b : BoardData). All (λ p. IsPrefixViewOf p b.history) c.args.passes.items) (sym c.into_board.ensures.board) c.in-Ok.ensures.seen

pub returns-in-Ok-clause-others : goal.returns-in-Ok-clause-others
returns-in-Ok-clause-others g c k more =
    subst (λ (b : BoardData). made k b.history ≡ 0) (sym c.into_board.ensures.board) (c.in-Ok.ensures.others k more)
