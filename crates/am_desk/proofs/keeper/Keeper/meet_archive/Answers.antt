use Rattle.std.proofs.Common.{◌∙◌, sym, ap}
use Rattle.am_board.specs.History.{BoardData}
use Rattle.am_desk.proofs.Archives.{archive_has, archive_still, archive_still_has}
use Rattle.am_desk.proofs.Refusals.{keeper_still}
use Rattle.am_desk.proofs.keeper.Keeper.meet_archive.Goals as goal

pub invariant_of-self : goal.invariant_of-self
invariant_of-self g c =
    (c.exchange.ensures.cells.0 ∙ c.self.invariant.0, keeper_still _ _ _ _ _ _ _ _ c.self.invariant.1 c.exchange.ensures.exchanged, c.self.invariant.2)

pub invariant_of-archive : goal.invariant_of-archive
invariant_of-archive g c = (
  c.exchange.ensures.cells.1 ∙ c.archive.invariant.0,
  c.exchange.ensures.slots ∙ c.archive.invariant.1,
  archive_still _ _ _ _ _ _ _ _ _ c.self.invariant.1 c.archive.invariant.2 c.exchange.ensures.exchanged,
)

pub returns-clause-archive : goal.returns-clause-archive
returns-clause-archive g c =
    archive_still_has _ _ _ _ _ _ _ _ _ c.self.invariant.1 c.archive.invariant.2 c.exchange.ensures.exchanged
    ∙ sym (archive_has _ _ _ _ _ _ _ _ _ c.self.invariant.1 c.archive.invariant.2 c.exchange.ensures.exchanged)
    ∙ c.archive.view_is

pub returns-clause-handed : goal.returns-clause-handed
returns-clause-handed g c =
    ap (λ (b : BoardData). b.handed) (sym c.self.view_is)
    ∙ sym (archive_has _ _ _ _ _ _ _ _ _ c.self.invariant.1 c.archive.invariant.2 c.exchange.ensures.exchanged)
    ∙ c.archive.view_is
