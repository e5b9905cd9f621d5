use Rattle.std.proofs.Common.{List, ◌++◌, length, sym, ap, ◌∙◌, subst}
use Rattle.am_board.specs.History.{BoardData}
use Rattle.am_desk.specs.declared.word.Terms.{Terms}
use Rattle.am_desk.specs.declared.word.View.{View}
use Rattle.am_desk.specs.Glances.{HasCapacity}
use Rattle.am_desk.proofs.Archives.{archive_all, archive_has}
use Rattle.am_desk.proofs.keeper.Keeper.hand_out.Goals as goal

pub has_capacity-requires : goal.has_capacity-requires
has_capacity-requires g c = subst (λ (t : Terms). HasCapacity t.config.limits (length c.self.inside.board.handed)) (sym c.self.invariant.1.board) c.self.invariant.1.capacity

pub hand_out-requires-clause-holder : goal.hand_out-requires-clause-holder
hand_out-requires-clause-holder g c =
    (ap (λ (v : View). v.holds) c.exchange.ensures.exchanged.pass ∙ c.archive.invariant.2.holds, c.exchange.ensures.slots ∙ c.archive.invariant.1)

pub hand_out-requires-clause-keeper : goal.hand_out-requires-clause-keeper
hand_out-requires-clause-keeper g c = ap (λ (v : View). v.keeps) c.exchange.ensures.exchanged.keeper ∙ c.self.invariant.1.keeps

pub returns-in-Ok-clause-all : goal.returns-in-Ok-clause-all
returns-in-Ok-clause-all g c =
    archive_all _ _ _ _ _ _ _ _ _ c.self.invariant.1 c.archive.invariant.2 c.exchange.ensures.exchanged _ _ c.hand_out.ensures.keeper.1 (ap (λ m. m.0) c.hand_out.ensures.holder.1)
    ∙ ap (λ (b : BoardData). b.history) c.self.view_is

pub returns-in-Ok-clause-records : goal.returns-in-Ok-clause-records
returns-in-Ok-clause-records g c =
    ap (λ (l : List _). l ++ c.in-Ok.taken.items) (sym c.archive.view_is ∙ archive_has _ _ _ _ _ _ _ _ _ c.self.invariant.1 c.archive.invariant.2 c.exchange.ensures.exchanged)
    ∙ c.in-Ok.ensures.records
    ∙ sym (archive_all _ _ _ _ _ _ _ _ _ c.self.invariant.1 c.archive.invariant.2 c.exchange.ensures.exchanged _ _ c.hand_out.ensures.keeper.1 (ap (λ m. m.0) c.hand_out.ensures.holder.1))
