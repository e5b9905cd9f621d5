use Rattle.std.proofs.Common.{◌≡◌, ◌++◌, List, length, ap, subst, arith}
use Rattle.am_board.specs.Board.{whole}
use Rattle.am_board.specs.History.{BoardData}
use Rattle.am_model.specs.declared.record.Record.{Record}
use Rattle.am_model.specs.look_back.Laws.{LooksBack}
use Rattle.am_model.proofs.looking_back.LooksBack.{histories_look_back}
use Rattle.am_board.proofs.lemmas.invariant.Calls.{handed_counted, limits_kept}
use Rattle.am_board.proofs.lemmas.invariant.Sound.{counted}
use Rattle.am_board.proofs.board.Board.history.Goals as goal

pub returns-clause-looks_back : goal.returns-clause-looks_back
returns-clause-looks_back c =
    subst (λ (d : BoardData). LooksBack d.config d.history) c.self.view_is
    (histories_look_back c.self.inside.config c.self.inside.id (whole c.self.inside) c.self.invariant.legal)

pub returns-clause-limits : goal.returns-clause-limits
returns-clause-limits c = limits_kept c.self.inside c.self.invariant c.args.self.now c.self.view_is

pub returns-clause-history : goal.returns-clause-history
returns-clause-history c =
    subst (λ (d : BoardData). d.handed ++ c.as_slice.result.now ≡ d.history) c.self.view_is
    (ap (λ (rs : List Record). c.self.inside.past.items ++ rs) c.as_slice.ensures.value)

pub returns-clause-within : goal.returns-clause-within
returns-clause-within c =
    let sound = c.self.invariant in
    let shown = ap (λ (rs : List Record). length rs) c.as_slice.ensures.value in
    let most = ap (λ (b : BoardData). b.config.limits.history) c.self.view_is in
    omega (arith, shown, counted c.self.inside sound, sound.kept, most)

pub returns-clause-few : goal.returns-clause-few
returns-clause-few c =
    omega (arith, handed_counted c.self.inside c.self.invariant c.args.self.now c.self.view_is, c.self.invariant.few)
