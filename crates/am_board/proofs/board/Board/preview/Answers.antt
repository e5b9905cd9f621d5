use Rattle.std.proofs.Common.{◌≡◌, ◌∙◌, Option, subst}
use Rattle.std.specs.Prelude.{IfOk}
use Rattle.am_model.specs.declared.preview.Preview.{Preview}
use Rattle.am_board.proofs.lemmas.invariant.Calls.{preview_now, rows_timely}
use Rattle.am_board.proofs.lemmas.invariant.Sound.{good}
use Rattle.am_board.proofs.board.Board.preview.Goals as goal

pub preview_of-requires-clause-good : goal.preview_of-requires-clause-good
preview_of-requires-clause-good c = good c.self.inside c.self.invariant

pub preview_of-requires-clause-times : goal.preview_of-requires-clause-times
preview_of-requires-clause-times c = rows_timely c.self.inside c.self.invariant c.args.self.now c.self.view_is

pub returns-clause-preview : goal.returns-clause-preview
returns-clause-preview c =
    subst (λ (returned : Option Preview). IfOk c.preview_of.result (λ x. x ≡ returned)) (preview_now c.self.inside c.self.invariant c.args.self.now c.self.view_is c.args.now)
    c.preview_of.ensures.preview

pub returns-clause-answers : goal.returns-clause-answers
returns-clause-answers c none =
    c.preview_of.ensures.answers (preview_now c.self.inside c.self.invariant c.args.self.now c.self.view_is c.args.now ∙ none)
