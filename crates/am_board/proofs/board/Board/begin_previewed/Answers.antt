use Rattle.std.proofs.Common.{◌∙◌, Option, refl, subst}
use Rattle.std.specs.Prelude.{IfOk}
use Rattle.std.proofs.lemmas.Result.{IfOk-weaker}
use Rattle.am_model.specs.declared.preview.Preview.{Preview}
use Rattle.am_model.specs.declared.record.Call.TheVariants.{Begin}
use Rattle.am_model.specs.declared.record.Reply.{Reply}
use Rattle.am_board.specs.declared.begin.Begun.{Begun}
use Rattle.am_board.specs.History.{BoardData, reply_of, IsFresh}
use Rattle.am_board.proofs.lemmas.invariant.Calls.{recorded, returned_now, refused, sound_again, caused_too, fresh_too, preview_now, rows_timely}
use Rattle.am_board.proofs.lemmas.invariant.Limits.{begin_within, begin_caused, begin_unhindered}
use Rattle.am_board.proofs.lemmas.invariant.Sound.{good}
use Rattle.am_board.proofs.board.Board.begin_previewed.Goals as goal

pub take-requires-clause-good : goal.take-requires-clause-good
take-requires-clause-good c = good c.self.inside c.self.invariant

pub take-requires-clause-times : goal.take-requires-clause-times
take-requires-clause-times c = rows_timely c.self.inside c.self.invariant c.args.self.now c.self.view_is

-- the reply of what is returned
abbrev replied : Begun × Option Preview → Reply
replied both = reply_of both.0

pub invariant_of-self : goal.invariant_of-self
invariant_of-self c =
    sound_again c.self.inside c.self.invariant c.args.self.now c.self.view_is c.take.new.state c.args.pass (Begin c.args.now) replied _
    (λ x h. h.1) _ refl (λ x h. begin_within c.self.inside c.self.invariant c.args.pass c.args.now c.take.new.state x.0 h.0 h.1) c.take.result c.take.ensures

pub returns-clause-recorded : goal.returns-clause-recorded
returns-clause-recorded c =
    recorded c.self.inside c.self.invariant c.args.self.now c.self.view_is c.take.new.state c.args.pass (Begin c.args.now) replied _
    (λ x h. h.1) _ c.take.result c.take.ensures

pub returns-clause-reply : goal.returns-clause-reply
returns-clause-reply c =
    returned_now c.self.inside c.self.invariant c.args.self.now c.self.view_is c.take.new.state c.args.pass (Begin c.args.now) replied _
    (λ x h. h.1) _ c.take.result c.take.ensures

pub returns-clause-cause : goal.returns-clause-cause
returns-clause-cause c =
    caused_too _ _ (begin_caused c.self.inside c.self.invariant c.args.self.now c.self.view_is c.args.now) _ _ _ c.take.result c.take.ensures

pub returns-clause-refused : goal.returns-clause-refused
returns-clause-refused c =
    refused c.self.inside c.self.invariant c.args.self.now c.self.view_is c.take.new.state c.args.pass (Begin c.args.now) replied _
    (λ x h. h.1) _ c.take.result c.take.ensures

pub returns-clause-fresh : goal.returns-clause-fresh
returns-clause-fresh c =
    subst (λ (d : BoardData). IfOk c.take.result (λ (both : Begun × Option Preview). IsFresh d.id both.0)) c.self.view_is
    (IfOk-weaker c.take.result _ _ (λ both more. more.0) (fresh_too _ _ _ _ c.take.result c.take.ensures))

pub returns-clause-previewed : goal.returns-clause-previewed
returns-clause-previewed c =
    IfOk-weaker c.take.result _ _
    (λ both more. more.1 ∙ preview_now c.self.inside c.self.invariant c.args.self.now c.self.view_is c.args.now)
    (fresh_too _ _ _ _ c.take.result c.take.ensures)

pub returns-clause-unhindered : goal.returns-clause-unhindered
returns-clause-unhindered c most =
    begin_unhindered c.self.inside c.self.invariant c.args.self.now c.self.view_is c.args.now c.take.result
    (caused_too _ _ (begin_caused c.self.inside c.self.invariant c.args.self.now c.self.view_is c.args.now) _ _ _ c.take.result c.take.ensures) most
