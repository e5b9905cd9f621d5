use Rattle.std.proofs.Common.{refl}
use Rattle.std.proofs.lemmas.Result.{IfOk-weaker}
use Rattle.am_model.specs.declared.record.Call.TheVariants.{Insert}
use Rattle.am_model.specs.declared.record.Reply.TheVariants.{Inserted}
use Rattle.am_model.specs.Records.{entry}
use Rattle.am_simulation.specs.declared.limits.TheConstants.{BOARD_ID}
use Rattle.am_simulation.proofs.Calling.{called_is}
use Rattle.am_simulation.proofs.PreviewsHold.{holds_over}
use Rattle.am_simulation.proofs.Doing.{input_trace-more}
use Rattle.am_simulation.proofs.previewing.PreviewingBoard.insert.Goals as goal

pub invariant_of-self : goal.invariant_of-self
invariant_of-self c =
    let was = c.args.self.now in
    let holds =
    holds_over BOARD_ID was.begins.items was.board c.insert.new.self (was.ours, was.whole, was.previews) c.insert.result
    (IfOk-weaker c.insert.result _ _ (λ inserted recorded. (entry 0 (Insert c.args.now c.args.alert) (Inserted inserted), refl, recorded)) c.insert.ensures.recorded)
    c.insert.ensures.refused in
    record { ours = holds.0; whole = holds.1; previews = holds.2; begun = was.begun }

pub returns-clause-input_trace : goal.returns-clause-input_trace
returns-clause-input_trace c =
    input_trace-more c.args.self.now.board c.insert.new.self (entry 0 (Insert c.args.now c.args.alert) (Inserted c.in_ok-_inserted._inserted)) refl c.in_ok-_inserted.ensures.recorded

pub returns-clause-called : goal.returns-clause-called
returns-clause-called c =
    called_is c.args.self.now.board c.insert.new.self (Insert c.args.now c.args.alert) (Inserted c.in_ok-_inserted._inserted) c.in_ok-_inserted.ensures.reply c.in_ok-_inserted.ensures.recorded
