use Rattle.std.proofs.Common.{refl}
use Rattle.std.proofs.lemmas.Result.{IfOk-weaker}
use Rattle.am_model.specs.declared.record.Call.TheVariants.{Maintain}
use Rattle.am_model.specs.declared.record.Reply.TheVariants.{Maintained}
use Rattle.am_model.specs.Records.{entry}
use Rattle.am_simulation.specs.declared.limits.TheConstants.{BOARD_ID}
use Rattle.am_simulation.proofs.Calling.{called_is}
use Rattle.am_simulation.proofs.PreviewsHold.{holds_over}
use Rattle.am_simulation.proofs.Doing.{input_trace-same}
use Rattle.am_simulation.proofs.previewing.PreviewingBoard.maintain.Goals as goal

pub invariant_of-self : goal.invariant_of-self
invariant_of-self c =
    let was = c.args.self.now in
    let holds =
    holds_over BOARD_ID was.begins.items was.board c.maintain.new.self (was.ours, was.whole, was.previews) c.maintain.result
    (IfOk-weaker c.maintain.result _ _ (λ maintained recorded. (entry 0 (Maintain c.args.now) (Maintained maintained), refl, recorded)) c.maintain.ensures.recorded)
    c.maintain.ensures.refused in
    record { ours = holds.0; whole = holds.1; previews = holds.2; begun = was.begun }

pub returns-clause-input_trace : goal.returns-clause-input_trace
returns-clause-input_trace c =
    input_trace-same c.args.self.now.board c.maintain.new.self (entry 0 (Maintain c.args.now) (Maintained c.in_ok-_maintained._maintained), refl, c.in_ok-_maintained.ensures.recorded)

pub returns-clause-called : goal.returns-clause-called
returns-clause-called c =
    called_is c.args.self.now.board c.maintain.new.self (Maintain c.args.now) (Maintained c.in_ok-_maintained._maintained) c.in_ok-_maintained.ensures.reply c.in_ok-_maintained.ensures.recorded
