use Rattle.std.proofs.Common.{refl, ap}
use Rattle.std.specs.Option.{option_map}
use Rattle.am_board.specs.History.{state_at}
use Rattle.am_model.specs.Finish.{finished}
use Rattle.am_model.specs.State.{FlushState}
use Rattle.std.proofs.lemmas.Result.{IfOk-weaker}
use Rattle.am_model.specs.declared.record.Call.TheVariants.{Finish}
use Rattle.am_model.specs.declared.record.Reply.TheVariants.{Finished}
use Rattle.am_model.specs.Records.{entry}
use Rattle.am_simulation.specs.declared.limits.TheConstants.{BOARD_ID}
use Rattle.am_simulation.proofs.Calling.{called_is, uncalled_is}
use Rattle.am_simulation.proofs.PreviewsHold.{holds_over}
use Rattle.am_simulation.proofs.Doing.{input_trace-same}
use Rattle.am_simulation.proofs.previewing.PreviewingBoard.finish.Goals as goal

pub invariant_of-self : goal.invariant_of-self
invariant_of-self c =
    let was = c.args.self.now in
    let ticket = c.args.own in
    let holds =
    holds_over BOARD_ID was.begins.items was.board c.finish_own.new.self (was.ours, was.whole, was.previews) c.finish_own.result
    (IfOk-weaker c.finish_own.result _ _ (λ finished recorded. (entry 0 (Finish c.args.now ticket.number ticket.outcomes) (Finished finished), refl, recorded)) c.finish_own.ensures.recorded)
    c.finish_own.ensures.refused in
    record { ours = holds.0; whole = holds.1; previews = holds.2; begun = was.begun }

pub returns-in-Ok-clause-input_trace : goal.returns-in-Ok-clause-input_trace
returns-in-Ok-clause-input_trace c =
    let ticket = c.args.own in
    input_trace-same c.args.self.now.board c.finish_own.new.self (entry 0 (Finish c.args.now ticket.number ticket.outcomes) (Finished c.in-Ok._finished), refl, c.in-Ok.ensures.recorded)

pub returns-in-Ok-clause-called : goal.returns-in-Ok-clause-called
returns-in-Ok-clause-called c =
    let ticket = c.args.own in
    called_is c.args.self.now.board c.finish_own.new.self (Finish c.args.now ticket.number ticket.outcomes) (Finished c.in-Ok._finished) c.in-Ok.ensures.reply c.in-Ok.ensures.recorded

pub returns-in-Err-clause-called : goal.returns-in-Err-clause-called
returns-in-Err-clause-called c =
    let ticket = c.args.own in
    let old = c.args.self.now.board in
    uncalled_is old c.finish_own.new.self (Finish c.args.now ticket.number ticket.outcomes)
    (ap (option_map (λ (f : FlushState). Finished (finished (state_at old) ticket.outcomes f))) c.in-Err.ensures.not_open) c.in-Err.ensures.refused
