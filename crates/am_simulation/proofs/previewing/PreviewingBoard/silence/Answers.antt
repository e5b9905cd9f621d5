use Rattle.std.proofs.Common.{refl}
use Rattle.std.proofs.lemmas.Result.{IfOk-weaker}
use Rattle.am_model.specs.declared.record.Reply.TheVariants.{Silenced}
use Rattle.am_model.specs.Records.{entry, call_of_silence}
use Rattle.am_simulation.specs.declared.limits.TheConstants.{BOARD_ID}
use Rattle.am_simulation.proofs.Calling.{called_is}
use Rattle.am_simulation.proofs.PreviewsHold.{holds_over}
use Rattle.am_simulation.proofs.Doing.{input_trace-more}
use Rattle.am_simulation.proofs.previewing.PreviewingBoard.silence.Goals as goal

pub invariant_of-self : goal.invariant_of-self
invariant_of-self c =
    let was = c.args.self.now in
    let holds =
    holds_over BOARD_ID was.begins.items was.board c.silence.new.self (was.ours, was.whole, was.previews) c.silence.result
    (IfOk-weaker c.silence.result _ _ (λ silenced recorded. (entry 0 (call_of_silence c.args.now c.args.silence) (Silenced silenced), refl, recorded)) c.silence.ensures.recorded)
    c.silence.ensures.refused in
    record { ours = holds.0; whole = holds.1; previews = holds.2; begun = was.begun }

pub returns-clause-input_trace : goal.returns-clause-input_trace
returns-clause-input_trace c =
    input_trace-more c.args.self.now.board c.silence.new.self (entry 0 (call_of_silence c.args.now c.args.silence) (Silenced c.in_ok-_silenced._silenced)) refl c.in_ok-_silenced.ensures.recorded

pub returns-clause-called : goal.returns-clause-called
returns-clause-called c =
    called_is c.args.self.now.board c.silence.new.self (call_of_silence c.args.now c.args.silence) (Silenced c.in_ok-_silenced._silenced) c.in_ok-_silenced.ensures.reply c.in_ok-_silenced.ensures.recorded
