use Rattle.std.proofs.Common.{refl}
use Rattle.std.proofs.lemmas.Result.{IfOk-weaker}
use Rattle.am_model.specs.declared.record.Call.TheVariants.{Load}
use Rattle.am_model.specs.declared.record.Reply.TheVariants.{Loaded}
use Rattle.am_model.specs.Records.{entry}
use Rattle.am_simulation.specs.declared.limits.TheConstants.{BOARD_ID}
use Rattle.am_simulation.proofs.Calling.{called_is}
use Rattle.am_simulation.proofs.PreviewsHold.{holds_over}
use Rattle.am_simulation.proofs.Doing.{input_trace-more}
use Rattle.am_simulation.proofs.previewing.PreviewingBoard.load.Goals as goal

pub invariant_of-self : goal.invariant_of-self
invariant_of-self c =
    let was = c.args.self.now in
    let holds =
    holds_over BOARD_ID was.begins.items was.board c.load.new.self (was.ours, was.whole, was.previews) c.load.result
    (IfOk-weaker c.load.result _ _ (λ loaded recorded. (entry 0 (Load c.args.now c.args.row) (Loaded loaded), refl, recorded)) c.load.ensures.recorded)
    c.load.ensures.refused in
    record { ours = holds.0; whole = holds.1; previews = holds.2; begun = was.begun }

pub returns-clause-input_trace : goal.returns-clause-input_trace
returns-clause-input_trace c =
    input_trace-more c.args.self.now.board c.load.new.self (entry 0 (Load c.args.now c.args.row) (Loaded c.in_ok-_loaded._loaded)) refl c.in_ok-_loaded.ensures.recorded

pub returns-clause-called : goal.returns-clause-called
returns-clause-called c =
    called_is c.args.self.now.board c.load.new.self (Load c.args.now c.args.row) (Loaded c.in_ok-_loaded._loaded) c.in_ok-_loaded.ensures.reply c.in_ok-_loaded.ensures.recorded
