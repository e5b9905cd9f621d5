use Rattle.std.proofs.Common.{refl}
use Rattle.std.proofs.lemmas.Result.{IfOk-weaker}
use Rattle.am_model.specs.declared.record.Call.TheVariants.{RemoveEmptyGroups}
use Rattle.am_model.specs.declared.record.Reply.TheVariants.{EmptyGroupsRemoved}
use Rattle.am_model.specs.Records.{entry}
use Rattle.am_simulation.specs.declared.limits.TheConstants.{BOARD_ID}
use Rattle.am_simulation.proofs.Calling.{called_is}
use Rattle.am_simulation.proofs.PreviewsHold.{holds_over}
use Rattle.am_simulation.proofs.Doing.{input_trace-same}
use Rattle.am_simulation.proofs.previewing.PreviewingBoard.remove_empty_groups.Goals as goal

pub invariant_of-self : goal.invariant_of-self
invariant_of-self c =
    let was = c.args.self.now in
    let holds =
    holds_over BOARD_ID was.begins.items was.board c.remove_empty_groups.new.self (was.ours, was.whole, was.previews) c.remove_empty_groups.result
    (IfOk-weaker c.remove_empty_groups.result _ _ (λ removed recorded. (entry 0 (RemoveEmptyGroups c.args.now) (EmptyGroupsRemoved removed), refl, recorded)) c.remove_empty_groups.ensures.recorded)
    c.remove_empty_groups.ensures.refused in
    record { ours = holds.0; whole = holds.1; previews = holds.2; begun = was.begun }

pub returns-clause-input_trace : goal.returns-clause-input_trace
returns-clause-input_trace c =
    input_trace-same c.args.self.now.board c.remove_empty_groups.new.self (entry 0 (RemoveEmptyGroups c.args.now) (EmptyGroupsRemoved c.in_ok-_removed._removed), refl, c.in_ok-_removed.ensures.recorded)

pub returns-clause-called : goal.returns-clause-called
returns-clause-called c =
    called_is c.args.self.now.board c.remove_empty_groups.new.self (RemoveEmptyGroups c.args.now) (EmptyGroupsRemoved c.in_ok-_removed._removed) c.in_ok-_removed.ensures.reply c.in_ok-_removed.ensures.recorded
