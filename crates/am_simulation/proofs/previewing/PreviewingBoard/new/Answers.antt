use Rattle.std.proofs.Common.{List, Some, ap, length, ◌∙◌, sym}
use Rattle.std.specs.List.{range_with_len}
use Rattle.am_board.specs.History.{BoardData}
use Rattle.am_board.proofs.lemmas.invariant.Staying.{no_fault, unless_fault, unless_value}
use Rattle.am_model.specs.declared.fault.BoardFault.{BoardFault}
use Rattle.am_simulation.specs.EventOrder.{begin_indices}
use Rattle.am_simulation.specs.Previews.{previews_of}
use Rattle.am_simulation.specs.Planned.{input_trace}
use Rattle.am_simulation.specs.declared.limits.TheConstants.{BOARD_ID}
use Rattle.am_terms.specs.declared.event.PreviewedBegin.{PreviewedBegin}
use Rattle.am_simulation.proofs.Doing.{input_trace-opening}
use Rattle.am_simulation.proofs.Hindering.{handed_on, no_config_fault}
use Rattle.am_simulation.proofs.previewing.PreviewingBoard.new.Goals as goal

pub invariant_of-result : goal.invariant_of-result
invariant_of-result c =
    let opened = unless_value _ _ _ c.in_ok-board.ensures in
    record {
      ours = ap (λ (b : BoardData). b.id) opened;
      whole = ap (λ (b : BoardData). b.handed) opened;
      previews = c.new.ensures ∙ sym (ap (λ (b : BoardData). previews_of b.config b.history) opened);
      begun = ap begin_indices c.new-2.ensures.items ∙ sym (ap (λ (l : List PreviewedBegin). range_with_len 0 (length l)) c.new.ensures);
    }

pub returns-clause-input_trace : goal.returns-clause-input_trace
returns-clause-input_trace c = ap input_trace (unless_value _ _ _ c.in_ok-board.ensures) ∙ input_trace-opening c.args.config BOARD_ID

pub returns-clause-board : goal.returns-clause-board
returns-clause-board c = unless_value _ _ _ c.in_ok-board.ensures

pub returns-clause-faultless : goal.returns-clause-faultless
returns-clause-faultless c = no_config_fault _ (no_fault _ _ _ c.in_ok-board.ensures)

pub returns-in_err-board-clause-refused : goal.returns-in_err-board-clause-refused
returns-in_err-board-clause-refused c =
    handed_on c.from_residual.result _ _ (λ fault is. unless_fault _ _ _ c.in_err-board.ensures ∙ ap (λ (f : BoardFault). Some f) (sym is)) c.from_residual.ensures.1
