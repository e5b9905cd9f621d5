use Rattle.std.proofs.Common.{◌∙◌, Some, ap, sym}
use Rattle.am_model.specs.State.{flush_numbered}
use Rattle.am_board.specs.Logged.{row_of_note}
use Rattle.am_board.specs.Refinement.{state_of}
use Rattle.am_board.proofs.lemmas.finish.LoggedRows.{note-no_row, note-row}
use Rattle.am_board.proofs.logged.row_to_note.Goals as goal

pub find_flush-requires : goal.find_flush-requires
find_flush-requires c = c.requires.good.1.consistent.numbers

pub returns-in_default : goal.returns-in_default
returns-in_default c config good = note-no_row config c.args.state.now c.args.number (sym c.in_default.ensures.first) _ c.args.integration

pub returns : goal.returns
returns c config good =
    ap Some c.in_ok-row_of.ensures
    ∙ note-row config c.args.state.now good c.in-Some.f c.index.result.now c.in-Some.ensures.within c.index.ensures c.args.number (sym c.in-Some.ensures.first)
    c.time-t.result c.args.integration
    ∙ ap (λ t. row_of_note config t c.args.integration (flush_numbered (state_of c.args.state.now).flushes c.args.number)) c.time-t.ensures
