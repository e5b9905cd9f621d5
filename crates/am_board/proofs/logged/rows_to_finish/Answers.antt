use Rattle.std.proofs.Common.{◌≡◌, ◌∙◌, List, ap, subst, sym}
use Rattle.std.specs.Prelude.{IfOk}
use Rattle.am_model.specs.State.{flush_numbered}
use Rattle.am_model.specs.declared.views.RowView.{RowView}
use Rattle.am_board.specs.Logged.{rows_of_finish}
use Rattle.am_board.specs.Refinement.{state_of}
use Rattle.am_board.proofs.lemmas.finish.LoggedRows.{finish-no_rows, finish-rows}
use Rattle.am_board.proofs.logged.rows_to_finish.Goals as goal

pub find_flush-requires : goal.find_flush-requires
find_flush-requires c = c.requires.good.1.consistent.numbers

pub returns-in_default : goal.returns-in_default
returns-in_default c config good = c.new.ensures.items ∙ finish-no_rows config c.args.state.now c.args.number (sym c.in_default.ensures.first) _ c.args.outcomes.now

pub returns : goal.returns
returns c config good =
    subst (λ (logged : List RowView). IfOk c.rows_of.result (λ rows. rows.items ≡ logged))
    (finish-rows config c.args.state.now good c.in-Some.f c.index.result.now c.in-Some.ensures.within c.index.ensures c.args.number (sym c.in-Some.ensures.first)
    c.time.result c.args.outcomes.now
    ∙ ap (λ t. rows_of_finish config t c.args.outcomes.now (flush_numbered (state_of c.args.state.now).flushes c.args.number)) c.time.ensures)
    c.rows_of.ensures
