use Rattle.std.proofs.Common.{◌≡◌, ℕ, refl, sym, ap, ◌∙◌, ◌++◌, List, length, subst}
use Rattle.std.proofs.lemmas.List.FromFn.{length-range_with_len}
use Rattle.am_board.specs.History.{reply_of, state_at}
use Rattle.am_model.specs.Begin.{begun}
use Rattle.am_model.specs.State.{time}
use Rattle.am_model.specs.declared.record.Reply.{Reply}
use Rattle.am_simulation.specs.EventOrder.{begin_indices}
use Rattle.am_simulation.specs.Taking.{begun_where, cause_of_none}
use Rattle.am_terms.specs.declared.event.Event.{Event}
use Rattle.am_simulation.proofs.Calling.{answered, begun_shown, taken_by}
use Rattle.am_model.specs.declared.record.Call.TheVariants.{Begin}
use Rattle.am_model.specs.declared.record.Record.{Record}
use Rattle.am_model.specs.Records.{entry}
use Rattle.am_simulation.specs.Previews.{takes_group, preview_where}
use Rattle.am_terms.specs.declared.event.PreviewedBegin.{PreviewedBegin}
use Rattle.am_simulation.specs.declared.limits.TheConstants.{BOARD_ID}
use Rattle.am_simulation.proofs.PreviewsHold.{holds_after}
use Rattle.am_simulation.proofs.Doing.{input_trace-same}
use Rattle.am_simulation.proofs.previewing.PreviewingBoard.begin.Goals as goal

pub invariant_of-self-2 : goal.invariant_of-self-2
invariant_of-self-2 c =
    let was = c.args.self.now in
    let takes = takes_group (reply_of c.in-Ok.both.0) in
    let is_to_do = c.in-Ok.both.1 in
    let shown = subst (λ (front : List Record). front ++ c.history-index.result.now ≡ was.board.history) was.whole c.history-index.ensures.history in
    let previews =
    c.push_shown.ensures.previews
    ∙ (ap (λ (l : List PreviewedBegin). l ++ preview_where takes (length c.history-index.result.now) is_to_do) c.make_ready.ensures.items
    ∙ ap (λ (h : List Record). was.begins.items ++ preview_where takes (length h) is_to_do) shown) in
    let holds =
    holds_after BOARD_ID was.begins.items was.board c.begin_previewed.new.self (was.ours, was.whole, was.previews) (entry 0 (Begin c.args.now) (reply_of c.in-Ok.both.0)) is_to_do
    c.in-Ok.ensures.previewed c.in-Ok.ensures.recorded c.push_shown.new.begins.items previews in
    record { ours = holds.0; whole = holds.1; previews = holds.2; begun = c.push_shown.ensures.begun }

pub returns-clause-input_trace : goal.returns-clause-input_trace
returns-clause-input_trace c =
    input_trace-same c.args.self.now.board c.begin_previewed.new.self (entry 0 (Begin c.args.now) (reply_of c.in-Ok.both.0), refl, c.in-Ok.ensures.recorded)

pub returns-clause-taken : goal.returns-clause-taken
returns-clause-taken c =
    let was = c.args.self.now in
    let returned : Reply = reply_of c.in-Ok.both.0 in
    let shown = c.in-Ok.both.1 in
    let count : ℕ = length (begin_indices was.events.items) in
    let replied : begun was.board.config was.board.id (state_at was.board) (time (state_at was.board) c.args.now) ≡ returned = cc (c.in-Ok.ensures.reply) in
    let counted : length c.make_ready.new.self.items ≡ count =
    ap (λ (l : List PreviewedBegin). length l) c.make_ready.ensures.items
    ∙ sym (ap (λ (l : List ℕ). length l) was.begun ∙ length-range_with_len 0 (length was.begins.items))
    in
    taken_by was.board c.begin_previewed.new.self was.events.items c.push_shown.new.events.items c.args.now c.in-Ok.both.0 c.own.result c.own.ensures c.in-Ok.ensures.fresh
    (record {
      allowed = c.in-Ok.ensures.cause;
      replied = replied;
      board = c.in-Ok.ensures.recorded;
      events_are =
          c.push_shown.ensures.events
          ∙ (ap (λ (l : List Event). l ++ begun_where shown (takes_group returned) (length c.make_ready.new.self.items)) c.reserve.ensures.items
          ∙ (ap (λ (n : ℕ). was.events.items ++ begun_where shown (takes_group returned) n) counted
          ∙ ap (λ (l : List Event). was.events.items ++ l) (begun_shown was.board c.args.now count returned shown replied c.in-Ok.ensures.previewed)));
    })

pub returns-in-Err-clause-cause : goal.returns-in-Err-clause-cause
returns-in-Err-clause-cause c = answered (cause_of_none c.args.self.now.board c.args.now) c.in-Err.fault c.in-Err.ensures.cause
