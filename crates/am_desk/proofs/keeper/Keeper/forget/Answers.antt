use Rattle.std.proofs.Common.{◌≡◌, ℕ, None, sym, ap, subst}
use Rattle.am_model.specs.Causes.{forget_cause}
use Rattle.am_model.specs.Replay.{replay}
use Rattle.am_board.specs.History.{BoardData}
use Rattle.am_model.specs.Records.{entry}
use Rattle.am_model.specs.declared.record.Call.TheVariants as call
use Rattle.am_model.specs.declared.record.Reply.TheVariants as reply
use Rattle.am_desk.specs.Known.{IsKeeper, Seen}
use Rattle.am_desk.proofs.Refusals.{AtBoard, accepted, recorded_keeper, turned_away}
use Rattle.am_desk.proofs.keeper.Keeper.forget.Goals as goal

pub settle-requires-clause-seat : goal.settle-requires-clause-seat
settle-requires-clause-seat g c = (c.self.invariant.0, recorded_keeper _ _ _ _ _ _ _ c.self.invariant.1 c.in-Ok.ensures.recorded)

pub report_refused-requires-clause-seat : goal.report_refused-requires-clause-seat
report_refused-requires-clause-seat g c = (
  c.self.invariant.0,
  subst (λ (b : BoardData). IsKeeper g.K.Kind.takes g.N.Name.terms g.N.Name.plan.passes b c.self.inside.seat.me.0) (sym c.in-Err.ensures.refused) c.self.invariant.1,
)

pub returns-in-Ok-clause-done : goal.returns-in-Ok-clause-done
returns-in-Ok-clause-done g c =
    accepted g.K.Kind.takes g.N.Name.terms g.N.Name.plan.passes c.self.inside.board _ _ _ c.self.inside.seat.me.0 c.args.pass.now _ (λ (x : AtBoard). forget_cause x.config x.records (replay x.config x.history) ≡ None)
    c.self.invariant.1
    c.in-Ok.ensures.recorded
    c.settle.ensures.pass
    c.in-Ok.ensures.cause
    (ap (λ (k : ℕ). entry k (call.Forget c.args.now) (reply.Forgotten c.in-Ok.forgotten)) (ap (λ (x : Seen). x.number) c.pass.view_is))

pub returns-in-Err-clause-refused : goal.returns-in-Err-clause-refused
returns-in-Err-clause-refused g c =
    turned_away g.K.Kind.takes g.N.Name.terms g.N.Name.plan.passes c.self.inside.board _ c.self.inside.seat.me.0 c.args.pass.now _ (λ (x : AtBoard). forget_cause x.config x.records (replay x.config x.history)) c.in-Err.fault
    c.self.invariant.1
    c.in-Err.ensures.refused
    c.report_refused.ensures.pass
    c.in-Err.ensures.cause
