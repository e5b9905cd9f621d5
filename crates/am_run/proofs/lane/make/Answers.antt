use Rattle.std.proofs.Common.{[], ◌∷◌, subst, sym}
use Rattle.am_run.specs.Lanes.{call_at}
use Rattle.am_run.specs.LaneStates.{MadeCalls}
use Rattle.am_scenario.specs.declared.scenario.call.LaneCall.{LaneCall}
use Rattle.am_run.proofs.lemmas.lanes.Calls.{one_made}
use Rattle.am_run.proofs.lane.make.Goals as goal

pub returns-in_ok-insert-in-Insert-clause-made : goal.returns-in_ok-insert-in-Insert-clause-made
returns-in_ok-insert-in-Insert-clause-made g c =
    subst (λ (x : LaneCall). MadeCalls (call_at c.args.at x ∷ []) c.args.pass.now c.insert.new.pass) (sym c.in-Insert.is) (one_made _ _ _ _ _ _ c.in_ok-insert-in-Insert.ensures.done)

pub returns-in_ok-silence-in-Silence-clause-made : goal.returns-in_ok-silence-in-Silence-clause-made
returns-in_ok-silence-in-Silence-clause-made g c =
    subst (λ (x : LaneCall). MadeCalls (call_at c.args.at x ∷ []) c.args.pass.now c.silence.new.pass) (sym c.in-Silence.is) (one_made _ _ _ _ _ _ c.in_ok-silence-in-Silence.ensures.done)

pub returns-in_ok-maintain-in-Maintain-clause-made : goal.returns-in_ok-maintain-in-Maintain-clause-made
returns-in_ok-maintain-in-Maintain-clause-made g c =
    subst (λ (x : LaneCall). MadeCalls (call_at c.args.at x ∷ []) c.args.pass.now c.maintain.new.pass) (sym c.in-Maintain.is) (one_made _ _ _ _ _ _ c.in_ok-maintain-in-Maintain.ensures.done)
