use Rattle.std.proofs.Common.{◌∷◌, ◌++◌, ◌∙◌, [], List, Result, arith, length-append, subst, sym}
use Rattle.std.proofs.lemmas.Iterator.Adapters.{YieldsList-from_vec}
use Rattle.std.proofs.lemmas.Iterator.Consumers.{YieldsList-turn}
use Rattle.am_model.specs.declared.fault.Fault.{Fault}
use Rattle.am_model.specs.declared.record.Inserted.{Inserted}
use Rattle.am_desk.specs.Batches.{AreAnswered}
use Rattle.am_desk.proofs.Answering.{answer_of, answered_more}
use Rattle.am_desk.proofs.keeper.Keeper.insert_all.Goals as goal

pub push_reserved-requires : goal.push_reserved-requires
push_reserved-requires g c =
    let was = c.loop-alert in
    let alerts = c.args.alerts.items in
    let gives = c.into_iter-alert-iterator.ensures.into_iter_gives in
    let from = YieldsList-from_vec {s = c.into_iter-alert-iterator.result} alerts gives.0 (gives.1 ∙ c.args.alerts.ok.0) in
    let turn = YieldsList-turn from was.yielded was.alert-iterator was.yielded_by c.next.result c.next.new.self c.in-Some.alert c.in-Some.is c.next.ensures.steps in
    omega (arith, turn.0, was.invariant.space, was.invariant.count)

pub loop-alert-preserved : goal.loop-alert-preserved
loop-alert-preserved g c =
    let was = c.loop-alert in
    let takes = g.K.Kind.takes in
    let t = g.N.Name.terms in
    let alert = c.in-Some.alert in
    let answer = c.insert-answer.result in
    let q = c.insert-answer.new.pass in
    let is = answer_of takes t c.args.now was.pass alert answer q c.insert-answer.ensures.done c.insert-answer.ensures.refused in
    record {
      answered = subst (λ (rs : List (Result Inserted Fault)). AreAnswered takes t c.args.now c.args.pass.now (was.yielded ++ alert ∷ []) rs q)
          (sym c.push_reserved.ensures.items)
          (answered_more takes t c.args.now c.args.pass.now was.pass q was.yielded alert was.answers.items answer was.invariant.answered is);
      space = omega (arith, c.push_reserved.ensures.capacity, was.invariant.space);
      count = omega (arith, c.push_reserved.ensures.len, was.invariant.count, length-append was.yielded (alert ∷ []));
    }
