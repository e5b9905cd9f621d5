use Rattle.std.proofs.Common.{[], ◌∷◌, ◌++◌, map, sym, ap, ◌∙◌}
use Rattle.std.proofs.lemmas.Iterator.Adapters.{YieldsList-from_vec}
use Rattle.std.proofs.lemmas.Iterator.Consumers.{YieldsList-end}
use Rattle.std.proofs.lemmas.List.{map-append, map-id}
use Rattle.am_plans.specs.declared.planned.Planned.{Planned}
use Rattle.am_plans.proofs.planned.split.Goals as goal

pub loop-one-preserved : goal.loop-one-preserved
loop-one-preserved c =
    c.in_ok-push.ensures.items
    ∙ ap (λ ps. ps ++ c.in-Some.one.plan ∷ []) c.loop-one.invariant
    ∙ sym (map-append (λ (p : Planned). p.plan) c.loop-one.yielded (c.in-Some.one ∷ []))

pub returns-clause-plans : goal.returns-clause-plans
returns-clause-plans c =
    let all = c.args.planned.items in
    let gives = c.into_iter-one-iterator.ensures.into_iter_gives in
    let end = YieldsList-end (YieldsList-from_vec {s = c.into_iter-one-iterator.result} all gives.0 (gives.1 ∙ c.args.planned.ok.0)) c.loop-one.yielded c.loop-one.one-iterator c.loop-one.yielded_by c.next.result c.next.new.self c.in-None.is c.next.ensures.steps in
    c.loop-one.invariant ∙ ap (map (λ (p : Planned). p.plan)) (sym (map-id c.loop-one.yielded) ∙ end.0)
