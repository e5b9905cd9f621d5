use Rattle.std.proofs.Common.{◌≡◌, ◌∙◌, [], ◌∷◌, ◌++◌, ap, sym}
use Rattle.std.proofs.lemmas.Iterator.Adapters.{YieldsList-from_vec}
use Rattle.std.proofs.lemmas.Iterator.Consumers.{YieldsList-end}
use Rattle.std.proofs.lemmas.List.{append-nil, map-id}
use Rattle.am_simulation.specs.Parts.{PartData, cut_at, parts_from, whole_part}
use Rattle.am_simulation.proofs.Parting.{parts_more}
use Rattle.am_simulation.proofs.parts.parts_of.Goals as goal

pub loop-dispatcher_change-preserved : goal.loop-dispatcher_change-preserved
loop-dispatcher_change-preserved c =
    let was = c.loop-dispatcher_change in
    let h = c.in-Some.dispatcher_change in
    let first = whole_part c.args.config c.args.until c.args.plans.items in
    let cut : was.parts.items ++ cut_at h.at was.part ∷ [] ≡ c.push.new.self.items = sym (c.in_ok-push-in-Ok.ensures.items ∙ ap (λ (p : PartData). was.parts.items ++ p ∷ []) c.in-Ok.ensures.left) in
    λ rest. parts_more first was.yielded was.parts.items was.part h was.invariant rest ∙ (λ i. cut i ++ parts_from (sym c.in-Ok.ensures.next i) rest)

pub returns : goal.returns
returns c =
    let all = c.args.dispatcher_changes.items in
    let yielded = c.loop-dispatcher_change.yielded in
    let gives = c.into_iter-dispatcher_change-iterator.ensures.into_iter_gives in
    let end = YieldsList-end (YieldsList-from_vec {s = c.into_iter-dispatcher_change-iterator.result} all gives.0 (gives.1 ∙ c.args.dispatcher_changes.ok.0)) yielded c.loop-dispatcher_change.dispatcher_change-iterator c.loop-dispatcher_change.yielded_by c.next.result c.next.new.self c.in-None.is c.next.ensures.steps in
    c.in_ok-push.ensures.items ∙ sym (c.loop-dispatcher_change.invariant [])
    ∙ ap (parts_from (whole_part c.args.config c.args.until c.args.plans.items)) (append-nil yielded ∙ sym (map-id yielded) ∙ end.0)
