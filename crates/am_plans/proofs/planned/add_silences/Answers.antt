use Rattle.std.proofs.Common.{◌≡◌, ◌∷◌, ◌++◌, [], false, List, length, subst, arith}
use Rattle.std.proofs.lemmas.List.{length_push, take_all}
use Rattle.std.proofs.lemmas.List.FromFn.{length-enumerate_from}
use Rattle.std.proofs.lemmas.Iterator.Adapters.{YieldsList-from_vec}
use Rattle.std.proofs.lemmas.Iterator.Consumers.{YieldsList-end, YieldsList-from_enumerate, YieldsList-turn}
use Rattle.std.specs.List.{list_all}
use Rattle.am_plans.proofs.Decodings.{denied_on}
use Rattle.am_plans.proofs.Makes.{fails_at}
use Rattle.am_plans.proofs.Plans.{adds_nothing, adds_set, numbered}
use Rattle.am_plans.specs.Planned.{AddsPlans, may_set, sets_from}
use Rattle.am_plans.specs.declared.silence.SilenceItem.{SilenceItem}
use Rattle.am_plans.proofs.planned.add_silences.Goals as goal

pub loop-item-init : goal.loop-item-init
loop-item-init c = adds_nothing _

pub add_silence-requires : goal.add_silence-requires
add_silence-requires c =
    let all = c.args.silences.items in
    let it = c.into_iter-item-iterator.result in
    let gives = c.into_iter-item-iterator.ensures.into_iter_gives in
    let items : it.iter.rest.items ≡ all = cc (gives, c.enumerate-item-items.ensures.source, c.into_iter.ensures.rest) in
    let len : it.iter.rest.len ≡ length all = cc in
    let count : it.count ≡ 0 = cc (gives, c.enumerate-item-items.ensures.count) in
    let turn = YieldsList-turn (YieldsList-from_enumerate {s = it} (YieldsList-from_vec {s = it.iter} all items len) count) c.loop-item.yielded c.loop-item.item-iterator c.loop-item.yielded_by c.next.result c.next.new.self (c.in-Some.item, c.in-Some.silence) c.in-Some.is c.next.ensures.steps in
    let at = numbered all (length c.loop-item.yielded) c.in-Some.item c.in-Some.silence turn.0 turn.1 in
    omega (arith, at.0, at.1, c.args.silences.ok.0)

pub loop-item-preserved : goal.loop-item-preserved
loop-item-preserved c =
    let all = c.args.silences.items in
    let it = c.into_iter-item-iterator.result in
    let gives = c.into_iter-item-iterator.ensures.into_iter_gives in
    let items : it.iter.rest.items ≡ all = cc (gives, c.enumerate-item-items.ensures.source, c.into_iter.ensures.rest) in
    let len : it.iter.rest.len ≡ length all = cc in
    let count : it.count ≡ 0 = cc (gives, c.enumerate-item-items.ensures.count) in
    let so_far = c.loop-item.yielded in
    let turn = YieldsList-turn (YieldsList-from_enumerate {s = it} (YieldsList-from_vec {s = it.iter} all items len) count) so_far c.loop-item.item-iterator c.loop-item.yielded_by c.next.result c.next.new.self (c.in-Some.item, c.in-Some.silence) c.in-Some.is c.next.ensures.steps in
    let at = numbered all (length so_far) c.in-Some.item c.in-Some.silence turn.0 turn.1 in
    adds_set _ _ _ all (length so_far) (length (so_far ++ (c.in-Some.item, c.in-Some.silence) ∷ [])) c.in-Some.item c.in-Some.silence
    (length_push so_far (c.in-Some.item, c.in-Some.silence)) at.0 at.1 at.2 c.loop-item.invariant c.in_ok-add_silence.ensures.adds

pub returns-clause-adds : goal.returns-clause-adds
returns-clause-adds c =
    let all = c.args.silences.items in
    let it = c.into_iter-item-iterator.result in
    let gives = c.into_iter-item-iterator.ensures.into_iter_gives in
    let items : it.iter.rest.items ≡ all = cc (gives, c.enumerate-item-items.ensures.source, c.into_iter.ensures.rest) in
    let len : it.iter.rest.len ≡ length all = cc in
    let count : it.count ≡ 0 = cc (gives, c.enumerate-item-items.ensures.count) in
    let end = YieldsList-end (YieldsList-from_enumerate {s = it} (YieldsList-from_vec {s = it.iter} all items len) count) c.loop-item.yielded c.loop-item.item-iterator c.loop-item.yielded_by c.next.result c.next.new.self c.in-None.is c.next.ensures.steps in
    let whole = take_all (length c.loop-item.yielded) all (omega (arith, end.1, length-enumerate_from 0 all)) in
    subst (λ (l : List SilenceItem). AddsPlans c.args.planned.now.items c.loop-item.planned.items (sets_from 1 l)) whole c.loop-item.invariant

pub returns-in_err-add_silence-clause-refused : goal.returns-in_err-add_silence-clause-refused
returns-in_err-add_silence-clause-refused c =
    let all = c.args.silences.items in
    let it = c.into_iter-item-iterator.result in
    let gives = c.into_iter-item-iterator.ensures.into_iter_gives in
    let items : it.iter.rest.items ≡ all = cc (gives, c.enumerate-item-items.ensures.source, c.into_iter.ensures.rest) in
    let len : it.iter.rest.len ≡ length all = cc in
    let count : it.count ≡ 0 = cc (gives, c.enumerate-item-items.ensures.count) in
    let turn = YieldsList-turn (YieldsList-from_enumerate {s = it} (YieldsList-from_vec {s = it.iter} all items len) count) c.loop-item.yielded c.loop-item.item-iterator c.loop-item.yielded_by c.next.result c.next.new.self (c.in-Some.item, c.in-Some.silence) c.in-Some.is c.next.ensures.steps in
    let at = numbered all (length c.loop-item.yielded) c.in-Some.item c.in-Some.silence turn.0 turn.1 in
    denied_on (list_all may_set all ≡ false) c.from_residual.result c.in_err-add_silence.field-0.0 c.from_residual.ensures.1
    (λ refusal. fails_at may_set all (length c.loop-item.yielded) c.in-Some.silence at.0 at.2 (c.in_err-add_silence.ensures.refused refusal))
