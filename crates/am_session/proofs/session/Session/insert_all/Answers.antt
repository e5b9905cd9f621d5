use Rattle.std.proofs.Common.{◌≡◌, ◌∙◌, arith, codes, length, refl}
use Rattle.std.proofs.lemmas.Iterator.Adapters.{YieldsList-from_vec}
use Rattle.std.proofs.lemmas.Iterator.Consumers.{YieldsList-end, YieldsList-turn}
use Rattle.std.proofs.lemmas.List.{length_push}
use Rattle.am_protocol.specs.declared.request.Request.TheVariants.{Inserts}
use Rattle.am_protocol.specs.Inserts.{insert_end_tokens}
use Rattle.am_protocol.specs.View.{listed}
use Rattle.am_session.proofs.Inserting.{all_made, inserts, none_made, one_made}
use Rattle.am_session.proofs.Leaving.{untold_all}
use Rattle.am_session.proofs.session.Session.insert_all.Goals as goal

pub loop-insert-init : goal.loop-insert-init
loop-insert-init c = record {
  count = c.in_ok-ends.ensures.len;
  capacity = omega (arith, c.in_ok-ends.ensures.capacity, c.args.inserts.ok.0);
  made = none_made c.args.self.now c.args.inserts.items _ c.in_ok-ends.ensures.items;
}

pub push_reserved-requires : goal.push_reserved-requires
push_reserved-requires c =
    let items : c.into_iter-insert-iterator.result.rest.items ≡ c.args.inserts.items = c.into_iter-insert-iterator.ensures.into_iter_gives.0 in
    let len : c.into_iter-insert-iterator.result.rest.len ≡ length c.args.inserts.items = c.into_iter-insert-iterator.ensures.into_iter_gives.1 ∙ c.args.inserts.ok.0 in
    let turn = YieldsList-turn (YieldsList-from_vec {s = c.into_iter-insert-iterator.result} c.args.inserts.items items len) c.loop-insert.yielded c.loop-insert.insert-iterator c.loop-insert.yielded_by c.next.result c.next.new.self c.in-Some.insert c.in-Some.is c.next.ensures.steps in
    omega (arith, turn.0, c.loop-insert.invariant.count, c.loop-insert.invariant.capacity)

pub loop-insert-preserved : goal.loop-insert-preserved
loop-insert-preserved c =
    let items : c.into_iter-insert-iterator.result.rest.items ≡ c.args.inserts.items = c.into_iter-insert-iterator.ensures.into_iter_gives.0 in
    let len : c.into_iter-insert-iterator.result.rest.len ≡ length c.args.inserts.items = c.into_iter-insert-iterator.ensures.into_iter_gives.1 ∙ c.args.inserts.ok.0 in
    let turn = YieldsList-turn (YieldsList-from_vec {s = c.into_iter-insert-iterator.result} c.args.inserts.items items len) c.loop-insert.yielded c.loop-insert.insert-iterator c.loop-insert.yielded_by c.next.result c.next.new.self c.in-Some.insert c.in-Some.is c.next.ensures.steps in
    record {
      count = omega (arith, c.push_reserved.ensures.len, c.loop-insert.invariant.count, length_push c.loop-insert.yielded c.in-Some.insert);
      capacity = omega (arith, c.push_reserved.ensures.capacity, c.loop-insert.invariant.capacity);
      made = one_made c.args.self.now c.loop-insert.self c.insert_listed-end.new.self c.args.inserts.items (length c.loop-insert.yielded) _ c.in-Some.insert c.insert_listed-end.result
          c.loop-insert.ends.items _ turn.0 turn.1 (length_push c.loop-insert.yielded c.in-Some.insert) c.push_reserved.ensures.items c.loop-insert.invariant.made c.insert_listed-end.ensures;
    }

pub returns-clause-answered : goal.returns-clause-answered
returns-clause-answered c =
    let items : c.into_iter-insert-iterator.result.rest.items ≡ c.args.inserts.items = c.into_iter-insert-iterator.ensures.into_iter_gives.0 in
    let len : c.into_iter-insert-iterator.result.rest.len ≡ length c.args.inserts.items = c.into_iter-insert-iterator.ensures.into_iter_gives.1 ∙ c.args.inserts.ok.0 in
    let over = YieldsList-end (YieldsList-from_vec {s = c.into_iter-insert-iterator.result} c.args.inserts.items items len) c.loop-insert.yielded c.loop-insert.insert-iterator c.loop-insert.yielded_by c.next.result c.next.new.self c.in-None.is c.next.ensures.steps in
    inserts c.answered.result c.write_list.result c.args.self.now c.loop-insert.self c.args.inserts.items c.loop-insert.ends.items c.as_slice.result.now c.args.answer.now c.write_list.new.answer
    c.answered.ensures.ok
    (all_made c.args.self.now c.loop-insert.self c.args.inserts.items (length c.loop-insert.yielded) c.loop-insert.ends.items (omega (arith, over.1)) c.loop-insert.invariant.made)
    c.as_slice.ensures.value c.write_list.ensures

pub returns-clause-refused : goal.returns-clause-refused
returns-clause-refused c =
    let items : c.into_iter-insert-iterator.result.rest.items ≡ c.args.inserts.items = c.into_iter-insert-iterator.ensures.into_iter_gives.0 in
    let len : c.into_iter-insert-iterator.result.rest.len ≡ length c.args.inserts.items = c.into_iter-insert-iterator.ensures.into_iter_gives.1 ∙ c.args.inserts.ok.0 in
    let over = YieldsList-end (YieldsList-from_vec {s = c.into_iter-insert-iterator.result} c.args.inserts.items items len) c.loop-insert.yielded c.loop-insert.insert-iterator c.loop-insert.yielded_by c.next.result c.next.new.self c.in-None.is c.next.ensures.steps in
    untold_all _ c.args.self.now c.loop-insert.self (Inserts c.args.inserts) c.answered.ensures.err (λ e. absurd (cc)) (
      listed (codes "inserts") insert_end_tokens c.loop-insert.ends.items,
      (
        c.loop-insert.ends.items,
        all_made c.args.self.now c.loop-insert.self c.args.inserts.items (length c.loop-insert.yielded) c.loop-insert.ends.items (omega (arith, over.1)) c.loop-insert.invariant.made,
        refl,
      ),
    )
