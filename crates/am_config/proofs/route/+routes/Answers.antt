use Rattle.std.proofs.Common.{◌≡◌, ◌≤◌, ◌<◌, ◌∙◌, length, subst, arith}
use Rattle.std.specs.Result.{result_ok}
use Rattle.serde_json.specs.Find.{as_array}
use Rattle.serde_json.specs.View.{members_view, view}
use Rattle.serde_json.specs.declared.value.Value.{Value}
use Rattle.am_json.specs.Decoding.{IsObject}
use Rattle.am_config.proofs.Collecting.{some_read}
use Rattle.am_config.proofs.Matched.{array_kept}
use Rattle.am_config.proofs.Routed.{routes_more, said_routes}
use Rattle.am_config.specs.Routes.{HasNode}
use Rattle.am_config.specs.Said.{said}
use Rattle.am_config.specs.Times.{TimesData}
use Rattle.std.proofs.Common.{codes}
use Rattle.am_config.proofs.route.+routes.Goals as goal

pub read_routes-loop-index-preserved : goal.read_routes-loop-index-preserved
read_routes-loop-index-preserved t c =
    let l = c.loop-index in
    let values = c.in-Some-2.items.now in
    let value = c.index-items-index.result in
    let n = c.in-Some-3.node in
    let same : l.routing.times ≡ c.args.routing.now.times = l.invariant.times in
    let here : l.index < length values = omega arith in
    record {
      times = c.in_ok-node.ensures.times ∙ same;
      are =
          routes_more c.args.routing.now.times values l.index value n l.routes.items c.push.new.self.items c.args.faults.now l.faults c.read_item.new.faults here
          c.index-items-index.is l.invariant.are
          (λ none.
          let read = c.in_ok-node.ensures.node none in (
            read.0,
            subst (λ (v : Value). IsObject (HasNode c.args.routing.now.times) (view v) n) c.item-item.ensures.value
                (subst (λ (times : TimesData). IsObject (HasNode times) (view c.item-item.result.value) n) same
                (some_read (IsObject (HasNode l.routing.times) (view c.item-item.result.value)) c.in_ok-node.field-0 n c.in-Some-3.is read.1)),
          ))
          c.in_ok-push.ensures.items;
    }

pub read_routes-returns : goal.read_routes-returns
read_routes-returns t c =
    let l = c.loop-index in
    let values = c.in-Some-2.items in
    let past : length values.now ≤ l.index = omega arith in
    let value = view c.in-Some.member.value in
    record {
      times = l.invariant.times;
      routes =
          said_routes c.args.routing.now.times (said (codes "routes") (members_view c.args.route.now.members)) value values.now l.index l.routes.items
          c.args.faults.now l.faults c.in-Some.ensures
          (array_kept (result_ok c.array.result) c.in_ok-items.field-0 values (as_array value) c.in_ok-items.ensures.kept c.in-Some-2.is c.array.ensures.items)
          past l.invariant.are;
    }
