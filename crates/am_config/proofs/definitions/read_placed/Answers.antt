use Rattle.std.proofs.Common.{◌≡◌, ◌<◌, ◌∙◌, Option, length, subst, arith}
use Rattle.serde_json.specs.View.{view}
use Rattle.serde_json.specs.declared.value.Value.{Value}
use Rattle.am_config.proofs.Collecting.{each_more, some_read}
use Rattle.am_config.specs.Times.{IsPlaced}
use Rattle.am_config.specs.declared.hours.Hours.{Hours}
use Rattle.am_config.proofs.definitions.read_placed.Goals as goal

pub loop-index-preserved : goal.loop-index-preserved
loop-index-preserved c =
    let l = c.loop-index in
    let values = c.args.items.now in
    let value = c.index-items-index.result in
    let x = c.in-Some.read in
    let hours : Option Hours = c.args.clocks.now in
    let same : l.clocks ≡ hours = l.invariant.hours in
    let here : l.index < length values = omega arith in
    record {
      hours = c.in_ok-read.ensures.hours ∙ same;
      placed =
          each_more (IsPlaced hours) values l.index value x l.placed.items c.push.new.self.items c.args.faults.now l.faults c.read_interval.new.faults here
          c.index-items-index.is l.invariant.placed
          (λ none.
          let read = c.in_ok-read.ensures.placed none in (
            read.0,
            subst (λ (v : Value). IsPlaced hours (view v) x) c.item-item.ensures.value
                (subst (λ (h : Option Hours). IsPlaced h (view c.item-item.result.value) x) same
                (some_read (IsPlaced l.clocks (view c.item-item.result.value)) c.in_ok-read.field-0 x c.in-Some.is read.1)),
          ))
          c.in_ok-push.ensures.items;
    }
