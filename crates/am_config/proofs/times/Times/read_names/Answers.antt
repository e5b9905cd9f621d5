use Rattle.std.proofs.Common.{◌≡◌, ◌<◌, ◌∙◌, length, subst, arith}
use Rattle.serde_json.specs.View.{view}
use Rattle.am_config.proofs.Collecting.{each_more, some_read}
use Rattle.am_config.specs.Times.{IsIndexOf, TimesData}
use Rattle.am_config.proofs.times.Times.read_names.Goals as goal

pub loop-index-preserved : goal.loop-index-preserved
loop-index-preserved c =
    let l = c.loop-index in
    let values = c.in-Some-2.items.now in
    let value = c.index-items-index.result in
    let x = c.in-Some-3.found in
    let times : TimesData = c.args.self.now in
    let same : l.self ≡ times = l.invariant.times in
    let here : l.index < length values = omega arith in
    record {
      times = c.in_ok-found.ensures.times ∙ same;
      names =
          each_more (IsIndexOf times.named) values l.index value x l.indexes.items c.push.new.self.items c.args.faults.now l.faults c.read_listed.new.faults here
          c.index-items-index.is l.invariant.names
          (λ none.
          let read = c.in_ok-found.ensures.index none in (
            read.0,
            subst (λ (t : TimesData). IsIndexOf t.named (view value) x) same
                (some_read (IsIndexOf l.self.named (view value)) c.in_ok-found.field-0 x c.in-Some-3.is read.1),
          ))
          c.in_ok-push.ensures.items;
    }
