use Rattle.std.proofs.Common.{◌≡◌, ◌∙◌, Option, Some, Ok, MatchOption, ap, codes, option_map, subst, sym}
use Rattle.serde_json.specs.Data.{Members}
use Rattle.serde_json.specs.Find.{as_object}
use Rattle.serde_json.specs.View.{members_view, view}
use Rattle.am_json.specs.Read.{ObjectData}
use Rattle.am_hours.specs.Reading.{times_of}
use Rattle.am_config.proofs.Collecting.{some_read}
use Rattle.am_config.specs.Said.{IsScalar, Says}
use Rattle.am_config.specs.Times.{HasDayTimes}
use Rattle.am_config.proofs.intervals.read_day_time.Goals as goal

pub returns-in-Ok : goal.returns-in-Ok
returns-in-Ok c = λ none.
    let to = c.in_ok-to.ensures none in
    let from = c.in_ok-from.ensures to.0 in
    let known = c.in_ok-only.ensures from.0 in
    let object = c.in_ok-range.ensures.collects known.0 in
    let members : Members = members_view c.in-Some.range.members in
    let a = c.in-Some-from.from in
    let b = c.in-Some-to.to in
    let is : Some members ≡ as_object (view c.args.reader.now.value) =
    ap (option_map (λ (o : ObjectData). members_view o.members)) (sym c.in-Some.is ∙ c.in_ok-range.ensures.kept) ∙ c.object.ensures.members in
    let times : times_of a b ≡ Ok c.in-Ok.range = (λ i. times_of (sym c.as_str.ensures i) (sym c.as_str-2.ensures i)) ∙ sym c.in-Ok.ensures.value in
    let has : HasDayTimes members c.in-Ok.range = record {
      known = known.1;
      from = a;
      to = b;
      starts = some_read (Says IsScalar (codes "start_time") members) c.in_ok-from.from a c.in-Some-from.is from.1;
      ends = some_read (Says IsScalar (codes "end_time") members) c.in_ok-to.to b c.in-Some-to.is to.1;
      is = times;
    } in (
      object.0,
      subst (λ (o : Option Members). MatchOption o ⊥ (λ ms. HasDayTimes ms c.in-Ok.range)) is has,
    )
