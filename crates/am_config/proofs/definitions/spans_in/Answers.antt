use Rattle.std.proofs.Common.{◌≡◌, List, Some, map, subst}
use Rattle.serde_json.specs.Find.{as_array}
use Rattle.serde_json.specs.View.{items_view, view}
use Rattle.am_alerts.specs.declared.spans.Span.{Span}
use Rattle.am_json.specs.Decoding.{IsObject}
use Rattle.am_config.proofs.Timed.{array_decoded, ok_is, placed_each, some_is}
use Rattle.am_config.specs.Times.{AreHeld, HasTimed, TimedData, timed_in}
use Rattle.am_config.specs.declared.clocks.Placed.{Placed}
use Rattle.am_config.proofs.definitions.spans_in.Goals as goal

pub returns-clause-spans : goal.returns-clause-spans
returns-clause-spans c = λ none.
    let kept = c.in_ok-kept.ensures none in
    let placed = c.in_ok-placed.ensures.placed kept.0 in
    let items = c.in_ok-items.ensures.collects placed.0 in
    let hours = c.args.clocks.now in
    let value = view c.args.member.now.value in
    let values = c.in-Some.items.now in
    let found : List Placed = c.in_ok-placed.placed.items in
    let intervals : List TimedData = map timed_in found in
    let is : as_array value ≡ Some (items_view values) =
    some_is (λ s. as_array value ≡ Some (items_view s.now)) c.in_ok-items.field-0 c.in-Some.items c.in-Some.is c.in_ok-items.ensures.items in
    let held : AreHeld (map timed_in c.as_slice.result.now) c.in_ok-kept.kept =
    ok_is (AreHeld (map timed_in c.as_slice.result.now)) c.expand-spans.result c.in_ok-kept.kept kept.1 c.expand-spans.ensures in (
      items.0,
      (
        intervals,
        array_decoded (IsObject (HasTimed hours)) value (items_view values) intervals is (placed_each hours (items_view values) found placed.1),
        subst (λ (ps : List Placed). AreHeld (map timed_in ps) c.in_ok-kept.kept) c.as_slice.ensures.value held,
      ),
    )
