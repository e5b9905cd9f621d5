use Rattle.std.proofs.Common.{◌≡◌, ◌<◌, ◌∙◌, true, List, Some, None, ap, length, get_or, refl, sym, arith}
use Rattle.std.specs.Option.{option_copied}
use Rattle.std.specs.Prelude.{is_ok, slice_get}
use Rattle.am_config.proofs.Listed.{looked_up, spans_more, spans_skip}
use Rattle.am_config.specs.declared.definitions.NamedSpans.{NamedSpans}
use Rattle.am_config.proofs.definitions.spans_at.Goals as goal

pub loop-index-preserved-in_default : goal.loop-index-preserved-in_default
loop-index-preserved-in_default c =
    let l = c.loop-index in
    let indexes = c.args.indexes.now in
    let named : List NamedSpans = c.args.named.now in
    let at = get_or indexes l.index-index 0 in
    let here : l.index-index < length indexes = omega arith in
    let none : slice_get named at ≡ None =
    sym (looked_up named at c.get.result c.get.ensures.lookup.0 c.get.ensures.lookup.1) ∙ ap option_copied c.in_default.is in
    spans_skip named indexes l.index-index l.spans.items here none l.invariant

pub loop-index-preserved : goal.loop-index-preserved
loop-index-preserved c =
    let l = c.loop-index in
    let indexes = c.args.indexes.now in
    let named : List NamedSpans = c.args.named.now in
    let at = get_or indexes l.index-index 0 in
    let d : NamedSpans = c.in-Some.definition.now in
    let here : l.index-index < length indexes = omega arith in
    let found : slice_get named at ≡ Some d =
    sym (looked_up named at c.get.result c.get.ensures.lookup.0 c.get.ensures.lookup.1) ∙ ap option_copied c.in-Some.is in
    let okay : is_ok c.push.result ≡ true = sym c.map_err.ensures.variant ∙ ap is_ok c.in_ok-map_err.was in
    spans_more named indexes l.index-index d l.spans.items c.push.new.self.items _ here found refl l.invariant (rw okay at c.push.ensures.items)
