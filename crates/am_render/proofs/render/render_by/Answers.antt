use Rattle.std.proofs.Common.{◌≡◌, ◌∙◌, List, ap, drop, map, string_bytes, subst, sym}
use Rattle.std.specs.List.{list_all}
use Rattle.am_judge.specs.Expectation.{is_met}
use Rattle.am_timeline.specs.Playback.{PlaybackData}
use Rattle.am_render.specs.Head.{heads_of}
use Rattle.am_render.specs.Printed.{IsPrinted, playback_of}
use Rattle.am_render.specs.declared.head.Head.{Head}
use Rattle.am_render.proofs.Tales.{both_hold}
use Rattle.am_render.proofs.render.render_by.Goals as goal

pub returns : goal.returns
returns g c =
    let played = c.args.played.now in
    let changes = c.args.changes.now in
    let output = c.args.show.now.output in
    let options = c.args.show.now.options.now in
    let expectations = c.args.show.now.expectations.now in
    let times = g.C.TimeFormat.times c.args.clock.now in
    let heads_are : c.as_slice-heads.result.now ≡ heads_of changes (drop 1 played) =
    c.as_slice-heads.ensures.value ∙ c.in_ok-heads.ensures ∙ ap (heads_of changes) c.later.ensures in
    let playbacks_are : c.as_slice-playbacks.result.now ≡ map playback_of played =
    c.as_slice-playbacks.ensures.value ∙ c.in_ok-playbacks.ensures in
    both_hold c.render_parts.result _ _ _
    (λ rendered met printed.
    record {
      legal = c.in_ok-logs.ensures.legal;
      judges = sym (subst (λ (ps : List PlaybackData). rendered.is_met ≡ list_all (is_met ps) expectations) playbacks_are met);
      is =
          subst (λ (ps : List PlaybackData). IsPrinted output options (heads_of changes (drop 1 played)) ps times expectations (string_bytes rendered.text)) playbacks_are
          (subst (λ (hs : List Head). IsPrinted output options hs c.as_slice-playbacks.result.now times expectations (string_bytes rendered.text)) heads_are printed);
    })
    c.render_parts.ensures.met c.render_parts.ensures.printed
