use Rattle.std.proofs.Common.{◌∙◌, ◌<◌, ap, arith, length, sym, string_bytes}
use Rattle.std.specs.Option.{option_copied}
use Rattle.std.proofs.lemmas.Result.{IfOk-weaker}
use Rattle.am_undelivered.proofs.Lines.{all_lines, lines_more, lines_same}
use Rattle.am_undelivered.specs.Undelivered.{behind_empty_line}
use Rattle.am_undelivered.proofs.report.text_and_sets.Goals as goal
use Rattle.am_undelivered.proofs.report.text_and_sets.Goals.{in-Some-spans+in_ok-push_spans+in_ok-note_set, in_default-spans}

pub loop-labels-preserved : goal.loop-labels-preserved
loop-labels-preserved g c =
    let ps = c.args.playbacks.now in
    let times = g.C.TimeFormat.times c.args.clock.now in
    let all = c.sets-labels-items.result.now in
    let i = c.loop-labels.labels-index in
    let l = c.labels-item.result in
    let within : i < length all = omega arith in
    elim c.match-spans.branch [
      | in-Some-spans+in_ok-push_spans+in_ok-note_set w ↦
          ap string_bytes w.lines-is
          ∙ lines_more ps times all i l w.in-Some-spans.spans.now (string_bytes c.loop-labels.lines) (string_bytes w.push_spans.new.out) within c.labels-item.is
          (sym (c.in_ok-watches.ensures.spans l) ∙ sym c.spans.ensures ∙ ap option_copied w.in-Some-spans.is)
          w.in_ok-push_spans.ensures c.loop-labels.invariant
      | in_default-spans w ↦
          ap string_bytes w.lines-is
          ∙ lines_same ps times all i l (string_bytes c.loop-labels.lines) within c.labels-item.is
          (sym (c.in_ok-watches.ensures.spans l) ∙ sym c.spans.ensures ∙ ap option_copied w.in_default-spans.is)
          c.loop-labels.invariant
    ]

pub returns : goal.returns
returns g c =
    IfOk-weaker c.behind_empty_line.result _ _
    (λ text is.
    is ∙ ap behind_empty_line
    (all_lines c.args.playbacks.now (g.C.TimeFormat.times c.args.clock.now) c.sets-labels-items.result.now c.loop-labels.labels-index
    (string_bytes c.loop-labels.lines) (omega arith) (c.sets-labels-items.ensures ∙ c.in_ok-watches.ensures.sets) c.loop-labels.invariant))
    c.behind_empty_line.ensures
