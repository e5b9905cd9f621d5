use Rattle.std.proofs.Common.{◌≡◌, ◌<◌, [], ◌∷◌, ◌++◌, length, take, sym, ap, ◌∙◌, arith}
use Rattle.std.proofs.lemmas.List.{map_push, take_all}
use Rattle.am_alerts.specs.declared.labels.Label.{Label}
use Rattle.am_alerts.specs.Labels.{label_in, labels_in, only_named, occurs_in}
use Rattle.am_alerts.proofs.Finding.{filter_more_kept, filter_more_left}
use Rattle.am_alerts.proofs.labels.only_named.Goals as goal
use Rattle.am_alerts.proofs.labels.only_named.Goals.{then-has_text+in_ok-push, else-has_text}

pub loop-i-preserved : goal.loop-i-preserved
loop-i-preserved c =
    let kept = λ (l : Label). occurs_in l.name c.args.names.now in
    let label : Label = label_in c.pair-pair.result in
    let within : c.loop-i.i < length c.args.labels.now = omega (arith, c.loop-i-test.true, c.len-i-end.ensures.length) in
    let before : labels_in c.loop-i.kept.items ≡ only_named c.args.names.now (take c.loop-i.i c.args.labels.now) = c.loop-i.invariant in
    elim c.if-has_text.branch [
      | then-has_text+in_ok-push w ↦
          let step = filter_more_kept kept c.args.labels.now c.loop-i.i label label within (c.pair-pair.ensures label)
          (sym c.has_text.ensures ∙ w.if-has_text.true) in
          rw (w.kept-is, w.in_ok-push.ensures.items) (map_push label_in c.loop-i.kept.items c.pair-pair.result
          ∙ ap (λ r. r ++ label ∷ []) before ∙ sym step)
      | else-has_text w ↦
          let step = filter_more_left kept c.args.labels.now c.loop-i.i label label within (c.pair-pair.ensures label)
          (sym c.has_text.ensures ∙ w.if-has_text.false) in
          rw w.kept-is (before ∙ sym step)
    ]

pub returns-clause-kept : goal.returns-clause-kept
returns-clause-kept c =
    let before : labels_in c.loop-i.kept.items ≡ only_named c.args.names.now (take c.loop-i.i c.args.labels.now) = c.loop-i.invariant in
    before ∙ ap (λ ls. only_named c.args.names.now ls)
    (take_all c.loop-i.i c.args.labels.now (omega (arith, c.loop-i-test.false, c.len-i-end.ensures.length)))
