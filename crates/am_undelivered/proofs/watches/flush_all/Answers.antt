use Rattle.std.proofs.Common.{◌∙◌, ◌||◌, ap, sym, take, arith, if◌then◌else◌}
use Rattle.std.specs.HashMap.{get}
use Rattle.std.specs.Option.{option_map}
use Rattle.am_alerts.specs.Labels.{same_label_set}
use Rattle.am_undelivered.proofs.Facts.{among-more}
use Rattle.am_undelivered.proofs.Step.{flush_step}
use Rattle.am_undelivered.specs.Sets.{is_among}
use Rattle.am_undelivered.specs.Spans.{flushed}
use Rattle.am_undelivered.proofs.watches.flush_all.Goals as goal

pub loop-labels-preserved : goal.loop-labels-preserved
loop-labels-preserved c =
    λ s.
    let f = c.args.flush.now in
    let ms = c.args.members.now in
    let i = c.loop-labels.labels-index in
    let l = c.labels-item.result in
    let old = get same_label_set c.args.spans.now s in
    c.flush_set.ensures s
    ∙ flush_step f s (is_among s (take i ms)) (same_label_set l s) (get same_label_set c.loop-labels.spans s) old (c.loop-labels.invariant s)
    ∙ ap (λ b. if is_among s (take i ms) || b then option_map (flushed f s) old else old)
    (ap (λ k. same_label_set k s) c.labels-item.is)
    ∙ ap (λ b. if b then option_map (flushed f s) old else old) (sym (among-more s ms i l (omega arith)))
