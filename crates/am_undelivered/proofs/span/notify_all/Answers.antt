use Rattle.std.proofs.Common.{◌∙◌, ap, arith, slice_set}
use Rattle.std.proofs.lemmas.List.Edits.{map_over_more}
use Rattle.am_undelivered.specs.declared.recipient.Recipient.{Recipient}
use Rattle.am_undelivered.specs.Spans.{notified_by}
use Rattle.am_undelivered.proofs.span.notify_all.Goals as goal

pub loop-index-preserved : goal.loop-index-preserved
loop-index-preserved c =
    let ys = c.loop-index.recipients.items in
    let i = c.loop-index.index in
    ap (λ (r : Recipient). slice_set ys i r) c.notify.ensures
    ∙ map_over_more (notified_by c.args.flush.now c.args.labels.now c.args.fires) c.args.recipients.now.items ys i c.index_mut.result.now
    (omega arith) c.loop-index.invariant c.index_mut.ensures.value
