use Rattle.std.proofs.Common.{◌<◌, arith, length}
use Rattle.std.specs.HashMap.{get}
use Rattle.am_alerts.specs.Labels.{same_label_set}
use Rattle.am_undelivered.proofs.Parts.{part_sets, part_spans}
use Rattle.am_undelivered.proofs.watches.Watches.of.Goals as goal

pub loop-part-preserved : goal.loop-part-preserved
loop-part-preserved c =
    let ps = c.args.playbacks.now in
    let i = c.loop-part.part in
    let p = c.index-playbacks-part.result in
    let within : i < length ps = omega arith in
    record {
      spans = λ labels.
          part_spans i ps p labels (get same_label_set c.loop-part.watches.spans labels) (get same_label_set c.add_part.new.self.spans labels) _
          within c.index-playbacks-part.is (c.in_ok-add_part.ensures.spans labels) (c.loop-part.invariant.spans labels);
      sets = part_sets i ps p c.loop-part.watches.sets c.add_part.new.self.sets _
          within c.index-playbacks-part.is c.in_ok-add_part.ensures.sets c.loop-part.invariant.sets;
      before = c.in_ok-add_part.ensures.before;
    }
