use Rattle.am_alerts.proofs.Durations.{all_digits}
use Rattle.am_alerts.proofs.duration.first_part.Goals as goal

pub count_of-count-requires : goal.count_of-count-requires
count_of-count-requires c = all_digits c.split_digits.result.0.now c.args.text.now c.split_digits.ensures.digits
