use Rattle.std.proofs.Common.{◌-◌, length, arith}
use Rattle.am_hours.proofs.Apart.{last-begins}
use Rattle.am_hours.proofs.joining.all_begin_by.Goals as goal

pub returns-in-len1-up : goal.returns-in-len1-up
returns-in-len1-up c =
    let xs = c.args.spans.now in
    last-begins xs (length xs - 1) _ c.args.t (omega arith) c.requires
