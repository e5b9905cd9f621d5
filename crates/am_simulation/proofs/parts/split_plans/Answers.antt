use Rattle.std.proofs.Common.{arith}
use Rattle.std.proofs.lemmas.List.Sums.{prefix_len-le-length}
use Rattle.am_simulation.specs.Parts.{is_before}
use Rattle.am_simulation.proofs.parts.split_plans.Goals as goal

pub split_off-requires : goal.split_off-requires
split_off-requires c =
    omega (arith, c.count_before-count.ensures, c.as_slice.ensures.len, prefix_len-le-length (is_before c.args.at) c.as_slice.result.now)
