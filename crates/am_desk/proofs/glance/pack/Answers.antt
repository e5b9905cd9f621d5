use Rattle.std.proofs.Common.{arith}
use Rattle.am_desk.proofs.Packing.{fits}
use Rattle.am_desk.proofs.glance.pack.Goals as goal

pub overflow_add-result-2 : goal.overflow_add-result-2
overflow_add-result-2 c = omega (arith, fits c.args.limits.now c.args.glance c.requires.space c.requires.calls)
