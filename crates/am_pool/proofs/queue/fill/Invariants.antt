use Rattle.std.proofs.Common.{◌≡◌, []}
use Rattle.crossbeam_queue.specs.Passes.{view, IsPassOf, ruled_capacity}
use Rattle.am_pool.specs.declared.limits.TheConstants.{ALL_PARTS}
use Rattle.am_pool.specs.Dealt.{hand}
use Rattle.am_pool.proofs.queue.fill.Given as goal

abbrev pub invariant-loop-number : goal.invariant-loop-number
invariant-loop-number g l = IsPassOf l.queue l.pass × (view l.pass ≡ hand ALL_PARTS l.number []) × (ruled_capacity l.queue ≡ l.count)
