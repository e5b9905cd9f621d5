use Rattle.std.proofs.Common.{◌≡◌, vec_len}
use Rattle.am_run.proofs.courier.couriers_for.Given as goal

abbrev pub invariant-loop : goal.invariant-loop
invariant-loop g l = vec_len l.couriers ≡ l.counter
