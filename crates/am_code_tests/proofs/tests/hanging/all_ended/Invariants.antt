use Rattle.std.proofs.Common.{vec_len}
use Rattle.am_code_tests.proofs.tests.hanging.all_ended.Given as goal

abbrev pub decreases-loop-rt : goal.decreases-loop-rt
decreases-loop-rt g l = vec_len l.left
