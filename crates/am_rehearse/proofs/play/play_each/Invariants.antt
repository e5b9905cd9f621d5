use Rattle.std.proofs.Common.{ℕ, List, cond}
use Rattle.am_console.specs.declared.files.PaintedOutput.{PaintedOutput}
use Rattle.am_rehearse.proofs.Tallies.{Tallied}
use Rattle.am_rehearse.proofs.play.play_each.Given as goal

-- what an output took
abbrev taken : PaintedOutput → List ℕ
taken output = cond output.is_colored output.io_trace.moved output.output.io_trace.moved

-- the status so far says of the stories so far how they ended
abbrev pub invariant-loop-path : goal.invariant-loop-path
invariant-loop-path g l =
    Tallied l.run.request.now l.run.changes l.run.is_alone l.path-index l.tally.status (taken l.fn.console.output) (taken l.console.output)
