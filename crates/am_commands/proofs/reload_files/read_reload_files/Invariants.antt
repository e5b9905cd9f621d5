use Rattle.std.proofs.Common.{◌≡◌}
use Rattle.am_commands.proofs.reload_files.read_reload_files.Given as goal

-- nothing was written
abbrev pub invariant-loop-reload : goal.invariant-loop-reload
invariant-loop-reload g l = l.console.output ≡ l.fn.console.output
