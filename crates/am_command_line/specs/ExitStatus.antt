-- The statuses with which am-rehearse ends.
use Rattle.std.specs.Prelude.{ℕ}
use Rattle.am_command_line.specs.declared.exit_status.ExitStatus.{ExitStatus}
use Rattle.am_command_line.specs.declared.exit_status.ExitStatus.TheVariants as status

-- the number that the operating system is given
abbrev pub code_of : ExitStatus → ℕ
code_of status.Done = 0
code_of status.Unreadable = 1
code_of status.Rejected = 2
code_of status.NoMemory = 3
code_of status.Unwritable = 4
code_of status.Unmet = 5
code_of status.Differs = 6
