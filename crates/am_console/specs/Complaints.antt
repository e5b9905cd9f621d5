-- Complaints: with which statuses a command ends that complains.
use Rattle.std.specs.Prelude.{Bool, true, false}
use Rattle.am_command_line.specs.declared.exit_status.ExitStatus.{ExitStatus}
use Rattle.am_command_line.specs.declared.exit_status.ExitStatus.TheVariants as status

-- whether what a file or the command line says is rejected, or there was no memory to say so
abbrev pub is_rejection : ExitStatus → Bool
is_rejection status.Done = false
is_rejection status.Unreadable = false
is_rejection status.Rejected = true
is_rejection status.NoMemory = true
is_rejection status.Unwritable = false
is_rejection status.Unmet = false
is_rejection status.Differs = false

-- whether it is one of a rejection, or a file isn't read. No complaint ends with another status
abbrev pub is_complaint : ExitStatus → Bool
is_complaint status.Done = false
is_complaint status.Unreadable = true
is_complaint status.Rejected = true
is_complaint status.NoMemory = true
is_complaint status.Unwritable = false
is_complaint status.Unmet = false
is_complaint status.Differs = false
