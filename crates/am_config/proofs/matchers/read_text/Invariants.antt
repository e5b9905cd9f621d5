use Rattle.std.proofs.Common.{map, string_bytes, take}
use Rattle.am_config.specs.Collects.{Adds, Collects}
use Rattle.am_config.specs.Matchers.{AreWritten}
use Rattle.am_config.proofs.matchers.read_text.Given as goal

-- the matchers so far are those of the texts so far
abbrev pub invariant-loop-written : goal.invariant-loop-written
invariant-loop-written l =
    Collects l.fn.faults l.faults (Adds l.fn.matchers.items l.matchers.items (AreWritten (map string_bytes (take l.written-index l.all))))
