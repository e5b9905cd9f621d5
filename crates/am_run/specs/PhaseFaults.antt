-- PhaseFaults: the faults of a phase.
use Rattle.std.specs.Prelude.{◌≡◌, ◌≢◌, false, None}
use Rattle.am_run.specs.declared.phase_faults.PhaseFaults.{PhaseFaults}

-- nothing has gone wrong: no request for memory failed, and no call
abbrev pub HasNoFault : PhaseFaults → Type 0
HasNoFault faults = (faults.no_memory ≡ false) × (faults.first_refused ≡ None)

-- a call was refused by a limit, and nothing for lack of memory
abbrev pub EndsAsFull : PhaseFaults → Type 0
EndsAsFull faults = (faults.no_memory ≡ false) × (faults.first_refused ≢ None)
