-- Held: what the pointer of a handle owns.
use Rattle.std.specs.Prelude.{Option, Some, None}
use base.Fml.{Fml, ftrue}
use base.Stored.{Coded}
use denote.RawPtr.{Ptr}
use Rattle.std.specs.Box.Ownership.{box_owns}
use Rattle.std.specs.Coded.{coded_option}
use Rattle.std_heap.specs.contracts.Global as Heap
use Rattle.std_heap.specs.contracts.GlobalAllocator.TheImpl.{ghosts}
use Rattle.am_session.specs.contracts.service.Service.{the_row}

abbrev pub kept_coded : Coded (Option the_row.Denot)
kept_coded = coded_option the_row.coded

-- a handle of the heap, as each of them is
abbrev heap : Heap.the_row.Denot
heap = record { memory = record { seal = tt } }

-- a service in a block of the heap, and the right to free it; or nothing
abbrev pub held_owns : Ptr → Option the_row.Denot → Fml
held_owns at None = ftrue
held_owns at (Some service) = box_owns (ghosts.dealloc_token heap) the_row at service
