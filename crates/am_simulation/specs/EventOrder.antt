-- EventOrder: what the events of a rehearsal say of its begins.
use Rattle.std.specs.Prelude.{ℕ, List, Option, Some, None}
use Rattle.std.specs.List.{filter_map}
use Rattle.am_terms.specs.declared.event.Event.{Event}
use Rattle.am_terms.specs.declared.event.Event.TheVariants.{Begun, Sent}

-- the index of an event's begin, if the event is a begin
abbrev pub begin_index_of : Event → Option ℕ
begin_index_of (Begun begin) = Some begin
begin_index_of (Sent begin report) = None

-- the indexes of the begins among events, in their order
abbrev pub begin_indices : List Event → List ℕ
begin_indices events = filter_map begin_index_of events
