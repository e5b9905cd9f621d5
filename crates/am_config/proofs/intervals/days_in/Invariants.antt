use Rattle.std.proofs.Common.{take}
use Rattle.serde_json.specs.View.{items_view}
use Rattle.am_json.specs.Decoding.{DecodeEach}
use Rattle.am_hours.specs.Reading.{days_of}
use Rattle.am_config.specs.Times.{IsRange}
use Rattle.am_config.specs.Collects.{Collects}
use Rattle.am_config.proofs.intervals.days_in.Given as goal

-- the ranges so far are those of the items so far
abbrev pub invariant-loop-index : goal.invariant-loop-index
invariant-loop-index l = Collects l.fn.faults l.faults (DecodeEach (IsRange days_of) (items_view (take l.index l.items)) l.ranges.items)
