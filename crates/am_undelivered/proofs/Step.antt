-- One more label set to which a flush is added.
use Rattle.std.proofs.Common.{◌≡◌, ◌∙◌, Bool, true, false, ◌||◌, List, Option, ap, if◌then◌else◌}
use Rattle.std.specs.Option.{option_map}
use Rattle.am_alerts.specs.declared.labels.Label.{Label}
use Rattle.am_undelivered.specs.Spans.{FlushData, SpansData, flushed}
use Rattle.am_undelivered.proofs.Again.{flushed_twice}

-- the spans of a label set where the flush was added, if it was among some, and then if it is the next one
pub flush_step : (f : FlushData) (labels : List Label) (among is_next : Bool) (now old : Option SpansData)
    → now ≡ (if among then option_map (flushed f labels) old else old)
    → (if is_next then option_map (flushed f labels) now else now)
    ≡ (if among || is_next then option_map (flushed f labels) old else old)
flush_step f labels true true now old is = ap (option_map (flushed f labels)) is ∙ flushed_twice f labels old
flush_step f labels true false now old is = is
flush_step f labels false true now old is = ap (option_map (flushed f labels)) is
flush_step f labels false false now old is = is
