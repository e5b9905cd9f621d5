-- Changed: the events of a rehearsal, without the flushes that say the same as the flush before of their group.
use Rattle.std.specs.Prelude.{ℕ, Bool, true, not, ◌||◌, List, [], filter, is_some, nat_lt, slice_get}
use Rattle.std.specs.Option.{option_map_or}
use Rattle.am_terms.specs.declared.event.Event.{Event}
use Rattle.am_terms.specs.declared.event.Event.TheVariants.{Begun, Sent}
use Rattle.am_timeline.specs.declared.runs.Run.{Run}
use Rattle.am_timeline.specs.Playback.{PlaybackData}
use Rattle.am_timeline.specs.Runs.{Fold, flushes_by, folds_of, run_at}
use Rattle.am_terms.specs.TimeFormatData.{TimeFormatData}

-- what becomes of each begin, where flushes of one group that follow each other with the same lines are a run
abbrev pub begins_compared : PlaybackData → TimeFormatData → List Fold
begins_compared playback times = folds_of [] (flushes_by true playback times)

-- whether an event says something new: a notice does, and a begin that has other lines than the flush before of its group
abbrev pub is_change : List Fold → Event → Bool
is_change folds (Begun begin) = option_map_or (λ f. f.is_first) (slice_get folds begin) true
is_change folds (Sent begin report) = true

-- changed: the rehearsal with the events that say something new
abbrev pub changed : PlaybackData → TimeFormatData → PlaybackData
changed playback times = record playback { events = filter (is_change (begins_compared playback times)) playback.events }

-- the same, by where the runs of so many flushes begin, and the runs
abbrev pub is_new : ℕ → List ℕ × List Run → Event → Bool
is_new count folds (Begun begin) = not (nat_lt begin count) || is_some (run_at begin folds.0 folds.1)
is_new count folds (Sent begin report) = true
