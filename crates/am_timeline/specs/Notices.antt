-- Notices: the lines of the timeline on notices alone, with those that failed or without.
use Rattle.std.specs.Prelude.{ℕ, Bool, ◌||◌, List, [], if◌then◌else◌}
use Rattle.std.specs.List.{flat_map}
use Rattle.std.specs.Option.{option_map_or}
use Rattle.am_terms.specs.declared.event.Event.{Event}
use Rattle.am_timeline.specs.Playback.{PlaybackData, SentData, is_delivered, sent_of}
use Rattle.am_timeline.specs.Timeline.{sent_line}
use Rattle.am_terms.specs.TimeFormatData.{TimeFormatData}

-- the line on a notice, if it was delivered or failures are wanted
abbrev pub line_if_wanted : Bool → PlaybackData → TimeFormatData → SentData → List ℕ
line_if_wanted failures playback times s = if failures || is_delivered s.outcome then sent_line playback times s else []

-- the line on the notice whose sending came to its end by this, if there is one that is wanted
abbrev pub notice_of_event : Bool → PlaybackData → TimeFormatData → Event → List ℕ
notice_of_event failures playback times event =
    option_map_or (line_if_wanted failures playback times) (sent_of playback event) []

-- notices: the lines on all notices, or on the delivered ones
abbrev pub notices_text : Bool → PlaybackData → TimeFormatData → List ℕ
notices_text failures playback times = flat_map (notice_of_event failures playback times) playback.events
