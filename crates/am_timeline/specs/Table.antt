-- Table: what each receiver got, a line for each.
use Rattle.std.specs.Prelude.{ℕ, Bool, false, not, ◌&&◌, ◌==◌, List, [], ◌++◌, codes, count_by, decimal, find, reverse, Option, Some, None}
use Rattle.std.specs.Prelude.{if◌then◌else◌}
use Rattle.std.specs.List.{flat_map}
use Rattle.std.specs.Option.{option_and_then, option_map_or}
use Rattle.std.specs.Str.{bytes_eq}
use Rattle.am_model.specs.declared.config.Config.{Config}
use Rattle.am_model.specs.declared.config.Receiver.{Receiver}
use Rattle.am_model.specs.Configured.{route_of}
use Rattle.am_terms.specs.declared.event.Event.{Event}
use Rattle.am_terms.specs.declared.event.Event.TheVariants.{Begun, Sent}
use Rattle.am_timeline.specs.Shown.{text_shown}
use Rattle.am_timeline.specs.Playback.{PlaybackData, SentData, is_delivered, sent_of}
use Rattle.am_terms.specs.TimeFormatData.{TimeFormatData}

-- whether a notice was for the receiver of this name
abbrev pub is_for : Config → List ℕ → SentData → Bool
is_for config name s = bytes_eq (route_of config s.notice.group).receiver name

-- whether a notice for the receiver of this name was delivered by this
abbrev pub delivers : PlaybackData → List ℕ → Event → Bool
delivers playback name event =
    option_map_or (λ s. is_for playback.config name s && is_delivered s.outcome) (sent_of playback event) false

-- whether the sending of a notice for the receiver of this name failed by this
abbrev pub fails : PlaybackData → List ℕ → Event → Bool
fails playback name event =
    option_map_or (λ s. is_for playback.config name s && not (is_delivered s.outcome)) (sent_of playback event) false

-- when the sending of a notice ended, if this is such an end
abbrev pub end_of : Event → Option ℕ
end_of (Begun begin) = None
end_of (Sent begin report) = Some report.ended

-- the time of an event, `none` where there is none
abbrev pub end_text : TimeFormatData → Option Event → List ℕ
end_text times event = option_map_or times.text (option_and_then end_of event) (codes "none")

-- how many of something there are
abbrev pub count_text : ℕ → List ℕ → List ℕ
count_text count word = decimal count ++ word ++ (if count == 1 then [] else codes "s")

-- how many notices a receiver got, and how many failed
unfoldable pub counts_text : PlaybackData → List ℕ → List ℕ
counts_text playback name =
    count_text (count_by (delivers playback name) playback.events) (codes " notice") ++ codes ", "
    ++ count_text (count_by (fails playback name) playback.events) (codes " failure")

-- when a receiver got its first notice, and when its last
unfoldable pub ends_text : PlaybackData → TimeFormatData → List ℕ → List ℕ
ends_text playback times name =
    codes ", first " ++ end_text times (find (delivers playback name) playback.events)
    ++ codes ", last " ++ end_text times (find (delivers playback name) (reverse playback.events))

-- a receiver
unfoldable pub receiver_line : PlaybackData → TimeFormatData → Receiver → List ℕ
receiver_line playback times r =
    codes "receiver " ++ text_shown r.name ++ codes ": " ++ counts_text playback r.name ++ ends_text playback times r.name ++ codes "\n"

-- table: an empty line, and the receivers in the configuration's order
abbrev pub table_text : PlaybackData → TimeFormatData → List ℕ
table_text playback times = codes "\n" ++ flat_map (receiver_line playback times) playback.config.receivers
