-- Tally: what a receiver got by some events.
use Rattle.std.specs.Prelude.{ℕ, ◌+◌, ◌<◌, List, ◌++◌, codes, count_by, find, reverse, Some, None, if◌then◌else◌, unwrap_or}
use Rattle.std.specs.Borrow.{Bor}
use Rattle.std.specs.HashMap.{HashMap, get_by}
use Rattle.std.specs.Option.{option_and_then, option_map_or}
use Rattle.std.specs.Str.{bytes_eq}
use Rattle.am_model.specs.declared.config.Config.{Config}
use Rattle.am_terms.specs.declared.event.Event.{Event}
use Rattle.am_timeline.specs.declared.tally.Tally.{Tally}
use Rattle.am_timeline.specs.Playback.{PlaybackData, SentData, is_delivered, sent_of}
use Rattle.am_terms.specs.TimeFormatData.{TimeFormatData}
use Rattle.am_timeline.specs.Shown.{text_shown}
use Rattle.am_timeline.specs.Table.{count_text, delivers, end_of, fails, is_for}

-- what a receiver got: how many notices were delivered, how many failed, and when the first and the last delivered one ended
abbrev pub tally_of : PlaybackData → List ℕ → List Event → Tally
tally_of playback name events = record {
  delivered = count_by (delivers playback name) events;
  failed = count_by (fails playback name) events;
  first = option_and_then end_of (find (delivers playback name) events);
  last = option_and_then end_of (find (delivers playback name) (reverse events));
}

-- the tally of a receiver that got nothing
abbrev pub no_tally : Tally
no_tally = record { delivered = 0; failed = 0; first = None; last = None }

-- a tally with a notice that was delivered at this time
abbrev pub with_delivered : ℕ → Tally → Tally
with_delivered ended t = record {
  delivered = t.delivered + 1;
  failed = t.failed;
  first = Some (unwrap_or t.first ended);
  last = Some ended;
}

-- a tally with a notice that failed
abbrev pub with_failed : Tally → Tally
with_failed t = record { delivered = t.delivered; failed = t.failed + 1; first = t.first; last = t.last }

-- a tally with a notice whose sending ended
abbrev pub with_notice : SentData → Tally → Tally
with_notice s t = if is_delivered s.outcome then with_delivered s.report.ended t else with_failed t

-- the tally of the receiver of this name with a notice, if that is for it
abbrev pub with_sent : Config → List ℕ → SentData → Tally → Tally
with_sent config name s t = if is_for config name s then with_notice s t else t

-- the same with the notice whose sending came to its end by an event, if there is one
abbrev pub with_event : PlaybackData → List ℕ → Event → Tally → Tally
with_event playback name event t = option_map_or (λ s. with_sent playback.config name s t) (sent_of playback event) t

-- the tally of the receiver of this name in a map by names
abbrev pub tally_in : {S : Type 0} → HashMap (Bor (List ℕ)) Tally S → List ℕ → Tally
tally_in tallies name = unwrap_or (get_by (λ k. bytes_eq name k.now) tallies) no_tally

-- the counts of a tally can grow up to a limit
abbrev pub CanGrow : ℕ → Tally → Type 0
CanGrow limit t = (t.delivered < limit) × (t.failed < limit)

-- how many notices a receiver got, and how many failed
unfoldable pub counts_of : Tally → List ℕ
counts_of t = count_text t.delivered (codes " notice") ++ codes ", " ++ count_text t.failed (codes " failure")

-- when a receiver got its first notice, and when its last
unfoldable pub ends_of : TimeFormatData → Tally → List ℕ
ends_of times t =
    codes ", first " ++ option_map_or times.text t.first (codes "none") ++ codes ", last " ++ option_map_or times.text t.last (codes "none")

-- the line of the receiver of this name, which got this
unfoldable pub tally_line : TimeFormatData → List ℕ → Tally → List ℕ
tally_line times name t = codes "receiver " ++ text_shown name ++ codes ": " ++ counts_of t ++ ends_of times t ++ codes "\n"
