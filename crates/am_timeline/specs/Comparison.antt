-- Comparison: the notices that a rehearsal delivered, and when two rehearsals delivered the same.
use Rattle.std.specs.Prelude.{ℕ, List, [], ◌∷◌, ◌++◌, codes, decimal, string_bytes, IsPermutation, if◌then◌else◌}
use Rattle.std.specs.Cmp.Lexicographic.{slice_cmp}
use Rattle.std.specs.List.{flat_map}
use Rattle.std.specs.Option.{option_map_or}
use Rattle.std.specs.Ordering.{nat_cmp, ordering_then}
use Rattle.std.specs.declared.cmp.Ordering.{Ordering}
use Rattle.am_model.specs.Configured.{route_of}
use Rattle.am_model.specs.Notice.{NoticeData}
use Rattle.am_model.specs.declared.config.Config.{Config}
use Rattle.am_terms.specs.declared.event.Event.{Event}
use Rattle.am_timeline.specs.IntegrationName.{target_name}
use Rattle.am_timeline.specs.Playback.{PlaybackData, SentData, is_delivered, sent_of}
use Rattle.am_timeline.specs.Shown.{text_shown}
use Rattle.am_timeline.specs.Timeline.{alerts_text}
use Rattle.am_timeline.specs.declared.sent_notice.SentNotice.{SentNotice}

-- a notice that was delivered: when its sending ended, its receiver and integration, and its alerts, as they are printed
pub record DeliveredNotice : Type 0 where
  pub at : ℕ
  pub target : List ℕ
  pub alerts : List ℕ

-- the receiver and the integration that a notice is for
abbrev pub notice_target : Config → NoticeData → List ℕ
notice_target config n = text_shown (route_of config n.group).receiver ++ codes " " ++ target_name config n.group n.integration

-- the alerts that a notice says, those that fire and those that are resolved
abbrev pub notice_alerts : NoticeData → List ℕ
notice_alerts n = alerts_text (codes "; firing ") n.firing ++ alerts_text (codes "; resolved ") n.resolved

-- a notice whose sending ended, as a delivered one
abbrev pub as_delivered : Config → SentData → DeliveredNotice
as_delivered config s =
    record { at = s.report.ended; target = notice_target config s.notice; alerts = notice_alerts s.notice }

-- the same, if it was delivered
abbrev pub if_delivered : Config → SentData → List DeliveredNotice
if_delivered config s = if is_delivered s.outcome then as_delivered config s ∷ [] else []

-- the delivered notice whose sending came to its end by this, if there is one
abbrev pub delivered_by : PlaybackData → Event → List DeliveredNotice
delivered_by playback event = option_map_or (if_delivered playback.config) (sent_of playback event) []

-- the delivered notices of a rehearsal
abbrev pub delivered_notices : PlaybackData → List DeliveredNotice
delivered_notices playback = flat_map (delivered_by playback) playback.events

-- two rehearsals delivered the same notices at the same times, each as often, in whatever order
abbrev pub SameNotices : PlaybackData → PlaybackData → Type 0
SameNotices old new = IsPermutation (delivered_notices old) (delivered_notices new)

-- that two rehearsals delivered the same notices, of which there are so many
abbrev pub no_difference_text : ℕ → List ℕ
no_difference_text count = codes "no difference in " ++ decimal count ++ codes " notices\n"

-- a notice that is kept for a comparison, as a delivered one
abbrev pub notice_of : SentNotice → DeliveredNotice
notice_of n = record { at = n.at; target = string_bytes n.target; alerts = string_bytes n.alerts }

-- by target, then by alerts, then by time
abbrev pub notice_cmp : DeliveredNotice → DeliveredNotice → Ordering
notice_cmp a b =
    ordering_then (ordering_then (slice_cmp nat_cmp a.target b.target) (slice_cmp nat_cmp a.alerts b.alerts)) (nat_cmp a.at b.at)
