-- Log: what is kept of a history while its expired entries are found: the flushes, their notes, and the last entries.
use Rattle.std.specs.Prelude.{◌≡◌, ℕ, Bool, false, not, ◌&&◌, ◌||◌, ◌==◌, nat_eq, List, find, Option}
use Rattle.std.specs.HashMap.{get}
use Rattle.std.specs.HashSet.{contains}
use Rattle.std.specs.List.{list_any}
use Rattle.std.specs.Option.{option_map_or}
use Rattle.am_retry.specs.declared.outcome.Outcome.{Outcome}
use Rattle.am_model.specs.declared.group.GroupName.{GroupName}
use Rattle.am_model.specs.declared.record.Call.{Call}
use Rattle.am_model.specs.declared.record.Call.TheVariants.{Insert, Silence, Begin, Finish, Maintain, RemoveEmptyGroups, Forget, Load, Note}
use Rattle.am_model.specs.declared.record.Record.{Record}
use Rattle.am_model.specs.Finish.{is_delivered}
use Rattle.am_model.specs.look_back.Past.{Past, is_flush, is_flush_of, time_at, notices_in, was_noted}
use Rattle.am_model.specs.Notice.{NoticeData, is_nothing}
use Rattle.am_model.specs.State.{same_name}
use Rattle.am_model.specs.Ticket.{outcome_of}
use Rattle.am_timeline.specs.declared.logbook.log.Log.{Log}
use Rattle.am_timeline.specs.declared.logbook.log.LogKey.{LogKey}
use Rattle.am_timeline.specs.declared.logbook.log.NoteKey.{NoteKey}
use Rattle.am_timeline.specs.LastEntry.{last_entry}

-- whether two keys are of one group and integration
abbrev pub same_log_key : LogKey → LogKey → Bool
same_log_key a b = same_name a.group b.group && (a.integration == b.integration)

-- whether two keys are of one flush and integration
abbrev pub same_note_key : NoteKey → NoteKey → Bool
same_note_key a b = (a.number == b.number) && (a.integration == b.integration)

-- whether the integration of a notice succeeded, where these integrations were noted
abbrev pub has_success : (ℕ → Bool) → List (ℕ × Outcome) → NoticeData → Bool
has_success noted outcomes n = noted n.integration || is_nothing n || is_delivered (outcome_of outcomes n.integration)

-- whether a finish logs a success of an integration, by the notices of its flush
abbrev pub is_logged : (ℕ → Bool) → List (ℕ × Outcome) → ℕ → List NoticeData → Bool
is_logged noted outcomes integration notices =
    list_any (λ n. (n.integration == integration) && has_success noted outcomes n) notices && not (noted integration)

-- whether a finish logs one for a group, by the record of its flush
abbrev pub finish_logs : (ℕ → Bool) → List (ℕ × Outcome) → GroupName → ℕ → Record → Bool
finish_logs noted outcomes name integration r =
    is_flush_of name r.reply && is_logged noted outcomes integration (notices_in r.reply)

-- whether a call logs a success of an integration for a group, by the record of each flush, and by what was noted for it
abbrev pub logs_by : (ℕ → Option Record) → (ℕ → ℕ → Bool) → GroupName → ℕ → Call → Bool
logs_by flush noted name integration (Insert now alert) = false
logs_by flush noted name integration (Silence now id matchers start end) = false
logs_by flush noted name integration (Begin now) = false
logs_by flush noted name integration (Finish now number outcomes) =
    option_map_or (finish_logs (noted number) outcomes name integration) (flush number) false
logs_by flush noted name integration (Maintain now) = false
logs_by flush noted name integration (RemoveEmptyGroups now) = false
logs_by flush noted name integration (Forget now) = false
logs_by flush noted name integration (Load now row) = false
logs_by flush noted name integration (Note now number i outcome) =
    option_map_or (λ r. is_flush_of name r.reply) (flush number) false && (i == integration)

-- a log has what looking back finds in a past
pub record Follows (log : Log) (past : Past) : Type 0 where
  pub begun : (number : ℕ) → get nat_eq log.begun number ≡ find (λ r. is_flush number r.reply) past
  pub noted : (number integration : ℕ)
      → contains same_note_key log.noted (record { number = number; integration = integration }) ≡ was_noted number integration past
  pub logged : (name : GroupName) (integration : ℕ)
      → get same_log_key log.logged (record { group = name; integration = integration }) ≡ last_entry name integration past
  pub clock : log.clock ≡ time_at past
