-- Record: the JSON tokens of the records of a history, and of what is reported on notices.
use Rattle.std.specs.Prelude.{ℕ, List, [], ◌∷◌, ◌++◌, codes, Option, None, Some}
use Rattle.json.specs.Token.{Token, begin_array, end_array, key, string, null}
use Rattle.am_alerts.specs.AlertData.{AlertData}
use Rattle.am_alerts.specs.declared.matcher.MatcherParts.{MatcherParts}
use Rattle.am_alerts.specs.Matcher.{operator_text}
use Rattle.am_retry.specs.declared.outcome.Outcome.{Outcome}
use Rattle.am_model.specs.declared.config.Config.{Config}
use Rattle.am_model.specs.declared.record.Call.{Call}
use Rattle.am_model.specs.declared.record.Call.TheVariants as call
use Rattle.am_model.specs.declared.record.Record.{Record}
use Rattle.am_model.specs.declared.views.RowView.{RowView}
use Rattle.am_protocol.specs.Answer.{number_member, object, array, alert_members}
use Rattle.am_protocol.specs.Reply.{named, reply_tokens}
use Rattle.am_protocol.specs.Request.{outcome_word}
use Rattle.am_protocol.specs.View.{row_tokens}

-- how a sending ended, or `null` where nothing was reported
abbrev pub outcome_tokens : Option Outcome → List Token
outcome_tokens None = null ∷ []
outcome_tokens (Some outcome) = string (outcome_word outcome) ∷ []

-- what was reported on the notice of an integration
abbrev pub report_tokens : ℕ → Option Outcome → List Token
report_tokens integration outcome =
    object (number_member (codes "integration") integration ++ key (codes "outcome") ∷ outcome_tokens outcome)

-- what was reported on one of the integrations of a ticket
abbrev pub recorded_tokens : ℕ × Outcome → List Token
recorded_tokens report = report_tokens report.0 (Some report.1)

-- a matcher: its name, its operator and its value
abbrev pub matcher_tokens : MatcherParts → List Token
matcher_tokens m = begin_array ∷ string m.name ∷ string (operator_text m.op) ∷ string m.value ∷ end_array ∷ []

-- a call that has a time alone
abbrev pub timed_tokens : List ℕ → ℕ → List Token
timed_tokens name now = named name (number_member (codes "now") now)

abbrev pub insert_tokens : ℕ → AlertData → List Token
insert_tokens now alert = named (codes "insert") (number_member (codes "now") now ++ alert_members alert)

abbrev pub silence_tokens : ℕ → ℕ → List MatcherParts → ℕ → ℕ → List Token
silence_tokens now id matchers starts ends =
    named (codes "silence")
    (number_member (codes "now") now ++ number_member (codes "id") id ++ number_member (codes "starts") starts
    ++ number_member (codes "ends") ends ++ key (codes "matchers") ∷ array matcher_tokens matchers)

-- a finish, with the reports that its ticket had
abbrev pub finish_tokens : ℕ → ℕ → List (ℕ × Outcome) → List Token
finish_tokens now ticket outcomes =
    named (codes "finish")
    (number_member (codes "now") now ++ number_member (codes "ticket") ticket
    ++ key (codes "reports") ∷ array recorded_tokens outcomes)

abbrev pub note_tokens : ℕ → ℕ → ℕ → List Token
note_tokens now ticket integration =
    named (codes "note")
    (number_member (codes "now") now ++ number_member (codes "ticket") ticket ++ number_member (codes "integration") integration)

-- a load, with the row that was handed in
abbrev pub load_tokens : Config → ℕ → RowView → List Token
load_tokens config now row = named (codes "load") (number_member (codes "now") now ++ key (codes "row") ∷ row_tokens config row)

-- a call, as the line that asks for it. In a legal history the outcome of a note is always that the notice was delivered
abbrev pub call_tokens : Config → Call → List Token
call_tokens config (call.Insert now alert) = insert_tokens now alert
call_tokens config (call.Silence now id matchers start end) = silence_tokens now id matchers start end
call_tokens config (call.Begin now) = timed_tokens (codes "begin") now
call_tokens config (call.Finish now number outcomes) = finish_tokens now number outcomes
call_tokens config (call.Maintain now) = timed_tokens (codes "maintain") now
call_tokens config (call.RemoveEmptyGroups now) = timed_tokens (codes "remove_empty_groups") now
call_tokens config (call.Forget now) = timed_tokens (codes "forget") now
call_tokens config (call.Load now row) = load_tokens config now row
call_tokens config (call.Note now number integration outcome) = note_tokens now number integration

-- an accepted call and its reply
abbrev pub record_tokens : Config → Record → List Token
record_tokens config r =
    object (key (codes "call") ∷ call_tokens config r.call ++ key (codes "reply") ∷ reply_tokens config r.reply)
