-- What the JSON value of a scenario decodes to, a line for each field.
use Rattle.std.specs.Prelude.{◌≡◌, ◌≤◌, ◌&&◌, ℕ, Bool, true, false, List, [], Option, Some, None, codes, length}
use Rattle.std.specs.List.{list_all}
use Rattle.serde_json.specs.Data.{Data, no_items, item, string, Members}
use Rattle.serde_json.specs.Find.{as_array, as_null, get_member}
use Rattle.serde_json.specs.Read.{read}
use Rattle.am_alerts.specs.AlertData.{AlertData, alert_fault}
use Rattle.am_alerts.specs.Matcher.{compare_texts}
use Rattle.am_alerts.specs.declared.limits.TheConstants.{MAX_DURATION}
use Rattle.am_json.specs.Configured.{DecodesToConfig, DecodesToLabels, DecodesToMatcher, config_compares_texts, most_matchers}
use Rattle.am_json.specs.Decoding.{IsFlag, IsList, IsNumber, IsObject, Has, HasNone, HasOr, answer_text}
use Rattle.am_json.specs.declared.reader.Mode.{Mode}
use Rattle.am_json.specs.declared.reader.Mode.TheVariants.{Lenient}
use Rattle.am_mute.specs.Silence.{SilenceData, silence_fault}
use Rattle.am_scenario.specs.declared.scenario.Lane.{Lane}
use Rattle.am_scenario.specs.declared.scenario.Phase.{Phase}
use Rattle.am_scenario.specs.declared.scenario.Scenario.{Scenario}
use Rattle.am_scenario.specs.declared.scenario.call.LaneCall.{LaneCall}
use Rattle.am_scenario.specs.declared.scenario.call.LaneCall.TheVariants.{Insert, Silence, Maintain}
use Rattle.am_scenario.specs.declared.scenario.script.ScriptedAnswer.{ScriptedAnswer}
use Rattle.am_scenario.specs.declared.scenario.script.Script.{Script}

-- an answer and how long its attempt takes, in milliseconds: an array of two
pub record DecodesToPlanned (value : Data) (planned : ScriptedAnswer) : Type 0 where
  pub takes : Data
  pub is : as_array value ≡ Some (item (string (answer_text planned.answer)) (item takes no_items))
  pub is_lasting : IsNumber takes planned.takes
  pub within : planned.takes ≤ MAX_DURATION

-- the fields of an object decode to a script
pub record HasScript (members : Members) (script : Script) : Type 0 where
  pub ticket : Has IsNumber (codes "ticket") members script.ticket
  pub integration : Has IsNumber (codes "integration") members script.integration
  pub answers : Has (IsList DecodesToPlanned) (codes "script") members script.answers.items

abbrev pub DecodesToScript : Data → Script → Type 0
DecodesToScript value script = IsObject HasScript value script

-- a time, or `null` for none
abbrev pub IsEnd : Data → Option ℕ → Type 0
IsEnd value None = as_null value ≡ Some tt
IsEnd value (Some end) = IsNumber value end

-- the fields of an object decode to an alert
pub record HasAlert (mode : Mode) (members : Members) (alert : AlertData) : Type 0 where
  pub labels : Has (DecodesToLabels mode) (codes "labels") members alert.labels
  pub starts : Has IsNumber (codes "starts") members alert.starts
  pub ends : HasOr IsEnd None (codes "ends") members alert.ends
  pub sound : alert_fault alert ≡ None

abbrev pub DecodesToAlert : Mode → Data → AlertData → Type 0
DecodesToAlert mode value alert = IsObject (HasAlert mode) value alert

-- the fields of an object decode to a silence
pub record HasSilence (mode : Mode) (members : Members) (silence : SilenceData) : Type 0 where
  pub id : Has IsNumber (codes "id") members silence.id
  pub matchers : Has (IsList (DecodesToMatcher mode)) (codes "matchers") members silence.matchers
  pub start : Has IsNumber (codes "start") members silence.start
  pub end : Has IsNumber (codes "end") members silence.end
  pub few : length silence.matchers ≤ most_matchers mode
  pub sound : silence_fault silence ≡ None

abbrev pub DecodesToSilence : Mode → Data → SilenceData → Type 0
DecodesToSilence mode value silence = IsObject (HasSilence mode) value silence

-- the fields of an object decode to one call
abbrev pub HasCall : Mode → Members → LaneCall → Type 0
HasCall mode members (Insert alert) = Has (DecodesToAlert mode) (codes "insert") members alert
    × HasNone (codes "silence") members × HasNone (codes "maintain") members
HasCall mode members (Silence silence) = Has (DecodesToSilence mode) (codes "silence") members silence
    × HasNone (codes "insert") members × HasNone (codes "maintain") members
HasCall mode members Maintain = HasNone (codes "insert") members × HasNone (codes "silence") members
    × (value : Data) × (get_member (codes "maintain") members ≡ Some value)

abbrev pub DecodesToCall : Mode → Data → LaneCall → Type 0
DecodesToCall mode value call = IsObject (HasCall mode) value call

abbrev pub DecodesToLane : Mode → Data → Lane → Type 0
DecodesToLane mode value lane = IsList (DecodesToCall mode) value lane.calls.items

-- the fields of an object decode to a phase
pub record HasPhase (mode : Mode) (members : Members) (phase : Phase) : Type 0 where
  pub at : Has IsNumber (codes "at") members phase.at
  pub flush : HasOr IsFlag false (codes "flush") members phase.flush
  pub lanes : HasOr (IsList (DecodesToLane mode)) [] (codes "lanes") members phase.lanes.items

abbrev pub DecodesToPhase : Mode → Data → Phase → Type 0
DecodesToPhase mode value phase = IsObject (HasPhase mode) value phase

-- the fields of an object decode to a scenario
pub record HasScenario (members : Members) (scenario : Scenario) : Type 0 where
  pub config : Has (DecodesToConfig Lenient) (codes "config") members scenario.config
  pub workers : HasOr IsNumber 2 (codes "workers") members scenario.workers
  pub scripts : HasOr (IsList DecodesToScript) [] (codes "answers") members scenario.scripts.items
  pub phases : Has (IsList (DecodesToPhase Lenient)) (codes "phases") members scenario.phases.items

abbrev pub DecodesToScenario : Data → Scenario → Type 0
DecodesToScenario value scenario = IsObject HasScenario value scenario

-- these bytes are the text of a JSON value that decodes to this scenario
pub record IsScenarioIn (input : List ℕ) (scenario : Scenario) : Type 0 where
  pub value : Data
  pub text : read input ≡ Some value
  pub decoded : DecodesToScenario value scenario

-- whether no matcher of a call needs a regex
abbrev pub call_compares_texts : LaneCall → Bool
call_compares_texts (Insert alert) = true
call_compares_texts (Silence silence) = compare_texts silence.matchers
call_compares_texts Maintain = true

-- the same of the calls of a lane
abbrev pub lane_compares_texts : Lane → Bool
lane_compares_texts lane = list_all call_compares_texts lane.calls.items

-- the same of the lanes of a phase
abbrev pub phase_compares_texts : Phase → Bool
phase_compares_texts phase = list_all lane_compares_texts phase.lanes.items

-- the same of a scenario: of its configuration and its phases
abbrev pub scenario_compares_texts : Scenario → Bool
scenario_compares_texts scenario =
    config_compares_texts scenario.config && list_all phase_compares_texts scenario.phases.items
