-- Request: what a line asks, a line for each member.
use Rattle.std.specs.Prelude.{◌≡◌, ◌<◌, ◌≤◌, ◌&&◌, not, ℕ, Bool, true, false, List}
use Rattle.std.specs.Prelude.{[], ◌∷◌, Option, Some, None, IsSomeAnd, IsTrue, codes, if◌then◌else◌, is_some}
use Rattle.serde_json.specs.Data.{Data, Members, no_members, member}
use Rattle.serde_json.specs.Find.{as_null, as_object, as_str}
use Rattle.am_alerts.specs.AlertData.{alert_fault, alert_of}
use Rattle.am_alerts.specs.Matcher.{compare_texts}
use Rattle.am_alerts.specs.declared.labels.Label.{Label}
use Rattle.am_alerts.specs.declared.limits.TheConstants.{MAX_TIME}
use Rattle.am_json.specs.Configured.{DecodesToLabels, DecodesToMatcher, config_compares_texts}
use Rattle.am_json.specs.Decoding.{IsList, IsNumber, IsObject, IsText, Has, HasIf, HasOr}
use Rattle.am_json.specs.Read.{Excludes, has_only, number_in, duration_in}
use Rattle.am_json.specs.declared.reader.Mode.{Mode}
use Rattle.am_retry.specs.declared.outcome.Outcome.{Outcome}
use Rattle.am_retry.specs.declared.outcome.Outcome.TheVariants.{Delivered, Refused, Expired, Starved}
use Rattle.am_mute.specs.Silence.{silence_fault}
use Rattle.am_protocol.specs.Call.{call_text}
use Rattle.am_protocol.specs.Check.{DecodesToPart, part_compares_texts}
use Rattle.am_protocol.specs.Opening.{IsClockedOpening, IsOwnOpening, IsTheirOpening}
use Rattle.am_protocol.specs.Time.{IsEnd, IsNow, IsTime}
use Rattle.am_protocol.specs.declared.call.CallName.{CallName}
use Rattle.am_protocol.specs.declared.call.CallName.TheVariants as call
use Rattle.am_protocol.specs.declared.request.Finishing.{Finishing}
use Rattle.am_protocol.specs.declared.request.Insertion.{Insertion}
use Rattle.am_protocol.specs.declared.request.LabelsAt.{LabelsAt}
use Rattle.am_protocol.specs.declared.request.ListedInsert.{ListedInsert}
use Rattle.am_protocol.specs.declared.request.ListedInsert.TheVariants as listed
use Rattle.am_protocol.specs.declared.request.Loading.{Loading}
use Rattle.am_protocol.specs.declared.request.NamedGroup.{NamedGroup}
use Rattle.am_protocol.specs.declared.request.NamedRow.{NamedRow}
use Rattle.am_protocol.specs.declared.request.Noting.{Noting}
use Rattle.am_protocol.specs.declared.request.Reporting.{Reporting}
use Rattle.am_protocol.specs.declared.request.Silencing.{Silencing}
use Rattle.am_protocol.specs.declared.request.Timed.{Timed}
use Rattle.am_protocol.specs.declared.request.TheConstants.{MAX_POSITION}
use Rattle.am_protocol.specs.declared.request.Request.{Request}
use Rattle.am_protocol.specs.declared.request.Request.TheVariants as request

-- how a sending ended
abbrev pub outcome_word : Outcome → List ℕ
outcome_word Delivered = codes "delivered"
outcome_word Refused = codes "refused"
outcome_word Expired = codes "expired"
outcome_word Starved = codes "starved"

abbrev pub IsOutcome : Data → Outcome → Type 0
IsOutcome value outcome = as_str value ≡ Some (outcome_word outcome)

-- the position of an integration in its receiver
abbrev pub IsPosition : Data → ℕ → Type 0
IsPosition value position = IsNumber value position × (position ≤ MAX_POSITION)

-- the arguments of a call that has none: an object, in strict mode an empty one
abbrev pub HasNoArguments : Mode → Data → Type 0
HasNoArguments mode value = IsSomeAnd (as_object value) (λ members. IsTrue (has_only mode [] members))

-- the time of a call that has no other argument
pub record HasTimed (mode : Mode) (members : Members) (timed : Timed) : Type 0 where
  pub only : IsTrue (has_only mode (codes "now" ∷ []) members)
  pub now : Has IsNow (codes "now") members timed.now

abbrev pub DecodesToTimed : Mode → Data → Timed → Type 0
DecodesToTimed mode value timed = IsObject (HasTimed mode) value timed

-- a label set whose status is asked, at a time
pub record HasLabelsAt (mode : Mode) (members : Members) (asked : LabelsAt) : Type 0 where
  pub only : IsTrue (has_only mode (codes "now" ∷ codes "labels" ∷ []) members)
  pub now : Has IsNow (codes "now") members asked.now
  pub labels : Has (DecodesToLabels mode) (codes "labels") members asked.labels

abbrev pub DecodesToLabelsAt : Mode → Data → LabelsAt → Type 0
DecodesToLabelsAt mode value asked = IsObject (HasLabelsAt mode) value asked

-- the names of the arguments of an insert
abbrev pub insertion_names : List (List ℕ)
insertion_names = codes "now" ∷ codes "labels" ∷ codes "starts" ∷ codes "ends" ∷ []

-- an alert; without `starts` it starts at the time of the call, without `ends` it has no end
pub record HasInsertion (mode : Mode) (members : Members) (insertion : Insertion) : Type 0 where
  pub only : IsTrue (has_only mode insertion_names members)
  pub now : Has IsNow (codes "now") members insertion.now
  pub labels : List Label
  pub has_labels : Has (DecodesToLabels mode) (codes "labels") members labels
  pub starts : ℕ
  pub has_starts : HasOr IsTime insertion.now (codes "starts") members starts
  pub ends : Option ℕ
  pub has_ends : HasOr IsEnd None (codes "ends") members ends
  pub is : insertion.alert ≡ alert_of labels starts ends
  pub sound : alert_fault insertion.alert ≡ None

abbrev pub DecodesToInsertion : Mode → Data → Insertion → Type 0
DecodesToInsertion mode value insertion = IsObject (HasInsertion mode) value insertion

-- one of several inserts: an alert, or a value that is refused, which is none
abbrev pub DecodesToListed : Mode → Data → ListedInsert → Type 0
DecodesToListed mode value (listed.Read insertion) = DecodesToInsertion mode value insertion
DecodesToListed mode value (listed.Refused fault) = Excludes (DecodesToInsertion mode value) fault

-- the names of the arguments of a silence
abbrev pub silencing_names : List (List ℕ)
silencing_names = codes "now" ∷ codes "id" ∷ codes "matchers" ∷ codes "starts" ∷ codes "ends" ∷ []

-- a silence; without `starts` it starts at the time of the call
pub record HasSilencing (mode : Mode) (members : Members) (silencing : Silencing) : Type 0 where
  pub only : IsTrue (has_only mode silencing_names members)
  pub now : Has IsNow (codes "now") members silencing.now
  pub id : Has IsNumber (codes "id") members silencing.silence.id
  pub matchers : Has (IsList (DecodesToMatcher mode)) (codes "matchers") members silencing.silence.matchers
  pub starts : HasOr IsTime silencing.now (codes "starts") members silencing.silence.start
  pub ends : Has IsTime (codes "ends") members silencing.silence.end
  pub sound : silence_fault silencing.silence ≡ None

abbrev pub DecodesToSilencing : Mode → Data → Silencing → Type 0
DecodesToSilencing mode value silencing = IsObject (HasSilencing mode) value silencing

pub record HasReporting (mode : Mode) (members : Members) (reporting : Reporting) : Type 0 where
  pub only : IsTrue (has_only mode (codes "ticket" ∷ codes "integration" ∷ codes "outcome" ∷ []) members)
  pub ticket : Has IsNumber (codes "ticket") members reporting.ticket
  pub integration : Has IsPosition (codes "integration") members reporting.integration
  pub outcome : Has IsOutcome (codes "outcome") members reporting.outcome

abbrev pub DecodesToReporting : Mode → Data → Reporting → Type 0
DecodesToReporting mode value reporting = IsObject (HasReporting mode) value reporting

pub record HasNoting (mode : Mode) (members : Members) (noting : Noting) : Type 0 where
  pub only : IsTrue (has_only mode (codes "now" ∷ codes "ticket" ∷ codes "integration" ∷ []) members)
  pub now : Has IsNow (codes "now") members noting.now
  pub ticket : Has IsNumber (codes "ticket") members noting.ticket
  pub integration : Has IsPosition (codes "integration") members noting.integration

abbrev pub DecodesToNoting : Mode → Data → Noting → Type 0
DecodesToNoting mode value noting = IsObject (HasNoting mode) value noting

pub record HasFinishing (mode : Mode) (members : Members) (finishing : Finishing) : Type 0 where
  pub only : IsTrue (has_only mode (codes "now" ∷ codes "ticket" ∷ []) members)
  pub now : Has IsNow (codes "now") members finishing.now
  pub ticket : Has IsNumber (codes "ticket") members finishing.ticket

abbrev pub DecodesToFinishing : Mode → Data → Finishing → Type 0
DecodesToFinishing mode value finishing = IsObject (HasFinishing mode) value finishing

-- the labels of a group: an object without members for none
abbrev pub IsGroupLabels : Mode → Data → Option (List Label) → Type 0
IsGroupLabels mode value None = as_object value ≡ Some no_members
IsGroupLabels mode value (Some labels) = DecodesToLabels mode value labels

-- a group by the name of its route
pub record HasGroup (mode : Mode) (members : Members) (group : NamedGroup) : Type 0 where
  pub only : IsTrue (has_only mode (codes "route" ∷ codes "labels" ∷ []) members)
  pub route : Has IsText (codes "route") members group.route
  pub labels : Has (IsGroupLabels mode) (codes "labels") members group.labels

abbrev pub DecodesToGroup : Mode → Data → NamedGroup → Type 0
DecodesToGroup mode value group = IsObject (HasGroup mode) value group

-- the names of the members of a row
abbrev pub row_names : List (List ℕ)
row_names =
    codes "group" ∷ codes "receiver" ∷ codes "integration" ∷ codes "kind" ∷ codes "moment" ∷ codes "expiry"
    ∷ codes "firing" ∷ codes "resolved" ∷ []

-- a row of a log, by the names of its route, its receiver, which it may not name, and its integration
pub record HasRow (mode : Mode) (members : Members) (row : NamedRow) : Type 0 where
  pub only : IsTrue (has_only mode row_names members)
  pub group : Has (DecodesToGroup mode) (codes "group") members row.group
  pub receiver : HasIf IsText (codes "receiver") members row.receiver
  pub integration : Has IsPosition (codes "integration") members row.integration
  pub kind : Has IsText (codes "kind") members row.kind
  pub time : Has IsTime (codes "moment") members row.time
  pub expiry : Has IsTime (codes "expiry") members row.expiry
  pub firing : Has (IsList (DecodesToLabels mode)) (codes "firing") members row.firing.items
  pub resolved : Has (IsList (DecodesToLabels mode)) (codes "resolved") members row.resolved.items

abbrev pub DecodesToRow : Mode → Data → NamedRow → Type 0
DecodesToRow mode value row = IsObject (HasRow mode) value row

pub record HasLoading (mode : Mode) (members : Members) (loading : Loading) : Type 0 where
  pub only : IsTrue (has_only mode (codes "now" ∷ codes "row" ∷ []) members)
  pub now : Has IsNow (codes "now") members loading.now
  pub row : Has (DecodesToRow mode) (codes "row") members loading.row

abbrev pub DecodesToLoading : Mode → Data → Loading → Type 0
DecodesToLoading mode value loading = IsObject (HasLoading mode) value loading

-- the value of a call has the arguments of the request
abbrev pub IsCallOf : Mode → CallName → Data → Request → Type 0
IsCallOf mode call.Config value (request.Open x) = IsOwnOpening mode value x
IsCallOf mode call.Alertmanager value (request.Open x) = IsTheirOpening None value x
IsCallOf mode call.Open value (request.Open x) = IsClockedOpening mode value x
IsCallOf mode call.Insert value (request.Insert x) = DecodesToInsertion mode value x
IsCallOf mode call.Inserts value (request.Inserts xs) = IsList (DecodesToListed mode) value xs.items
IsCallOf mode call.Silence value (request.Silence x) = DecodesToSilencing mode value x
IsCallOf mode call.Begin value (request.Begin x) = DecodesToTimed mode value x
IsCallOf mode call.Report value (request.Report x) = DecodesToReporting mode value x
IsCallOf mode call.Note value (request.Note x) = DecodesToNoting mode value x
IsCallOf mode call.Finish value (request.Finish x) = DecodesToFinishing mode value x
IsCallOf mode call.Maintain value (request.Maintain x) = DecodesToTimed mode value x
IsCallOf mode call.RemoveEmptyGroups value (request.RemoveEmptyGroups x) = DecodesToTimed mode value x
IsCallOf mode call.Forget value (request.Forget x) = DecodesToTimed mode value x
IsCallOf mode call.Load value (request.Load x) = DecodesToLoading mode value x
IsCallOf mode call.NextDue value request.NextDue = HasNoArguments mode value
IsCallOf mode call.Outlook value (request.Outlook x) = DecodesToTimed mode value x
IsCallOf mode call.Status value (request.Status x) = DecodesToLabelsAt mode value x
IsCallOf mode call.Rows value request.Rows = HasNoArguments mode value
IsCallOf mode call.Groups value request.Groups = HasNoArguments mode value
IsCallOf mode call.Summary value request.Summary = HasNoArguments mode value
IsCallOf mode call.Tickets value request.Tickets = HasNoArguments mode value
IsCallOf mode call.TakeHistory value request.TakeHistory = HasNoArguments mode value
IsCallOf mode call.Check value (request.Check x) = DecodesToPart mode value x
IsCallOf mode name value asked = ⊥

-- a line that asks this by this call: an object whose one member has the name of the call
pub record IsRequestBy (mode : Mode) (line : Data) (name : CallName) (asked : Request) : Type 0 where
  pub value : Data
  pub object : as_object line ≡ Some (member (call_text name) value no_members)
  pub arguments : IsCallOf mode name value asked

-- a line that asks this
abbrev pub IsRequestIn : Mode → Data → Request → Type 0
IsRequestIn mode line asked = (name : CallName) × IsRequestBy mode line name asked

-- whether no matcher of what is asked needs a regex
abbrev pub needs_no_regex : Request → Bool
needs_no_regex (request.Open x) = config_compares_texts x.config
needs_no_regex (request.Silence x) = compare_texts x.silence.matchers
needs_no_regex (request.Check x) = part_compares_texts x
needs_no_regex asked = true

abbrev pub is_of_alertmanager : CallName → Bool
is_of_alertmanager call.Alertmanager = true
is_of_alertmanager call.Open = true
is_of_alertmanager name = false

-- whether what is asked by this call is never refused: a regex can be refused for its size, and a configuration of Alertmanager for
-- what can't be reproduced
abbrev pub is_never_refused : CallName → Request → Bool
is_never_refused name asked = not (is_of_alertmanager name) && needs_no_regex asked

-- a line that asks this, and is never refused
abbrev pub IsSureRequestIn : Mode → Data → Request → Type 0
IsSureRequestIn mode line asked =
    (name : CallName) × IsRequestBy mode line name asked × IsTrue (is_never_refused name asked)
