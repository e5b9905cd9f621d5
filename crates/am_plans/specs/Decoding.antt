-- What the JSON values of a story's alerts, silences and outages decode to, a line for each field.
use Rattle.std.specs.Prelude.{◌≡◌, ◌<◌, ◌≤◌, ◌&&◌, ℕ, Bool, true, false, List, [], ◌∷◌, Option, Some}
use Rattle.std.specs.Prelude.{codes, find, length, nat_le, nat_lt, IfSome, IsTrue, MatchOption}
use Rattle.std.specs.List.{list_all, list_any}
use Rattle.std.specs.Option.{option_map_or}
use Rattle.std.specs.Str.{bytes_eq}
use Rattle.serde_json.specs.Data.{Data, Members}
use Rattle.serde_json.specs.Find.{get_member}
use Rattle.am_json.specs.Configured.{DecodesToLabels, DecodesToMatcher}
use Rattle.am_alerts.specs.declared.limits.TheConstants.{MAX_MATCHERS}
use Rattle.am_json.specs.Decoding.{IsAnswer, IsDuration, IsList, IsNumber, IsObject, IsText, Has, HasIf, HasNone, HasOr}
use Rattle.am_json.specs.Read.{has_only, is_refusal}
use Rattle.am_json.specs.declared.fault.InputFault.{InputFault}
use Rattle.am_model.specs.declared.config.Config.{Config}
use Rattle.am_model.specs.declared.config.Receiver.{Receiver}
use Rattle.am_model.specs.declared.config.TheConstants.{MAX_INTEGRATIONS}
use Rattle.am_json.specs.declared.reader.Mode.{Mode}
use Rattle.am_plans.specs.declared.alert.AlertItem.{AlertItem}
use Rattle.am_plans.specs.declared.silence.SilenceItem.{SilenceItem}
use Rattle.am_plans.specs.declared.span.Span.{Span}
use Rattle.am_terms.specs.declared.rehearsal.Outage.{Outage}
use Rattle.am_retry.specs.declared.outcome.Answer.TheVariants.{Again}

-- a rejection denies this; `NoMemory` says nothing about it
abbrev pub Denies : Bool → InputFault → Type 0
Denies so fault = IsTrue (is_refusal fault) → so ≡ false

-- these fields decode to a span: from the start of the story by default, and to a later time, or without an end
pub record DecodesToSpan (members : Members) (span : Span) : Type 0 where
  pub from : HasOr IsDuration 0 (codes "from") members span.from
  pub to : HasIf IsDuration (codes "to") members span.to
  pub later : IfSome span.to (λ to. span.from < to)

-- the fields of an item of `spans` decode to a span
pub record HasSpan (mode : Mode) (members : Members) (span : Span) : Type 0 where
  pub only : IsTrue (has_only mode (codes "from" ∷ codes "to" ∷ []) members)
  pub decoded : DecodesToSpan members span

-- an object that decodes to a span
abbrev pub IsSpan : Mode → Data → Span → Type 0
IsSpan mode value span = IsObject (HasSpan mode) value span

-- whether spans follow a time: each begins when the one before it has ended, or later. None has ended where the time is missing
abbrev pub follow : Option ℕ → List Span → Bool
follow ended [] = true
follow ended (span ∷ spans) = option_map_or (λ end. nat_le end span.from) ended false && follow span.to spans

-- the spans of an alert: those of its list, which follow each other and exclude `from` and `to`; or else the one that it has itself
abbrev pub AreSpansIn : Mode → Members → List Span → Type 0
AreSpansIn mode members spans = MatchOption (get_member (codes "spans") members)
    ((span : Span) × DecodesToSpan members span × (spans ≡ span ∷ []))
    (λ value. IsList (IsSpan mode) value spans × HasNone (codes "from") members × HasNone (codes "to") members
    × IsTrue (follow (Some 0) spans))

-- the fields of an object decode to an alert
pub record HasAlert (mode : Mode) (members : Members) (alert : AlertItem) : Type 0 where
  pub only : IsTrue (has_only mode (codes "labels" ∷ codes "from" ∷ codes "to" ∷ codes "spans" ∷ []) members)
  pub labels : Has (DecodesToLabels mode) (codes "labels") members alert.labels
  pub spans : AreSpansIn mode members alert.spans.items

abbrev pub DecodesToAlert : Mode → Data → AlertItem → Type 0
DecodesToAlert mode value alert = IsObject (HasAlert mode) value alert

-- the fields of an object decode to a silence, which is set when its span begins, unless `set` has another time
pub record HasSilence (mode : Mode) (members : Members) (silence : SilenceItem) : Type 0 where
  pub only : IsTrue (has_only mode (codes "matchers" ∷ codes "from" ∷ codes "to" ∷ codes "set" ∷ []) members)
  pub matchers : Has (IsList (DecodesToMatcher mode)) (codes "matchers") members silence.matchers.items
  pub some : 0 < length silence.matchers.items
  pub few : length silence.matchers.items ≤ MAX_MATCHERS
  pub from : HasOr IsDuration 0 (codes "from") members silence.from
  pub to : Has IsDuration (codes "to") members silence.to
  pub later : silence.from < silence.to
  pub set : HasOr IsDuration silence.from (codes "set") members silence.set

abbrev pub DecodesToSilence : Mode → Data → SilenceItem → Type 0
DecodesToSilence mode value silence = IsObject (HasSilence mode) value silence

-- the names of the members of an outage
abbrev pub outage_names : List (List ℕ)
outage_names =
    codes "receiver" ∷ codes "integration" ∷ codes "from" ∷ codes "to" ∷ codes "answer" ∷ codes "takes" ∷ []

-- the fields of an object decode to an outage
pub record HasOutage (mode : Mode) (members : Members) (outage : Outage) : Type 0 where
  pub only : IsTrue (has_only mode outage_names members)
  pub receiver : Has IsText (codes "receiver") members outage.receiver
  pub integration : HasIf IsNumber (codes "integration") members outage.integration
  pub position : IfSome outage.integration (λ position. position < MAX_INTEGRATIONS)
  pub span : DecodesToSpan members (record { from = outage.from; to = outage.to })
  pub answer : HasOr IsAnswer Again (codes "answer") members outage.answer
  pub takes : HasOr IsDuration 0 (codes "takes") members outage.takes

abbrev pub DecodesToOutage : Mode → Data → Outage → Type 0
DecodesToOutage mode value outage = IsObject (HasOutage mode) value outage

-- whether a receiver has an integration at a position, if one is said
abbrev pub has_position : Option ℕ → Receiver → Bool
has_position position r = option_map_or (λ p. nat_lt p (length r.integrations)) position true

-- whether a configuration has a receiver of this name, and the receiver what is said of its integrations
abbrev pub has_target : Config → List ℕ → Option ℕ → Bool
has_target config name position =
    option_map_or (has_position position) (find (λ r. bytes_eq r.name name) config.receivers) false

-- whether one of these configurations does
abbrev pub some_has_target : List Config → List ℕ → Option ℕ → Bool
some_has_target configs name position = list_any (λ config. has_target config name position) configs

-- whether one of them has what each of these outages names
abbrev pub have_targets : List Config → List Outage → Bool
have_targets configs outages = list_all (λ o. some_has_target configs o.receiver o.integration) outages
