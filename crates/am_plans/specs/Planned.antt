-- Planned: what the alerts and the silences of a story plan.
use Rattle.std.specs.Prelude.{◌≡◌, ◌+◌, ◌&&◌, ℕ, Bool, IsTrue, List, [], ◌∷◌, ◌++◌, Option, None, codes}
use Rattle.std.specs.Prelude.{is_none, is_some, length, map, unwrap_or, if◌then◌else◌}
use Rattle.std.specs.List.{flat_map, list_all, range_with_len}
use Rattle.std.specs.Ordering.{nat_cmp, ordering_then}
use Rattle.std.specs.declared.cmp.Ordering.{Ordering}
use Rattle.serde_json.specs.Data.{Members}
use Rattle.am_alerts.specs.AlertData.{alert_fault, alert_of}
use Rattle.am_alerts.specs.Matcher.{compare_texts}
use Rattle.am_alerts.specs.declared.labels.Label.{Label}
use Rattle.am_json.specs.Decoding.{IsList, HasOr}
use Rattle.am_json.specs.declared.reader.Mode.{Mode}
use Rattle.am_plans.specs.Decoding.{DecodesToAlert, DecodesToSilence}
use Rattle.am_plans.specs.declared.alert.AlertItem.{AlertItem}
use Rattle.am_plans.specs.declared.planned.Planned.{Planned}
use Rattle.am_plans.specs.declared.silence.SilenceItem.{SilenceItem}
use Rattle.am_plans.specs.declared.span.Span.{Span}
use Rattle.am_model.specs.Lists.{in_order}
use Rattle.am_mute.specs.Silence.{silence_fault, silence_of}
use Rattle.am_terms.specs.declared.rehearsal.Action.TheVariants.{Insert, Silence}
use Rattle.am_terms.specs.declared.rehearsal.TimedAction.{TimedAction}

-- an alert is inserted at its end, if it has one, or else at its start
abbrev pub insert_of : List Label → ℕ → Option ℕ → TimedAction
insert_of labels starts ends = record { at = unwrap_or ends starts; act = Insert (alert_of labels starts ends) }

-- in a span it is inserted without an end, and then with the span's end, if the span has one
abbrev pub inserts_in : List Label → Span → List TimedAction
inserts_in labels span =
    insert_of labels span.from None ∷ (if is_some span.to then insert_of labels span.from span.to ∷ [] else [])

-- the inserts of an alert, span by span
abbrev pub inserts_of : AlertItem → List TimedAction
inserts_of alert = flat_map (inserts_in alert.labels) alert.spans.items

-- a silence of this id is set at its time
abbrev pub set_of : ℕ → SilenceItem → TimedAction
set_of id s = record { at = s.set; act = Silence (silence_of id s.matchers.items s.from s.to) }

-- the silences, whose ids count from this one
abbrev pub sets_from : ℕ → List SilenceItem → List TimedAction
sets_from id [] = []
sets_from id (s ∷ ss) = set_of id s ∷ sets_from (id + 1) ss

-- the order of planned actions by their times
abbrev pub time_cmp : TimedAction → TimedAction → Ordering
time_cmp a b = nat_cmp a.at b.at

-- what alerts and silences plan, in the order of times: what comes at one time keeps the order of the story, in which the alerts come
-- first. The ids of silences count from 1
abbrev pub plans_of : List AlertItem → List SilenceItem → List TimedAction
plans_of alerts silences = in_order time_cmp (flat_map inserts_of alerts ++ sets_from 1 silences)

-- the actions are those that the members `alerts` and `silences` plan
pub record ArePlannedIn (mode : Mode) (members : Members) (plans : List TimedAction) : Type 0 where
  pub alerts : List AlertItem
  pub silences : List SilenceItem
  pub alerts_are : HasOr (IsList (DecodesToAlert mode)) [] (codes "alerts") members alerts
  pub silences_are : HasOr (IsList (DecodesToSilence mode)) [] (codes "silences") members silences
  pub is : plans ≡ plans_of alerts silences

-- whether an alert may have these labels and times
abbrev pub may_insert : List Label → ℕ → Option ℕ → Bool
may_insert labels starts ends = is_none (alert_fault (alert_of labels starts ends))

-- the same of those that are inserted in a span
abbrev pub may_insert_in : List Label → Span → Bool
may_insert_in labels span = may_insert labels span.from None && may_insert labels span.from span.to

-- the same of those that an item plans
abbrev pub may_insert_all : AlertItem → Bool
may_insert_all alert = list_all (may_insert_in alert.labels) alert.spans.items

-- whether a silence may have these matchers and times
abbrev pub may_set : SilenceItem → Bool
may_set s = is_none (silence_fault (silence_of 1 s.matchers.items s.from s.to))

-- whether no matcher of these silences needs a regex
abbrev pub have_no_regex : List SilenceItem → Bool
have_no_regex silences = list_all (λ s. compare_texts s.matchers.items) silences

-- the actions are those that the members plan, whose silences need no regex
abbrev pub ArePlannedWithoutRegexes : Mode → Members → List TimedAction → Type 0
ArePlannedWithoutRegexes mode members plans = (planned : ArePlannedIn mode members plans) × IsTrue (have_no_regex planned.silences)

-- each planned action has its pointer as its number
abbrev pub IsNumbered : List Planned → Type 0
IsNumbered planned = map (λ p. p.number) planned ≡ range_with_len 0 (length planned)

-- these actions were added to a list, which has its numbers still
pub record AddsPlans (before after : List Planned) (plans : List TimedAction) : Type 0 where
  pub plans_are : map (λ p. p.plan) after ≡ map (λ p. p.plan) before ++ plans
  pub numbered : IsNumbered before → IsNumbered after

-- the order of planned actions by their times, and of one time by their numbers
abbrev pub planned_cmp : Planned → Planned → Ordering
planned_cmp a b = ordering_then (nat_cmp a.plan.at b.plan.at) (nat_cmp a.number b.number)
