-- What the scripts of a scenario plan for the attempts of its notices.
use Rattle.std.specs.Prelude.{◌==◌, ◌&&◌, ℕ, ◌-◌, Bool, min, List, Option, Some, None, get_or, length}
use Rattle.std.specs.List.{find}
use Rattle.am_retry.specs.declared.outcome.Answer.TheVariants.{Done}
use Rattle.am_pool.specs.Sendings.{IsAnsweredBy, later}
use Rattle.am_pool.specs.declared.courier.Sent.{Sent}
use Rattle.am_pool.specs.declared.courier.Tried.{Tried}
use Rattle.am_scenario.specs.declared.scenario.script.ScriptedAnswer.{ScriptedAnswer}
use Rattle.am_scenario.specs.declared.scenario.script.Script.{Script}

-- done, in no time
abbrev pub at_once : ScriptedAnswer
at_once = record { answer = Done; takes = 0 }

-- attempt k, counted from 1, is answered by the k-th of these, or by the last where they are fewer; done at once where there is none
abbrev pub answer_to : ℕ → List ScriptedAnswer → ScriptedAnswer
answer_to k answers = get_or answers (min (k - 1) (length answers - 1)) at_once

-- whether a script is for this integration of this flush
abbrev pub is_script_for : ℕ → ℕ → Script → Bool
is_script_for ticket integration script = (script.ticket == ticket) && (script.integration == integration)

-- attempt k is answered by a script; done at once where there is none
abbrev pub answer_by : ℕ → Option Script → ScriptedAnswer
answer_by k None = at_once
answer_by k (Some script) = answer_to k script.answers.items

-- what scripts plan for attempt k at an integration of a flush: the first script for it counts
abbrev pub planned_for : List Script → ℕ → ℕ → ℕ → ScriptedAnswer
planned_for scripts ticket integration k = answer_by k (find (is_script_for ticket integration) scripts)

-- how an attempt at this time goes that is planned so: it ends when it has lasted so long, or at the last time that 64 bits say
abbrev pub sent_at : ℕ → ScriptedAnswer → Sent
sent_at at planned = record { answer = planned.answer; ended = later at planned.takes }

-- a try went as these scripts plan
abbrev pub IsAsPlanned : List Script → Tried → Type 0
IsAsPlanned scripts t = IsAnsweredBy (λ ticket integration k at. sent_at at (planned_for scripts ticket integration k)) t
