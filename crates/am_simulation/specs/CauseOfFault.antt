-- CauseOfFault: why a rehearsal isn't played to its end.
use Rattle.std.specs.Prelude.{◌≡◌, ◌≢◌, ℕ, Bool, true, false, List, [], ◌∷◌, drop, Option, Some, None}
use Rattle.std.specs.Option.{IsSomeAnd}
use Rattle.am_model.specs.declared.config.Config.{Config}
use Rattle.am_model.specs.declared.fault.Fault.{Fault}
use Rattle.am_model.specs.declared.fault.Fault.TheVariants.{HistoryFull}
use Rattle.am_model.specs.Causes.{maintain_cause, removal_cause}
use Rattle.am_model.specs.Config.{config_fault}
use Rattle.am_board.specs.History.{BoardData, records_at, state_at}
use Rattle.am_simulation.specs.Next.{next}
use Rattle.am_simulation.specs.Planned.{refuses}
use Rattle.am_simulation.specs.Play.{Reaches}
use Rattle.am_simulation.specs.Scene.{Scene, Setting, opening_scene}
use Rattle.am_simulation.specs.Taking.{cause_of_none}
use Rattle.am_simulation.specs.declared.next.Next.{Next}
use Rattle.am_simulation.specs.declared.next.Step.{Step}
use Rattle.am_simulation.specs.declared.next.Step.TheVariants as step
use Rattle.am_simulation.specs.declared.play.PlayFault.{PlayFault}
use Rattle.am_simulation.specs.declared.play.PlayFault.TheVariants as play
use Rattle.am_terms.specs.declared.rehearsal.TimedAction.{TimedAction}

-- whether a board refuses the first of these plans
abbrev pub refuses_first : BoardData → List TimedAction → Bool
refuses_first b [] = false
refuses_first b (p ∷ ps) = refuses b p.at p.act

-- why a board refuses the maintenance, the removal or the begin that a step at a time is, if it is one and the board does
abbrev pub own_cause : BoardData → ℕ → Step → Option Fault
own_cause b at step.Maintenance = maintain_cause b.config (records_at b) (state_at b)
own_cause b at step.Removal = removal_cause b.config (records_at b) (state_at b)
own_cause b at step.Begin = cause_of_none b at
own_cause b at step.Plan = None
own_cause b at (step.Finish position) = None
own_cause b at (step.End position index) = None

-- the plan at a position comes next, and the board refuses it: at a limit, or a log row that doesn't fit
abbrev pub IsPlanRefused : List TimedAction → ℕ → Scene → Next → Type 0
IsPlanRefused plans k c n = (n.what ≡ step.Plan) × (c.plans ≡ drop k plans) × (refuses_first c.board c.plans ≡ true)

-- a maintenance, a removal or a begin comes next, and the history has no capacity for it
abbrev pub IsHistoryFull : Scene → Next → Type 0
IsHistoryFull c n = own_cause c.board n.at n.what ≡ Some HistoryFull

-- steps lead from the start of a rehearsal to a scene of which this is true, and of what comes next there
abbrev pub IsStuck : Setting → Config → List TimedAction → (Scene → Next → Type 0) → Type 0
IsStuck r config plans Why = (c : Scene) × Reaches r (opening_scene r config plans) c × IsSomeAnd (next r c) (Why c)

-- why a rehearsal of this configuration and these plans isn't played to its end; nothing is said of memory
abbrev pub IsCauseOfFault : Setting → Config → List TimedAction → PlayFault → Type 0
IsCauseOfFault r config plans play.NoMemory = Unit {0}
IsCauseOfFault r config plans play.BadConfig = config_fault config ≢ None
IsCauseOfFault r config plans (play.PlanRefused k) = IsStuck r config plans (IsPlanRefused plans k)
IsCauseOfFault r config plans play.Full = IsStuck r config plans IsHistoryFull
