-- Simulations: the scene of a rehearsal that is being played.
use Rattle.std.specs.Prelude.{◌≡◌, ◌<◌, ◌≤◌, ◌-◌, ◌||◌, ℕ, Bool, true, false, IsTrue, not, length, slice_get, Option, Some, None}
use Rattle.std.specs.Option.{IsSomeAnd}
use Rattle.am_model.specs.declared.fault.Fault.{Fault}
use Rattle.am_model.specs.declared.fault.Fault.TheVariants.{HistoryFull}
use Rattle.am_simulation.specs.declared.next.Next.{Next}
use Rattle.am_simulation.specs.declared.next.Step.{Step}
use Rattle.am_simulation.specs.declared.next.Step.TheVariants as step
use Rattle.am_simulation.specs.Next.{next}
use Rattle.am_simulation.specs.Play.{Reaches}
use Rattle.am_simulation.specs.Scene.{Scene, Setting, setting_with}
use Rattle.am_simulation.specs.CauseOfFault.{IsHistoryFull, own_cause, refuses_first}
use Rattle.am_simulation.specs.declared.play.Conditions.{Conditions}
use Rattle.am_simulation.specs.declared.play.LoadedPart.{LoadedPart}
use Rattle.am_simulation.specs.declared.play.Simulation.{Simulation}
use Rattle.am_simulation.specs.declared.play.PlayFault.{PlayFault}
use Rattle.am_simulation.specs.declared.play.PlayFault.TheVariants as play

-- what doesn't change in it
abbrev pub setting_in : Simulation → Setting
setting_in simulation = setting_with simulation.until simulation.upkeep simulation.outages.now simulation.span

-- what doesn't change in a part that is to be played under these conditions
abbrev pub setting_of : Conditions → LoadedPart → Setting
setting_of conditions part = setting_with part.until conditions.upkeep conditions.outages.now part.span

-- how far it has come
abbrev pub scene_in : Simulation → Scene
scene_in simulation =
    record {
      board = simulation.board.board;
      events = simulation.board.events.items;
      plans = simulation.plans.items;
      sendings = simulation.sendings;
      clock = simulation.clock;
      maintenance = simulation.next_maintenance;
      begins = simulation.is_beginning;
      blocked = simulation.is_blocked;
    }

-- what a step of this kind is about is there: the end, the flush, a plan; a begin is in time, and doesn't wait for a finish
abbrev pub IsThereFor : Setting → Scene → Next → Step → Type 0
IsThereFor r c n (step.End position index) = IsSomeAnd (slice_get c.sendings position) (λ s. index < length s.ends)
IsThereFor r c n (step.Finish position) = position < length c.sendings
IsThereFor r c n step.Plan = IsSomeAnd (slice_get c.plans 0) (λ p. p.at ≤ r.until)
IsThereFor r c n step.Maintenance = Unit {0}
IsThereFor r c n step.Removal = Unit {0}
IsThereFor r c n step.Begin = (n.at ≤ r.until) × IsTrue (c.begins || not c.blocked)

-- what a step is about is there
abbrev pub IsThere : Setting → Scene → Next → Type 0
IsThere r c n = IsThereFor r c n n.what

-- the board doesn't refuse a step of this kind, if it is a plan, a maintenance or a removal
abbrev pub IsAllowed : Scene → Next → Step → Type 0
IsAllowed c n step.Plan = refuses_first c.board c.plans ≡ false
IsAllowed c n step.Maintenance = own_cause c.board n.at step.Maintenance ≡ None
IsAllowed c n step.Removal = own_cause c.board n.at step.Removal ≡ None
IsAllowed c n step.Begin = Unit {0}
IsAllowed c n (step.Finish position) = Unit {0}
IsAllowed c n (step.End position index) = Unit {0}

-- a plan at a position isn't done for this fault, where the board refuses it or doesn't
abbrev pub IsPlanFault : Bool → ℕ → PlayFault → Type 0
IsPlanFault refused k play.NoMemory = Unit {0}
IsPlanFault refused k play.BadConfig = ⊥
IsPlanFault refused k (play.PlanRefused position) = (position ≡ k) × (refused ≡ true)
IsPlanFault refused k play.Full = ⊥

-- a maintenance, a removal or a begin isn't done for this fault, where this is the board's cause against it
abbrev pub IsOwnFault : Option Fault → PlayFault → Type 0
IsOwnFault cause play.NoMemory = Unit {0}
IsOwnFault cause play.BadConfig = ⊥
IsOwnFault cause (play.PlanRefused position) = ⊥
IsOwnFault cause play.Full = cause ≡ Some HistoryFull

-- what comes next isn't done for this fault, where so many actions were planned
abbrev pub IsHindered : ℕ → Scene → Next → PlayFault → Type 0
IsHindered count c n play.NoMemory = Unit {0}
IsHindered count c n play.BadConfig = ⊥
IsHindered count c n (play.PlanRefused k) =
    (n.what ≡ step.Plan) × (k ≡ count - length c.plans) × (refuses_first c.board c.plans ≡ true)
IsHindered count c n play.Full = IsHistoryFull c n

-- from a scene on, steps lead to one where what comes next isn't done for this fault
abbrev pub IsStopped : Setting → ℕ → Scene → PlayFault → Type 0
IsStopped r count c fault = (d : Scene) × Reaches r c d × IsSomeAnd (next r d) (λ n. IsHindered count d n fault)
