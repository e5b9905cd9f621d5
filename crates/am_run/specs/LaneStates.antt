-- What the passes of the lanes have made, between the phases of a run.
use Rattle.std.specs.Prelude.{◌≡◌, ◌≢◌, ◌⊎◌, ℕ, ◌+◌, All, List, [], ◌∷◌, ◌++◌, map, Some, None}
use mathlib.Core.List.{IsPrefix}
use Rattle.std.specs.List.{AllZip}
use Rattle.am_model.specs.Replay.{IsLegal}
use Rattle.am_model.specs.declared.fault.Fault.{Fault}
use Rattle.am_model.specs.declared.fault.Fault.TheVariants.{NoMemory}
use Rattle.am_model.specs.declared.record.Call.{Call}
use Rattle.am_desk.specs.Known.{Seen}
use Rattle.am_desk.specs.declared.word.Terms.{Terms}
use Rattle.am_run.specs.Lanes.{call_at, calls_by, lane_calls}
use Rattle.am_run.specs.IsCauseOfFull.{cause_of_call}
use Rattle.am_run.specs.declared.lane.LaneState.{LaneState}
use Rattle.am_scenario.specs.declared.scenario.Lane.{Lane}
use Rattle.am_scenario.specs.declared.scenario.Phase.{Phase}
use Rattle.am_scenario.specs.declared.scenario.call.LaneCall.{LaneCall}

-- a pass has made these calls since, and no others
abbrev pub MadeCalls : List Call → Seen → Seen → Type 0
MadeCalls calls p q = (q.number ≡ p.number) × (calls_by p.number q.log ≡ calls_by p.number p.log ++ calls)

-- the first passes have made the calls of these lanes since, at this time, each those of its lane, and the others none
abbrev pub MadeLanes : ℕ → List Lane → List Seen → List Seen → Type 0
MadeLanes at [] ps qs = AllZip (MadeCalls []) ps qs
MadeLanes at (l ∷ ls) [] qs = ⊥
MadeLanes at (l ∷ ls) (p ∷ ps) [] = ⊥
MadeLanes at (l ∷ ls) (p ∷ ps) (q ∷ qs) = MadeCalls (map (call_at at) l.calls.items) p q × MadeLanes at ls ps qs

-- the passes of the lanes from lane i on: each has the number that follows its lane's, and made the lane's calls of these phases alone
abbrev pub HaveMade : ℕ → List Phase → List Seen → Type 0
HaveMade i phases [] = Unit {0}
HaveMade i phases (p ∷ ps) =
    (p.number ≡ i + 1) × (calls_by (i + 1) p.log ≡ lane_calls i phases) × HaveMade (i + 1) phases ps

-- the passes in these lane states
abbrev pub passes_in : {N : Type 0} → List (LaneState N) → List Seen
passes_in lane_states = map (λ s. s.pass) lane_states

-- a call of a lane state was refused, and not for lack of memory
abbrev pub IsRefusedByLimit : {N : Type 0} → LaneState N → Type 0
IsRefusedByLimit s = (k : ℕ) × (fault : Fault) × (s.refused ≡ Some (k, fault)) × (fault ≢ NoMemory)

-- a limit refuses the first of these calls at the legal history that a pass has seen
abbrev pub RefusesNext : Terms → List LaneCall → Seen → Type 0
RefusesNext t [] q = ⊥
RefusesNext t (c ∷ cs) q = IsLegal t.config t.id q.log × (cause_of_call t c q.log ≢ None)

-- a state whose calls were run: its pass made the first of them, all if none was refused; if one was by a limit, it is the next
pub record Ran {N : Type 0} (t : Terms) (at : ℕ) (calls : List LaneCall) (p : Seen) (u : LaneState N) : Type 0 where
  pub done : List LaneCall
  pub left : List LaneCall
  pub is : calls ≡ done ++ left
  pub made : MadeCalls (map (call_at at) done) p u.pass
  pub begins : IsPrefix p.log u.pass.log
  pub all : u.refused ≡ None → left ≡ []
  pub why : IsRefusedByLimit u → RefusesNext t left u.pass

-- the same of each of these lane states
abbrev pub AllRan : {N : Type 0} → Terms → ℕ → List (LaneState N) → List (LaneState N) → Type 0
AllRan t at ss us = AllZip (λ s u. Ran t at s.calls.items s.pass u) ss us

-- no call of these lane states was refused
abbrev pub NoneRefused : {N : Type 0} → List (LaneState N) → Type 0
NoneRefused lane_states = All (λ s. s.refused ≡ None) lane_states

-- a call of one of these lane states was refused, and not for lack of memory
abbrev pub AnyRefused : {N : Type 0} → List (LaneState N) → Type 0
AnyRefused [] = ⊥
AnyRefused (s ∷ ss) = IsRefusedByLimit s ⊎ AnyRefused ss

-- the lane states after a phase with these lanes: each of the first ran the calls of its lane, and the others stayed
abbrev pub AfterLanes : {N : Type 0} → Terms → ℕ → List Lane → List (LaneState N) → List (LaneState N) → Type 0
AfterLanes t at [] ss us = us ≡ ss
AfterLanes t at (l ∷ ls) [] us = ⊥
AfterLanes t at (l ∷ ls) (s ∷ ss) [] = ⊥
AfterLanes t at (l ∷ ls) (s ∷ ss) (u ∷ us) = Ran t at l.calls.items s.pass u × AfterLanes t at ls ss us
