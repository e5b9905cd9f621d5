-- Why what comes next isn't done.
use Rattle.std.proofs.Common.{◌≡◌, ◌≢◌, ℕ, ◌+◌, ◌-◌, Bool, true, false, List, ◌∷◌, ◌++◌, drop, length, Option, Some, None, refl, sym, ap, ◌∙◌, subst, arith, inl, inr, ◌⊎◌, if◌then◌else◌, ◌&&◌, nat_le, Result, Ok, Err, IfErr, IsErrAnd}
use Rattle.std.specs.Option.{IsSomeAnd, option_map}
use Rattle.std.proofs.lemmas.List.{drop_at, length-append}
use Rattle.std.proofs.lemmas.Option.{none-some, same_Some}
use Rattle.am_board.specs.History.{BoardData, records_at, state_at}
use Rattle.am_board.specs.Step.{IsAnswer}
use Rattle.am_model.specs.Begin.{taken}
use Rattle.am_model.specs.Causes.{is_full, opens_by}
use Rattle.am_model.specs.State.{State, time}
use Rattle.am_model.specs.declared.config.Config.{Config}
use Rattle.am_model.specs.declared.config.ConfigFault.{ConfigFault}
use Rattle.am_model.specs.declared.fault.BoardFault.{BoardFault}
use Rattle.am_model.specs.declared.fault.BoardFault.TheVariants as board
use Rattle.am_model.specs.declared.fault.Fault.{Fault}
use Rattle.am_model.specs.declared.fault.Fault.TheVariants.{NoMemory, TooManyOpen, HistoryFull}
use Rattle.am_simulation.proofs.PlansLeft.{plans_left}
use Rattle.am_simulation.specs.Simulations.{IsAllowed, IsHindered, IsOwnFault, IsPlanFault, IsStopped}
use Rattle.am_simulation.specs.Faults.{fault_of_board, fault_of_call}
use Rattle.am_simulation.specs.Next.{next}
use Rattle.am_simulation.specs.Planned.{refuses}
use Rattle.am_simulation.specs.Scene.{Scene, Setting, opening_scene}
use Rattle.am_simulation.specs.Taking.{cause_of_none}
use Rattle.am_simulation.specs.CauseOfFault.{IsPlanRefused, IsCauseOfFault, own_cause, refuses_first}
use Rattle.am_simulation.specs.declared.next.Next.{Next}
use Rattle.am_simulation.specs.declared.next.Step.{Step}
use Rattle.am_simulation.specs.declared.next.Step.TheVariants as step
use Rattle.am_simulation.specs.declared.play.PlayFault.{PlayFault}
use Rattle.am_simulation.specs.declared.play.PlayFault.TheVariants as play
use Rattle.am_terms.specs.declared.rehearsal.TimedAction.{TimedAction}

-- what a `?` hands on
pub handed_on : {T E : Type 0} (r : Result T E) (Q P : E → Type 0) → ((y : E) → Q y → P y) → IsErrAnd r Q → IfErr r P
handed_on (Ok x) Q P follows h = tt
handed_on (Err y) Q P follows h = follows y h

-- a configuration has no fault where none becomes a board's
pub no_config_fault : (fault : Option ConfigFault) → option_map board.BadConfig fault ≡ None → fault ≡ None
no_config_fault None is = refl
no_config_fault (Some f) is = absurd (cc)

-- a board's fault is that of its configuration
pub config_refused : (fault : Option ConfigFault) (returned : BoardFault) → option_map board.BadConfig fault ≡ Some returned
    → (fault_of_board returned ≡ play.BadConfig) × (fault ≢ None)
config_refused None returned is = absurd (none-some returned is)
config_refused (Some f) returned is = (sym (ap fault_of_board (same_Some (board.BadConfig f) returned is)), λ none. absurd (cc))

-- a maintenance or a removal that isn't done
upkeep_own : (full : Bool) (returned : Fault) → IsAnswer (if full then Some HistoryFull else None) returned
    → IsOwnFault (if full then Some HistoryFull else None) (fault_of_call returned)
upkeep_own true returned answer = subst (λ (f : Fault). IsOwnFault (Some HistoryFull) (fault_of_call f)) (sym answer) refl
upkeep_own false returned answer = subst (λ (f : Fault). IsOwnFault None (fault_of_call f)) (sym answer) tt

-- a begin that isn't done, and doesn't wait for a finish
begin_own : (full many : Bool) (returned : Fault) → (returned ≡ TooManyOpen → ⊥)
    → (returned ≡ NoMemory) ⊎ ((if full then Some HistoryFull else (if many then Some TooManyOpen else None)) ≡ Some returned)
    → IsOwnFault (if full then Some HistoryFull else (if many then Some TooManyOpen else None)) (fault_of_call returned)
begin_own full many returned other why =
    elim why [
      | inl memory ↦ subst (λ (f : Fault). IsOwnFault (if full then Some HistoryFull else (if many then Some TooManyOpen else None)) (fault_of_call f)) (sym memory) tt
      | inr because ↦ by full many because
    ]
  where
    by : (full many : Bool) → (if full then Some HistoryFull else (if many then Some TooManyOpen else None)) ≡ Some returned
        → IsOwnFault (if full then Some HistoryFull else (if many then Some TooManyOpen else None)) (fault_of_call returned)
    by true many because = subst (λ (f : Fault). IsOwnFault (Some HistoryFull) (fault_of_call f)) (same_Some HistoryFull returned because) refl
    by false true because = absurd (other (sym (same_Some TooManyOpen returned because)))
    by false false because = absurd (none-some returned because)

module _ (b : BoardData) (at : ℕ) (returned : Fault) (becomes : PlayFault) (is : becomes ≡ fault_of_call returned) where
  pub maintain_hindered : IsAnswer (own_cause b at step.Maintenance) returned → IsOwnFault (own_cause b at step.Maintenance) becomes
  maintain_hindered answer =
      subst (IsOwnFault (own_cause b at step.Maintenance)) (sym is) (upkeep_own (is_full b.config (records_at b) (state_at b) 1) returned answer)

  pub removal_hindered : IsAnswer (own_cause b at step.Removal) returned → IsOwnFault (own_cause b at step.Removal) becomes
  removal_hindered answer =
      subst (IsOwnFault (own_cause b at step.Removal)) (sym is) (upkeep_own (is_full b.config (records_at b) (state_at b) 1) returned answer)

  pub begin_hindered : (returned ≡ TooManyOpen → ⊥) → (returned ≡ NoMemory) ⊎ (cause_of_none b at ≡ Some returned) → IsOwnFault (own_cause b at step.Begin) becomes
  begin_hindered other why =
      let s : State = state_at b in
      let t : ℕ = time s at in
      subst (IsOwnFault (own_cause b at step.Begin)) (sym is)
      (begin_own (is_full b.config (records_at b) s 2) (nat_le b.config.limits.flushes (length s.flushes) && opens_by b.config s t (taken s t)) returned other why)

module _ (count : ℕ) (c : Scene) (n : Next) where
  pub memory_hindered : (fault : PlayFault) → fault ≡ play.NoMemory → IsHindered count c n fault
  memory_hindered fault is = subst (IsHindered count c n) (sym is) tt

  pub own_hindered : (what : Step) → n.what ≡ what → (fault : PlayFault) → IsOwnFault (own_cause c.board n.at what) fault → IsHindered count c n fault
  own_hindered what is play.NoMemory own = tt
  own_hindered what is play.BadConfig own = absurd own
  own_hindered what is (play.PlanRefused k) own = absurd own
  own_hindered what is play.Full own = ap (own_cause c.board n.at) is ∙ own

  pub plan_hindered : n.what ≡ step.Plan → (p : TimedAction) (rest : List TimedAction) → c.plans ≡ p ∷ rest → (fault : PlayFault)
      → IsPlanFault (refuses c.board p.at p.act) (count - (length rest + 1)) fault → IsHindered count c n fault
  plan_hindered is p rest left play.NoMemory own = tt
  plan_hindered is p rest left play.BadConfig own = absurd own
  plan_hindered is p rest left (play.PlanRefused k) own =
      let more : length c.plans ≡ length rest + 1 = omega (arith, ap length left) in
      (is, own.0 ∙ ap (λ (m : ℕ). count - m) (sym more), subst (λ (l : List TimedAction). refuses_first c.board l ≡ true) (sym left) own.1)
  plan_hindered is p rest left play.Full own = absurd own

  -- what is allowed of a kind of step is allowed of the one that comes
  pub allowed_by : (what : Step) → n.what ≡ what → IsAllowed c n what → IsAllowed c n n.what
  allowed_by what is allowed = subst (IsAllowed c n) (sym is) allowed

  pub plan_allowed : n.what ≡ step.Plan → (p : TimedAction) (rest : List TimedAction) → c.plans ≡ p ∷ rest → refuses c.board p.at p.act ≡ false → IsAllowed c n n.what
  plan_allowed is p rest left free =
      allowed_by step.Plan is (subst (λ (l : List TimedAction). refuses_first c.board l ≡ false) (sym left) free)

some_weaker : {X : Type 0} (o : Option X) (P Q : X → Type 0) → ((x : X) → P x → Q x) → IsSomeAnd o P → IsSomeAnd o Q
some_weaker None P Q weaker h = absurd h
some_weaker (Some x) P Q weaker h = weaker x h

never : {X : Type 0} (o : Option X) → IsSomeAnd o (λ x. ⊥) → ⊥
never None h = h
never (Some x) h = h

-- the plans that are left are those from this position on
from_position : (plans done left : List TimedAction) (k : ℕ) → plans ≡ done ++ left → k ≡ length plans - length left → left ≡ drop k plans
from_position plans done left k is at =
    let count : length done ≡ k = omega (arith, at, ap length is, length-append done left) in
    sym (ap (drop k) is ∙ drop_at done left k count)

-- why a rehearsal is stopped is why it isn't played to its end
pub cause_of_stop : (r : Setting) (config : Config) (plans : List TimedAction) (fault : PlayFault)
    → IsStopped r (length plans) (opening_scene r config plans) fault → IsCauseOfFault r config plans fault
cause_of_stop r config plans play.NoMemory stopped = tt
cause_of_stop r config plans play.BadConfig stopped = absurd (never (next r stopped.0) stopped.2)
cause_of_stop r config plans (play.PlanRefused k) stopped =
    let c : Scene = stopped.0 in
    let left = plans_left r stopped.1.0 (opening_scene r config plans) c stopped.1.1 in (
      c,
      stopped.1,
      some_weaker (next r c) (λ n. IsHindered (length plans) c n (play.PlanRefused k)) (IsPlanRefused plans k c)
          (λ (n : Next) h. (h.0, from_position plans left.0 c.plans k left.1 h.1, h.2)) stopped.2,
    )
cause_of_stop r config plans play.Full stopped = stopped
