-- Calls that are refused, and what each accepted call does to a state's capacity and history.
use Rattle.std.proofs.Common.{◌≡◌, ℕ, ◌+◌, ◌≤◌, false, length, map, Option, Some, None, Ok, Err, refl, inl, vec_len, arith, nat_lt, sym, ap, ◌∙◌, subst}
use Rattle.std.proofs.lemmas.Bool.Decides.{nat_tests}
use Rattle.std.proofs.lemmas.List.{length-map}
use Rattle.am_alerts.specs.Fault.{ok_unless}
use Rattle.am_model.specs.declared.config.Config.{Config}
use Rattle.am_model.specs.declared.fault.Fault.{Fault}
use Rattle.am_model.specs.declared.fault.Fault.TheVariants.{NoMemory, TooManyAlerts, TooManyGroups, TooManySilences, TooManyOpen, HistoryFull}
use Rattle.am_board.specs.declared.state.State as kept
use Rattle.am_model.specs.Causes.{is_full}
use Rattle.am_board.specs.Refinement.{state_of, flush_state, EqualUpToRowOrder}
use Rattle.am_board.specs.Step.{IsAnswer, StateInvariant, LeavesUnchanged}
use Rattle.std.proofs.lemmas.List.Sorted.{IsPermutation-refl}
use Rattle.std.specs.VecDeque.{deque_len}
use Rattle.am_model.specs.State.{State}

-- the first cause can be answered
pub cause_answered : (fault : Fault) → IsAnswer (Some fault) fault
cause_answered NoMemory = refl
cause_answered TooManyAlerts = refl
cause_answered TooManyGroups = inl refl
cause_answered TooManySilences = refl
cause_answered TooManyOpen = inl refl
cause_answered HistoryFull = refl

module _ (config : Config) (s : kept.State) (more : ℕ) (counted : deque_len s.flushes ≡ length s.flushes.items) where
  -- there is capacity
  pub not_full : vec_len s.history + deque_len s.flushes + more ≤ config.limits.history → is_full config (vec_len s.history) (state_of s) more ≡ false
  not_full h =
      let m : length (map flush_state s.flushes.items) ≡ length s.flushes.items = length-map s.flushes.items flush_state in
      grind (arith, nat_tests)

-- a history has capacity
pub has_space : (config : Config) (s : kept.State) → vec_len s.history + deque_len s.flushes + 1 ≤ config.limits.history → is_full config (vec_len s.history) (state_of s) 1 ≡ false
has_space config s space =
    let count : length (map flush_state s.flushes.items) ≡ deque_len s.flushes = length-map s.flushes.items flush_state ∙ sym s.flushes.ok.0 in
    ap (λ n. nat_lt config.limits.history (vec_len s.history + n + 1)) count ∙ grind (arith, nat_tests)

-- nothing changed
pub stays_itself : (config : Config) (s : kept.State) → StateInvariant config s → LeavesUnchanged config s s
stays_itself config s good = record { state = refl; routed = good.routed; prepared = good.prepared; marked = good.marked; history = refl; records = refl; space = good.space }

-- states that are one agree
pub agrees_same : (a b : State) → a ≡ b → EqualUpToRowOrder a b
agrees_same a b e = subst (λ (c : State). EqualUpToRowOrder a c) e (record { rows = IsPermutation-refl a.rows; rest = refl })

-- what is there unless there is a fault
pub no_fault : {T F : Type 0} (fault : Option F) (x y : T) → Ok y ≡ ok_unless fault x → fault ≡ None
no_fault None x y e = refl
no_fault (Some f) x y e = absurd (cc)

pub unless_value : {T F : Type 0} (fault : Option F) (x y : T) → Ok y ≡ ok_unless fault x → y ≡ x
unless_value None x y e = cc
unless_value (Some f) x y e = absurd (cc)

pub unless_fault : {T F : Type 0} (fault : Option F) (x : T) (f : F) → Err f ≡ ok_unless fault x → fault ≡ Some f
unless_fault None x f e = absurd (cc)
unless_fault (Some g) x f e = cc
