-- Why a begin is refused, from what is found of the kept state.
use Rattle.std.proofs.Common.{◌≡◌, ◌≢◌, ℕ, ◌+◌, ◌<◌, ◌≤◌, true, false, cond, ◌&&◌, nat_le, Bool, if◌then◌else◌, List, [], ◌∷◌, length, map, get_or, Option, Some, None, Result, Ok, Err, vec_len, vec_capacity, inl, inr, refl, sym, ap, subst, ◌∙◌, arith}
use Rattle.std.specs.Prelude.{IfSome}
use Rattle.std.specs.Option.{option_map}
use Rattle.std.proofs.Math.Bool.{and-false}
use Rattle.std.proofs.lemmas.Bool.Decides.{nat_tests}
use Rattle.std.proofs.lemmas.List.{get_or_default, length-map}
use Rattle.std.specs.VecDeque.{deque_len}
use Rattle.am_alerts.specs.RoutingTree.{route_at}
use Rattle.am_board.specs.declared.begin.Begun.{Begun}
use Rattle.am_board.specs.declared.begin.BeginCall.{BeginCall}
use Rattle.am_board.specs.declared.begin.ChosenGroup.{ChosenGroup}
use Rattle.am_model.specs.declared.config.Config.{Config}
use Rattle.am_model.specs.declared.config.Integration.{Integration}
use Rattle.am_model.specs.declared.fault.Fault.{Fault}
use Rattle.am_model.specs.declared.fault.Fault.TheVariants.{NoMemory, TooManyOpen, HistoryFull}
use Rattle.am_board.specs.declared.flush.OpenFlush.{OpenFlush}
use Rattle.am_board.specs.declared.group.Group.{Group}
use Rattle.am_board.specs.declared.plan.PlannedFlush.{PlannedFlush}
use Rattle.am_model.specs.declared.preview.Preview.{Preview}
use Rattle.am_model.specs.look_back.Preview.{preview_at, preview_on, reason_of}
use Rattle.am_board.specs.declared.state.State as kept
use Rattle.am_model.specs.Begin.{notified_of, notice_for, taken}
use Rattle.am_model.specs.Configured.{HaveFewIntegrations}
use Rattle.am_model.specs.Notice.{NoticeData}
use Rattle.am_model.specs.declared.config.TheConstants.{MAX_INTEGRATIONS}
use Rattle.am_model.proofs.configuration.FewNotified.{few_notified}
use Rattle.am_model.specs.Causes.{is_full, notifies_some, opens_by, begin_cause}
use Rattle.am_board.specs.Refinement.{state_of, group_state, flush_state}
use Rattle.am_board.specs.Beginning.{IsPlan, IsPlannedFlush, first_of, IsChosen, IsEnd, Begins, BeginsShown, cause_of, with_preview}
use Rattle.am_model.specs.State.{GroupState, State, time}
use Rattle.am_board.specs.Step.{IsAnswer}

-- only memory can be wanting
pub returned : (config : Config) (call : BeginCall) (old new : kept.State) (result : Result Begun Fault) → cause_of config call old ≡ None
    → IsEnd config call old new result → Begins config call old new result
returned config call old new (Ok begun) none end = (none, end.0, end.1)
returned config call old new (Err fault) none end = (subst (λ o. IsAnswer o fault) (sym none) end.0, end.1)

-- what is shown is returned with the reply
pub shown_with : (config : Config) (call : BeginCall) (why : Bool) (old new : kept.State) (result : Result Begun Fault) (shown : Option Preview)
    → Begins config call old new result → shown ≡ (if why then preview_at config (state_of old) (time (state_of old) call.now) else None)
    → BeginsShown config call why old new (with_preview result shown)
shown_with config call why old new (Ok begun) shown begins is = (begins.0, begins.1, (begins.2, is))
shown_with config call why old new (Err fault) shown begins is = begins

-- ---- the causes, where the history has capacity

module _ (config : Config) (s : kept.State) (now : ℕ) (t : ℕ) (at : t ≡ time (state_of s) now) (space : vec_len s.history + deque_len s.flushes + 2 ≤ config.limits.history) where
  opened : length (map flush_state s.flushes.items) ≡ deque_len s.flushes
  opened = length-map s.flushes.items flush_state ∙ sym s.flushes.ok.0

  not_full : is_full config (vec_len s.history) (state_of s) 2 ≡ false
  not_full =
      let length_is = opened in
      grind (arith, nat_tests, length_is)

  -- the cause is whether too many flushes are open
  by_open : begin_cause config (vec_len s.history) (state_of s) (time (state_of s) now) ≡ cond (nat_le config.limits.flushes (length (map flush_state s.flushes.items)) && opens_by config (state_of s) t (taken (state_of s) t)) (Some TooManyOpen) None
  by_open =
      ap (λ n. begin_cause config (vec_len s.history) (state_of s) n) (sym at)
      ∙ ap (λ b. cond b (Some HistoryFull) (cond (nat_le config.limits.flushes (length (map flush_state s.flushes.items)) && opens_by config (state_of s) t (taken (state_of s) t)) (Some TooManyOpen) None)) not_full

  -- no flush is to be opened
  pub cause-closed : opens_by config (state_of s) t (taken (state_of s) t) ≡ false → begin_cause config (vec_len s.history) (state_of s) (time (state_of s) now) ≡ None
  cause-closed closed =
      by_open
      ∙ ap (λ b. cond (nat_le config.limits.flushes (length (map flush_state s.flushes.items)) && b) (Some TooManyOpen) None) closed
      ∙ ap (λ b. cond b (Some TooManyOpen) None) (and-false (nat_le config.limits.flushes (length (map flush_state s.flushes.items))))

  -- one more can be open
  cause-few : deque_len s.flushes < config.limits.flushes → begin_cause config (vec_len s.history) (state_of s) (time (state_of s) now) ≡ None
  cause-few few =
      let length_is = opened in
      let below : nat_le config.limits.flushes (length (map flush_state s.flushes.items)) ≡ false = grind (arith, nat_tests, length_is) in
      by_open ∙ ap (λ b. cond (b && opens_by config (state_of s) t (taken (state_of s) t)) (Some TooManyOpen) None) below

  -- the limit of open flushes is reached, and one more is to be opened
  pub cause-many : config.limits.flushes ≤ deque_len s.flushes → opens_by config (state_of s) t (taken (state_of s) t) ≡ true → begin_cause config (vec_len s.history) (state_of s) (time (state_of s) now) ≡ Some TooManyOpen
  cause-many many opens =
      let length_is = opened in
      let reached : nat_le config.limits.flushes (length (map flush_state s.flushes.items)) ≡ true = grind (arith, nat_tests, length_is) in
      by_open
      ∙ ap (λ b. cond (b && opens_by config (state_of s) t (taken (state_of s) t)) (Some TooManyOpen) None) reached
      ∙ ap (λ b. cond b (Some TooManyOpen) None) opens

  -- memory can be refused in any case
  pub answer-memory : IsAnswer (begin_cause config (vec_len s.history) (state_of s) (time (state_of s) now)) NoMemory
  answer-memory =
      subst (λ o. IsAnswer o NoMemory) (sym by_open)
      (elim (nat_le config.limits.flushes (length (map flush_state s.flushes.items)) && opens_by config (state_of s) t (taken (state_of s) t)) as (λ b. IsAnswer (cond b (Some TooManyOpen) None) NoMemory) [
        | true ↦ inr refl
        | false ↦ refl
      ])

-- some are notified
pub notifies_some-true : (notified : List (ℕ × Integration)) → notified ≢ [] → notifies_some notified ≡ true
notifies_some-true [] some = absurd (some refl)
notifies_some-true (i ∷ is) some = refl

-- no group was found
pub taken-none : (s : kept.State) (t : ℕ) (groups : List Group) (flushes : List OpenFlush) → groups ≡ s.groups.items → flushes ≡ s.flushes.items
    → first_of (map flush_state flushes) t (map group_state groups) ≡ None → taken (state_of s) t ≡ None
taken-none s t groups flushes all open_now none = (λ i. first_of (map flush_state (sym open_now i)) t (map group_state (sym all i))) ∙ none

-- the group that was found is the one that the begin takes
pub taking_found : (config : Config) (s : kept.State) (chosen : ChosenGroup) (g : Group) (groups : List Group) (flushes : List OpenFlush)
    → groups ≡ s.groups.items → flushes ≡ s.flushes.items
    → chosen.t ≡ time (state_of s) chosen.call.now → chosen.index < length groups
    → first_of (map flush_state flushes) chosen.t (map group_state groups) ≡ Some (group_state (get_or groups chosen.index g))
    → g ≡ get_or s.groups.items chosen.index g
    → chosen.due ≡ chosen.t + (route_at config.routes g.name.route).group_interval
    → IsChosen config s chosen g
taking_found config s chosen g groups flushes all open_now at within first is due =
    let index : chosen.index < length s.groups.items = omega (arith, within, ap (λ (gs : List Group). length gs) all) in
    record {
      time = at;
      index = index;
      group = λ d. get_or_default s.groups.items chosen.index d g index ∙ sym is;
      first =
          (λ i. first_of (map flush_state (sym open_now i)) chosen.t (map group_state (sym all i)))
          ∙ first
          ∙ ap (λ (gs : List Group). Some (group_state (get_or gs chosen.index g))) all
          ∙ ap (λ (x : Group). Some (group_state x)) (sym is);
      due = due;
    }

-- an element of a list that has an index
pub one_of : {X : Type 0} (xs : List X) (i : ℕ) → i < length xs → X
one_of [] i within = absurd (omega (arith, within))
one_of (x ∷ xs) i within = x

-- ---- what a plan has, if a flush is planned

module _ (config : Config) (id opened : ℕ) (s : State) (t : ℕ) (g : GroupState) (o : Option PlannedFlush) (plan : IsPlan config id opened s t g (Ok o)) where
  has : (P : PlannedFlush → Type 0) → ((p : PlannedFlush) → IsPlannedFlush config id s t g p → P p) → IfSome o P
  has P from = by o plan
    where
      by : (p : Option PlannedFlush) → IsPlan config id opened s t g (Ok p) → IfSome p P
      by None is = tt
      by (Some flush) is = from flush is.2

  pub planned_none : IfSome o (λ p. vec_len p.outcomes ≡ 0)
  planned_none = has (λ p. vec_len p.outcomes ≡ 0) (λ p is. is.none)

  pub planned_space : IfSome o (λ p. vec_len p.notices ≤ vec_capacity p.outcomes)
  planned_space = has (λ p. vec_len p.notices ≤ vec_capacity p.outcomes) (λ p is. is.space)

  pub planned_few : HaveFewIntegrations config → IfSome o (λ p. vec_len p.notices ≤ MAX_INTEGRATIONS)
  planned_few few = has (λ p. vec_len p.notices ≤ MAX_INTEGRATIONS) few_notices
    where
      few_notices : (p : PlannedFlush) → IsPlannedFlush config id s t g p → vec_len p.notices ≤ MAX_INTEGRATIONS
      few_notices p is =
          let notified = notified_of config s t g in
          let count = ap (λ (ns : List NoticeData). length ns) is.notices ∙ length-map notified (notice_for config id s t g) in
          omega (arith, p.notices.ok.0, count, few_notified config s t g few)

-- ---- what is computed for the group that a begin takes

module _ (config : Config) (id : ℕ) (s : kept.State) (chosen : ChosenGroup) (g : Group) (takes : IsChosen config s chosen g) where
  -- whether a flush is to be opened, by what is notified
  opens_taken : opens_by config (state_of s) chosen.t (taken (state_of s) chosen.t) ≡ notifies_some (notified_of config (state_of s) chosen.t (group_state g))
  opens_taken = ap (λ o. opens_by config (state_of s) chosen.t o) takes.first

  -- what is shown of it is the preview of the state
  pub shown_taken : (why : Bool) → (if why then Some (preview_on config (state_of s) chosen.t (reason_of config (state_of s) chosen.t) (group_state g)) else None)
      ≡ (if why then preview_at config (state_of s) (time (state_of s) chosen.call.now) else None)
  shown_taken why =
      ap (λ (o : Option Preview). if why then o else None)
      (sym (ap (option_map (preview_on config (state_of s) chosen.t (reason_of config (state_of s) chosen.t))) takes.first)
      ∙ ap (preview_at config (state_of s)) takes.time)

  module _ (space : vec_len s.history + deque_len s.flushes + 2 ≤ config.limits.history) where
    -- why it is refused before anything is put
    pub planned_err : (fault : Fault) → IsPlan config id (deque_len s.flushes) (state_of s) chosen.t (group_state g) (Err fault) → IsAnswer (cause_of config chosen.call s) fault
    planned_err fault plan =
        elim plan [
          | inl memory ↦ subst (λ f. IsAnswer (cause_of config chosen.call s) f) (sym memory) (answer-memory config s chosen.call.now chosen.t takes.time space)
          | inr full ↦
              let many = cause-many config s chosen.call.now chosen.t takes.time space full.2 (opens_taken ∙ notifies_some-true (notified_of config (state_of s) chosen.t (group_state g)) full.1) in
              subst (λ o. IsAnswer o fault) (sym many) (inl full.0)
        ]

    -- a flush is opened or nobody is notified: only memory can be wanting
    cause_planned : (o : Option PlannedFlush) → IsPlan config id (deque_len s.flushes) (state_of s) chosen.t (group_state g) (Ok o) → cause_of config chosen.call s ≡ None
    cause_planned None none = cause-closed config s chosen.call.now chosen.t takes.time space (opens_taken ∙ ap notifies_some none)
    cause_planned (Some flush) plan = cause-few config s chosen.call.now chosen.t takes.time space plan.1

    -- the begin ends as its plan says
    pub ended : (o : Option PlannedFlush) → IsPlan config id (deque_len s.flushes) (state_of s) chosen.t (group_state g) (Ok o)
        → (new : kept.State) (result : Result Begun Fault) → IsEnd config chosen.call s new result → Begins config chosen.call s new result
    ended o plan new result end = returned config chosen.call s new result (cause_planned o plan) end
