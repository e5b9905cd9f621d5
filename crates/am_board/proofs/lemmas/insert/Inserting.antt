-- Why an insert is refused, what it returns, and the state that it leaves.
use Rattle.std.proofs.Common.{◌≡◌, ℕ, ◌+◌, ◌<◌, ◌≤◌, inl, inr, Bool, true, false, not, ◌&&◌, nat_le, nat_lt, Option, Some, None, List, map, length, refl, sym, ap, ◌∙◌, subst, arith}
use Rattle.std.specs.Prelude.{All, is_none, is_some, if◌then◌else◌}
use Rattle.std.specs.List.{count_by, list_any, position}
use Rattle.std.proofs.lemmas.Bool.Decides.{nat_tests}
use Rattle.std.proofs.lemmas.List.{length-map}
use Rattle.am_alerts.specs.AlertData.{AlertData}
use Rattle.am_alerts.specs.declared.labels.Label.{Label}
use Rattle.am_alerts.specs.declared.limits.TheConstants.{MAX_TIME}
use Rattle.am_model.specs.declared.config.Config.{Config}
use Rattle.am_model.specs.declared.fault.Fault.{Fault}
use Rattle.am_model.specs.declared.fault.Fault.TheVariants.{NoMemory, TooManyAlerts, TooManyGroups, HistoryFull}
use Rattle.am_board.specs.declared.flush.OpenFlush.{OpenFlush}
use Rattle.am_board.specs.declared.group.Group.{Group}
use Rattle.am_model.specs.declared.group.GroupName.{GroupName}
use Rattle.am_board.specs.declared.insert.Placement.{Placement}
use Rattle.am_board.specs.declared.state.State as kept
use Rattle.am_model.specs.Causes.{insert_cause, is_full, is_alert_too_many, makes_too_many}
use Rattle.am_model.specs.Insert.{names_for, same_alert, inserted, after_insert}
use Rattle.am_board.specs.Group.{AreRouted}
use Rattle.am_board.specs.Marks.{is_marked}
use Rattle.am_board.specs.Refinement.{state_of, flush_state, group_state, IsPrepared}
use Rattle.am_board.specs.Inserting.{IsReservedState, IsPlacementOf, AreFound, IsEmptyWithSpace, IsFound, IsToPut, index_in, target_of, stamped_alert}
use Rattle.am_alerts.specs.RoutingTree.{RoutingTree}
use Rattle.am_model.specs.State.{State, is_flushing, MemberState, time, has_group, is_named, same_name}
use Rattle.am_board.specs.Step.{StateInvariant, LeavesUnchanged, IsAnswer}
use Rattle.am_model.proofs.lists.Distinct.{all_to, all-weaker}
use Rattle.am_model.proofs.lists.Indexes.{none_any, position-map, count_mapped, count_alike}
use Rattle.std.proofs.lemmas.Bool.{and_right}
use Rattle.std.specs.VecDeque.{deque_items, deque_len}

more_is : (a b : ℕ) → a < b → nat_lt a b ≡ true
more_is a b h = grind (arith, nat_tests)

no_more_is : (a b : ℕ) → b ≤ a → nat_lt a b ≡ false
no_more_is a b h = grind (arith, nat_tests)

abbrev cause_of : Bool → Bool → Bool → Option Fault
cause_of full names groups =
    if full then Some HistoryFull else (if names then Some TooManyAlerts else (if groups then Some TooManyGroups else None))

module _ (config : Config) (n : ℕ) (s : State) (a : AlertData) where
  cause_is : (names groups : Bool) → is_full config n s 1 ≡ false → is_alert_too_many config s a ≡ names → makes_too_many config s a ≡ groups → insert_cause config n s a ≡ cause_of false names groups
  cause_is names groups e f g =
      ap (λ b. cause_of b (is_alert_too_many config s a) (makes_too_many config s a)) e
      ∙ (ap (λ b. cause_of false b (makes_too_many config s a)) f ∙ ap (λ b. cause_of false names b) g)

  pub answer_names : is_full config n s 1 ≡ false → is_alert_too_many config s a ≡ true → IsAnswer (insert_cause config n s a) TooManyAlerts
  answer_names e f = subst (λ o. IsAnswer o TooManyAlerts) (sym (cause_is true (makes_too_many config s a) e f refl)) refl

  pub answer_groups : is_full config n s 1 ≡ false → is_alert_too_many config s a ≡ false → makes_too_many config s a ≡ true → IsAnswer (insert_cause config n s a) TooManyGroups
  answer_groups e f g = subst (λ o. IsAnswer o TooManyGroups) (sym (cause_is false true e f g)) (inl refl)

  pub no_cause : is_full config n s 1 ≡ false → is_alert_too_many config s a ≡ false → makes_too_many config s a ≡ false → insert_cause config n s a ≡ None
  no_cause e f g = cause_is false false e f g

  answer_memory_at : (groups : Bool) → IsAnswer (cause_of false false groups) NoMemory
  answer_memory_at true = inr refl
  answer_memory_at false = refl

  pub answer_memory : is_full config n s 1 ≡ false → is_alert_too_many config s a ≡ false → IsAnswer (insert_cause config n s a) NoMemory
  answer_memory e f = subst (λ o. IsAnswer o NoMemory) (sym (cause_is false (makes_too_many config s a) e f refl)) (answer_memory_at (makes_too_many config s a))

-- what the code asks of an index
pub none_negated : (index : Option ℕ) (b : Bool) → is_some index ≡ not b → is_none index ≡ b
none_negated None true e = refl
none_negated None false e = absurd (cc)
none_negated (Some i) true e = absurd (cc)
none_negated (Some i) false e = refl

module _ (config : Config) (s : State) (a : AlertData) where
  -- whether an alert is new, as its index says
  new_is : (index : Option ℕ) → index ≡ position (same_alert a) s.known → is_alert_too_many config s a ≡ (nat_le config.limits.alerts (length s.known) && is_none index)
  new_is index e = ap (λ b. nat_le config.limits.alerts (length s.known) && b) (sym (none_any (same_alert a) s.known) ∙ ap (λ o. is_none o) (sym e))

  pub names_many : (index : Option ℕ) → index ≡ position (same_alert a) s.known → is_none index ≡ true → config.limits.alerts ≤ length s.known → is_alert_too_many config s a ≡ true
  names_many index e none many =
      let full : nat_le config.limits.alerts (length s.known) ≡ true = grind (arith, nat_tests) in
      new_is index e ∙ (ap (λ b. nat_le config.limits.alerts (length s.known) && b) none ∙ ap (λ b. b && true) full)

  pub names_few : length s.known < config.limits.alerts → is_alert_too_many config s a ≡ false
  names_few few =
      let spare : nat_le config.limits.alerts (length s.known) ≡ false = grind (arith, nat_tests) in
      ap (λ b. b && not (list_any (same_alert a) s.known)) spare

  pub names_known : (index : Option ℕ) → index ≡ position (same_alert a) s.known → is_none index ≡ false → is_alert_too_many config s a ≡ false
  names_known index e some =
      new_is index e ∙ (ap (λ b. nat_le config.limits.alerts (length s.known) && b) some ∙ and_right (nat_le config.limits.alerts (length s.known)) false refl)

-- the groups that have to be made, counted in what is kept
pub missing_is : (gs : List Group) (name : GroupName) → is_none (position (λ g. same_name name g.name) gs) ≡ not (has_group (map group_state gs) name)
missing_is gs name = ap (λ o. is_none o) (sym (position-map group_state (is_named name) gs)) ∙ none_any (is_named name) (map group_state gs)

pub made_is : (config : Config) (labels : List Label) (gs : List Group) (ps : List Placement) → map (λ p. p.name) ps ≡ names_for config labels → AreFound gs ps → count_by (λ p. is_none p.index) ps ≡ count_by (λ name. not (has_group (map group_state gs) name)) (names_for config labels)
made_is config labels gs ps e found =
    let Is : Placement → Type 0 = λ p. IsFound gs (target_of p) in
    count_alike (λ (p : Placement). is_none p.index) (λ p. is_none (index_in p.name gs)) ps
    (all-weaker Is (λ p. is_none p.index ≡ is_none (index_in p.name gs)) (λ p at. ap (λ o. is_none o) at) ps (all_to Is ps found))
    ∙ (count_mapped (λ (p : Placement). p.name) (λ p. is_none (index_in p.name gs)) (λ name. not (has_group (map group_state gs) name)) (λ p. missing_is gs p.name) ps
    ∙ ap (count_by (λ name. not (has_group (map group_state gs) name))) e)

pub count_is : (config : Config) (labels : List Label) (ps : List Placement) → map (λ p. p.name) ps ≡ names_for config labels → length ps ≡ length (names_for config labels)
count_is config labels ps e = sym (length-map ps (λ (p : Placement). p.name)) ∙ ap length e

-- what holds of placements that have all that they need
module _ (tree : RoutingTree) (gs : List Group) (m : MemberState) (ps : List Placement) (are : All (IsToPut tree gs m) ps) where
  pub are_found : AreFound gs ps
  are_found i d within = (are i d within).0

  pub are_empty : All IsEmptyWithSpace ps
  are_empty i d within = (are i d within).1

  pub are_placed : All (IsPlacementOf tree m) ps
  are_placed i d within = (are i d within).2

-- a state that holds what it held stays
pub stays_reserved : (config : Config) (old new : kept.State) → StateInvariant config old → IsReservedState old new → LeavesUnchanged config old new
stays_reserved config old new good kept =
    let logged : All (IsPrepared config new.log) old.flushes.items = subst (λ log. All (IsPrepared config log) old.flushes.items) (sym kept.log) good.prepared in
    record {
      state = kept.state;
      routed = subst (AreRouted config.routes) (sym kept.names) good.routed;
      prepared = subst (All (IsPrepared config new.log)) (ap deque_items (sym kept.flushes)) logged;
      marked = λ name. ap (λ ms. is_marked ms name) kept.marks ∙ (good.marked name ∙ ap (λ (os : List OpenFlush). is_flushing (map flush_state os) name) (ap deque_items (sym kept.flushes)));
      history = kept.history;
      records = kept.records;
      space = omega (arith, good.space, kept.records, kept.capacity, ap deque_len kept.flushes);
    }

-- the same, as the code counts in what it lent
pub made_counted : (config : Config) (labels : List Label) (gs : List Group) (ps lent : List Placement) (made : ℕ) → lent ≡ ps → made ≡ count_by (λ p. is_none p.index) lent → map (λ p. p.name) ps ≡ names_for config labels → AreFound gs ps
    → made ≡ count_by (λ name. not (has_group (map group_state gs) name)) (names_for config labels)
made_counted config labels gs ps lent made e returned names found =
    returned ∙ (ap (count_by (λ (p : Placement). is_none p.index)) e ∙ made_is config labels gs ps names found)

-- whether too many groups would be made, in what is kept
makes_is : (config : Config) (s : kept.State) (a : AlertData) (made : ℕ) → made ≡ (inserted config (state_of s) a).made → makes_too_many config (state_of s) a ≡ nat_lt config.limits.groups (length s.groups.items + made)
makes_is config s a made e =
    let count : length (map group_state s.groups.items) ≡ length s.groups.items = length-map s.groups.items group_state in
    ap (λ n. nat_lt config.limits.groups (n + (inserted config (state_of s) a).made)) count ∙ ap (λ n. nat_lt config.limits.groups (length s.groups.items + n)) (sym e)

pub makes_many : (config : Config) (s : kept.State) (a : AlertData) (made : ℕ) → made ≡ (inserted config (state_of s) a).made → config.limits.groups < length s.groups.items + made → makes_too_many config (state_of s) a ≡ true
makes_many config s a made e many = makes_is config s a made e ∙ more_is config.limits.groups (length s.groups.items + made) many

pub makes_few : (config : Config) (s : kept.State) (a : AlertData) (made : ℕ) → made ≡ (inserted config (state_of s) a).made → length s.groups.items + made ≤ config.limits.groups → makes_too_many config (state_of s) a ≡ false
makes_few config s a made e few = makes_is config s a made e ∙ no_more_is config.limits.groups (length s.groups.items + made) few

-- what an insert returns
pub inserted_is : (config : Config) (s : State) (a : AlertData) (groups made : ℕ) → groups ≡ length (names_for config a.labels) → made ≡ (inserted config s a).made → inserted config s a ≡ record { stamp = s.inserts + 1; groups = groups; made = made }
inserted_is config s a groups made e f =
    ap (λ (n : ℕ). record { stamp = s.inserts + 1; groups = n; made = (inserted config s a).made }) (sym e)
    ∙ ap (λ (n : ℕ). record { stamp = s.inserts + 1; groups = groups; made = n }) (sym f)

-- the state that an insert leaves
pub insert_leaves : (config : Config) (old reserved new : kept.State) (t now : ℕ) (a copy : AlertData) (ps : List Placement) → (t ≤ MAX_TIME → All (IsPlacementOf config.routes (stamped_alert copy (reserved.inserts + 1))) ps → map (λ p. p.name) ps ≡ names_for config copy.labels → state_of new ≡ after_insert config (state_of reserved) t copy) → IsReservedState old reserved → copy ≡ a → t ≡ time (state_of old) now → old.clock ≤ MAX_TIME → All (IsPlacementOf config.routes (stamped_alert a (old.inserts + 1))) ps → map (λ p. p.name) ps ≡ names_for config a.labels → state_of new ≡ after_insert config (state_of old) (time (state_of old) now) a
insert_leaves config old reserved new t now a copy ps left kept same at clock placed names =
    let early : t ≤ MAX_TIME = omega (arith, at, clock) in
    let stamped : All (IsPlacementOf config.routes (stamped_alert copy (old.inserts + 1))) ps = subst (λ (x : AlertData). All (IsPlacementOf config.routes (stamped_alert x (old.inserts + 1))) ps) (sym same) placed in
    let placed_copy : All (IsPlacementOf config.routes (stamped_alert copy (reserved.inserts + 1))) ps = subst (λ (n : ℕ). All (IsPlacementOf config.routes (stamped_alert copy (n + 1))) ps) (sym kept.inserts) stamped in
    let names_copy : map (λ p. p.name) ps ≡ names_for config copy.labels = subst (λ (x : AlertData). map (λ p. p.name) ps ≡ names_for config x.labels) (sym same) names in
    left early placed_copy names_copy
    ∙ (ap (λ (s : State). after_insert config s t copy) kept.state
    ∙ (ap (λ (n : ℕ). after_insert config (state_of old) n copy) at ∙ ap (λ (x : AlertData). after_insert config (state_of old) (time (state_of old) now) x) same))
