-- What a history's length bounds in the state after it, and which routes the groups are of.
use Rattle.std.proofs.Common.{◌≡◌, ℕ, ◌+◌, ◌*◌, ◌≤◌, Bool, true, false, cond, not, Option, Some, None, List, [], ◌∷◌, ◌++◌, length, refl, sym, ap, subst, arith}
use Rattle.std.specs.Prelude.{All, filter, sum_by, ◌==◌}
use Rattle.std.specs.List.{AllByRecursion}
use Rattle.am_alerts.specs.AlertData.{AlertData, is_resolved}
use Rattle.am_alerts.specs.RoutingTree.{last_of}
use Rattle.am_retry.specs.declared.outcome.Outcome.{Outcome}
use Rattle.am_model.specs.declared.config.Config.{Config}
use Rattle.am_model.specs.declared.config.Integration.{Integration}
use Rattle.am_model.specs.declared.record.Call.{Call}
use Rattle.am_model.specs.declared.record.Call.TheVariants.{Insert, Silence, Begin, Finish, Maintain, RemoveEmptyGroups, Forget, Load, Note}
use Rattle.am_model.specs.declared.record.Record.{Record}
use Rattle.am_model.specs.Begin.{due_cmp, may_begin, taken, notified_of, begun_group, without_resolved, flush_notifying, after_notifying, after_taking}
use Rattle.am_model.specs.Finish.{leaves_by, finished_group, after_finish, after_finish_of}
use Rattle.am_model.specs.Insert.{names_for, next_stamp, after_insert}
use Rattle.am_model.specs.Lists.{changed_where}
use Rattle.am_model.specs.Note.{with_note, may_note, after_note, after_note_of}
use Rattle.am_model.specs.Replay.{after, after_call, replay, replay_from}
use Rattle.am_model.specs.State.{MemberState, GroupState, FlushState, State, opening_state, time, at_time, is_named, flush_numbered}
use Rattle.am_model.specs.Maintenance.{has_no_alerts, after_maintain, after_removal}
use Rattle.am_model.proofs.legal.BoundedAlerts.{count_alerts, count_alerts-sum, count-filter, count-changed, count-each, length-filter, length-names, routed-each, routed-names}
use Rattle.am_model.proofs.lists.Distinct.{all_from, all-filter, all-least, all-map, all-push, all-weaker}

-- the last position of a route
abbrev pub last_route : Config → ℕ
last_route config = last_of config.routes

-- the state after so many records: at most so many inserts and flushes, groups and flushes of routes that are there, and no more alerts than each insert adds to a group of each route
pub record IsBounded (config : Config) (records : ℕ) (s : State) : Type 0 where
  pub inserts : s.inserts ≤ records
  pub next_number : s.next_number ≤ records + 1
  pub groups : All (λ g. g.name.route ≤ last_route config) s.groups
  pub flushes : All (λ f. f.group.route ≤ last_route config) s.flushes
  pub alerts : last_route config ≤ 16_383 → sum_by (λ g. length g.members) s.groups ≤ 16_384 * s.inserts

-- what doesn't depend on the number of records, by recursion along the lists
record IsSmall (config : Config) (s : State) : Type 0 where
  groups : AllByRecursion (λ g. g.name.route ≤ last_route config) s.groups
  flushes : AllByRecursion (λ f. f.group.route ≤ last_route config) s.flushes
  alerts : last_route config ≤ 16_383 → count_alerts s.groups ≤ 16_384 * s.inserts

-- a step counts one insert and one flush at most
record IsStep (s after : State) : Type 0 where
  inserts : after.inserts ≤ s.inserts + 1
  next_number : after.next_number ≤ s.next_number + 1

bounded_from : (config : Config) (records : ℕ) (s : State) → s.inserts ≤ records → s.next_number ≤ records + 1 → IsSmall config s → IsBounded config records s
bounded_from config records s few numbers h =
    record {
      inserts = few;
      next_number = numbers;
      groups = all_from (λ (g : GroupState). g.name.route ≤ last_route config) s.groups h.groups;
      flushes = all_from (λ (f : FlushState). f.group.route ≤ last_route config) s.flushes h.flushes;
      alerts = λ within. subst (λ n. n ≤ 16_384 * s.inserts) (sym (count_alerts-sum s.groups)) (h.alerts within);
    }

-- ---- what each call keeps

-- a change of groups that keeps their names
routed-changed : (most : ℕ) (test : GroupState → Bool) (f : GroupState → GroupState) → ((g : GroupState) → (f g).name ≡ g.name) → (gs : List GroupState) → AllByRecursion (λ g. g.name.route ≤ most) gs → AllByRecursion (λ g. g.name.route ≤ most) (changed_where test f gs)
routed-changed most test f names gs all =
    let P : GroupState → Type 0 = λ g. g.name.route ≤ most in
    let change : GroupState → GroupState = λ g. cond (test g) (f g) g in
    all-map change P gs (all-weaker P (λ g. P (change g)) (λ g h. by g (test g) h) gs all)
  where
    by : (g : GroupState) (b : Bool) → g.name.route ≤ most → (cond b (f g) g).name.route ≤ most
    by g true h = subst (λ n. n.route ≤ most) (sym (names g)) h
    by g false h = h

small_insert : (config : Config) (s : State) (t : ℕ) (a : AlertData) → IsSmall config s → IsSmall config (after_insert config s t a)
small_insert config s t a h =
    let m : MemberState = record { alert = a; stamp = next_stamp s } in
    let names = names_for config a.labels in
    record {
      groups = routed-each config t m (last_route config) names s.groups (routed-names config a.labels) h.groups;
      flushes = h.flushes;
      alerts = λ within. let before = h.alerts within in omega (arith, before, within, count-each config t m names s.groups, length-names config a.labels);
    }

small_at : (config : Config) (s : State) (t : ℕ) → IsSmall config s → IsSmall config (at_time s t)
small_at config s t h = record { groups = h.groups; flushes = h.flushes; alerts = h.alerts }

-- groups that are changed without a new name or a new alert
small_changed : (config : Config) (s : State) (test : GroupState → Bool) (f : GroupState → GroupState) (flushes : List FlushState) → IsSmall config s → ((g : GroupState) → (f g).name ≡ g.name) → ((g : GroupState) → length (f g).members ≤ length g.members) → AllByRecursion (λ f. f.group.route ≤ last_route config) flushes → (after : State) → after.groups ≡ changed_where test f s.groups → after.flushes ≡ flushes → after.inserts ≡ s.inserts → IsSmall config after
small_changed config s test f flushes h names fewer all after is same steady =
    record {
      groups = subst (AllByRecursion (λ g. g.name.route ≤ last_route config)) (sym is) (routed-changed (last_route config) test f names s.groups h.groups);
      flushes = subst (AllByRecursion (λ f. f.group.route ≤ last_route config)) (sym same) all;
      alerts = λ within.
          let before = h.alerts within in
          let less = count-changed test f fewer s.groups in
          let now : count_alerts after.groups ≡ count_alerts (changed_where test f s.groups) = ap count_alerts is in
          omega (arith, before, less, now, steady);
    }

-- the route of the group that is taken
taken-routed : (config : Config) (s : State) (t : ℕ) (g : GroupState) → IsSmall config s → taken s t ≡ Some g → g.name.route ≤ last_route config
taken-routed config s t g h e =
    let P : GroupState → Type 0 = λ k. k.name.route ≤ last_route config in
    all-least P due_cmp g (filter (may_begin s t) s.groups) (all-filter P (may_begin s t) s.groups h.groups) e

small_notifying : (config : Config) (s : State) (t : ℕ) (g : GroupState) (notified : List (ℕ × Integration)) → g.name.route ≤ last_route config → IsSmall config s → IsSmall config (after_notifying config s t g notified)
small_notifying config s t g [] routed h =
    small_changed config s (is_named g.name) (λ k. without_resolved t (begun_group config t k)) s.flushes h (λ k. refl)
    (λ k. length-filter (λ (m : MemberState). not (is_resolved m.alert t)) k.members) h.flushes (after_notifying config s t g []) refl refl refl
small_notifying config s t g (i ∷ is) routed h =
    let f = flush_notifying config s t g (i ∷ is) in
    small_changed config s (is_named g.name) (begun_group config t) (s.flushes ++ f ∷ []) h (λ k. refl) (λ k. omega arith)
    (all-push (λ (k : FlushState). k.group.route ≤ last_route config) s.flushes f h.flushes routed) (after_notifying config s t g (i ∷ is)) refl refl refl

small_taking : (config : Config) (s : State) (t : ℕ) (o : Option GroupState) → taken s t ≡ o → IsSmall config s → IsSmall config (after_taking config s t o)
small_taking config s t None e h = small_at config s t h
small_taking config s t (Some g) e h = small_notifying config s t g (notified_of config s t g) (taken-routed config s t g h e) h

small_finish : (config : Config) (s : State) (t : ℕ) (outcomes : List (ℕ × Outcome)) (o : Option FlushState) → IsSmall config s → IsSmall config (after_finish_of config s t outcomes o)
small_finish config s t outcomes None h = small_at config s t h
small_finish config s t outcomes (Some f) h =
    let P : FlushState → Type 0 = λ k. k.group.route ≤ last_route config in
    let stays : FlushState → Bool = λ k. not (k.number == f.number) in
    small_changed config s (is_named f.group) (finished_group outcomes f) (filter stays s.flushes) h (λ k. refl)
    (λ k. length-filter (λ m. not (leaves_by outcomes f m)) k.members) (all-filter P stays s.flushes h.flushes) (after_finish config s t outcomes f) refl refl refl

small_removal : (config : Config) (s : State) (t : ℕ) → IsSmall config s → IsSmall config (after_removal s t)
small_removal config s t h =
    let stays : GroupState → Bool = λ g. not (has_no_alerts g) in
    record {
      groups = all-filter (λ (g : GroupState). g.name.route ≤ last_route config) stays s.groups h.groups;
      flushes = h.flushes;
      alerts = λ within. let before = h.alerts within in let less = count-filter stays s.groups in omega (arith, before, less);
    }

small_maintain : (config : Config) (s : State) (t : ℕ) → IsSmall config s → IsSmall config (after_maintain s t)
small_maintain config s t h =
    let removed = small_removal config s t h in record { groups = removed.groups; flushes = removed.flushes; alerts = removed.alerts }

small_note : (config : Config) (s : State) (t integration : ℕ) (outcome : Option Outcome) (o : Option FlushState) → IsSmall config s → IsSmall config (after_note_of config s t integration outcome o)
small_note config s t integration outcome None h = small_at config s t h
small_note config s t integration outcome (Some f) h =
    elim (may_note integration outcome f) as (λ b. IsSmall config (cond b (after_note config s t integration f) (at_time s t))) [
      | true ↦ record { groups = h.groups; flushes = noted; alerts = h.alerts }
      | false ↦ small_at config s t h
    ]
  where
    by : (k : FlushState) (b : Bool) → k.group.route ≤ last_route config → (cond b (with_note integration k) k).group.route ≤ last_route config
    by k true h = h
    by k false h = h

    noted : AllByRecursion (λ k. k.group.route ≤ last_route config) (changed_where (λ k. k.number == f.number) (with_note integration) s.flushes)
    noted =
        let P : FlushState → Type 0 = λ k. k.group.route ≤ last_route config in
        let change : FlushState → FlushState = λ k. cond (k.number == f.number) (with_note integration k) k in
        all-map change P s.flushes (all-weaker P (λ k. P (change k)) (λ k routed. by k (k.number == f.number) routed) s.flushes h.flushes)

small_call : (config : Config) (s : State) (c : Call) → IsSmall config s → IsSmall config (after_call config s c)
small_call config s (Insert now alert) h = small_insert config s (time s now) alert h
small_call config s (Silence now number matchers start end) h = record { groups = h.groups; flushes = h.flushes; alerts = h.alerts }
small_call config s (Begin now) h = small_taking config s (time s now) (taken s (time s now)) refl h
small_call config s (Finish now number outcomes) h = small_finish config s (time s now) outcomes (flush_numbered s.flushes number) h
small_call config s (Maintain now) h = small_maintain config s (time s now) h
small_call config s (RemoveEmptyGroups now) h = small_removal config s (time s now) h
small_call config s (Forget now) h = record { groups = h.groups; flushes = h.flushes; alerts = h.alerts }
small_call config s (Load now row) h = record { groups = h.groups; flushes = h.flushes; alerts = h.alerts }
small_call config s (Note now number integration outcome) h = small_note config s (time s now) integration outcome (flush_numbered s.flushes number) h

-- ---- the numbers

step_notifying : (config : Config) (s : State) (t : ℕ) (g : GroupState) (notified : List (ℕ × Integration)) → IsStep s (after_notifying config s t g notified)
step_notifying config s t g [] = record { inserts = omega arith; next_number = omega arith }
step_notifying config s t g (i ∷ is) = record { inserts = omega arith; next_number = omega arith }

step_taking : (config : Config) (s : State) (t : ℕ) (o : Option GroupState) → IsStep s (after_taking config s t o)
step_taking config s t None = record { inserts = omega arith; next_number = omega arith }
step_taking config s t (Some g) = step_notifying config s t g (notified_of config s t g)

step_finish : (config : Config) (s : State) (t : ℕ) (outcomes : List (ℕ × Outcome)) (o : Option FlushState) → IsStep s (after_finish_of config s t outcomes o)
step_finish config s t outcomes None = record { inserts = omega arith; next_number = omega arith }
step_finish config s t outcomes (Some f) = record { inserts = omega arith; next_number = omega arith }

step_note : (config : Config) (s : State) (t integration : ℕ) (outcome : Option Outcome) (o : Option FlushState) → IsStep s (after_note_of config s t integration outcome o)
step_note config s t integration outcome None = record { inserts = omega arith; next_number = omega arith }
step_note config s t integration outcome (Some f) =
    elim (may_note integration outcome f) as (λ b. IsStep s (cond b (after_note config s t integration f) (at_time s t))) [
      | true ↦ record { inserts = omega arith; next_number = omega arith }
      | false ↦ record { inserts = omega arith; next_number = omega arith }
    ]

step_call : (config : Config) (s : State) (c : Call) → IsStep s (after_call config s c)
step_call config s (Insert now alert) = record { inserts = omega arith; next_number = omega arith }
step_call config s (Silence now number matchers start end) = record { inserts = omega arith; next_number = omega arith }
step_call config s (Begin now) = step_taking config s (time s now) (taken s (time s now))
step_call config s (Finish now number outcomes) = step_finish config s (time s now) outcomes (flush_numbered s.flushes number)
step_call config s (Maintain now) = record { inserts = omega arith; next_number = omega arith }
step_call config s (RemoveEmptyGroups now) = record { inserts = omega arith; next_number = omega arith }
step_call config s (Forget now) = record { inserts = omega arith; next_number = omega arith }
step_call config s (Load now row) = record { inserts = omega arith; next_number = omega arith }
step_call config s (Note now number integration outcome) = step_note config s (time s now) integration outcome (flush_numbered s.flushes number)

-- ---- along a history

small_from : (config : Config) (s : State) (history : List Record) → IsSmall config s → IsSmall config (replay_from config s history)
small_from config s [] h = h
small_from config s (r ∷ history) h = small_from config (after config s r) history (small_call config s r.call h)

inserts_from : (config : Config) (s : State) (history : List Record) → (replay_from config s history).inserts ≤ s.inserts + length history
inserts_from config s [] = omega arith
inserts_from config s (r ∷ history) =
    let here = (step_call config s r.call).inserts in
    let rest = inserts_from config (after config s r) history in
    omega (arith, here, rest)

numbers_from : (config : Config) (s : State) (history : List Record) → (replay_from config s history).next_number ≤ s.next_number + length history
numbers_from config s [] = omega arith
numbers_from config s (r ∷ history) =
    let here = (step_call config s r.call).next_number in
    let rest = numbers_from config (after config s r) history in
    omega (arith, here, rest)

pub bounded : (config : Config) (history : List Record) → IsBounded config (length history) (replay config history)
bounded config history =
    let first : IsSmall config opening_state = record { groups = tt; flushes = tt; alerts = λ within. omega arith } in
    let few = inserts_from config opening_state history in
    let numbers = numbers_from config opening_state history in
    bounded_from config (length history) (replay config history) (omega (arith, few)) (omega (arith, numbers)) (small_from config opening_state history first)
