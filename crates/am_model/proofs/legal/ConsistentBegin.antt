-- A begin keeps a state consistent: the group whose flush it opens has alerts, and no other flush of it is open.
use Rattle.std.proofs.Common.{◌≡◌, ℕ, ◌+◌, ◌≤◌, Bool, true, false, cond, not, ◌&&◌, Option, Some, None, List, [], ◌∷◌, ◌++◌, refl, sym, ap, ◌∙◌, subst, arith}
use Rattle.std.specs.Prelude.{filter, ◌==◌, nat_le}
use Rattle.std.specs.List.{enumerate_from, AllByRecursion, IsDistinct}
use Rattle.std.proofs.lemmas.Bool.{ne_eqb}
use Rattle.std.proofs.lemmas.Map.Keys.{IsDistinct-head, IsDistinct-tail, IsDistinct-cons}
use Rattle.am_alerts.specs.AlertData.{AlertData, is_resolved}
use Rattle.am_alerts.specs.declared.limits.TheConstants.{MAX_TIME}
use Rattle.am_nflog.specs.Members.{is_empty}
use Rattle.am_model.specs.declared.config.Config.{Config}
use Rattle.am_model.specs.declared.config.Integration.{Integration}
use Rattle.am_model.specs.declared.group.GroupName.{GroupName}
use Rattle.am_model.specs.Begin.{due_cmp, may_begin, taken, label_sets, firing_of, resolved_of, needs, alert_cmp, notified_about, notified_of, begun_group, without_resolved, notified_state, flush_notifying, after_notifying, after_taking, after_begin}
use Rattle.am_model.specs.Configured.{integrations_named, integrations_of, route_of, route_muted}
use Rattle.am_model.specs.Insert.{same_group}
use Rattle.am_model.specs.Laws.{same_flushed, same_number, same_notified}
use Rattle.am_model.specs.Lists.{changed_where, in_order, unless, without}
use Rattle.am_model.specs.State.{MemberState, GroupState, FlushState, State, same_name, is_named, is_flushing}
use Rattle.am_model.proofs.legal.ConsistentFinish.{steady-at, tidy-fewer, tidy-changed, distinct-changed}
use Rattle.am_model.proofs.legal.ConsistentGroups.{members_of, members_of-own, members_of-elsewhere, members_of-kept}
use Rattle.am_model.proofs.lists.Distinct.{IsDistinct-nil, IsDistinct-filter, IsDistinct-map, all-filter, all-least, all-none, all-passes, all-push, all-weaker, all-both}
use Rattle.am_model.proofs.legal.ConsistentState.{IsOpen, IsSteady}
use Rattle.am_model.proofs.states.Alike.{same_flushed_equiv, same_number_equiv}

-- ---- the group that is taken

-- no open flush is of the group, and its alerts are those of the group of its name
pub record IsTaken (s : State) (g : GroupState) : Type 0 where
  pub free : AllByRecursion (λ f. same_name g.name f.group ≡ false) s.flushes
  pub own : members_of s.groups g.name ≡ g.members

free_from : (due flushing : Bool) → (due && not flushing) ≡ true → flushing ≡ false
free_from true true e = absurd (cc)
free_from true false e = refl
free_from false flushing e = absurd (cc)

pub taken-is : (s : State) (t : ℕ) (g : GroupState) → IsDistinct same_group s.groups → taken s t ≡ Some g → IsTaken s g
taken-is s t g h e =
    let may : GroupState → Type 0 = λ k. may_begin s t k ≡ true in
    let own : GroupState → Type 0 = λ k. members_of s.groups k.name ≡ k.members in
    let test = may_begin s t in
    all-least (IsTaken s) due_cmp g (filter test s.groups)
    (all-both may own (IsTaken s)
    (λ k passes is. record { free = all-none (λ (f : FlushState). same_name k.name f.group) s.flushes (free_from (nat_le k.due t) (is_flushing s.flushes k.name) passes); own = is })
    (filter test s.groups) (all-passes test s.groups) (all-filter own test s.groups (members_of-own s.groups h)))
    e

-- ---- whom a flush notifies

-- the indexes of a list's elements
later_indexes : {X : Type 0} (n : ℕ) (xs : List X) → AllByRecursion (λ p. n ≤ p.0) (enumerate_from n xs)
later_indexes n [] = tt
later_indexes {X = X} n (x ∷ xs) =
    let rest = later_indexes (n + 1) xs in
    let P : ℕ × X → Type 0 = λ p. n + 1 ≤ p.0 in
    (omega arith, all-weaker P (λ p. n ≤ p.0) (λ p h. omega (arith, h)) (enumerate_from (n + 1) xs) rest)

pub distinct_indexes : {X : Type 0} (n : ℕ) (xs : List X) → IsDistinct (λ (p q : ℕ × X). p.0 == q.0) (enumerate_from n xs)
distinct_indexes {X = X} n [] = IsDistinct-nil (λ (p q : ℕ × X). p.0 == q.0)
distinct_indexes {X = X} n (x ∷ xs) =
    let like : ℕ × X → ℕ × X → Bool = λ p q. p.0 == q.0 in
    let P : ℕ × X → Type 0 = λ p. n + 1 ≤ p.0 in
    let later : (p : ℕ × X) → n + 1 ≤ p.0 → (n == p.0) ≡ false = λ p h. ne_eqb n p.0 (λ e. omega (arith, e, h)) in
    IsDistinct-cons like (n, x) (enumerate_from (n + 1) xs)
    (all-weaker P (λ p. (n == p.0) ≡ false) later (enumerate_from (n + 1) xs) (later_indexes (n + 1) xs))
    (distinct_indexes (n + 1) xs)

-- a flush notifies each integration once
module _ (config : Config) (s : State) (t : ℕ) where
  distinct_notified : (g : GroupState) → IsDistinct (λ (p q : ℕ × Integration). p.0 == q.0) (notified_of config s t g)
  distinct_notified g =
      let like : ℕ × Integration → ℕ × Integration → Bool = λ p q. p.0 == q.0 in
      let firing = label_sets (firing_of config s t g) in
      let resolved = label_sets (resolved_of config s t g) in
      let all = integrations_of config g.name in
      let some = filter (needs config s t g.name firing resolved) all in
      elim (is_empty firing && is_empty resolved) as (λ b. IsDistinct like (cond b [] some)) [
        | true ↦ IsDistinct-nil like
        | false ↦ IsDistinct-filter like (needs config s t g.name firing resolved) all (distinct_indexes 0 (integrations_named (route_of config g.name).receiver config.receivers))
      ]

  -- none is notified about a group without alerts
  none_notified : (name : GroupName) (due : ℕ) (flushed : Bool) → notified_of config s t (record { name = name; due = due; flushed = flushed; members = [] }) ≡ []
  none_notified name due flushed =
      ap (λ xs. notified_about config s t name (label_sets (in_order alert_cmp (without (λ a. is_resolved a t) xs))) (label_sets (in_order alert_cmp (filter (λ a. is_resolved a t) xs))))
      (none-unless (route_muted config name t))
    where
      none-unless : (o : Option ℕ) → unless {X = AlertData} o [] ≡ []
      none-unless None = refl
      none-unless (Some until) = refl

  some_members : (name : GroupName) (due : ℕ) (flushed : Bool) (members : List MemberState) (i : ℕ × Integration) (is : List (ℕ × Integration)) → notified_of config s t (record { name = name; due = due; flushed = flushed; members = members }) ≡ i ∷ is → is_empty members ≡ false
  some_members name due flushed [] i is e = let no : [] ≡ i ∷ is = sym (none_notified name due flushed) ∙ e in absurd (cc)
  some_members name due flushed (m ∷ ms) i is e = refl

-- ---- the two ways that a begin goes on

-- nothing is to be reported: the resolved alerts leave
quiet : (config : Config) (s : State) (t : ℕ) (g : GroupState) → t ≤ MAX_TIME → IsTaken s g → IsSteady s → IsSteady (after_notifying config s t g [])
quiet config s t g within at h =
    let change : GroupState → GroupState = λ k. without_resolved t (begun_group config t k) in
    record {
      clock = within;
      known = h.known;
      groups = distinct-changed (is_named g.name) change (λ k. refl) s.groups h.groups;
      tidy =
          tidy-changed s.inserts (is_named g.name) change
          (λ k tidy. tidy-fewer s.inserts (λ m. not (is_resolved m.alert t)) k tidy (change k) refl) s.groups h.tidy;
      silences = h.silences;
      rows = h.rows;
      flushes = h.flushes;
      numbers = h.numbers;
      opened =
          all-both (λ f. same_name g.name f.group ≡ false) (IsOpen s.next_number s.groups) (IsOpen s.next_number (changed_where (is_named g.name) change s.groups))
          (λ f apart o. record { number = o.number; notified = o.notified; each_once = o.each_once; alive = ap is_empty (members_of-elsewhere g.name change (λ k. refl) f.group apart s.groups) ∙ o.alive })
          s.flushes at.free h.opened;
    }

-- no flush but the last is like one that none before it is like
distinct-last : (like : FlushState → FlushState → Bool) → ((x y : FlushState) → like x y ≡ like y x) → (f : FlushState) (fs : List FlushState) → AllByRecursion (λ k. like f k ≡ false) fs → IsDistinct like fs → IsDistinct like (fs ++ f ∷ [])
distinct-last like turns f [] all h = IsDistinct-cons like f [] tt h
distinct-last like turns f (k ∷ fs) all h =
    IsDistinct-cons like k (fs ++ f ∷ [])
    (all-push (λ z. like k z ≡ false) fs f (IsDistinct-head like k fs h) (turns k f ∙ all.0))
    (distinct-last like turns f fs all.1 (IsDistinct-tail like k fs h))

-- a flush is opened
opens : (config : Config) (s : State) (t : ℕ) (g : GroupState) (i : ℕ × Integration) (is : List (ℕ × Integration)) → t ≤ MAX_TIME → notified_of config s t g ≡ i ∷ is → IsTaken s g → IsSteady s → IsSteady (after_notifying config s t g (i ∷ is))
opens config s t g i is within notified at h =
    let change = begun_group config t in
    let groups = changed_where (is_named g.name) change s.groups in
    let f = flush_notifying config s t g (i ∷ is) in
    let next = s.next_number + 1 in
    let kept : (name : GroupName) → members_of groups name ≡ members_of s.groups name = λ name. members_of-kept g.name change (λ k. refl) (λ k. refl) name s.groups in
    let like : ℕ × Integration → ℕ × Integration → Bool = λ p q. p.0 == q.0 in
    let once : IsDistinct like (i ∷ is) = subst (IsDistinct like) notified (distinct_notified config s t g) in
    let some : is_empty g.members ≡ false = some_members config s t g.name g.due g.flushed g.members i is notified in
    record {
      clock = within;
      known = h.known;
      groups = distinct-changed (is_named g.name) change (λ k. refl) s.groups h.groups;
      tidy = tidy-changed s.inserts (is_named g.name) change (λ k tidy. record { members = tidy.members; stamps = tidy.stamps }) s.groups h.tidy;
      silences = h.silences;
      rows = h.rows;
      flushes = distinct-last same_flushed same_flushed_equiv.symm f s.flushes at.free h.flushes;
      numbers =
          distinct-last same_number same_number_equiv.symm f s.flushes
          (all-weaker (IsOpen s.next_number s.groups) (λ k. same_number f k ≡ false) (λ k o. ne_eqb s.next_number k.number (λ e. omega (arith, e, o.number))) s.flushes h.opened)
          h.numbers;
      opened =
          all-push (IsOpen next groups) s.flushes f
          (all-weaker (IsOpen s.next_number s.groups) (IsOpen next groups)
          (λ k o. record { number = omega (arith, o.number); notified = o.notified; each_once = o.each_once; alive = ap is_empty (kept k.group) ∙ o.alive })
          s.flushes h.opened)
          (record {
            number = omega arith;
            notified = refl;
            each_once = IsDistinct-map (notified_state config s t g) same_notified (i ∷ is) once;
            alive = ap is_empty (kept g.name ∙ at.own) ∙ some;
          });
    }

notifying : (config : Config) (s : State) (t : ℕ) (g : GroupState) (notified : List (ℕ × Integration)) → t ≤ MAX_TIME → notified_of config s t g ≡ notified → IsTaken s g → IsSteady s → IsSteady (after_notifying config s t g notified)
notifying config s t g [] within is at h = quiet config s t g within at h
notifying config s t g (i ∷ more) within is at h = opens config s t g i more within is at h

pub steady_begin : (config : Config) (s : State) (t : ℕ) → t ≤ MAX_TIME → IsSteady s → IsSteady (after_begin config s t)
steady_begin config s t within h =
    elim (taken s t) as (λ o. taken s t ≡ o → IsSteady (after_taking config s t o)) [
      | None ↦ λ e. steady-at s t within h
      | Some g ↦ λ e. notifying config s t g (notified_of config s t g) within refl (taken-is s t g h.groups e) h
    ] refl
