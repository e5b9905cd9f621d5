-- A finish, a note, a maintenance, a forgetting or a load keeps a state consistent.
use Rattle.std.proofs.Common.{◌≡◌, ℕ, ◌≤◌, Bool, true, false, cond, not, ◌&&◌, Option, Some, None, List, [], ◌∷◌, refl, sym, ap, ◌∙◌, subst}
use Rattle.std.specs.Prelude.{find, fold, filter, ◌==◌}
use Rattle.std.specs.List.{AllByRecursion, IsDistinct}
use Rattle.std.proofs.lemmas.Cmp.{nat_eq_equiv}
use Rattle.std.proofs.lemmas.Map.Keys.{IsDistinct-head, IsDistinct-tail}
use Rattle.am_alerts.specs.declared.limits.TheConstants.{MAX_TIME}
use Rattle.am_mute.specs.Silence.{is_over}
use Rattle.am_retry.specs.declared.outcome.Outcome.{Outcome}
use Rattle.am_nflog.specs.Members.{is_empty}
use Rattle.am_model.specs.declared.config.Config.{Config}
use Rattle.am_model.specs.declared.views.RowView.{RowView}
use Rattle.am_model.specs.Finish.{same_key, row_at, log_with, logged_by, leaves_by, finished_group, after_finish, after_finish_of}
use Rattle.am_model.specs.Forget.{is_idle, after_forget}
use Rattle.am_model.specs.Insert.{same_alert, same_member, same_group}
use Rattle.am_model.specs.Laws.{same_flushed, same_number, same_notified}
use Rattle.am_model.specs.Lists.{without, changed_where}
use Rattle.am_model.specs.Load.{may_load, loaded, is_put, rows_loading, after_load}
use Rattle.am_model.specs.Note.{as_noted, with_note, may_note, after_note, after_note_of}
use Rattle.am_model.specs.State.{MemberState, GroupState, NotifiedState, FlushState, State, at_time, same_name, is_named, flush_numbered}
use Rattle.am_model.specs.Maintenance.{same_silence, has_no_alerts, has_expired, after_maintain, after_removal}
use Rattle.am_model.proofs.lists.Words.{IsDistinct-upsert}
use Rattle.am_model.proofs.legal.ConsistentGroups.{members_of-elsewhere, alive-kept}
use Rattle.am_model.proofs.lists.Distinct.{IsDistinct-filter, IsDistinct-changed, all-filter, all-find, all-passes, all-weaker, all-both, all-map}
use Rattle.am_model.proofs.legal.ConsistentState.{IsTidy, IsOpen, IsSteady}
use Rattle.am_model.proofs.states.Alike.{same_flushed_equiv, same_key_equiv}
use Rattle.std.proofs.lemmas.Bool.{not-true}

-- the clock alone
pub steady-at : (s : State) (t : ℕ) → t ≤ MAX_TIME → IsSteady s → IsSteady (at_time s t)
steady-at s t within h =
    record {
      clock = within;
      known = h.known;
      groups = h.groups;
      tidy = h.tidy;
      silences = h.silences;
      rows = h.rows;
      flushes = h.flushes;
      numbers = h.numbers;
      opened = h.opened;
    }

-- ---- groups of which some alerts go

-- a group of which alerts go
pub tidy-fewer : (n : ℕ) (test : MemberState → Bool) (g : GroupState) → IsTidy n g → (after : GroupState) → after.members ≡ filter test g.members → IsTidy n after
tidy-fewer n test g h after is =
    record {
      members = subst (IsDistinct same_member) (sym is) (IsDistinct-filter same_member test g.members h.members);
      stamps = subst (AllByRecursion (λ m. m.stamp ≤ n)) (sym is) (all-filter (λ (m : MemberState). m.stamp ≤ n) test g.members h.stamps);
    }

-- groups that are changed where a test passes
pub tidy-changed : (n : ℕ) (test : GroupState → Bool) (f : GroupState → GroupState) → ((g : GroupState) → IsTidy n g → IsTidy n (f g)) → (gs : List GroupState) → AllByRecursion (IsTidy n) gs → AllByRecursion (IsTidy n) (changed_where test f gs)
tidy-changed n test f keeps gs all =
    all-map (λ g. cond (test g) (f g) g) (IsTidy n) gs (all-weaker (IsTidy n) (λ g. IsTidy n (cond (test g) (f g) g)) (λ g h. by g h (test g)) gs all)
  where
    by : (g : GroupState) → IsTidy n g → (b : Bool) → IsTidy n (cond b (f g) g)
    by g h true = keeps g h
    by g h false = h

-- a change of groups that keeps their names
pub distinct-changed : (test : GroupState → Bool) (f : GroupState → GroupState) → ((g : GroupState) → (f g).name ≡ g.name) → (gs : List GroupState) → IsDistinct same_group gs → IsDistinct same_group (changed_where test f gs)
distinct-changed test f names gs h =
    IsDistinct-changed same_group (λ g. cond (test g) (f g) g)
    (λ g k. ap (λ n. same_name n (cond (test k) (f k) k).name) (by g (test g)) ∙ ap (λ n. same_name g.name n) (by k (test k)))
    gs h
  where
    by : (g : GroupState) (b : Bool) → (cond b (f g) g).name ≡ g.name
    by g true = names g
    by g false = refl

-- ---- a finish

-- no flush but the one that is found is of its group
apart_from_found : (test : FlushState → Bool) (f : FlushState) (fs : List FlushState) → IsDistinct same_flushed fs → find test fs ≡ Some f → AllByRecursion (λ k. (k.number == f.number) ≡ false → same_name f.group k.group ≡ false) fs
apart_from_found test f [] h found = tt
apart_from_found test f (k ∷ fs) h found =
    let head = IsDistinct-head same_flushed k fs h in
    let tail = IsDistinct-tail same_flushed k fs h in
    elim (test k) as (λ b. cond b (Some k) (find test fs) ≡ Some f → AllByRecursion (λ k. (k.number == f.number) ≡ false → same_name f.group k.group ≡ false) (k ∷ fs)) [
      | true ↦ λ e.
          let same : k ≡ f = cc in (
            (λ apart. let own : (f.number == f.number) ≡ true = nat_eq_equiv.refl f.number in
                let other : (f.number == f.number) ≡ false = subst (λ z. (z.number == f.number) ≡ false) same apart in
                absurd (cc)),
            all-weaker (λ z. same_flushed k z ≡ false) (λ z. (z.number == f.number) ≡ false → same_name f.group z.group ≡ false)
                (λ z apart _. subst (λ y. same_flushed y z ≡ false) same apart) fs head,
          )
      | false ↦ λ e. (
        (λ _. same_flushed_equiv.symm f k ∙ all-find (λ z. same_flushed k z ≡ false) test f fs head e),
        apart_from_found test f fs tail e,
      )
    ] found

-- the flushes that stay open are of other groups
others_apart : (number : ℕ) (f : FlushState) (fs : List FlushState) → IsDistinct same_flushed fs → flush_numbered fs number ≡ Some f → AllByRecursion (λ k. same_name f.group k.group ≡ false) (without (λ k. k.number == f.number) fs)
others_apart number f fs h found =
    let P : FlushState → Type 0 = λ k. (k.number == f.number) ≡ false → same_name f.group k.group ≡ false in
    let test : FlushState → Bool = λ k. not (k.number == f.number) in
    all-both (λ k. test k ≡ true) P (λ k. same_name f.group k.group ≡ false)
    (λ k passes apart. apart (not-true (k.number == f.number) passes))
    (filter test fs) (all-passes test fs) (all-filter P test fs (apart_from_found (λ k. k.number == number) f fs h found))

-- rows that are logged one by one
distinct-rows : (config : Config) (t : ℕ) (f : FlushState) (notified : List NotifiedState) (rows : List RowView) → IsDistinct same_key rows → IsDistinct same_key (fold (λ log a. log_with (row_at config t f a.integration) log) rows notified)
distinct-rows config t f [] rows h = h
distinct-rows config t f (a ∷ notified) rows h =
    distinct-rows config t f notified (log_with (row_at config t f a.integration) rows) (IsDistinct-upsert same_key same_key_equiv (row_at config t f a.integration) rows h)

finish_open : (config : Config) (s : State) (t number : ℕ) (outcomes : List (ℕ × Outcome)) (f : FlushState) → flush_numbered s.flushes number ≡ Some f → t ≤ MAX_TIME → IsSteady s → IsSteady (after_finish config s t outcomes f)
finish_open config s t number outcomes f found within h =
    let change = finished_group outcomes f in
    let stays : FlushState → Bool = λ k. not (k.number == f.number) in
    let held = IsOpen s.next_number s.groups in
    record {
      clock = within;
      known = h.known;
      groups = distinct-changed (is_named f.group) change (λ g. refl) s.groups h.groups;
      tidy =
          tidy-changed s.inserts (is_named f.group) change
          (λ g k. tidy-fewer s.inserts (λ m. not (leaves_by outcomes f m)) g k (change g) refl) s.groups h.tidy;
      silences = h.silences;
      rows = distinct-rows config t f (logged_by outcomes f) s.rows h.rows;
      flushes = IsDistinct-filter same_flushed stays s.flushes h.flushes;
      numbers = IsDistinct-filter same_number stays s.flushes h.numbers;
      opened =
          all-both (λ k. same_name f.group k.group ≡ false) held (IsOpen s.next_number (changed_where (is_named f.group) change s.groups))
          (λ k apart o. record { number = o.number; notified = o.notified; each_once = o.each_once; alive = ap is_empty (members_of-elsewhere f.group change (λ g. refl) k.group apart s.groups) ∙ o.alive })
          (filter stays s.flushes) (others_apart number f s.flushes h.flushes found) (all-filter held stays s.flushes h.opened);
    }

pub steady_finish : (config : Config) (s : State) (t number : ℕ) (outcomes : List (ℕ × Outcome)) → t ≤ MAX_TIME → IsSteady s → IsSteady (after_finish_of config s t outcomes (flush_numbered s.flushes number))
steady_finish config s t number outcomes within h =
    elim (flush_numbered s.flushes number) as (λ o. flush_numbered s.flushes number ≡ o → IsSteady (after_finish_of config s t outcomes o)) [
      | None ↦ λ e. steady-at s t within h
      | Some f ↦ λ e. finish_open config s t number outcomes f e within h
    ] refl

-- ---- a removal of empty groups, and a maintenance

pub steady_removal : (s : State) (t : ℕ) → t ≤ MAX_TIME → IsSteady s → IsSteady (after_removal s t)
steady_removal s t within h =
    let stays : GroupState → Bool = λ g. not (has_no_alerts g) in
    record {
      clock = within;
      known = h.known;
      groups = IsDistinct-filter same_group stays s.groups h.groups;
      tidy = all-filter (IsTidy s.inserts) stays s.groups h.tidy;
      silences = h.silences;
      rows = h.rows;
      flushes = h.flushes;
      numbers = h.numbers;
      opened =
          all-weaker (IsOpen s.next_number s.groups) (IsOpen s.next_number (without has_no_alerts s.groups))
          (λ f o. record { number = o.number; notified = o.notified; each_once = o.each_once; alive = alive-kept f.group s.groups o.alive })
          s.flushes h.opened;
    }

pub steady_maintain : (s : State) (t : ℕ) → t ≤ MAX_TIME → IsSteady s → IsSteady (after_maintain s t)
steady_maintain s t within h =
    let removed = steady_removal s t within h in
    record {
      clock = removed.clock;
      known = removed.known;
      groups = removed.groups;
      tidy = removed.tidy;
      silences = removed.silences;
      rows = IsDistinct-filter same_key (λ r. not (has_expired t r)) s.rows h.rows;
      flushes = removed.flushes;
      numbers = removed.numbers;
      opened = removed.opened;
    }

-- ---- a forgetting

pub steady_forget : (s : State) (t : ℕ) → t ≤ MAX_TIME → IsSteady s → IsSteady (after_forget s t)
steady_forget s t within h =
    record {
      clock = within;
      known = IsDistinct-filter same_alert (λ a. not (is_idle s.groups t a)) s.known h.known;
      groups = h.groups;
      tidy = h.tidy;
      silences = IsDistinct-filter same_silence (λ x. not (is_over t x)) s.silences h.silences;
      rows = h.rows;
      flushes = h.flushes;
      numbers = h.numbers;
      opened = h.opened;
    }

-- ---- a load

rows_loaded : (config : Config) (rows : List RowView) (t : ℕ) (row : RowView) → IsDistinct same_key rows → IsDistinct same_key (rows_loading config rows t row)
rows_loaded config rows t row h =
    elim (may_load config t row && is_put (loaded rows t row)) as (λ b. IsDistinct same_key (cond b (log_with row rows) rows)) [
      | true ↦ IsDistinct-upsert same_key same_key_equiv row rows h
      | false ↦ h
    ]

pub steady_load : (config : Config) (s : State) (t : ℕ) (row : RowView) → t ≤ MAX_TIME → IsSteady s → IsSteady (after_load config s t row)
steady_load config s t row within h =
    record {
      clock = within;
      known = h.known;
      groups = h.groups;
      tidy = h.tidy;
      silences = h.silences;
      rows = rows_loaded config s.rows t row h.rows;
      flushes = h.flushes;
      numbers = h.numbers;
      opened = h.opened;
    }

-- ---- a note

-- a note of an integration keeps whom a flush notified
module _ (integration : ℕ) where
  noted_or : (a : NotifiedState) (b : Bool) → (cond b (as_noted a) a).integration ≡ a.integration
  noted_or a true = refl
  noted_or a false = refl

  some_noted : (notified : List NotifiedState) → is_empty notified ≡ false → is_empty (changed_where (λ a. a.integration == integration) as_noted notified) ≡ false
  some_noted [] e = e
  some_noted (a ∷ notified) e = refl

  once_noted : (notified : List NotifiedState) → IsDistinct same_notified notified → IsDistinct same_notified (changed_where (λ a. a.integration == integration) as_noted notified)
  once_noted notified h =
      IsDistinct-changed same_notified (λ a. cond (a.integration == integration) (as_noted a) a)
      (λ a b. ap (λ n. n == (cond (b.integration == integration) (as_noted b) b).integration) (noted_or a (a.integration == integration))
      ∙ ap (λ n. a.integration == n) (noted_or b (b.integration == integration)))
      notified h

  open_noted : (next : ℕ) (gs : List GroupState) (f : FlushState) → IsOpen next gs f → IsOpen next gs (with_note integration f)
  open_noted next gs f o =
      record { number = o.number; notified = some_noted f.notified o.notified; each_once = once_noted f.notified o.each_once; alive = o.alive }

  open_noted_or : (next : ℕ) (gs : List GroupState) (f : FlushState) (b : Bool) → IsOpen next gs f → IsOpen next gs (cond b (with_note integration f) f)
  open_noted_or next gs f true o = open_noted next gs f o
  open_noted_or next gs f false o = o

  group_noted_or : (f : FlushState) (b : Bool) → (cond b (with_note integration f) f).group ≡ f.group
  group_noted_or f true = refl
  group_noted_or f false = refl

  number_noted_or : (f : FlushState) (b : Bool) → (cond b (with_note integration f) f).number ≡ f.number
  number_noted_or f true = refl
  number_noted_or f false = refl

note_open : (config : Config) (s : State) (t integration : ℕ) (f : FlushState) → t ≤ MAX_TIME → IsSteady s → IsSteady (after_note config s t integration f)
note_open config s t integration f within h =
    let test : FlushState → Bool = λ k. k.number == f.number in
    let change : FlushState → FlushState = λ k. cond (test k) (with_note integration k) k in
    let held = IsOpen s.next_number s.groups in
    record {
      clock = within;
      known = h.known;
      groups = h.groups;
      tidy = h.tidy;
      silences = h.silences;
      rows = IsDistinct-upsert same_key same_key_equiv (row_at config t f integration) s.rows h.rows;
      flushes =
          IsDistinct-changed same_flushed change
          (λ k l. ap (λ n. same_name n (change l).group) (group_noted_or integration k (test k)) ∙ ap (λ n. same_name k.group n) (group_noted_or integration l (test l)))
          s.flushes h.flushes;
      numbers =
          IsDistinct-changed same_number change
          (λ k l. ap (λ n. n == (change l).number) (number_noted_or integration k (test k)) ∙ ap (λ n. k.number == n) (number_noted_or integration l (test l)))
          s.flushes h.numbers;
      opened = all-map change held s.flushes (all-weaker held (λ k. held (change k)) (λ k o. open_noted_or integration s.next_number s.groups k (test k) o) s.flushes h.opened);
    }

pub steady_note : (config : Config) (s : State) (t integration : ℕ) (outcome : Option Outcome) (f : Option FlushState) → t ≤ MAX_TIME → IsSteady s → IsSteady (after_note_of config s t integration outcome f)
steady_note config s t integration outcome None within h = steady-at s t within h
steady_note config s t integration outcome (Some f) within h =
    elim (may_note integration outcome f) as (λ b. IsSteady (cond b (after_note config s t integration f) (at_time s t))) [
      | true ↦ note_open config s t integration f within h
      | false ↦ steady-at s t within h
    ]
