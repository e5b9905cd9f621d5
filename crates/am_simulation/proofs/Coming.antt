-- What comes next: what it is about is there, and where nothing comes, nothing is in flight.
use Rattle.std.proofs.Common.{◌≡◌, ℕ, ◌+◌, ◌<◌, ◌≤◌, zero, suc, max, Bool, true, false, nat_le, nat_lt, IfSome, IsTrue, length, List, [], ◌∷◌, Option, Some, None, get_or, refl, subst, sym, ap, ◌∙◌, arith, add-zero, if◌then◌else◌, not, ◌&&◌, ◌||◌}
use Rattle.std.specs.Prelude.{is_some, slice_get}
use Rattle.std.specs.List.{list_any}
use Rattle.std.specs.Option.{IsSomeAnd}
use Rattle.std.proofs.lemmas.Bool.{false≢true, leb-true}
use Rattle.std.proofs.lemmas.Bool.Decides.{nat_tests}
use Rattle.std.proofs.lemmas.Option.{slice_get_within}
use Rattle.am_simulation.specs.Simulations.{IsThere}
use Rattle.am_simulation.specs.Next.{begin_due, begins_on, comes_by, earlier, in_time, next, next_at, next_begin, next_but_begins, next_end, next_end_of, next_finish, next_of_all, next_of_others, next_removal, none_left, next_plan, tick_after}
use Rattle.am_simulation.specs.Scene.{Scene, SendingData, Setting}
use Rattle.am_simulation.specs.declared.next.End.{End}
use Rattle.am_simulation.specs.declared.next.Next.{Next}
use Rattle.am_simulation.specs.declared.next.Step.{Step}
use Rattle.am_simulation.specs.declared.next.Step.TheVariants as step
use Rattle.am_terms.specs.declared.rehearsal.TimedAction.{TimedAction}
use Rattle.am_model.specs.Begin.{next_due}
use Rattle.am_model.specs.Maintenance.{has_no_alerts}
use Rattle.am_board.specs.History.{state_at}

-- what holds of both holds of the earlier
earlier_keeps : (P : Next → Type 0) (a b : Option Next) → IfSome a P → IfSome b P → IfSome (earlier a b) P
earlier_keeps P None b p q = q
earlier_keeps P (Some n) None p q = p
earlier_keeps P (Some n) (Some m) p q =
    elim (nat_lt m.at n.at) as (λ t. IfSome (if t then Some m else Some n) P) [ true ↦ q | false ↦ p ]

in_time_keeps : (P : Next → Type 0) (until at : ℕ) (what : Step) → (at ≤ until → P (next_at at what)) → IfSome (in_time until at what) P
in_time_keeps P until at what h = by (nat_le at until) refl
  where
    by : (b : Bool) → nat_le at until ≡ b → IfSome (if b then Some (next_at at what) else None) P
    by true is = h (leb-true at until is)
    by false is = tt

earlier_none : (a b : Option Next) → earlier a b ≡ None → (a ≡ None) × (b ≡ None)
earlier_none None b none = (refl, none)
earlier_none (Some n) None none = absurd (cc)
earlier_none (Some n) (Some m) none = absurd (by (nat_lt m.at n.at) none)
  where
    by : (t : Bool) → (if t then Some m else Some n) ≡ None → ⊥
    by true is = cc
    by false is = cc

earlier_some : (n : Next) (b : Option Next) → earlier (Some n) b ≡ None → ⊥
earlier_some n b none = let first = earlier_none (Some n) b none in cc

module _ (r : Setting) (c : Scene) where
  ends_there : (position : ℕ) (s : SendingData) → slice_get c.sendings position ≡ Some s → (index : ℕ) (es : List End) → index + length es ≤ length s.ends
      → IfSome (next_end_of position index es) (IsThere r c)
  ends_there position s is index [] within = tt
  ends_there position s is index (e ∷ es) within =
      earlier_keeps (IsThere r c) (Some (next_at e.at (step.End position index))) (next_end_of position (index + 1) es)
      (subst (λ (o : Option SendingData). IsSomeAnd o (λ t. index < length t.ends)) (sym is) (omega (arith, within)))
      (ends_there position s is (index + 1) es (omega (arith, within)))

  -- these flushes are those of the scene from a position on
  abbrev AreFrom : ℕ → List SendingData → Type 0
  AreFrom position ss = (k : ℕ) (s : SendingData) → slice_get ss k ≡ Some s → slice_get c.sendings (position + k) ≡ Some s

  first_from : (position : ℕ) (s : SendingData) (ss : List SendingData) → AreFrom position (s ∷ ss) → slice_get c.sendings position ≡ Some s
  first_from position s ss from = subst (λ (k : ℕ). slice_get c.sendings k ≡ Some s) (add-zero position) (from 0 s refl)

  rest_from : (position : ℕ) (s : SendingData) (ss : List SendingData) → AreFrom position (s ∷ ss) → AreFrom (position + 1) ss
  rest_from position s ss from =
      λ k t is. let e : position + suc k ≡ position + 1 + k = omega arith in subst (λ (n : ℕ). slice_get c.sendings n ≡ Some t) e (from (suc k) t is)

  sendings_there : (position : ℕ) (ss : List SendingData) → AreFrom position ss → IfSome (next_end position ss) (IsThere r c)
  sendings_there position [] from = tt
  sendings_there position (s ∷ ss) from =
      earlier_keeps (IsThere r c) (next_end_of position 0 s.ends) (next_end (position + 1) ss)
      (ends_there position s (first_from position s ss from) 0 s.ends (omega arith))
      (sendings_there (position + 1) ss (rest_from position s ss from))

  finish_there : (position : ℕ) (ss : List SendingData) → AreFrom position ss → IfSome (next_finish c.clock position ss) (IsThere r c)
  finish_there position [] from = tt
  finish_there position (s ∷ ss) from =
      by s.ends (slice_get_within c.sendings position s (first_from position s ss from)) (finish_there (position + 1) ss (rest_from position s ss from))
    where
      by : (es : List End) → position < length c.sendings → IfSome (next_finish c.clock (position + 1) ss) (IsThere r c)
          → IfSome (next_finish c.clock position (record { ticket = s.ticket; begin = s.begin; ends = es } ∷ ss)) (IsThere r c)
      by [] here later = here
      by (e ∷ es) here later = later

  plan_there : (ps : List TimedAction) → c.plans ≡ ps → IfSome (next_plan r.until ps) (IsThere r c)
  plan_there [] is = tt
  plan_there (p ∷ ps) is =
      in_time_keeps (IsThere r c) r.until p.at step.Plan
      (λ within. subst (λ (l : List TimedAction). IsSomeAnd (slice_get l 0) (λ q. q.at ≤ r.until)) (sym is) within)

  -- whether a begin may come
  abbrev MayBegin : Type 0
  MayBegin = IsTrue (c.begins || not c.blocked)

  begin_there : (due : Option ℕ) → MayBegin → IfSome (begin_due r.until c.clock due) (IsThere r c)
  begin_there None may = tt
  begin_there (Some due) may = in_time_keeps (IsThere r c) r.until (max due c.clock) step.Begin (λ within. (within, may))

  free_begins : (begins : Bool) → IsTrue (begins || not false)
  free_begins true = refl
  free_begins false = refl

  unblocked_there : (b : Bool) → c.blocked ≡ b → IfSome (if b then None else begin_due r.until c.clock (next_due (state_at c.board))) (IsThere r c)
  unblocked_there true is = tt
  unblocked_there false is =
      begin_there (next_due (state_at c.board)) (subst (λ (b : Bool). IsTrue (c.begins || not b)) (sym is) (free_begins c.begins))

  -- what holds of each removal holds of the next
  pub removal_keeps : (P : Next → Type 0) → ((at : ℕ) → P (next_at at step.Removal)) → IfSome (next_removal r c) P
  removal_keeps P each = by (list_any has_no_alerts (state_at c.board).groups)
    where
      by : (empty : Bool) → IfSome (if empty then in_time r.until (tick_after r.span.since r.tick c.clock) step.Removal else None) P
      by true = in_time_keeps P r.until (tick_after r.span.since r.tick c.clock) step.Removal (λ within. each (tick_after r.span.since r.tick c.clock))
      by false = tt

  removal_there : IfSome (next_removal r c) (IsThere r c)
  removal_there = removal_keeps (IsThere r c) (λ at. tt)

  others_there : IfSome (next_of_others r c) (IsThere r c)
  others_there =
      let all : AreFrom 0 c.sendings = λ k s is. let e : k ≡ 0 + k = omega arith in subst (λ (n : ℕ). slice_get c.sendings n ≡ Some s) e is in
      earlier_keeps (IsThere r c) (earlier (next_end 0 c.sendings) (next_finish c.clock 0 c.sendings))
      (earlier (next_plan r.until c.plans) (in_time r.until c.maintenance step.Maintenance))
      (earlier_keeps (IsThere r c) (next_end 0 c.sendings) (next_finish c.clock 0 c.sendings) (sendings_there 0 c.sendings all) (finish_there 0 c.sendings all))
      (earlier_keeps (IsThere r c) (next_plan r.until c.plans) (in_time r.until c.maintenance step.Maintenance) (plan_there c.plans refl)
      (in_time_keeps (IsThere r c) r.until c.maintenance step.Maintenance (λ within. tt)))

  but_begins_there : IfSome (next_but_begins r c) (IsThere r c)
  but_begins_there = earlier_keeps (IsThere r c) (next_removal r c) (next_of_others r c) removal_there others_there

  of_all_there : IfSome (next_of_all r c) (IsThere r c)
  of_all_there = earlier_keeps (IsThere r c) (next_but_begins r c) (next_begin r c) but_begins_there (unblocked_there c.blocked refl)

  some_there : IfSome (next r c) (IsThere r c)
  unfolding next
  some_there = by c.begins (nat_le c.clock r.until) refl refl
    where
      by : (b t : Bool) → c.begins ≡ b → nat_le c.clock r.until ≡ t → IfSome (if b && t then Some (next_at c.clock step.Begin) else next_of_all r c) (IsThere r c)
      by true true begins is = (leb-true c.clock r.until is, ap (λ (b : Bool). b || not c.blocked) begins)
      by true false begins is = of_all_there
      by false true begins is = of_all_there
      by false false begins is = of_all_there

  -- what the next step is about is there
  pub next_there : (n : Next) → next r c ≡ Some n → IsThere r c n
  next_there n is = subst (λ (o : Option Next). IfSome o (IsThere r c)) is some_there

  none_in_flight : (now position : ℕ) (ss : List SendingData) → next_end position ss ≡ None → next_finish now position ss ≡ None → ss ≡ []
  none_in_flight now position [] ended finished = refl
  none_in_flight now position (s ∷ ss) ended finished = absurd (by s.ends ended finished)
    where
      by : (es : List End) → earlier (next_end_of position 0 es) (next_end (position + 1) ss) ≡ None
          → (if none_left es then Some (next_at now (step.Finish position)) else next_finish now (position + 1) ss) ≡ None → ⊥
      by [] ended finished = cc
      by (e ∷ es) ended finished =
          earlier_some (next_at e.at (step.End position 0)) (next_end_of position 1 es)
          (earlier_none (next_end_of position 0 (e ∷ es)) (next_end (position + 1) ss) ended).0

  of_all_none : next_of_all r c ≡ None → (c.sendings ≡ []) × (next_plan r.until c.plans ≡ None)
  of_all_none none =
      let but_begins = (earlier_none (next_but_begins r c) (next_begin r c) none).0 in
      let others = (earlier_none (next_removal r c) (next_of_others r c) but_begins).1 in
      let both =
      earlier_none (earlier (next_end 0 c.sendings) (next_finish c.clock 0 c.sendings))
      (earlier (next_plan r.until c.plans) (in_time r.until c.maintenance step.Maintenance)) others
      in
      let over = earlier_none (next_end 0 c.sendings) (next_finish c.clock 0 c.sendings) both.0 in (
        none_in_flight c.clock 0 c.sendings over.0 over.1,
        (earlier_none (next_plan r.until c.plans) (in_time r.until c.maintenance step.Maintenance) both.1).0,
      )

  -- where nothing comes next, no flush is in flight and no plan is left up to the end
  pub next_none : next r c ≡ None → (c.sendings ≡ []) × (next_plan r.until c.plans ≡ None)
  unfolding next
  next_none none = by (begins_on r c) none
    where
      by : (b : Bool) → (if b then Some (next_at c.clock step.Begin) else next_of_all r c) ≡ None → (c.sendings ≡ []) × (next_plan r.until c.plans ≡ None)
      by true is = absurd (cc)
      by false is = of_all_none is

  -- no begin comes before now
  begin_not_before : IfSome (next_begin r c) (λ m. c.clock ≤ m.at)
  begin_not_before = by c.blocked (next_due (state_at c.board))
    where
      by : (b : Bool) (due : Option ℕ) → IfSome (if b then None else begin_due r.until c.clock due) (λ m. c.clock ≤ m.at)
      by true due = tt
      by false None = tt
      by false (Some due) = in_time_keeps (λ m. c.clock ≤ m.at) r.until (max due c.clock) step.Begin (λ within. omega arith)

  kept_first : (a b : Option Next) → comes_by c.clock a ≡ true → IfSome b (λ m. c.clock ≤ m.at) → earlier a b ≡ a
  kept_first None b now later = absurd (cc)
  kept_first (Some n) None now later = refl
  kept_first (Some n) (Some m) now later =
      let within : n.at ≤ c.clock = leb-true n.at c.clock now in
      let not_before : nat_lt m.at n.at ≡ false = grind (arith, nat_tests) in
      ap (λ (t : Bool). if t then Some m else Some n) not_before

  -- where something comes by now, it comes before all begins
  pub first_kept : comes_by c.clock (next_but_begins r c) ≡ true → next_of_all r c ≡ next_but_begins r c
  first_kept now = kept_first (next_but_begins r c) (next_begin r c) now begin_not_before

  -- another begin at once, or the earliest of all
  pub next_on : begins_on r c ≡ true → next r c ≡ Some (next_at c.clock step.Begin)
  unfolding next
  next_on on = ap (λ (b : Bool). if b then Some (next_at c.clock step.Begin) else next_of_all r c) on

  pub next_else : begins_on r c ≡ false → next r c ≡ next_of_all r c
  unfolding next
  next_else off = ap (λ (b : Bool). if b then Some (next_at c.clock step.Begin) else next_of_all r c) off

  -- no begin comes while begins wait
  pub blocked_begin : c.blocked ≡ true → None ≡ next_begin r c
  blocked_begin blocked = sym (ap (λ (b : Bool). if b then None else begin_due r.until c.clock (next_due (state_at c.board))) blocked)

  -- and else that of the group that is due
  pub due_begin : (due : Option ℕ) → c.blocked ≡ false → due ≡ next_due (state_at c.board) → begin_due r.until c.clock due ≡ next_begin r c
  due_begin due free is =
      ap (begin_due r.until c.clock) is ∙ sym (ap (λ (b : Bool). if b then None else begin_due r.until c.clock (next_due (state_at c.board))) free)

  -- no removal comes where no group is empty, and else it comes at the next tick
  pub no_removal : list_any has_no_alerts (state_at c.board).groups ≡ false → None ≡ next_removal r c
  no_removal none = sym (ap (λ (b : Bool). if b then in_time r.until (tick_after r.span.since r.tick c.clock) step.Removal else None) none)

  pub removal_at : list_any has_no_alerts (state_at c.board).groups ≡ true → in_time r.until (tick_after r.span.since r.tick c.clock) step.Removal ≡ next_removal r c
  removal_at some = sym (ap (λ (b : Bool). if b then in_time r.until (tick_after r.span.since r.tick c.clock) step.Removal else None) some)

-- the plan in front comes next
pub front_plan : (until : ℕ) (ps : List TimedAction) (p : TimedAction) → 0 < length ps → p ≡ get_or ps 0 p → in_time until p.at step.Plan ≡ next_plan until ps
front_plan until [] p some is = absurd (omega (arith, some))
front_plan until (q ∷ qs) p some is = ap (λ (x : TimedAction). in_time until x.at step.Plan) is

-- and where there is none, no plan
pub no_plan : (until : ℕ) (ps : List TimedAction) → length ps ≡ 0 → None ≡ next_plan until ps
no_plan until [] none = refl
no_plan until (p ∷ ps) none = absurd (omega (arith, none))

-- where a queue has nothing in front, it is empty
pub none_front : {X : Type 0} (front : Option X) (n : ℕ) → front ≡ None → (0 < n → is_some front ≡ true) → n ≡ 0
none_front front zero none some = refl
none_front front (suc n) none some = absurd (false≢true (sym (ap (λ o. is_some o) none) ∙ some (omega arith)))
