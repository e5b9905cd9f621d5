-- The kinds of steps: what is shown of each kind, by its time, is so of the step that comes next.
use Rattle.std.proofs.Common.{◌≡◌, ℕ, suc, ◌+◌, ◌≤◌, max, Bool, true, false, nat_le, nat_lt, List, [], ◌∷◌, Option, Some, None, refl, sym, ap, subst, add-zero, arith, if◌then◌else◌}
use Rattle.std.specs.Prelude.{slice_get}
use Rattle.std.specs.Option.{IfSome, IsSomeAnd}
use Rattle.std.proofs.lemmas.Bool.{and_parts, leb-true}
use Rattle.am_board.specs.History.{state_at}
use Rattle.am_model.specs.Begin.{next_due}
use Rattle.am_simulation.proofs.Coming.{next_else, next_on, removal_keeps}
use Rattle.am_simulation.specs.Next.{begin_due, begins_on, earlier, in_time, next, next_at, next_begin, next_but_begins, next_end, next_end_of, next_finish, next_of_all, next_of_others, next_plan, next_removal, none_left}
use Rattle.am_simulation.specs.Scene.{Scene, SendingData, Setting}
use Rattle.am_simulation.specs.Steps.{IsBegun, IsDone, IsPlanDone, Steps, after_end, after_finish, after_maintenance, after_removal}
use Rattle.am_simulation.specs.Taking.{cause_of_none}
use Rattle.am_terms.specs.declared.rehearsal.TimedAction.{TimedAction}
use Rattle.am_plays.proofs.Words.{if_same, said, some_both}

-- what holds of both holds of the earlier
earlier_keeps : (P : _ → Type 0) (a b : Option _) → IfSome a P → IfSome b P → IfSome (earlier a b) P
earlier_keeps P None b p q = q
earlier_keeps P (Some n) None p q = p
earlier_keeps P (Some n) (Some m) p q = elim (nat_lt m.at n.at) as (λ t. IfSome (if t then Some m else Some n) P) [ true ↦ q | false ↦ p ]

in_time_keeps : (until at : ℕ) (what : _) (P : _ → Type 0) → (at ≤ until → P (next_at at what)) → IfSome (in_time until at what) P
in_time_keeps until at what P h = by (nat_le at until) refl
  where
    by : (b : Bool) → nat_le at until ≡ b → IfSome (if b then Some (next_at at what) else None) P
    by true is = h (leb-true at until is)
    by false is = tt

module _ (r : Setting) (c d : Scene) (Goal : ℕ → Type 0)
    (on_end : (position index : ℕ) (s : SendingData) (e : _) → slice_get c.sendings position ≡ Some s → slice_get s.ends index ≡ Some e → d ≡ after_end c position s index e → Goal e.at)
    (on_finish : (position : ℕ) (s : SendingData) → slice_get c.sendings position ≡ Some s → none_left s.ends ≡ true → d ≡ after_finish c position s → Goal c.clock)
    (on_plan : (p : TimedAction) (ps : List TimedAction) → IsPlanDone c d (p ∷ ps) → Goal p.at) (on_maintenance : (at : ℕ) → d ≡ after_maintenance r c at → Goal at)
    (on_removal : (at : ℕ) → d ≡ after_removal c at → Goal at)
    (on_begin : (at : ℕ) → at ≤ r.until → IsBegun r c at d (cause_of_none c.board at) → Goal at) where
  ended : (position index : ℕ) (s : SendingData) (e : _) → slice_get c.sendings position ≡ Some s → slice_get s.ends index ≡ Some e
      → IsSomeAnd (slice_get c.sendings position) (λ t. IsSomeAnd (slice_get t.ends index) (λ x. d ≡ after_end c position t index x)) → Goal e.at
  ended position index s e here there done =
      on_end position index s e here there
      (said (slice_get s.ends index) e there (λ x. d ≡ after_end c position s index x)
      (said (slice_get c.sendings position) s here (λ t. IsSomeAnd (slice_get t.ends index) (λ x. d ≡ after_end c position t index x)) done))

  finished : (position : ℕ) (s : SendingData) → slice_get c.sendings position ≡ Some s → none_left s.ends ≡ true
      → IsSomeAnd (slice_get c.sendings position) (λ t. d ≡ after_finish c position t) → Goal c.clock
  finished position s here over done = on_finish position s here over (said (slice_get c.sendings position) s here (λ t. d ≡ after_finish c position t) done)

  -- the ends of the flush at a position, from an index on
  of_ends : (position : ℕ) (s : SendingData) → slice_get c.sendings position ≡ Some s → (index : ℕ) (es : List _)
      → ((k : ℕ) (e : _) → slice_get es k ≡ Some e → slice_get s.ends (index + k) ≡ Some e)
      → IfSome (next_end_of position index es) (λ n. IsDone r c n.at d n.what → Goal n.at)
  of_ends position s here index [] from = tt
  of_ends position s here index (e ∷ es) from =
      earlier_keeps (λ n. IsDone r c n.at d n.what → Goal n.at) (next_end_of position index (e ∷ [])) (next_end_of position (index + 1) es)
      (λ done. ended position index s e here (subst (λ (k : ℕ). slice_get s.ends k ≡ Some e) (add-zero index) (from 0 e refl)) done)
      (of_ends position s here (index + 1) es
      (λ k x at. let more : index + suc k ≡ index + 1 + k = omega arith in subst (λ (n : ℕ). slice_get s.ends n ≡ Some x) more (from (suc k) x at)))

  -- these flushes are those of the scene from a position on
  abbrev AreFrom : ℕ → List SendingData → Type 0
  AreFrom position ss = (k : ℕ) (s : SendingData) → slice_get ss k ≡ Some s → slice_get c.sendings (position + k) ≡ Some s

  first_from : (position : ℕ) (s : SendingData) (ss : List SendingData) → AreFrom position (s ∷ ss) → slice_get c.sendings position ≡ Some s
  first_from position s ss from = subst (λ (k : ℕ). slice_get c.sendings k ≡ Some s) (add-zero position) (from 0 s refl)

  rest_from : (position : ℕ) (s : SendingData) (ss : List SendingData) → AreFrom position (s ∷ ss) → AreFrom (position + 1) ss
  rest_from position s ss from = λ k t is. let more : position + suc k ≡ position + 1 + k = omega arith in subst (λ (n : ℕ). slice_get c.sendings n ≡ Some t) more (from (suc k) t is)

  of_sendings : (position : ℕ) (ss : List SendingData) → AreFrom position ss → IfSome (next_end position ss) (λ n. IsDone r c n.at d n.what → Goal n.at)
  of_sendings position [] from = tt
  of_sendings position (s ∷ ss) from =
      earlier_keeps (λ n. IsDone r c n.at d n.what → Goal n.at) (next_end_of position 0 s.ends) (next_end (position + 1) ss)
      (of_ends position s (first_from position s ss from) 0 s.ends (λ k e at. let more : k ≡ 0 + k = omega arith in subst (λ (n : ℕ). slice_get s.ends n ≡ Some e) more at))
      (of_sendings (position + 1) ss (rest_from position s ss from))

  of_finish : (position : ℕ) (ss : List SendingData) → AreFrom position ss → IfSome (next_finish c.clock position ss) (λ n. IsDone r c n.at d n.what → Goal n.at)
  of_finish position [] from = tt
  of_finish position (s ∷ ss) from = by s.ends refl (of_finish (position + 1) ss (rest_from position s ss from))
    where
      by : (es : List _) → s.ends ≡ es → IfSome (next_finish c.clock (position + 1) ss) (λ n. IsDone r c n.at d n.what → Goal n.at)
          → IfSome (next_finish c.clock position (record { ticket = s.ticket; begin = s.begin; ends = es } ∷ ss)) (λ n. IsDone r c n.at d n.what → Goal n.at)
      by [] is later = λ done. finished position s (first_from position s ss from) (ap none_left is) done
      by (e ∷ es) is later = later

  of_plan : (ps : List TimedAction) → c.plans ≡ ps → IfSome (next_plan r.until ps) (λ n. IsDone r c n.at d n.what → Goal n.at)
  of_plan [] is = tt
  of_plan (p ∷ ps) is =
      in_time_keeps r.until p.at _ (λ n. IsDone r c n.at d n.what → Goal n.at) (λ within done. on_plan p ps (subst (IsPlanDone c d) is done))

  of_begin : (blocked : Bool) (due : Option ℕ) → IfSome (if blocked then None else begin_due r.until c.clock due) (λ n. IsDone r c n.at d n.what → Goal n.at)
  of_begin true due = tt
  of_begin false None = tt
  of_begin false (Some due) =
      in_time_keeps r.until (max due c.clock) _ (λ n. IsDone r c n.at d n.what → Goal n.at) (λ within done. on_begin (max due c.clock) within done)

  of_removal : IfSome (next_removal r c) (λ n. IsDone r c n.at d n.what → Goal n.at)
  of_removal = removal_keeps r c (λ n. IsDone r c n.at d n.what → Goal n.at) (λ at done. on_removal at done)

  of_all : IfSome (next_of_all r c) (λ n. IsDone r c n.at d n.what → Goal n.at)
  of_all =
      let from_first : AreFrom 0 c.sendings = λ k s is. let e : k ≡ 0 + k = omega arith in subst (λ (n : ℕ). slice_get c.sendings n ≡ Some s) e is in
      earlier_keeps (λ n. IsDone r c n.at d n.what → Goal n.at) (next_but_begins r c) (next_begin r c)
      (earlier_keeps (λ n. IsDone r c n.at d n.what → Goal n.at) (next_removal r c) (next_of_others r c) of_removal
      (earlier_keeps (λ n. IsDone r c n.at d n.what → Goal n.at) (earlier (next_end 0 c.sendings) (next_finish c.clock 0 c.sendings))
      (earlier (next_plan r.until c.plans) (in_time r.until c.maintenance _))
      (earlier_keeps (λ n. IsDone r c n.at d n.what → Goal n.at) (next_end 0 c.sendings) (next_finish c.clock 0 c.sendings) (of_sendings 0 c.sendings from_first) (of_finish 0 c.sendings from_first))
      (earlier_keeps (λ n. IsDone r c n.at d n.what → Goal n.at) (next_plan r.until c.plans) (in_time r.until c.maintenance _) (of_plan c.plans refl)
      (in_time_keeps r.until c.maintenance _ (λ n. IsDone r c n.at d n.what → Goal n.at) (λ within done. on_maintenance c.maintenance done)))))
      (of_begin c.blocked (next_due (state_at c.board)))

  of_next : IfSome (next r c) (λ n. IsDone r c n.at d n.what → Goal n.at)
  of_next = by (begins_on r c) refl
    where
      by : (b : Bool) → begins_on r c ≡ b → IfSome (next r c) (λ n. IsDone r c n.at d n.what → Goal n.at)
      by true is =
          if_same (next r c) _ (sym (next_on r c is)) (λ n. IsDone r c n.at d n.what → Goal n.at)
          (λ done. on_begin c.clock (leb-true c.clock r.until (and_parts c.begins (nat_le c.clock r.until) is).1) done)
      by false is = if_same (next r c) (next_of_all r c) (sym (next_else r c is)) (λ n. IsDone r c n.at d n.what → Goal n.at) of_all

  -- so it is of each step
  pub step_by : Steps r c d → IsSomeAnd (next r c) (λ n. Goal n.at)
  unfolding Steps
  step_by steps = some_both (next r c) (λ n. IsDone r c n.at d n.what) (λ n. Goal n.at) of_next steps
