-- When the next step comes: no later than the next begin, and so no later than any group is due that has no open flush.
use Rattle.std.proofs.Common.{◌≡◌, ℕ, ◌+◌, ◌≤◌, ◌<◌, max, min, Bool, true, false, nat_le, nat_lt, Option, Some, None, ◌⊎◌, inl, inr, refl, sym, ap, ◌∙◌, arith, if◌then◌else◌}
use Rattle.std.specs.Prelude.{find}
use Rattle.std.specs.Option.{IfSome}
use Rattle.std.proofs.lemmas.Bool.{leb-false}
use Rattle.std.proofs.lemmas.Bool.Decides.{nat_tests}
use Rattle.am_board.specs.History.{state_at}
use Rattle.am_model.specs.declared.group.GroupName.{GroupName}
use Rattle.am_model.specs.declared.notice.TheConstants.{MAX_DEADLINE}
use Rattle.am_model.specs.Begin.{next_due}
use Rattle.am_model.specs.State.{GroupState, is_named, is_flushing}
use Rattle.am_simulation.proofs.Coming.{next_else, next_on}
use Rattle.am_simulation.specs.Next.{begin_due, begins_on, earlier, in_time, next, next_at, next_begin, next_but_begins, next_of_all}
use Rattle.am_simulation.specs.Scene.{Scene, Setting}
use Rattle.am_plays.proofs.FirstDue.{due-first}
use Rattle.am_plays.proofs.Words.{if_same, if_weaker, some_of}

-- the earlier of two isn't after the second, and where there is none, there is no second
earlier_before : (a b : Option _) → IfSome (earlier a b) (λ n. IfSome b (λ m. n.at ≤ m.at))
earlier_before None None = tt
earlier_before None (Some m) = omega arith
earlier_before (Some n) None = tt
earlier_before (Some n) (Some m) = by (nat_lt m.at n.at) refl
  where
    by : (t : Bool) → nat_lt m.at n.at ≡ t → IfSome (if t then Some m else Some n) (λ k. k.at ≤ m.at)
    by true is = omega arith
    by false is = grind (arith, nat_tests, is)

second_none : (a b : Option _) → earlier a b ≡ None → b ≡ None
second_none None b none = none
second_none (Some n) None none = refl
second_none (Some n) (Some m) none = absurd (by (nat_lt m.at n.at) none)
  where
    by : (t : Bool) → (if t then Some m else Some n) ≡ None → ⊥
    by true is = cc
    by false is = cc

-- what isn't after a step isn't after its time, or the end comes before
in_time_before : (until at t : ℕ) (what : _) → IfSome (in_time until at what) (λ m. t ≤ m.at) → (t ≤ at) ⊎ (until < at)
in_time_before until at t what h = by (nat_le at until) refl h
  where
    by : (b : Bool) → nat_le at until ≡ b → IfSome (if b then Some (next_at at what) else None) (λ m. t ≤ m.at) → (t ≤ at) ⊎ (until < at)
    by true is h = inl h
    by false is h = inr (leb-false at until is)

in_time_none : (until at : ℕ) (what : _) → in_time until at what ≡ None → until < at
in_time_none until at what none = by (nat_le at until) refl none
  where
    by : (b : Bool) → nat_le at until ≡ b → (if b then Some (next_at at what) else None) ≡ None → until < at
    by true is none = absurd (cc)
    by false is none = leb-false at until is

module _ (r : Setting) (c : Scene) (free : c.blocked ≡ false) (name : GroupName) (g : GroupState) (found : find (is_named name) (state_at c.board).groups ≡ Some g)
    (idle : is_flushing (state_at c.board).flushes name ≡ false) (come : g.due ≤ MAX_DEADLINE) where
  -- when the group is due, or now
  abbrev soon : ℕ
  soon = max g.due c.clock

  first : (due : ℕ) × (next_due (state_at c.board) ≡ Some due) × (due ≤ g.due)
  first = some_of (next_due (state_at c.board)) (λ due. due ≤ g.due) (due-first (state_at c.board) name g found idle come)

  -- the next begin is of a group that isn't due later
  begin_is : next_begin r c ≡ begin_due r.until c.clock (Some first.0)
  begin_is = ap (λ (b : Bool). if b then None else begin_due r.until c.clock (next_due (state_at c.board))) free ∙ ap (begin_due r.until c.clock) first.1

  bound : (at : ℕ) → (at ≤ max first.0 c.clock) ⊎ (r.until < max first.0 c.clock) → min at (r.until + 1) ≤ soon
  bound at h = let sooner = first.2 in elim h [ inl now ↦ omega (arith, now, sooner) | inr past ↦ omega (arith, past, sooner) ]

  of_all_before : IfSome (next_of_all r c) (λ n. min n.at (r.until + 1) ≤ soon)
  of_all_before =
      if_weaker (next_of_all r c) (λ n. IfSome (next_begin r c) (λ m. n.at ≤ m.at)) (λ n. min n.at (r.until + 1) ≤ soon)
      (λ n h. bound n.at (in_time_before r.until (max first.0 c.clock) n.at _ (if_same (begin_due r.until c.clock (Some first.0)) (next_begin r c) begin_is (λ m. n.at ≤ m.at) h)))
      (earlier_before (next_but_begins r c) (next_begin r c))

  of_all_none : next_of_all r c ≡ None → r.until < soon
  of_all_none none =
      let past : r.until < max first.0 c.clock = in_time_none r.until (max first.0 c.clock) _ (sym begin_is ∙ second_none (next_but_begins r c) (next_begin r c) none) in
      let sooner = first.2 in
      omega (arith, past, sooner)

  -- the next step isn't after the group is due, nor now, unless that is after the end
  pub next_before : IfSome (next r c) (λ n. min n.at (r.until + 1) ≤ soon)
  next_before = by (begins_on r c) refl
    where
      by : (b : Bool) → begins_on r c ≡ b → IfSome (next r c) (λ n. min n.at (r.until + 1) ≤ soon)
      by true is = if_same (next r c) _ (sym (next_on r c is)) (λ n. min n.at (r.until + 1) ≤ soon) (omega arith)
      by false is = if_same (next r c) (next_of_all r c) (sym (next_else r c is)) (λ n. min n.at (r.until + 1) ≤ soon) of_all_before

  -- and where none comes, the group is due after the end, or now is
  pub none_before : next r c ≡ None → r.until < soon
  none_before none = by (begins_on r c) refl
    where
      by : (b : Bool) → begins_on r c ≡ b → r.until < soon
      by true is = absurd (cc (sym (next_on r c is) ∙ none))
      by false is = of_all_none (sym (next_else r c is) ∙ none)
