-- The group that is due next: no group without open flush is due sooner.
use Rattle.std.proofs.Common.{◌≡◌, ℕ, ◌<◌, ◌≤◌, Bool, true, false, true≢false, cond, not, ◌&&◌, Option, Some, None, List, [], ◌∷◌, refl, sym, ap, ◌∙◌, arith, if◌then◌else◌}
use Rattle.std.specs.Prelude.{find, filter}
use Rattle.std.specs.List.{AllByRecursion}
use Rattle.std.specs.Option.{IsSomeAnd, option_map}
use Rattle.std.specs.Ordering.{MatchOrdering, is_gt, nat_cmp, ordering_then}
use Rattle.std.specs.declared.cmp.Ordering.{Ordering}
use Rattle.std.specs.declared.cmp.Ordering.TheVariants.{Less, Equal, Greater}
use Rattle.std.proofs.lemmas.Bool.{le-leb}
use Rattle.std.proofs.lemmas.Cmp.{ranked}
use Rattle.am_model.specs.declared.group.GroupName.{GroupName}
use Rattle.am_model.specs.declared.notice.TheConstants.{MAX_DEADLINE}
use Rattle.am_model.specs.Begin.{due_cmp, may_begin, taken, next_due}
use Rattle.am_model.specs.Lists.{least, lesser}
use Rattle.am_model.specs.State.{GroupState, State, is_named, is_flushing, name_cmp}
use Rattle.am_model.proofs.lists.Distinct.{all-find, all-weaker, find-passes}
use Rattle.am_model.proofs.states.Alike.{same_name-is}

-- ---- the order of due times

over : (o p : Ordering) (x y : ℕ) → MatchOrdering o (x < y) (x ≡ y) (y < x) → is_gt (ordering_then o p) ≡ true → y ≤ x
over Less p x y m e = absurd (true≢false (sym e))
over Equal p x y m e = omega (arith, m)
over Greater p x y m e = omega (arith, m)

under : (o p : Ordering) (x y : ℕ) → MatchOrdering o (x < y) (x ≡ y) (y < x) → is_gt (ordering_then o p) ≡ false → x ≤ y
under Less p x y m e = omega (arith, m)
under Equal p x y m e = omega (arith, m)
under Greater p x y m e = absurd (true≢false e)

-- of two groups, the lesser isn't due later
gt-later : (g h : GroupState) → is_gt (due_cmp g h) ≡ true → h.due ≤ g.due
gt-later g h e = over (nat_cmp g.due h.due) (name_cmp g.name h.name) g.due h.due (ranked g.due h.due (nat_cmp g.due h.due) refl) e

not-gt-sooner : (g h : GroupState) → is_gt (due_cmp g h) ≡ false → g.due ≤ h.due
not-gt-sooner g h e = under (nat_cmp g.due h.due) (name_cmp g.name h.name) g.due h.due (ranked g.due h.due (nat_cmp g.due h.due) refl) e

-- ---- the least of some groups

-- a group isn't due before the one that is found, if one is
abbrev IsAfter : Option GroupState → GroupState → Type 0
IsAfter o g = IsSomeAnd o (λ h. h.due ≤ g.due)

first-of : (x : GroupState) (o : Option GroupState) (xs : List GroupState) → AllByRecursion (IsAfter o) xs → AllByRecursion (IsAfter (Some (lesser due_cmp x o))) (x ∷ xs)
first-of x None xs all = (omega arith, all-weaker (IsAfter None) (IsAfter (Some x)) (λ g none. absurd none) xs all)
first-of x (Some y) xs all = by (is_gt (due_cmp x y)) refl
  where
    by : (b : Bool) → is_gt (due_cmp x y) ≡ b → AllByRecursion (IsAfter (Some (if b then y else x))) (x ∷ xs)
    by true is = (gt-later x y is, all)
    by false is =
        let sooner : x.due ≤ y.due = not-gt-sooner x y is in
        (omega arith, all-weaker (IsAfter (Some y)) (IsAfter (Some x)) (λ g h. let after : y.due ≤ g.due = h in omega (arith, sooner, after)) xs all)

least-first : (gs : List GroupState) → AllByRecursion (IsAfter (least due_cmp gs)) gs
least-first [] = tt
least-first (g ∷ gs) = first-of g (least due_cmp gs) gs (least-first gs)

-- what holds of each that a filter keeps holds of each that passes
of-filter : {X : Type 0} (P : X → Type 0) (test : X → Bool) (xs : List X) → AllByRecursion P (filter test xs) → AllByRecursion (λ x. test x ≡ true → P x) xs
of-filter P test [] all = tt
of-filter P test (x ∷ xs) all =
    elim (test x) as (λ b. test x ≡ b → AllByRecursion P (cond b (x ∷ filter test xs) (filter test xs)) → AllByRecursion (λ y. test y ≡ true → P y) (x ∷ xs)) [
      | true ↦ λ is all. (λ _. all.0, of-filter P test xs all.1)
      | false ↦ λ is all. (λ passes. absurd (true≢false (sym passes ∙ is)), of-filter P test xs all)
    ] refl all

module _ (s : State) (name : GroupName) (g : GroupState) (found : find (is_named name) s.groups ≡ Some g) (idle : is_flushing s.flushes name ≡ false) where
  may : (t : ℕ) → g.due ≤ t → may_begin s t g ≡ true
  may t come =
      let own : name ≡ g.name = same_name-is name g.name (find-passes (is_named name) g s.groups found) in
      ap (λ b. b && not (is_flushing s.flushes g.name)) (le-leb g.due t come) ∙ ap (λ n. not (is_flushing s.flushes n)) (sym own) ∙ ap not idle

  -- a begin at a time takes a group that isn't due later, if this one is due by then
  pub taken-first : (t : ℕ) → g.due ≤ t → IsSomeAnd (taken s t) (λ h. h.due ≤ g.due)
  taken-first t come =
      all-find (λ h. may_begin s t h ≡ true → IsAfter (taken s t) h) (is_named name) g s.groups
      (of-filter (IsAfter (taken s t)) (may_begin s t) s.groups (least-first (filter (may_begin s t) s.groups))) found (may t come)

  -- and the group that is due next isn't due later
  pub due-first : g.due ≤ MAX_DEADLINE → IsSomeAnd (next_due s) (λ due. due ≤ g.due)
  due-first come = by (taken s MAX_DEADLINE) (taken-first MAX_DEADLINE come)
    where
      by : (o : Option GroupState) → IsSomeAnd o (λ h. h.due ≤ g.due) → IsSomeAnd (option_map (λ (h : GroupState). h.due) o) (λ due. due ≤ g.due)
      by None h = absurd h
      by (Some x) h = h
