-- The marks of groups with an open flush, through what is done to one group, and what they say.
use Rattle.std.proofs.Common.{◌≡◌, ℕ, zero, suc, ◌<◌, Bool, true, false, cond, not, ◌&&◌, ◌||◌, true≢false, None, List, [], ◌∷◌, ◌++◌, length, filter, get_or, set, refl, sym, ap, ◌∙◌, arith}
use Rattle.std.specs.List.{AllByRecursion, IsDistinct, position}
use Rattle.std.proofs.Math.Seq.{map-set_same}
use Rattle.am_model.specs.State.{FlushState, same_name}
use Rattle.am_model.specs.Maintenance.{has_no_alerts}
use Rattle.am_model.specs.declared.group.GroupName.{GroupName}
use Rattle.am_model.proofs.lists.Alone.{find-no_position, none-find}
use Rattle.am_model.proofs.states.Alike.{same_name_equiv}
use Rattle.am_board.specs.Group.{names_of}
use Rattle.am_board.specs.Marks.{mark_of, marks_of, is_marked, AreMarked, HaveOpenFlags}
use Rattle.am_board.specs.Refinement.{group_state}
use Rattle.am_board.specs.declared.group.Group.{Group}

-- ---- tests

either_twice : (a s r : Bool) → (s || r) ≡ (((a && s) || r) || s)
either_twice true true r = refl
either_twice true false true = refl
either_twice true false false = refl
either_twice false true true = refl
either_twice false true false = refl
either_twice false false true = refl
either_twice false false false = refl

or_last : (a r s : Bool) → (a || (r || s)) ≡ ((a || r) || s)
or_last true r s = refl
or_last false r s = refl

-- what is left where the one at an index doesn't pass any more
pub but_for : (a s r : Bool) → (s ≡ true → r ≡ false) → r ≡ (((a && s) || r) && not s)
but_for true true r none = none refl
but_for false true true none = none refl
but_for false true false none = refl
but_for true false true none = refl
but_for true false false none = refl
but_for false false true none = refl
but_for false false false none = refl

pub but_for_later : (a r s : Bool) → (s ≡ true → a ≡ false) → (a || (r && not s)) ≡ ((a || r) && not s)
but_for_later true r true none = absurd (true≢false (none refl))
but_for_later true r false none = refl
but_for_later false r s none = refl

and_kept : (a s : Bool) → (s ≡ true → a ≡ false) → a ≡ (a && not s)
and_kept true true none = none refl
and_kept true false none = refl
and_kept false s none = refl

and_none : (a b : Bool) → b ≡ false → (a && b) ≡ false
and_none true b e = e
and_none false b e = refl

-- ---- one group is changed

-- it says the same
pub marks_set : (gs : List Group) (i : ℕ) (g d : Group) → g.name ≡ (get_or gs i d).name → g.is_open ≡ (get_or gs i d).is_open → marks_of (set gs i g) ≡ marks_of gs
marks_set gs i g d named same = map-set_same mark_of gs i g d (λ k. (named k, same k))

-- a group without an open flush is added
pub marked_push : (gs : List Group) (g : Group) → g.is_open ≡ false → (n : GroupName) → is_marked (marks_of (gs ++ g ∷ [])) n ≡ is_marked (marks_of gs) n
marked_push [] g closed n = ap (λ b. (b && same_name n g.name) || false) closed
marked_push (x ∷ gs) g closed n = ap (λ b. (x.is_open && same_name n x.name) || b) (marked_push gs g closed n)

-- a flush of it is open
pub marked_open : (gs : List Group) (i : ℕ) (h : Group) → i < length gs → h.is_open ≡ true → h.name ≡ (get_or gs i h).name → (n : GroupName)
    → is_marked (marks_of (set gs i h)) n ≡ (is_marked (marks_of gs) n || same_name n h.name)
marked_open [] i h within opened named n = absurd (omega (arith, within))
marked_open (x ∷ gs) zero h within opened named n =
    ap (λ b. (b && same_name n h.name) || is_marked (marks_of gs) n) opened
    ∙ either_twice x.is_open (same_name n h.name) (is_marked (marks_of gs) n)
    ∙ ap (λ m. ((x.is_open && same_name n m) || is_marked (marks_of gs) n) || same_name n h.name) named
marked_open (x ∷ gs) (suc i) h within opened named n =
    ap (λ b. (x.is_open && same_name n x.name) || b) (marked_open gs i h (omega (arith, within)) opened named n)
    ∙ or_last (x.is_open && same_name n x.name) (is_marked (marks_of gs) n) (same_name n h.name)

-- no group has the name
none_marked : (n : GroupName) (gs : List Group) → AllByRecursion (λ m. same_name n m ≡ false) (names_of gs) → is_marked (marks_of gs) n ≡ false
none_marked n [] none = refl
none_marked n (x ∷ gs) none =
    ap (λ b. b || is_marked (marks_of gs) n) (and_none x.is_open (same_name n x.name) none.0) ∙ none_marked n gs none.1

-- where a name is none of these, one that is the same is none of them
none_alike : (m n : GroupName) → same_name m n ≡ true → (names : List GroupName) → AllByRecursion (λ k. same_name m k ≡ false) names → AllByRecursion (λ k. same_name n k ≡ false) names
none_alike m n same [] none = tt
none_alike m n same (k ∷ names) none = (sym (same_name_equiv.congr m n k same) ∙ none.0, none_alike m n same names none.1)

-- what is none of these names is not the name at an index
apart_at : (m : GroupName) (gs : List Group) (i : ℕ) (d : Group) → i < length gs → AllByRecursion (λ k. same_name m k ≡ false) (names_of gs) → same_name m (get_or gs i d).name ≡ false
apart_at m [] i d within none = absurd (omega (arith, within))
apart_at m (x ∷ gs) zero d within none = none.0
apart_at m (x ∷ gs) (suc i) d within none = apart_at m gs i d (omega (arith, within)) none.1

-- two names that one name is are the same
pub alike : (n a b : GroupName) → same_name n a ≡ true → same_name n b ≡ true → same_name a b ≡ true
alike n a b first second = sym (same_name_equiv.congr n a b first) ∙ second

pub not_both : (b : Bool) → (b ≡ true → ⊥) → b ≡ false
not_both true h = absurd (h refl)
not_both false h = refl

-- no flush of it is open any more
pub marked_close : (gs : List Group) (i : ℕ) (h : Group) → IsDistinct same_name (names_of gs) → i < length gs → h.is_open ≡ false → h.name ≡ (get_or gs i h).name → (n : GroupName)
    → is_marked (marks_of (set gs i h)) n ≡ (is_marked (marks_of gs) n && not (same_name n h.name))
unfolding IsDistinct
marked_close [] i h distinct within closed named n = absurd (omega (arith, within))
marked_close (x ∷ gs) zero h distinct within closed named n =
    let none : same_name n h.name ≡ true → is_marked (marks_of gs) n ≡ false =
    λ same.
    none_marked n gs (none_alike x.name n (same_name_equiv.symm x.name n ∙ ap (same_name n) (sym named) ∙ same) (names_of gs) distinct.0) in
    ap (λ b. (b && same_name n h.name) || is_marked (marks_of gs) n) closed
    ∙ but_for x.is_open (same_name n h.name) (is_marked (marks_of gs) n) none
    ∙ ap (λ m. ((x.is_open && same_name n m) || is_marked (marks_of gs) n) && not (same_name n h.name)) named
marked_close (x ∷ gs) (suc i) h distinct within closed named n =
    let inside : i < length gs = omega (arith, within) in
    let other : same_name x.name h.name ≡ false = ap (same_name x.name) named ∙ apart_at x.name gs i h inside distinct.0 in
    let none : same_name n h.name ≡ true → (x.is_open && same_name n x.name) ≡ false =
    λ same.
    and_none x.is_open (same_name n x.name) (not_both (same_name n x.name) (λ first. true≢false (sym (alike n x.name h.name first same) ∙ other))) in
    ap (λ b. (x.is_open && same_name n x.name) || b) (marked_close gs i h distinct.1 inside closed named n)
    ∙ but_for_later (x.is_open && same_name n x.name) (is_marked (marks_of gs) n) (same_name n h.name) none

-- no group has the name of the flush that ended
pub marked_missing : (gs : List Group) (name : GroupName) → position (λ g. same_name name g.name) gs ≡ None → (n : GroupName)
    → is_marked (marks_of gs) n ≡ (is_marked (marks_of gs) n && not (same_name n name))
marked_missing gs name at n =
    and_kept (is_marked (marks_of gs) n) (same_name n name)
    (λ same. none_marked n gs (none_alike name n (same_name_equiv.symm name n ∙ same) (names_of gs) (named gs (none-find (λ (g : Group). same_name name g.name) gs (find-no_position (λ (g : Group). same_name name g.name) gs at)))))
  where
    named : (hs : List Group) → AllByRecursion (λ g. same_name name g.name ≡ false) hs → AllByRecursion (λ k. same_name name k ≡ false) (names_of hs)
    named [] none = tt
    named (h ∷ hs) none = (none.0, named hs none.1)

-- ---- what the marks say

-- a group's own mark is the one of its name
own_mark : (gs : List Group) → IsDistinct same_name (names_of gs) → (j : ℕ) (d : Group) → j < length gs → (get_or gs j d).is_open ≡ is_marked (marks_of gs) (get_or gs j d).name
unfolding IsDistinct
own_mark [] distinct j d within = absurd (omega (arith, within))
own_mark (x ∷ gs) distinct zero d within =
    let own : (x.is_open && same_name x.name x.name) ≡ x.is_open = by x.is_open (same_name x.name x.name) (same_name_equiv.refl x.name) in
    sym (either x.is_open (is_marked (marks_of gs) x.name) (none_marked x.name gs distinct.0) ∙ refl) ∙ sym (ap (λ b. b || is_marked (marks_of gs) x.name) own)
  where
    by : (a b : Bool) → b ≡ true → (a && b) ≡ a
    by true b e = e
    by false b e = refl

    either : (a b : Bool) → b ≡ false → (a || b) ≡ a
    either true b e = refl
    either false b e = e
own_mark (x ∷ gs) distinct (suc j) d within =
    let inside : j < length gs = omega (arith, within) in
    let n : GroupName = (get_or gs j d).name in
    let other : same_name n x.name ≡ false = same_name_equiv.symm n x.name ∙ apart_at x.name gs j d inside distinct.0 in
    own_mark gs distinct.1 j d inside
    ∙ sym (ap (λ b. b || is_marked (marks_of gs) n) (and_none x.is_open (same_name n x.name) other))

-- each group says whether a flush of it is open
pub have_open_flags : (flushes : List FlushState) (gs : List Group) → IsDistinct same_name (names_of gs) → AreMarked flushes gs → HaveOpenFlags flushes gs
have_open_flags flushes gs distinct marked j d within = own_mark gs distinct j d within ∙ marked (get_or gs j d).name

-- ---- groups without alerts go, none of which has an open flush

pub marked_without : (gs : List Group) → AllByRecursion (λ g. has_no_alerts (group_state g) ≡ true → g.is_open ≡ false) gs → (n : GroupName)
    → is_marked (marks_of (filter (λ g. not (has_no_alerts (group_state g))) gs)) n ≡ is_marked (marks_of gs) n
marked_without [] closed n = refl
marked_without (x ∷ gs) closed n =
    let rest = marked_without gs closed.1 n in
    let kept : List Group = filter (λ g. not (has_no_alerts (group_state g))) gs in
    elim (has_no_alerts (group_state x)) as (λ b. has_no_alerts (group_state x) ≡ b → is_marked (marks_of (cond (not b) (x ∷ kept) kept)) n ≡ ((x.is_open && same_name n x.name) || is_marked (marks_of gs) n)) [
      | true ↦ λ e. rest ∙ sym (ap (λ b. (b && same_name n x.name) || is_marked (marks_of gs) n) (closed.0 e))
      | false ↦ λ e. ap (λ b. (x.is_open && same_name n x.name) || b) rest
    ] refl
