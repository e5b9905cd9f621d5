-- Which groups have an open flush, through what is done to the open flushes.
use Rattle.std.proofs.Common.{◌≡◌, ℕ, zero, suc, ◌<◌, Bool, true, false, not, ◌&&◌, ◌||◌, List, [], ◌∷◌, ◌++◌, length, map, get_or, set, refl, sym, ap, ◌∙◌, arith}
use Rattle.std.specs.List.{AllByRecursion, IsDistinct, list_any, remove}
use Rattle.std.proofs.Math.Seq.{map-set_same}
use Rattle.std.proofs.lemmas.List.{length-map, get_or-map}
use Rattle.am_model.specs.Laws.{same_flushed}
use Rattle.am_model.specs.State.{FlushState, is_flushing, same_name}
use Rattle.am_model.specs.declared.group.GroupName.{GroupName}
use Rattle.am_model.proofs.states.Alike.{same_name_equiv}
use Rattle.am_board.specs.Refinement.{flush_state}
use Rattle.am_board.specs.declared.flush.OpenFlush.{OpenFlush}
use Rattle.am_board.proofs.lemmas.finish.Flushes.{map-remove}
use Rattle.am_board.proofs.lemmas.invariant.Marks.{alike, but_for, but_for_later, not_both}

-- by the groups of the flushes
by_groups : (fs : List OpenFlush) (n : GroupName) → is_flushing (map flush_state fs) n ≡ list_any (same_name n) (map (λ f. f.group) fs)
by_groups [] n = refl
by_groups (f ∷ fs) n = ap (λ b. same_name n f.group || b) (by_groups fs n)

-- a flush is changed, but not its group
pub flushing_set : (fs : List OpenFlush) (i : ℕ) (new old : OpenFlush) → old ≡ get_or fs i old → new.group ≡ old.group → (n : GroupName)
    → is_flushing (map flush_state (set fs i new)) n ≡ is_flushing (map flush_state fs) n
flushing_set fs i new old is same n =
    by_groups (set fs i new) n
    ∙ (ap (list_any (same_name n)) (map-set_same (λ (f : OpenFlush). f.group) fs i new old (same ∙ ap (λ (f : OpenFlush). f.group) is))
    ∙ sym (by_groups fs n))

-- a flush is opened
pub flushing_more : (fs : List OpenFlush) (f : OpenFlush) (n : GroupName) → is_flushing (map flush_state (fs ++ f ∷ [])) n ≡ (is_flushing (map flush_state fs) n || same_name n f.group)
flushing_more [] f n = or_nothing (same_name n f.group)
  where
    or_nothing : (b : Bool) → (b || false) ≡ b
    or_nothing true = refl
    or_nothing false = refl
flushing_more (x ∷ fs) f n = ap (λ b. same_name n x.group || b) (flushing_more fs f n) ∙ assoc (same_name n x.group) (is_flushing (map flush_state fs) n) (same_name n f.group)
  where
    assoc : (a b c : Bool) → (a || (b || c)) ≡ ((a || b) || c)
    assoc true b c = refl
    assoc false b c = refl

-- none of these flushes is of the group
none_flushing : (x : FlushState) (n : GroupName) → same_name n x.group ≡ true → (fs : List FlushState) → AllByRecursion (λ f. same_flushed x f ≡ false) fs → is_flushing fs n ≡ false
none_flushing x n same [] apart = refl
none_flushing x n same (f ∷ fs) apart =
    ap (λ b. b || is_flushing fs n) (same_name_equiv.congr n x.group f.group same ∙ apart.0) ∙ none_flushing x n same fs apart.1

-- a flush isn't of the group of one that it is apart from
apart_from : (x : FlushState) (fs : List FlushState) (i : ℕ) (d : FlushState) → i < length fs → AllByRecursion (λ f. same_flushed x f ≡ false) fs → same_name x.group (get_or fs i d).group ≡ false
apart_from x [] i d within apart = absurd (omega (arith, within))
apart_from x (f ∷ fs) zero d within apart = apart.0
apart_from x (f ∷ fs) (suc i) d within apart = apart_from x fs i d (omega (arith, within)) apart.1

without_one : (fs : List FlushState) (i : ℕ) (d : FlushState) → IsDistinct same_flushed fs → i < length fs → (n : GroupName)
    → is_flushing (remove fs i) n ≡ (is_flushing fs n && not (same_name n (get_or fs i d).group))
unfolding IsDistinct
without_one [] i d distinct within n = absurd (omega (arith, within))
without_one (f ∷ fs) zero d distinct within n =
    but_for true (same_name n f.group) (is_flushing fs n) (λ same. none_flushing f n same fs distinct.0)
without_one (f ∷ fs) (suc i) d distinct within n =
    let inside : i < length fs = omega (arith, within) in
    let gone : GroupName = (get_or fs i d).group in
    let none : same_name n gone ≡ true → same_name n f.group ≡ false =
    λ same. not_both (same_name n f.group) (λ first. absurd (cc (alike n f.group gone first same, apart_from f fs i d inside distinct.0))) in
    ap (λ b. same_name n f.group || b) (without_one fs i d distinct.1 inside n)
    ∙ but_for_later (same_name n f.group) (is_flushing fs n) (same_name n gone) none

-- a flush is ended
pub flushing_removed : (fs : List OpenFlush) (i : ℕ) (o : OpenFlush) → i < length fs → o ≡ get_or fs i o → IsDistinct same_flushed (map flush_state fs) → (n : GroupName)
    → is_flushing (map flush_state (remove fs i)) n ≡ (is_flushing (map flush_state fs) n && not (same_name n o.group))
flushing_removed fs i o within is distinct n =
    let at : get_or (map flush_state fs) i (flush_state o) ≡ flush_state o = get_or-map flush_state fs i o (flush_state o) within ∙ ap flush_state (sym is) in
    let inside : i < length (map flush_state fs) = omega (arith, within, length-map fs flush_state) in
    ap (λ xs. is_flushing xs n) (map-remove flush_state fs i)
    ∙ without_one (map flush_state fs) i (flush_state o) distinct inside n
    ∙ ap (λ (x : FlushState). is_flushing (map flush_state fs) n && not (same_name n x.group)) at
