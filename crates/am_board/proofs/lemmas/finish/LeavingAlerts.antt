-- The alerts that leave a group by the finish of a flush: each is marked where it is as it did, and what is marked goes.
use Rattle.std.proofs.Common.{◌≡◌, ℕ, zero, suc, ◌==◌, ◌++◌, Bool, true, false, cond, not, ◌&&◌, ◌||◌, Some, None, List, [], ◌∷◌, length, map, filter, count_by, get_or, set, slice_get, refl, sym, ap, ◌∙◌, subst, arith}
use Rattle.std.specs.Prelude.{All, position}
use Rattle.std.specs.List.{AllByRecursion, IsDistinct}
use Rattle.std.specs.Map.{keys_of, values_of}
use Rattle.std.proofs.lemmas.List.{get_or_default, set-get_or}
use Rattle.std.proofs.lemmas.List.Elements.{All-head, All-tail}
use Rattle.std.proofs.lemmas.List.Quantifiers.{position-Some}
use Rattle.std.proofs.lemmas.List.Sums.{length-filter}
use Rattle.indexmap.specs.Layout.{set_value_at}
use Rattle.am_alerts.specs.Labels.{same_label_set}
use Rattle.am_alerts.specs.LabelOrder.{same_label_set_equiv}
use Rattle.am_alerts.specs.declared.labels.Label.{Label}
use Rattle.am_model.specs.Finish.{is_leaving}
use Rattle.am_model.specs.Lists.{changed_where, without}
use Rattle.am_model.specs.State.{MemberState}
use Rattle.am_model.proofs.lists.Alone.{IsAlone, all-never, alone-distinct, changed_where-alone, changed_where-none, filter-none, find-no_position, none-find, without-none}
use Rattle.am_model.proofs.lists.Distinct.{all_from, all_to, all-passes, all-weaker}
use Rattle.am_board.specs.Finishing.{marked, is_same_as}
use Rattle.am_board.specs.Keyed.{AreKeyed}
use Rattle.am_board.specs.Refinement.{member_state, stamped}
use Rattle.am_board.specs.Members.{labels_of, AreMembers}
use Rattle.am_board.specs.declared.flush.LeavingAlert.{LeavingAlert}
use Rattle.am_board.specs.declared.group.Member.{Member}
use Rattle.am_board.proofs.lemmas.invariant.Keyed.{value_at, values-filter, values-set, AreKeyed-filter, AreKeyed-set}

or-false : (b : Bool) → (b || false) ≡ b
or-false true = refl
or-false false = refl

or-true : (b : Bool) → (b || true) ≡ true
or-true true = refl
or-true false = refl

or-each : (a b c : Bool) → (a || (b || c)) ≡ ((a || b) || c)
or-each true b c = refl
or-each false b c = refl

-- ---- marks

-- an alert is marked exactly if it leaves by these
abbrev pub IsMarkedBy : List LeavingAlert → Member → Type 0
IsMarkedBy leaving m = m.leaves ≡ is_leaving (map stamped leaving) (member_state m)

-- by none of them nobody is marked
pub unmarked_yet : (ms : List Member) → All (λ m. m.leaves ≡ false) ms → All (IsMarkedBy []) ms
unmarked_yet ms all = all

module _ (f : LeavingAlert) where
  is_leaving-push : (seen : List LeavingAlert) (m : Member) → is_leaving (map stamped (seen ++ f ∷ [])) (member_state m) ≡ (is_leaving (map stamped seen) (member_state m) || is_same_as f m)
  is_leaving-push [] m = or-false (is_same_as f m)
  is_leaving-push (l ∷ seen) m =
      ap (λ b. is_same_as l m || b) (is_leaving-push seen m)
      ∙ or-each (is_same_as l m) (is_leaving (map stamped seen) (member_state m)) (is_same_as f m)

  mark-more : (seen : List LeavingAlert) (m : Member) → IsMarkedBy seen m → IsMarkedBy (seen ++ f ∷ []) (cond (is_same_as f m) (marked m) m)
  mark-more seen m h =
      let before = is_leaving (map stamped seen) (member_state m) in
      elim (is_same_as f m) as (λ b. is_same_as f m ≡ b → IsMarkedBy (seen ++ f ∷ []) (cond b (marked m) m)) [
        | true ↦ λ e. sym (is_leaving-push seen m ∙ (ap (λ b. before || b) e ∙ or-true before))
        | false ↦ λ e. h ∙ sym (is_leaving-push seen m ∙ (ap (λ b. before || b) e ∙ or-false before))
      ] refl

  marks-more : (seen : List LeavingAlert) (ms : List Member) → AllByRecursion (IsMarkedBy seen) ms → AllByRecursion (IsMarkedBy (seen ++ f ∷ [])) (changed_where (is_same_as f) marked ms)
  marks-more seen [] all = tt
  marks-more seen (m ∷ ms) all = (mark-more seen m all.0, marks-more seen ms all.1)

  -- by one more those are marked that it takes
  pub are_marked : (seen : List LeavingAlert) (ms : List Member) → All (IsMarkedBy seen) ms → All (IsMarkedBy (seen ++ f ∷ [])) (changed_where (is_same_as f) marked ms)
  are_marked seen ms all =
      all_from (IsMarkedBy (seen ++ f ∷ [])) (changed_where (is_same_as f) marked ms) (marks-more seen ms (all_to (IsMarkedBy seen) ms all))

  -- a mark is no part of the state
  pub states-marked : (ms : List Member) → map member_state (changed_where (is_same_as f) marked ms) ≡ map member_state ms
  states-marked [] = refl
  states-marked (m ∷ ms) =
      elim (is_same_as f m) as (λ b. map member_state (cond b (marked m) m ∷ changed_where (is_same_as f) marked ms) ≡ member_state m ∷ map member_state ms) [
        | true ↦ ap (λ ss. member_state m ∷ ss) (states-marked ms)
        | false ↦ ap (λ ss. member_state m ∷ ss) (states-marked ms)
      ]

-- ---- the one alert that is marked

module _ (f : LeavingAlert) where
  abbrev has_labels : Member → Bool
  has_labels m = same_label_set f.labels (labels_of m)

  abbrev IsKeyed : (List Label × Member) → Type 0
  IsKeyed e = e.0 ≡ labels_of e.1

  others-fail : (ms : List Member) → AllByRecursion (λ m. has_labels m ≡ false) ms → AllByRecursion (λ m. is_same_as f m ≡ false) ms
  others-fail [] all = tt
  others-fail (m ∷ ms) all = (ap (λ b. b && (f.stamp == m.stamp)) all.0, others-fail ms all.1)

  holds-alone : (ms : List Member) (i : ℕ) → IsAlone has_labels ms i → ((d : Member) → (f.stamp == (get_or ms i d).stamp) ≡ true) → IsAlone (is_same_as f) ms i
  holds-alone [] i alone same = absurd alone
  holds-alone (m ∷ ms) zero alone same = (ap (λ b. b && (f.stamp == m.stamp)) alone.0 ∙ same m, others-fail ms alone.1)
  holds-alone (m ∷ ms) (suc i) alone same = (ap (λ b. b && (f.stamp == m.stamp)) alone.0, holds-alone ms i alone.1 same)

  none-holds : (ms : List Member) (i : ℕ) → IsAlone has_labels ms i → ((d : Member) → (f.stamp == (get_or ms i d).stamp) ≡ false) → AllByRecursion (λ m. is_same_as f m ≡ false) ms
  none-holds [] i alone other = absurd alone
  none-holds (m ∷ ms) zero alone other = (ap (λ b. b && (f.stamp == m.stamp)) alone.0 ∙ other m, others-fail ms alone.1)
  none-holds (m ∷ ms) (suc i) alone other = (ap (λ b. b && (f.stamp == m.stamp)) alone.0, none-holds ms i alone.1 other)

  others-keyed : (es : List (List Label × Member)) → AreKeyed labels_of es → AllByRecursion (λ k. same_label_set f.labels k ≡ false) (keys_of es) → AllByRecursion (λ m. has_labels m ≡ false) (values_of es)
  others-keyed [] h all = tt
  others-keyed (e ∷ es) h all =
      (ap (same_label_set f.labels) (sym (All-head IsKeyed e es h)) ∙ all.0, others-keyed es (All-tail IsKeyed e es h) all.1)

  alone-keyed : (es : List (List Label × Member)) (i : ℕ) → AreKeyed labels_of es → IsAlone (same_label_set f.labels) (keys_of es) i → IsAlone has_labels (values_of es) i
  alone-keyed [] i h alone = absurd alone
  alone-keyed (e ∷ es) zero h alone =
      (ap (same_label_set f.labels) (sym (All-head IsKeyed e es h)) ∙ alone.0, others-keyed es (All-tail IsKeyed e es h) alone.1)
  alone-keyed (e ∷ es) (suc i) h alone =
      (ap (same_label_set f.labels) (sym (All-head IsKeyed e es h)) ∙ alone.0, alone-keyed es i (All-tail IsKeyed e es h) alone.1)

  -- no alert has the labels
  pub none_marked : (es : List (List Label × Member)) → AreKeyed labels_of es → position (same_label_set f.labels) (keys_of es) ≡ None → changed_where (is_same_as f) marked (values_of es) ≡ values_of es
  none_marked es keyed at =
      let none = none-find (same_label_set f.labels) (keys_of es) (find-no_position (same_label_set f.labels) (keys_of es) at) in
      changed_where-none (is_same_as f) marked (values_of es) (others-fail (values_of es) (others-keyed es keyed none))

  -- one alert has the labels
  module _ (es : List (List Label × Member)) (keyed : AreKeyed labels_of es) (distinct : IsDistinct same_label_set (keys_of es)) (i : ℕ) (m : Member) (index : position (same_label_set f.labels) (keys_of es) ≡ Some i) (at : slice_get (values_of es) i ≡ Some m) where
    alone : IsAlone has_labels (values_of es) i
    alone =
        let h = position-Some (same_label_set f.labels) (keys_of es) i f.labels index in
        alone-keyed es i keyed
        (alone-distinct same_label_set same_label_set_equiv (same_label_set f.labels) (keys_of es) i f.labels h.0 distinct (λ y. same_label_set_equiv.congr f.labels (get_or (keys_of es) i f.labels) y h.1))

    here : (d : Member) → m ≡ get_or (values_of es) i d
    here d =
        let there = value_at (values_of es) i m at in
        there.0 ∙ get_or_default (values_of es) i m d there.1

    stamp_here : (b : Bool) → (f.stamp == m.stamp) ≡ b → (d : Member) → (f.stamp == (get_or (values_of es) i d).stamp) ≡ b
    stamp_here b is d = ap (λ (x : Member). f.stamp == x.stamp) (sym (here d)) ∙ is

    pub one_marked : (f.stamp == m.stamp) ≡ true → values_of (set_value_at es i (marked m)) ≡ changed_where (is_same_as f) marked (values_of es)
    one_marked is =
        values-set es i (marked m)
        ∙ (ap (λ (x : Member). set (values_of es) i (marked x)) (here m)
        ∙ sym (changed_where-alone (is_same_as f) marked (values_of es) i m (holds-alone (values_of es) i alone (stamp_here true is))))

    pub other_stays : (f.stamp == m.stamp) ≡ false → values_of (set_value_at es i m) ≡ changed_where (is_same_as f) marked (values_of es)
    other_stays is =
        values-set es i m
        ∙ (ap (set (values_of es) i) (here m)
        ∙ (set-get_or (values_of es) i m
        ∙ sym (changed_where-none (is_same_as f) marked (values_of es) (none-holds (values_of es) i alone (stamp_here false is)))))

    -- each is under its labels, whatever its mark
    pub keyed_still : (to : Member) → labels_of to ≡ labels_of m → AreKeyed labels_of (set_value_at es i to)
    keyed_still to same = AreKeyed-set same_label_set labels_of es i m to keyed at same

-- ---- what is marked goes

module _ (leaving : List LeavingAlert) (es kept : List (List Label × Member)) (all : All (IsMarkedBy leaving) (values_of es)) (is : kept ≡ filter (λ e. not e.1.leaves) es) where
  abbrev leaves : MemberState → Bool
  leaves = is_leaving (map stamped leaving)

  unmarked-stay : (es : List (List Label × Member)) → AllByRecursion (IsMarkedBy leaving) (values_of es) → filter (λ e. not e.1.leaves) es ≡ filter (λ e. not (leaves (member_state e.1))) es
  unmarked-stay [] h = refl
  unmarked-stay (e ∷ es) h = λ j. cond (not (h.0 j)) (e ∷ unmarked-stay es h.1 j) (unmarked-stay es h.1 j)

  -- as those go that leave
  pub others_stay : kept ≡ filter (λ e. not (leaves (member_state e.1))) es
  others_stay = is ∙ unmarked-stay es (all_to (IsMarkedBy leaving) (values_of es) all)

  not_true : (b : Bool) → not b ≡ true → b ≡ false
  not_true true e = absurd (cc)
  not_true false e = refl

  pub are_unmarked : AreKeyed labels_of es → AreMembers kept
  are_unmarked keyed =
      let off = all-weaker (λ (m : Member). not m.leaves ≡ true) (λ m. m.leaves ≡ false) (λ m e. not_true m.leaves e) (filter (λ m. not m.leaves) (values_of es)) (all-passes (λ (m : Member). not m.leaves) (values_of es)) in
      record {
        keyed = subst (AreKeyed labels_of) (sym is) (AreKeyed-filter same_label_set labels_of (λ e. not e.1.leaves) es keyed);
        unmarked = subst (All (λ (m : Member). m.leaves ≡ false)) (sym (ap values_of is ∙ values-filter (λ (m : Member). not m.leaves) es)) (all_from (λ (m : Member). m.leaves ≡ false) (filter (λ m. not m.leaves) (values_of es)) off);
      }

-- where nothing was found resolved nothing leaves
pub nothing_leaves : (leaving : List LeavingAlert) → length leaving ≡ 0 → (ms : List MemberState) → without (is_leaving (map stamped leaving)) ms ≡ ms
nothing_leaves [] e ms = without-none (λ (m : MemberState). false) ms (all-never (λ (m : MemberState). false) (λ m. refl) ms)
nothing_leaves (l ∷ leaving) e ms = absurd (omega (arith, e))

pub nothing_counts : (leaving : List LeavingAlert) → length leaving ≡ 0 → (ms : List MemberState) → count_by (is_leaving (map stamped leaving)) ms ≡ 0
nothing_counts [] e ms =
    sym (length-filter (λ (m : MemberState). false) ms)
    ∙ ap length (filter-none (λ (m : MemberState). false) ms (all-never (λ (m : MemberState). false) (λ m. refl) ms))
nothing_counts (l ∷ leaving) e ms = absurd (omega (arith, e))
