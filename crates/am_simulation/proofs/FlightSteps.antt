-- Flushes in flight: one more, one less, and one that changes, each with its key.
use Rattle.std.proofs.Common.{◌≡◌, ◌∙◌, ℕ, ◌+◌, ◌≤◌, IsTrue, List, [], ◌∷◌, ◌++◌, Option, Some, None, Result, Ok, Err, OnOk, refl, subst, sym, ap, arith, get_or, length, if◌then◌else◌}
use Rattle.std.specs.Prelude.{remove, slice_get, slice_set}
use Rattle.std.specs.Option.{IsSomeAnd}
use Rattle.std.proofs.lemmas.Option.{get_or_from_slice_get}
use Rattle.am_board.specs.History.{BoardData}
use Rattle.am_simulation.specs.FlightKeys.{AreKeyed, IsAdded, IsEndTaken, IsReported, KeepsOthers, has_key, next_time}
use Rattle.am_simulation.specs.Scene.{SendingData}
use Rattle.am_simulation.specs.Steps.{is_success, sent_events, with_note, with_report}
use Rattle.am_simulation.specs.declared.flight_keys.FlightKeys.{FlightKeys}
use Rattle.am_simulation.specs.declared.next.End.{End}
use Rattle.am_simulation.proofs.Keyed.{keyed_less, keyed_more, keyed_set}
use Rattle.am_terms.specs.declared.event.Event.{Event}

module _ (k m : FlightKeys) (ss : List SendingData) (keyed : AreKeyed k 0 k.above ss) where
  -- a flush was added, and its key
  pub added : (more : List SendingData) (s : SendingData) (begin : ℕ) (next : Option ℕ) → begin ≡ s.begin → next ≡ next_time s.ends
      → IsAdded k begin next m → more ≡ ss ++ s ∷ [] → AreKeyed m 0 m.above more
  added more s begin next same time by is =
      let behind : k.above ≤ begin = by.behind in
      let above : m.above ≡ begin + 1 = by.above in
      let has : IsTrue (has_key m s.begin (next_time s.ends)) =
      subst (λ (n : Option ℕ). IsTrue (has_key m s.begin n)) time (subst (λ (b : ℕ). IsTrue (has_key m b next)) same by.has)
      in
      subst (AreKeyed m 0 m.above) (sym is)
      (keyed_more k m 0 k.above m.above ss s by.keeps keyed (omega (arith, behind, same)) (omega (arith, above, same)) has)

  module _ (position : ℕ) (s : SendingData) (begin : ℕ) (same : begin ≡ s.begin) (above : m.above ≡ k.above) (others : KeepsOthers begin k m)
      (here : slice_get ss position ≡ Some s) where
    -- a flush was taken out, and its key
    pub removed : (less : List SendingData) → less ≡ remove ss position → AreKeyed m 0 m.above less
    removed less is =
        subst (λ (high : ℕ). AreKeyed m 0 high less) (sym above)
        (subst (AreKeyed m 0 k.above) (sym is) (keyed_less k m begin others 0 k.above ss position s keyed here (sym same)))

    -- a flush has another key
    pub changed : (t : SendingData) (next : Option ℕ) → t.begin ≡ s.begin → next ≡ next_time t.ends → IsTrue (has_key m begin next)
        → AreKeyed m 0 m.above (slice_set ss position t)
    changed t next its time has =
        let begins : t.begin ≡ begin = its ∙ sym same in
        subst (λ (high : ℕ). AreKeyed m 0 high (slice_set ss position t)) (sym above)
        (keyed_set k m begin others 0 k.above ss position s t keyed here (sym same) begins
        (subst (λ (n : Option ℕ). IsTrue (has_key m t.begin n)) time (subst (λ (b : ℕ). IsTrue (has_key m b next)) (sym begins) has)))

module _ (ss inner : List SendingData) (position : ℕ) (s t : SendingData) (e : End) (same : inner ≡ ss) (here : slice_get inner position ≡ Some s) where
  there : slice_get ss position ≡ Some s
  there = ap (λ (l : List SendingData). slice_get l position) (sym same) ∙ here

  set_is : slice_set inner position t ≡ slice_set ss position t
  set_is = ap (λ (l : List SendingData). slice_set l position t) same

  -- an end was taken out of a flush
  pub taken : (index : ℕ) → slice_get s.ends index ≡ Some e → t ≡ record s { ends = remove s.ends index }
      → IsSomeAnd (slice_get ss position) (IsEndTaken ss position index e (slice_set inner position t))
  taken index at left =
      subst (λ (o : Option SendingData). IsSomeAnd o (IsEndTaken ss position index e (slice_set inner position t))) (sym there)
      (at, set_is ∙ ap (slice_set ss position) left)

  -- an end was reported of a flush
  pub reported : (b since : BoardData) (events more : List Event) → t ≡ record s { ticket = with_report e.report s.ticket }
      → more ≡ events ++ sent_events s.begin e.report
      → since ≡ (if is_success e.report then with_note e.at (with_report e.report s.ticket) e.index b else b)
      → IsSomeAnd (slice_get ss position) (IsReported ss b events position e (slice_set inner position t) since more)
  reported b since events more is events_are board =
      subst (λ (o : Option SendingData). IsSomeAnd o (IsReported ss b events position e (slice_set inner position t) since more)) (sym there)
      (record { sendings = set_is ∙ ap (slice_set ss position) is; events_are = events_are; board = board })

-- what follows from three facts of a success
pub on_ok_three : {T E A B C D : Type 0} (r : Result T E) → (A → B → C → D) → OnOk r A → OnOk r B → OnOk r C → OnOk r D
on_ok_three (Ok x) all a b c = all a b c
on_ok_three (Err e) all a b c = tt

-- a flush that was found has no end to come
pub ready_there : (ss : List SendingData) (position begin : ℕ) (s : SendingData) → IsSomeAnd (slice_get ss position) (λ t. t.begin ≡ begin)
    → s ≡ get_or ss position s → s.ends ≡ [] → IsSomeAnd (slice_get ss position) (λ t. (t.begin ≡ begin) × (t.ends ≡ []))
ready_there ss position begin s found is none = by (slice_get ss position) refl found
  where
    by : (o : Option SendingData) → slice_get ss position ≡ o → IsSomeAnd o (λ t. t.begin ≡ begin) → IsSomeAnd o (λ t. (t.begin ≡ begin) × (t.ends ≡ []))
    by None at h = h
    by (Some t) at h = (h, ap (λ (u : SendingData). u.ends) (sym (is ∙ get_or_from_slice_get ss position t s at)) ∙ none)

-- a list without a length is empty
pub empty_is : {X : Type 0} (xs : List X) → length xs ≡ 0 → xs ≡ []
empty_is [] none = refl
empty_is (x ∷ xs) none = absurd (omega (arith, none))
