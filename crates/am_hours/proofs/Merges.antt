-- Pushing a span onto a list, the merge of two lists, and the gaps of a list.
use Rattle.std.proofs.Common.{◌≡◌, ℕ, ◌+◌, ◌<◌, ◌≤◌, Bool, true, false, List, [], ◌∷◌, ◌++◌, length, refl, ap, sym, ◌∙◌, subst, inl, inr, arith}
use Rattle.std.specs.Prelude.{◌||◌, ◌⊎◌}
use Rattle.std.proofs.lemmas.Bool.{or_cases, or_left, or_right, ltb-true, leb-true, cases_lt}
use Rattle.std.proofs.lemmas.List.Folds.{list_any-append}
use Rattle.am_alerts.specs.declared.spans.Span.{Span}
use Rattle.am_alerts.specs.Spans.{holds, is_muted, are_apart}
use Rattle.am_hours.specs.Merging.{begin_by, begins_after, IsNext}
use Rattle.am_alerts.proofs.Muted.{holds-says, holds-made, not_held, apart-parts}
use Rattle.am_hours.proofs.Apart.{same_tests, or_regroup, begin_by-later}

pub or_false : (a : Bool) → (a || false) ≡ a
or_false true = refl
or_false false = refl

-- an empty span holds nothing
pub holds-empty : (s : Span) (t : ℕ) → s.to ≤ s.from → holds s t ≡ false
holds-empty s t empty = not_held s t (λ held. let p = holds-says s t held in omega (arith, p.0, p.1))

pub muted-empty : (xs : List Span) (s : Span) (t : ℕ) → s.to ≤ s.from → is_muted xs t ≡ (is_muted xs t || holds s t)
muted-empty xs s t empty = sym (ap (λ b. is_muted xs t || b) (holds-empty s t empty) ∙ or_false (is_muted xs t))

-- a span at the end
pub muted-more : (xs : List Span) (s : Span) (t : ℕ) → is_muted (xs ++ s ∷ []) t ≡ (is_muted xs t || holds s t)
muted-more xs s t =
    list_any-append (λ x. holds x t) xs (s ∷ []) ∙ ap (λ b. is_muted xs t || b) (or_false (holds s t))

-- a span that goes on where the last one ends, or before
pub holds-joined : (l s j : Span) (t : ℕ) → l.from ≤ s.from → s.from ≤ l.to → l.from < l.to → s.from < s.to
    → j.from ≡ l.from → l.to ≤ j.to → s.to ≤ j.to → (l.to ≡ j.to) ⊎ (s.to ≡ j.to)
    → holds j t ≡ (holds l t || holds s t)
holds-joined l s j t first touch some more from long longer exact =
    same_tests (holds j t) (holds l t || holds s t)
    (λ held.
    let p = holds-says j t held in
    elim (cases_lt t l.to) [
      | inl before ↦ or_left (holds l t) (holds s t) (holds-made l t (omega (arith, p.0, from)) before)
      | inr behind ↦ elim exact [
        | inl e ↦ absurd (omega (arith, p.1, e))
        | inr e ↦ or_right (holds l t) (holds s t) (holds-made s t (omega arith) (omega (arith, p.1, e)))
      ]
    ])
    (λ held. elim (or_cases (holds l t) (holds s t) held) [
      | inl a ↦ let p = holds-says l t a in holds-made j t (omega (arith, p.0, from)) (omega (arith, p.1))
      | inr a ↦ let p = holds-says s t a in holds-made j t (omega (arith, p.0, from)) (omega (arith, p.1))
    ])

pub muted-joined : (xs : List Span) (l s j : Span) (t : ℕ) → l.from ≤ s.from → s.from ≤ l.to → l.from < l.to → s.from < s.to
    → j.from ≡ l.from → l.to ≤ j.to → s.to ≤ j.to → (l.to ≡ j.to) ⊎ (s.to ≡ j.to)
    → is_muted (xs ++ j ∷ []) t ≡ (is_muted (xs ++ l ∷ []) t || holds s t)
muted-joined xs l s j t first touch some more from long longer exact =
    muted-more xs j t
    ∙ ap (λ b. is_muted xs t || b) (holds-joined l s j t first touch some more from long longer exact)
    ∙ or_regroup (is_muted xs t) (holds l t) (holds s t)
    ∙ ap (λ b. b || holds s t) (sym (muted-more xs l t))

-- all that was joined begins no later than what is left
abbrev pub goes_before : List Span → List Span → Bool
goes_before joined [] = true
goes_before joined (s ∷ rest) = begin_by s.from joined

pub goes_before-none : (rest : List Span) → goes_before [] rest ≡ true
goes_before-none [] = refl
goes_before-none (s ∷ rest) = refl

-- a merge under way: what was joined, and what is left of two lists
pub record IsMerged (first second joined a b : List Span) : Type 0 where
  pub apart : are_apart joined ≡ true
  pub one : are_apart a ≡ true
  pub other : are_apart b ≡ true
  pub before_one : goes_before joined a ≡ true
  pub before_other : goes_before joined b ≡ true
  pub held : (t : ℕ) → (is_muted joined t || (is_muted a t || is_muted b t)) ≡ (is_muted first t || is_muted second t)

pub merge-begins : (first second : List Span) → are_apart first ≡ true → are_apart second ≡ true
    → IsMerged first second [] first second
merge-begins first second p q = record {
  apart = refl;
  one = p;
  other = q;
  before_one = goes_before-none first;
  before_other = goes_before-none second;
  held = λ t. refl;
}

-- what begins no later than a span begins no later than what is behind it
pub goes_before-rest : (joined : List Span) (s : Span) (rest : List Span) → are_apart (s ∷ rest) ≡ true
    → begin_by s.from joined ≡ true → goes_before joined rest ≡ true
goes_before-rest joined s [] h b = refl
goes_before-rest joined s (x ∷ rest) h b =
    let p = apart-parts s (x ∷ rest) h in
    let q = ltb-true s.to x.from p.1 in
    begin_by-later joined s.from x.from (omega (arith, p.0, q)) b

pub goes_before-other : (joined : List Span) (s : Span) (other : List Span) → begins_after s other ≡ true
    → begin_by s.from joined ≡ true → goes_before joined other ≡ true
goes_before-other joined s [] h b = refl
goes_before-other joined s (x ∷ other) h b = begin_by-later joined s.from x.from (leb-true s.from x.from h) b

move_one : (j h a b : Bool) → ((j || h) || (a || b)) ≡ (j || ((h || a) || b))
move_one true h a b = refl
move_one false true a b = refl
move_one false false a b = refl

move_other : (j h a b : Bool) → ((j || h) || (a || b)) ≡ (j || (a || (h || b)))
move_other true h a b = refl
move_other false true true b = refl
move_other false true false b = refl
move_other false false a b = refl

-- the next span of a merge begins no earlier than what was joined
pub next-begins : (first second joined a b : List Span) (s : Span) (a' b' : List Span) → IsMerged first second joined a b
    → IsNext a b s a' b' → begin_by s.from joined ≡ true
next-begins first second joined a b s a' b' m (inl (e, f, h)) =
    subst (λ (xs : List Span). goes_before joined xs ≡ true) e m.before_one
next-begins first second joined a b s a' b' m (inr (e, f, h)) =
    subst (λ (xs : List Span). goes_before joined xs ≡ true) e m.before_other

-- one step of a merge
pub merge-step : (first second joined a b : List Span) (s : Span) (a' b' joined' : List Span) → IsMerged first second joined a b
    → IsNext a b s a' b' → are_apart joined' ≡ true → begin_by s.from joined' ≡ true
    → ((t : ℕ) → is_muted joined' t ≡ (is_muted joined t || holds s t))
    → IsMerged first second joined' a' b'
merge-step first second joined a b s a' b' joined' m (inl (e, f, h)) apart begins held =
    let one : are_apart (s ∷ a') ≡ true = subst (λ (xs : List Span). are_apart xs ≡ true) e m.one in
    record {
      apart = apart;
      one = (apart-parts s a' one).2;
      other = subst (λ (xs : List Span). are_apart xs ≡ true) (sym f) m.other;
      before_one = goes_before-rest joined' s a' one begins;
      before_other = subst (λ (xs : List Span). goes_before joined' xs ≡ true) (sym f) (goes_before-other joined' s b h begins);
      held = λ t.
          ap (λ c. c || (is_muted a' t || is_muted b' t)) (held t)
          ∙ ap (λ (xs : List Span). (is_muted joined t || holds s t) || (is_muted a' t || is_muted xs t)) f
          ∙ move_one (is_muted joined t) (holds s t) (is_muted a' t) (is_muted b t)
          ∙ ap (λ (xs : List Span). is_muted joined t || (is_muted xs t || is_muted b t)) (sym e)
          ∙ m.held t;
    }
merge-step first second joined a b s a' b' joined' m (inr (e, f, h)) apart begins held =
    let other : are_apart (s ∷ b') ≡ true = subst (λ (xs : List Span). are_apart xs ≡ true) e m.other in
    record {
      apart = apart;
      one = subst (λ (xs : List Span). are_apart xs ≡ true) (sym f) m.one;
      other = (apart-parts s b' other).2;
      before_one = subst (λ (xs : List Span). goes_before joined' xs ≡ true) (sym f) (goes_before-other joined' s a h begins);
      before_other = goes_before-rest joined' s b' other begins;
      held = λ t.
          ap (λ c. c || (is_muted a' t || is_muted b' t)) (held t)
          ∙ ap (λ (xs : List Span). (is_muted joined t || holds s t) || (is_muted xs t || is_muted b' t)) f
          ∙ move_other (is_muted joined t) (holds s t) (is_muted a t) (is_muted b' t)
          ∙ ap (λ (xs : List Span). is_muted joined t || (is_muted a t || is_muted xs t)) (sym e)
          ∙ m.held t;
    }

-- where nothing is left, all is joined
pub merge-ends : (first second joined a b : List Span) → IsMerged first second joined a b → length a ≡ 0 → length b ≡ 0
    → (t : ℕ) → is_muted joined t ≡ (is_muted first t || is_muted second t)
merge-ends first second joined [] [] m p q t = sym (or_false (is_muted joined t)) ∙ m.held t
merge-ends first second joined (x ∷ a) b m p q t = absurd (omega (arith, p))
merge-ends first second joined [] (x ∷ b) m p q t = absurd (omega (arith, q))

-- a step takes one span
pub next-count : (first second : List Span) (s : Span) (first' second' : List Span) → IsNext first second s first' second'
    → length first + length second ≡ 1 + (length first' + length second')
next-count first second s first' second' (inl h) = omega (arith, ap length h.0, ap length h.1)
next-count first second s first' second' (inr h) = omega (arith, ap length h.0, ap length h.1)
