-- The gaps of a list of spans.
use Rattle.std.proofs.Common.{◌≡◌, ℕ, ◌≤◌, Bool, true, false, ◌-◌, List, [], ◌∷◌, length, get_or, take, drop, subst, refl, ap, sym, ◌∙◌, inl, inr, arith}
use Rattle.std.specs.Prelude.{◌&&◌, ◌||◌, not, nat_le, nat_lt, min}
use Rattle.std.proofs.Math.Seq.{take-length}
use Rattle.std.proofs.lemmas.Bool.{and_parts, and_from, or_cases, or_parts, or_from, or_left, or_right, ltb-true, leb-true, lt-ltb, le-leb, cases_lt, not-true, not_from_false, both_ways}
use Rattle.am_alerts.specs.declared.spans.Span.{Span}
use Rattle.am_alerts.specs.Spans.{holds, is_muted, are_apart, begins_behind}
use Rattle.am_hours.specs.Merging.{begin_by}
use Rattle.am_alerts.proofs.Muted.{holds-says, holds-made, not_held, apart-parts, quiet-before}
use Rattle.am_hours.proofs.Apart.{same_tests, or_regroup, begin_by-later}

-- the first span, if there is one, begins at a time or behind it
abbrev pub begins_from : ℕ → List Span → Bool
begins_from at [] = true
begins_from at (s ∷ spans) = nat_le at s.from

pub begins_from-zero : (spans : List Span) → begins_from 0 spans ≡ true
begins_from-zero [] = refl
begins_from-zero (s ∷ spans) = le-leb 0 s.from (omega arith)

begins_from-behind : (at : ℕ) (spans : List Span) → begins_behind at spans ≡ true → begins_from at spans ≡ true
begins_from-behind at [] h = refl
begins_from-behind at (s ∷ spans) h = let p = ltb-true at s.from h in le-leb at s.from (omega (arith, p))

and_true : (a : Bool) → (a && true) ≡ a
and_true true = refl
and_true false = refl

-- the gaps up to a time, and the spans from there on
pub record IsOutside (all : List Span) (end : ℕ) (gaps : List Span) (at : ℕ) (rest : List Span) : Type 0 where
  pub apart : are_apart gaps ≡ true
  pub spans : are_apart rest ≡ true
  pub begun : begin_by at gaps ≡ true
  pub ahead : begins_from at rest ≡ true
  pub held : (t : ℕ) → (is_muted gaps t || ((nat_le at t && nat_lt t end) && not (is_muted rest t))) ≡ (nat_lt t end && not (is_muted all t))

zero_le : (t end : ℕ) → (nat_le 0 t && nat_lt t end) ≡ nat_lt t end
zero_le t end = ap (λ b. b && nat_lt t end) (le-leb 0 t (omega arith))

pub outside-begins : (all : List Span) (end : ℕ) → are_apart all ≡ true → IsOutside all end [] 0 all
outside-begins all end h = record {
  apart = refl;
  spans = h;
  begun = refl;
  ahead = begins_from-zero all;
  held = λ t. ap (λ b. b && not (is_muted all t)) (zero_le t end);
}

gap-in : (s g : Span) (at end t : ℕ) (rest : List Span) → are_apart (s ∷ rest) ≡ true → at ≤ s.from → g.from ≡ at → g.to ≡ min s.from end
    → (holds g t || ((nat_le s.to t && nat_lt t end) && not (is_muted rest t))) ≡ true
    → ((nat_le at t && nat_lt t end) && not (holds s t || is_muted rest t)) ≡ true
gap-in s g at end t rest h ahead from to held =
    let p = apart-parts s rest h in
    let R = is_muted rest t in
    elim (or_cases (holds g t) ((nat_le s.to t && nat_lt t end) && not R) held) [
      | inl a ↦
          let q = holds-says g t a in
          and_from (nat_le at t && nat_lt t end) (not (holds s t || R))
          (and_from (nat_le at t) (nat_lt t end) (le-leb at t (omega (arith, q.0, from))) (lt-ltb t end (omega (arith, q.1, to))))
          (not_from_false (holds s t || R) (or_from (holds s t) R
          (not_held s t (λ x. let y = holds-says s t x in omega (arith, y.0, q.1, to)))
          (quiet-before rest s.to t (omega (arith, q.1, to, p.0)) p.1 p.2)))
      | inr a ↦
          let q = and_parts (nat_le s.to t && nat_lt t end) (not R) a in
          let r = and_parts (nat_le s.to t) (nat_lt t end) q.0 in
          let le = leb-true s.to t r.0 in
          and_from (nat_le at t && nat_lt t end) (not (holds s t || R))
          (and_from (nat_le at t) (nat_lt t end) (le-leb at t (omega (arith, le, p.0))) r.1)
          (not_from_false (holds s t || R) (or_from (holds s t) R
          (not_held s t (λ x. let y = holds-says s t x in omega (arith, y.1, le)))
          (not-true R q.1)))
    ]

gap-out : (s g : Span) (at end t : ℕ) (rest : List Span) → g.from ≡ at → g.to ≡ min s.from end
    → ((nat_le at t && nat_lt t end) && not (holds s t || is_muted rest t)) ≡ true
    → (holds g t || ((nat_le s.to t && nat_lt t end) && not (is_muted rest t))) ≡ true
gap-out s g at end t rest from to held =
    let R = is_muted rest t in
    let q = and_parts (nat_le at t && nat_lt t end) (not (holds s t || R)) held in
    let r = and_parts (nat_le at t) (nat_lt t end) q.0 in
    let le = leb-true at t r.0 in
    let lt = ltb-true t end r.1 in
    let quiet = or_parts (holds s t) R (not-true (holds s t || R) q.1) in
    elim (cases_lt t s.from) [
      | inl before ↦
          or_left (holds g t) ((nat_le s.to t && nat_lt t end) && not R)
          (holds-made g t (omega (arith, from, le)) (omega (arith, to, lt, before)))
      | inr behind ↦ elim (cases_lt t s.to) [
        | inl inside ↦ absurd (both_ways (holds s t) quiet.0 (holds-made s t behind inside))
        | inr over ↦
            or_right (holds g t) ((nat_le s.to t && nat_lt t end) && not R)
            (and_from (nat_le s.to t && nat_lt t end) (not R)
            (and_from (nat_le s.to t) (nat_lt t end) (le-leb s.to t over) r.1)
            (not_from_false R quiet.1))
      ]
    ]

-- a span is behind, and the gap before it is added
pub outside-step : (all : List Span) (end : ℕ) (gaps : List Span) (at : ℕ) (s : Span) (rest gaps' : List Span) (g : Span)
    → IsOutside all end gaps at (s ∷ rest) → g.from ≡ at → g.to ≡ min s.from end → are_apart gaps' ≡ true
    → begin_by at gaps' ≡ true → ((t : ℕ) → is_muted gaps' t ≡ (is_muted gaps t || holds g t))
    → IsOutside all end gaps' s.to rest
outside-step all end gaps at s rest gaps' g o from to apart begins held =
    let p = apart-parts s rest o.spans in
    let ahead = leb-true at s.from o.ahead in
    record {
      apart = apart;
      spans = p.2;
      begun = begin_by-later gaps' at s.to (omega (arith, ahead, p.0)) begins;
      ahead = begins_from-behind s.to rest p.1;
      held = λ t.
          let R = is_muted rest t in
          ap (λ b. b || ((nat_le s.to t && nat_lt t end) && not R)) (held t)
          ∙ sym (or_regroup (is_muted gaps t) (holds g t) ((nat_le s.to t && nat_lt t end) && not R))
          ∙ ap (λ b. is_muted gaps t || b)
          (same_tests (holds g t || ((nat_le s.to t && nat_lt t end) && not R))
          ((nat_le at t && nat_lt t end) && not (holds s t || R))
          (gap-in s g at end t rest o.spans ahead from to) (gap-out s g at end t rest from to))
          ∙ o.held t;
    }

-- where no span is left, the last gap is added
pub outside-ends : (all : List Span) (end : ℕ) (gaps : List Span) (at : ℕ) (gaps' : List Span) (g : Span)
    → IsOutside all end gaps at [] → g.from ≡ at → g.to ≡ end → (t : ℕ) → is_muted gaps' t ≡ (is_muted gaps t || holds g t)
    → is_muted gaps' t ≡ (nat_lt t end && not (is_muted all t))
outside-ends all end gaps at gaps' g o from to t held =
    held
    ∙ ap (λ n. is_muted gaps t || (nat_le n t && nat_lt t g.to)) from
    ∙ ap (λ n. is_muted gaps t || (nat_le at t && nat_lt t n)) to
    ∙ ap (λ b. is_muted gaps t || b) (sym (and_true (nat_le at t && nat_lt t end)))
    ∙ o.held t

rest-whole : (x : Span) (rest : List Span) → take (length (x ∷ rest) - 1) rest ≡ rest
rest-whole x rest =
    let all : length (x ∷ rest) - 1 ≡ length rest = omega arith in
    ap (λ n. take n rest) all ∙ take-length rest

-- the same step, of a list that isn't empty
pub outside-next : (all : List Span) (end : ℕ) (gaps : List Span) (at : ℕ) (xs : List Span) (d : Span) (gaps' : List Span) (g : Span)
    → 1 ≤ length xs → IsOutside all end gaps at xs → g.from ≡ at → g.to ≡ min (get_or xs 0 d).from end → are_apart gaps' ≡ true
    → begin_by at gaps' ≡ true → ((t : ℕ) → is_muted gaps' t ≡ (is_muted gaps t || holds g t))
    → IsOutside all end gaps' (get_or xs 0 d).to (take (length xs - 1) (drop 1 xs))
outside-next all end gaps at [] d gaps' g some o from to apart begins held = absurd (omega (arith, some))
outside-next all end gaps at (x ∷ rest) d gaps' g some o from to apart begins held =
    subst (λ (xs : List Span). IsOutside all end gaps' x.to xs) (sym (rest-whole x rest))
    (outside-step all end gaps at x rest gaps' g o from to apart begins held)
