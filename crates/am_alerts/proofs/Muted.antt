-- Spans that are apart: until when one lasts.
use Rattle.std.proofs.Common.{◌≡◌, ℕ, zero, suc, ◌<◌, ◌≤◌, true, false, List, [], ◌∷◌, map, get_or, refl, ap, sym, ◌∙◌, cond, inl, inr, arith}
use Rattle.std.specs.Prelude.{◌&&◌, ◌||◌, nat_le, nat_lt, Option, Some, None}
use Rattle.std.specs.List.{find}
use Rattle.std.specs.Option.{is_some, option_map}
use Rattle.std.proofs.lemmas.Bool.{and_parts, and_from, or_parts, false_from_ne_true, cases_lt, ltb-true, leb-true, lt-ltb, le-leb, cases_Bool}
use Rattle.am_alerts.specs.Forest.{level, listed}
use Rattle.am_alerts.specs.RoutingTree.{TreeRoute, plain}
use Rattle.am_alerts.specs.Spans.{holds, is_muted, muted_until, are_apart, begins_behind, OneLevelIsNeverMuted}
use Rattle.am_alerts.specs.declared.route.Child.{Child}
use Rattle.am_alerts.specs.declared.spans.Span.{Span}
use Rattle.am_alerts.proofs.Layouts.{listed_level}

-- `holds` as an order, and back
pub holds-says : (s : Span) (t : ℕ) → holds s t ≡ true → (s.from ≤ t) × (t < s.to)
holds-says s t h = let p = and_parts (nat_le s.from t) (nat_lt t s.to) h in (leb-true s.from t p.0, ltb-true t s.to p.1)

pub holds-made : (s : Span) (t : ℕ) → s.from ≤ t → t < s.to → holds s t ≡ true
holds-made s t a b = and_from (nat_le s.from t) (nat_lt t s.to) (le-leb s.from t a) (lt-ltb t s.to b)

pub not_held : (s : Span) (t : ℕ) → (holds s t ≡ true → ⊥) → holds s t ≡ false
not_held s t never = false_from_ne_true (holds s t) never

-- the parts of `are_apart`
pub apart-parts : (x : Span) (xs : List Span) → are_apart (x ∷ xs) ≡ true
    → (x.from < x.to) × (begins_behind x.to xs ≡ true) × (are_apart xs ≡ true)
apart-parts x xs h =
    let p = and_parts (nat_lt x.from x.to && begins_behind x.to xs) (are_apart xs) h in
    let q = and_parts (nat_lt x.from x.to) (begins_behind x.to xs) p.0 in
    (ltb-true x.from x.to q.0, q.1, p.1)

-- spans that begin behind a time don't hold it, or one before it
pub quiet-before : (xs : List Span) (n t : ℕ) → t ≤ n → begins_behind n xs ≡ true → are_apart xs ≡ true → is_muted xs t ≡ false
quiet-before [] n t le b h = refl
quiet-before (x ∷ xs) n t le b h =
    let p = apart-parts x xs h in
    let q = ltb-true n x.from b in
    let rest : is_muted xs t ≡ false = quiet-before xs x.to t (omega (arith, q, p.0)) p.1 p.2 in
    let here : holds x t ≡ false = not_held x t (λ held. let s = holds-says x t held in omega (arith, s.0, q)) in
    ap (λ c. c || is_muted xs t) here ∙ rest

-- what `muted_until` gives, by the first span
pub until-here : (x : Span) (xs : List Span) (t : ℕ) → holds x t ≡ true → muted_until (x ∷ xs) t ≡ Some x.to
until-here x xs t e = ap (λ b. option_map (λ (s : Span). s.to) (cond b (Some x) (find (λ s. holds s t) xs))) e

pub until-later : (x : Span) (xs : List Span) (t : ℕ) → holds x t ≡ false → muted_until (x ∷ xs) t ≡ muted_until xs t
until-later x xs t e = ap (λ b. option_map (λ (s : Span). s.to) (cond b (Some x) (find (λ s. holds s t) xs))) e

pub until-some : (xs : List Span) (t : ℕ) → is_some (muted_until xs t) ≡ is_muted xs t
until-some [] t = refl
until-some (x ∷ xs) t =
    elim (holds x t) as (λ b. is_some (option_map (λ (s : Span). s.to) (cond b (Some x) (find (λ s. holds s t) xs))) ≡ (b || is_muted xs t)) [
      | true ↦ refl
      | false ↦ until-some xs t
    ]

pub none-quiet : (xs : List Span) (t : ℕ) → is_muted xs t ≡ false → muted_until xs t ≡ None
none-quiet [] t h = refl
none-quiet (x ∷ xs) t h =
    let p = or_parts (holds x t) (is_muted xs t) h in
    until-later x xs t p.0 ∙ none-quiet xs t p.1

-- the end that `muted_until` gives, of spans that are apart
abbrev pub Ends : List Span → ℕ → ℕ → Type 0
Ends spans t u = (t < u) × ((m : ℕ) → t ≤ m → m < u → muted_until spans m ≡ Some u) × (muted_until spans u ≡ None)

same_end : (a b : ℕ) (o : Option ℕ) → o ≡ Some a → o ≡ Some b → a ≡ b
same_end a b o p q = cc

no_end : (a : ℕ) (o : Option ℕ) → o ≡ Some a → o ≡ None → ⊥
no_end a o p q = cc

end-here : (x : Span) (xs : List Span) (t u : ℕ) → are_apart (x ∷ xs) ≡ true → holds x t ≡ true → muted_until (x ∷ xs) t ≡ Some u
    → Ends (x ∷ xs) t u
end-here x xs t u a e h =
    let p = apart-parts x xs a in
    let s = holds-says x t e in
    let same : x.to ≡ u = same_end x.to u (muted_until (x ∷ xs) t) (until-here x xs t e) h in (
      omega (arith, s.1, same),
      λ m from before. until-here x xs m (holds-made x m (omega (arith, s.0)) (omega (arith, same))) ∙ ap Some same,
      until-later x xs u (not_held x u (λ held. let q = holds-says x u held in omega (arith, q.1, same)))
          ∙ none-quiet xs u (quiet-before xs x.to u (omega (arith, same)) p.1 p.2),
    )

end-later : (x : Span) (xs : List Span) (t u : ℕ) → x.to < t → Ends xs t u → Ends (x ∷ xs) t u
end-later x xs t u behind ends = (
  ends.0,
  λ m from before. until-later x xs m (not_held x m (λ held. let q = holds-says x m held in omega (arith, q.1)))
      ∙ ends.1 m from before,
  until-later x xs u (not_held x u (λ held. let q = holds-says x u held in omega (arith, q.1, ends.0))) ∙ ends.2,
)

pub ends : (spans : List Span) (t u : ℕ) → are_apart spans ≡ true → muted_until spans t ≡ Some u → Ends spans t u
ends [] t u a h = absurd (no_end u None h refl)
ends (x ∷ xs) t u a h =
    elim (cases_Bool (holds x t)) [
      | inl e ↦ end-here x xs t u a e h
      | inr e ↦
          let p = apart-parts x xs a in
          let rest : muted_until xs t ≡ Some u = sym (until-later x xs t e) ∙ h in
          elim (cases_lt x.to t) [
            | inl behind ↦ end-later x xs t u behind (ends xs t u p.2 rest)
            | inr before ↦ absurd (no_end u (muted_until xs t) rest (none-quiet xs t (quiet-before xs x.to t before p.1 p.2)))
          ]
    ]

-- ---- a tree of one level

none_of : (cs : List Child) (k : ℕ) → get_or (map (λ r. r.muted) (map plain cs)) k [] ≡ []
none_of [] k = refl
none_of (c ∷ cs) zero = refl
none_of (c ∷ cs) (suc k) = none_of cs k

muted_at-level : (cs : List Child) (position : ℕ)
    → get_or ([] ∷ map (λ (r : TreeRoute). r.muted) (listed (level (map plain cs)))) position [] ≡ []
muted_at-level cs zero = refl
muted_at-level cs (suc k) = ap (λ rs. get_or (map (λ (r : TreeRoute). r.muted) rs) k []) (listed_level (map plain cs)) ∙ none_of cs k

pub never_muted : OneLevelIsNeverMuted
never_muted root cs position t = ap (λ spans. muted_until spans t) (muted_at-level cs position)
