-- A set of the names of routes, which meets a name again where two routes have it.
use Rattle.std.proofs.Common.{Bool, ◌≡◌, ℕ, ◌+◌, ◌<◌, zero, suc, true, false, cond, ◌||◌, Bor, List, [], ◌∷◌, length, map, get_or, drop}
use Rattle.std.proofs.Common.{refl, ap, sym, ◌∙◌}
use Rattle.std.specs.BTreeSet.{BTreeSet, contains}
use Rattle.std.specs.Cmp.Lexicographic.{slice_cmp}
use Rattle.std.specs.Ordering.{is_eq, nat_cmp}
use Rattle.std.specs.Str.{bytes_eq}
use Rattle.std.proofs.lemmas.List.{at_drop_more}
use Rattle.std.proofs.lemmas.Map.Text.{is_eq-slice_cmp}
use Rattle.am_alerts.specs.Labels.{has_text_twice, occurs_in}
use Rattle.am_alerts.specs.declared.route.Child.{Child}

pub or_later : (a b : Bool) → b ≡ true → (a || b) ≡ true
or_later true b h = refl
or_later false b h = h

cond-or : (a b : Bool) → cond a true b ≡ (a || b)
cond-or true b = refl
cond-or false b = refl

-- a name that is twice among the last children is twice
twice-behind : (k : ℕ) (cs : List Child) → has_text_twice (map (λ c. c.route.name) (drop k cs)) ≡ true
    → has_text_twice (map (λ c. c.route.name) cs) ≡ true
twice-behind zero cs twice = twice
twice-behind (suc k) [] twice = twice
twice-behind (suc k) (c ∷ cs) twice =
    or_later (occurs_in c.route.name (map (λ d. d.route.name) cs)) (has_text_twice (map (λ d. d.route.name) cs)) (twice-behind k cs twice)

-- one child more, where the set has the names of those from `n` on
module _ (cs : List Child) (at n : ℕ) (c : Child) (within : at < length cs) (next : n ≡ at + 1) (here : c ≡ get_or cs at c) where
  names-more : map (λ d. d.route.name) (drop at cs) ≡ c.route.name ∷ map (λ d. d.route.name) (drop n cs)
  names-more =
      at_drop_more (λ ds. map (λ d. d.route.name) ds) cs at c within
      ∙ ap (λ (d : Child). d.route.name ∷ map (λ e. e.route.name) (drop (at + 1) cs)) (sym here)
      ∙ ap (λ k. c.route.name ∷ map (λ d. d.route.name) (drop k cs)) (sym next)

  pub name-met : occurs_in c.route.name (map (λ d. d.route.name) (drop n cs)) ≡ true → has_text_twice (map (λ d. d.route.name) cs) ≡ true
  name-met met =
      twice-behind at cs (ap has_text_twice names-more ∙ ap (λ b. b || has_text_twice (map (λ d. d.route.name) (drop n cs))) met)

  pub name-once : occurs_in c.route.name (map (λ d. d.route.name) (drop n cs)) ≡ false
      → has_text_twice (map (λ d. d.route.name) (drop n cs)) ≡ false → has_text_twice (map (λ d. d.route.name) (drop at cs)) ≡ false
  name-once new once =
      ap has_text_twice names-more ∙ ap (λ b. b || has_text_twice (map (λ d. d.route.name) (drop n cs))) new ∙ once

  pub name-put : (old put : BTreeSet (Bor (List ℕ))) (key q : Bor (List ℕ)) → key.now ≡ c.route.name
      → contains (λ x y. slice_cmp nat_cmp x.now y.now) old q ≡ occurs_in q.now (map (λ d. d.route.name) (drop n cs))
      → contains (λ x y. slice_cmp nat_cmp x.now y.now) put q
      ≡ cond (is_eq (slice_cmp nat_cmp key.now q.now)) true (contains (λ x y. slice_cmp nat_cmp x.now y.now) old q)
      → contains (λ x y. slice_cmp nat_cmp x.now y.now) put q ≡ occurs_in q.now (map (λ d. d.route.name) (drop at cs))
  name-put old put key q is has updates =
      updates
      ∙ (λ i. cond ((is_eq-slice_cmp key.now q.now ∙ ap (λ t. bytes_eq t q.now) is) i) true (has i))
      ∙ cond-or (bytes_eq c.route.name q.now) (occurs_in q.now (map (λ d. d.route.name) (drop n cs)))
      ∙ ap (occurs_in q.now) (sym names-more)
