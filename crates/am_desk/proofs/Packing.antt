-- A glance in one word, there and back.
use Rattle.std.proofs.Common.{◌≡◌, ◌<◌, ◌≤◌, ◌+◌, ◌-◌, ◌*◌, ◌/◌, ◌%◌, ◌^◌, ℕ, sym, ap, ◌∙◌, arith}
use Rattle.std.proofs.Math.Nat.{le-div_iff_mul-le, mul_assoc, mul_comm, one-le-mul}
use Rattle.std.proofs.lemmas.Nat.{div-mul-add, mod-mul-add, mul-add-lt, mul-le}
use Rattle.am_model.specs.declared.config.Limits.{Limits}
use Rattle.am_model.specs.declared.config.TheConstants.{MAX_FLUSHES, MAX_GROUPS, MAX_HISTORY}
use Rattle.am_model.specs.declared.views.Glance.{Glance}
use Rattle.am_desk.specs.Glances.{HasCapacity, HasSpace, packed, pairs_within, most_calls}

some_pair : (l : Limits) → 0 < pairs_within l
some_pair l = one-le-mul {a = l.groups + 1} {b = l.flushes + 1} (omega arith) (omega arith)

-- fewer calls than the most, as a product
under : (l : Limits) (n : ℕ) → n < most_calls l → (n + 1) * pairs_within l ≤ 2 ^ 64 - 1
under l n few = (le-div_iff_mul-le {k = pairs_within l} {x = n + 1} {y = 2 ^ 64 - 1} (some_pair l)).0 (omega arith)

below : (l : Limits) (g : Glance) → HasSpace l g → packed l g < (l.groups + 1) * ((l.flushes + 1) * (g.calls + 1))
below l g space =
    mul-add-lt (g.calls * (l.flushes + 1) + g.flushes) (l.groups + 1) g.groups ((l.flushes + 1) * (g.calls + 1))
    (mul-add-lt g.calls (l.flushes + 1) g.flushes (g.calls + 1) (omega arith) (omega (arith, space.flushes)))
    (omega (arith, space.groups))

-- the word of a glance that has space has 64 bits
pub fits : (l : Limits) (g : Glance) → HasSpace l g → g.calls < most_calls l → packed l g < 2 ^ 64
fits l g space few =
    let product : (l.groups + 1) * ((l.flushes + 1) * (g.calls + 1)) ≡ (g.calls + 1) * pairs_within l = sym (mul_assoc (l.groups + 1) (l.flushes + 1) (g.calls + 1)) ∙ mul_comm (pairs_within l) (g.calls + 1) in
    omega (arith, below l g space, product, under l g.calls few)

-- the word of a glance shows its counts
pub unpacks : (l : Limits) (g : Glance) (word : ℕ) → HasSpace l g → word ≡ packed l g
    → record { calls = word / (l.groups + 1) / (l.flushes + 1); groups = word % (l.groups + 1); flushes = word / (l.groups + 1) % (l.flushes + 1) } ≡ g
unpacks l g word space is =
    let few : g.groups < l.groups + 1 = omega (arith, space.groups) in
    let some : g.flushes < l.flushes + 1 = omega (arith, space.flushes) in
    let both : ℕ = g.calls * (l.flushes + 1) + g.flushes in
    let rest : word / (l.groups + 1) ≡ both = ap (λ (w : ℕ). w / (l.groups + 1)) is ∙ div-mul-add both (l.groups + 1) g.groups few in
    let groups : word % (l.groups + 1) ≡ g.groups = ap (λ (w : ℕ). w % (l.groups + 1)) is ∙ mod-mul-add both (l.groups + 1) g.groups few in
    let calls : word / (l.groups + 1) / (l.flushes + 1) ≡ g.calls = ap (λ (w : ℕ). w / (l.flushes + 1)) rest ∙ div-mul-add g.calls (l.flushes + 1) g.flushes some in
    let flushes : word / (l.groups + 1) % (l.flushes + 1) ≡ g.flushes = ap (λ (w : ℕ). w % (l.flushes + 1)) rest ∙ mod-mul-add g.calls (l.flushes + 1) g.flushes some in
    λ i. record { calls = calls i; groups = groups i; flushes = flushes i }

-- where the word has capacity for some call, it has so many values as there are pairs
pub pairs_fit : (l : Limits) (n : ℕ) → n < most_calls l → pairs_within l < 2 ^ 64
pairs_fit l n few = omega (arith, under l 0 (omega (arith, few)))

-- within the greatest limits the word has capacity for a whole history
pub capacity_at_first : (l : Limits) → l.groups ≤ MAX_GROUPS → l.flushes ≤ MAX_FLUSHES → l.history ≤ MAX_HISTORY → HasCapacity l 0
capacity_at_first l groups flushes history =
    let pairs : pairs_within l ≤ 500_001 * 500_001 = mul-le (l.groups + 1) (l.flushes + 1) 500_001 500_001 (omega arith) (omega arith) in
    let all : (l.history + 1) * pairs_within l ≤ 64_000_001 * (500_001 * 500_001) = mul-le (l.history + 1) (pairs_within l) 64_000_001 (500_001 * 500_001) (omega arith) pairs in
    let most : l.history + 1 ≤ most_calls l = (le-div_iff_mul-le {k = pairs_within l} {x = l.history + 1} {y = 2 ^ 64 - 1} (some_pair l)).1 (omega (arith, all)) in
    (omega arith, omega (arith, most))
