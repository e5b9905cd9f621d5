-- Each step of the queue of job numbers keeps the rule.
use Rattle.std.proofs.Common.{◌≡◌, ◌≢◌, ℕ, zero, suc, ◌+◌, ◌-◌, ◌<◌, ◌≤◌, List, [], ◌∷◌, ◌++◌, length, set, refl, sym, ap, ◌∙◌, subst}
use Rattle.std.proofs.Common.{⊎_elim, arith, length-append, ◌==◌, if◌then◌else◌}
use mathlib.Core.Option.{some, some-ne-none, some-injective}
use lib.ListN.{get_elem?}
use Rattle.crossbeam_queue.specs.Fifo.{Pushes, Pops, Forks, Merges, Learns}
use Rattle.crossbeam_queue.proofs.Lists.{at_set, at_snoc}
use Rattle.am_pool.specs.declared.limits.TheConstants.{ALL_PARTS}
use Rattle.am_pool.specs.declared.queue.Hand.{Hand}
use Rattle.am_pool.specs.Dealt.{hand, weigh, total, numbers, Dealt, IsTake, IsDrained, DealsEachOnce}
use Rattle.am_pool.proofs.Weights.{weigh-append, weigh-one, numbers-length, numbers-snoc, weigh_next, total_set, total-snoc, total_at}
use Rattle.am_pool.proofs.Weights.{total_two, total_alone, weigh-pieces, times-numbers}

-- what holds of each hand
abbrev Each : (Hand → Type 0) → List Hand → Type 0
Each F views = (pass : ℕ) (v : Hand) → get_elem? views pass ≡ some v → F v

each_set : (F : Hand → Type 0) (views : List Hand) (port : ℕ) (w : Hand) → F w
    → ((j : ℕ) (u : Hand) → j ≢ port → get_elem? views j ≡ some u → F u) → Each F (set views port w)
each_set F views port w mine others j u e =
    ⊎_elim
    (λ (x : (j ≡ port) × (w ≡ u)). subst F x.1 mine)
    (λ (x : (j ≢ port) × (get_elem? views j ≡ some u)). others j u x.0 x.1)
    (at_set views port j w u e)

each_snoc : (F : Hand → Type 0) (views : List Hand) (w : Hand) → F w → Each F views → Each F (views ++ w ∷ [])
each_snoc F views w mine others j u e =
    ⊎_elim (λ (x : get_elem? views j ≡ some u). others j u x) (λ (x : w ≡ u). subst F x mine) (at_snoc views w u j e)

pub begins : Dealt [] (hand ALL_PARTS 0 [] ∷ [])
begins =
    record {
      gone = 0;
      left = refl;
      parts = refl;
      taken = λ h. refl;
      put = only (λ v. 0 < v.parts → v.put ≡ 0 + 0) (λ _. refl);
      idle = only (λ v. v.parts ≡ 0 → v.taken ≡ []) (λ _. refl);
    }
  where
    only : (F : Hand → Type 0) → F (hand ALL_PARTS 0 []) → Each F (hand ALL_PARTS 0 [] ∷ [])
    only F mine zero u e = subst F (some-injective _ u e) mine
    only F mine (suc j) u e = absurd (some-ne-none u (sym e))

pub puts : (n port : ℕ) (v : Hand) (x : ℕ) → v.parts ≡ ALL_PARTS → v.put ≡ x
    → Pushes Dealt n port v x (λ w. w ≡ hand v.parts (v.put + 1) v.taken)
puts n port v x all next items views space d at =
    let w = hand v.parts (v.put + 1) v.taken in
    let here : v.put ≡ d.gone + length items = d.put port v at (omega (arith, all)) in
    let longer : length (items ++ x ∷ []) ≡ length items + 1 = length-append items (x ∷ []) in
    let many : suc (length items) ≡ length (items ++ x ∷ []) = omega (arith, longer) in (
      w,
      record {
        gone = d.gone;
        left =
            ap (λ (l : List ℕ). l ++ x ∷ []) d.left
            ∙ ap (λ (k : ℕ). numbers d.gone (length items) ++ k ∷ []) (sym next ∙ here)
            ∙ numbers-snoc d.gone (length items)
            ∙ ap (numbers d.gone) many;
        parts = omega (arith, total_set (λ u. u.parts) views port v w at, d.parts);
        taken = λ h. omega (arith, total_set (λ u. weigh h u.taken) views port v w at, d.taken h);
        put = each_set (λ u. 0 < u.parts → u.put ≡ d.gone + length (items ++ x ∷ [])) views port w
            (λ _. omega (arith, here, longer))
            (λ j u ne e h. absurd (omega (arith, total_two (λ y. y.parts) views j port u v ne e at, d.parts, all, h)));
        idle = each_set (λ u. u.parts ≡ 0 → u.taken ≡ []) views port w
            (λ none. absurd (omega (arith, all, none)))
            (λ j u ne e. d.idle j u e);
      },
      refl,
    )

pub has_space : (port : ℕ) (v : Hand) → v.parts ≡ ALL_PARTS → Learns Dealt port v (λ items. length items ≤ v.put)
has_space port v all items views d at = omega (arith, d.put port v at (omega (arith, all)))

pub takes : (port : ℕ) (v : Hand) → 0 < v.parts → Pops Dealt port v (IsTake v)
takes port v more x items views d at =
    let w = hand v.parts v.put (v.taken ++ x ∷ []) in
    let here : v.put ≡ d.gone + (length items + 1) = omega (arith, d.put port v at more) in
    let split : x ∷ items ≡ numbers d.gone (suc (length items)) = d.left in
    let first : x ≡ d.gone = cc (split) in
    let rest : items ≡ numbers (d.gone + 1) (length items) = cc (split) in
    let own = total_at (λ u. weigh (λ _. 1) u.taken) views port v at in
    let few : length v.taken ≤ d.gone =
    omega (arith, sym (weigh-one v.taken), own, d.taken (λ _. 1), weigh-one (numbers 0 d.gone), numbers-length 0 d.gone) in (
      w,
      record {
        gone = d.gone + 1;
        left = rest;
        parts = omega (arith, total_set (λ u. u.parts) views port v w at, d.parts);
        taken = λ h.
            let changed = total_set (λ u. weigh h u.taken) views port v w at in
            omega (arith, changed, d.taken h, weigh-append h v.taken (x ∷ []), weigh_next h d.gone, ap h first);
        put = each_set (λ u. 0 < u.parts → u.put ≡ d.gone + 1 + length items) views port w
            (λ _. omega (arith, here))
            (λ j u ne e h. omega (arith, d.put j u e h));
        idle = each_set (λ u. u.parts ≡ 0 → u.taken ≡ []) views port w
            (λ none. absurd (omega (arith, more, none)))
            (λ j u ne e. d.idle j u e);
      },
      (refl, omega (arith, here, first), omega (arith, here, few)),
    )

pub learns : (port : ℕ) (v : Hand) → Learns Dealt port v (IsDrained v)
learns port v items views d at empty all h =
    let here : v.put ≡ d.gone + length items = d.put port v at (omega (arith, all)) in
    let alone : total (λ u. weigh h u.taken) views ≡ weigh h v.taken =
    total_alone (λ u. weigh h u.taken) views port v at
    (λ j u ne e. ap (weigh h) (d.idle j u e (omega (arith, total_two (λ y. y.parts) views j port u v ne e at, d.parts, all)))) in
    let gone : d.gone ≡ v.put = omega (arith, here, empty) in
    sym alone ∙ d.taken h ∙ ap (λ (k : ℕ). weigh h (numbers 0 k)) gone

pub forks : (port : ℕ) (v : Hand) → 1 < v.parts → Forks Dealt port v (hand (v.parts - 1) v.put v.taken) (hand 1 v.put [])
forks port v more items views d at =
    let l = hand (v.parts - 1) v.put v.taken in
    let r = hand 1 v.put [] in
    let here : v.put ≡ d.gone + length items = d.put port v at (omega (arith, more)) in
    record {
      gone = d.gone;
      left = d.left;
      parts = omega (arith, total-snoc (λ u. u.parts) (set views port l) r, total_set (λ u. u.parts) views port v l at, d.parts, more);
      taken = λ h.
          let changed = total_set (λ u. weigh h u.taken) views port v l at in
          omega (arith, total-snoc (λ u. weigh h u.taken) (set views port l) r, changed, d.taken h);
      put = each_snoc (λ u. 0 < u.parts → u.put ≡ d.gone + length items) (set views port l) r (λ _. here)
          (each_set (λ u. 0 < u.parts → u.put ≡ d.gone + length items) views port l (λ _. here) (λ j u ne e. d.put j u e));
      idle = each_snoc (λ u. u.parts ≡ 0 → u.taken ≡ []) (set views port l) r (λ _. refl)
          (each_set (λ u. u.parts ≡ 0 → u.taken ≡ []) views port l (λ none. absurd (omega (arith, more, none))) (λ j u ne e. d.idle j u e));
    }

pub merges : (port : ℕ) (v : Hand) (other : ℕ) (u : Hand) → 0 < v.parts → 0 < u.parts
    → Merges Dealt port v other u (hand (v.parts + u.parts) v.put (v.taken ++ u.taken)) (hand 0 0 [])
merges port v other u mine theirs items views d at apart there =
    let b = hand (v.parts + u.parts) v.put (v.taken ++ u.taken) in
    let spent = hand 0 0 [] in
    let vs = set views port b in
    let here : v.put ≡ d.gone + length items = d.put port v at mine in
    let was : get_elem? views other ≡ some u =
    ⊎_elim
    (λ (x : (other ≡ port) × (b ≡ u)). absurd (apart x.0))
    (λ (x : (other ≢ port) × (get_elem? views other ≡ some u)). x.1)
    (at_set views port other b u there) in
    record {
      gone = d.gone;
      left = d.left;
      parts = omega (arith, total_set (λ y. y.parts) vs other u spent there, total_set (λ y. y.parts) views port v b at, d.parts);
      taken = λ h.
          let emptied = total_set (λ y. weigh h y.taken) vs other u spent there in
          let changed = total_set (λ y. weigh h y.taken) views port v b at in
          omega (arith, emptied, changed, d.taken h, weigh-append h v.taken u.taken);
      put = each_set (λ y. 0 < y.parts → y.put ≡ d.gone + length items) vs other spent (λ h. absurd (omega (arith, h)))
          (λ j y ne e.
          each_set (λ y. 0 < y.parts → y.put ≡ d.gone + length items) views port b (λ _. here) (λ i z _ e'. d.put i z e') j y e);
      idle = each_set (λ y. y.parts ≡ 0 → y.taken ≡ []) vs other spent (λ _. refl)
          (λ j y ne e.
          each_set (λ y. y.parts ≡ 0 → y.taken ≡ []) views port b
          (λ none. absurd (omega (arith, mine, none)))
          (λ i z _ e'. d.idle i z e')
          j y e);
    }

-- what all hands took and what is left is what was put, each number once
pub deals_each_once : DealsEachOnce
deals_each_once items views d pass v at more k =
    let h = λ (y : ℕ). if y == k then 1 else 0 in
    let put : v.put ≡ d.gone + length items = d.put pass v at more in
    let zero_is : 0 + d.gone ≡ d.gone = omega arith in
    let left : weigh h items ≡ weigh h (numbers d.gone (length items)) = ap (weigh h) d.left in
    let pieces = weigh-pieces h 0 d.gone (length items) in
    let second = ap (λ (i : ℕ). weigh h (numbers i (length items))) zero_is in
    let whole = ap (λ (i : ℕ). weigh h (numbers 0 i)) put in
    omega (arith, d.taken h, left, pieces, second, whole, times-numbers k v.put)
