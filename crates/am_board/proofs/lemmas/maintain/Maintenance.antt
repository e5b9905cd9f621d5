-- What a maintenance leaves of the groups and of the log.
use Rattle.std.proofs.Common.{◌≡◌, ℕ, suc, ◌+◌, ◌-◌, Bool, true, false, cond, not, List, [], ◌∷◌, length, map, filter, count_by, refl, sym, ap, ◌∙◌, subst, arith}
use Rattle.std.specs.Prelude.{All, IsTrue}
use Rattle.std.specs.List.{list_any}
use Rattle.std.proofs.lemmas.List.Elements.{All-cons, All-weaker}
use Rattle.std.proofs.lemmas.List.Filters.{length-filter_both}
use Rattle.std.proofs.lemmas.List.Sums.{length-filter, sum_by-cons}
use Rattle.am_alerts.specs.declared.labels.Label.{Label}
use Rattle.am_nflog.proofs.CallerLemmas.{is_known-keys, keys-collected}
use Rattle.am_nflog.specs.Log.{Slots, key_eq, is_known, collected}
use Rattle.am_nflog.specs.declared.key.LogKey.{LogKey}
use Rattle.am_model.specs.declared.config.Config.{Config}
use Rattle.am_board.specs.declared.flush.OpenFlush.{OpenFlush}
use Rattle.am_model.specs.declared.group.GroupName.{GroupName}
use Rattle.am_board.specs.Refinement.{IsNotified, IsPrepared}
use Rattle.am_model.specs.Lists.{without}
use Rattle.am_model.specs.State.{same_name}

module _ {X Y : Type 0} (test : Y → Bool) (f : X → Y) where
  -- those whose image fails a test are left out of the images
  pub map-without : (xs : List X) → map f (filter (λ x. not (test (f x))) xs) ≡ without test (map f xs)
  map-without [] = refl
  map-without (x ∷ xs) =
      elim (test (f x)) as (λ b. map f (cond (not b) (x ∷ filter (λ y. not (test (f y))) xs) (filter (λ y. not (test (f y))) xs)) ≡ cond (not b) (f x ∷ without test (map f xs)) (without test (map f xs))) [
        | true ↦ map-without xs
        | false ↦ ap (λ l. f x ∷ l) (map-without xs)
      ]

  pub count_by-map : (xs : List X) → count_by test (map f xs) ≡ count_by (λ x. test (f x)) xs
  count_by-map [] = refl
  count_by-map (x ∷ xs) =
      sum_by-cons (λ (y : Y). cond (test y) 1 0) (f x) (map f xs)
      ∙ ap (λ n. cond (test (f x)) 1 0 + n) (count_by-map xs)
      ∙ sym (sum_by-cons (λ (z : X). cond (test (f z)) 1 0) x xs)

  -- as many go as pass
  pub length-without : (xs : List X) → length xs - length (filter (λ x. not (test (f x))) xs) ≡ count_by test (map f xs)
  length-without xs =
      let parts : length (filter (λ x. test (f x)) xs) + length (filter (λ x. not (test (f x))) xs) ≡ length xs = length-filter_both (λ x. test (f x)) (λ x. not (test (f x))) (λ x. refl) xs in
      let gone : length (filter (λ x. test (f x)) xs) ≡ count_by (λ x. test (f x)) xs = length-filter (λ x. test (f x)) xs in
      let fact : count_by test (map f xs) ≡ count_by (λ x. test (f x)) xs = count_by-map xs in
      omega arith

-- what holds of each image holds of those that stay
pub All-map_filter : {X Y : Type 0} (P : Y → Type 0) (test : X → Bool) (f : X → Y) (xs : List X) → All P (map f xs) → All P (map f (filter test xs))
All-map_filter P test f [] h = h
All-map_filter P test f (x ∷ xs) h =
    let head : P (f x) = h 0 (f x) (omega arith) in
    let rest : All P (map f (filter test xs)) = All-map_filter P test f xs (λ k d less. h (suc k) d (omega arith)) in
    elim (test x) as (λ b. All P (map f (cond b (x ∷ filter test xs) (filter test xs)))) [
      | true ↦ All-cons P (f x) (map f (filter test xs)) head rest
      | false ↦ rest
    ]

-- a collection forgets no key
pub known-collected : (t : ℕ) (log : Slots GroupName (List Label)) (key : LogKey GroupName) → is_known same_name (collected t log) key ≡ is_known same_name log key
known-collected t log key =
    is_known-keys same_name (collected t log) key ∙ ap (list_any (key_eq same_name key)) (keys-collected same_name log t) ∙ sym (is_known-keys same_name log key)

-- so what was prepared stays so
pub prepared-collected : (config : Config) (t : ℕ) (log : Slots GroupName (List Label)) (fs : List OpenFlush) → All (IsPrepared config log) fs → All (IsPrepared config (collected t log)) fs
prepared-collected config t log fs h =
    All-weaker (IsPrepared config log) (IsPrepared config (collected t log))
    (λ f k. record {
      kept_for = k.kept_for;
      notified = All-weaker (IsNotified log f) (IsNotified (collected t log) f) (λ a j. record { group = j.group; known = subst IsTrue (sym (known-collected t log a.key)) j.known; sets = j.sets }) f.notified.items k.notified;
    })
    fs h
