-- Which integrations are notified, against what the definitions say of the receiver, the log and what is unmuted.
use Rattle.std.proofs.Common.{◌≡◌, ◌+◌, ◌<◌, ◌≤◌, ℕ, Bool, true, false, cond, if◌then◌else◌, List, [], ◌∷◌, ◌++◌, length, map, filter, take, get_or, refl, sym, ap, ◌∙◌, subst, arith}
use Rattle.std.specs.List.{enumerate_from, AllByRecursion}
use Rattle.std.specs.Str.{bytes_eq}
use Rattle.std.proofs.lemmas.List.{map-append, take_more, length-take-le}
use Rattle.std.proofs.lemmas.List.Elements.{filter-append, recursion_from_All}
use Rattle.am_alerts.specs.AlertData.{AlertData}
use Rattle.am_nflog.specs.Members.{is_empty}
use Rattle.am_board.specs.declared.dedup.Update.{Update}
use Rattle.am_model.specs.declared.config.Config.{Config}
use Rattle.am_model.specs.declared.config.Integration.{Integration}
use Rattle.am_model.specs.declared.config.Receiver.{Receiver}
use Rattle.am_model.specs.declared.config.TheConstants.{MAX_INTEGRATIONS}
use Rattle.am_model.specs.declared.group.GroupName.{GroupName}
use Rattle.am_model.specs.Begin.{label_sets}
use Rattle.am_model.specs.Configured.{HaveFewIntegrations, integrations_named, route_of}
use Rattle.am_board.specs.Beginning.{update_of}

-- an element more has the index behind the others
enumerate-push : {X : Type 0} (n : ℕ) (xs : List X) (y : X) → enumerate_from n (xs ++ y ∷ []) ≡ enumerate_from n xs ++ (n + length xs, y) ∷ []
enumerate-push n [] y = ap (λ m. (m, y) ∷ []) (omega arith)
enumerate-push n (x ∷ xs) y =
    ap (λ l. (n, x) ∷ l) (enumerate-push (n + 1) xs y ∙ ap (λ m. enumerate_from (n + 1) xs ++ (m, y) ∷ []) (omega arith))

-- the elements up to one, each with its index
pub enumerate-more : {X : Type 0} (xs : List X) (i : ℕ) (x : X) → i < length xs → x ≡ get_or xs i x → enumerate_from 0 (take (i + 1) xs) ≡ enumerate_from 0 (take i xs) ++ (i, x) ∷ []
enumerate-more xs i x within is =
    let count : 0 + length (take i xs) ≡ i = omega (arith, length-take-le i xs) in
    ap (enumerate_from 0) (take_more xs i x within)
    ∙ (ap (λ y. enumerate_from 0 (take i xs ++ y ∷ [])) (sym is) ∙ (enumerate-push 0 (take i xs) x ∙ ap (λ m. enumerate_from 0 (take i xs) ++ (m, x) ∷ []) count))

module _ (test : ℕ × Integration → Bool) (integrations : List Integration) (i : ℕ) (integration : Integration) (notified : List Update) (within : i < length integrations) (is : integration ≡ get_or integrations i integration) (before : notified ≡ map update_of (filter test (enumerate_from 0 (take i integrations)))) where
  -- what passes the test and what may come behind it
  more : map update_of (filter test (enumerate_from 0 (take (i + 1) integrations))) ≡ notified ++ map update_of (cond (test (i, integration)) ((i, integration) ∷ []) [])
  more =
      let passed = filter test (enumerate_from 0 (take i integrations)) in
      let one = cond (test (i, integration)) ((i, integration) ∷ []) [] in
      ap (λ l. map update_of (filter test l)) (enumerate-more integrations i integration within is)
      ∙ (ap (map update_of) (filter-append test (enumerate_from 0 (take i integrations)) ((i, integration) ∷ [])) ∙ (map-append update_of passed one ∙ ap (λ l. l ++ map update_of one) (sym before)))

  -- an integration is added, if it is notified
  pub notified-next : (all : List Update) (b : Bool) → b ≡ test (i, integration) → (n : ℕ) → n ≡ i → all ≡ notified ++ (if b then update_of (n, integration) ∷ [] else [])
      → all ≡ map update_of (filter test (enumerate_from 0 (take (i + 1) integrations)))
  notified-next all b same n at added =
      added
      ∙ (λ j. notified ++ (if same j then update_of (at j, integration) ∷ [] else []))
      ∙ ap (λ l. notified ++ l) (either (test (i, integration)))
      ∙ sym more
    where
      either : (b : Bool) → (if b then update_of (i, integration) ∷ [] else []) ≡ map update_of (cond b ((i, integration) ∷ []) [])
      either true = refl
      either false = refl

-- there are as few integrations of a name as each receiver has
few-named : (name : List ℕ) (receivers : List Receiver) → AllByRecursion (λ r. length r.integrations ≤ MAX_INTEGRATIONS) receivers → length (integrations_named name receivers) ≤ MAX_INTEGRATIONS
few-named name [] few = omega arith
few-named name (r ∷ rs) few =
    elim (bytes_eq r.name name) as (λ b. length (cond b r.integrations (integrations_named name rs)) ≤ MAX_INTEGRATIONS) [
      | true ↦ few.0
      | false ↦ few-named name rs few.1
    ]

-- there are label sets where there are alerts
pub empty-label_sets : (alerts : List AlertData) → is_empty (label_sets alerts) ≡ is_empty alerts
empty-label_sets [] = refl
empty-label_sets (a ∷ alerts) = refl

-- where no integration needs an update, nobody is notified
pub no-updates : (notified : List (ℕ × Integration)) → length (map update_of notified) ≡ 0 → notified ≡ []
no-updates [] none = refl
no-updates (a ∷ notified) none = absurd (omega arith)

-- a group's receiver has few integrations
pub few-of : (config : Config) (name : GroupName) (integrations : List Integration) → HaveFewIntegrations config → integrations ≡ integrations_named (route_of config name).receiver config.receivers → length integrations ≤ MAX_INTEGRATIONS
few-of config name integrations few are =
    subst (λ (l : List Integration). length l ≤ MAX_INTEGRATIONS) (sym are) (few-named (route_of config name).receiver config.receivers (recursion_from_All _ config.receivers few))
