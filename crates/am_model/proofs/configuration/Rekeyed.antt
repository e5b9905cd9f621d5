-- The rows that are found again: each has an integration of the new configuration under a route of the same receiver and key, each can be
-- loaded where the row might, and under the same configuration a row is found as it is.
use Rattle.std.proofs.Common.{◌≡◌, ℕ, ◌+◌, ◌<◌, ◌≤◌, true, ◌&&◌, nat_le, nat_lt, Option, Some, None, List, [], length, map, refl, sym, ap, ◌∙◌, subst, arith}
use Rattle.std.specs.List.{AllByRecursion, Contains}
use Rattle.std.proofs.lemmas.Bool.{and_from, and_parts, le-leb, leb-true, lt-ltb, ltb-true}
use Rattle.std.proofs.lemmas.List.{get_or_default}
use Rattle.std.proofs.lemmas.Slice.Eq.{bytes_eq-Decides}
use Rattle.am_alerts.specs.Labels.{label_set_cmp}
use Rattle.am_alerts.specs.RoutingTree.{route_at, last_of}
use Rattle.am_nflog.specs.Members.{is_ascending}
use Rattle.am_model.specs.declared.config.Integration.{Integration}
use Rattle.am_model.specs.declared.views.RowView.{RowView}
use Rattle.am_model.specs.Carry.{moved_to, moved, rows_at}
use Rattle.am_model.specs.Configured.{route_of, integrations_named}
use Rattle.am_model.specs.Load.{has_integration, is_ordered, may_load}
use Rattle.am_model.specs.Rekey.{Reload, has_receiver_at, same_routes, rekeyed, IsFoundAgain, RekeyedRowsFit, RekeyedRowsMayBeLoaded, RestartsFindRows}
use Rattle.am_model.specs.RouteKeys.{root_key, keys_of, key_at, positions_with}
use Rattle.am_model.proofs.configuration.Carried.{moved-within, own-index}
use Rattle.am_model.proofs.configuration.RouteKeys.{contains-filter, contains-map, contains-position, each-position, length_keys}
use Rattle.am_model.proofs.lists.Distinct.{all_from, all_to, all-kept, all-map, all-weaker}

module _ (reload : Reload) (row : RowView) where
  abbrev its_receiver : List ℕ
  its_receiver = (route_of reload.old row.group).receiver

  abbrev its_key : List ℕ
  its_key = key_at reload.old.routes row.group.route

  -- a route of the new configuration has the key of the row's route
  record HasKey (p : ℕ) : Type 0 where
    pub there : p ≤ last_of reload.new.routes
    pub key : key_at reload.new.routes p ≡ its_key

  -- and the row's receiver
  record IsSame (p : ℕ) : Type 0 where
    pub there : p ≤ last_of reload.new.routes
    pub key : key_at reload.new.routes p ≡ its_key
    pub receiver : (route_at reload.new.routes p).receiver ≡ its_receiver

  each-has-key : AllByRecursion HasKey (positions_with reload.new.routes its_key)
  each-has-key =
      let keys = keys_of reload.new.routes in
      each-position HasKey 0 its_key keys (λ i within is.
      let at : 0 + i ≡ i = omega arith in
      subst HasKey (sym at) (record {
        there = omega (arith, within, length_keys reload.new.routes);
        key = get_or_default keys i root_key [] within ∙ is;
      }))

  each-is-same : AllByRecursion IsSame (same_routes reload.new its_receiver its_key)
  each-is-same =
      all-kept HasKey IsSame (has_receiver_at reload.new its_receiver)
      (λ p has is. record { there = has.there; key = has.key; receiver = (bytes_eq-Decides (route_at reload.new.routes p).receiver its_receiver).0 is })
      (positions_with reload.new.routes its_key) each-has-key

  abbrev olds : List Integration
  olds = integrations_named its_receiver reload.old.receivers

  abbrev news : List Integration
  news = integrations_named its_receiver reload.new.receivers

  found-there : (q p : ℕ) → moved_to olds row.integration news ≡ Some q → IsSame p → IsFoundAgain reload row (moved row q p)
  found-there q p is same =
      let within : q < length news = moved-within olds news row.integration q is in
      record {
        there =
            ap (λ b. b && nat_lt q (length (integrations_named (route_at reload.new.routes p).receiver reload.new.receivers))) (le-leb p (last_of reload.new.routes) same.there)
            ∙ ap (λ r. nat_lt q (length (integrations_named r reload.new.receivers))) same.receiver
            ∙ lt-ltb q (length (integrations_named its_receiver reload.new.receivers)) within;
        receiver = same.receiver;
        integration = is;
        key = same.key;
        labels = refl;
        time = refl;
        expiry = refl;
        firing = refl;
        resolved = refl;
      }

  fit-at : (o : Option ℕ) → moved_to olds row.integration news ≡ o → AllByRecursion (IsFoundAgain reload row) (rows_at row o (same_routes reload.new its_receiver its_key))
  fit-at None e = tt
  fit-at (Some q) e =
      all-map (moved row q) (IsFoundAgain reload row) (same_routes reload.new its_receiver its_key)
      (all-weaker IsSame (λ p. IsFoundAgain reload row (moved row q p)) (λ p same. found-there q p e same) (same_routes reload.new its_receiver its_key) each-is-same)

pub rekeyed_rows_fit : RekeyedRowsFit
rekeyed_rows_fit reload row =
    all_from (IsFoundAgain reload row) (rekeyed reload row) (fit-at reload row (moved_to (olds reload row) row.integration (news reload row)) refl)

found-loads : (reload : Reload) (t : ℕ) (row found : RowView) → may_load reload.old t row ≡ true → IsFoundAgain reload row found → may_load reload.new t found ≡ true
found-loads reload t row found may is =
    let parts = and_parts (has_integration reload.old row && is_ordered row) (nat_le row.time t) may in
    let ordered = (and_parts (has_integration reload.old row) (is_ordered row) parts.0).1 in
    and_from (has_integration reload.new found && is_ordered found) (nat_le found.time t)
    (and_from (has_integration reload.new found) (is_ordered found) is.there ((λ i. is_ascending label_set_cmp (is.firing i) && is_ascending label_set_cmp (is.resolved i)) ∙ ordered))
    (ap (λ m. nat_le m t) is.time ∙ parts.1)

pub rekeyed_rows_may_be_loaded : RekeyedRowsMayBeLoaded
rekeyed_rows_may_be_loaded reload t row may =
    all_from (λ found. may_load reload.new t found ≡ true) (rekeyed reload row)
    (all-weaker (IsFoundAgain reload row) (λ found. may_load reload.new t found ≡ true) (λ found is. found-loads reload t row found may is) (rekeyed reload row)
    (all_to (IsFoundAgain reload row) (rekeyed reload row) (rekeyed_rows_fit reload row)))

-- ---- a restart

pub restarts_find_rows : RestartsFindRows
restarts_find_rows config row there =
    let receiver = (route_of config row.group).receiver in
    let integrations = integrations_named receiver config.receivers in
    let keys = keys_of config.routes in
    let key = key_at config.routes row.group.route in
    let parts = and_parts (nat_le row.group.route (last_of config.routes)) (nat_lt row.integration (length integrations)) there in
    let within : row.group.route < length keys = omega (arith, leb-true row.group.route (last_of config.routes) parts.0, length_keys config.routes) in
    let holds : Contains (positions_with config.routes key) (0 + row.group.route) =
    contains-position 0 key keys row.group.route within (get_or_default keys row.group.route key root_key within) in
    let at : 0 + row.group.route ≡ row.group.route = omega arith in
    let among : Contains (positions_with config.routes key) row.group.route = subst (Contains (positions_with config.routes key)) at holds in
    let same : Contains (same_routes config receiver key) row.group.route =
    contains-filter (has_receiver_at config receiver) row.group.route ((bytes_eq-Decides receiver receiver).1 refl) (positions_with config.routes key) among.0 among.1 among.2 in
    let routes = same_routes config receiver key in
    let whole : Contains (map (moved row row.integration) routes) row = contains-map (moved row row.integration) routes row.group.route same in
    let own : moved_to integrations row.integration integrations ≡ Some row.integration =
    own-index integrations row.integration (ltb-true row.integration (length integrations) parts.1) in
    subst (λ o. Contains (rows_at row o routes) row) (sym own) whole
