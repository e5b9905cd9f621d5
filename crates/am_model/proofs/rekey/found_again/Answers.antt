use Rattle.std.proofs.Common.{◌≡◌, ◌∙◌, ◌≤◌, ℕ, List, Some, arith, ap, filter, length, slice_index_or, subst, sym}
use Rattle.std.specs.Prelude.{All, IfOk}
use Rattle.am_alerts.specs.RoutingTree.{last_of}
use Rattle.am_model.specs.Carry.{moved_to, rows_at}
use Rattle.am_model.specs.Configured.{route_of, integrations_named}
use Rattle.am_model.specs.Rekey.{Reload, has_receiver_at, rekeyed, same_routes}
use Rattle.am_model.specs.RouteKeys.{key_at, positions_with, root_key}
use Rattle.am_model.specs.declared.views.RowView.{RowView}
use Rattle.am_model.proofs.configuration.Faultless.{few_integrations}
use Rattle.am_model.proofs.configuration.FewNotified.{few_named}
use Rattle.am_model.proofs.configuration.RouteKeys.{positions-exist}
use Rattle.am_model.proofs.rekey.found_again.Goals as goal

pub moved_to-requires : goal.moved_to-requires
moved_to-requires c =
    let few = few_named c.args.new.now c.as_str-receiver.result.now (few_integrations c.args.new.now c.requires.faultless) in
    omega (arith, ap length c.integrations_named-news.ensures, few)

pub routes_of_receiver-requires : goal.routes_of_receiver-requires
routes_of_receiver-requires c =
    let routes = c.args.new.now.routes in
    let key = c.key_at-key.result.now in
    subst (All (λ p. p ≤ last_of routes)) (sym (c.positions_at-positions.ensures ∙ c.requires.indexes key)) (positions-exist routes key)

pub returns-in_ok-routes-in-Some : goal.returns-in_ok-routes-in-Some
returns-in_ok-routes-in-Some c =
    let old = c.args.old.now in
    let new = c.args.new.now in
    let row = c.args.row.now in
    let reload : Reload = record { old = old; new = new } in
    let receiver : List ℕ = (route_of old row.group).receiver in
    let own : c.as_str-receiver.result.now ≡ receiver = c.as_str-receiver.ensures ∙ ap (λ r. r.receiver) c.route_of.ensures in
    let news : c.integrations_named-news.result.now ≡ integrations_named receiver new.receivers =
    c.integrations_named-news.ensures ∙ ap (λ (name : List ℕ). integrations_named name new.receivers) own in
    let found : Some c.in-Some.integration ≡ moved_to (integrations_named receiver old.receivers) row.integration (integrations_named receiver new.receivers) =
    sym c.in-Some.is ∙ c.moved_to.ensures ∙ (λ i. moved_to (c.integrations_of-olds.ensures i) row.integration (news i)) in
    let key : c.key_at-key.result.now ≡ key_at old.routes row.group.route =
    c.key_at-key.ensures ∙ ap (λ (ks : List (List ℕ)). slice_index_or ks row.group.route (slice_index_or ks 0 root_key)) c.requires.keys in
    let positions : c.positions_at-positions.result.now ≡ positions_with new.routes (key_at old.routes row.group.route) =
    c.positions_at-positions.ensures ∙ c.requires.indexes c.key_at-key.result.now ∙ ap (positions_with new.routes) key in
    let routes : c.as_slice.result.now ≡ same_routes new receiver (key_at old.routes row.group.route) =
    c.as_slice.ensures.value ∙ c.in_ok-routes-in-Some.ensures ∙ (λ i. filter (has_receiver_at new (own i)) (positions i)) in
    let all : rows_at row (Some c.in-Some.integration) c.as_slice.result.now ≡ rekeyed reload row = λ i. rows_at row (found i) (routes i) in
    subst (λ (rows : List RowView). IfOk c.rows_at.result (λ v. v.items ≡ rows)) all c.rows_at.ensures
