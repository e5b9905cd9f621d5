use Rattle.std.proofs.Common.{◌≡◌, ℕ, List, length, Some, sym, ap, ◌∙◌, subst, arith}
use Rattle.std.specs.Prelude.{IfOk}
use Rattle.am_model.specs.Carry.{moved_to, successors, own_or_all, rows_at, carried}
use Rattle.am_model.specs.Configured.{route_of, integrations_named}
use Rattle.am_model.specs.declared.views.RowView.{RowView}
use Rattle.am_model.proofs.configuration.Faultless.{few_integrations}
use Rattle.am_model.proofs.configuration.FewNotified.{few_named}
use Rattle.am_model.proofs.carry.carried.Goals as goal

pub moved_to-requires : goal.moved_to-requires
moved_to-requires c =
    let few = few_named c.args.new.now c.as_str-receiver.result.now (few_integrations c.args.new.now c.requires.faultless) in
    omega (arith, ap length c.integrations_named-news.ensures, few)

pub returns-in_ok-routes-in-Some : goal.returns-in_ok-routes-in-Some
returns-in_ok-routes-in-Some c =
    let old = c.args.old.now in
    let new = c.args.new.now in
    let row = c.args.row.now in
    let receiver : List ℕ = (route_of old row.group).receiver in
    let own : c.as_str-receiver.result.now ≡ receiver = c.as_str-receiver.ensures ∙ ap (λ r. r.receiver) c.route_of.ensures in
    let news : c.integrations_named-news.result.now ≡ integrations_named receiver new.receivers =
    c.integrations_named-news.ensures ∙ ap (λ (name : List ℕ). integrations_named name new.receivers) own in
    let found : Some c.in-Some.integration ≡ moved_to (integrations_named receiver old.receivers) row.integration (integrations_named receiver new.receivers) =
    sym c.in-Some.is ∙ c.moved_to.ensures ∙ (λ i. moved_to (c.integrations_of-olds.ensures i) row.integration (news i)) in
    let routes : c.as_slice.result.now ≡ own_or_all row.group.route (successors new receiver row) =
    c.as_slice.ensures.value ∙ c.in_ok-routes-in-Some.ensures ∙ ap (λ (name : List ℕ). own_or_all row.group.route (successors new name row)) own in
    let all : rows_at row (Some c.in-Some.integration) c.as_slice.result.now ≡ carried old new row = λ i. rows_at row (found i) (routes i) in
    subst (λ (rows : List RowView). IfOk c.rows_at.result (λ v. v.items ≡ rows)) all c.rows_at.ensures
