use Rattle.std.proofs.Common.{rules, ◌≡◌, ◌∙◌, true, false, ◌&&◌, sym, ap}
use Rattle.std.specs.Prelude.{◌==◌}
use Rattle.std.specs.List.{list_any}
use Rattle.am_alerts.specs.Labels.{same_label_set}
use Rattle.am_alerts.specs.RoutingTree.{routes_of}
use Rattle.am_model.proofs.configuration.Led.{has_labels, leads-is}
use Rattle.am_model.proofs.rekey.leads.Goals as goal

pub returns-then-not-is_routed : goal.returns-then-not-is_routed
returns-then-not-is_routed c =
    let config = c.args.config.now in
    let name = c.args.group.now in
    let labels = c.args.labels.now in
    let there : c.contains-is_routed.result ≡ list_any (λ q. q == name.route) (routes_of config.routes labels) =
    c.contains-is_routed.ensures.value ∙ ap (list_any (λ q. q == name.route)) (c.as_slice.ensures.value ∙ c.in_ok-found.ensures.value) in
    let none : c.contains-is_routed.result ≡ false = search rules in
    sym (leads-is config name labels ∙ ap (λ b. b && has_labels config name labels) (sym there ∙ none))

pub returns : goal.returns
returns c =
    let config = c.args.config.now in
    let name = c.args.group.now in
    let labels = c.args.labels.now in
    let there : c.contains-is_routed.result ≡ list_any (λ q. q == name.route) (routes_of config.routes labels) =
    c.contains-is_routed.ensures.value ∙ ap (list_any (λ q. q == name.route)) (c.as_slice.ensures.value ∙ c.in_ok-found.ensures.value) in
    let some : c.contains-is_routed.result ≡ true = search rules in
    let own : c.eq-same.result ≡ has_labels config name labels = c.eq-same.ensures ∙ ap (same_label_set name.labels) c.in_ok-own.ensures in
    own ∙ sym (leads-is config name labels ∙ ap (λ b. b && has_labels config name labels) (sym there ∙ some))
