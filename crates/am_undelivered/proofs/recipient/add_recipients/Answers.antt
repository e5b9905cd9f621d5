use Rattle.std.proofs.Common.{◌∙◌, ℕ, ◌+◌, List, ap, sym, drop, get_or, arith}
use Rattle.std.specs.List.{flat_map}
use Rattle.std.proofs.lemmas.List.{at_drop_more}
use Rattle.am_alerts.specs.RoutingTree.{route_at}
use Rattle.am_undelivered.proofs.Recipients.{with_both}
use Rattle.am_undelivered.specs.declared.recipient.Recipient.{Recipient}
use Rattle.am_undelivered.specs.Spans.{recipients_named, with_recipients}
use Rattle.am_undelivered.proofs.recipient.add_recipients.Goals as goal

pub loop-position-preserved : goal.loop-position-preserved
loop-position-preserved c =
    let config = c.args.config.now in
    let ps = c.deref-position-items.result.now in
    let i = c.loop-position.position-index in
    let named : ℕ → List Recipient = λ p. recipients_named config (route_at config.routes p).receiver in
    let rest = flat_map named (drop (i + 1) ps) in
    ap (λ (l : List Recipient). with_recipients l rest) c.in_ok-add_of_route.ensures
    ∙ with_both c.loop-position.all.items (named (get_or ps i 0)) rest
    ∙ sym (ap (λ (l : List Recipient). with_recipients c.loop-position.all.items l) (at_drop_more (flat_map named) ps i 0 (omega arith)))
    ∙ c.loop-position.invariant
