use Rattle.std.proofs.Common.{◌≡◌, drop}
use Rattle.std.specs.List.{flat_map}
use Rattle.am_alerts.specs.RoutingTree.{route_at}
use Rattle.am_undelivered.specs.Spans.{recipients_named, recipients_of, with_recipients}
use Rattle.am_undelivered.proofs.recipient.add_recipients.Given as goal

-- with those of the other routes there are all
abbrev pub invariant-loop-position : goal.invariant-loop-position
invariant-loop-position l =
    with_recipients l.all.items
    (flat_map (λ p. recipients_named l.config (route_at l.config.routes p).receiver) (drop l.position-index l.position-items))
    ≡ with_recipients l.fn.all.items (recipients_of l.config l.labels)
