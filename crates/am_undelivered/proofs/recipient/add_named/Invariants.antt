use Rattle.std.proofs.Common.{◌≡◌, drop}
use Rattle.am_undelivered.specs.Spans.{recipients_from, recipients_named, with_recipients}
use Rattle.am_undelivered.proofs.recipient.add_named.Given as goal

-- with those from this position on there are all
abbrev pub invariant-loop-position : goal.invariant-loop-position
invariant-loop-position l =
    with_recipients l.all.items (recipients_from l.receiver l.integrations l.position (drop l.position l.integrations))
    ≡ with_recipients l.fn.all.items (recipients_named l.config l.receiver)
