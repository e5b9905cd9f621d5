use Rattle.std.proofs.Common.{◌≡◌, ◌∙◌, ◌&&◌, Bool, true, false, ap, sym}
use Rattle.am_timeline.specs.Filtered.{is_named}
use Rattle.am_timeline.proofs.filtered.is_of_route.Goals as goal

pub returns-then-is_to_receiver : goal.returns-then-is_to_receiver
returns-then-is_to_receiver c =
    let wanted = c.args.wanted.now in
    let route = c.args.route.now in
    let here : is_named wanted.receiver route.receiver ≡ true = sym c.is_to_receiver.ensures ∙ c.if-is_to_receiver.true in
    c.is_on_route.ensures ∙ sym (ap (λ (b : Bool). b && is_named wanted.route route.name) here)

pub returns-else-is_to_receiver : goal.returns-else-is_to_receiver
returns-else-is_to_receiver c =
    let wanted = c.args.wanted.now in
    let route = c.args.route.now in
    let here : is_named wanted.receiver route.receiver ≡ false = sym c.is_to_receiver.ensures ∙ c.if-is_to_receiver.false in
    c.if-is_to_receiver.false ∙ sym (ap (λ (b : Bool). b && is_named wanted.route route.name) here)
