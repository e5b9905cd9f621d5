use Rattle.std.proofs.Common.{◌≡◌, true, not, ◌&&◌, nat_le, sym, ap, ◌∙◌, rules}
use Rattle.am_model.specs.State.{is_flushing}
use Rattle.am_board.proofs.groups.first.may_begin.Goals as goal

pub returns-then-group-t : goal.returns-then-group-t
returns-then-group-t c fs returned =
    let due : nat_le c.args.group.now.due c.args.t ≡ true = search rules in
    ap not returned ∙ sym (ap (λ b. b && not (is_flushing fs c.args.group.now.name)) due)
