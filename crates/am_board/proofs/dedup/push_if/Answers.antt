use Rattle.std.proofs.Common.{◌++◌, ◌∷◌, [], Bool, sym, ap, ◌∙◌, if◌then◌else◌}
use Rattle.std.proofs.lemmas.List.{append-nil}
use Rattle.am_board.proofs.dedup.push_if.Goals as goal

pub returns-then-not-is_wanted : goal.returns-then-not-is_wanted
returns-then-not-is_wanted g c =
    sym (ap (λ (b : Bool). c.args.list.now.items ++ (if b then c.args.item ∷ [] else [])) c.if-not-is_wanted.true ∙ append-nil c.args.list.now.items)

pub returns : goal.returns
returns g c = c.in_ok-push.ensures.items ∙ ap (λ (b : Bool). c.args.list.now.items ++ (if b then c.args.item ∷ [] else [])) (sym c.if-not-is_wanted.false)
