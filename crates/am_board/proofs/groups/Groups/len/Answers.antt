use Rattle.std.proofs.Common.{◌∙◌, length, ap, sym}
use Rattle.am_board.specs.GroupList.{GroupList}
use Rattle.am_board.proofs.lemmas.invariant.Keyed.{length-values}
use Rattle.am_board.proofs.groups.Groups.len.Goals as goal

pub returns-clause-len : goal.returns-clause-len
returns-clause-len c =
    c.len.ensures.len ∙ sym (length-values c.self.inside.groups.entries) ∙ ap (λ (k : GroupList). length k.items) c.self.view_is
