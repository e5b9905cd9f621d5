use Rattle.std.proofs.Common.{ltb, ap, ◌∙◌}
use Rattle.am_board.specs.GroupList.{GroupList}
use Rattle.am_board.proofs.lemmas.maintain.Empties.{any_empty, any_of}
use Rattle.std.specs.Map.{values_of}
use Rattle.am_board.proofs.groups.Groups.has_empty.Goals as goal

pub returns : goal.returns
returns c =
    ap (ltb 0) c.self.invariant.1 ∙ any_empty (values_of c.self.inside.groups.entries) ∙ ap (λ (k : GroupList). any_of k.items) c.self.view_is
