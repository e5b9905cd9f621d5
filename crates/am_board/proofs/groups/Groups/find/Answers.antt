use Rattle.std.proofs.Common.{ap, ◌∙◌}
use Rattle.std.specs.List.{position}
use Rattle.am_board.specs.GroupList.{GroupList, name_of}
use Rattle.am_model.specs.State.{same_name}
use Rattle.am_board.specs.declared.group.Group.{Group}
use Rattle.am_board.proofs.lemmas.invariant.Keyed.{index_of-keys}
use Rattle.am_board.proofs.groups.Groups.find.Goals as goal

pub returns-clause-index : goal.returns-clause-index
returns-clause-index c =
    c.get_index_of.ensures.index
    ∙ index_of-keys same_name name_of c.args.name.now c.self.inside.groups.entries c.self.invariant.0.keyed
    ∙ ap (λ (k : GroupList). position (λ (g : Group). same_name c.args.name.now g.name) k.items) c.self.view_is
