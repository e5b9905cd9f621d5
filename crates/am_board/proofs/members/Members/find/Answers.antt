use Rattle.std.proofs.Common.{ap, ◌∙◌}
use Rattle.am_alerts.specs.Labels.{same_label_set}
use Rattle.am_board.specs.Members.{MemberList, labels_of, index_of}
use Rattle.am_board.proofs.lemmas.invariant.Keyed.{index_of-keys}
use Rattle.am_board.proofs.members.Members.find.Goals as goal

pub returns-clause-index : goal.returns-clause-index
returns-clause-index c =
    c.get_index_of.ensures.index
    ∙ index_of-keys same_label_set labels_of c.args.labels.now c.self.inside.members.entries c.self.invariant.members.keyed
    ∙ ap (λ (k : MemberList). index_of c.args.labels.now k.items) c.self.view_is
